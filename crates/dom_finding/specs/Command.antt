-- The words of the command line.
use Rattle.std.specs.Prelude.{ℕ, List, [], ◌∷◌, Option, None, Some, option_and_then, option_map, Bool, ◌&&◌, ◌==◌, decimal, nat_le, not, length, map, codes, if◌then◌else◌, String, string_bytes}
use Rattle.std.specs.declared.alloc.Global.{Global}
use Rattle.dom_words.specs.Names.{is_same}
use Rattle.dom_words.specs.Number.{count_of}
use Rattle.banzai_config.specs.declared.target.Target.{Target}
use Rattle.banzai_config.specs.Targets.{target_named}

-- the names of the files of a command over a program
pub record FileNames : Type 0 where
  pub program : List ℕ
  pub trace : List ℕ

-- the names of the files of a command over a configuration
pub record ConfigNames : Type 0 where
  pub config : List ℕ
  pub trace : List ℕ

-- how packets are ranked and served: the name of the field with the rank, how many packets a queue holds, and in which of so
-- many cycles it serves one, which is the last of them
pub record Ranking : Type 0 where
  pub field : List ℕ
  pub room : ℕ
  pub every : ℕ

-- what is asked for
pub data Command : Type 0 where
  -- the program clocked on a target
  run : Target → FileNames → Command
  -- the program run serially
  serial : FileNames → Command
  -- the configuration of the program in this file for a target
  compile : Target → List ℕ → Command
  -- the codelets of the program in this file for a target
  codelets : Target → List ℕ → Command
  -- its configuration by the plan in another file
  planned : Target → List ℕ → List ℕ → Command
  -- a configuration clocked
  exec : ConfigNames → Command
  -- and every cycle of it told
  watch : ConfigNames → Command
  -- a configuration clocked under taps before this stage
  probe : ConfigNames → ℕ → Command
  -- a configuration with queues, over the events in the file of this name
  elastic : ConfigNames → List ℕ → Command
  -- a configuration clocked, with a queue behind it that serves the least rank first
  schedule : ConfigNames → Ranking → Command
  -- the configuration in this file with shared containers
  upgrade : List ℕ → Command
  -- a program of the command's own clocked on a target, over packets that are drawn: from this seed, so many of them
  selfrun : Target → ℕ → ℕ → Command

-- the texts of words
abbrev pub texts_of : List (String Global) → List (List ℕ)
texts_of words = map string_bytes words

-- a file's name is not empty
abbrev pub is_file : List ℕ → Bool
is_file name = not (length name == 0)

abbrev pub files_named : List ℕ → List ℕ → FileNames
files_named program trace = record { program = program; trace = trace }

abbrev pub configs_named : List ℕ → List ℕ → ConfigNames
configs_named config trace = record { config = config; trace = trace }

-- a number from low to high, if its decimal is this text: without a sign and leading zeros
abbrev pub if_plain : ℕ → ℕ → List ℕ → ℕ → Option ℕ
if_plain low high text n = if is_same (decimal n) text && (nat_le low n && nat_le n high) then Some n else None

abbrev pub number_in : ℕ → ℕ → List ℕ → Option ℕ
number_in low high text = option_and_then (if_plain low high text) (count_of text)

-- The words behind the command's own.

-- `TARGET PROGRAM TRACE`, where TARGET is the name of a target
abbrev pub run_of : List (List ℕ) → Option Command
run_of (name ∷ program ∷ trace ∷ []) =
    if is_file program && is_file trace then option_map (λ target. run target (files_named program trace)) (target_named name) else None
run_of _ = None

-- `PROGRAM TRACE`
abbrev pub serial_of : List (List ℕ) → Option Command
serial_of (program ∷ trace ∷ []) = if is_file program && is_file trace then Some (serial (files_named program trace)) else None
serial_of _ = None

-- `TARGET PROGRAM`, where TARGET is the name of a target
abbrev pub compile_of : List (List ℕ) → Option Command
compile_of (name ∷ program ∷ []) = if is_file program then option_map (λ target. compile target program) (target_named name) else None
compile_of _ = None

abbrev pub codelets_of : List (List ℕ) → Option Command
codelets_of (name ∷ program ∷ []) = if is_file program then option_map (λ target. codelets target program) (target_named name) else None
codelets_of _ = None

-- `TARGET PROGRAM PLAN`, where TARGET is the name of a target
abbrev pub planned_of : List (List ℕ) → Option Command
planned_of (name ∷ program ∷ plan ∷ []) =
    if is_file program && is_file plan then option_map (λ target. planned target program plan) (target_named name) else None
planned_of _ = None

-- `CONFIG TRACE`
abbrev pub exec_of : List (List ℕ) → Option Command
exec_of (config ∷ trace ∷ []) = if is_file config && is_file trace then Some (exec (configs_named config trace)) else None
exec_of _ = None

abbrev pub watch_of : List (List ℕ) → Option Command
watch_of (config ∷ trace ∷ []) = if is_file config && is_file trace then Some (watch (configs_named config trace)) else None
watch_of _ = None

-- `CONFIG TRACE STAGE`, where STAGE is a number from 1 to 32
abbrev pub probe_of : List (List ℕ) → Option Command
probe_of (config ∷ trace ∷ stage ∷ []) =
    if is_file config && is_file trace then option_map (λ n. probe (configs_named config trace) n) (number_in 1 32 stage) else None
probe_of _ = None

-- `CONFIG TRACE EVENTS`
abbrev pub elastic_of : List (List ℕ) → Option Command
elastic_of (config ∷ trace ∷ events ∷ []) =
    if is_file config && (is_file trace && is_file events) then Some (elastic (configs_named config trace) events) else None
elastic_of _ = None

abbrev pub ranking_of : List ℕ → ℕ → ℕ → Ranking
ranking_of field room every = record { field = field; room = room; every = every }

-- `CONFIG TRACE FIELD ROOM EVERY`, where FIELD is not empty, ROOM a number from 1 to 65536, and EVERY one from 1 to 16
abbrev pub schedule_of : List (List ℕ) → Option Command
schedule_of (config ∷ trace ∷ field ∷ room ∷ every ∷ []) =
    if is_file config && (is_file trace && is_file field)
    then option_and_then (λ n. option_map (λ k. schedule (configs_named config trace) (ranking_of field n k)) (number_in 1 16 every)) (number_in 1 65536 room)
    else None
schedule_of _ = None

-- `CONFIG`
abbrev pub upgrade_of : List (List ℕ) → Option Command
upgrade_of (config ∷ []) = if is_file config then Some (upgrade config) else None
upgrade_of _ = None

-- `TARGET SEED COUNT`, where TARGET is the name of a target, SEED a number up to 4294967295, and COUNT one up to 400000
abbrev pub selfrun_of : List (List ℕ) → Option Command
selfrun_of (name ∷ seed ∷ count ∷ []) =
    option_and_then
    (λ target. option_and_then (λ s. option_map (λ n. selfrun target s n) (number_in 0 400000 count)) (number_in 0 4294967295 seed))
    (target_named name)
selfrun_of _ = None

-- the command that words spell
abbrev pub command_of : List (List ℕ) → Option Command
command_of [] = None
command_of (command ∷ words) =
    if is_same command (codes "run") then run_of words
    else (if is_same command (codes "serial") then serial_of words
    else (if is_same command (codes "compile") then compile_of words
    else (if is_same command (codes "codelets") then codelets_of words
    else (if is_same command (codes "planned") then planned_of words
    else (if is_same command (codes "exec") then exec_of words
    else (if is_same command (codes "watch") then watch_of words
    else (if is_same command (codes "probe") then probe_of words
    else (if is_same command (codes "elastic") then elastic_of words
    else (if is_same command (codes "schedule") then schedule_of words
    else (if is_same command (codes "upgrade") then upgrade_of words
    else (if is_same command (codes "selfrun") then selfrun_of words
    else None)))))))))))

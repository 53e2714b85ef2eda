-- The report of `watch`: for each cycle its number, the packet that leaves in it, the registers that are filled after it and
-- the touches in it; behind the last cycle the end.
use Rattle.std.specs.Prelude.{◌≡◌, ℕ, ◌+◌, ◌≤◌, Some, None, List, [], ◌∷◌, ◌++◌, length, map, slice_index_or, take}
use Rattle.std.specs.List.{flat_map}
use Rattle.dom_words.specs.State.{Hash}
use Rattle.trace_text.specs.Lines.{Legend, clock_line, done_line, joined, name_at, out_line, reg_line, touch_line}
use Rattle.banzai_config.specs.Action.{Entry}
use Rattle.banzai_config.specs.Parts.{PartsForm}
use Rattle.banzai_machine.specs.declared.touch.Touch.{Touch}
use Rattle.banzai_machine.specs.Alone.{packets_of}
use Rattle.banzai_machine.specs.Pipe.{drain, emitted, pipe}
use Rattle.banzai_machine.specs.State.{MachineForm}
use Rattle.dom_report.specs.Clocking.{Cycle, cycles_from}
use Rattle.dom_report.specs.RunReport.{array_names}

-- the line of what leaves: none where no packet leaves
abbrev pub out_lines : Entry → List (List ℕ)
out_lines None = []
out_lines (Some words) = out_line words ∷ []

-- the line of register k: none where it is empty
abbrev pub filled_lines : ℕ → Entry → List (List ℕ)
filled_lines k None = []
filled_lines k (Some words) = reg_line k words ∷ []

-- of registers, the first of which is register k
abbrev pub register_lines : ℕ → List Entry → List (List ℕ)
register_lines k [] = []
register_lines k (register ∷ registers) = filled_lines k register ++ register_lines (k + 1) registers

-- the lines of touches of the arrays with these names
abbrev pub touch_lines : List (List ℕ) → List Touch → List (List ℕ)
touch_lines names touches = map (λ touch. touch_line touch.stage (name_at names touch.array) touch.index) touches

-- the lines of a cycle
abbrev pub moment_lines : Cycle → List (List ℕ)
moment_lines cycle =
    let m = cycle.machine in
    clock_line cycle.number
    ∷ (out_lines cycle.left ++ (register_lines 0 m.row.registers ++ touch_lines (array_names m.config) m.touches))

-- the lines have the names of a configuration's arrays, and room for its fields and for its containers
pub record IsFor (lines : Legend) (p : PartsForm) : Type 0 where
  pub fields : length p.fields ≤ lines.words
  pub containers : p.containers ≤ lines.words
  pub arrays : lines.arrays ≡ array_names p

-- a configuration's machine at its beginning
abbrev pub at_beginning : Hash → PartsForm → MachineForm
at_beginning hash p = record { config = p; row = pipe hash p []; touches = [] }

-- what a cycle tells of a configuration that is clocked over these entries: it is cycle k, which the machine has done for the
-- entries up to and with its own, and what left in it is what the pipeline emits in this cycle
pub record IsCycleOf (hash : Hash) (p : PartsForm) (entries : List Entry) (k : ℕ) (cycle : Cycle) : Type 0 where
  pub number_is : cycle.number ≡ k
  pub config_is : cycle.machine.config ≡ p
  pub row_is : cycle.machine.row ≡ pipe hash p (take (k + 1) entries)
  pub left_is : cycle.left ≡ slice_index_or (emitted hash p entries) k None

-- the report of a configuration that is watched over these entries and the drain
abbrev pub watch_report : Hash → PartsForm → List Entry → List ℕ
watch_report hash p entries =
    let all = entries ++ drain p in
    flat_map (λ cycle. joined (moment_lines cycle)) (cycles_from hash (at_beginning hash p) 0 all)
    ++ done_line (length (packets_of entries)) (Some (length all))

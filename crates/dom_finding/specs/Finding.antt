-- What a command finds in its files, one after another. `Holds` says which bytes the files hold.
use Rattle.std.specs.Prelude.{◌≡◌, ℕ, ◌<◌, ◌≤◌, Option, Some, None, IfSome, unwrap_or, List, [], ◌∷◌, if◌then◌else◌, length, nat_le, Result, Ok, Err}
use Rattle.dom_io.specs.Causes.{Rose}
use Rattle.trace_text.specs.Events.{IsEventsOf}
use Rattle.trace_text.specs.Trace.{IsTraceOf}
use Rattle.trace_text.specs.declared.events.Event.{Event}
use Rattle.dom_words.specs.Names.{has_name, index_of}
use Rattle.dom_ast.specs.Resolved.{CheckedForm}
use Rattle.dom_compile.specs.Programs.{most_program}
use Rattle.banzai_config.specs.Parts.{PartsForm}
use Rattle.banzai_config.specs.Targets.{shape_of}
use Rattle.banzai_config.specs.declared.target.Target.{Target}
use Rattle.config_text.specs.Fronts.{text_of}
use Rattle.container_plan.specs.Shared.{shared_by}
use Rattle.codelets.specs.declared.answer.Codelets.{Codelets}
use Rattle.codelets.specs.declared.codelet.Codelet.{Codelet}
use Rattle.atom_match.specs.Atoms.{AtomForm}
use Rattle.compile_law.specs.Compiled.{AreAtomsOf}
use Rattle.plan_check.specs.HandFaults.{hand_fault}
use Rattle.plan_check.specs.PlanText.{IsPlanAnswer}
use Rattle.plan_check.specs.Placed.{placed}
use Rattle.plan_check.specs.declared.fault.HandFault.{HandFault}
use Rattle.stage_plan.specs.declared.place.Place.{Place}
use Rattle.dom_compile.specs.Answer.{CompileRefusal, IsCompileAnswer, IsFitted, IsFrontAnswer}
use Rattle.dom_compile.specs.Verdict.{IsProgram}
use Rattle.dom_finding.specs.Command.{Command, ConfigNames, Ranking, codelets, compile, elastic, exec, planned, probe, run, schedule, selfrun, serial, watch, upgrade}
use Rattle.dom_finding.specs.Configs.{ConfigForm, IsConfig}
use Rattle.dom_finding.specs.Listing.{codelets_text}
use Rattle.dom_finding.specs.OwnProgram.{own_program}
use Rattle.dom_finding.specs.Refusals.{refused_compile, refused_config, refused_events, refused_hand, refused_plan, refused_program, refused_trace}
use Rattle.dom_finding.specs.declared.refusals.Refusal.{Refusal}
use Rattle.dom_finding.specs.declared.refusals.Refusal.TheVariants as refusal

-- packets, each with its gap
abbrev pub Packets : Type 0
Packets = List (ℕ × List ℕ)

-- what there is to do
pub data Job : Type 0 where
  -- clock a configuration over the packets
  clocked : PartsForm → Packets → Job
  -- and tell every cycle
  watched : PartsForm → Packets → Job
  -- clock a configuration over the packets under taps before this stage
  tapped : ℕ → PartsForm → Packets → Job
  -- clock a configuration over the packets, and serve them ranked
  ranked : Ranking → PartsForm → Packets → Job
  -- run a configuration with queues over the packets and these events
  queued : PartsForm → Packets → List Event → Job
  -- clock a configuration for a target over packets that are drawn: from this seed, so many of them
  drawn : Target → ℕ → ℕ → PartsForm → Job
  -- run this program on the packets in turn
  in_turn : CheckedForm → Packets → Job
  -- put this text
  written : List ℕ → Job

-- a command finds a job, or a refusal
abbrev pub Finding : Type 0
Finding = Result Job Refusal

-- The files that are wanted.

-- a file that is wanted: its name, the most bytes that it may have, and the refusal of a longer one
pub record Ask : Type 0 where
  pub name : List ℕ
  pub most : ℕ
  pub over : Refusal

-- the most bytes that a trace may have, and a configuration
abbrev pub most_trace : ℕ
most_trace = 16777216

abbrev pub most_config : ℕ
most_config = 1048576

-- and a text of events
abbrev pub most_events : ℕ
most_events = 16777216

abbrev pub program_file : List ℕ → Ask
program_file name = record { name = name; most = most_program; over = refusal.ProgramLimit }

abbrev pub trace_file : List ℕ → Ask
trace_file name = record { name = name; most = most_trace; over = refusal.TraceLimit }

abbrev pub config_file : List ℕ → Ask
config_file name = record { name = name; most = most_config; over = refusal.ConfigLimit }

-- and a plan
abbrev pub most_plan : ℕ
most_plan = 65536

abbrev pub plan_file : List ℕ → Ask
plan_file name = record { name = name; most = most_plan; over = refusal.PlanLimit }

abbrev pub events_file : List ℕ → Ask
events_file name = record { name = name; most = most_events; over = refusal.EventsLimit }

-- What comes next.

-- one more file, or what was found
pub data Next : Type 0 where
  ask : Ask → Next
  found : Finding → Next

-- where a text is an x, go x comes next, and where it has a fault, the refusal of that was found
abbrev pub after_answer : {X F : Type 0} → (F → Refusal) → (X → Next) → Result X F → Next
after_answer refuse go (Ok x) = go x
after_answer refuse go (Err fault) = found (Err (refuse fault))

-- the same where Is says what the text is
abbrev pub Gives : {X F : Type 0} → (Result X F → Type 0) → (F → Refusal) → (X → Next) → Next → Type 0
Gives {X} {F} Is refuse go next = (answer : Result X F) × Is answer × (next ≡ after_answer refuse go answer)

-- the text of a configuration with shared containers
abbrev pub upgraded_text : ConfigForm → List ℕ
upgraded_text c = text_of c.target (shared_by c.parts.version c.parts)

-- The steps of the commands that clock a configuration: its file, then what its parts give, which is the trace's file unless there is
-- something against it, and then the packets of the trace, of which there is this job.
abbrev pub IsNextOver : ConfigNames → (PartsForm → Next) → (PartsForm → Packets → Job) → List (List ℕ) → Next → Type 0
IsNextOver names go job [] next = next ≡ ask (config_file names.config)
IsNextOver names go job (config ∷ []) next = Gives (IsConfig config) refused_config (λ c. go c.parts) next
IsNextOver names go job (trace ∷ config ∷ []) next =
    (c : ConfigForm) × IsConfig config (Ok c) × Gives (IsTraceOf trace c.parts.fields (length c.parts.stages)) refused_trace (λ packets. found (Ok (job c.parts packets))) next
IsNextOver names go job (third ∷ trace ∷ config ∷ more) next = ⊥

-- the trace of a configuration that has this stage; one that has not is refused
abbrev pub trace_behind : ℕ → ConfigNames → PartsForm → Next
trace_behind stage names parts =
    if nat_le stage (length parts.stages) then ask (trace_file names.trace) else found (Err (refusal.Stage (length parts.stages)))

-- the trace of a configuration that has the field of the rank; one that has not is refused
abbrev pub trace_ranked : Ranking → ConfigNames → PartsForm → Next
trace_ranked ranking names parts = if has_name parts.fields ranking.field then ask (trace_file names.trace) else found (Err refusal.Rank)

-- The steps of `elastic`: its configuration, its trace, whose gaps have no limit by the depth, and its events.
abbrev pub IsNextInQueues : ConfigNames → List ℕ → List (List ℕ) → Next → Type 0
IsNextInQueues names events [] next = next ≡ ask (config_file names.config)
IsNextInQueues names events (config ∷ []) next = Gives (IsConfig config) refused_config (λ c. ask (trace_file names.trace)) next
IsNextInQueues names events (trace ∷ config ∷ []) next =
    (c : ConfigForm) × IsConfig config (Ok c) × Gives (IsTraceOf trace c.parts.fields 0) refused_trace (λ packets. ask (events_file events)) next
IsNextInQueues names events (lines ∷ trace ∷ config ∷ []) next =
    (c : ConfigForm) × IsConfig config (Ok c) × ((packets : Packets) × IsTraceOf trace c.parts.fields 0 (Ok packets)
    × Gives (IsEventsOf lines (length c.parts.stages)) refused_events (λ events. found (Ok (queued c.parts packets events))) next)
IsNextInQueues names events (fourth ∷ lines ∷ trace ∷ config ∷ more) next = ⊥

-- what a text is for a target before its codelets have stages: its codelets, or why it has none
abbrev pub IsFrontFor : Target → List ℕ → Result (List Codelet) CompileRefusal → Type 0
IsFrontFor target program answer = IsFrontAnswer (shape_of target).fits (shape_of target).multiplies program answer

-- what is found of a plan that has been read: its configuration, unless it has a fault
abbrev pub unless_faulty : Option HandFault → List ℕ → Next
unless_faulty None text = found (Ok (written text))
unless_faulty (Some fault) text = found (Err (refused_hand fault))

abbrev pub by_plan : Target → Codelets → List AtomForm → List Place → Next
by_plan target cs atoms places =
    let s = shape_of target in
    unless_faulty (hand_fault s.depth s.stateless s.stateful cs.list places) (text_of target (placed cs s.depth atoms places))

-- what comes of the text of a plan, for codelets with these atoms
abbrev pub GivesByPlan : Target → Codelets → List AtomForm → List ℕ → Next → Type 0
GivesByPlan target cs atoms plan next = Gives (IsPlanAnswer (shape_of target).depth cs.list plan) refused_plan (by_plan target cs atoms) next

-- after these texts, the newest first, each within its limit
abbrev pub IsNext : Command → List (List ℕ) → Next → Type 0
IsNext (run target files) [] next = next ≡ ask (program_file files.program)
IsNext (run target files) (program ∷ []) next = Gives (IsCompileAnswer (shape_of target) program) refused_compile (λ parts. ask (trace_file files.trace)) next
IsNext (run target files) (trace ∷ program ∷ []) next =
    (parts : PartsForm) × IsCompileAnswer (shape_of target) program (Ok parts)
    × Gives (IsTraceOf trace parts.fields (length parts.stages)) refused_trace (λ packets. found (Ok (clocked parts packets))) next
IsNext (run target files) (third ∷ trace ∷ program ∷ more) next = ⊥
IsNext (serial files) [] next = next ≡ ask (program_file files.program)
IsNext (serial files) (program ∷ []) next = Gives (IsProgram program) refused_program (λ c. ask (trace_file files.trace)) next
IsNext (serial files) (trace ∷ program ∷ []) next =
    (c : CheckedForm) × IsProgram program (Ok c) × Gives (IsTraceOf trace c.fields 0) refused_trace (λ packets. found (Ok (in_turn c packets))) next
IsNext (serial files) (third ∷ trace ∷ program ∷ more) next = ⊥
IsNext (compile target name) [] next = next ≡ ask (program_file name)
IsNext (compile target name) (program ∷ []) next =
    Gives (IsCompileAnswer (shape_of target) program) refused_compile (λ parts. found (Ok (written (text_of target parts)))) next
IsNext (compile target name) (second ∷ program ∷ more) next = ⊥
IsNext (codelets target name) [] next = next ≡ ask (program_file name)
IsNext (codelets target name) (program ∷ []) next = Gives (IsFrontFor target program) refused_compile (λ cs. found (Ok (written (codelets_text cs)))) next
IsNext (codelets target name) (second ∷ program ∷ more) next = ⊥
IsNext (planned target name file) [] next = next ≡ ask (program_file name)
IsNext (planned target name file) (program ∷ []) next = Gives (IsFrontFor target program) refused_compile (λ cs. ask (plan_file file)) next
IsNext (planned target name file) (plan ∷ program ∷ []) next =
    (cs : Codelets) × IsFitted (shape_of target).fits (shape_of target).multiplies program cs
    × ((atoms : List AtomForm) × AreAtomsOf cs atoms × GivesByPlan target cs atoms plan next)
IsNext (planned target name file) (third ∷ plan ∷ program ∷ more) next = ⊥
IsNext (exec names) texts next = IsNextOver names (λ parts. ask (trace_file names.trace)) clocked texts next
IsNext (watch names) texts next = IsNextOver names (λ parts. ask (trace_file names.trace)) watched texts next
IsNext (probe names stage) texts next = IsNextOver names (trace_behind stage names) (tapped stage) texts next
IsNext (elastic names events) texts next = IsNextInQueues names events texts next
IsNext (schedule names ranking) texts next = IsNextOver names (trace_ranked ranking names) (ranked ranking) texts next
IsNext (upgrade name) [] next = next ≡ ask (config_file name)
IsNext (upgrade name) (config ∷ []) next = Gives (IsConfig config) refused_config (λ c. found (Ok (written (upgraded_text c)))) next
IsNext (upgrade name) (second ∷ config ∷ more) next = ⊥
IsNext (selfrun target seed count) [] next =
    Gives (IsCompileAnswer (shape_of target) (own_program target)) refused_compile (λ parts. found (Ok (drawn target seed count parts))) next
IsNext (selfrun target seed count) (text ∷ texts) next = ⊥

-- Which bytes a file holds.

-- it is told that the file of this name holds these bytes
abbrev pub IsTold : (List ℕ → Option (List ℕ)) → List ℕ → List ℕ → Type 0
IsTold files name bytes = files name ≡ Some bytes

-- the file of this name holds these bytes, if it is told what it holds
abbrev pub MayHold : (List ℕ → Option (List ℕ)) → List ℕ → List ℕ → Type 0
MayHold files name bytes = IfSome (files name) (λ told. told ≡ bytes)

-- What is found after these texts, and which file could not be read.

module _ (Holds : List ℕ → List ℕ → Type 0) (command : Command) where
  pub data IsFoundAfter : List (List ℕ) → Finding → Type 0 where
    ends : {texts : List (List ℕ)} {finding : Finding} → IsNext command texts (found finding) → IsFoundAfter texts finding
    over : {texts : List (List ℕ)} {finding : Finding} (a : Ask) (text : List ℕ) → IsNext command texts (ask a) → Holds a.name text → a.most < length text → finding ≡ Err a.over → IsFoundAfter texts finding
    reads : {texts : List (List ℕ)} {finding : Finding} (a : Ask) (text : List ℕ) → IsNext command texts (ask a) → Holds a.name text → length text ≤ a.most → IsFoundAfter (text ∷ texts) finding → IsFoundAfter texts finding

  -- the count of a wanted file rose: of the next one, or of one behind a text within its limit
  pub data IsUnreadAfter : List (List ℕ) → (List ℕ → ℕ) → (List ℕ → ℕ) → Type 0 where
    here : {texts : List (List ℕ)} {before now : List ℕ → ℕ} (a : Ask) → IsNext command texts (ask a) → Rose (before a.name) (now a.name) → IsUnreadAfter texts before now
    later : {texts : List (List ℕ)} {before now : List ℕ → ℕ} (a : Ask) (text : List ℕ) → IsNext command texts (ask a) → Holds a.name text → length text ≤ a.most → IsUnreadAfter (text ∷ texts) before now → IsUnreadAfter texts before now

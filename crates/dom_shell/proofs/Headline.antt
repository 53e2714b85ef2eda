-- A run is the program run serially.
use Rattle.std.proofs.Common.{◌≡◌, ℕ, zero, suc, ◌+◌, ◌-◌, Some, None, List, [], ◌∷◌, ◌++◌, length, take, replicate, refl, sym, ap, ◌∙◌, subst, append-nil, append_assoc}
use Rattle.std.proofs.lemmas.List.Elements.{filter_map-append}
use Rattle.std.specs.List.{AllByRecursion as Every}
use Rattle.dom_words.specs.State.{Hash, IsSmallHash, array_of}
use Rattle.dom_ast.specs.Resolved.{CheckedForm}
use Rattle.banzai_config.specs.Action.{Arrays, Entry}
use Rattle.banzai_config.specs.Legal.{Shape}
use Rattle.banzai_config.specs.Named.{stage_arrays}
use Rattle.banzai_config.specs.Parts.{PartsForm}
use Rattle.banzai_machine.specs.Alone.{packets_of}
use Rattle.banzai_machine.proofs.LegalOwns.{legal_arrays}
use Rattle.banzai_machine.specs.Own.{OwnArrays}
use Rattle.banzai_machine.specs.Pipe.{drain, emitted, pipe}
use Rattle.banzai_machine.proofs.Moments.{moment, pipe_alone}
use Rattle.dom_compile.specs.Answer.{IsCompileAnswer}
use Rattle.dom_compile.specs.Programs.{IsWellFormed}
use Rattle.dom_compile.specs.Runs.{AreFull, RunsAs}
use Rattle.dom_compile.proofs.Runs.{placed_runs, runs_as}
use Rattle.trace_text.specs.declared.events.Event.{Event}
use Rattle.elastic_machine.specs.Queued.{admitted}
use Rattle.dom_ast.specs.Meaning.{serial_run}
use Rattle.dom_report.specs.ElasticLaw.{last, told_packets}
use Rattle.dom_report.proofs.ElasticLaws.{is_of_queues}
use Rattle.stage_plan.proofs.Kept.{is_plan}
use Rattle.dom_shell.specs.PlannedRuns.{IsPlanned}
use Rattle.dom_shell.specs.QueuesAreSerial.{IsSerialBehind, IsSerialInQueues}
use Rattle.dom_shell.specs.RunIsSerial.{IsSerialMoment, IsSerialRun, passed}
use Rattle.std.specs.Prelude.{Ok}

-- what holds of each packet holds of each of the first ones
first_ones : (P : List ℕ → Type 0) (n : ℕ) (es : List Entry) → Every P (packets_of es) → Every P (packets_of (take n es))
first_ones P zero es all = tt
first_ones P (suc n) [] all = tt
first_ones P (suc n) (None ∷ es) all = first_ones P n es all
first_ones P (suc n) (Some packet ∷ es) all = (all.0, first_ones P n es all.1)

front_full : (P : List ℕ → Type 0) (ps qs : List (List ℕ)) → Every P (ps ++ qs) → Every P ps
front_full P [] qs all = tt
front_full P (p ∷ ps) qs all = (all.0, front_full P ps qs all.1)

-- idle cycles have no packets, and it is all the same which of them come first
no_packets : (n : ℕ) → packets_of (replicate n None) ≡ []
no_packets zero = refl
no_packets (suc n) = no_packets n

idle_more : (n : ℕ) (es : List Entry) → replicate n None ++ None ∷ es ≡ None ∷ (replicate n None ++ es)
idle_more zero es = refl
idle_more (suc n) es = ap (λ (l : List Entry). None ∷ l) (idle_more n es)

idle_turned : (m n : ℕ) → replicate m None ++ replicate n None ≡ replicate {A = Entry} n None ++ replicate m None
idle_turned zero n = sym (append-nil (replicate n None))
idle_turned (suc m) n = ap (λ (l : List Entry). None ∷ l) (idle_turned m n) ∙ sym (idle_more n (replicate m None))

-- parts that run as a program, and in which each array stands in one slot
module _ (program : CheckedForm) (parts : PartsForm) (runs : RunsAs program parts) (owns : OwnArrays parts.stages) (hash : Hash) (small : IsSmallHash hash) where
  pub serial_of : (entries : List Entry) → AreFull program (packets_of entries) → IsSerialRun hash program parts entries
  serial_of entries full =
      let pipe = pipe_alone hash parts owns entries in
      let serial = runs hash (packets_of entries) small full in
      record {
        cycles = pipe.cycles;
        packets_are = pipe.packets ∙ serial.packets_are;
        arrays_are = pipe.arrays ∙ serial.arrays_are;
      }

  pub moment_of : (entries : List Entry) → AreFull program (packets_of entries) → IsSerialMoment hash program parts entries
  moment_of entries full k stage is =
      let now = moment hash parts owns entries in
      let each = first_ones (λ packet. length packet ≡ length program.fields) (length entries - (k + 1)) entries full in
      let serial = runs hash (passed k entries) small each in
      subst (λ (arrays : Arrays). Every (λ j. array_of (pipe hash parts entries).state j ≡ array_of arrays j) (stage_arrays stage)) serial.arrays_are (now.arrays k stage is)

  -- with queues
  pub queues_of : (most : ℕ) (packets : List (List ℕ)) (events : List Event) → AreFull program packets → IsSerialInQueues hash most program parts packets events
  queues_of most packets events full =
      let q = is_of_queues hash most parts packets events owns in
      let came : AreFull program (admitted hash most parts (last hash most parts packets events).happened) =
      front_full (λ packet. length packet ≡ length program.fields) (admitted hash most parts (last hash most parts packets events).happened) (last hash most parts packets events).waiting (subst (λ (ps : List (List ℕ)). AreFull program ps) q.came_in full) in
      let serial = runs hash (admitted hash most parts (last hash most parts packets events).happened) small came in
      record {
        came_in = q.came_in;
        in_order = q.in_order ∙ ap (take (length (told_packets hash most parts packets events))) serial.packets_are;
        all_left = λ none. q.all_left none ∙ serial.packets_are;
        all_arrays = λ none. q.all_arrays none ∙ serial.arrays_are;
      }

  -- with a queue behind the pipeline, and idle cycles behind the drain
  pub idle_of : (entries : List Entry) (more : ℕ) → AreFull program (packets_of entries) → IsSerialBehind hash program parts entries more
  idle_of entries more full =
      let idle : List Entry = replicate more None in
      let packets : packets_of (entries ++ idle) ≡ packets_of entries = filter_map-append (λ (entry : Entry). entry) entries idle ∙ ap (λ l. packets_of entries ++ l) (no_packets more) ∙ append-nil (packets_of entries) in
      let turned : (entries ++ drain parts) ++ idle ≡ (entries ++ idle) ++ drain parts =
      append_assoc entries (drain parts) idle ∙ ap (λ (l : List Entry). entries ++ l) (idle_turned (length parts.stages) more) ∙ sym (append_assoc entries idle (drain parts)) in
      let run = serial_of (entries ++ idle) (subst (λ (ps : List (List ℕ)). AreFull program ps) (sym packets) full) in
      record {
        cycles = ap (λ (es : List Entry). emitted hash parts es) turned ∙ run.cycles;
        packets_are = ap (λ (es : List Entry). packets_of (emitted hash parts es)) turned ∙ run.packets_are ∙ ap (λ (ps : List (List ℕ)). (serial_run hash program ps).packets) packets;
        arrays_are = ap (λ (es : List Entry). (pipe hash parts es).state) turned ∙ run.arrays_are ∙ ap (λ (ps : List (List ℕ)). (serial_run hash program ps).arrays) packets;
      }

module _ (s : Shape) (text : List ℕ) (program : CheckedForm) (parts : PartsForm) (well : IsWellFormed text program) where
  module _ (answer : IsCompileAnswer s text (Ok parts)) (hash : Hash) (small : IsSmallHash hash) where
    compiled_runs : RunsAs program parts
    compiled_runs = runs_as s text program parts well answer

    compiled_owns : OwnArrays parts.stages
    compiled_owns = legal_arrays s parts answer.2.legal

    pub compiled_serial : (entries : List Entry) → AreFull program (packets_of entries) → IsSerialRun hash program parts entries
    compiled_serial = serial_of program parts compiled_runs compiled_owns hash small

    pub compiled_moment : (entries : List Entry) → AreFull program (packets_of entries) → IsSerialMoment hash program parts entries
    compiled_moment = moment_of program parts compiled_runs compiled_owns hash small

    pub compiled_queues : (most : ℕ) (packets : List (List ℕ)) (events : List Event) → AreFull program packets → IsSerialInQueues hash most program parts packets events
    compiled_queues = queues_of program parts compiled_runs compiled_owns hash small

    pub compiled_idle : (entries : List Entry) (more : ℕ) → AreFull program (packets_of entries) → IsSerialBehind hash program parts entries more
    compiled_idle = idle_of program parts compiled_runs compiled_owns hash small

  module _ (is : IsPlanned s text parts) (hash : Hash) (small : IsSmallHash hash) where
    planned_runs : RunsAs program parts
    planned_runs =
        subst (λ (p : PartsForm). RunsAs program p) (sym is.parts_are) (placed_runs s text program is.codelets is.atoms is.places well is.fitted is.atoms_are is.plan is.unshared)

    pub planned_serial : (entries : List Entry) → AreFull program (packets_of entries) → IsSerialRun hash program parts entries
    planned_serial = serial_of program parts planned_runs (legal_arrays s parts is.legal) hash small

    pub planned_moment : (entries : List Entry) → AreFull program (packets_of entries) → IsSerialMoment hash program parts entries
    planned_moment = moment_of program parts planned_runs (legal_arrays s parts is.legal) hash small

-- what `compile` gives of a text is its configuration by the plan of the list schedule
pub compiled_planned : (s : Shape) (text : List ℕ) (parts : PartsForm) → IsCompileAnswer s text (Ok parts) → IsPlanned s text parts
compiled_planned s text parts (c, fitted, is) = record {
  codelets = c;
  atoms = is.atoms;
  places = is.places;
  fitted = fitted;
  atoms_are = is.atoms_are;
  plan = is_plan s.depth s.stateless s.stateful c.list is.places c.leveled is.placed;
  unshared = is.unshared;
  parts_are = is.parts_are;
  legal = is.legal;
}

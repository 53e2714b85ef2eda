-- The whole report of `watch`.
use Rattle.std.proofs.Common.{◌≡◌, ℕ, List, [], ◌∷◌, ◌++◌, length, refl, sym, ap, ◌∙◌, subst, Option, Some, Result}
use Rattle.std.proofs.lemmas.List.{length-map}
use Rattle.std.specs.List.{flat_map}
use Rattle.pipeline_law.specs.Pipeline.{Row}
use Rattle.dom_words.specs.State.{Hash}
use Rattle.dom_io.specs.Held.{IsPart, Puts, appended}
use Rattle.dom_io.specs.declared.sink.SinkFault.{SinkFault}
use Rattle.trace_text.specs.Lines.{done_line, joined}
use Rattle.trace_text.specs.Trace.{entries}
use Rattle.banzai_config.specs.Action.{Arrays, Entry}
use Rattle.banzai_machine.specs.Alone.{packets_of}
use Rattle.banzai_machine.specs.Pipe.{drain}
use Rattle.banzai_machine.specs.State.{MachineForm, Stands}
use Rattle.dom_report.specs.Clocking.{ClockedOver, Cycle, StoppedIn, bytes_over, cycles_from}
use Rattle.dom_report.specs.WatchReport.{at_beginning, moment_lines, watch_report}
use Rattle.dom_report.proofs.Cycles.{stopped_part}
use Rattle.dom_report.proofs.Packets.{packets_of-entries}
use Rattle.dom_report.proofs.Parts.{part_before}
use Rattle.dom_report.proofs.Reports.{puts_after}

-- what is put after a cycle, whoever puts it, who stays as it was
abbrev pub moment_bytes : {A : Type 0} → A → Cycle → List ℕ
moment_bytes a cycle = joined (moment_lines cycle)

abbrev pub unchanged : {A : Type 0} → A → Cycle → A
unchanged a cycle = a

moments_over : {A : Type 0} (a : A) (cycles : List Cycle) → bytes_over moment_bytes unchanged a cycles ≡ flat_map (λ cycle. joined (moment_lines cycle)) cycles
moments_over a [] = refl
moments_over a (cycle ∷ cycles) = ap (λ l. joined (moment_lines cycle) ++ l) (moments_over a cycles)

module _ (hash : Hash) (m : MachineForm) (start : Stands hash [] m) (ps : List (ℕ × List ℕ)) where
  abbrev all : List Entry
  all = entries ps ++ drain m.config

  abbrev moments : List ℕ
  moments = flat_map (λ cycle. joined (moment_lines cycle)) (cycles_from hash (at_beginning hash m.config) 0 all)

  abbrev last : List ℕ
  last = done_line (length (packets_of (entries ps))) (Some (length all))

  -- the cycles do not hang on what was touched before the first of them
  same_cycles : (number : ℕ) (xs : List Entry) → cycles_from hash m number xs ≡ cycles_from hash (at_beginning hash m.config) number xs
  same_cycles number [] = refl
  same_cycles number (x ∷ xs) = ap (λ (r : Row Arrays Entry). cycles_from hash (record { config = m.config; row = r; touches = [] }) number (x ∷ xs)) start

  moments_are : {A : Type 0} (a : A) → bytes_over moment_bytes unchanged a (cycles_from hash m 0 all) ≡ moments
  moments_are a = moments_over a (cycles_from hash m 0 all) ∙ ap (flat_map (λ cycle. joined (moment_lines cycle))) (same_cycles 0 all)

  pub watch_put : {A : Type 0} (m' : MachineForm) (a a' : A) (h0 h1 h2 : Option (List ℕ)) (result : Result (Unit {0}) SinkFault) (packets cycles : ℕ) → packets ≡ length ps → cycles ≡ length all
      → ClockedOver moment_bytes unchanged hash m m' a a' h0 h1 0 all → Puts h1 h2 (done_line packets (Some cycles)) result → Puts h0 h2 (watch_report hash m.config (entries ps)) result
  watch_put m' a a' h0 h1 h2 result packets cycles packets_are cycles_are clocked end =
      let count : packets ≡ length (packets_of (entries ps)) = packets_are ∙ sym (ap length (packets_of-entries ps) ∙ length-map ps (λ q. q.1)) in
      let same : done_line packets (Some cycles) ≡ last = ap (λ n. done_line n (Some cycles)) count ∙ ap (λ n. done_line (length (packets_of (entries ps))) (Some n)) cycles_are in
      puts_after result h0 h1 h2 moments last (clocked.held_is ∙ ap (appended h0) (moments_are a)) (subst (λ (l : List ℕ). Puts h1 h2 l result) same end)

  pub watch_stop : {A : Type 0} (m' : MachineForm) (a : A) (h0 h1 : Option (List ℕ)) → StoppedIn moment_bytes unchanged hash m m' a h0 h1 0 all → IsPart h0 h1 (watch_report hash m.config (entries ps))
  watch_stop m' a h0 h1 stop =
      part_before h0 h1 moments last (subst (λ (l : List ℕ). IsPart h0 h1 l) (moments_are a) (stopped_part moment_bytes unchanged hash m m' a h0 h1 0 all stop))

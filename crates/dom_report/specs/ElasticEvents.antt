-- Where a run of a configuration with queues stands while its report is put.
use Rattle.std.specs.Prelude.{◌≡◌, ℕ, ◌<◌, ◌≤◌, All, Option, Some, List, [], ◌∷◌, ◌++◌, drop, length, map, OnOk, Result, sum_by}
use Rattle.dom_io.specs.Held.{Puts}
use Rattle.dom_io.specs.declared.sink.SinkFault.{SinkFault}
use Rattle.dom_words.specs.State.{Hash}
use Rattle.trace_text.specs.declared.events.Event.{Event}
use Rattle.trace_text.specs.Lines.{Legend, done_line, held_line, joined}
use Rattle.banzai_config.specs.Parts.{PartsForm}
use Rattle.elastic_machine.specs.Elastic.{ElasticForm, Stands}
use Rattle.elastic_machine.specs.Queued.{left_by}
use Rattle.dom_report.specs.declared.elastic_report.Passed.{Passed}
use Rattle.dom_report.specs.ElasticReport.{Moment, after_event, told, telling_lines}
use Rattle.dom_report.specs.RunReport.{array_names}
use Rattle.dom_report.specs.SerialReport.{state_lines}

abbrev pub packets_in : List (ℕ × List ℕ) → List (List ℕ)
packets_in trace = map (λ p. p.1) trace

-- a machine stands at a moment, and so many packets have entered and left
pub record IsAt (hash : Hash) (most : ℕ) (p : PartsForm) (trace : List (ℕ × List ℕ)) (elastic : ElasticForm) (passed : Passed) (m : Moment) : Type 0 where
  pub config : elastic.config ≡ p
  pub stands : Stands hash most m.happened elastic
  pub waiting : m.waiting ≡ drop passed.entered (packets_in trace)
  pub within : passed.entered ≤ length trace
  pub left : passed.left ≡ length (left_by hash most p m.happened)

-- what an event needs
pub record CanHappen (depth : ℕ) (p : PartsForm) (lines : Legend) (trace : List (ℕ × List ℕ)) (entering leaving : List ℕ) (passed : Passed) (number : ℕ) : Type 0 where
  pub deep : length p.stages ≡ depth
  pub words : length p.fields ≤ lines.words
  pub each : All (λ q. length q.1 ≡ length p.fields) trace
  pub entering_is : length entering ≡ length p.fields
  pub leaving_is : length leaving ≡ length p.fields
  pub few : passed.left < number

-- the event with this number leads from each moment to the next, and the line of what it tells was put
abbrev pub StepsTo : Hash → ℕ → List (ℕ × List ℕ) → ElasticForm → ElasticForm → Passed → Passed → ℕ → Event → Option (List ℕ) → Option (List ℕ) → Result (Unit {0}) SinkFault → Type 0
StepsTo hash most trace old new passed passed' number event held held' result =
    (m : Moment) → IsAt hash most old.config trace old passed m
    → OnOk result (IsAt hash most old.config trace new passed' (after_event hash most old.config m event)) × Puts held held' (joined (telling_lines number (told hash most old.config m event))) result

-- the lines behind the events, of a machine that stands there
abbrev pub end_lines : ElasticForm → Passed → List (List ℕ)
end_lines elastic passed =
    state_lines (array_names elastic.config) elastic.state ++ held_line (sum_by length elastic.queues) ∷ done_line passed.entered (Some passed.left) ∷ []

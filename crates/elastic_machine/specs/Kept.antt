-- What holds of the lists of every Elastic, and what an event does to them.
use Rattle.std.specs.Prelude.{◌≡◌, ℕ, ◌+◌, ◌≤◌, List, length, map}
use Rattle.std.specs.List.{flat_map}
use Rattle.dom_words.specs.State.{Hash}
use Rattle.pipeline_law.specs.Queues.{Event, Queues, happens}
use Rattle.banzai_config.specs.Action.{Arrays, Entry, acts}
use Rattle.banzai_config.specs.Parts.{PartsForm}
use Rattle.banzai_machine.specs.Kept.{Touched, stage_slots}
use Rattle.banzai_machine.specs.Runnable.{array_sizes}
use Rattle.elastic_machine.specs.declared.mark.Mark.{Mark}
use Rattle.elastic_machine.specs.Elastic.{ElasticForm}
use Rattle.elastic_machine.specs.Lanes.{AreHeld, queues_in}

-- a queue before each stage and one behind the last; the arrays with their lengths; room for a stage's touches
pub record IsKept (cap : ℕ) (c : PartsForm) (marks : List Mark) (words : List ℕ) (arrays : Arrays) (touches : Touched) : Type 0 where
  pub queues : length marks ≡ length c.stages + 1
  pub held : AreHeld c.containers cap marks words
  pub sizes : map length arrays ≡ array_sizes c
  pub room : length (flat_map stage_slots c.stages) ≤ touches.room

abbrev pub elastic_form : ℕ → PartsForm → List Mark → List ℕ → Arrays → ElasticForm
elastic_form cap c marks words arrays = record { config = c; queues = queues_in c.containers cap marks words; state = arrays }

-- an event leads from some queues and arrays to others, whatever came in and left before
abbrev pub Leads : Hash → ℕ → PartsForm → Event Entry → List (List Entry) → Arrays → List (List Entry) → Arrays → Type 0
Leads hash most c event qs a qs' a' = (w : Queues Arrays Entry) → w.queues ≡ qs → w.state ≡ a → length w.counts ≡ length c.stages
    → ((happens (acts hash) most c.stages event w).queues ≡ qs') × ((happens (acts hash) most c.stages event w).state ≡ a')

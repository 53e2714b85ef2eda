-- What the report of `elastic` says, in words of queues and of packets that go through the stages one after another.
use Rattle.std.specs.Prelude.{◌≡◌, ℕ, List, [], ◌∷◌, ◌++◌, length, sum_by, take}
use Rattle.dom_words.specs.State.{Hash}
use Rattle.pipeline_law.specs.Queues as happening
use Rattle.trace_text.specs.declared.events.Event.{Event}
use Rattle.banzai_config.specs.Action.{alone}
use Rattle.banzai_config.specs.Parts.{PartsForm}
use Rattle.elastic_machine.specs.Queued.{admitted, left_by, queued}
use Rattle.dom_report.specs.ElasticReport.{Moment, Telling, after_events, first_moment, leaves, not_ready, nothing, told_by}

-- the packets that events tell of
abbrev pub packets_told : List Telling → List (List ℕ)
packets_told [] = []
packets_told (nothing ∷ tellings) = packets_told tellings
packets_told (not_ready ∷ tellings) = packets_told tellings
packets_told (leaves words ∷ tellings) = words ∷ packets_told tellings

-- most: the packets that a queue holds at most
module _ (hash : Hash) (most : ℕ) (p : PartsForm) (packets : List (List ℕ)) (events : List Event) where
  -- the moment behind the last event, and the packets of the lines
  abbrev pub last : Moment
  last = after_events hash most p (first_moment packets) events

  abbrev pub told_packets : List (List ℕ)
  told_packets = packets_told (told_by hash most p (first_moment packets) events)

  pub record IsOfQueues : Type 0 where
    -- they are those that have left the queues, in order
    pub left : told_packets ≡ left_by hash most p last.happened
    -- the packets of the trace are those that have come in and, behind them, those that wait
    pub came_in : packets ≡ admitted hash most p last.happened ++ last.waiting
    -- so those of the lines are the first of them, as they come out one after another
    pub in_order : told_packets ≡ take (length told_packets) (alone hash p (admitted hash most p last.happened)).packets
    -- where none is held, all of them
    pub all_left : sum_by length (queued hash most p last.happened).queues ≡ 0 → told_packets ≡ (alone hash p (admitted hash most p last.happened)).packets
    -- and every array is as they leave it
    pub all_arrays : sum_by length (queued hash most p last.happened).queues ≡ 0 → (queued hash most p last.happened).state ≡ (alone hash p (admitted hash most p last.happened)).arrays

-- A configuration with a queue before each stage and one behind the last, over events in any order, and what comes of it
-- in words of packets that go through the stages one after another.
use Rattle.std.specs.Prelude.{◌≡◌, Bool, true, false, ℕ, Some, List, [], ◌∷◌, ◌++◌, length, map, nat_lt, slice_get, take}
use Rattle.std.specs.List.{AllByRecursion}
use Rattle.dom_words.specs.State.{Hash, array_of, started}
use Rattle.pipeline_law.specs.Queues.{AreEmpty, Event, Enter, Fire, Leave, Queues, happens, idle_queues, queues_after}
use Rattle.banzai_config.specs.Action.{Arrays, Entry, acts, alone}
use Rattle.banzai_config.specs.Named.{stage_arrays}
use Rattle.banzai_config.specs.Parts.{PartsForm, StageForm}
use Rattle.banzai_machine.specs.Alone.{packets_of}
use Rattle.banzai_machine.specs.Pipe.{entered, pipeline, shown}

-- an event with the field words of a packet; inside, a packet is its containers
abbrev pub placed : PartsForm → Event (List ℕ) → Event Entry
placed p (Enter packet) = Enter (entered p (Some packet))
placed p (Fire k) = Fire k
placed p Leave = Leave

-- the packet that comes in with an event: an entering one where the first queue has room
abbrev pub let_in : (room : Bool) → List ℕ → List (List ℕ)
let_in true packet = packet ∷ []
let_in false packet = []

abbrev pub comes_in : ℕ → Event (List ℕ) → List (List Entry) → List (List ℕ)
comes_in most (Enter packet) [] = []
comes_in most (Enter packet) (queue ∷ queues) = let_in (nat_lt (length queue) most) packet
comes_in most (Fire k) queues = []
comes_in most Leave queues = []

-- most: the packets that a queue holds at most
module _ (hash : Hash) (most : ℕ) (p : PartsForm) where
  -- the queues and the arrays after these events, from empty queues and the words that the arrays start with
  abbrev pub queued : List (Event (List ℕ)) → Queues Arrays Entry
  queued events = queues_after (pipeline hash p) most (started p.arrays) (map (placed p) events)

  -- the field words of the packets that have left by then, in order
  abbrev pub left_by : List (Event (List ℕ)) → List (List ℕ)
  left_by events = packets_of (map (shown p) (queued events).left)

  -- the packets that have come in by then, in order
  abbrev pub admitted_from : List (Event (List ℕ)) → Queues Arrays Entry → List (List ℕ)
  admitted_from [] w = []
  admitted_from (e ∷ es) w = comes_in most e w.queues ++ admitted_from es (happens (acts hash) most p.stages (placed p e) w)

  abbrev pub admitted : List (Event (List ℕ)) → List (List ℕ)
  admitted events = admitted_from events (idle_queues p.stages (started p.arrays))

  pub record IsAloneInQueues (events : List (Event (List ℕ))) : Type 0 where
    -- the packets that have left are the first of those that have come in, as they come out one after another
    pub left : left_by events ≡ take (length (left_by events)) (alone hash p (admitted events)).packets
    -- the arrays of stage k + 1 are those that the first packets leave, as many as it was ready for when it was fired
    pub arrays : (k n : ℕ) (stage : StageForm) → slice_get p.stages k ≡ Some stage → slice_get (queued events).counts k ≡ Some n
        → AllByRecursion (λ j. array_of (queued events).state j ≡ array_of (alone hash p (take n (admitted events))).arrays j) (stage_arrays stage)
    -- where all queues are empty, all of them have left
    pub all_left : AreEmpty (queued events) → left_by events ≡ (alone hash p (admitted events)).packets
    -- and every array is as they leave it
    pub all_arrays : AreEmpty (queued events) → (queued events).state ≡ (alone hash p (admitted events)).arrays

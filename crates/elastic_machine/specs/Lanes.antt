-- Queues in places of one flat list: each queue has its own places, its lane, of which it goes round.
use Rattle.std.specs.Prelude.{◌≡◌, ℕ, ◌*◌, ◌^◌, ◌<◌, ◌≤◌, true, List, [], ◌∷◌, ◌++◌, length, replicate, take, drop, slice_index_or, slice_set}
use Rattle.std.specs.List.{AllByRecursion}
use Rattle.banzai_config.specs.Action.{Entry}
use Rattle.banzai_machine.specs.Ring.{places, rotated}
use Rattle.elastic_machine.specs.declared.mark.Mark.{Mark}

-- a mark of a queue that has so many places
pub record MarkWithin (cap : ℕ) (m : Mark) : Type 0 where
  pub start : m.start < cap
  pub count : m.count ≤ cap

-- the packets of a queue in its lane, the oldest first
abbrev pub queue_of : Mark → List Entry → List Entry
queue_of m lane = take m.count (rotated m.start lane)

-- the queues whose lanes stand one after another, of so many places each
abbrev pub queues_over : ℕ → List Mark → List Entry → List (List Entry)
queues_over cap [] all = []
queues_over cap (m ∷ ms) all = queue_of m (take cap all) ∷ queues_over cap ms (drop cap all)

-- the places of a flat list: so many words each, and a packet in each
abbrev pub packets : ℕ → ℕ → List ℕ → List Entry
packets width count words = places width (replicate count true) words

abbrev pub queues_in : ℕ → ℕ → List Mark → List ℕ → List (List Entry)
queues_in width cap marks words = queues_over cap marks (packets width (length marks * cap) words)

-- the marks are within their lanes, there is a word for each container of each place, and fewer than 2^31 places
pub record AreHeld (width cap : ℕ) (marks : List Mark) (words : List ℕ) : Type 0 where
  pub within : AllByRecursion (λ m. MarkWithin cap m) marks
  pub wide : length words ≡ length marks * cap * width
  pub few : length marks * cap < 2 ^ 31

-- a packet comes to the end of queue j
abbrev pub put_last : ℕ → Entry → List (List Entry) → List (List Entry)
put_last j x queues = slice_set queues j (slice_index_or queues j [] ++ x ∷ [])

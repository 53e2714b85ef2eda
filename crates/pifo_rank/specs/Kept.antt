-- What a Pifo holds, and what is always true of it.
use Rattle.std.specs.Prelude.{◌≡◌, ℕ, ◌+◌, ◌<◌, ◌≤◌, nat_eq, List, length, map, All, vec_len, vec_capacity}
use Rattle.std.specs.BinaryHeap.{heap_items, heap_len, heap_capacity, IsHeap}
use Rattle.std.specs.List.{IsDistinct}
use Rattle.std.specs.declared.cmp.Ordering.{Ordering}
use Rattle.pifo_rank.specs.contracts.waiting.WaitingOrd.TheImpl as waiting_ord
use Rattle.pifo_rank.specs.declared.waiting.Waiting.{Waiting}
use Rattle.pifo_rank.specs.declared.pifo.Pifo.TheInside.{Inside}
use Rattle.pifo_rank.specs.Queue.{Held, Queue}
use Rattle.pifo_rank.specs.ByKey.{by_key}

abbrev pub held_of : Waiting → Held
held_of w = record { rank = w.rank; words = w.words }

abbrev pub arrival_of : Waiting → ℕ
arrival_of w = w.arrival

abbrev pub in_order : List Waiting → List Held
in_order waiting = map held_of (by_key arrival_of waiting)

-- the order of the heap: the greatest is served first
abbrev pub serving_order : Waiting → Waiting → Ordering
serving_order = (waiting_ord.ghosts).cmp

abbrev pub queue_of : Inside → Queue
queue_of a = record { entries = in_order (heap_items a.waiting); pushes = a.pushes; room = a.room; width = a.width }

pub record IsKept (a : Inside) : Type 0 where
  pub ordered : IsHeap serving_order (heap_items a.waiting)
  pub apart : IsDistinct nat_eq (map arrival_of (heap_items a.waiting))
  pub earlier : All (λ (w : Waiting). w.arrival < a.pushes) (heap_items a.waiting)
  pub wide : All (λ (w : Waiting). length w.words ≡ a.width) (heap_items a.waiting)
  pub spare_wide : All (λ (p : List ℕ). length p ≡ a.width) a.spare.items
  pub shared : vec_len a.spare + heap_len a.waiting ≡ a.room
  pub places : a.room ≤ heap_capacity a.waiting
  pub spare_places : a.room ≤ vec_capacity a.spare

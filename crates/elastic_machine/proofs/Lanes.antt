-- Queues on their places: reading a head, adding at an end, dropping a head.
use Rattle.std.proofs.Common.{◌≡◌, ℕ, zero, suc, ◌+◌, ◌*◌, ◌<◌, ◌≤◌, ◌⊎◌, inl, inr, Some, List, [], ◌∷◌, ◌++◌, length, take, drop, set, slice_get, refl, sym, ◌∙◌, ap, subst, arith, append-nil, append_assoc}
use Rattle.std.proofs.lemmas.Bool.{cases_lt}
use Rattle.std.proofs.lemmas.List.{drop-set-add, drop-set-lt, take-set-le, drop-drop, take-append-le}
use Rattle.std.proofs.Math.Seq.{take-set-lt}
use Rattle.std.proofs.lemmas.Option.{slice_get_within}
use Rattle.banzai_config.specs.Action.{Entry}
use Rattle.banzai_machine.specs.Ring.{rotated, IsPlace}
use Rattle.banzai_machine.proofs.Rounds.{take_some, length-rotated, rotated_set}
use Rattle.banzai_machine.proofs.Steps.{take_full, take_set}
use Rattle.elastic_machine.specs.declared.mark.Mark.{Mark}
use Rattle.elastic_machine.specs.Lanes.{MarkWithin, queue_of, queues_over}

-- one queue
module _ {X : Type 0} where
  pub cut_at : (xs : List X) (s : ℕ) (x : X) → slice_get xs s ≡ Some x → (drop s xs ≡ x ∷ drop (suc s) xs) × (take (suc s) xs ≡ take s xs ++ x ∷ [])
  cut_at [] s x e = cc
  cut_at (y ∷ xs) zero x e =
      let same : y ≡ x = cc in
      rw same (refl, refl)
  cut_at (y ∷ xs) (suc s) x e =
      let below = cut_at xs s x e in
      (below.0, ap (λ (z : List X). y ∷ z) below.1)

  -- the others behind the head of a ring
  abbrev pub behind : ℕ → List X → List X
  behind s xs = drop (suc s) xs ++ take s xs

  rotated_head : (xs : List X) (s : ℕ) (x : X) → slice_get xs s ≡ Some x → rotated s xs ≡ x ∷ behind s xs
  rotated_head xs s x e = ap (λ (z : List X). z ++ take s xs) (cut_at xs s x e).0

  rotated_next : (xs : List X) (s n : ℕ) (x : X) → slice_get xs s ≡ Some x → IsPlace s 1 (length xs) n → rotated n xs ≡ behind s xs ++ x ∷ []
  rotated_next xs s n x e at = by_case (cases_lt (s + 1) (length xs))
    where
      by_case : ((s + 1) < length xs) ⊎ (length xs ≤ s + 1) → rotated n xs ≡ behind s xs ++ x ∷ []
      by_case (inl lt) =
          let is : n ≡ suc s = omega (arith, at.near lt) in
          ap (λ (i : ℕ). rotated i xs) is
          ∙ ap (λ (z : List X). drop (suc s) xs ++ z) (cut_at xs s x e).1
          ∙ sym (append_assoc (drop (suc s) xs) (take s xs) (x ∷ []))
      by_case (inr le) =
          let is : n ≡ 0 = omega (arith, at.far le, at.within, slice_get_within xs s x e) in
          let end : length xs ≤ suc s = omega arith in
          let none : drop (suc s) xs ≡ [] = gone xs (suc s) end in
          ap (λ (i : ℕ). rotated i xs) is
          ∙ append-nil xs
          ∙ sym (take_full xs (suc s) end)
          ∙ (cut_at xs s x e).1
          ∙ ap (λ (z : List X). (z ++ take s xs) ++ x ∷ []) (sym none)
        where
          gone : (ys : List X) (k : ℕ) → length ys ≤ k → drop k ys ≡ []
          gone [] zero h = refl
          gone [] (suc k) h = refl
          gone (y ∷ ys) zero h = absurd (omega (arith, h))
          gone (y ∷ ys) (suc k) h = gone ys k (omega (arith, h))

-- a packet more at the end
pub queue_put : (cap at : ℕ) (m m' : Mark) (lane : List Entry) (x : Entry) → length lane ≡ cap → MarkWithin cap m → m.count < cap → IsPlace m.start m.count cap at → m'.start ≡ m.start → m'.count ≡ m.count + 1
    → queue_of m' (set lane at x) ≡ queue_of m lane ++ x ∷ []
queue_put cap at m m' lane x size within room is start count =
    let more : m'.count ≡ suc m.count = omega (arith, count) in
    let s : m.start < length lane = omega (arith, within.start, size) in
    let few : m.start ≤ length lane = omega arith in
    let c : m.count < length lane = omega (arith, room, size) in
    let c' : m.count < length (rotated m.start lane) = omega (arith, c, length-rotated m.start lane few) in
    let is' : IsPlace m.start m.count (length lane) at = subst (λ (n : ℕ). IsPlace m.start m.count n at) (sym size) is in
    ap (λ (n : ℕ). take n (rotated m'.start (set lane at x))) more
    ∙ ap (λ (n : ℕ). take (suc m.count) (rotated n (set lane at x))) start
    ∙ ap (λ (z : List Entry). take (suc m.count) z) (rotated_set lane m.start m.count at x s c is')
    ∙ take_set (rotated m.start lane) m.count x c'

-- without its head
pub queue_drop : (cap : ℕ) (m m' : Mark) (lane : List Entry) (x : Entry) → length lane ≡ cap → MarkWithin cap m → IsPlace m.start 1 cap m'.start → m'.count + 1 ≡ m.count → slice_get lane m.start ≡ Some x
    → queue_of m lane ≡ x ∷ queue_of m' lane
queue_drop cap m m' lane x size within is count at =
    let more : m.count ≡ suc m'.count = omega (arith, count) in
    let is' : IsPlace m.start 1 (length lane) m'.start = subst (λ (n : ℕ). IsPlace m.start 1 n m'.start) (sym size) is in
    let few : m.start ≤ length lane = omega (arith, within.start, size) in
    let long : length (x ∷ behind m.start lane) ≡ length lane = ap length (sym (rotated_head lane m.start x at)) ∙ length-rotated m.start lane few in
    let low : m'.count ≤ length (behind m.start lane) = omega (arith, long, size, within.count, count) in
    ap (λ (n : ℕ). take n (rotated m.start lane)) more
    ∙ ap (λ (z : List Entry). take (suc m'.count) z) (rotated_head lane m.start x at)
    ∙ ap (λ (z : List Entry). x ∷ z) (sym (take-append-le m'.count (behind m.start lane) (x ∷ []) low))
    ∙ ap (λ (z : List Entry). x ∷ take m'.count z) (sym (rotated_next lane m.start m'.start x at is'))

pub length-queue : (cap : ℕ) (m : Mark) (lane : List Entry) → length lane ≡ cap → MarkWithin cap m → length (queue_of m lane) ≡ m.count
length-queue cap m lane size within =
    let few : m.start ≤ length lane = omega (arith, within.start, size) in
    let low : m.count ≤ length (rotated m.start lane) = omega (arith, length-rotated m.start lane few, size, within.count) in
    take_some m.count (rotated m.start lane) low

-- queues one after another
abbrev pub lane_of : ℕ → ℕ → List Entry → List Entry
lane_of cap j all = take cap (drop (j * cap) all)

module _ (cap : ℕ) where
  pub length-queues : (ms : List Mark) (all : List Entry) → length (queues_over cap ms all) ≡ length ms
  length-queues [] all = refl
  length-queues (m ∷ ms) all = ap suc (length-queues ms (drop cap all))

  lane_more : (j : ℕ) (all : List Entry) → lane_of cap j (drop cap all) ≡ lane_of cap (suc j) all
  lane_more j all =
      let more : cap + j * cap ≡ suc j * cap = omega arith in
      ap (λ (z : List Entry). take cap z) (drop-drop (j * cap) cap all) ∙ ap (λ (n : ℕ). take cap (drop n all)) more

  lane_first : (all : List Entry) → take cap all ≡ lane_of cap 0 all
  lane_first all =
      let none : 0 ≡ 0 * cap = omega arith in
      ap (λ (n : ℕ). take cap (drop n all)) none

  pub queue_at : (ms : List Mark) (all : List Entry) (j : ℕ) (m : Mark) → slice_get ms j ≡ Some m → slice_get (queues_over cap ms all) j ≡ Some (queue_of m (lane_of cap j all))
  queue_at [] all j m e = cc
  queue_at (n ∷ ms) all zero m e =
      let same : n ≡ m = cc in
      ap (λ (z : Mark). Some (queue_of z (take cap all))) same ∙ ap (λ (z : List Entry). Some (queue_of m z)) (lane_first all)
  queue_at (n ∷ ms) all (suc j) m e = queue_at ms (drop cap all) j m e ∙ ap (λ (z : List Entry). Some (queue_of m z)) (lane_more j all)

  -- another mark
  pub mark_changed : (ms : List Mark) (all : List Entry) (j : ℕ) (m : Mark) → j < length ms → queues_over cap (set ms j m) all ≡ set (queues_over cap ms all) j (queue_of m (lane_of cap j all))
  mark_changed [] all j m h = absurd (omega (arith, h))
  mark_changed (n ∷ ms) all zero m h = ap (λ (z : List Entry). queue_of m z ∷ queues_over cap ms (drop cap all)) (lane_first all)
  mark_changed (n ∷ ms) all (suc j) m h =
      let less : j < length ms = omega (arith, h) in
      ap (λ (z : List (List Entry)). queue_of n (take cap all) ∷ z) (mark_changed ms (drop cap all) j m less)
      ∙ ap (λ (z : List Entry). queue_of n (take cap all) ∷ set (queues_over cap ms (drop cap all)) j (queue_of m z)) (lane_more j all)

  -- another mark, and another packet in one of that queue's places
  pub lane_changed : (ms : List Mark) (all : List Entry) (j at : ℕ) (m : Mark) (x : Entry) → j < length ms → at < cap
      → queues_over cap (set ms j m) (set all (j * cap + at) x) ≡ set (queues_over cap ms all) j (queue_of m (set (lane_of cap j all) at x))
  lane_changed [] all j at m x h low = absurd (omega (arith, h))
  lane_changed (n ∷ ms) all zero at m x h low =
      let none : zero * cap + at ≡ at = omega arith in
      ap (λ (i : ℕ). queues_over cap (m ∷ ms) (set all i x)) none
      ∙ ap (λ (z : List Entry). queue_of m z ∷ queues_over cap ms (drop cap (set all at x))) (take-set-lt cap all at x low)
      ∙ ap (λ (z : List Entry). queue_of m (set (take cap all) at x) ∷ queues_over cap ms z) (drop-set-lt cap all at x low)
      ∙ ap (λ (z : List Entry). queue_of m (set z at x) ∷ queues_over cap ms (drop cap all)) (lane_first all)
  lane_changed (n ∷ ms) all (suc j) at m x h low =
      let less : j < length ms = omega (arith, h) in
      let more : suc j * cap + at ≡ cap + (j * cap + at) = omega arith in
      let past : cap ≤ cap + (j * cap + at) = omega arith in
      ap (λ (i : ℕ). queues_over cap (n ∷ set ms j m) (set all i x)) more
      ∙ ap (λ (z : List Entry). queue_of n z ∷ queues_over cap (set ms j m) (drop cap (set all (cap + (j * cap + at)) x))) (take-set-le cap all (cap + (j * cap + at)) x past)
      ∙ ap (λ (z : List Entry). queue_of n (take cap all) ∷ queues_over cap (set ms j m) z) (drop-set-add cap all (j * cap + at) x)
      ∙ ap (λ (z : List (List Entry)). queue_of n (take cap all) ∷ z) (lane_changed ms (drop cap all) j at m x less low)
      ∙ ap (λ (z : List Entry). queue_of n (take cap all) ∷ set (queues_over cap ms (drop cap all)) j (queue_of m (set z at x))) (lane_more j all)

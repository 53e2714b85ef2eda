-- The queues on a flat list of words: what a put and a drop do to them.
use Rattle.std.proofs.Common.{◌≡◌, ℕ, zero, suc, ◌+◌, ◌*◌, ◌<◌, ◌≤◌, true, false, Bool, Some, List, [], ◌∷◌, ◌++◌, length, take, drop, set, get_or, slice_get, replicate, refl, sym, ◌∙◌, ap, arith, length-drop, ◌≢◌, mul-le-mul_left, map}
use Rattle.std.proofs.Math.Seq.{take-append_seam}
use Rattle.std.proofs.lemmas.List.{length-set, length-replicate, get_or-replicate, set-get_or, get_or-drop, get_or-take}
use Rattle.std.proofs.lemmas.Option.{slice_get-get_or, get_or_from_slice_get, slice_get_within}
use Rattle.banzai_config.specs.Action.{Entry}
use Rattle.banzai_machine.specs.Ring.{IsPlace, places, shown_register}
use Rattle.banzai_machine.proofs.Rounds.{take_some, length-places, place_at, places_changed}
use Rattle.std.specs.Prelude.{slice_index}
use Rattle.elastic_machine.specs.declared.mark.Mark.{Mark}
use Rattle.elastic_machine.specs.Lanes.{MarkWithin, queue_of, queues_over, packets, queues_in, put_last}
use Rattle.elastic_machine.proofs.Lanes.{queue_put, queue_drop, lane_of, queue_at, mark_changed, lane_changed}

all_set : (n p : ℕ) → p < n → set (replicate n true) p true ≡ replicate n true
all_set n p h =
    ap (λ (b : Bool). set (replicate n true) p b) (sym (get_or-replicate n p true false h)) ∙ set-get_or (replicate n true) p false

module _ (w n p : ℕ) (ws : List ℕ) (low : p < n) where
  inside : p < length (replicate n true)
  inside = omega (arith, low, length-replicate n true)

  pub packet_at : (e : Entry) → get_or (packets w n ws) p e ≡ Some (take w (drop (p * w) ws))
  packet_at e =
      sym (place_at w (replicate n true) ws p e inside)
      ∙ ap (λ (b : Bool). shown_register b (take w (drop (p * w) ws))) (get_or-replicate n p true false low)

  pub packet_changed : (ws' : List ℕ) → take (p * w) ws' ≡ take (p * w) ws → drop (p * w + w) ws' ≡ drop (p * w + w) ws
      → packets w n ws' ≡ set (packets w n ws) p (Some (take w (drop (p * w) ws')))
  packet_changed ws' before after =
      ap (λ (bs : List Bool). places w bs ws') (sym (all_set n p low))
      ∙ places_changed w (replicate n true) ws ws' p true inside before after

pub other_at : {X : Type 0} (xs : List X) (i j : ℕ) (x : X) → i ≢ j → slice_get (set xs i x) j ≡ slice_get xs j
other_at [] i j x ne = refl
other_at (y ∷ xs) zero zero x ne = absurd (ne refl)
other_at (y ∷ xs) zero (suc j) x ne = refl
other_at (y ∷ xs) (suc i) zero x ne = refl
other_at (y ∷ xs) (suc i) (suc j) x ne = other_at xs i j x (λ e. ne (ap suc e))

-- queue j, with its mark m
module _ (w cap : ℕ) (ms : List Mark) (ws : List ℕ) (j : ℕ) (m : Mark) (at_j : slice_get ms j ≡ Some m) (within : MarkWithin cap m) where
  abbrev all : List Entry
  all = packets w (length ms * cap) ws

  abbrev pub qs : List (List Entry)
  qs = queues_in w cap ms ws

  here : j < length ms
  here = slice_get_within ms j m at_j

  up : j + 1 ≤ length ms
  up = omega (arith, here)

  room : j * cap + cap ≤ length ms * cap
  room = omega (arith, mul-le-mul_left cap up)

  length-all : length all ≡ length ms * cap
  length-all = length-places w (replicate (length ms * cap) true) ws ∙ length-replicate (length ms * cap) true

  length-lane : length (lane_of cap j all) ≡ cap
  length-lane = take_some cap (drop (j * cap) all) (omega (arith, length-drop (j * cap) all, length-all, room))

  pub put_is : (ws' : List ℕ) (at : ℕ) (m' : Mark) → m.count < cap → IsPlace m.start m.count cap at → m'.start ≡ m.start → m'.count ≡ m.count + 1
      → take ((j * cap + at) * w) ws' ≡ take ((j * cap + at) * w) ws → drop ((j * cap + at) * w + w) ws' ≡ drop ((j * cap + at) * w + w) ws
      → queues_in w cap (set ms j m') ws' ≡ put_last j (Some (take w (drop ((j * cap + at) * w) ws'))) qs
  put_is ws' at m' free is start count before after =
      let p : ℕ = j * cap + at in
      let low : p < length ms * cap = omega (arith, room, is.within) in
      let x : Entry = Some (take w (drop (p * w) ws')) in
      ap (λ (n : ℕ). queues_over cap (set ms j m') (packets w (n * cap) ws')) (length-set ms j m')
      ∙ ap (λ (z : List Entry). queues_over cap (set ms j m') z) (packet_changed w (length ms * cap) p ws low ws' before after)
      ∙ lane_changed cap ms all j at m' x here is.within
      ∙ ap (λ (z : List Entry). set qs j z) (queue_put cap at m m' (lane_of cap j all) x length-lane within free is start count)
      ∙ ap (λ (z : List Entry). set qs j (z ++ x ∷ [])) (sym (get_or_from_slice_get qs j (queue_of m (lane_of cap j all)) [] (queue_at cap ms all j m at_j)))

  abbrev pub head_words : List ℕ
  head_words = take w (drop ((j * cap + m.start) * w) ws)

  head_at : slice_get (lane_of cap j all) m.start ≡ Some (Some head_words)
  head_at =
      let d : Entry = Some [] in
      let low : m.start < length (lane_of cap j all) = omega (arith, within.start, length-lane) in
      let low' : j * cap + m.start < length ms * cap = omega (arith, room, within.start) in
      slice_get-get_or (lane_of cap j all) m.start d low
      ∙ ap (λ (e : Entry). Some e) (get_or-take cap (drop (j * cap) all) m.start d within.start ∙ get_or-drop (j * cap) all m.start d ∙ packet_at w (length ms * cap) (j * cap + m.start) ws low' d)

  pub rest_of_lane : Mark → List Entry
  rest_of_lane m' = queue_of m' (lane_of cap j all)

  pub drop_is : (m' : Mark) → IsPlace m.start 1 cap m'.start → m'.count + 1 ≡ m.count
      → (rest : List Entry) × (slice_get qs j ≡ Some (Some head_words ∷ rest)) × (queues_in w cap (set ms j m') ws ≡ set qs j rest)
  drop_is m' is count = (
    queue_of m' (lane_of cap j all),
    queue_at cap ms all j m at_j ∙ ap (λ (z : List Entry). Some z) (queue_drop cap m m' (lane_of cap j all) (Some head_words) length-lane within is count head_at),
    ap (λ (n : ℕ). queues_over cap (set ms j m') (packets w (n * cap) ws)) (length-set ms j m') ∙ mark_changed cap ms all j m' here,
  )

pub count_at : (ms : List Mark) (j : ℕ) (m : Mark) → slice_get ms j ≡ Some m → slice_index (map (λ m. m.count) ms) j ≡ m.count
count_at [] j m e = cc
count_at (n ∷ ms) zero m e =
    let same : n ≡ m = cc in
    ap (λ (z : Mark). z.count) same
count_at (n ∷ ms) (suc j) m e = count_at ms j m e

-- the head of queue k goes, as x, behind the next queue
module _ (w cap : ℕ) (ms : List Mark) (ws : List ℕ) (k : ℕ) (m : Mark) (at_k : slice_get ms k ≡ Some m) (within : MarkWithin cap m)
    (n : Mark) (at_n : slice_get ms (k + 1) ≡ Some n) (within_n : MarkWithin cap n) where
  pub pass_is : (ws' : List ℕ) (at : ℕ) (m' n' : Mark) (x : Entry) → n.count < cap → IsPlace n.start n.count cap at → n'.start ≡ n.start → n'.count ≡ n.count + 1
      → take (((k + 1) * cap + at) * w) ws' ≡ take (((k + 1) * cap + at) * w) ws → drop (((k + 1) * cap + at) * w + w) ws' ≡ drop (((k + 1) * cap + at) * w + w) ws
      → x ≡ Some (take w (drop (((k + 1) * cap + at) * w) ws'))
      → IsPlace m.start 1 cap m'.start → m'.count + 1 ≡ m.count
      → (rest : List Entry) × (slice_get (queues_in w cap ms ws) k ≡ Some (Some (take w (drop ((k * cap + m.start) * w) ws)) ∷ rest))
      × (queues_in w cap (set (set ms (k + 1) n') k m') ws' ≡ set (put_last (k + 1) x (queues_in w cap ms ws)) k rest)
  pass_is ws' at m' n' x free is start count before after out is_m count_m =
      let qs : List (List Entry) = queues_in w cap ms ws in
      let ms1 : List Mark = set ms (k + 1) n' in
      let other : k + 1 ≢ k = (λ (e : k + 1 ≡ k). absurd (omega (arith, e))) in
      let put : queues_in w cap ms1 ws' ≡ put_last (k + 1) x qs =
      put_is w cap ms ws (k + 1) n at_n within_n ws' at n' free is start count before after
      ∙ ap (λ (z : Entry). put_last (k + 1) z qs) (sym out) in
      let at_k' : slice_get ms1 k ≡ Some m = other_at ms (k + 1) k n' other ∙ at_k in
      let first = drop_is w cap ms ws k m at_k within m' is_m count_m in
      let second = drop_is w cap ms1 ws' k m at_k' within m' is_m count_m in
      let moved : slice_get (queues_in w cap ms1 ws') k ≡ slice_get qs k =
      ap (λ (z : List (List Entry)). slice_get z k) put ∙ other_at qs (k + 1) k (get_or qs (k + 1) [] ++ x ∷ []) other in
      let same : second.0 ≡ first.0 = tails (Some (take w (drop ((k * cap + m.start) * w) ws'))) (Some (take w (drop ((k * cap + m.start) * w) ws))) second.0 first.0 (sym second.1 ∙ moved ∙ first.1) in
      (first.0, first.1, second.2 ∙ ap (λ (z : List (List Entry)). set z k second.0) put ∙ ap (λ (z : List Entry). set (put_last (k + 1) x qs) k z) same)
    where
      tails : (a b : Entry) (xs ys : List Entry) → ◌≡◌ (Some (a ∷ xs)) (Some (b ∷ ys)) → xs ≡ ys
      tails a b xs ys e = cc

-- the words of a place are within the list, and the places of a queue are few
pub fits_at : (w cap n j at len : ℕ) → j < n → at < cap → len ≡ n * cap * w → (j * cap + at) * w + w ≤ len
fits_at w cap n j at len low room size =
    let up : j + 1 ≤ n = omega (arith, low) in
    let lane : j * cap + at + 1 ≤ n * cap = omega (arith, mul-le-mul_left cap up, room) in
    omega (arith, mul-le-mul_left w lane, size)

pub few_at : (cap n j most : ℕ) → j < n → n * cap < most → j * cap + cap < most
few_at cap n j most low few =
    let up : j + 1 ≤ n = omega (arith, low) in
    omega (arith, mul-le-mul_left cap up, few)

-- a list that is written over from the first item on
pub all_over : (old new : List ℕ) → length new ≡ length old → take (length old) (new ++ drop (length new) old) ≡ new
all_over old new size =
    ap (λ (n : ℕ). take n (new ++ drop (length new) old)) (sym size) ∙ take-append_seam new (drop (length new) old)

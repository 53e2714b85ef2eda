-- What a push and a pop leave of the entries.
use Rattle.std.proofs.Common.{◌≡◌, ℕ, ℤ, ◌<◌, false, eqb, List, [], ◌∷◌, ◌++◌, length, map, take, drop, sym, ◌∙◌, ap, subst, inl, inr}
use Rattle.std.proofs.lemmas.List.{map-append, length-map, take_at}
use Rattle.std.specs.Prelude.{int_lt}
use Rattle.std.specs.List.{IsDistinct, All}
use Rattle.std.specs.List.Sorted.{IsPermutation}
use Rattle.std.specs.BinaryHeap.{IsUpperBound}
use Rattle.std.specs.Ordering.{is_lt, nat_cmp}
use Rattle.pifo_rank.specs.declared.waiting.Waiting.{Waiting}
use Rattle.pifo_rank.specs.Queue.{Held, Queue}
use Rattle.pifo_rank.specs.ByKey.{by_key}
use Rattle.pifo_rank.specs.Kept.{held_of, arrival_of, in_order, serving_order}
use Rattle.pifo_rank.proofs.Arrivals.{In, all_in, in_by_key_back, by_key_push, by_key_length, Placed, placed}
use Rattle.pifo_rank.proofs.Serving.{ranked, less, Serves, serves}

pub length_in_order : (waiting : List Waiting) → length (in_order waiting) ≡ length waiting
length_in_order waiting = length-map (by_key arrival_of waiting) held_of ∙ by_key_length arrival_of waiting

-- one more arrives
pub in_order_push : (x : Waiting) (xs ys : List Waiting) → All (λ (w : Waiting). w.arrival < x.arrival) xs → IsDistinct eqb (map arrival_of xs) → IsPermutation (x ∷ xs) ys → in_order ys ≡ in_order xs ++ held_of x ∷ []
in_order_push x xs ys all d p =
    ap (λ l. map held_of l) (by_key_push arrival_of x xs ys all d p)
    ∙ map-append held_of (by_key arrival_of xs) (x ∷ [])

-- the top of the heap is served
pub pop_serves : (xs ys : List Waiting) (x : Waiting) → IsPermutation xs (x ∷ ys) → IsDistinct eqb (map arrival_of xs) → IsUpperBound serving_order x xs → Serves (in_order xs) (held_of x) (in_order ys)
pop_serves xs ys x p d top =
    let q : Placed arrival_of xs x ys = placed arrival_of xs ys x p d in
    let low : (z : Waiting) → In z (by_key arrival_of xs) → is_lt (serving_order x z) ≡ false =
    λ z i. all_in (λ y. is_lt (serving_order x y) ≡ false) xs top z (in_by_key_back arrival_of z xs i) in
    let at : (z : Waiting) → In z (q.before ++ x ∷ q.after) → is_lt (serving_order x z) ≡ false =
    λ z i. low z (subst (In z) (sym q.whole) i) in
    let is : Serves (map held_of (q.before ++ x ∷ q.after)) (held_of x) (map held_of (q.before ++ q.after)) =
    serves held_of q.before q.after x
    (λ z i. (ranked (int_lt z.rank x.rank) (int_lt x.rank z.rank) (nat_cmp z.arrival x.arrival) (at z i)).0)
    (λ z i. (ranked (int_lt z.rank x.rank) (int_lt x.rank z.rank) (nat_cmp z.arrival x.arrival) (at z (in_front z q.before (x ∷ q.after) i))).1 (less z.arrival x.arrival (q.earlier z i))) in
    subst (λ l. Serves l (held_of x) (in_order ys)) (sym (ap (λ l. map held_of l) q.whole))
    (subst (λ l. Serves (map held_of (q.before ++ x ∷ q.after)) (held_of x) l) (sym (ap (λ l. map held_of l) q.others)) is)
  where
    in_front : (z : Waiting) (front back : List Waiting) → In z front → In z (front ++ back)
    in_front z [] back h = absurd h
    in_front z (a ∷ front) back (inl e) = inl e
    in_front z (a ∷ front) back (inr h) = inr (in_front z front back h)

abbrev pub waits : ℤ → ℕ → List ℕ → Waiting
waits rank arrival words = record { rank = rank; arrival = arrival; words = words }

-- what lies in the heap once the words were written over a spare packet
pub arrives : (r rank : ℤ) (n width : ℕ) (packet new words : List ℕ) (xs ys : List Waiting) → r ≡ rank → length packet ≡ width → new ≡ words → length words ≡ width → IsPermutation (waits r n (take (length packet) (new ++ drop (length new) packet)) ∷ xs) ys → IsPermutation (waits rank n words ∷ xs) ys
arrives r rank n width packet new words xs ys same wide is fits p =
    let size : length new ≡ length packet = ap length is ∙ fits ∙ sym wide in
    let whole : take (length packet) (new ++ drop (length new) packet) ≡ words = take_at new (drop (length new) packet) (length packet) size ∙ is in
    subst (λ z. IsPermutation (waits rank n z ∷ xs) ys) whole
    (subst (λ z. IsPermutation (waits z n (take (length packet) (new ++ drop (length new) packet)) ∷ xs) ys) same p)

abbrev pub queue : ℕ → ℕ → ℕ → List Held → Queue
queue pushes room width entries = record { entries = entries; pushes = pushes; room = room; width = width }

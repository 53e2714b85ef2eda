-- Which entry a queue serves.
use Rattle.std.proofs.Common.{◌≡◌, ℕ, ◌+◌, ◌<◌, Bool, true, false, cond, not, ltb, eqb, ◌&&◌, Some, List, [], ◌∷◌, ◌++◌, length, map, slice_get, refl, sym, ◌∙◌, ap, inl, inr, arith}
use Rattle.std.proofs.lemmas.Bool.{cond-true, cond-false, false≢true}
use Rattle.std.specs.Prelude.{int_lt}
use Rattle.std.specs.List.{list_all, position_or_len, remove}
use Rattle.std.specs.declared.cmp.Ordering.{Ordering}
use Rattle.std.proofs.Common.{Less, Equal, Greater}
use Rattle.std.specs.Ordering.{is_lt, ordering_then, nat_cmp}
use Rattle.std.proofs.lemmas.Bool.Decides.{nat_tests}
use Rattle.pifo_rank.specs.Queue.{Held, is_least, head, served, rest}
use Rattle.pifo_rank.proofs.Arrivals.{In}

-- what the order of a heap says of the item on top: s and t are whether the other's rank is less and greater, and o compares the arrivals
pub ranked : (s t : Bool) (o : Ordering) → is_lt (ordering_then (cond s Less (cond t Greater Equal)) o) ≡ false → (s ≡ false) × (is_lt o ≡ true → t ≡ true)
ranked true t o h = absurd (false≢true (sym h))
ranked false true o h = (refl, λ k. refl)
ranked false false o h = (refl, λ k. absurd (false≢true (sym h ∙ k)))

pub less : (m n : ℕ) → m < n → is_lt (nat_cmp m n) ≡ true
less m n h =
    let t : ltb m n ≡ true = grind (arith, nat_tests, h) in
    ap (λ b. is_lt (cond b Less (cond (eqb m n) Equal Greater))) t

-- e is served of the entries, and these stay
pub record Serves (entries : List Held) (e : Held) (others : List Held) : Type 0 where
  pub first : served entries ≡ Some e
  pub stay : rest entries ≡ others

module _ {X : Type 0} (entry : X → Held) where
  every : (p : Held → Bool) (xs : List X) → ((z : X) → In z xs → p (entry z) ≡ true) → list_all p (map entry xs) ≡ true
  every p [] h = refl
  every p (x ∷ xs) h =
      ap (λ b. b && list_all p (map entry xs)) (h x (inl refl)) ∙ every p xs (λ z i. h z (inr i))

  and_false : (b : Bool) → (b && false) ≡ false
  and_false true = refl
  and_false false = refl

  some_not : (p : Held → Bool) (xs : List X) (x : X) → In x xs → p (entry x) ≡ false → list_all p (map entry xs) ≡ false
  some_not p [] x i e = absurd i
  some_not p (y ∷ ys) x (inl i) e = ap (λ b. b && list_all p (map entry ys)) (ap (λ w. p (entry w)) i ∙ e)
  some_not p (y ∷ ys) x (inr i) e = ap (λ b. p (entry y) && b) (some_not p ys x i e) ∙ and_false (p (entry y))

  first_at : (test : Held → Bool) (before after : List X) (x : X) → ((z : X) → In z before → test (entry z) ≡ false) → test (entry x) ≡ true → position_or_len test (map entry (before ++ x ∷ after)) ≡ length before
  first_at test [] after x h t =
      cond-false (not (test (entry x))) (1 + position_or_len test (map entry after)) 0 (ap not t)
  first_at test (a ∷ before) after x h t =
      let later : position_or_len test (map entry (before ++ x ∷ after)) ≡ length before = first_at test before after x (λ z i. h z (inr i)) t in
      let more : 1 + position_or_len test (map entry (before ++ x ∷ after)) ≡ length (a ∷ before) = omega (arith, later) in
      cond-true (not (test (entry a))) (1 + position_or_len test (map entry (before ++ x ∷ after))) 0 (ap not (h a (inl refl))) ∙ more

  at_seam : (before after : List X) (x : X) → slice_get (map entry (before ++ x ∷ after)) (length before) ≡ Some (entry x)
  at_seam [] after x = refl
  at_seam (a ∷ before) after x = at_seam before after x

  without : (before after : List X) (x : X) → remove (map entry (before ++ x ∷ after)) (length before) ≡ map entry (before ++ after)
  without [] after x = refl
  without (a ∷ before) after x = ap (λ l. entry a ∷ l) (without before after x)

  in_seam : (before after : List X) (x : X) → In x (before ++ x ∷ after)
  in_seam [] after x = inl refl
  in_seam (a ∷ before) after x = inr (in_seam before after x)

  -- the first of those that no rank is below
  pub serves : (before after : List X) (x : X) → ((z : X) → In z (before ++ x ∷ after) → int_lt (entry z).rank (entry x).rank ≡ false) → ((z : X) → In z before → int_lt (entry x).rank (entry z).rank ≡ true) → Serves (map entry (before ++ x ∷ after)) (entry x) (map entry (before ++ after))
  serves before after x low high =
      let xs : List X = before ++ x ∷ after in
      let place : head (map entry xs) ≡ length before =
      first_at (is_least (map entry xs)) before after x
      (λ z i. some_not (λ other. not (int_lt other.rank (entry z).rank)) xs x (in_seam before after x) (ap not (high z i)))
      (every (λ other. not (int_lt other.rank (entry x).rank)) xs (λ z i. ap not (low z i))) in
      record {
        first = ap (λ k. slice_get (map entry xs) k) place ∙ at_seam before after x;
        stay = ap (λ k. remove (map entry xs) k) place ∙ without before after x;
      }

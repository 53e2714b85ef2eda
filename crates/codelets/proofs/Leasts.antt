-- The least statements of classes.
use Rattle.std.proofs.Common.{◌≡◌, ℕ, ◌<◌, ◌≤◌, Bool, true, false, ◌&&◌, nat_lt, List, [], length, get_or, refl, sym, ap, ◌∙◌, subst, arith}
use Rattle.std.specs.List.{list_any, filter, range_with_len}
use Rattle.std.proofs.lemmas.Bool.{lt-ltb, not-true}
use Rattle.codelets.specs.Lists.{IsIn}
use Rattle.codelets.specs.Linked.{Linked, count, is_first, numbers, together}
use Rattle.codelets.proofs.Lists.{in_range, none_in, range_in}
use Rattle.codelets.proofs.Owned.{skip_to}
use Rattle.codelets.proofs.Tables.{in_at}

-- none of its class is before the least
pub none_before : (P : Linked) (a : ℕ) → a ≤ count P → is_first P a ≡ true → [] ≡ filter (together P a) (range_with_len 0 a)
none_before P a within least =
    skip_to (together P a) 0 a [] (omega arith) refl (λ b low less.
    let none : list_any (λ x. nat_lt x a && together P a x) (numbers P) ≡ false = not-true _ least in
    let here : (nat_lt b a && together P a b) ≡ false = none_in (λ x. nat_lt x a && together P a x) (numbers P) b none (in_range 0 (count P) b (omega arith) (omega arith)) in
    sym (ap (λ (t : Bool). t && together P a b) (lt-ltb b a less)) ∙ here)

-- a number at a place of the numbers below n is below n
pub number_below : (xs : List ℕ) (n i : ℕ) → xs ≡ range_with_len 0 n → i < length xs → get_or xs i 0 < n
number_below xs n i is h =
    let r = range_in 0 n (get_or xs i 0) (subst (λ (ys : List ℕ). IsIn (get_or xs i 0) ys) is (in_at xs i 0 h)) in
    let high = r.1 in
    omega arith

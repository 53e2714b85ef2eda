-- Used numbers, one operand or statement more.
use Rattle.std.proofs.Common.{◌≡◌, ℕ, ◌+◌, Bool, true, false, List, [], ◌∷◌, Option, refl, sym, ap, ◌∙◌}
use Rattle.std.specs.Prelude.{◌||◌, ◌&&◌, not}
use Rattle.std.specs.List.{list_any}
use Rattle.dom_flat.specs.declared.line.Line.{Line}
use Rattle.codelets.specs.Answer.{line_in}
use Rattle.codelets.specs.Cut.{cut, line_uses, lines_by_number}
use Rattle.codelets.specs.Linked.{Linked, holds_for, uses_value}
use Rattle.codelets.specs.Lists.{has, meet}
use Rattle.codelets.specs.Used.{Added, AreUsed}
use Rattle.codelets.proofs.ByNumber.{line_in_is}

or_none : (a : Bool) → a ≡ (a || false)
or_none true = refl
or_none false = refl

-- nothing comes by no test
pub none_added : (fields : ℕ) (old : List ℕ) → Added fields (λ v. false) old old
none_added fields old a = or_none (has old a)

-- a test of any element of one list and any of another, the other way round
any_both : {X : Type 0} (f g : X → Bool) (xs : List X) → list_any (λ x. f x || g x) xs ≡ (list_any f xs || list_any g xs)
any_both f g [] = refl
any_both f g (x ∷ xs) = turn (f x) (g x) (list_any f xs) (list_any g xs) (any_both f g xs)
  where
    turn : (a b c d : Bool) → list_any (λ x. f x || g x) xs ≡ (c || d) → ((a || b) || list_any (λ x. f x || g x) xs) ≡ ((a || c) || (b || d))
    turn true b c d e = refl
    turn false true true d e = refl
    turn false true false d e = refl
    turn false false c d e = e

any_false : {X : Type 0} (xs : List X) → list_any (λ x. false) xs ≡ false
any_false [] = refl
any_false (x ∷ xs) = any_false xs

any_turned : {X Y : Type 0} (r : X → Y → Bool) (xs : List X) (ys : List Y) → list_any (λ y. list_any (λ x. r x y) xs) ys ≡ list_any (λ x. list_any (r x) ys) xs
any_turned r xs [] = sym (any_false xs)
any_turned r xs (y ∷ ys) =
    ap (λ (b : Bool). list_any (λ x. r x y) xs || b) (any_turned r xs ys) ∙ sym (any_both (λ x. r x y) (λ x. list_any (r x) ys) xs)

any_same : (f g : ℕ → Bool) (xs : List ℕ) → ((x : ℕ) → f x ≡ g x) → list_any f xs ≡ list_any g xs
any_same f g [] same = refl
any_same f g (x ∷ xs) same = ap (λ (b : Bool). b || list_any f xs) (same x) ∙ ap (λ (b : Bool). g x || b) (any_same f g xs same)

and_turned : (a b : Bool) → (a && b) ≡ (b && a)
and_turned true true = refl
and_turned true false = refl
and_turned false true = refl
and_turned false false = refl

-- a codelet uses another that has a used number
pub used_use : (fields : ℕ) (uses : ℕ → ℕ → Bool) (c d used : List ℕ) → AreUsed fields (λ v. list_any (uses v) c) used
    → (meet d used && not (meet c d)) ≡ (not (meet c d) && list_any (λ b. list_any (λ a. uses (fields + a) b) d) c)
used_use fields uses c d used are =
    let each : meet d used ≡ list_any (λ a. list_any (uses (fields + a)) c) d = any_same (has used) (λ a. list_any (uses (fields + a)) c) d are in
    and_turned (meet d used) (not (meet c d)) ∙ ap (λ (b : Bool). not (meet c d) && b) (each ∙ sym (any_turned (λ a b. uses (fields + a) b) d c))

-- where a table has a statement, its uses are those of the number
pub line_added : (P : Linked) (table : List (Option Line)) (number fields : ℕ) (o : Option Line) (old new : List ℕ) → table ≡ lines_by_number (cut P) → line_in table number ≡ o
    → Added fields (λ v. holds_for (uses_value v) o) old new → Added fields (λ v. line_uses (cut P) v number) old new
line_added P table number fields o old new is at m a =
    m a ∙ ap (λ (x : Option Line). has old a || holds_for (uses_value (fields + a)) x) (sym at ∙ ap (λ (t : List (Option Line)). line_in t number) is ∙ line_in_is P number)

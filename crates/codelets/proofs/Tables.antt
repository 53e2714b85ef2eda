-- Tables of statements by number.
use Rattle.std.proofs.Common.{◌≡◌, ℕ, zero, suc, ◌+◌, ◌-◌, ◌*◌, ◌<◌, ◌≤◌, Bool, true, false, List, [], ◌∷◌, ◌++◌, Option, Some, None, length, map, get_or, refl, sym, ap, ◌∙◌, arith, inl, inr, if◌then◌else◌}
use Rattle.std.specs.Prelude.{slice_get}
use Rattle.std.specs.List.{range_with_len}
use Rattle.std.proofs.lemmas.Bool.{le-ltb}
use Rattle.std.proofs.lemmas.List.FromFn.{map-range_with_len_more}
use Rattle.dom_flat.specs.declared.line.Line.{Line}
use Rattle.codelets.specs.Lists.{IsIn, has}
use Rattle.codelets.specs.Linked.{Linked, count, twins_of}
use Rattle.dom_flat.specs.Lines.{with_operands}
use Rattle.codelets.specs.Cut.{cut, line_of, option_line, outer, seen_by}
use Rattle.codelets.specs.Cut.{lines_by_number}
use Rattle.codelets.proofs.Lists.{has_in}
use Rattle.codelets.proofs.Classes.{twin_inner}

pub map_more : {X : Type 0} (f : ℕ → X) (k : ℕ) (xs : List X) (y : X) → xs ≡ map f (range_with_len 0 k) → y ≡ f k → xs ++ y ∷ [] ≡ map f (range_with_len 0 (k + 1))
map_more f k xs y e is =
    let z : 0 + k ≡ k = omega arith in
    ap (λ ys. ys ++ y ∷ []) e ∙ ap (λ x. map f (range_with_len 0 k) ++ x ∷ []) is ∙ sym (map-range_with_len_more f 0 k k z)

pub read_range : {X : Type 0} (f : ℕ → X) (k m i : ℕ) (x : X) → slice_get (map f (range_with_len k m)) i ≡ Some x → x ≡ f (k + i)
read_range f k zero i x e = absurd (cc)
read_range f k (suc m) zero x e = let z : k ≡ k + 0 = omega arith in let same : f k ≡ x = cc in sym same ∙ ap f z
read_range f k (suc m) (suc i) x e = let z : k + 1 + i ≡ k + suc i = omega arith in read_range f (k + 1) m i x e ∙ ap f z

pub range_length : {X : Type 0} (f : ℕ → X) (k m : ℕ) → length (map f (range_with_len k m)) ≡ m
range_length f k zero = refl
range_length f k (suc m) = ap suc (range_length f (k + 1) m)

pub in_at : (xs : List ℕ) (k d : ℕ) → k < length xs → IsIn (get_or xs k d) xs
in_at [] k d h = absurd (omega arith)
in_at (x ∷ xs) zero d h = inl refl
in_at (x ∷ xs) (suc k) d h = inr (in_at xs k d (omega arith))

-- a table has the statement with a number
pub table_read : (P : Linked) (number : ℕ) (o : Option Line) → slice_get (lines_by_number (cut P)) number ≡ Some o → line_of (cut P) number ≡ o
table_read P number o e = let z : 0 + number ≡ number = omega arith in sym (read_range (line_of (cut P)) 0 (2 * count P) number o e ∙ ap (line_of (cut P)) z)

-- past it there is none
pub table_past : (P : Linked) (number : ℕ) → length (lines_by_number (cut P)) ≤ number → line_of (cut P) number ≡ None
table_past P number h =
    let size : length (lines_by_number (cut P)) ≡ 2 * count P = range_length (line_of (cut P)) 0 (2 * count P) in
    ap (λ (t : Bool). if t then option_line (with_operands (seen_by (cut P) number)) (slice_get P.lines number) else (if has (twins_of P) (number - count P) then option_line (with_operands (outer (cut P))) (slice_get P.lines (number - count P)) else None)) (le-ltb number (count P) (omega arith))
    ∙ ap (λ (t : Bool). if t then option_line (with_operands (outer (cut P))) (slice_get P.lines (number - count P)) else None) (none (has (twins_of P) (number - count P)) refl size)
  where
    none : (b : Bool) → has (twins_of P) (number - count P) ≡ b → length (lines_by_number (cut P)) ≡ 2 * count P → b ≡ false
    none false e size = refl
    none true e size = absurd (let low = (twin_inner P (number - count P) (has_in (twins_of P) (number - count P) e)).0 in omega arith)

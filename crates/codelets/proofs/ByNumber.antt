-- The table of statements by number has the statement of each number.
use Rattle.std.proofs.Common.{◌≡◌, ℕ, zero, suc, ◌+◌, ◌-◌, ◌*◌, ◌<◌, ◌≤◌, Bool, true, false, None, map, get_or, refl, sym, ap, ◌∙◌, arith, ⊎_elim, if◌then◌else◌}
use Rattle.std.specs.Prelude.{slice_get}
use Rattle.std.specs.List.{range_with_len}
use Rattle.std.proofs.lemmas.Bool.{cases_lt, le-ltb}
use Rattle.codelets.specs.Lists.{has}
use Rattle.codelets.specs.Linked.{Linked, count, twins_of}
use Rattle.dom_flat.specs.Lines.{with_operands}
use Rattle.codelets.specs.Cut.{cut, line_of, lines_by_number, option_line, outer, seen_by}
use Rattle.codelets.specs.Answer.{line_in}
use Rattle.codelets.proofs.Lists.{has_in}
use Rattle.codelets.proofs.Classes.{twin_inner}

at_number : {X : Type 0} (f : ℕ → X) (d : X) (k n i : ℕ) → i < n → get_or (map f (range_with_len k n)) i d ≡ f (k + i)
at_number f d k zero i h = absurd (omega arith)
at_number f d k (suc n) zero h = ap f (let e : k ≡ k + 0 = omega arith in e)
at_number f d k (suc n) (suc i) h = at_number f d (k + 1) n i (omega arith) ∙ ap f (let e : k + 1 + i ≡ k + suc i = omega arith in e)

past_numbers : {X : Type 0} (f : ℕ → X) (d : X) (k n i : ℕ) → n ≤ i → get_or (map f (range_with_len k n)) i d ≡ d
past_numbers f d k zero i h = refl
past_numbers f d k (suc n) zero h = absurd (omega arith)
past_numbers f d k (suc n) (suc i) h = past_numbers f d (k + 1) n i (omega arith)

-- a number past the twins has no statement
line_past : (P : Linked) (b : ℕ) → 2 * count P ≤ b → line_of (cut P) b ≡ None
line_past P b h =
    ap (λ (t : Bool). if t then option_line (with_operands (seen_by (cut P) b)) (slice_get P.lines b) else (if has (twins_of P) (b - count P) then option_line (with_operands (outer (cut P))) (slice_get P.lines (b - count P)) else None)) (le-ltb b (count P) (omega arith))
    ∙ ap (λ (t : Bool). if t then option_line (with_operands (outer (cut P))) (slice_get P.lines (b - count P)) else None) (none (has (twins_of P) (b - count P)) refl)
  where
    none : (x : Bool) → has (twins_of P) (b - count P) ≡ x → has (twins_of P) (b - count P) ≡ false
    none false e = e
    none true e = absurd (let low = (twin_inner P (b - count P) (has_in (twins_of P) (b - count P) e)).0 in omega arith)

pub line_in_is : (P : Linked) (b : ℕ) → line_in (lines_by_number (cut P)) b ≡ line_of (cut P) b
line_in_is P b =
    ⊎_elim (λ (h : b < 2 * count P). at_number (line_of (cut P)) None 0 (2 * count P) b h ∙ ap (line_of (cut P)) (let e : 0 + b ≡ b = omega arith in e))
    (λ (h : 2 * count P ≤ b). past_numbers (line_of (cut P)) None 0 (2 * count P) b h ∙ sym (line_past P b h)) (cases_lt b (2 * count P))

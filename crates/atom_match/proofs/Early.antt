-- The statements of a codelet use earlier values of it alone.
use Rattle.std.proofs.Common.{◌≡◌, ℕ, ◌+◌, ◌-◌, ◌<◌, Bool, true, false, not, ◌||◌, nat_lt, nat_le, Some, length, refl, sym, ◌∙◌, subst, arith}
use Rattle.std.specs.Prelude.{slice_get}
use Rattle.std.proofs.lemmas.Bool.{and_parts, leb-true, lt-ltb, or_left, or_right}
use Rattle.dom_flat.specs.declared.line.Operand.{Operand}
use Rattle.dom_flat.specs.declared.line.Operand.TheVariants as operand
use Rattle.dom_flat.specs.declared.line.Line.{Line}
use Rattle.dom_flat.specs.Lines.{operands_of}
use Rattle.codelets.specs.declared.answer.Codelets.{Codelets}
use Rattle.codelets.specs.declared.codelet.Codelet.{Codelet}
use Rattle.codelets.specs.declared.codelet.Kind.TheVariants.{Stateful}
use Rattle.codelets.specs.Lists.{IsIn, has}
use Rattle.codelets.specs.Cut.{line_of}
use Rattle.codelets.specs.Flat.{cut_of}
use Rattle.codelets.proofs.Lists.{has_in}
use Rattle.atom_match.specs.Classes.{class_of, in_class}
use Rattle.atom_match.specs.Table.{IsEarlier, is_early, operand_passes}
use Rattle.atom_match.proofs.Given.{IsCodelet, all_from, below, has_state, its_codelet, laws, line_is}

module _ (cs : Codelets) (c : Codelet) (is : IsCodelet cs c) where
  earlier_value : (b u : ℕ) (l : Line) → IsIn b c.lines → line_of (cut_of cs.flat) b ≡ Some l → IsIn (operand.Value u) (operands_of l) → is_early (class_of cs c) (length cs.flat.fields + b) u ≡ true
  earlier_value b u l bc at i = by_own (in_class (class_of cs c) u) refl
    where
      by_own : (x : Bool) → in_class (class_of cs c) u ≡ x → (nat_lt u (length cs.flat.fields + b) || not x) ≡ true
      by_own false e = or_right (nat_lt u (length cs.flat.fields + b)) true refl
      by_own true e =
          let p = and_parts (nat_le (length cs.flat.fields) u) (has c.lines (u - length cs.flat.fields)) e in
          let le = leb-true (length cs.flat.fields) u p.0 in
          let a : ℕ = u - length cs.flat.fields in
          let at_a : u ≡ length cs.flat.fields + a = omega arith in
          let less : a < b = (laws cs).earlier c.lines b a l is.member bc (has_in c.lines a p.1) at (subst (λ (v : ℕ). IsIn (operand.Value v) (operands_of l)) at_a i) in
          or_left (nat_lt u (length cs.flat.fields + b)) false (lt-ltb u (length cs.flat.fields + b) (omega (arith, le, less)))

  earlier_operand : (b : ℕ) (l : Line) → IsIn b c.lines → line_of (cut_of cs.flat) b ≡ Some l → (o : Operand) → IsIn o (operands_of l) → operand_passes (is_early (class_of cs c) (length cs.flat.fields + b)) o ≡ true
  earlier_operand b l bc at (operand.Const w) i = refl
  earlier_operand b l bc at (operand.Value u) i = earlier_value b u l bc at i

  pub earlier : c.kind ≡ Stateful → IsEarlier (class_of cs c) (length cs.flat.lines)
  earlier kind = record {
    some_fields = cs.flat.some_fields;
    within = all_from (λ b. nat_lt b (length cs.flat.lines)) c.lines (λ b i. lt-ltb b (length cs.flat.lines) (below cs c is (has_state cs c is kind) b i));
    earlier = λ b l h at. all_from (operand_passes (is_early (class_of cs c) (length cs.flat.fields + b))) (operands_of l) (earlier_operand b l (has_in c.lines b h) (sym (line_is cs b) ∙ at));
  }

pub codelet_earlier : (cs : Codelets) (k : ℕ) (c : Codelet) → slice_get cs.list k ≡ Some c → c.kind ≡ Stateful → IsEarlier (class_of cs c) (length cs.flat.lines)
codelet_earlier cs k c e kind = earlier cs c (its_codelet cs k c e) kind

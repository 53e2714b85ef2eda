-- A statement with twins for operands makes the same word, and a twin makes its original's word.
use Rattle.std.proofs.Common.{◌≡◌, ℕ, ◌+◌, ◌-◌, ◌<◌, ◌≤◌, Bool, true, false, nat_lt, List, [], ◌∷◌, Option, Some, None, length, refl, sym, ap, ◌∙◌, arith, inl, inr, if◌then◌else◌}
use Rattle.std.specs.Prelude.{slice_get}
use Rattle.std.specs.List.{AllByRecursion as Every}
use Rattle.std.proofs.lemmas.Bool.{ltb-false, lt-ltb, le-ltb}
use Rattle.dom_words.specs.State.{Hash}
use Rattle.dom_flat.specs.declared.line.Operand.{Operand}
use Rattle.dom_flat.specs.declared.line.Operand.TheVariants.{Const, Value}
use Rattle.dom_flat.specs.declared.line.Line.{Line}
use Rattle.dom_flat.specs.Lines.{operands_of, with_operands}
use Rattle.dom_flat.specs.Meaning.{operand_word, line_word, HoldTogether}
use Rattle.dom_flat.proofs.Run.{line_word-with}
use Rattle.codelets.specs.Lists.{IsIn, has}
use Rattle.codelets.specs.Linked.{Linked, IsLinked, count, together}
use Rattle.codelets.specs.Cut.{Cut, cut, option_line, outer, seen_by, line_of}
use Rattle.codelets.specs.Extended.{extended}
use Rattle.codelets.proofs.Lists.{at_within}
use Rattle.codelets.proofs.Given.{used_before}

pub line_low : (D : Cut) (b : ℕ) → b < count D.linked → line_of D b ≡ option_line (with_operands (seen_by D b)) (slice_get D.linked.lines b)
line_low D b h =
    ap (λ (t : Bool). if t then option_line (with_operands (seen_by D b)) (slice_get D.linked.lines b) else (if has D.twins (b - count D.linked) then option_line (with_operands (outer D)) (slice_get D.linked.lines (b - count D.linked)) else None)) (lt-ltb b (count D.linked) h)

pub line_high : (D : Cut) (j : ℕ) → has D.twins j ≡ true → line_of D (count D.linked + j) ≡ option_line (with_operands (outer D)) (slice_get D.linked.lines j)
line_high D j e =
    let n : ℕ = count D.linked in
    let at : n + j - n ≡ j = omega arith in
    ap (λ (t : Bool). if t then option_line (with_operands (seen_by D (n + j))) (slice_get D.linked.lines (n + j)) else (if has D.twins (n + j - n) then option_line (with_operands (outer D)) (slice_get D.linked.lines (n + j - n)) else None)) (le-ltb (n + j) n (omega arith))
    ∙ ap (λ (k : ℕ). if has D.twins k then option_line (with_operands (outer D)) (slice_get D.linked.lines k) else None) at
    ∙ ap (λ (t : Bool). if t then option_line (with_operands (outer D)) (slice_get D.linked.lines j) else None) e

module _ (D : Cut) (val : ℕ → ℕ) where
  abbrev ext : ℕ → ℕ
  ext = extended D.linked.fields (count D.linked) val

  pub ext_low : (v : ℕ) → v < D.linked.fields + count D.linked → ext v ≡ val v
  ext_low v h = ap (λ (t : Bool). if t then val v else val (v - count D.linked)) (lt-ltb v (D.linked.fields + count D.linked) h)

  pub ext_high : (v : ℕ) → D.linked.fields ≤ v → ext (v + count D.linked) ≡ val v
  ext_high v h =
      let n : ℕ = count D.linked in
      let back : v + n - n ≡ v = omega arith in
      ap (λ (t : Bool). if t then val (v + n) else val (v + n - n)) (le-ltb (v + n) (D.linked.fields + n) (omega arith)) ∙ ap val back

  -- an operand as users outside have it has its word
  pub outer_word : (o : Operand) → ((u : ℕ) → o ≡ Value u → u < D.linked.fields + count D.linked) → operand_word (outer D o) ext ≡ operand_word o val
  outer_word (Const w) h = refl
  outer_word (Value v) h = by_case (nat_lt v D.linked.fields) refl (has D.twins (v - D.linked.fields))
    where
      by_case : (b : Bool) → nat_lt v D.linked.fields ≡ b → (c : Bool) → operand_word (if b then Value v else (if c then Value (v + count D.linked) else Value v)) ext ≡ val v
      by_case true e c = ext_low v (h v refl)
      by_case false e true = ext_high v (ltb-false v D.linked.fields e)
      by_case false e false = ext_low v (h v refl)

  pub seen_word : (b : ℕ) (o : Operand) → ((u : ℕ) → o ≡ Value u → u < D.linked.fields + count D.linked) → operand_word (seen_by D b o) ext ≡ operand_word o val
  seen_word b (Const w) h = refl
  seen_word b (Value v) h = by_case (nat_lt v D.linked.fields) (together D.linked (v - D.linked.fields) b)
    where
      by_case : (x y : Bool) → operand_word (if x then Value v else (if y then Value v else outer D (Value v))) ext ≡ val v
      by_case true y = ext_low v (h v refl)
      by_case false true = ext_low v (h v refl)
      by_case false false = outer_word (Value v) h

  each_word : (f : Operand → Operand) → ((o : Operand) → ((u : ℕ) → o ≡ Value u → u < D.linked.fields + count D.linked) → operand_word (f o) ext ≡ operand_word o val)
      → (os : List Operand) → ((u : ℕ) → IsIn (Value u) os → u < D.linked.fields + count D.linked) → Every (λ o. operand_word (f o) ext ≡ operand_word o val) os
  each_word f each [] below = tt
  each_word f each (o ∷ os) below = (each o (λ u is. below u (inl (sym is))), each_word f each os (λ u i. below u (inr i)))

  -- with a twin's word that of its original, each statement, twins included, makes its word of the others: for any twins
  line_makes : (hash : Hash) (arrays : List (List ℕ)) (packet : List ℕ) → length packet ≡ D.linked.fields → HoldTogether hash D.linked.lines arrays packet val
      → ((j u : ℕ) (l : Line) → slice_get D.linked.lines j ≡ Some l → IsIn (Value u) (operands_of l) → u < D.linked.fields + j)
      → (b : ℕ) (l : Line) → line_of D b ≡ Some l → ext (D.linked.fields + b) ≡ line_word hash l arrays ext
  line_makes hash arrays packet size makes before b l e = by_case (nat_lt b (count D.linked)) refl e
    where
      made : (j : ℕ) (m : Line) → slice_get D.linked.lines j ≡ Some m → val (D.linked.fields + j) ≡ line_word hash m arrays val
      made j m is = ap (λ (k : ℕ). val (k + j)) (sym size) ∙ makes.made j m is

      below : (j u : ℕ) (m : Line) → slice_get D.linked.lines j ≡ Some m → IsIn (Value u) (operands_of m) → u < D.linked.fields + count D.linked
      below j u m is i = let h = before j u m is i in let k = at_within D.linked.lines j m is in omega arith

      from : (f : Operand → Operand) → ((o : Operand) → ((u : ℕ) → o ≡ Value u → u < D.linked.fields + count D.linked) → operand_word (f o) ext ≡ operand_word o val)
          → (j : ℕ) (found : Option Line) → slice_get D.linked.lines j ≡ found → option_line (with_operands f) found ≡ Some l → (j < count D.linked) × (val (D.linked.fields + j) ≡ line_word hash l arrays ext)
      from f each j None is eq = absurd (cc)
      from f each j (Some m) is eq =
          let same : with_operands f m ≡ l = cc in
          (at_within D.linked.lines j m is, made j m is ∙ sym (line_word-with f hash m arrays ext val (each_word f each (operands_of m) (λ u i. below j u m is i))) ∙ ap (λ (x : Line). line_word hash x arrays ext) same)

      by_twin : (y : Bool) → (if y then option_line (with_operands (outer D)) (slice_get D.linked.lines (b - count D.linked)) else None) ≡ Some l → option_line (with_operands (outer D)) (slice_get D.linked.lines (b - count D.linked)) ≡ Some l
      by_twin true eq = eq
      by_twin false eq = absurd (cc)

      by_case : (x : Bool) → nat_lt b (count D.linked) ≡ x
          → (if x then option_line (with_operands (seen_by D b)) (slice_get D.linked.lines b) else (if has D.twins (b - count D.linked) then option_line (with_operands (outer D)) (slice_get D.linked.lines (b - count D.linked)) else None)) ≡ Some l
          → ext (D.linked.fields + b) ≡ line_word hash l arrays ext
      by_case true h eq =
          let r = from (seen_by D b) (seen_word b) b (slice_get D.linked.lines b) refl eq in
          let less : D.linked.fields + b < D.linked.fields + count D.linked = omega (arith, r.0) in
          ext_low (D.linked.fields + b) less ∙ r.1
      by_case false h eq =
          let r = from (outer D) outer_word (b - count D.linked) (slice_get D.linked.lines (b - count D.linked)) refl (by_twin (has D.twins (b - count D.linked)) eq) in
          let le = ltb-false b (count D.linked) h in
          let at : D.linked.fields + b ≡ D.linked.fields + (b - count D.linked) + count D.linked = omega arith in
          let lo : D.linked.fields ≤ D.linked.fields + (b - count D.linked) = omega arith in
          ap ext at ∙ ext_high (D.linked.fields + (b - count D.linked)) lo ∙ r.1

-- the law of lines
pub line_law : (P : Linked) → IsLinked P → (hash : Hash) (arrays : List (List ℕ)) (packet : List ℕ) (val : ℕ → ℕ) → length packet ≡ P.fields → HoldTogether hash P.lines arrays packet val
    → (b : ℕ) (l : Line) → line_of (cut P) b ≡ Some l → extended P.fields (count P) val (P.fields + b) ≡ line_word hash l arrays (extended P.fields (count P) val)
line_law P ok hash arrays packet val size makes = line_makes (cut P) val hash arrays packet size makes (used_before P ok)

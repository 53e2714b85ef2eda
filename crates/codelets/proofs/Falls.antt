-- What a codelet uses has a lower level.
use Rattle.std.proofs.Common.{◌≡◌, ℕ, suc, ◌+◌, ◌-◌, ◌*◌, ◌<◌, ◌≤◌, Bool, true, false, not, nat_lt, List, [], ◌∷◌, Option, Some, None, map, refl, sym, ap, ◌∙◌, subst, arith, inl, inr, if◌then◌else◌}
use Rattle.std.specs.Prelude.{slice_index}
use Rattle.std.specs.List.{filter, list_any}
use Rattle.std.proofs.lemmas.Bool.{and_parts, and_from, not-true, lt-ltb, le-ltb}
use Rattle.std.proofs.lemmas.List.FromFn.{length-range_with_len}
use Rattle.dom_flat.specs.declared.line.Operand.TheVariants.{Value}
use Rattle.dom_flat.specs.declared.line.Line.{Line}
use Rattle.dom_flat.specs.Lines.{operands_of}
use Rattle.codelets.specs.Lists.{IsIn, max_of, meet}
use Rattle.codelets.specs.Linked.{Linked, IsLinked, count, holds_for, numbers, together, twins_of, uses_value}
use Rattle.codelets.specs.Cut.{Cut, cut, level, line_of, line_uses, longest, uses_codelet}
use Rattle.codelets.proofs.Lists.{in_any, in_range, range_in, meet_apart}
use Rattle.codelets.proofs.Classes.{Shape, Class, Twin, shape_of, in_class, class_in, twin_inner, uses_in, reach_self, reach_step, reach_joined, together_self, together_back, together_joined, leads_ends}
use Rattle.codelets.proofs.Ports.{Port, Fixed, Entered, Inside, Outside, OfTwin, TwinPort, FixedT, EnteredT, OutsideT, OfTwinT, line_port, twin_line_port}
use Rattle.codelets.proofs.Levels.{tally, tally_le, tally_lt, tally_all, level_falls, level_is, class_class, twin_class, class_twin, twin_twin, twin_below}

-- the statement with a number uses a value
pub line_uses_in : (D : Cut) (v b : ℕ) → line_uses D v b ≡ true → (l : Line) × (line_of D b ≡ Some l) × IsIn (Value v) (operands_of l)
line_uses_in D v b e = by_case (line_of D b) refl e
  where
    by_case : (o : Option Line) → line_of D b ≡ o → holds_for (uses_value v) o ≡ true → (l : Line) × (line_of D b ≡ Some l) × IsIn (Value v) (operands_of l)
    by_case None q h = absurd (cc)
    by_case (Some l) q h = (l, q, uses_in v (operands_of l) h)

module _ (P : Linked) (ok : IsLinked P) where
  -- how many statements reach a statement
  rank : ℕ → ℕ
  rank a = tally (λ b. P.reach b a) (numbers P)

  rank_within : (a : ℕ) → rank a ≤ count P
  unfolding rank
  rank_within a = let h = tally_all (λ b. P.reach b a) (numbers P) in let size = length-range_with_len 0 (count P) in omega arith

  passes_on : (a b : ℕ) → a < count P → b < count P → P.reach a b ≡ true → (c : ℕ) → IsIn c (numbers P) → P.reach c a ≡ true → P.reach c b ≡ true
  passes_on a b an bn ab c i ca = let r = range_in 0 (count P) c i in let h = r.1 in reach_joined P ok c a b (omega arith) an bn ca ab

  rank_le : (a b : ℕ) → a < count P → b < count P → P.reach a b ≡ true → rank a ≤ rank b
  unfolding rank
  rank_le a b an bn ab = tally_le (λ c. P.reach c a) (λ c. P.reach c b) (numbers P) (passes_on a b an bn ab)

  rank_lt : (a b : ℕ) → a < count P → b < count P → P.reach a b ≡ true → together P a b ≡ false → rank a < rank b
  unfolding rank
  rank_lt a b an bn ab apart =
      tally_lt (λ c. P.reach c a) (λ c. P.reach c b) (numbers P) b (passes_on a b an bn ab) (in_range 0 (count P) b (omega arith) (omega arith)) (one_way (P.reach b a) refl) (reach_self P ok b bn)
    where
      one_way : (x : Bool) → P.reach b a ≡ x → x ≡ false
      one_way false e = refl
      one_way true e = absurd (let t : together P a b ≡ true = and_from _ _ ab e in cc)

  rank_same : (a b : ℕ) → a < count P → b < count P → together P a b ≡ true → rank a ≡ rank b
  rank_same a b an bn t =
      let r = and_parts (P.reach a b) (P.reach b a) t in
      let le = rank_le a b an bn r.0 in
      let ge = rank_le b a bn an r.1 in
      omega arith

  -- of a number; twins stand between their class and the next
  measure_at : ℕ → ℕ
  measure_at b = if nat_lt b (count P) then suc (count P) * rank b else suc (count P) * rank (b - count P) + (b - count P) + 1

  measure_low : (b : ℕ) → b < count P → measure_at b ≡ suc (count P) * rank b
  unfolding measure_at
  measure_low b h = ap (λ (t : Bool). if t then suc (count P) * rank b else suc (count P) * rank (b - count P) + (b - count P) + 1) (lt-ltb b (count P) h)

  measure_high : (j : ℕ) → measure_at (count P + j) ≡ suc (count P) * rank j + j + 1
  unfolding measure_at
  measure_high j =
      let n : ℕ = count P in
      let back : n + j - n ≡ j = omega arith in
      ap (λ (t : Bool). if t then suc n * rank (n + j) else suc n * rank (n + j - n) + (n + j - n) + 1) (le-ltb (n + j) n (omega arith)) ∙ ap (λ (x : ℕ). suc n * rank x + x + 1) back

  -- of a codelet: that of its first number
  measure : List ℕ → ℕ
  measure c = measure_at (slice_index c 0)

  head_in : (c : List ℕ) (b : ℕ) → IsIn b c → IsIn (slice_index c 0) c
  head_in [] b i = absurd i
  head_in (x ∷ c) b i = inl refl

  -- all numbers of a codelet have its measure
  measure_of : (c : List ℕ) (b : ℕ) → IsIn c (cut P).all → IsIn b c → measure c ≡ measure_at b
  unfolding measure
  measure_of c b ci bc = by_case (shape_of P c ci)
    where
      by_case : Shape P c → measure_at (slice_index c 0) ≡ measure_at b
      by_case (Class a is an first) =
          let p = class_in P a b (subst (λ (z : List ℕ). IsIn b z) is bc) in
          let q = class_in P a (slice_index c 0) (subst (λ (z : List ℕ). IsIn (slice_index c 0) z) is (head_in c b bc)) in
          let t = together_joined P ok (slice_index c 0) a b q.0 an p.0 (together_back P ok a (slice_index c 0) q.1) p.1 in
          measure_low (slice_index c 0) q.0 ∙ ap (λ (r : ℕ). suc (count P) * r) (rank_same (slice_index c 0) b q.0 p.0 t) ∙ sym (measure_low b p.0)
      by_case (Twin j is ji) =
          let p : IsIn b ((count P + j) ∷ []) = subst (λ (z : List ℕ). IsIn b z) is bc in
          elim p [ inl at ↦ ap (λ (z : List ℕ). measure_at (slice_index z 0)) is ∙ ap measure_at (sym at) | inr h ↦ absurd h ]

  -- an operand that is a value of another codelet has a smaller measure
  low_falls : (b a : ℕ) (l : Line) → b < count P → line_of (cut P) b ≡ Some l → IsIn (Value (P.fields + a)) (operands_of l) → (a < count P → together P a b ≡ true → ⊥) → measure_at a < measure_at b
  low_falls b a l bn e i apart = by_case (line_port P ok b l (Value (P.fields + a)) bn e i)
    where
      by_case : Port P b (Value (P.fields + a)) → measure_at a < measure_at b
      by_case (Fixed w is) = absurd (cc)
      by_case (Entered v is h) = absurd (let same : P.fields + a ≡ v = cc in omega arith)
      by_case (Inside x is xn t lt) =
          let same : P.fields + a ≡ P.fields + x = cc in
          let at : x ≡ a = omega arith in
          absurd (apart (omega arith) (subst (λ (y : ℕ). together P y b ≡ true) at t))
      by_case (Outside x is plain step t) =
          let same : P.fields + a ≡ P.fields + x = cc in
          let at : x ≡ a = omega arith in
          let ends = leads_ends P x b step in
          let h = class_class (count P) (rank x) (rank b) (rank_lt x b ends.0 ends.1 (reach_step P ok x b step) t) in
          let low = measure_low x ends.0 in
          let high = measure_low b bn in
          let goal : measure_at x < measure_at b = omega arith in
          subst (λ (y : ℕ). measure_at y < measure_at b) at goal
      by_case (OfTwin x is twin step t) =
          let same : P.fields + a ≡ P.fields + (count P + x) = cc in
          let at : count P + x ≡ a = omega arith in
          let ends = leads_ends P x b step in
          let h = twin_class (count P) (rank x) (rank b) x (rank_lt x b ends.0 ends.1 (reach_step P ok x b step) t) ends.0 in
          let low = measure_high x in
          let high = measure_low b bn in
          let goal : measure_at (count P + x) < measure_at b = omega arith in
          subst (λ (y : ℕ). measure_at y < measure_at b) at goal

  high_falls : (j a : ℕ) (l : Line) → IsIn j (twins_of P) → line_of (cut P) (count P + j) ≡ Some l → IsIn (Value (P.fields + a)) (operands_of l) → measure_at a < measure_at (count P + j)
  high_falls j a l twin e i = by_case (twin_line_port P ok j l (Value (P.fields + a)) twin e i)
    where
      by_case : TwinPort P j (Value (P.fields + a)) → measure_at a < measure_at (count P + j)
      by_case (FixedT w is) = absurd (cc)
      by_case (EnteredT v is h) = absurd (let same : P.fields + a ≡ v = cc in omega arith)
      by_case (OutsideT x is plain step) =
          let same : P.fields + a ≡ P.fields + x = cc in
          let at : x ≡ a = omega arith in
          let ends = leads_ends P x j step in
          let h = class_twin (count P) (rank x) (rank j) j (rank_le x j ends.0 ends.1 (reach_step P ok x j step)) in
          let low = measure_low x ends.0 in
          let high = measure_high j in
          let goal : measure_at x < measure_at (count P + j) = omega arith in
          subst (λ (y : ℕ). measure_at y < measure_at (count P + j)) at goal
      by_case (OfTwinT x is other step lt) =
          let same : P.fields + a ≡ P.fields + (count P + x) = cc in
          let at : count P + x ≡ a = omega arith in
          let ends = leads_ends P x j step in
          let h = twin_twin (count P) (rank x) (rank j) x j (rank_le x j ends.0 ends.1 (reach_step P ok x j step)) lt in
          let low = measure_high x in
          let high = measure_high j in
          let goal : measure_at (count P + x) < measure_at (count P + j) = omega arith in
          subst (λ (y : ℕ). measure_at y < measure_at (count P + j)) at goal

  -- what use of a codelet means
  pub uses_parts : (c d : List ℕ) → uses_codelet (cut P) c d ≡ true → (meet c d ≡ false) × ((b : ℕ) × IsIn b c × ((a : ℕ) × IsIn a d × (line_uses (cut P) (P.fields + a) b ≡ true)))
  uses_parts c d u =
      let r = and_parts (not (meet c d)) _ u in
      let s = in_any (λ b. list_any (λ a. line_uses (cut P) (P.fields + a) b) d) c r.1 in
      let t = in_any (λ a. line_uses (cut P) (P.fields + a) s.0) d s.2 in
      (not-true (meet c d) r.0, (s.0, s.1, (t.0, t.1, t.2)))

  measure_falls : (c d : List ℕ) → IsIn c (cut P).all → IsIn d (cut P).all → uses_codelet (cut P) c d ≡ true → measure d < measure c
  measure_falls c d ci di u =
      let r = uses_parts c d u in
      let b : ℕ = r.1.0 in
      let a : ℕ = r.1.2.0 in
      let s = line_uses_in (cut P) (P.fields + a) b r.1.2.2 in
      let top = measure_of c b ci r.1.1 in
      let bottom = measure_of d a di r.1.2.1 in
      let h : measure_at a < measure_at b = by_case b a s.0 r.1.1 r.1.2.1 r.0 s.1 s.2 (shape_of P c ci) in
      omega arith
    where
      by_case : (b a : ℕ) (l : Line) → IsIn b c → IsIn a d → meet c d ≡ false → line_of (cut P) b ≡ Some l → IsIn (Value (P.fields + a)) (operands_of l) → Shape P c → measure_at a < measure_at b
      by_case b a l bc ad apart e i (Class x is xn first) =
          let p = class_in P x b (subst (λ (z : List ℕ). IsIn b z) is bc) in
          low_falls b a l p.0 e i (λ an t. meet_apart c d a apart (subst (λ (z : List ℕ). IsIn a z) (sym is) (in_class P x a an (together_joined P ok x b a xn p.0 an p.1 (together_back P ok a b t)))) ad)
      by_case b a l bc ad apart e i (Twin j is ji) =
          let p : IsIn b ((count P + j) ∷ []) = subst (λ (z : List ℕ). IsIn b z) is bc in
          elim p [ inl at ↦ subst (λ (y : ℕ). measure_at a < measure_at y) (sym at) (high_falls j a l ji (subst (λ (y : ℕ). line_of (cut P) y ≡ Some l) at e) i) | inr h ↦ absurd h ]

  measure_within : (c : List ℕ) → IsIn c (cut P).all → measure c < longest (cut P)
  measure_within c ci = by_case (shape_of P c ci)
    where
      square : (n : ℕ) → suc n * suc n ≡ (n + 1) * (n + 1)
      square n = let e : suc n ≡ n + 1 = omega arith in ap (λ (m : ℕ). m * m) e

      by_case : Shape P c → measure c < longest (cut P)
      by_case (Class a is an first) =
          let i : IsIn a c = subst (λ (z : List ℕ). IsIn a z) (sym is) (in_class P a a an (together_self P ok a an)) in
          let at = measure_of c a ci i in
          let low = measure_low a an in
          let h = twin_below (count P) (rank a) a (rank_within a) an in
          let q = square (count P) in
          omega arith
      by_case (Twin j is ji) =
          let i : IsIn (count P + j) c = subst (λ (z : List ℕ). IsIn (count P + j) z) (sym is) (inl refl) in
          let at = measure_of c (count P + j) ci i in
          let high = measure_high j in
          let t = twin_inner P j ji in
          let h = twin_below (count P) (rank j) j (rank_within j) t.0 in
          let q = square (count P) in
          omega arith

  -- what a codelet uses has a lower level
  pub level_law : (c d : List ℕ) → IsIn c (cut P).all → IsIn d (cut P).all → uses_codelet (cut P) c d ≡ true → level (cut P) d < level (cut P) c
  level_law c d ci di u = level_falls (uses_codelet (cut P)) (cut P).all measure measure_falls (longest (cut P)) c d (measure_within c ci) ci di u

  -- a level is 1 more than the greatest of those that it uses
  pub level_is_more : (c : List ℕ) → IsIn c (cut P).all → level (cut P) c ≡ suc (max_of (map (level (cut P)) (filter (uses_codelet (cut P) c) (cut P).all)))
  level_is_more c ci = level_is (uses_codelet (cut P)) (cut P).all measure measure_falls (longest (cut P)) c (measure_within c ci) ci

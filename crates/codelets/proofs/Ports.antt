-- Where the operands of statements come from, once twins are put in.
use Rattle.std.proofs.Common.{◌≡◌, ℕ, ◌+◌, ◌-◌, ◌<◌, ◌≤◌, Bool, true, false, not, ◌&&◌, List, Option, Some, None, map, refl, sym, ap, ◌∙◌, subst, arith, ◌⊎◌, inl, inr, if◌then◌else◌}
use Rattle.std.specs.Prelude.{slice_get}
use Rattle.std.specs.List.{list_any}
use Rattle.std.proofs.lemmas.Bool.{and_from, or_left, or_right, not_from_false, lt-ltb, le-ltb, cases_lt}
use Rattle.dom_flat.specs.declared.line.Operand.{Operand}
use Rattle.dom_flat.specs.declared.line.Operand.TheVariants.{Const, Value}
use Rattle.dom_flat.specs.declared.line.Line.{Line}
use Rattle.dom_flat.specs.Lines.{makes, operands_of, uses, with_operands}
use Rattle.dom_flat.proofs.Run.{operands-with}
use Rattle.dep_graph.specs.Leads.{leads}
use Rattle.codelets.specs.Lists.{IsIn, has}
use Rattle.codelets.specs.Linked.{Linked, IsLinked, count, is_inner, is_so, numbers, together, twins_of, uses_value}
use Rattle.codelets.specs.Cut.{cut, option_line, outer, seen_by, line_of}
use Rattle.codelets.proofs.Lists.{any_in, at_within, has_in, in_has, in_range, map_in}
use Rattle.codelets.proofs.Given.{IsMade, in_uses, shown_made, used_before, used_made}
use Rattle.codelets.proofs.Classes.{at_so, user_leads}
use Rattle.codelets.proofs.Twins.{line_low, line_high}
use Rattle.codelets.proofs.Closed.{twins_closed, twins_outside}

module _ (P : Linked) where
  outer_field : (v : ℕ) → v < P.fields → outer (cut P) (Value v) ≡ Value v
  outer_field v h = ap (λ (t : Bool). if t then Value v else (if has (twins_of P) (v - P.fields) then Value (v + count P) else Value v)) (lt-ltb v P.fields h)

  pub seen_field : (b v : ℕ) → v < P.fields → seen_by (cut P) b (Value v) ≡ Value v
  seen_field b v h = ap (λ (t : Bool). if t then Value v else (if together P (v - P.fields) b then Value v else outer (cut P) (Value v))) (lt-ltb v P.fields h)

  pub outer_made : (k : ℕ) → outer (cut P) (Value (P.fields + k)) ≡ (if has (twins_of P) k then Value (P.fields + k + count P) else Value (P.fields + k))
  outer_made k =
      let v : ℕ = P.fields + k in
      let back : v - P.fields ≡ k = omega arith in
      ap (λ (t : Bool). if t then Value v else (if has (twins_of P) (v - P.fields) then Value (v + count P) else Value v)) (le-ltb v P.fields (omega arith))
      ∙ ap (λ (x : ℕ). if has (twins_of P) x then Value (v + count P) else Value v) back

  pub seen_made : (b k : ℕ) → seen_by (cut P) b (Value (P.fields + k)) ≡ (if together P k b then Value (P.fields + k) else outer (cut P) (Value (P.fields + k)))
  seen_made b k =
      let v : ℕ = P.fields + k in
      let back : v - P.fields ≡ k = omega arith in
      ap (λ (t : Bool). if t then Value v else (if together P (v - P.fields) b then Value v else outer (cut P) (Value v))) (le-ltb v P.fields (omega arith))
      ∙ ap (λ (x : ℕ). if together P x b then Value v else outer (cut P) (Value v)) back

  -- within its class a value is seen as it is
  pub seen_inside : (b k : ℕ) → together P k b ≡ true → seen_by (cut P) b (Value (P.fields + k)) ≡ Value (P.fields + k)
  seen_inside b k e = seen_made b k ∙ ap (λ (t : Bool). if t then Value (P.fields + k) else outer (cut P) (Value (P.fields + k))) e

  seen_outside : (b k : ℕ) → together P k b ≡ false → seen_by (cut P) b (Value (P.fields + k)) ≡ outer (cut P) (Value (P.fields + k))
  seen_outside b k e = seen_made b k ∙ ap (λ (t : Bool). if t then Value (P.fields + k) else outer (cut P) (Value (P.fields + k))) e

  -- statement a makes a value that is no inner one
  abbrev pub IsPlain : ℕ → Type 0
  IsPlain a = (l : Line) × (slice_get P.lines a ≡ Some l) × (makes l ≡ true) × (is_inner P a ≡ false)

  -- outside its class a value is seen as it is or as its twin's
  outer_cases : (k : ℕ) (l : Line) → slice_get P.lines k ≡ Some l → makes l ≡ true → (is_inner P k ≡ true → IsIn k (twins_of P))
      → ((outer (cut P) (Value (P.fields + k)) ≡ Value (P.fields + k)) × IsPlain k) ⊎ ((outer (cut P) (Value (P.fields + k)) ≡ Value (P.fields + (count P + k))) × IsIn k (twins_of P))
  outer_cases k l at mk closed = by_case (has (twins_of P) k) refl
    where
      not_inner : has (twins_of P) k ≡ false → (x : Bool) → is_inner P k ≡ x → x ≡ false
      not_inner h false e = refl
      not_inner h true e = absurd (let g : has (twins_of P) k ≡ true = in_has (twins_of P) k (closed e) in cc (g, h))

      by_case : (x : Bool) → has (twins_of P) k ≡ x
          → ((outer (cut P) (Value (P.fields + k)) ≡ Value (P.fields + k)) × IsPlain k) ⊎ ((outer (cut P) (Value (P.fields + k)) ≡ Value (P.fields + (count P + k))) × IsIn k (twins_of P))
      by_case true h =
          let place : P.fields + k + count P ≡ P.fields + (count P + k) = omega arith in
          inr (outer_made k ∙ ap (λ (t : Bool). if t then Value (P.fields + k + count P) else Value (P.fields + k)) h ∙ ap Value place, has_in (twins_of P) k h)
      by_case false h =
          inl (outer_made k ∙ ap (λ (t : Bool). if t then Value (P.fields + k + count P) else Value (P.fields + k)) h, (l, at, mk, not_inner h (is_inner P k) refl))

  -- an operand of statement b, once twins are put in
  pub data Port (b : ℕ) : Operand → Type 0 where
    Fixed : {o : Operand} (w : ℕ) → o ≡ Const w → Port b o
    Entered : {o : Operand} (v : ℕ) → o ≡ Value v → v < P.fields → Port b o
    Inside : {o : Operand} (a : ℕ) → o ≡ Value (P.fields + a) → a < count P → together P a b ≡ true → a < b → Port b o
    Outside : {o : Operand} (a : ℕ) → o ≡ Value (P.fields + a) → IsPlain a → leads P.fields P.lines a b ≡ true → together P a b ≡ false → Port b o
    OfTwin : {o : Operand} (a : ℕ) → o ≡ Value (P.fields + (count P + a)) → IsIn a (twins_of P) → leads P.fields P.lines a b ≡ true → together P a b ≡ false → Port b o

  -- an operand of the twin of statement j
  pub data TwinPort (j : ℕ) : Operand → Type 0 where
    FixedT : {o : Operand} (w : ℕ) → o ≡ Const w → TwinPort j o
    EnteredT : {o : Operand} (v : ℕ) → o ≡ Value v → v < P.fields → TwinPort j o
    OutsideT : {o : Operand} (a : ℕ) → o ≡ Value (P.fields + a) → IsPlain a → leads P.fields P.lines a j ≡ true → TwinPort j o
    OfTwinT : {o : Operand} (a : ℕ) → o ≡ Value (P.fields + (count P + a)) → IsIn a (twins_of P) → leads P.fields P.lines a j ≡ true → a < j → TwinPort j o

  -- an output
  pub data ShownPort : Operand → Type 0 where
    FixedS : {o : Operand} (w : ℕ) → o ≡ Const w → ShownPort o
    EnteredS : {o : Operand} (v : ℕ) → o ≡ Value v → v < P.fields → ShownPort o
    OutsideS : {o : Operand} (a : ℕ) → o ≡ Value (P.fields + a) → IsPlain a → ShownPort o
    OfTwinS : {o : Operand} (a : ℕ) → o ≡ Value (P.fields + (count P + a)) → IsIn a (twins_of P) → ShownPort o

module _ (P : Linked) (ok : IsLinked P) where
  used_here : (b k : ℕ) (l : Line) → slice_get P.lines b ≡ Some l → IsIn (Value (P.fields + k)) (operands_of l) → is_so P (uses_value (P.fields + k)) b ≡ true
  used_here b k l at i = at_so P (uses_value (P.fields + k)) b l at ∙ in_uses (P.fields + k) (operands_of l) i

  pub port_of : (b : ℕ) (l : Line) (o : Operand) → slice_get P.lines b ≡ Some l → IsIn o (operands_of l) → Port P b (seen_by (cut P) b o)
  port_of b l (Const w) at i = Fixed w refl
  port_of b l (Value u) at i = by_field (cases_lt u P.fields)
    where
      by_class : (k : ℕ) (m : Line) → u ≡ P.fields + k → slice_get P.lines k ≡ Some m → makes m ≡ true → (x : Bool) → together P k b ≡ x → Port P b (seen_by (cut P) b (Value u))
      by_class k m is there mk true e =
          Inside k (ap (λ (v : ℕ). seen_by (cut P) b (Value v)) is ∙ seen_inside P b k e) (at_within P.lines k m there) e (let h = used_before P ok b u l at i in omega arith)
      by_class k m is there mk false e =
          let i' : IsIn (Value (P.fields + k)) (operands_of l) = subst (λ (v : ℕ). IsIn (Value v) (operands_of l)) is i in
          let kn : k < count P = at_within P.lines k m there in
          let bn : b < count P = at_within P.lines b l at in
          let step : leads P.fields P.lines k b ≡ true = user_leads P k b m l there at i' in
          let seen : seen_by (cut P) b (Value u) ≡ outer (cut P) (Value (P.fields + k)) = ap (λ (v : ℕ). seen_by (cut P) b (Value v)) is ∙ seen_outside P b k e in
          let some : list_any (λ x. not (together P k x) && is_so P (uses_value (P.fields + k)) x) (numbers P) ≡ true =
          any_in (λ x. not (together P k x) && is_so P (uses_value (P.fields + k)) x) (numbers P) b (in_range 0 (count P) b (omega arith) (omega arith)) (and_from _ _ (not_from_false (together P k b) e) (used_here b k l at i')) in
          elim (outer_cases P k m there mk (λ inner. twins_outside P 0 (count P) k (omega arith) (omega arith) inner (or_right (uses (P.fields + k) P.outputs) _ some))) [
            | inl r ↦ Outside k (seen ∙ r.0) r.1 step e
            | inr r ↦ OfTwin k (seen ∙ r.0) r.1 step e
          ]

      by_field : (u < P.fields) ⊎ (P.fields ≤ u) → Port P b (seen_by (cut P) b (Value u))
      by_field (inl h) = Entered u (seen_field P b u h) h
      by_field (inr h) = let r = used_made P ok b u l at i h in by_class r.0 r.1 r.2 r.3 r.4 (together P r.0 b) refl

  pub twin_port : (j : ℕ) (l : Line) (o : Operand) → IsIn j (twins_of P) → slice_get P.lines j ≡ Some l → IsIn o (operands_of l) → TwinPort P j (outer (cut P) o)
  twin_port j l (Const w) twin at i = FixedT w refl
  twin_port j l (Value u) twin at i = by_field (cases_lt u P.fields)
    where
      by_value : (k : ℕ) (m : Line) → u ≡ P.fields + k → slice_get P.lines k ≡ Some m → makes m ≡ true → TwinPort P j (outer (cut P) (Value u))
      by_value k m is there mk =
          let i' : IsIn (Value (P.fields + k)) (operands_of l) = subst (λ (v : ℕ). IsIn (Value v) (operands_of l)) is i in
          let step : leads P.fields P.lines k j ≡ true = user_leads P k j m l there at i' in
          let low : k < j = let h = used_before P ok j u l at i in omega arith in
          let seen : outer (cut P) (Value u) ≡ outer (cut P) (Value (P.fields + k)) = ap (λ (v : ℕ). outer (cut P) (Value v)) is in
          elim (outer_cases P k m there mk (λ inner. twins_closed P 0 (count P) k j (omega arith) low twin inner (used_here j k l at i'))) [
            | inl r ↦ OutsideT k (seen ∙ r.0) r.1 step
            | inr r ↦ OfTwinT k (seen ∙ r.0) r.1 step low
          ]

      by_field : (u < P.fields) ⊎ (P.fields ≤ u) → TwinPort P j (outer (cut P) (Value u))
      by_field (inl h) = EnteredT u (outer_field P u h) h
      by_field (inr h) = let r = used_made P ok j u l at i h in by_value r.0 r.1 r.2 r.3 r.4

  pub shown_port : (o : Operand) → IsIn o P.outputs → ShownPort P (outer (cut P) o)
  shown_port (Const w) i = FixedS w refl
  shown_port (Value u) i = by_field (shown_made P ok u i)
    where
      by_field : (u < P.fields) ⊎ IsMade P.fields P.lines u → ShownPort P (outer (cut P) (Value u))
      by_field (inl h) = EnteredS u (outer_field P u h) h
      by_field (inr (k, m, is, there, mk)) =
          let i' : IsIn (Value (P.fields + k)) P.outputs = subst (λ (v : ℕ). IsIn (Value v) P.outputs) is i in
          let kn : k < count P = at_within P.lines k m there in
          let seen : outer (cut P) (Value u) ≡ outer (cut P) (Value (P.fields + k)) = ap (λ (v : ℕ). outer (cut P) (Value v)) is in
          elim (outer_cases P k m there mk (λ inner. twins_outside P 0 (count P) k (omega arith) (omega arith) inner (or_left _ _ (in_uses (P.fields + k) P.outputs i')))) [
            | inl r ↦ OutsideS k (seen ∙ r.0) r.1
            | inr r ↦ OfTwinS k (seen ∙ r.0) r.1
          ]

  pub with_from : (f : Operand → Operand) (found : Option Line) (l : Line) (o : Operand) → option_line (with_operands f) found ≡ Some l → IsIn o (operands_of l)
      → (m : Line) × (x : Operand) × (found ≡ Some m) × IsIn x (operands_of m) × (o ≡ f x)
  with_from f None l o e i = absurd (cc)
  with_from f (Some m) l o e i =
      let same : with_operands f m ≡ l = cc in
      let there : IsIn o (map f (operands_of m)) = subst (λ (os : List Operand). IsIn o os) (operands-with f m) (subst (λ (x : Line). IsIn o (operands_of x)) (sym same) i) in
      let r = map_in f (operands_of m) o there in
      (m, r.0, refl, r.1, r.2)

  -- what a statement's line, and a twin's, uses
  pub line_port : (b : ℕ) (l : Line) (o : Operand) → b < count P → line_of (cut P) b ≡ Some l → IsIn o (operands_of l) → Port P b o
  line_port b l o bn e i =
      let r = with_from (seen_by (cut P) b) (slice_get P.lines b) l o (sym (line_low (cut P) b bn) ∙ e) i in
      subst (λ (x : Operand). Port P b x) (sym r.4) (port_of b r.0 r.1 r.2 r.3)

  pub twin_line_port : (j : ℕ) (l : Line) (o : Operand) → IsIn j (twins_of P) → line_of (cut P) (count P + j) ≡ Some l → IsIn o (operands_of l) → TwinPort P j o
  twin_line_port j l o twin e i =
      let r = with_from (outer (cut P)) (slice_get P.lines j) l o (sym (line_high (cut P) j (in_has (twins_of P) j twin)) ∙ e) i in
      subst (λ (x : Operand). TwinPort P j x) (sym r.4) (twin_port j r.0 r.1 twin r.2 r.3)

-- What the tests of a linked statement list say of its single statements.
use Rattle.std.proofs.Common.{◌≡◌, ℕ, ◌+◌, ◌-◌, ◌<◌, ◌≤◌, true, List, [], Some, refl, subst, arith, ◌⊎◌, inl, inr}
use Rattle.std.specs.Prelude.{slice_get}
use Rattle.std.proofs.lemmas.Bool.{eq-eqb, cases_lt}
use Rattle.dom_flat.specs.declared.line.Operand.{Operand}
use Rattle.dom_flat.specs.declared.line.Operand.TheVariants.{Value}
use Rattle.dom_flat.specs.declared.line.Line.{Line}
use Rattle.dom_flat.specs.declared.line.Line.TheVariants as line
use Rattle.dom_flat.specs.Lines.{is_value, makes, operands_of, uses}
use Rattle.dom_flat.proofs.Positions.{fetch_within, one_fetch, one_store, output_makes, store_fetched, used_before as uses_before, used_makes}
use Rattle.codelets.specs.Lists.{IsIn}
use Rattle.codelets.specs.Linked.{Linked, IsLinked}
use Rattle.codelets.proofs.Lists.{any_in}

-- value u is that of a statement which makes one, after so many fields
abbrev pub IsMade : ℕ → List Line → ℕ → Type 0
IsMade fields lines u = (k : ℕ) × (l : Line) × (u ≡ fields + k) × (slice_get lines k ≡ Some l) × (makes l ≡ true)

pub in_uses : (v : ℕ) (os : List Operand) → IsIn (Value v) os → uses v os ≡ true
in_uses v os i = any_in (is_value v) os (Value v) i (eq-eqb v v refl)

module _ (P : Linked) (ok : IsLinked P) where
  -- a statement uses values before its own
  pub used_before : (b u : ℕ) (l : Line) → slice_get P.lines b ≡ Some l → IsIn (Value u) (operands_of l) → u < P.fields + b
  used_before b u l at i = uses_before P.fields P.lines b u l ok.order at (in_uses u (operands_of l) i)

  -- and what it uses is a field, or made
  pub used_made : (b u : ℕ) (l : Line) → slice_get P.lines b ≡ Some l → IsIn (Value u) (operands_of l) → P.fields ≤ u → IsMade P.fields P.lines u
  used_made b u l at i le =
      let k : ℕ = u - P.fields in
      let is : u ≡ P.fields + k = omega arith in
      let r = used_makes P.fields P.lines k b l ok.order at (subst (λ (v : ℕ). uses v (operands_of l) ≡ true) is (in_uses u (operands_of l) i)) in
      (k, r.statement, is, r.there, r.makes_one)

  pub shown_made : (u : ℕ) → IsIn (Value u) P.outputs → (u < P.fields) ⊎ IsMade P.fields P.lines u
  shown_made u i = elim (cases_lt u P.fields) [ inl h ↦ inl h | inr h ↦ inr (made h) ]
    where
      made : P.fields ≤ u → IsMade P.fields P.lines u
      made le =
          let k : ℕ = u - P.fields in
          let is : u ≡ P.fields + k = omega arith in
          let r = output_makes P.fields P.lines k P.outputs ok.known_outputs (subst (λ (v : ℕ). uses v P.outputs ≡ true) is (in_uses u P.outputs i)) in
          (k, r.statement, is, r.there, r.makes_one)

  -- each array has one read flank and one write flank at most
  pub fetch_once : (j k a : ℕ) (i i' : Operand) → slice_get P.lines j ≡ Some (line.Fetch a i) → slice_get P.lines k ≡ Some (line.Fetch a i') → j ≡ k
  fetch_once j k a i i' p q = one_fetch P.lines [] [] j k a i i' ok.flanks p q

  pub store_once : (j k a : ℕ) (i i' v v' : Operand) → slice_get P.lines j ≡ Some (line.Store a i v) → slice_get P.lines k ≡ Some (line.Store a i' v') → j ≡ k
  store_once j k a i i' v v' p q = one_store P.lines [] [] j k a i i' v v' ok.flanks p q

  -- the array of a write flank has a read flank with its index
  pub store_fetch : (j a : ℕ) (i v : Operand) → slice_get P.lines j ≡ Some (line.Store a i v) → (k : ℕ) × (slice_get P.lines k ≡ Some (line.Fetch a i))
  store_fetch j a i v at = let r = store_fetched P.lines j a i v ok.flanks at in (r.place, r.there)

  pub array_within : (k a : ℕ) (i : Operand) → slice_get P.lines k ≡ Some (line.Fetch a i) → a < P.arrays
  array_within k a i at = fetch_within P.arrays P.lines ok.ranges k a i at

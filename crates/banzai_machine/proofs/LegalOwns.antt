-- In a legal configuration each array has one slot, and each container that a stage writes has one writer there.
use Rattle.std.proofs.Common.{◌≡◌, ℕ, true, false, not, refl, List, [], ◌∷◌, ◌++◌, sym, subst, ◌≢◌, append-nil, append_assoc}
use Rattle.std.proofs.lemmas.Bool.{and_parts, eqb-false, or_parts}
use Rattle.std.specs.List.{flat_map, AllByRecursion as Every}
use Rattle.std.specs.Prelude.{Bool, nat_eq}
use Rattle.banzai_config.specs.Legal.{LegalFor, Shape, Standing, are_new, has, standing_after}
use Rattle.banzai_config.specs.Named.{stage_arrays, stage_targets}
use Rattle.banzai_config.specs.Parts.{PartsForm, StageForm}
use Rattle.banzai_config.specs.Stages.{IsStageLegal}
use Rattle.banzai_config.proofs.Lawful.{legal_arrays as arrays_new}
use Rattle.banzai_config.proofs.Staged.{legal_stages}
use Rattle.banzai_machine.specs.Own.{AreDistinct, OwnArrays, OwnContainers}
use Rattle.banzai_machine.proofs.Every.{Every-append, Every-weaker}

not_false : (a : Bool) → not a ≡ true → a ≡ false
not_false true e = cc
not_false false e = refl

-- a number that is not in a list, behind it
not_among : (c : ℕ) (xs : List ℕ) → has c xs ≡ false → Every (λ x. x ≢ c) xs
not_among c [] e = tt
not_among c (x ∷ xs) e =
    let both = or_parts (nat_eq c x) (has c xs) e in
    (λ is. eqb-false c x both.0 (sym is), not_among c xs both.1)

distinct_more : (xs : List ℕ) (c : ℕ) → AreDistinct xs → Every (λ x. x ≢ c) xs → AreDistinct (xs ++ c ∷ [])
distinct_more [] c d p = (tt, tt)
distinct_more (x ∷ xs) c d p = (Every-append (λ y. x ≢ y) xs (c ∷ []) d.0 (p.0, tt), distinct_more xs c d.1 p.1)

new_distinct : (xs ys : List ℕ) → AreDistinct xs → are_new xs ys ≡ true → AreDistinct (xs ++ ys)
new_distinct xs [] d e = subst (λ (z : List ℕ). AreDistinct z) (sym (append-nil xs)) d
new_distinct xs (c ∷ cs) d e =
    let both = and_parts (not (has c xs)) (are_new (xs ++ c ∷ []) cs) e in
    subst (λ (z : List ℕ). AreDistinct z) (append_assoc xs (c ∷ []) cs)
    (new_distinct (xs ++ c ∷ []) cs (distinct_more xs c d (not_among c xs (not_false (has c xs) both.0))) both.1)

-- what holds of each item, whatever stands before it
pub every_item : {A : Type 0} (P : A → Type 0) (before xs : List A) → Every (λ (s : Standing A). P s.item) (standing_after before xs) → Every P xs
every_item P before [] p = tt
every_item P before (x ∷ xs) p = (p.0, every_item P (before ++ x ∷ []) xs p.1)

module _ (s : Shape) (p : PartsForm) where
  pub legal_arrays : LegalFor s p → OwnArrays p.stages
  legal_arrays legal = new_distinct [] (flat_map stage_arrays p.stages) tt (arrays_new s p legal)

  pub legal_containers : LegalFor s p → OwnContainers p.stages
  legal_containers legal =
      every_item (λ stage. AreDistinct (stage_targets stage)) [] p.stages
      (Every-weaker (IsStageLegal s p) (λ (st : Standing StageForm). AreDistinct (stage_targets st.item)) (λ st h. new_distinct [] (stage_targets st.item) tt h.once)
      (standing_after [] p.stages) (legal_stages s p legal))

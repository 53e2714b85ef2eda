-- Marks are the stages at which values are made and last read.
use Rattle.std.proofs.Common.{◌≡◌, ℕ, zero, suc, ◌+◌, ◌<◌, Bool, true, false, ◌||◌, nat_eq, List, [], ◌∷◌, ◌++◌, length, map, set, get_or, drop, refl, sym, ap, ◌∙◌, arith, if◌then◌else◌, get_or-set_other, length-set, drop-cons, append_assoc}
use Rattle.std.specs.Prelude.{slice_index}
use Rattle.std.specs.List.{flat_map}
use Rattle.std.proofs.lemmas.Bool.{eq-eqb, eqb-true}
use Rattle.std.proofs.lemmas.List.Sums.{fold-append}
use Rattle.banzai_config.specs.declared.parts.OpAtom.{OpAtom}
use Rattle.banzai_config.specs.declared.parts.StageParts.{StageParts}
use Rattle.banzai_config.specs.declared.parts.TreeAtom.{TreeAtom}
use Rattle.banzai_config.specs.Legal.{has}
use Rattle.banzai_config.specs.Named.{stage_targets}
use Rattle.banzai_config.specs.Parts.{Atom, Stateful, Stateless, StageForm, atom_form, atoms_of, stage_form}
use Rattle.banzai_config.specs.Stages.{stage_reads}
use Rattle.container_plan.specs.Marks.{marked}
use Rattle.container_plan.specs.Shared.{made_from, last_from}
use Rattle.container_plan.proofs.State.{index_same}

pub length-marked : (k : ℕ) (places marks : List ℕ) → length (marked k places marks) ≡ length marks
length-marked k [] marks = refl
length-marked k (c ∷ places) marks = length-marked k places (set marks c k) ∙ length-set marks c k

pub marked_at : (k : ℕ) (places marks : List ℕ) (v : ℕ) → v < length marks → slice_index (marked k places marks) v ≡ (if has v places then k else slice_index marks v)
marked_at k [] marks v h = refl
marked_at k (c ∷ places) marks v h =
    marked_at k places (set marks c k) v (omega (arith, length-set marks c k)) ∙ by_case (has v places) (nat_eq v c) refl
  where
    by_case : (b d : Bool) → nat_eq v c ≡ d → (if b then k else slice_index (set marks c k) v) ≡ (if d || b then k else slice_index marks v)
    by_case true true e = refl
    by_case true false e = refl
    by_case false true e = let is : v ≡ c = eqb-true v c e in ap (λ (z : ℕ). slice_index (set marks z k) v) (sym is) ∙ index_same marks v k h
    by_case false false e = get_or-set_other marks c v k 0 (λ is. let t : nat_eq v c ≡ true = eq-eqb v c is in absurd (cc))

-- the atoms of both kinds, one after the other
over_ops : (f : Atom → List ℕ) (ops : List OpAtom) (rest : List Atom) → flat_map f (map (λ a. Stateless a) ops ++ rest) ≡ flat_map (λ a. f (Stateless a)) ops ++ flat_map f rest
over_ops f [] rest = refl
over_ops f (a ∷ ops) rest = ap (λ z. f (Stateless a) ++ z) (over_ops f ops rest) ∙ sym (append_assoc (f (Stateless a)) (flat_map (λ a. f (Stateless a)) ops) (flat_map f rest))

over_trees : (f : Atom → List ℕ) (trees : List TreeAtom) → flat_map f (map (λ a. Stateful a) (map atom_form trees)) ≡ flat_map (λ a. f (Stateful (atom_form a))) trees
over_trees f [] = refl
over_trees f (a ∷ trees) = ap (λ z. f (Stateful (atom_form a)) ++ z) (over_trees f trees)

pub marked_kinds : (f : Atom → List ℕ) (k : ℕ) (s : StageParts) (marks : List ℕ)
    → marked k (flat_map (λ a. f (Stateful (atom_form a))) s.stateful) (marked k (flat_map (λ a. f (Stateless a)) s.stateless) marks) ≡ marked k (flat_map f (atoms_of (stage_form s))) marks
marked_kinds f k s marks =
    sym (fold-append (λ ms c. set ms c k) marks (flat_map (λ a. f (Stateless a)) s.stateless) (flat_map (λ a. f (Stateful (atom_form a))) s.stateful))
    ∙ ap (λ z. marked k z marks) (ap (λ z. flat_map (λ a. f (Stateless a)) s.stateless ++ z) (sym (over_trees f s.stateful)) ∙ sym (over_ops f s.stateless (map (λ a. Stateful a) (map atom_form s.stateful))))

get_form : (stages : List StageParts) (k : ℕ) (x : StageParts) → get_or (map stage_form stages) k (stage_form x) ≡ stage_form (get_or stages k x)
get_form [] k x = refl
get_form (s ∷ stages) zero x = refl
get_form (s ∷ stages) (suc k) x = get_form stages k x

pub length-forms : (stages : List StageParts) → length (map stage_form stages) ≡ length stages
length-forms [] = refl
length-forms (s ∷ stages) = ap (λ n. suc n) (length-forms stages)

stage_at : (stages : List StageParts) (k : ℕ) (x : StageParts) → x ≡ get_or stages k x → k < length stages → drop k (map stage_form stages) ≡ stage_form x ∷ drop (suc k) (map stage_form stages)
stage_at stages k x is h =
    drop-cons (map stage_form stages) k (stage_form x) (omega (arith, length-forms stages)) ∙ ap (λ z. z ∷ drop (suc k) (map stage_form stages)) (get_form stages k x ∙ ap stage_form (sym is))

-- one stage later
pub last_step : (stages : List StageParts) (k : ℕ) (x : StageParts) (marks : List ℕ) (v : ℕ) → x ≡ get_or stages k x → k < length stages → v < length marks
    → last_from (k + 1) (drop k (map stage_form stages)) v (slice_index marks v)
    ≡ last_from (k + 1 + 1) (drop (k + 1) (map stage_form stages)) v (slice_index (marked (k + 1) (stage_reads (stage_form x)) marks) v)
last_step stages k x marks v is less h =
    let next : suc k ≡ k + 1 = omega arith in
    let next' : suc (k + 1) ≡ k + 1 + 1 = omega arith in
    let mark : ℕ = if has v (stage_reads (stage_form x)) then k + 1 else slice_index marks v in
    ap (λ (z : List StageForm). last_from (k + 1) z v (slice_index marks v)) (stage_at stages k x is less)
    ∙ ap (λ (z : ℕ). last_from (suc (k + 1)) (drop z (map stage_form stages)) v mark) next
    ∙ ap (λ (z : ℕ). last_from z (drop (k + 1) (map stage_form stages)) v mark) next'
    ∙ ap (λ (z : ℕ). last_from (k + 1 + 1) (drop (k + 1) (map stage_form stages)) v z) (sym (marked_at (k + 1) (stage_reads (stage_form x)) marks v h))

-- one stage earlier
pub made_step : (stages : List StageParts) (k : ℕ) (x : StageParts) (marks : List ℕ) (v : ℕ) → x ≡ get_or stages k x → k < length stages → v < length marks
    → slice_index marks v ≡ made_from (suc k + 1) (drop (suc k) (map stage_form stages)) v
    → slice_index (marked (k + 1) (stage_targets (stage_form x)) marks) v ≡ made_from (k + 1) (drop k (map stage_form stages)) v
made_step stages k x marks v is less h rest =
    let next : suc k + 1 ≡ suc (k + 1) = omega arith in
    marked_at (k + 1) (stage_targets (stage_form x)) marks v h
    ∙ ap (λ (z : ℕ). if has v (stage_targets (stage_form x)) then k + 1 else z) (rest ∙ ap (λ (z : ℕ). made_from z (drop (suc k) (map stage_form stages)) v) next)
    ∙ ap (λ (z : List StageForm). made_from (k + 1) z v) (sym (stage_at stages k x is less))

-- A stage's atoms, one codelet after another, and the stages one after another.
use Rattle.std.proofs.Common.{◌≡◌, ℕ, zero, suc, ◌+◌, ◌<◌, ◌≤◌, ◌≢◌, Bool, true, false, nat_eq, List, [], ◌∷◌, ◌++◌, Option, Some, length, get_or, map, take, refl, sym, ap, ◌∙◌, add-one, arith, if◌then◌else◌}
use Rattle.std.specs.Prelude.{slice_get}
use Rattle.std.specs.List.{flat_map}
use Rattle.std.proofs.Math.Seq.{take-suc}
use Rattle.std.proofs.lemmas.Bool.{eq-eqb, ne_eqb}
use Rattle.std.proofs.lemmas.Grind.{flat_map-append}
use Rattle.std.proofs.lemmas.List.{append-nil, take_all}
use Rattle.std.proofs.lemmas.Option.{get_or_from_slice_get, slice_get-get_or, slice_get_within}
use Rattle.codelets.specs.declared.answer.Codelets.{Codelets}
use Rattle.codelets.specs.declared.codelet.Codelet.{Codelet}
use Rattle.stage_plan.specs.declared.place.Place.{Place}
use Rattle.stage_plan.specs.Schedule.{stage_at as place_stage}
use Rattle.atom_match.specs.Atoms.{AtomForm as Does, atom_of}
use Rattle.banzai_config.specs.declared.parts.OpAtom.{OpAtom}
use Rattle.banzai_config.specs.Parts.{Atom, AtomForm, Stateful, StageForm, Stateless}
use Rattle.compile_law.specs.Compiled.{Staged, if_at, part_of, stage_at, staged_by, stages_from, stateful_of, stateless_of}
use Rattle.compile_law.proofs.Placed.{length_map}
use Rattle.compile_parts.specs.Adding.{with_atom}

-- One more codelet.

take_more : {X : Type 0} (xs : List X) (k : ℕ) (x : X) → slice_get xs k ≡ Some x → take (k + 1) xs ≡ take k xs ++ x ∷ []
take_more xs k x at =
    ap (λ n. take n xs) (add-one k) ∙ take-suc xs k x (slice_get_within xs k x at) ∙ ap (λ y. take k xs ++ y ∷ []) (get_or_from_slice_get xs k x x at)

staged_here : (cs : Codelets) (list : List Codelet) (atoms : List Does) (places : List Place) (k : ℕ) (c : Codelet) (a : Does) (p : Place)
    → slice_get list k ≡ Some c → slice_get atoms k ≡ Some a → slice_get places k ≡ Some p
    → slice_get (staged_by cs list atoms places) k ≡ Some (record { members = c.lines; atom = part_of cs c a; stage = p.stage })
staged_here cs [] atoms places k c a p x y z = absurd (cc)
staged_here cs (d ∷ list) [] places k c a p x y z = absurd (cc)
staged_here cs (d ∷ list) (b ∷ atoms) [] k c a p x y z = absurd (cc)
staged_here cs (d ∷ list) (b ∷ atoms) (q ∷ places) zero c a p x y z =
    let same : d ≡ c = cc in
    let does : b ≡ a = cc in
    let stands : q ≡ p = cc in
    ap (λ (e : Codelet). Some (record { members = e.lines; atom = part_of cs e b; stage = q.stage })) same
    ∙ ap (λ (e : Does). Some (record { members = c.lines; atom = part_of cs c e; stage = q.stage })) does
    ∙ ap (λ (e : Place). Some (record { members = c.lines; atom = part_of cs c a; stage = e.stage })) stands
staged_here cs (d ∷ list) (b ∷ atoms) (q ∷ places) (suc k) c a p x y z = staged_here cs list atoms places k c a p x y z

more_of : {X : Type 0} (kind : Atom → List X) (k : ℕ) (qs : List Staged) (q : Staged) → flat_map (if_at k kind) (qs ++ q ∷ []) ≡ flat_map (if_at k kind) qs ++ if_at k kind q
more_of kind k qs q = flat_map-append (if_at k kind) qs (q ∷ []) ∙ ap (λ ys. flat_map (if_at k kind) qs ++ ys) (append-nil (if_at k kind q))

stage_more : (qs : List Staged) (q : Staged) (k : ℕ) → stage_at (qs ++ q ∷ []) k ≡ (if nat_eq q.stage k then with_atom q.atom (stage_at qs k) else stage_at qs k)
stage_more qs q k =
    ap (λ (xs : List OpAtom). record { stateless = xs; stateful = flat_map (if_at k stateful_of) (qs ++ q ∷ []) }) (more_of stateless_of k qs q)
    ∙ ap (λ (xs : List AtomForm). record { stateless = flat_map (if_at k stateless_of) qs ++ if_at k stateless_of q; stateful = xs }) (more_of stateful_of k qs q)
    ∙ by_case (nat_eq q.stage k) q.atom
  where
    by_case : (b : Bool) (a : Atom) → record { stateless = flat_map (if_at k stateless_of) qs ++ (if b then stateless_of a else []); stateful = flat_map (if_at k stateful_of) qs ++ (if b then stateful_of a else []) } ≡ (if b then with_atom a (stage_at qs k) else stage_at qs k)
    by_case true (Stateless a) = ap (λ (xs : List AtomForm). record { stateless = flat_map (if_at k stateless_of) qs ++ a ∷ []; stateful = xs }) (append-nil (flat_map (if_at k stateful_of) qs))
    by_case true (Stateful a) = ap (λ (xs : List OpAtom). record { stateless = xs; stateful = flat_map (if_at k stateful_of) qs ++ a ∷ [] }) (append-nil (flat_map (if_at k stateless_of) qs))
    by_case false a =
        ap (λ (xs : List OpAtom). record { stateless = xs; stateful = flat_map (if_at k stateful_of) qs ++ [] }) (append-nil (flat_map (if_at k stateless_of) qs))
        ∙ ap (λ (xs : List AtomForm). record { stateless = flat_map (if_at k stateless_of) qs; stateful = xs }) (append-nil (flat_map (if_at k stateful_of) qs))

-- a stage after one more codelet
pub stage_with : (cs : Codelets) (list : List Codelet) (atoms : List Does) (places : List Place) (stage k : ℕ) (c : Codelet) (a : Does) (p : Place)
    → slice_get list k ≡ Some c → slice_get atoms k ≡ Some a → slice_get places k ≡ Some p
    → stage_at (take (k + 1) (staged_by cs list atoms places)) stage
    ≡ (if nat_eq p.stage stage then with_atom (part_of cs c a) (stage_at (take k (staged_by cs list atoms places)) stage) else stage_at (take k (staged_by cs list atoms places)) stage)
stage_with cs list atoms places stage k c a p x y z =
    ap (λ (qs : List Staged). stage_at qs stage) (take_more (staged_by cs list atoms places) k (record { members = c.lines; atom = part_of cs c a; stage = p.stage }) (staged_here cs list atoms places k c a p x y z))
    ∙ stage_more (take k (staged_by cs list atoms places)) (record { members = c.lines; atom = part_of cs c a; stage = p.stage }) stage

-- the item of a list at a place within it
pub item_here : {X : Type 0} (xs ys : List X) (k : ℕ) (x : X) → xs ≡ ys → k < length xs → x ≡ get_or xs k x → slice_get ys k ≡ Some x
item_here {X = X} xs ys k x same within is =
    ap (λ (zs : List X). slice_get zs k) (sym same) ∙ slice_get-get_or xs k x within ∙ ap (λ (z : X). Some z) (sym is)

place_here : (places : List Place) (k : ℕ) → k < length places → (p : Place) × (slice_get places k ≡ Some p) × (place_stage places k ≡ p.stage)
place_here [] k within = absurd (omega arith)
place_here (p ∷ places) zero within = (p, refl, refl)
place_here (p ∷ places) (suc k) within = place_here places k (omega arith)

module _ (cs : Codelets) (list : List Codelet) (atoms : List Does) (places : List Place) (stage k : ℕ) (c : Codelet) (a : Does) (codelet_at : slice_get list k ≡ Some c) (atom_at : slice_get atoms k ≡ Some a) (within : k < length places) where
  abbrev qs : List Staged
  qs = staged_by cs list atoms places

  abbrev with_it : Bool → StageForm → StageForm
  with_it b before = if b then with_atom (part_of cs c a) before else before

  turn : (before : StageForm) → before ≡ stage_at (take k qs) stage → with_it (nat_eq (place_stage places k) stage) before ≡ stage_at (take (k + 1) qs) stage
  turn before is =
      let here = place_here places k within in
      ap (λ (n : ℕ). with_it (nat_eq n stage) before) here.2
      ∙ ap (with_it (nat_eq here.0.stage stage)) is
      ∙ sym (stage_with cs list atoms places stage k c a here.0 codelet_at atom_at here.1)

  -- a stage takes a codelet's atom, or it does not
  pub taken : (before now : StageForm) → before ≡ stage_at (take k qs) stage → place_stage places k ≡ stage → now ≡ with_atom (part_of cs c a) before → now ≡ stage_at (take (k + 1) qs) stage
  taken before now is same new = new ∙ ap (λ (b : Bool). with_it b before) (sym (eq-eqb (place_stage places k) stage same)) ∙ turn before is

  passed : (before : StageForm) → before ≡ stage_at (take k qs) stage → place_stage places k ≢ stage → before ≡ stage_at (take (k + 1) qs) stage
  passed before is other = ap (λ (b : Bool). with_it b before) (sym (ne_eqb (place_stage places k) stage other)) ∙ turn before is

got : {X : Type 0} (xs : List X) (k : ℕ) → k < length xs → (x : X) × (slice_get xs k ≡ Some x)
got [] k within = absurd (omega arith)
got (x ∷ xs) zero within = (x, refl)
got (x ∷ xs) (suc k) within = got xs k (omega arith)

-- a stage passes over the codelets of other stages
pub passed_over : (cs : Codelets) (list : List Codelet) (atoms : List Does) (places : List Place) (stage k : ℕ) (before : StageForm) → map Some atoms ≡ map (atom_of cs) list
    → k < length list → length places ≡ length list → before ≡ stage_at (take k (staged_by cs list atoms places)) stage → place_stage places k ≢ stage
    → before ≡ stage_at (take (k + 1) (staged_by cs list atoms places)) stage
passed_over cs list atoms places stage k before are within many is other =
    let size : length atoms ≡ length list = sym (length_map Some atoms) ∙ ap (length {A = Option Does}) are ∙ length_map (atom_of cs) list in
    let codelet = got list k within in
    let does = got atoms k (omega (arith, size, within)) in
    passed cs list atoms places stage k codelet.0 does.0 codelet.1 does.1 (omega (arith, many, within)) before is other

few_staged : (cs : Codelets) (list : List Codelet) (atoms : List Does) (places : List Place) → length (staged_by cs list atoms places) ≤ length list
few_staged cs [] atoms places = omega arith
few_staged cs (c ∷ list) [] places = omega arith
few_staged cs (c ∷ list) (a ∷ atoms) [] = omega arith
few_staged cs (c ∷ list) (a ∷ atoms) (p ∷ places) = let h = few_staged cs list atoms places in omega arith

-- after the last codelet the stage is whole
pub stage_whole : (cs : Codelets) (list : List Codelet) (atoms : List Does) (places : List Place) (stage k : ℕ) (now : StageForm) → length list ≤ k
    → now ≡ stage_at (take k (staged_by cs list atoms places)) stage → now ≡ stage_at (staged_by cs list atoms places) stage
stage_whole cs list atoms places stage k now all is =
    let few = few_staged cs list atoms places in
    is ∙ ap (λ (qs : List Staged). stage_at qs stage) (take_all k (staged_by cs list atoms places) (omega (arith, few, all)))

-- One more stage.

stages_after : (qs : List Staged) (k n : ℕ) → stages_from qs k (suc n) ≡ stages_from qs k n ++ stage_at qs (k + n + 1) ∷ []
stages_after qs k zero = let e : suc k ≡ k + 0 + 1 = omega arith in ap (λ (m : ℕ). stage_at qs m ∷ []) e
stages_after qs k (suc n) =
    let e : suc k + n + 1 ≡ k + suc n + 1 = omega arith in
    ap (λ (ss : List StageForm). stage_at qs (suc k) ∷ ss) (stages_after qs (suc k) n)
    ∙ ap (λ (m : ℕ). stage_at qs (suc k) ∷ (stages_from qs (suc k) n ++ stage_at qs m ∷ [])) e

pub stages_more : (qs : List Staged) (n : ℕ) → stages_from qs 0 (n + 1) ≡ stages_from qs 0 n ++ stage_at qs (n + 1) ∷ []
stages_more qs n =
    let e : 0 + n + 1 ≡ n + 1 = omega arith in
    ap (λ (m : ℕ). stages_from qs 0 m) (add-one n) ∙ stages_after qs 0 n ∙ ap (λ (m : ℕ). stages_from qs 0 n ++ stage_at qs m ∷ []) e

-- The touches of one cycle, stage by stage.
use Rattle.std.proofs.Common.{◌≡◌, ℕ, zero, suc, ◌+◌, ◌<◌, ◌≤◌, true, false, eqb, Some, None, List, [], ◌∷◌, ◌++◌, length, map, take, slice_get, refl, sym, ◌∙◌, ap, ◌≢◌, inl, inr, arith, append-nil, append_assoc, length-append}
use Rattle.std.proofs.lemmas.Bool.{cases_eq, ne_eqb}
use Rattle.std.proofs.lemmas.List.{length-map}
use Rattle.std.proofs.lemmas.Map.Steps.{length-le_from_distinct_below}
use Rattle.std.specs.List.{flat_map, IsDistinct, list_any, AllByRecursion as Every}
use Rattle.dom_words.specs.State.{Hash, array_of}
use Rattle.banzai_config.specs.declared.parts.PartSlot.{PartSlot}
use Rattle.banzai_config.specs.Action.{Arrays, Entry, store}
use Rattle.banzai_config.specs.Named.{arrays_of, slot_array, stage_arrays}
use Rattle.banzai_config.specs.Parts.{Atom, Stateful, Stateless, StageForm, atoms_of}
use Rattle.banzai_machine.specs.declared.touch.Touch.{Touch}
use Rattle.banzai_machine.specs.Kept.{stage_slots}
use Rattle.banzai_machine.specs.Own.{AreDistinct, OwnArrays}
use Rattle.banzai_machine.specs.Pipe.{cycle_writes, own}
use Rattle.banzai_machine.specs.Runnable.{AtomWithin, SlotWithin, StageWithin}
use Rattle.banzai_machine.specs.Touches.{slots_of, touch_of, touches_before, touches_from}
use Rattle.banzai_machine.proofs.Apart.{own-agree}
use Rattle.banzai_machine.proofs.Every.{Every-append, Every-left, Every-right}
use Rattle.banzai_machine.proofs.InPlaceLemmas.{touch_slots-same}
use Rattle.banzai_machine.proofs.Steps.{room_at}
use Rattle.banzai_machine.proofs.Store.{Agree}
use Rattle.banzai_machine.proofs.Sweep.{unchanged}

abbrev pub touches_in : ℕ → Arrays → List ℕ → Atom → List Touch
touches_in number arrays words atom = map (touch_of number arrays words) (slots_of atom)

-- a stage's touches hang on its own arrays alone
atom-same : (number : ℕ) (x : Atom) (a b : Arrays) (words : List ℕ) → Agree a b (arrays_of x) → touches_in number a words x ≡ touches_in number b words x
atom-same number (Stateless x) a b words p = refl
atom-same number (Stateful x) a b words p = touch_slots-same number x.slots a b words p

atoms-same : (number : ℕ) (atoms : List Atom) (a b : Arrays) (words : List ℕ) → Agree a b (flat_map arrays_of atoms) → flat_map (touches_in number a words) atoms ≡ flat_map (touches_in number b words) atoms
atoms-same number [] a b words p = refl
atoms-same number (x ∷ atoms) a b words p =
    ap (λ (z : List Touch). z ++ flat_map (touches_in number a words) atoms)
    (atom-same number x a b words (Every-left (λ k. array_of a k ≡ array_of b k) (arrays_of x) (flat_map arrays_of atoms) p))
    ∙ ap (λ (z : List Touch). touches_in number b words x ++ z)
    (atoms-same number atoms a b words (Every-right (λ k. array_of a k ≡ array_of b k) (arrays_of x) (flat_map arrays_of atoms) p))

touches_before-same : (hash : Hash) (n : ℕ) (s : StageForm) (a b : Arrays) (r : Entry) → own s a ≡ own s b → touches_before n s a r ≡ touches_before n s b r
touches_before-same hash n s a b None e = refl
touches_before-same hash n s a b (Some words) e = atoms-same n (atoms_of s) a b words (own-agree hash s a b e)

touches_from_step : (n : ℕ) (ss : List StageForm) (rs : List Entry) (a : Arrays) (k : ℕ) (s : StageForm) (r : Entry) → slice_get ss k ≡ Some s → slice_get rs k ≡ Some r
    → touches_from n (take (suc k) ss) (take (suc k) rs) a ≡ touches_from n (take k ss) (take k rs) a ++ touches_before (k + n) s a r
touches_from_step n [] rs a k s r p q = cc
touches_from_step n (t ∷ ss) [] a k s r p q = cc
touches_from_step n (t ∷ ss) (x ∷ rs) a zero s r p q =
    let one : t ≡ s = cc in
    let two : x ≡ r = cc in
    let same : n ≡ zero + n = omega arith in
    append-nil (touches_before n t a x)
    ∙ ap (λ (z : StageForm). touches_before n z a x) one
    ∙ ap (λ (z : Entry). touches_before n s a z) two
    ∙ ap (λ (m : ℕ). touches_before m s a r) same
touches_from_step n (t ∷ ss) (x ∷ rs) a (suc k) s r p q =
    let same : k + suc n ≡ suc k + n = omega arith in
    ap (λ (z : List Touch). touches_before n t a x ++ z) (touches_from_step (suc n) ss rs a k s r p q)
    ∙ sym (append_assoc (touches_before n t a x) (touches_from (suc n) (take k ss) (take k rs) a) (touches_before (k + suc n) s a r))
    ∙ ap (λ (m : ℕ). (touches_before n t a x ++ touches_from (suc n) (take k ss) (take k rs) a) ++ touches_before m s a r) same

-- stages count from 1
pub first_touches_step : (ss : List StageForm) (rs : List Entry) (a : Arrays) (k : ℕ) (s : StageForm) (r : Entry) → slice_get ss k ≡ Some s → slice_get rs k ≡ Some r
    → touches_from 1 (take (suc k) ss) (take (suc k) rs) a ≡ touches_from 1 (take k ss) (take k rs) a ++ touches_before (k + 1) s a r
first_touches_step ss rs a k s r at reg = touches_from_step 1 ss rs a k s r at reg

all_from : (n : ℕ) (ss : List StageForm) (rs : List Entry) (a : Arrays) (k : ℕ) → k ≡ length ss → touches_from n (take k ss) (take k rs) a ≡ touches_from n ss rs a
all_from n [] rs a zero e = refl
all_from n [] rs a (suc k) e = refl
all_from n (s ∷ ss) rs a zero e = absurd (omega (arith, e))
all_from n (s ∷ ss) [] a (suc k) e = refl
all_from n (s ∷ ss) (r ∷ rs) a (suc k) e =
    let same : k ≡ length ss = omega (arith, e) in
    ap (λ (z : List Touch). touches_before n s a r ++ z) (all_from (suc n) ss rs a k same)

pub touches_all : (ss : List StageForm) (rs : List Entry) (old : Arrays) (now : List Touch) (k : ℕ) → k ≡ length ss → now ≡ touches_from 1 (take k ss) (take k rs) old → now ≡ touches_from 1 ss rs old
touches_all ss rs old now k e is = is ∙ all_from 1 ss rs old k e

few_atoms : (n : ℕ) (atoms : List Atom) (a : Arrays) (words : List ℕ) → length (flat_map (touches_in n a words) atoms) ≤ length (flat_map slots_of atoms)
few_atoms n [] a words = omega arith
few_atoms n (x ∷ atoms) a words =
    omega (
      arith,
      length-append (touches_in n a words x) (flat_map (touches_in n a words) atoms),
      length-append (slots_of x) (flat_map slots_of atoms),
      length-map (slots_of x) (touch_of n a words),
      few_atoms n atoms a words,
    )

few_before : (n : ℕ) (s : StageForm) (a : Arrays) (r : Entry) → length (touches_before n s a r) ≤ length (stage_slots s)
few_before n s a None = omega arith
few_before n s a (Some words) = few_atoms n (atoms_of s) a words

few_all : (n : ℕ) (ss : List StageForm) (rs : List Entry) (a : Arrays) → length (touches_from n ss rs a) ≤ length (flat_map stage_slots ss)
few_all n [] rs a = omega arith
few_all n (s ∷ ss) [] a = omega arith
few_all n (s ∷ ss) (r ∷ rs) a =
    omega (arith, length-append (touches_before n s a r) (touches_from (suc n) ss rs a), length-append (stage_slots s) (flat_map stage_slots ss), few_before n s a r, few_all (suc n) ss rs a)

-- there is room for the touches of one stage more
pub room_for : (ss : List StageForm) (rs : List Entry) (a : Arrays) (k : ℕ) (s : StageForm) (now : List Touch) (room : ℕ) → slice_get ss k ≡ Some s → now ≡ touches_from 1 (take k ss) (take k rs) a
    → length (flat_map stage_slots ss) ≤ room → length now + length (stage_slots s) ≤ room
room_for ss rs a k s now room e is h =
    let size : length now ≡ length (touches_from 1 (take k ss) (take k rs) a) = ap length is in
    omega (arith, size, few_all 1 (take k ss) (take k rs) a, room_at stage_slots ss k s e, h)

-- the touches of one stage more
pub step_touches : (hash : Hash) (ss : List StageForm) (rs : List Entry) (old now : Arrays) (k : ℕ) (s : StageForm) (r : Entry) (before after : List Touch)
    → OwnArrays ss → slice_get ss k ≡ Some s → slice_get rs k ≡ Some r → now ≡ store (cycle_writes (take k ss) (take k rs) old) old
    → before ≡ touches_from 1 (take k ss) (take k rs) old → after ≡ before ++ touches_before (k + 1) s now r
    → after ≡ touches_from 1 (take (suc k) ss) (take (suc k) rs) old
step_touches hash ss rs old now k s r before after apart at reg is so then =
    then
    ∙ ap (λ (z : List Touch). z ++ touches_before (k + 1) s now r) so
    ∙ ap (λ (z : List Touch). touches_from 1 (take k ss) (take k rs) old ++ z) (touches_before-same hash (k + 1) s now old r (unchanged hash ss rs old now k s r apart at is))
    ∙ sym (first_touches_step ss rs old k s r at reg)

-- there are no more slots than arrays
distinct_from : (xs : List ℕ) → AreDistinct xs → IsDistinct eqb xs
unfolding IsDistinct
distinct_from [] p = tt
distinct_from (x ∷ xs) p = (none_same xs p.0, distinct_from xs p.1)
  where
    none_same : (ys : List ℕ) → Every (λ y. x ≢ y) ys → Every (λ y. eqb x y ≡ false) ys
    none_same [] q = tt
    none_same (y ∷ ys) q = (ne_eqb x y q.0, none_same ys q.1)

below : (n : ℕ) (xs : List ℕ) → Every (λ x. x < n) xs → (q : ℕ) → list_any (eqb q) xs ≡ true → q < n
below n [] p q e = cc
below n (x ∷ xs) p q e =
    elim (cases_eq q x) [
      | inl is ↦ rw is p.0
      | inr ne ↦ below n xs p.1 q (rw (ne_eqb q x ne) at e)
    ]

module _ (sizes : List ℕ) (containers : ℕ) where
  slots_below : (slots : List PartSlot) → Every (λ slot. SlotWithin sizes containers slot) slots → Every (λ k. k < length sizes) (map slot_array slots)
  slots_below [] p = tt
  slots_below (s ∷ slots) p = (p.0.array, slots_below slots p.1)

  atom_below : (x : Atom) → AtomWithin sizes containers x → Every (λ k. k < length sizes) (arrays_of x)
  atom_below (Stateless x) p = tt
  atom_below (Stateful x) p = slots_below x.slots p.slots

  atoms_below : (atoms : List Atom) → Every (λ atom. AtomWithin sizes containers atom) atoms → Every (λ k. k < length sizes) (flat_map arrays_of atoms)
  atoms_below [] p = tt
  atoms_below (x ∷ atoms) p = Every-append (λ k. k < length sizes) (arrays_of x) (flat_map arrays_of atoms) (atom_below x p.0) (atoms_below atoms p.1)

  pub stages_below : (ss : List StageForm) → Every (λ stage. StageWithin sizes containers stage) ss → Every (λ k. k < length sizes) (flat_map stage_arrays ss)
  stages_below [] p = tt
  stages_below (s ∷ ss) p = Every-append (λ k. k < length sizes) (stage_arrays s) (flat_map stage_arrays ss) (atoms_below (atoms_of s) p.0) (stages_below ss p.1)

length-atom : (x : Atom) → length (arrays_of x) ≡ length (slots_of x)
length-atom (Stateless x) = refl
length-atom (Stateful x) = length-map x.slots slot_array

length-atoms : (atoms : List Atom) → length (flat_map arrays_of atoms) ≡ length (flat_map slots_of atoms)
length-atoms [] = refl
length-atoms (x ∷ atoms) =
    omega (arith, length-append (arrays_of x) (flat_map arrays_of atoms), length-append (slots_of x) (flat_map slots_of atoms), length-atom x, length-atoms atoms)

length-stages : (ss : List StageForm) → length (flat_map stage_arrays ss) ≡ length (flat_map stage_slots ss)
length-stages [] = refl
length-stages (s ∷ ss) = omega (arith, length-append (stage_arrays s) (flat_map stage_arrays ss), length-append (stage_slots s) (flat_map stage_slots ss), length-atoms (atoms_of s), length-stages ss)

pub few_slots : (sizes : List ℕ) (containers : ℕ) (ss : List StageForm) → Every (λ stage. StageWithin sizes containers stage) ss → OwnArrays ss → length (flat_map stage_slots ss) ≤ length sizes
few_slots sizes containers ss p owns =
    omega (
      arith,
      length-stages ss,
      length-le_from_distinct_below (flat_map stage_arrays ss) (length sizes) (distinct_from (flat_map stage_arrays ss) owns) (below (length sizes) (flat_map stage_arrays ss) (stages_below sizes containers ss p)),
    )

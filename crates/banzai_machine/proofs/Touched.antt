-- No array stands twice among the touches of one cycle, and each is there.
use Rattle.std.proofs.Common.{◌≡◌, ℕ, suc, ◌<◌, All, Some, None, List, [], ◌∷◌, ◌++◌, length, map, refl, ◌∙◌, ap, subst, ◌≢◌}
use Rattle.std.proofs.lemmas.List.{length-map, map-append}
use Rattle.std.proofs.lemmas.List.Elements.{All-from_recursion}
use Rattle.std.specs.List.{flat_map, AllByRecursion as Every}
use Rattle.banzai_config.specs.declared.parts.PartSlot.{PartSlot}
use Rattle.banzai_config.specs.Action.{Arrays, Entry}
use Rattle.banzai_config.specs.Named.{arrays_of, slot_array, stage_arrays}
use Rattle.banzai_config.specs.Legal.{length_of_array}
use Rattle.banzai_config.specs.Parts.{Atom, PartsForm, Stateful, Stateless, StageForm, atoms_of}
use Rattle.banzai_machine.specs.declared.touch.Touch.{Touch}
use Rattle.banzai_machine.specs.Own.{AreDistinct, OwnArrays}
use Rattle.banzai_machine.specs.Runnable.{StageWithin, array_sizes}
use Rattle.banzai_machine.specs.Touches.{AreOnce, cycle_touches, slots_of, touch_of, touches_before, touches_from}
use Rattle.banzai_machine.proofs.Noted.{stages_below}

-- the first list is the second with some left out
pub data Within : List ℕ → List ℕ → Type 0 where
  none : Within [] []
  kept : {k : ℕ} {ps ks : List ℕ} → Within ps ks → Within (k ∷ ps) (k ∷ ks)
  left : {k : ℕ} {ps ks : List ℕ} → Within ps ks → Within ps (k ∷ ks)

within_every : (Q : ℕ → Type 0) {ps ks : List ℕ} → Within ps ks → Every Q ks → Every Q ps
within_every Q none p = tt
within_every Q (kept w) p = (p.0, within_every Q w p.1)
within_every Q (left w) p = within_every Q w p.1

within_distinct : {ps ks : List ℕ} → Within ps ks → AreDistinct ks → AreDistinct ps
within_distinct none p = tt
within_distinct (kept {k} w) p = (within_every (λ y. k ≢ y) w p.0, within_distinct w p.1)
within_distinct (left w) p = within_distinct w p.1

within_nothing : (ks : List ℕ) → Within [] ks
within_nothing [] = none
within_nothing (k ∷ ks) = left (within_nothing ks)

within_all : (ks : List ℕ) → Within ks ks
within_all [] = none
within_all (k ∷ ks) = kept (within_all ks)

within_append : {ps ks : List ℕ} (qs js : List ℕ) → Within ps ks → Within qs js → Within (ps ++ qs) (ks ++ js)
within_append qs js none v = v
within_append qs js (kept w) v = kept (within_append qs js w v)
within_append qs js (left w) v = left (within_append qs js w v)

abbrev pub arrays_in : List Touch → List ℕ
arrays_in touches = map (λ (t : Touch). t.array) touches

slots_touched : (n : ℕ) (arrays : Arrays) (words : List ℕ) (slots : List PartSlot) → arrays_in (map (touch_of n arrays words) slots) ≡ map slot_array slots
slots_touched n arrays words [] = refl
slots_touched n arrays words (s ∷ slots) = ap (λ (z : List ℕ). s.array ∷ z) (slots_touched n arrays words slots)

atom_touched : (n : ℕ) (arrays : Arrays) (words : List ℕ) (atom : Atom) → arrays_in (map (touch_of n arrays words) (slots_of atom)) ≡ arrays_of atom
atom_touched n arrays words (Stateless a) = refl
atom_touched n arrays words (Stateful a) = slots_touched n arrays words a.slots

atoms_touched : (n : ℕ) (arrays : Arrays) (words : List ℕ) (atoms : List Atom)
    → arrays_in (flat_map (λ atom. map (touch_of n arrays words) (slots_of atom)) atoms) ≡ flat_map arrays_of atoms
atoms_touched n arrays words [] = refl
atoms_touched n arrays words (a ∷ atoms) =
    map-append (λ (t : Touch). t.array) (map (touch_of n arrays words) (slots_of a)) (flat_map (λ atom. map (touch_of n arrays words) (slots_of atom)) atoms)
    ∙ ap (λ (z : List ℕ). z ++ arrays_in (flat_map (λ atom. map (touch_of n arrays words) (slots_of atom)) atoms)) (atom_touched n arrays words a)
    ∙ ap (λ (z : List ℕ). arrays_of a ++ z) (atoms_touched n arrays words atoms)

within_before : (n : ℕ) (s : StageForm) (arrays : Arrays) (register : Entry) → Within (arrays_in (touches_before n s arrays register)) (stage_arrays s)
within_before n s arrays None = within_nothing (stage_arrays s)
within_before n s arrays (Some words) = rw (atoms_touched n arrays words (atoms_of s)) (within_all (stage_arrays s))

within_cycle : (n : ℕ) (ss : List StageForm) (rs : List Entry) (arrays : Arrays) → Within (arrays_in (touches_from n ss rs arrays)) (flat_map stage_arrays ss)
within_cycle n [] rs arrays = none
within_cycle n (s ∷ ss) [] arrays = within_nothing (flat_map stage_arrays (s ∷ ss))
within_cycle n (s ∷ ss) (r ∷ rs) arrays =
    rw (map-append (λ (t : Touch). t.array) (touches_before n s arrays r) (touches_from (suc n) ss rs arrays))
    (within_append (arrays_in (touches_from (suc n) ss rs arrays)) (flat_map stage_arrays ss) (within_before n s arrays r) (within_cycle (suc n) ss rs arrays))

pub touches_once : (n : ℕ) (ss : List StageForm) (rs : List Entry) (arrays : Arrays) → OwnArrays ss → AreOnce (touches_from n ss rs arrays)
touches_once n ss rs arrays owns = within_distinct (within_cycle n ss rs arrays) owns

every_named : (P : ℕ → Type 0) (ts : List Touch) → Every P (arrays_in ts) → Every (λ (t : Touch). P t.array) ts
every_named P [] p = tt
every_named P (t ∷ ts) p = (p.0, every_named P ts p.1)

-- each touch of a cycle is of an array that there is
pub touches_named : (c : PartsForm) (rs : List Entry) (arrays : Arrays) → Every (λ stage. StageWithin (array_sizes c) c.containers stage) c.stages
    → All (λ (t : Touch). t.array < length c.arrays) (cycle_touches c rs arrays)
touches_named c rs arrays within =
    let size : length (array_sizes c) ≡ length c.arrays = length-map c.arrays length_of_array in
    let below : Every (λ k. k < length (array_sizes c)) (arrays_in (cycle_touches c rs arrays)) =
    within_every (λ k. k < length (array_sizes c)) (within_cycle 1 c.stages rs arrays) (stages_below (array_sizes c) c.containers c.stages within) in
    All-from_recursion (λ (t : Touch). t.array < length c.arrays) (cycle_touches c rs arrays)
    (every_named (λ k. k < length c.arrays) (cycle_touches c rs arrays) (subst (λ n. Every (λ k. k < n) (arrays_in (cycle_touches c rs arrays))) size below))

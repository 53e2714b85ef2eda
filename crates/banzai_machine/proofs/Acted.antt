-- The two loops of a stage in its packet's place do what the stage does.
use Rattle.std.proofs.Common.{◌≡◌, ℕ, ◌<◌, Some, List, [], ◌∷◌, ◌++◌, length, map, slice_get, refl, sym, ◌∙◌, ap, append-nil}
use Rattle.std.proofs.lemmas.Option.{slice_get-get_or}
use Rattle.std.specs.List.{flat_map, AllByRecursion as Every}
use Rattle.dom_words.specs.State.{Hash}
use Rattle.pipeline_law.specs.Order.{runs}
use Rattle.atom_traits.specs.Form.{TreesForm}
use Rattle.banzai_config.specs.declared.parts.FitAtom.{FitAtom}
use Rattle.banzai_config.specs.declared.parts.OpAtom.{OpAtom}
use Rattle.banzai_config.specs.declared.parts.PartSlot.{PartSlot}
use Rattle.banzai_config.specs.Action.{Arrays, put, stage_exports, stage_writes, store}
use Rattle.banzai_config.specs.Named.{stage_arrays}
use Rattle.banzai_config.specs.Parts.{Atom, AtomForm, Stateful, Stateless, StageForm, atoms_of, fit_form}
use Rattle.banzai_machine.specs.declared.touch.Touch.{Touch}
use Rattle.banzai_machine.specs.InPlace.{InPlace, NoneReads, fit_in_place, in_place, op_in_place}
use Rattle.banzai_machine.specs.Kept.{stage_slots}
use Rattle.banzai_machine.specs.Own.{AreDistinct}
use Rattle.banzai_machine.specs.Runnable.{AtomWithin, FitWithin, OpWithin, StageWithin, empty_stage, stage_at}
use Rattle.banzai_machine.specs.Touches.{slots_of, touches_before}
use Rattle.banzai_machine.proofs.AnyOrder.{runs-append}
use Rattle.banzai_machine.proofs.Every.{Every-right}
use Rattle.banzai_machine.proofs.InPlaceLemmas.{placed, stage_in_place}

pub placed_is : {w w' : List ℕ} {a a' : Arrays} {t t' : List Touch} → w ≡ w' → a ≡ a' → t ≡ t' → ◌≡◌ {A = InPlace} (placed w a t) (placed w' a' t')
placed_is p q r = cc

module _ (hash : Hash) (number : ℕ) where
  ops_run : (atoms : List OpAtom) (words : List ℕ) (arrays : Arrays) (ts : List Touch)
      → ◌≡◌ {A = InPlace} (runs (in_place hash number) (map (λ a. Stateless a) atoms) (placed words arrays ts)) (placed (runs (op_in_place hash) atoms words) arrays ts)
  ops_run [] words arrays ts = refl
  ops_run (x ∷ atoms) words arrays ts =
      ap (λ (t : List Touch). runs (in_place hash number) (map (λ a. Stateless a) atoms) (placed (op_in_place hash x words) arrays t)) (append-nil ts)
      ∙ ops_run atoms (op_in_place hash x words) arrays ts

  fits_run : (atoms : List AtomForm) (m : InPlace) → runs (in_place hash number) (map (λ a. Stateful a) atoms) m ≡ runs (fit_in_place number) atoms m
  fits_run [] m = refl
  fits_run (x ∷ atoms) m = fits_run atoms (fit_in_place number x m)

  pub stage_acted : (s : StageForm) (words : List ℕ) (arrays : Arrays) (ts : List Touch) → NoneReads (atoms_of s) → AreDistinct (stage_arrays s)
      → ◌≡◌ {A = InPlace} (runs (fit_in_place number) s.stateful (placed (runs (op_in_place hash) s.stateless words) arrays ts))
      (placed (put (stage_exports hash s arrays words) words) (store (stage_writes s arrays words) arrays) (ts ++ touches_before number s arrays (Some words)))
  stage_acted s words arrays ts none apart =
      sym (runs-append (in_place hash number) (map (λ a. Stateless a) s.stateless) (map (λ a. Stateful a) s.stateful) (placed words arrays ts)
      ∙ ap (λ (m : InPlace). runs (in_place hash number) (map (λ a. Stateful a) s.stateful) m) (ops_run s.stateless words arrays ts)
      ∙ fits_run s.stateful (placed (runs (op_in_place hash) s.stateless words) arrays ts))
      ∙ stage_in_place hash number s words arrays ts none apart

ops_within : (sizes : List ℕ) (n : ℕ) (atoms : List OpAtom) (rest : List Atom) → Every (λ atom. AtomWithin sizes n atom) (map (λ a. Stateless a) atoms ++ rest) → Every (λ atom. OpWithin n atom) atoms
ops_within sizes n [] rest p = tt
ops_within sizes n (x ∷ atoms) rest p = (p.0, ops_within sizes n atoms rest p.1)

fits_within : (sizes : List ℕ) (n : ℕ) (atoms : List AtomForm) → Every (λ atom. AtomWithin sizes n atom) (map (λ a. Stateful a) atoms) → Every (λ atom. FitWithin sizes n atom) atoms
fits_within sizes n [] p = tt
fits_within sizes n (x ∷ atoms) p = (p.0, fits_within sizes n atoms p.1)

every_before : {X Y : Type 0} (P : Y → Type 0) (f : X → Y) (xs : List X) → Every P (map f xs) → Every (λ x. P (f x)) xs
every_before P f [] p = tt
every_before P f (x ∷ xs) p = (p.0, every_before P f xs p.1)

no_slots : (atoms : List OpAtom) (rest : List Atom) → flat_map slots_of (map (λ a. Stateless a) atoms ++ rest) ≡ flat_map slots_of rest
no_slots [] rest = refl
no_slots (x ∷ atoms) rest = no_slots atoms rest

pub stage_found : (stages : List StageForm) (k : ℕ) → k < length stages → slice_get stages k ≡ Some (stage_at stages k)
stage_found stages k h = slice_get-get_or stages k empty_stage h

-- ops: the atoms without state of a stage, as a configuration keeps them
pub ops_there : (s : StageForm) (ops : List OpAtom) (sizes : List ℕ) (n : ℕ) → ops ≡ s.stateless → StageWithin sizes n s → Every (λ atom. OpWithin n atom) ops
ops_there s ops sizes n first p = rw first (ops_within sizes n s.stateless (map (λ a. Stateful a) s.stateful) p)

-- fits: those with state
module _ {P : Type 0} (trees_of : P → TreesForm) where
  slots_of_fits : (atoms : List (FitAtom P)) → flat_map (λ (a : FitAtom P). a.slots) atoms ≡ flat_map slots_of (map (λ a. Stateful a) (map (fit_form trees_of) atoms))
  slots_of_fits [] = refl
  slots_of_fits (x ∷ atoms) = ap (λ (z : List PartSlot). x.slots ++ z) (slots_of_fits atoms)

  module _ (s : StageForm) (fits : List (FitAtom P)) (second : map (fit_form trees_of) fits ≡ s.stateful) where
    pub fits_there : (sizes : List ℕ) (n : ℕ) → StageWithin sizes n s → Every (λ atom. FitWithin sizes n (fit_form trees_of atom)) fits
    fits_there sizes n p =
        every_before (λ atom. FitWithin sizes n atom) (fit_form trees_of) fits
        (rw second (fits_within sizes n s.stateful (Every-right (λ atom. AtomWithin sizes n atom) (map (λ a. Stateless a) s.stateless) (map (λ a. Stateful a) s.stateful) p)))

    pub slots_are : flat_map (λ (a : FitAtom P). a.slots) fits ≡ stage_slots s
    slots_are =
        slots_of_fits fits
        ∙ ap (λ (xs : List AtomForm). flat_map slots_of (map (λ a. Stateful a) xs)) second
        ∙ sym (no_slots s.stateless (map (λ a. Stateful a) s.stateful))

    -- words': when the atoms without state have acted; words'', arrays', ts': when all have
    pub stage_ran : (hash : Hash) (number : ℕ) (ops : List OpAtom) (words words' words'' : List ℕ) (arrays arrays' : Arrays) (ts ts' : List Touch)
        → ops ≡ s.stateless → words' ≡ runs (op_in_place hash) ops words
        → ◌≡◌ {A = InPlace} (placed words'' arrays' ts') (runs (fit_in_place number) (map (fit_form trees_of) fits) (placed words' arrays ts))
        → NoneReads (atoms_of s) → AreDistinct (stage_arrays s)
        → ◌≡◌ {A = InPlace} (placed words'' arrays' ts') (placed (put (stage_exports hash s arrays words) words) (store (stage_writes s arrays words) arrays) (ts ++ touches_before number s arrays (Some words)))
    stage_ran hash number ops words words' words'' arrays arrays' ts ts' first one two none apart =
        two
        ∙ ap (λ (xs : List AtomForm). runs (fit_in_place number) xs (placed words' arrays ts)) second
        ∙ ap (λ (w : List ℕ). runs (fit_in_place number) s.stateful (placed w arrays ts)) (one ∙ ap (λ (xs : List OpAtom). runs (op_in_place hash) xs words) first)
        ∙ stage_acted hash number s words arrays ts none apart

-- A stage's atoms and the stages in turn: the first rule that is broken, and what is seen so far.
use Rattle.std.specs.Prelude.{◌≡◌, ℕ, ◌+◌, Option, Some, None, List, [], ◌∷◌, ◌++◌, length, map}
use Rattle.std.specs.List.{flat_map}
use Rattle.banzai_config.specs.declared.fault.ConfigKind.{ConfigKind}
use Rattle.banzai_config.specs.declared.judge.Seen.{Seen}
use Rattle.banzai_config.specs.declared.walk.BrokenAtom.{BrokenAtom}
use Rattle.banzai_config.specs.declared.walk.BrokenPlace.{BrokenPlace}
use Rattle.banzai_config.specs.declared.parts.OpAtom.{OpAtom}
use Rattle.banzai_config.specs.declared.parts.TreeAtom.{TreeAtom}
use Rattle.banzai_config.specs.Judged.{broken}
use Rattle.banzai_config.specs.Legal.{Shape, Sizes, Violation, atom_tests, before_of, is_stateful, is_stateless}
use Rattle.banzai_config.specs.Named.{arrays_of, reads_of, stage_arrays, stage_targets, targets_of}
use Rattle.banzai_config.specs.Parts.{Atom, Stateless, Stateful, StageForm, atom_form, atoms_of}

abbrev pub op_atom : OpAtom → Atom
op_atom a = Stateless a

abbrev pub op_atoms : List OpAtom → List Atom
op_atoms atoms = map op_atom atoms

abbrev pub tree_atom : TreeAtom → Atom
tree_atom a = Stateful (atom_form a)

abbrev pub tree_atoms : List TreeAtom → List Atom
tree_atoms atoms = map tree_atom atoms

-- the sets have what these stages name, and these atoms of the stage after them
pub record IsSeen (stages : List StageForm) (atoms : List Atom) (s : Seen) : Type 0 where
  pub held : s.held.numbers ≡ flat_map stage_arrays stages ++ flat_map arrays_of atoms
  pub known : s.known.numbers ≡ flat_map stage_targets stages
  pub written : s.written.numbers ≡ flat_map targets_of atoms
  pub read : s.read.numbers ≡ flat_map reads_of atoms

-- the sets behind a stage
pub record IsEnded (old new : Seen) : Type 0 where
  pub held : new.held.numbers ≡ old.held.numbers
  pub known : new.known.numbers ≡ old.known.numbers ++ old.written.numbers
  pub written : new.written.numbers ≡ []
  pub read : new.read.numbers ≡ []

-- the atom at this place, counted from 0, or else what comes after it
abbrev pub at_place : Option ConfigKind → ℕ → Option BrokenAtom → Option BrokenAtom
at_place None n rest = rest
at_place (Some k) n rest = Some (record { kind = k; atom = n })

-- the first atom that breaks a rule. before: the atoms before these in their stage
abbrev pub first_in : Shape → Sizes → List StageForm → List Atom → List Atom → Option BrokenAtom
first_in s z stages before [] = None
first_in s z stages before (a ∷ atoms) =
    at_place (broken (atom_tests s z (before_of stages before) a)) (length before) (first_in s z stages (before ++ a ∷ []) atoms)

-- the place of an atom of stage n
abbrev pub in_stage : Option BrokenAtom → ℕ → Option BrokenPlace → Option BrokenPlace
in_stage None n rest = rest
in_stage (Some b) n rest = Some (record { kind = b.kind; stage = n; atom = b.atom + 1 })

-- the first atom of these stages that breaks a rule. before: the stages before these
abbrev pub first_of : Shape → Sizes → List StageForm → List StageForm → Option BrokenPlace
first_of s z before [] = None
first_of s z before (stage ∷ stages) =
    in_stage (first_in s z before [] (atoms_of stage)) (length before + 1) (first_of s z (before ++ stage ∷ []) stages)

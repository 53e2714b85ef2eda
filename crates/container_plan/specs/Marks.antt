-- Marks: a stage for each container.
use Rattle.std.specs.Prelude.{ℕ, List, fold, slice_set}
use Rattle.banzai_config.specs.declared.parts.OpAtom.{OpAtom}
use Rattle.banzai_config.specs.declared.parts.TreeAtom.{TreeAtom}
use Rattle.banzai_config.specs.Named.{reads_of, targets_of}
use Rattle.banzai_config.specs.Parts.{Stateful, Stateless, atom_form}

-- each of the places gets the stage
abbrev pub marked : ℕ → List ℕ → List ℕ → List ℕ
marked stage places marks = fold (λ ms c. slice_set ms c stage) marks places

-- what an atom of each kind reads and writes
abbrev pub op_reads : OpAtom → List ℕ
op_reads a = reads_of (Stateless a)

abbrev pub op_targets : OpAtom → List ℕ
op_targets a = targets_of (Stateless a)

abbrev pub tree_atom_reads : TreeAtom → List ℕ
tree_atom_reads a = reads_of (Stateful (atom_form a))

abbrev pub tree_atom_targets : TreeAtom → List ℕ
tree_atom_targets a = targets_of (Stateful (atom_form a))

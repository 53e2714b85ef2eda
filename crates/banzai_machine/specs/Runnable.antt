-- What a machine needs of a configuration: every number that it names is there, each array and each container that a stage
-- writes has one owner, and no atom reads what an earlier one of its stage writes.
use Rattle.std.specs.Prelude.{◌≡◌, ℕ, ◌<◌, ◌≤◌, true, Option, Some, None, List, [], length, map, slice_index, slice_index_or, ⊤}
use Rattle.std.specs.List.{AllByRecursion}
use Rattle.atom_traits.specs.Operation.{operation_below, operation_has_args}
use Rattle.atom_traits.specs.Tests.{port_below, trees_below}
use Rattle.banzai_config.specs.declared.parts.OpAtom.{OpAtom}
use Rattle.banzai_config.specs.declared.parts.PartSlot.{PartSlot}
use Rattle.banzai_config.specs.Legal.{length_of_array}
use Rattle.banzai_config.specs.Parts.{Atom, AtomForm, PartsForm, Stateful, Stateless, StageForm, atoms_of}
use Rattle.banzai_machine.specs.InPlace.{NoneReadsIn}
use Rattle.banzai_machine.specs.Own.{OwnArrays, OwnContainers}

-- the container that takes a word, if one does
abbrev pub ExportWithin : ℕ → Option ℕ → Type 0
ExportWithin containers None = ⊤
ExportWithin containers (Some k) = k < containers

pub record OpWithin (containers : ℕ) (atom : OpAtom) : Type 0 where
  pub to : atom.to < containers
  pub names : operation_below containers atom.op ≡ true
  pub args : operation_has_args atom.op ≡ true

-- sizes: the lengths of the arrays
pub record SlotWithin (sizes : List ℕ) (containers : ℕ) (slot : PartSlot) : Type 0 where
  pub array : slot.array < length sizes
  pub size : 0 < slice_index sizes slot.array
  pub index : port_below containers slot.index ≡ true
  pub old : ExportWithin containers slot.old
  pub new : ExportWithin containers slot.new

pub record FitWithin (sizes : List ℕ) (containers : ℕ) (atom : AtomForm) : Type 0 where
  pub some : 0 < length atom.slots
  pub few : length atom.slots ≤ 2
  pub slots : AllByRecursion (λ slot. SlotWithin sizes containers slot) atom.slots
  pub trees : trees_below containers atom.trees ≡ true

-- every container and array that an atom names is there
abbrev pub AtomWithin : List ℕ → ℕ → Atom → Type 0
AtomWithin sizes containers (Stateless atom) = OpWithin containers atom
AtomWithin sizes containers (Stateful atom) = FitWithin sizes containers atom

abbrev pub StageWithin : List ℕ → ℕ → StageForm → Type 0
StageWithin sizes containers stage = AllByRecursion (λ atom. AtomWithin sizes containers atom) (atoms_of stage)

-- the lengths of a configuration's arrays
abbrev pub array_sizes : PartsForm → List ℕ
array_sizes p = map length_of_array p.arrays

pub record IsRunnable (p : PartsForm) : Type 0 where
  pub some : 0 < length p.stages
  pub few : length p.stages ≤ 65535
  pub narrow : p.containers ≤ 2048
  pub fields : length p.fields ≤ p.containers
  pub shown : length p.outputs ≡ length p.fields
  pub stages : AllByRecursion (λ stage. StageWithin (array_sizes p) p.containers stage) p.stages
  pub arrays : OwnArrays p.stages
  pub writers : OwnContainers p.stages
  pub apart : NoneReadsIn p.stages
  pub outputs : AllByRecursion (λ port. port_below p.containers port ≡ true) p.outputs

-- a stage by its number, from 0
abbrev pub empty_stage : StageForm
empty_stage = record { stateless = []; stateful = [] }

abbrev pub stage_at : List StageForm → ℕ → StageForm
stage_at stages k = slice_index_or stages k empty_stage

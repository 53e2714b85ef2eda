-- The parts of a configuration, apart from where their trees lie in memory.
use Rattle.std.specs.Prelude.{ℕ, List, ◌++◌, map}
use Rattle.dom_words.specs.declared.array.Array.{Array}
use Rattle.atom_traits.specs.declared.tree.Port.{Port}
use Rattle.atom_traits.specs.Form.{TreesForm, forms}
use Rattle.banzai_config.specs.declared.parts.FitAtom.{FitAtom}
use Rattle.banzai_config.specs.declared.parts.OpAtom.{OpAtom}
use Rattle.banzai_config.specs.declared.parts.PartSlot.{PartSlot}
use Rattle.banzai_config.specs.declared.parts.Parts.{Parts}
use Rattle.banzai_config.specs.declared.parts.StageParts.{StageParts}
use Rattle.banzai_config.specs.declared.parts.TreeAtom.{TreeAtom}
use Rattle.banzai_config.specs.declared.parts.Version.{Version}

-- an atom with state
pub record AtomForm : Type 0 where
  pub slots : List PartSlot
  pub trees : TreesForm

-- the atoms of a stage
pub record StageForm : Type 0 where
  pub stateless : List OpAtom
  pub stateful : List AtomForm

-- a configuration; a field's name is its bytes
pub record PartsForm : Type 0 where
  pub version : Version
  pub fields : List (List ℕ)
  pub arrays : List Array
  pub containers : ℕ
  pub stages : List StageForm
  pub outputs : List Port

abbrev pub atom_form : TreeAtom → AtomForm
atom_form a = record { slots = a.slots; trees = forms a.trees }

abbrev pub stage_form : StageParts → StageForm
stage_form s = record { stateless = s.stateless; stateful = map atom_form s.stateful }

abbrev pub parts_form : Parts → PartsForm
parts_form p = record {
  version = p.version;
  fields = p.fields;
  arrays = p.arrays;
  containers = p.containers;
  stages = map stage_form p.stages;
  outputs = p.outputs;
}

-- a fitted atom, where trees_of gives the trees that parameters stand for
abbrev pub fit_form : {P : Type 0} → (P → TreesForm) → FitAtom P → AtomForm
fit_form trees_of a = record { slots = a.slots; trees = trees_of a.params }

-- an atom of either kind
pub data Atom : Type 0 where
  Stateless : OpAtom → Atom
  Stateful : AtomForm → Atom

-- all atoms of a stage in the order of their positions
abbrev pub atoms_of : StageForm → List Atom
atoms_of stage = map (λ a. Stateless a) stage.stateless ++ map (λ a. Stateful a) stage.stateful

-- The parts of a configuration that are compiled from codelets, the atoms of these and their places.
use Rattle.std.specs.Prelude.{◌≡◌, ℕ, zero, suc, ◌+◌, if◌then◌else◌, nat_eq, Some, List, [], ◌∷◌, length, map}
use Rattle.std.specs.List.{flat_map}
use Rattle.atom_traits.specs.declared.tree.Port.{Port}
use Rattle.codelets.specs.declared.answer.Codelets.{Codelets}
use Rattle.codelets.specs.declared.codelet.Codelet.{Codelet}
use Rattle.codelets.specs.declared.codelet.Slot.{Slot}
use Rattle.dom_flat.specs.declared.line.Operand.{Operand}
use Rattle.stage_plan.specs.declared.place.Place.{Place}
use Rattle.atom_match.specs.Atoms.{AtomForm as Does, Operates, Updates, atom_of, port_of}
use Rattle.atom_match.specs.Classes.{container_of}
use Rattle.banzai_config.specs.declared.parts.OpAtom.{OpAtom}
use Rattle.banzai_config.specs.declared.parts.PartSlot.{PartSlot}
use Rattle.banzai_config.specs.declared.parts.Version.TheVariants.{One}
use Rattle.banzai_config.specs.Parts.{Atom, Stateless, Stateful, AtomForm, PartsForm, StageForm}

-- these are what the atoms of all codelets do, in the order of the codelets
abbrev pub AreAtomsOf : Codelets → List Does → Type 0
AreAtomsOf codelets atoms = map Some atoms ≡ map (atom_of codelets) codelets.list

-- an operand at the container of its value
abbrev pub port_at : Codelets → Operand → Port
port_at codelets o = port_of (container_of codelets.values) o

abbrev pub part_slot : Codelets → Slot → PartSlot
part_slot codelets s = record { array = s.array; index = port_at codelets s.index; old = s.old; new = s.new }

-- a codelet without state writes the container of its statement's value; one with state has the slots of its arrays
abbrev pub part_of : Codelets → Codelet → Does → Atom
part_of codelets c (Operates o) = Stateless (record { to = container_of codelets.values (length codelets.flat.fields + c.first); op = o })
part_of codelets c (Updates t) = Stateful (record { slots = map (part_slot codelets) c.slots; trees = t })

-- the statements of a codelet, its atom, and the stage of that, counted from 1
pub record Staged : Type 0 where
  pub members : List ℕ
  pub atom : Atom
  pub stage : ℕ

-- the codelets in their order, with their atoms and places
abbrev pub staged_by : Codelets → List Codelet → List Does → List Place → List Staged
staged_by codelets [] atoms places = []
staged_by codelets (c ∷ cs) [] places = []
staged_by codelets (c ∷ cs) (a ∷ atoms) [] = []
staged_by codelets (c ∷ cs) (a ∷ atoms) (p ∷ places) = record { members = c.lines; atom = part_of codelets c a; stage = p.stage } ∷ staged_by codelets cs atoms places

abbrev pub staged : Codelets → List Does → List Place → List Staged
staged codelets atoms places = staged_by codelets codelets.list atoms places

abbrev pub stateless_of : Atom → List OpAtom
stateless_of (Stateless a) = a ∷ []
stateless_of (Stateful a) = []

abbrev pub stateful_of : Atom → List AtomForm
stateful_of (Stateless a) = []
stateful_of (Stateful a) = a ∷ []

-- what an atom of a kind is, where it stands at stage k
abbrev pub if_at : {X : Type 0} → ℕ → (Atom → List X) → Staged → List X
if_at k kind q = if nat_eq q.stage k then kind q.atom else []

-- a stage: the atoms of each kind in the order of the codelets
abbrev pub stage_at : List Staged → ℕ → StageForm
stage_at qs k = record { stateless = flat_map (if_at k stateless_of) qs; stateful = flat_map (if_at k stateful_of) qs }

-- n stages after stage k
abbrev pub stages_from : List Staged → ℕ → ℕ → List StageForm
stages_from qs k zero = []
stages_from qs k (suc n) = stage_at qs (suc k) ∷ stages_from qs (suc k) n

-- the parts in `depth` stages: containers and outputs are those of the codelets
abbrev pub compiled_parts : Codelets → (depth : ℕ) → List Does → List Place → PartsForm
compiled_parts codelets depth atoms places = record {
  version = One;
  fields = codelets.flat.fields;
  arrays = codelets.flat.arrays;
  containers = length codelets.values;
  stages = stages_from (staged codelets atoms places) 0 depth;
  outputs = map (port_at codelets) codelets.outputs;
}

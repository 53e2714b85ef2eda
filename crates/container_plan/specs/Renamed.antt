-- The same atoms and stages with other containers.
use Rattle.std.specs.Prelude.{ℕ, map}
use Rattle.std.specs.Option.{option_map}
use Rattle.atom_traits.specs.Operation.{operation_renamed}
use Rattle.atom_traits.specs.Renamed.{port_renamed, renamed}
use Rattle.banzai_config.specs.declared.parts.OpAtom.{OpAtom}
use Rattle.banzai_config.specs.declared.parts.PartSlot.{PartSlot}
use Rattle.banzai_config.specs.declared.parts.Version.TheVariants.{Two}
use Rattle.banzai_config.specs.Parts.{Atom, AtomForm, Stateful, Stateless, PartsForm, StageForm}

-- name gives the new number of each container
module _ (name : ℕ → ℕ) where
  abbrev pub op_renamed : OpAtom → OpAtom
  op_renamed a = record { to = name a.to; op = operation_renamed name a.op }

  abbrev pub slot_renamed : PartSlot → PartSlot
  slot_renamed slot = record { array = slot.array; index = port_renamed name slot.index; old = option_map name slot.old; new = option_map name slot.new }

  abbrev pub form_renamed : AtomForm → AtomForm
  form_renamed a = record { slots = map slot_renamed a.slots; trees = renamed name a.trees }

  abbrev pub atom_renamed : Atom → Atom
  atom_renamed (Stateless a) = Stateless (op_renamed a)
  atom_renamed (Stateful a) = Stateful (form_renamed a)

  abbrev pub stage_renamed : StageForm → StageForm
  stage_renamed stage = record { stateless = map op_renamed stage.stateless; stateful = map form_renamed stage.stateful }

  -- the parts with so many containers under their new numbers, in version two
  abbrev pub parts_renamed : (containers : ℕ) → PartsForm → PartsForm
  parts_renamed containers p = record {
    version = Two;
    fields = p.fields;
    arrays = p.arrays;
    containers = containers;
    stages = map stage_renamed p.stages;
    outputs = map (port_renamed name) p.outputs;
  }

-- What an atom names: the containers that it reads, those that it writes, and the arrays of its slots.
use Rattle.std.specs.Prelude.{ℕ, Option, Some, None, List, [], ◌∷◌, ◌++◌, map}
use Rattle.std.specs.List.{flat_map}
use Rattle.std.specs.Option.{option_to_list}
use Rattle.atom_traits.specs.declared.tree.Guard.{Guard}
use Rattle.atom_traits.specs.declared.tree.Leaf.{Leaf}
use Rattle.atom_traits.specs.declared.tree.Leaf.TheVariants as leaf
use Rattle.atom_traits.specs.declared.tree.Port.{Port}
use Rattle.atom_traits.specs.declared.tree.Port.TheVariants as port
use Rattle.atom_traits.specs.declared.tree.Source.{Source}
use Rattle.atom_traits.specs.declared.tree.Source.TheVariants as source
use Rattle.atom_traits.specs.Form.{TreeForm, Ends, Asks, TreesForm}
use Rattle.atom_traits.specs.Operation.{ports_of}
use Rattle.banzai_config.specs.declared.parts.PartSlot.{PartSlot}
use Rattle.banzai_config.specs.Parts.{Atom, Stateless, Stateful, StageForm, atoms_of}

abbrev pub port_reads : Port → List ℕ
port_reads (port.Const word) = []
port_reads (port.Container at) = at ∷ []

abbrev pub source_reads : Source → List ℕ
source_reads (source.Const word) = []
source_reads (source.Container at) = at ∷ []
source_reads (source.State k) = []

abbrev pub guard_reads : Guard → List ℕ
guard_reads g = source_reads g.left ++ source_reads g.right

abbrev pub leaf_reads : Leaf → List ℕ
leaf_reads leaf.Keep = []
leaf_reads (leaf.Put p) = port_reads p
leaf_reads (leaf.Add p) = port_reads p
leaf_reads (leaf.Sub p) = port_reads p

abbrev pub tree_reads : TreeForm → List ℕ
tree_reads (Ends l) = leaf_reads l
tree_reads (Asks g on_yes on_no) = guard_reads g ++ (tree_reads on_yes ++ tree_reads on_no)

abbrev pub second_reads : Option TreeForm → List ℕ
second_reads None = []
second_reads (Some t) = tree_reads t

abbrev pub trees_reads : TreesForm → List ℕ
trees_reads t = tree_reads t.first ++ second_reads t.second

abbrev pub slot_reads : PartSlot → List ℕ
slot_reads slot = port_reads slot.index

abbrev pub slot_targets : PartSlot → List ℕ
slot_targets slot = option_to_list slot.old ++ option_to_list slot.new

abbrev pub slot_array : PartSlot → ℕ
slot_array slot = slot.array

-- the containers that an atom reads: operands of its operator, indexes of its slots and what its trees name
abbrev pub reads_of : Atom → List ℕ
reads_of (Stateless a) = flat_map port_reads (ports_of a.op)
reads_of (Stateful a) = flat_map slot_reads a.slots ++ trees_reads a.trees

-- the containers that an atom writes
abbrev pub targets_of : Atom → List ℕ
targets_of (Stateless a) = a.to ∷ []
targets_of (Stateful a) = flat_map slot_targets a.slots

-- the arrays that an atom holds
abbrev pub arrays_of : Atom → List ℕ
arrays_of (Stateless a) = []
arrays_of (Stateful a) = map slot_array a.slots

-- the containers that a stage writes, and the arrays that it holds
abbrev pub stage_targets : StageForm → List ℕ
stage_targets stage = flat_map targets_of (atoms_of stage)

abbrev pub stage_arrays : StageForm → List ℕ
stage_arrays stage = flat_map arrays_of (atoms_of stage)

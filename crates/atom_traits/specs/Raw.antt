-- The parameters of Raw, and the trees that they stand for.
use Rattle.std.specs.Prelude.{None}
use Rattle.atom_traits.specs.declared.tree.Leaf.{Leaf}
use Rattle.atom_traits.specs.declared.tree.Leaf.TheVariants.{Keep, Put, Add}
use Rattle.atom_traits.specs.declared.raw.RawOp.{RawOp}
use Rattle.atom_traits.specs.declared.raw.RawOp.TheVariants as op
use Rattle.atom_traits.specs.Form.{Ends, TreeForm, TreesForm}

abbrev pub raw_leaf : RawOp → Leaf
raw_leaf op.Keep = Keep
raw_leaf (op.Put p) = Put p
raw_leaf (op.Add p) = Add p

-- one tree
abbrev pub single_tree : TreeForm → TreesForm
single_tree t = record { first = t; second = None }

-- one leaf
abbrev pub leaf_trees : Leaf → TreesForm
leaf_trees leaf = single_tree (Ends leaf)

-- what the parameters stand for
abbrev pub raw_trees : RawOp → TreesForm
raw_trees op = leaf_trees (raw_leaf op)

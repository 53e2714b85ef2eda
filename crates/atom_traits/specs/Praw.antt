-- The parameters of Praw and of IfElse, and the trees that they stand for.
use Rattle.atom_traits.specs.declared.tree.Leaf.TheVariants.{Keep}
use Rattle.atom_traits.specs.declared.praw.PrawOp.{PrawOp}
use Rattle.atom_traits.specs.declared.praw.PrawOp.TheVariants as praw
use Rattle.atom_traits.specs.declared.if_else.IfElseOp.{IfElseOp}
use Rattle.atom_traits.specs.declared.if_else.IfElseOp.TheVariants as if_else
use Rattle.atom_traits.specs.Form.{TreeForm, Ends, Asks, TreesForm}
use Rattle.atom_traits.specs.Raw.{raw_leaf, single_tree}

abbrev pub praw_tree : PrawOp → TreeForm
praw_tree (praw.Always op) = Ends (raw_leaf op)
praw_tree (praw.Where guard op) = Asks guard (Ends (raw_leaf op)) (Ends Keep)
praw_tree (praw.Unless guard op) = Asks guard (Ends Keep) (Ends (raw_leaf op))

abbrev pub praw_trees : PrawOp → TreesForm
praw_trees op = single_tree (praw_tree op)

abbrev pub if_else_tree : IfElseOp → TreeForm
if_else_tree (if_else.Always op) = Ends (raw_leaf op)
if_else_tree (if_else.Either guard on_yes on_no) = Asks guard (Ends (raw_leaf on_yes)) (Ends (raw_leaf on_no))

abbrev pub if_else_trees : IfElseOp → TreesForm
if_else_trees op = single_tree (if_else_tree op)

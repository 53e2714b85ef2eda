use Rattle.std.proofs.Common.{◌≡◌, Option, subst}
use Rattle.std.specs.Prelude.{IfOk}
use Rattle.atom_traits.specs.Form.{TreesForm, forms_if}
use Rattle.atom_match.proofs.Matched.{earlier_at, trees_there}
use Rattle.atom_match.proofs.matching.trees.Goals as goal

pub trees_of_codelet-requires : goal.trees_of_codelet-requires
trees_of_codelet-requires c =
    earlier_at c.args.codelets.now c.list.result.now c.args.which c.index-list-which.result c.list.ensures.same c.index-list-which.is c.requires

pub returns : goal.returns
returns c =
    subst (λ (o : Option TreesForm). IfOk c.trees_of_codelet.result (λ t. forms_if t ≡ o)) (trees_there c.args.codelets.now c.list.result.now c.args.which c.index-list-which.result c.list.ensures.same c.index-list-which.is c.requires) c.trees_of_codelet.ensures

use Rattle.std.proofs.Common.{sym, ◌∙◌}
use Rattle.atom_traits.specs.Form.{forms}
use Rattle.atom_traits.specs.Fits.{if_else_form, is_low, is_raw}
use Rattle.atom_traits.specs.Praw.{if_else_tree}
use Rattle.atom_traits.proofs.Parameters.{if_else_parts, parameters_fit}
use Rattle.atom_traits.proofs.if_else.fitted_op.Goals as goal

pub returns-then-fit_if_else : goal.returns-then-fit_if_else
returns-then-fit_if_else c =
    parameters_fit if_else_form (is_low is_raw 1) if_else_tree c.args.bits (forms c.args.trees.now) c.if_else_op.result if_else_parts (sym c.fit_if_else.ensures ∙ c.if-fit_if_else.true) c.if_else_op.ensures

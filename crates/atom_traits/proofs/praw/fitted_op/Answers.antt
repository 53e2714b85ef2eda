use Rattle.std.proofs.Common.{◌&&◌, sym, ◌∙◌}
use Rattle.atom_traits.specs.Form.{forms}
use Rattle.atom_traits.specs.Fits.{is_low, is_raw, keeps_a_side, praw_form}
use Rattle.atom_traits.specs.Praw.{praw_tree}
use Rattle.atom_traits.proofs.Parameters.{parameters_fit, praw_parts}
use Rattle.atom_traits.proofs.praw.fitted_op.Goals as goal

pub returns-then-fit_praw : goal.returns-then-fit_praw
returns-then-fit_praw c =
    parameters_fit praw_form (λ t. is_low is_raw 1 t && keeps_a_side t) praw_tree c.args.bits (forms c.args.trees.now) c.praw_op.result praw_parts (sym c.fit_praw.ensures ∙ c.if-fit_praw.true) c.praw_op.ensures

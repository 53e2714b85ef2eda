use Rattle.std.proofs.Common.{◌∙◌, sym, ap}
use Rattle.atom_match.proofs.Places.{place_in-if, place_or}
use Rattle.atom_match.proofs.class.container.Goals as goal

pub returns-in-None : goal.returns-in-None
returns-in-None c =
    c.containers.ensures.same ∙ ap (place_or c.args.codelets.now.values) (sym c.in-None.is ∙ c.container.ensures.same) ∙ place_in-if c.args.codelets.now.values c.args.value

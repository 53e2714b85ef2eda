use Rattle.dom_ast.specs.inner.Runs.{ranges_over}
use Rattle.dom_ast.proofs.Serials.{part_within_at}
use Rattle.dom_ast.proofs.serial.part_at.Goals as goal

pub returns-clause-within : goal.returns-clause-within
returns-clause-within c =
    part_within_at (ranges_over c.args.words.now c.args.state.now) c.args.parts.now c.args.k c.get.result.now c.requires.inside c.get.ensures.same c.requires.within

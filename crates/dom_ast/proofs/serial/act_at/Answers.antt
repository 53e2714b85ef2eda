use Rattle.dom_ast.specs.inner.Runs.{ranges_over}
use Rattle.dom_ast.proofs.Serials.{act_within_at}
use Rattle.dom_ast.proofs.serial.act_at.Goals as goal

pub returns-clause-within : goal.returns-clause-within
returns-clause-within c =
    act_within_at (ranges_over c.args.words.now c.args.state.now) c.args.acts.now c.args.k c.get.result.now c.requires.inside c.get.ensures.same c.requires.within

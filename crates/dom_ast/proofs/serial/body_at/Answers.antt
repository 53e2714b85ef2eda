use Rattle.dom_ast.specs.inner.Runs.{ranges_over}
use Rattle.dom_ast.proofs.Serials.{body_within_at}
use Rattle.dom_ast.proofs.serial.body_at.Goals as goal

pub returns-clause-guard : goal.returns-clause-guard
returns-clause-guard c =
    (body_within_at (ranges_over c.args.words.now c.args.state.now) c.args.bodies.now c.args.k c.get.result.now c.requires.inside c.get.ensures.same c.requires.within).0

pub returns-clause-acts : goal.returns-clause-acts
returns-clause-acts c =
    (body_within_at (ranges_over c.args.words.now c.args.state.now) c.args.bodies.now c.args.k c.get.result.now c.requires.inside c.get.ensures.same c.requires.within).1

use Rattle.dom_ast.specs.inner.Runs.{ranges_over}
use Rattle.dom_ast.proofs.Serials.{call_within}
use Rattle.dom_ast.proofs.serial.count_of_args.Goals as goal

pub returns-clause-few : goal.returns-clause-few
returns-clause-few c =
    rw ((call_within (ranges_over c.args.words.now c.args.state.now) c.args.unit c.args.args.now c.requires).0) c.args.unit.few_args

pub returns-clause-met : goal.returns-clause-met
returns-clause-met c = (call_within (ranges_over c.args.words.now c.args.state.now) c.args.unit c.args.args.now c.requires).0

pub returns-clause-within : goal.returns-clause-within
returns-clause-within c = (call_within (ranges_over c.args.words.now c.args.state.now) c.args.unit c.args.args.now c.requires).1

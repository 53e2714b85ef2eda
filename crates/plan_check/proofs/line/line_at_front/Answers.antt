use Rattle.std.proofs.Common.{arith}
use Rattle.plan_check.specs.Fronts.{number_form}
use Rattle.plan_check.proofs.Lines.{no_line}
use Rattle.plan_check.proofs.line.line_at_front.Goals as goal

pub returns-clause-none : goal.returns-clause-none
returns-clause-none c = no_line number_form c.front_line.result c.args.first c.args.depth c.args.text.now (omega arith) (omega arith) c.front_line.ensures

use Rattle.dom_ast.proofs.Serials.{started_sizes}
use Rattle.dom_ast.proofs.serial.SerialRun.new.Goals as goal

pub invariant_of-result-clause-sizes : goal.invariant_of-result-clause-sizes
invariant_of-result-clause-sizes c = rw (c.in_ok-arrays.ensures) (started_sizes c.args.program.arrays)

use Rattle.std.proofs.Common.{arith}
use Rattle.compile_parts.proofs.Fits.{few_numbers}
use Rattle.compile_parts.proofs.adding.first_value.Goals as goal

pub overflow_add-result : goal.overflow_add-result
overflow_add-result c = omega (arith, few_numbers c.args.codelets.now, c.args.codelets.now.flat.few_fields, c.requires, c.flat.ensures, c.len.ensures.number)

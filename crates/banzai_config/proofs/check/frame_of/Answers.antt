use Rattle.std.proofs.Common.{◌≡◌, ◌≤◌, length, arith}
use Rattle.banzai_config.specs.Parts.{parts_form}
use Rattle.banzai_config.proofs.Broken.{few_arrays, few_fields}
use Rattle.banzai_config.proofs.check.frame_of.Goals as goal

pub overflow_cast-result : goal.overflow_cast-result
overflow_cast-result c = omega (arith, few_fields (parts_form c.args.parts.now) c.requires)

pub overflow_cast-result-2 : goal.overflow_cast-result-2
overflow_cast-result-2 c = omega (arith, few_arrays (parts_form c.args.parts.now) c.requires)

pub returns-clause-few : goal.returns-clause-few
returns-clause-few c = omega (arith, few_fields (parts_form c.args.parts.now) c.requires)

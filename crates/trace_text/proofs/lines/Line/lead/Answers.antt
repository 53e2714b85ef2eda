use Rattle.std.proofs.Common.{arith}
use Rattle.std.proofs.lemmas.Fmt.{decimal_nonempty, length-decimal-le}
use Rattle.trace_text.proofs.lines.Line.lead.Goals as goal

pub decimals-requires : goal.decimals-requires
decimals-requires c = let few = length-decimal-le 20 c.args.count (omega arith) (omega (arith, c.ranges.count.fits)) c.ranges.count.fits in omega (arith, few, c.requires)

pub returns-clause-left : goal.returns-clause-left
returns-clause-left c = let few = length-decimal-le 20 c.args.count (omega arith) (omega (arith, c.ranges.count.fits)) c.ranges.count.fits in omega (arith, few, c.decimals.ensures.left)

pub returns-clause-some : goal.returns-clause-some
returns-clause-some c = let some = decimal_nonempty c.args.count c.ranges.count.fits in omega (arith, some, c.decimals.ensures.left)

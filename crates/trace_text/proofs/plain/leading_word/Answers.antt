use Rattle.trace_text.proofs.PlainRows.{minus-word}
use Rattle.trace_text.proofs.plain.leading_word.Goals as goal

pub returns : goal.returns
returns c = minus-word c.args.text.now c.in-Some.digits.now c.in_ok-size.size c.wrapping_neg.result c.in_ok-size.behind.now c.in-Some.ensures c.in_ok-size.ensures c.wrapping_neg.ensures c.wrapping_neg.type_inv

use Rattle.trace_text.proofs.PlainRows.{rest-all}
use Rattle.trace_text.proofs.plain.behind_bytes.Goals as goal

pub returns : goal.returns
returns c = rest-all c.args.count c.args.text.now

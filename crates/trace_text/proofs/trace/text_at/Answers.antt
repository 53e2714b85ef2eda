use Rattle.std.proofs.Common.{sym}
use Rattle.trace_text.proofs.Records.{text-missing, text-there}
use Rattle.trace_text.proofs.trace.text_at.Goals as goal

pub unreachable-requires : goal.unreachable-requires
unreachable-requires c = text-missing _ _ c.requires (sym (rw c.in_default.is at c.get.ensures.value))

pub returns : goal.returns
returns c = sym (text-there _ _ _ (sym (rw c.in-Some.is at c.get.ensures.value)))

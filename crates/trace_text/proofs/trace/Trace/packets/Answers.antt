use Rattle.std.proofs.Common.{sym}
use Rattle.trace_text.proofs.Storing.{length-stored}
use Rattle.trace_text.proofs.trace.Trace.packets.Goals as goal

pub returns : goal.returns
returns c = rw (← c.self.view_is) (sym (length-stored c.self.inside.width c.self.inside.columns.items c.self.inside.count c.self.inside.cells.items))

use Rattle.dom_finding.proofs.Stopped.{trace_stops}
use Rattle.dom_finding.proofs.reading.packets_of.Goals as goal

pub returns-in-Err-clause-stop : goal.returns-in-Err-clause-stop
returns-in-Err-clause-stop c = trace_stops c.args.text.now c.args.fields.now c.args.depth c.in-Err.fault c.stop_of.result c.stop_of.ensures c.in-Err.ensures.refused

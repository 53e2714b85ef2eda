use Rattle.dom_finding.proofs.Stopped.{events_stops}
use Rattle.dom_finding.proofs.queues.events_of.Goals as goal

pub returns-in-Err-clause-stop : goal.returns-in-Err-clause-stop
returns-in-Err-clause-stop c = events_stops c.args.text.now c.args.depth c.in-Err.fault c.stop_of_events.result c.stop_of_events.ensures c.in-Err.ensures.refused

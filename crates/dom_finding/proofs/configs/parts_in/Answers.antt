use Rattle.dom_finding.proofs.Stopped.{read_stops}
use Rattle.dom_finding.proofs.configs.parts_in.Goals as goal

pub returns-in-Err-clause-stop : goal.returns-in-Err-clause-stop
returns-in-Err-clause-stop c = read_stops c.args.text.now c.in-Err.fault c.read_stop.result c.read_stop.ensures c.in-Err.ensures.err

use Rattle.std.proofs.Common.{None, Some, cond}
use Rattle.dom_report.specs.RankedReport.{dropped_lines, served_lines}
use Rattle.dom_report.proofs.RankedRuns.{turn_put, turn_stop}
use Rattle.dom_report.proofs.ranked_report.put_turn.Goals as goal

pub returns-in_default-clause-bytes : goal.returns-in_default-clause-bytes
returns-in_default-clause-bytes g c =
    turn_stop (dropped_lines c.args.cycle (cond c.args.outcome.dropped (Some c.args.dropped.now) None)) (served_lines c.args.cycle (cond c.args.outcome.served (Some c.args.served.now) None))
    (g.S.Sink.held c.args.sink.now) (g.S.Sink.held c.put_dropped.new.sink) c.in_default.ensures.bytes

pub returns-clause-bytes : goal.returns-clause-bytes
returns-clause-bytes g c =
    turn_put (dropped_lines c.args.cycle (cond c.args.outcome.dropped (Some c.args.dropped.now) None)) (served_lines c.args.cycle (cond c.args.outcome.served (Some c.args.served.now) None))
    (g.S.Sink.held c.args.sink.now) (g.S.Sink.held c.put_dropped.new.sink) (g.S.Sink.held c.put_served.new.sink) c.put_served.result c.in-Ok.ensures.bytes c.put_served.ensures.bytes

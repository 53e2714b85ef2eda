use Rattle.std.proofs.Common.{arith, inl, inr}
use Rattle.dom_finding.specs.CommandForm.{ranking_in}
use Rattle.dom_finding.specs.Finding.{ranked}
use Rattle.dom_shell.specs.Call.{report_of}
use Rattle.dom_shell.proofs.Ended.{put_tried}
use Rattle.dom_shell.proofs.commands.schedule.put_schedule.Goals as goal

pub returns-in-Ok : goal.returns-in-Ok
returns-in-Ok g c taps =
    inl (put_tried c.put_ranked_report.result _ (report_of (g.H.HashUnits.meaning c.args.hash.now) taps (ranked (ranking_in c.args.ranking) c.args.run.machine.config c.args.run.trace))
    (rw (c.in-Ok.ensures.config, c.in-Ok.ensures.trace, c.in-Ok.ensures.rank, c.in-Ok.ensures.room, c.from-every.ensures) at c.put_ranked_report.ensures.bytes) c.put_ranked_report.ensures.cause c.status_of.ensures)

pub returns-in-Err : goal.returns-in-Err
returns-in-Err g c taps = inr c.stopped.ensures

pub put_ranked_report-requires : goal.put_ranked_report-requires
put_ranked_report-requires g c = (omega arith, rw c.from-every.ensures (c.in-Ok.ensures.ready (g.H.HashUnits.meaning c.args.hash.now)))

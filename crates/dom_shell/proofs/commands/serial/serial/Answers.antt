use Rattle.std.proofs.Common.{List, [], map, subst, ℕ}
use Rattle.dom_io.specs.Held.{Puts}
use Rattle.dom_ast.specs.CheckedForm.{checked_form}
use Rattle.dom_ast.specs.declared.checked.Checked.{Checked}
use Rattle.dom_finding.specs.Command.{serial}
use Rattle.dom_finding.specs.CommandForm.{names_in}
use Rattle.dom_finding.specs.Finding.{in_turn}
use Rattle.dom_report.specs.SerialReport.{serial_report}
use Rattle.dom_shell.specs.Ends.{call_of, sent_as}
use Rattle.dom_shell.proofs.Ended.{report_end, stop_end}
use Rattle.dom_shell.proofs.commands.serial.serial.Goals as goal

pub returns-in-Ok-clause-end : goal.returns-in-Ok-clause-end
returns-in-Ok-clause-end g c taps =
    let found = c.in-Ok.ensures.found in
    report_end (serial (names_in c.args.files)) [] (call_of (g.H.HashUnits.meaning c.args.hash.now) taps (g.F.Shelf.content c.args.shelf.now) (g.F.Shelf.faults c.args.shelf.now) (g.F.Shelf.faults c.prepare.new.shelf) (sent_as c.status_of.result (g.S.Sink.held c.args.sink.now) (g.S.Sink.held c.put_serial_report-put.new.sink) (g.S.Sink.faults c.args.sink.now) (g.S.Sink.faults c.put_serial_report-put.new.sink)))
    (in_turn (checked_form found.0) c.in-Ok.s.trace) c.put_serial_report-put.result found.2 c.in-Ok.ensures.kept
    (subst (λ (p : Checked). Puts (g.S.Sink.held c.args.sink.now) (g.S.Sink.held c.put_serial_report-put.new.sink) (serial_report (g.H.HashUnits.meaning c.args.hash.now) (checked_form p) (map (λ (q : ℕ × List ℕ). q.1) c.in-Ok.s.trace)) c.put_serial_report-put.result)
    found.1.program_is c.put_serial_report-put.ensures.bytes)
    c.put_serial_report-put.ensures.cause c.status_of.ensures

pub returns-in-Err-clause-end : goal.returns-in-Err-clause-end
returns-in-Err-clause-end g c taps =
    stop_end (serial (names_in c.args.files)) [] (call_of (g.H.HashUnits.meaning c.args.hash.now) taps (g.F.Shelf.content c.args.shelf.now) (g.F.Shelf.faults c.args.shelf.now) (g.F.Shelf.faults c.prepare.new.shelf) (sent_as c.stopped.result (g.S.Sink.held c.args.sink.now) (g.S.Sink.held c.stopped.new.sink) (g.S.Sink.faults c.args.sink.now) (g.S.Sink.faults c.stopped.new.sink)))
    c.in-Err.stop c.in-Err.ensures.stop c.stopped.ensures

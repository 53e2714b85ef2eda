use Rattle.std.proofs.Common.{◌≡◌, None, length, replicate}
use Rattle.dom_report.specs.Clocking.{ClockedOver}
use Rattle.dom_report.proofs.clocking.clock_idle.Given as goal

abbrev pub invariant-loop-done : goal.invariant-loop-done
invariant-loop-done g l = record {
  clocked : ClockedOver g.A.EachCycle.bytes g.A.EachCycle.after (g.H.HashUnits.meaning l.hash) (g.M.Clocked.machine l.initial.machine) (g.M.Clocked.machine l.machine) l.initial.action l.action (g.S.Sink.held l.initial.sink) (g.S.Sink.held l.sink) l.number (replicate l.done None);
  count : g.S.Sink.faults l.sink ≡ g.S.Sink.faults l.initial.sink;
  config : (g.M.Clocked.machine l.machine).config ≡ (g.M.Clocked.machine l.initial.machine).config;
  fits : g.A.EachCycle.fits l.action (g.M.Clocked.machine l.initial.machine).config;
  size : length l.leaving ≡ length l.initial.leaving;
}

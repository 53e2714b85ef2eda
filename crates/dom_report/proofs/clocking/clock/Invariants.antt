use Rattle.std.proofs.Common.{◌≡◌, All, length}
use Rattle.dom_report.proofs.ClockedPackets.{Underway}
use Rattle.dom_report.proofs.clocking.clock.Given as goal

abbrev pub invariant-loop-gap : goal.invariant-loop-gap
invariant-loop-gap g l = record {
  underway : Underway g.A.EachCycle.bytes g.A.EachCycle.after (g.H.HashUnits.meaning l.hash) (g.M.Clocked.machine l.initial.machine) (g.M.Clocked.machine l.machine) l.initial.action l.action (g.S.Sink.held l.initial.sink) (g.S.Sink.held l.sink) l.number (g.P.Packets.rest l.initial.packets) (g.P.Packets.rest l.packets);
  each : All (λ p. length p.1 ≡ length (g.M.Clocked.machine l.initial.machine).config.fields) (g.P.Packets.rest l.packets);
  count : g.S.Sink.faults l.sink ≡ g.S.Sink.faults l.initial.sink;
  config : (g.M.Clocked.machine l.machine).config ≡ (g.M.Clocked.machine l.initial.machine).config;
  fits : g.A.EachCycle.fits l.action (g.M.Clocked.machine l.initial.machine).config;
  entering : length l.entering ≡ length l.initial.entering;
  leaving : length l.leaving ≡ length l.initial.leaving;
}

abbrev pub decreases-loop-gap : goal.decreases-loop-gap
decreases-loop-gap g l = length (g.P.Packets.rest l.packets)

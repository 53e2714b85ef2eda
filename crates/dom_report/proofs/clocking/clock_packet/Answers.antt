use Rattle.std.proofs.Common.{◌+◌, [], ◌∷◌, Some, refl}
use Rattle.dom_report.proofs.Cycles.{packet_clocked, packet_stop, stopped_before}
use Rattle.dom_report.proofs.Parts.{idles, on_err, on_ok}
use Rattle.dom_report.proofs.clocking.clock_packet.Goals as goal

pub returns-in_default-clause-stopped : goal.returns-in_default-clause-stopped
returns-in_default-clause-stopped g c =
    stopped_before g.A.EachCycle.bytes g.A.EachCycle.after (g.H.HashUnits.meaning c.args.hash.now) (g.M.Clocked.machine c.args.machine.now) (g.M.Clocked.machine c.clock_idle.new.machine)
    c.args.action.now _ (g.S.Sink.held c.clock_idle.new.sink) c.args.number (idles c.args.gap) (Some c.args.words.now ∷ []) c.in_default.ensures.stopped

pub returns-clause-clocked : goal.returns-clause-clocked
returns-clause-clocked g c =
    on_ok c.clock_once.result
    (packet_clocked g.A.EachCycle.bytes g.A.EachCycle.after (g.H.HashUnits.meaning c.args.hash.now) (g.M.Clocked.machine c.args.machine.now) (g.M.Clocked.machine c.clock_idle.new.machine) (g.M.Clocked.machine c.clock_once.new.machine)
    c.args.action.now c.clock_idle.new.action c.clock_once.new.action _ (g.S.Sink.held c.clock_idle.new.sink) (g.S.Sink.held c.clock_once.new.sink) c.args.number (c.args.number + c.args.gap) c.args.gap c.args.words.now
    refl c.in-Ok.ensures.clocked)
    c.clock_once.ensures.clocked

pub returns-clause-stopped : goal.returns-clause-stopped
returns-clause-stopped g c =
    on_err c.clock_once.result
    (packet_stop g.A.EachCycle.bytes g.A.EachCycle.after (g.H.HashUnits.meaning c.args.hash.now) (g.M.Clocked.machine c.args.machine.now) (g.M.Clocked.machine c.clock_idle.new.machine) (g.M.Clocked.machine c.clock_once.new.machine)
    c.args.action.now c.clock_idle.new.action _ (g.S.Sink.held c.clock_idle.new.sink) (g.S.Sink.held c.clock_once.new.sink) c.args.number (c.args.number + c.args.gap) c.args.gap c.args.words.now
    refl c.in-Ok.ensures.clocked)
    c.clock_once.ensures.stopped

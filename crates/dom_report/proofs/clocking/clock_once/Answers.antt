use Rattle.std.proofs.Common.{◌≡◌, rules}
use Rattle.std.specs.Option.{option_map}
use Rattle.banzai_config.specs.Action.{Entry}
use Rattle.banzai_machine.specs.Pipe.{leaves_with}
use Rattle.dom_report.proofs.Cycles.{cycle_is, err_part, stopped_once}
use Rattle.dom_report.proofs.Parts.{on_err}
use Rattle.dom_report.proofs.clocking.clock_once.Goals as goal
use Rattle.dom_report.proofs.clocking.clock_once.Goals.{then-run_cycle, else-run_cycle}

pub returns-clause-stopped : goal.returns-clause-stopped
returns-clause-stopped g c =
    let hash = g.H.HashUnits.meaning c.args.hash.now in
    let entry : Entry = option_map (λ fields. fields.now) c.args.entering in
    let m = g.M.Clocked.machine c.args.machine.now in
    let left : option_map (λ words. words.now) c.if-run_cycle.left ≡ leaves_with hash m.config m.row entry = search rules in
    on_err c.put_cycle.result
    (λ put. stopped_once g.A.EachCycle.bytes g.A.EachCycle.after hash m _ c.args.action.now _ (g.S.Sink.held c.put_cycle.new.sink) c.args.number entry _
    (cycle_is hash m _ c.args.number entry _ c.run_cycle.ensures.machine left) c.run_cycle.ensures.machine put.0 put.1)
    (err_part c.put_cycle.result _ _ _ c.put_cycle.ensures.some c.put_cycle.ensures.bytes)

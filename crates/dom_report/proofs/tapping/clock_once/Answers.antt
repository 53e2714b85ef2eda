use Rattle.std.proofs.Common.{◌≡◌, Some, rules}
use Rattle.std.specs.Option.{option_map}
use Rattle.banzai_config.specs.Action.{Entry}
use Rattle.banzai_machine.specs.Pipe.{leaves_with}
use Rattle.dom_report.proofs.TappedRuns.{line_part}
use Rattle.dom_report.proofs.tapping.clock_once.Goals as goal

pub returns-then-cycle-clause-part : goal.returns-then-cycle-clause-part
returns-then-cycle-clause-part g c =
    let hash = g.H.HashUnits.meaning c.args.hash.now in
    let entry : Entry = option_map (λ fields. fields.now) c.args.entering in
    let m = c.args.tapped.now.machine in
    let left : Some c.words.result.now ≡ leaves_with hash m.config m.row entry = search rules in
    line_part (leaves_with hash m.config m.row entry) c.args.number c.words.result.now _ _ c.packet.result left c.packet.ensures.bytes

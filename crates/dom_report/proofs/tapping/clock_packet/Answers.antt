use Rattle.std.proofs.Common.{◌+◌, [], ◌∷◌, Some, refl}
use Rattle.dom_report.proofs.Cycles.{behind_idles}
use Rattle.dom_report.proofs.Parts.{idles, on_err, on_ok}
use Rattle.dom_report.proofs.TappedRuns.{part_more, part_then, tapped_then}
use Rattle.dom_report.proofs.tapping.clock_packet.Goals as goal

pub returns-in_default-clause-part : goal.returns-in_default-clause-part
returns-in_default-clause-part g c =
    part_more (g.H.HashUnits.meaning c.args.hash.now) c.args.tapped.now.machine _ (g.S.Sink.held c.clock_idle.new.sink) c.args.number (idles c.args.gap) (Some c.args.words.now ∷ []) c.in_default.ensures.part

pub returns-clause-clocked : goal.returns-clause-clocked
returns-clause-clocked g c =
    on_ok c.clock_once.result
    (tapped_then (g.H.HashUnits.meaning c.args.hash.now) _ _ _ (g.S.Sink.held c.clock_idle.new.sink) (g.S.Sink.held c.clock_once.new.sink) c.args.number (c.args.number + c.args.gap) (idles c.args.gap) (Some c.args.words.now ∷ [])
    (behind_idles c.args.number (c.args.number + c.args.gap) c.args.gap refl) _ c.in-Ok.ensures.clocked)
    c.clock_once.ensures.clocked

pub returns-clause-part : goal.returns-clause-part
returns-clause-part g c =
    on_err c.clock_once.result
    (part_then (g.H.HashUnits.meaning c.args.hash.now) _ _ _ (g.S.Sink.held c.clock_idle.new.sink) (g.S.Sink.held c.clock_once.new.sink) c.args.number (c.args.number + c.args.gap) (idles c.args.gap) (Some c.args.words.now ∷ [])
    (behind_idles c.args.number (c.args.number + c.args.gap) c.args.gap refl) c.in-Ok.ensures.clocked)
    c.clock_once.ensures.part

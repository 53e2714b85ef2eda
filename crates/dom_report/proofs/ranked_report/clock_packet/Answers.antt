use Rattle.std.proofs.Common.{[], ◌∷◌, Some}
use Rattle.dom_report.proofs.Parts.{idles, on_err, on_ok}
use Rattle.dom_report.proofs.RankedRuns.{over_then, part_more, part_then}
use Rattle.dom_report.proofs.ranked_report.clock_packet.Goals as goal

pub returns-in_default-clause-part : goal.returns-in_default-clause-part
returns-in_default-clause-part g c =
    part_more (g.H.HashUnits.meaning c.args.hash.now) c.args.every c.args.ranked.now c.args.progress.now.cycles (g.S.Sink.held c.args.sink.now) (g.S.Sink.held c.clock_idle.new.sink)
    (idles c.args.gap) (Some c.args.words.now ∷ []) c.in_default.ensures.part

pub returns-clause-over : goal.returns-clause-over
returns-clause-over g c =
    on_ok c.clock_once.result
    (over_then (g.H.HashUnits.meaning c.args.hash.now) c.args.every c.args.ranked.now c.clock_idle.new.ranked c.args.progress.now c.clock_idle.new.progress (g.S.Sink.held c.args.sink.now)
    (g.S.Sink.held c.clock_idle.new.sink) (g.S.Sink.held c.clock_once.new.sink) (idles c.args.gap) (Some c.args.words.now ∷ []) c.in-Ok.ensures.over c.clock_once.new.ranked c.clock_once.new.progress)
    c.clock_once.ensures.over

pub returns-clause-part : goal.returns-clause-part
returns-clause-part g c =
    on_err c.clock_once.result
    (part_then (g.H.HashUnits.meaning c.args.hash.now) c.args.every c.args.ranked.now c.clock_idle.new.ranked c.args.progress.now c.clock_idle.new.progress (g.S.Sink.held c.args.sink.now)
    (g.S.Sink.held c.clock_idle.new.sink) (g.S.Sink.held c.clock_once.new.sink) (idles c.args.gap) (Some c.args.words.now ∷ []) c.in-Ok.ensures.over)
    c.clock_once.ensures.part

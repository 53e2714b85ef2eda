use Rattle.std.specs.Option.{option_map}
use Rattle.dom_report.proofs.RankedRuns.{once_part}
use Rattle.dom_report.proofs.ranked_report.clock_once.Goals as goal

pub returns-clause-part : goal.returns-clause-part
returns-clause-part g c =
    once_part (g.H.HashUnits.meaning c.args.hash.now) c.args.every c.args.ranked.now c.args.progress.now.cycles (option_map (λ fields. fields.now) c.args.entering) c.is_serving-serve.result
    c.cycle-outcome.result.dropped c.cycle-outcome.result.served c.args.dropped.now c.cycle-outcome.new.dropped c.args.served.now c.cycle-outcome.new.served c.words-2.result.now c.words.result.now
    (g.S.Sink.held c.args.sink.now) (g.S.Sink.held c.put_turn.new.sink) c.put_turn.result c.is_serving-serve.ensures c.cycle-outcome.ensures.dropped c.cycle-outcome.ensures.served c.words-2.ensures c.words.ensures
    c.put_turn.ensures.bytes

use Rattle.dom_report.proofs.RankedRuns.{end_put, words_stop}
use Rattle.dom_report.proofs.ranked_report.put_end.Goals as goal

pub returns-in_default-clause-bytes : goal.returns-in_default-clause-bytes
returns-in_default-clause-bytes g c =
    words_stop c.args.ranked.now.machine.config c.args.ranked.now.machine.row.state c.args.progress.served c.args.progress.cycles (g.S.Sink.held c.args.sink.now) (g.S.Sink.held c.put_words.new.sink)
    (rw (c.machine.ensures, c.requires) at c.in_default.ensures.bytes)

pub returns-clause-bytes : goal.returns-clause-bytes
returns-clause-bytes g c =
    end_put c.args.ranked.now.machine.config c.args.ranked.now.machine.row.state c.args.progress.served c.args.progress.cycles (g.S.Sink.held c.args.sink.now) (g.S.Sink.held c.put_words.new.sink)
    (g.S.Sink.held c.done.new.sink) c.done.result (rw (c.machine.ensures, c.requires) at c.in-Ok.ensures.bytes) c.done.ensures.bytes

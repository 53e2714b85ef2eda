use Rattle.dom_report.proofs.ElasticRuns.{end_put, held_stop, words_stop}
use Rattle.dom_report.proofs.elastic_report.put_end.Goals as goal

pub returns-in_default-clause-bytes : goal.returns-in_default-clause-bytes
returns-in_default-clause-bytes g c =
    words_stop c.args.elastic.now c.args.passed (g.S.Sink.held c.args.sink.now) (g.S.Sink.held c.put_words.new.sink) (rw c.requires.arrays at c.in_default.ensures.bytes)

pub returns-in_default-held-clause-bytes : goal.returns-in_default-held-clause-bytes
returns-in_default-held-clause-bytes g c =
    held_stop c.args.elastic.now c.args.passed (g.S.Sink.held c.args.sink.now) (g.S.Sink.held c.put_words.new.sink) (g.S.Sink.held c.held.new.sink) (rw c.requires.arrays at c.in-Ok.ensures.bytes)
    (rw c.held_in.ensures at c.in_default-held.ensures.bytes)

pub returns-clause-bytes : goal.returns-clause-bytes
returns-clause-bytes g c =
    end_put c.args.elastic.now c.args.passed (g.S.Sink.held c.args.sink.now) (g.S.Sink.held c.put_words.new.sink) (g.S.Sink.held c.held.new.sink) (g.S.Sink.held c.done.new.sink) c.done.result
    (rw c.requires.arrays at c.in-Ok.ensures.bytes) (rw c.held_in.ensures at c.in-Ok-held.ensures.bytes) c.done.ensures.bytes

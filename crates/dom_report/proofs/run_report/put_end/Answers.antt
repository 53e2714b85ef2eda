use Rattle.dom_report.proofs.DrivenEnd.{end_put, places_stop, words_stop}
use Rattle.dom_report.proofs.run_report.put_end.Goals as goal

pub returns-in_default-clause-bytes : goal.returns-in_default-clause-bytes
returns-in_default-clause-bytes g c =
    words_stop c.args.machine.now.config c.args.machine.now.row.state c.args.packets c.args.cycles _ (g.S.Sink.held c.put_words.new.sink) (rw c.requires at c.in_default.ensures.bytes)

pub returns-in_default-put_places-clause-bytes : goal.returns-in_default-put_places-clause-bytes
returns-in_default-put_places-clause-bytes g c =
    places_stop c.args.machine.now.config c.args.machine.now.row.state c.args.packets c.args.cycles _ _ (g.S.Sink.held c.put_places.new.sink) (rw c.requires at c.in-Ok.ensures.bytes)
    (rw (c.in-Ok.ensures.same, c.requires) at c.in_default-put_places.ensures.bytes)

pub returns-clause-bytes : goal.returns-clause-bytes
returns-clause-bytes g c =
    end_put c.args.machine.now.config c.args.machine.now.row.state c.args.packets c.args.cycles _ (g.S.Sink.held c.put_words.new.sink) _ _ c.done.result (rw c.requires at c.in-Ok.ensures.bytes)
    (rw (c.in-Ok.ensures.same, c.requires) at c.in-Ok-put_places.ensures.bytes) c.done.ensures.bytes

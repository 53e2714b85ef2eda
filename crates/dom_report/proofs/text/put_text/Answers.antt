use Rattle.std.proofs.Common.{◌++◌, ◌∙◌, List, ℕ, ap, append_assoc, subst, sym}
use Rattle.dom_io.specs.Held.{IsPart}
use Rattle.dom_report.proofs.Parts.{part_after, part_before, put_then}
use Rattle.dom_report.proofs.text.put_text.Goals as goal

pub returns-in_default-clause-bytes : goal.returns-in_default-clause-bytes
returns-in_default-clause-bytes g c =
    let (done, split, held) = c.loop-rest.invariant.put in
    let line = c.split_at.result.0.now in
    let behind = c.split_at.result.1.now in
    let whole = split ∙ ap (λ (l : List ℕ). done ++ l) c.split_at.ensures.by_index.0 in
    subst (λ (l : List ℕ). IsPart (g.S.Sink.held c.args.sink.now) (g.S.Sink.held c.put.new.self) l) (sym whole)
    (part_after (g.S.Sink.held c.args.sink.now) (g.S.Sink.held c.loop-rest.sink) (g.S.Sink.held c.put.new.self) done (line ++ behind) held
    (part_before (g.S.Sink.held c.loop-rest.sink) (g.S.Sink.held c.put.new.self) line behind c.in_default.ensures.bytes))

pub loop-rest-preserved : goal.loop-rest-preserved
loop-rest-preserved g c =
    let (done, split, held) = c.loop-rest.invariant.put in
    let line = c.split_at.result.0.now in
    let behind = c.split_at.result.1.now in
    record {
      put = (
        done ++ line,
        split ∙ ap (λ (l : List ℕ). done ++ l) c.split_at.ensures.by_index.0 ∙ sym (append_assoc done line behind),
        put_then (g.S.Sink.held c.args.sink.now) (g.S.Sink.held c.loop-rest.sink) (g.S.Sink.held c.put.new.self) done line held c.in-Ok.ensures.bytes,
      );
      count = c.in-Ok.ensures.cause.kept ∙ c.loop-rest.invariant.count;
    }

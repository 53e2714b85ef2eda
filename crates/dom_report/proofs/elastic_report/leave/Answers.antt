use Rattle.std.proofs.Common.{◌≡◌, ℕ, ◌+◌, ◌∙◌, [], ◌∷◌, ◌++◌, Some, List, ap, arith, length, length-append, map, sym}
use Rattle.pipeline_law.specs.Queues.{Leave, last_head}
use Rattle.banzai_config.specs.Action.{Entry}
use Rattle.banzai_machine.specs.Pipe.{shown}
use Rattle.elastic_machine.specs.Queued.{left_by}
use Rattle.dom_report.specs.ElasticReport.{queues_at}
use Rattle.dom_report.proofs.ElasticRuns.{and_ok, heads_are, left_last, told_none, told_packet}
use Rattle.dom_report.proofs.elastic_report.leave.Goals as goal

pub returns-in-Ok-clause-step : goal.returns-in-Ok-clause-step
returns-in-Ok-clause-step g c hash packets m at_m =
    let old = c.args.elastic.now in
    let more = c.in-Ok.ensures.left hash m.happened at_m.stands in
    let count : c.args.passed.now.left + 1 ≡ length (left_by hash g.row.CAP old.config (m.happened ++ Leave ∷ [])) =
    omega (arith, at_m.left, ap length more, length-append (left_by hash g.row.CAP old.config m.happened) (c.leave.new.leaving ∷ [])) in
    let heads = sym (heads_are hash g.row.CAP packets old c.leave.new.self c.in-Ok.ensures.config c.args.passed.now m at_m) ∙ c.in-Ok.ensures.shows in (
      and_ok c.packet.result
          (left_last hash g.row.CAP packets old c.leave.new.self c.in-Ok.ensures.config c.args.passed.now m at_m (c.args.passed.now.left + 1) count (c.in-Ok.ensures.stands hash m.happened at_m.stands)),
      told_packet c.packet.result (g.S.Sink.held c.args.sink.now) (g.S.Sink.held c.packet.new.sink) c.args.number (map (shown old.config) (last_head (queues_at hash g.row.CAP old.config m))) c.words.result.now
          (heads ∙ ap (λ (w : List ℕ). Some w ∷ []) (sym c.words.ensures)) c.packet.ensures.bytes,
    )

pub returns-in-Err-clause-step : goal.returns-in-Err-clause-step
returns-in-Err-clause-step g c hash packets m at_m =
    let old = c.args.elastic.now in
    let none = c.in-Err.ensures.left hash m.happened at_m.stands in
    let count : c.args.passed.now.left ≡ length (left_by hash g.row.CAP old.config (m.happened ++ Leave ∷ [])) = at_m.left ∙ sym (ap length none) in
    let heads =
    sym (heads_are hash g.row.CAP packets old c.leave.new.self c.in-Err.ensures.config c.args.passed.now m at_m) ∙ ap (λ (z : List Entry). map (shown old.config) z) c.in-Err.ensures.shows in (
      and_ok c.wait.result
          (left_last hash g.row.CAP packets old c.leave.new.self c.in-Err.ensures.config c.args.passed.now m at_m c.args.passed.now.left count (c.in-Err.ensures.stands hash m.happened at_m.stands)),
      told_none c.wait.result (g.S.Sink.held c.args.sink.now) (g.S.Sink.held c.wait.new.sink) c.args.number (map (shown old.config) (last_head (queues_at hash g.row.CAP old.config m)))
          heads c.wait.ensures.bytes,
    )

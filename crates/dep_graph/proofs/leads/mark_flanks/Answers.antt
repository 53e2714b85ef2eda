use Rattle.std.proofs.Common.{Option, ap, sym, ◌∙◌}
use Rattle.dom_flat.specs.declared.line.Line.{Line}
use Rattle.dep_graph.specs.First.{leads_as_flank, pairs_with}
use Rattle.dep_graph.proofs.Marked.{row_marked, row_passed}
use Rattle.dep_graph.proofs.leads.mark_flanks.Goals as goal
use Rattle.dep_graph.proofs.leads.mark_flanks.Goals.{then-flanks_of_one, else-flanks_of_one}

pub loop-a-preserved : goal.loop-a-preserved
loop-a-preserved c =
    let test = leads_as_flank c.args.flat.now.lines c.args.line.now in
    let is = ap (λ (o : Option Line). pairs_with c.args.line.now o) c.get.ensures.item ∙ sym c.flanks_of_one.ensures in
    elim c.if-flanks_of_one.branch [
      | then-flanks_of_one w ↦ rw w.rows-is (row_marked c.args.b c.loop-a.a test c.args.rows.now c.loop-a.rows w.mark_in.new.rows (is ∙ w.if-flanks_of_one.true) c.loop-a.invariant w.mark_in.ensures)
      | else-flanks_of_one w ↦ rw w.rows-is (row_passed c.args.b c.loop-a.a test c.args.rows.now c.loop-a.rows (is ∙ w.if-flanks_of_one.false) c.loop-a.invariant)
    ]

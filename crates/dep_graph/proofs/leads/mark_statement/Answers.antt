use Rattle.std.proofs.Common.{◌+◌, ℕ, length, subst}
use Rattle.dom_flat.specs.Lines.{operands_of, uses}
use Rattle.dep_graph.specs.First.{IsMarked}
use Rattle.dep_graph.proofs.Marked.{leads_marked}
use Rattle.dep_graph.proofs.leads.mark_statement.Goals as goal

pub returns : goal.returns
returns c =
    leads_marked (length c.args.flat.now.fields) c.args.flat.now.lines c.args.b c.get-line.result.now c.args.rows.now c.mark_line.new.rows c.mark_flanks.new.rows c.requires.size c.get-line.ensures.item
    (subst (λ (f : ℕ). IsMarked c.args.b (λ a. uses (f + a) (operands_of c.get-line.result.now)) c.args.rows.now c.mark_line.new.rows) c.len.ensures.number c.mark_line.ensures)
    c.mark_flanks.ensures

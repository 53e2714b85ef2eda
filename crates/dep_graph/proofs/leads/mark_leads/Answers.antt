use Rattle.std.proofs.Common.{length}
use Rattle.dep_graph.proofs.Marked.{first_more}
use Rattle.dep_graph.proofs.leads.mark_leads.Goals as goal

pub loop-b-preserved : goal.loop-b-preserved
loop-b-preserved c =
    first_more (length c.args.flat.now.fields) c.args.flat.now.lines c.loop-b.b c.loop-b.rows c.mark_statement.new.rows c.loop-b.invariant c.mark_statement.ensures

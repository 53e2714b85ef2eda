use Rattle.dep_graph.proofs.Marked.{value_marked}
use Rattle.dep_graph.proofs.leads.mark_operand.Goals as goal

pub returns-then-value-fields : goal.returns-then-value-fields
returns-then-value-fields c =
    rw c.in-Value.is (value_marked c.args.fields c.in-Value.value c.args.user c.args.rows.now c.mark_in.new.rows c.if-fields-value.true c.mark_in.ensures)

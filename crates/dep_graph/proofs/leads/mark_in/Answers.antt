use Rattle.std.proofs.Common.{subst, sym, List, ℕ, nat_eq, set}
use Rattle.dep_graph.specs.First.{IsMarked}
use Rattle.dep_graph.proofs.Marked.{marked_at}
use Rattle.dep_graph.proofs.leads.mark_in.Goals as goal

pub returns : goal.returns
returns c =
    subst (λ (r : List ℕ). IsMarked c.args.b (nat_eq c.args.a) c.args.rows.now (set c.args.rows.now c.args.a r)) (sym c.mark.ensures)
    (marked_at c.args.rows.now c.args.a c.args.b c.requires.within c.requires.few (c.told-rows c.args.a c.requires.within))

use Rattle.std.proofs.Common.{◌∙◌, ap, sym, ◌++◌, arith}
use Rattle.dom_finding.specs.Listing.{codelet_line}
use Rattle.dom_finding.proofs.Listed.{joined_next, uses_below}
use Rattle.dom_finding.proofs.plans.codelets_text.Goals as goal

pub push_codelet-requires : goal.push_codelet-requires
push_codelet-requires c =
    uses_below c.list-list.result.now c.codelets.k c.codelet_at.result.now (rw (← c.list-list.ensures.same) at c.args.codelets.now.leveled) c.codelet_at.ensures (omega arith)

pub codelets-preserved : goal.codelets-preserved
codelets-preserved c =
    c.in_ok-push_codelet.ensures ∙ ap (λ l. l ++ codelet_line c.list-list.result.now c.codelet_at.result.now) c.codelets.invariant
    ∙ sym (joined_next (codelet_line c.list-list.result.now) c.list-list.result.now c.codelets.k c.codelet_at.result.now c.codelet_at.ensures)

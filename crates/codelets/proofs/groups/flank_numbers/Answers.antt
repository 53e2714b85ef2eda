use Rattle.std.proofs.Common.{◌≡◌, ◌∙◌, ℕ, Bool, sym}
use Rattle.dom_flat.specs.Lines.{is_flank}
use Rattle.codelets.specs.ByRows.{linked_by}
use Rattle.codelets.specs.Linked.{is_so}
use Rattle.codelets.proofs.Onces.{keep_more, skip_more}
use Rattle.codelets.proofs.groups.flank_numbers.Goals as goal
use Rattle.codelets.proofs.groups.flank_numbers.Goals.{then-flank_at+in_ok-push, else-flank_at}

pub loop-b-preserved : goal.loop-b-preserved
loop-b-preserved c =
    let t : ℕ → Bool = is_so (linked_by c.args.flat.now c.args.graph.now) is_flank in
    let b : ℕ = c.loop-b.b in
    let test : t b ≡ c.flank_at.result = sym c.flank_at.ensures in
    elim c.if-flank_at.branch [
      | then-flank_at+in_ok-push w ↦ w.flanks-is ∙ w.in_ok-push.ensures.ok ∙ keep_more t b c.loop-b.flanks c.loop-b.invariant (test ∙ w.if-flank_at.true)
      | else-flank_at w ↦ w.flanks-is ∙ skip_more t b c.loop-b.flanks c.loop-b.invariant (test ∙ w.if-flank_at.false)
    ]

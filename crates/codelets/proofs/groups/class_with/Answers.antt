use Rattle.std.proofs.Common.{◌≡◌, ◌∙◌, ℕ, Bool, sym, arith}
use Rattle.codelets.specs.ByRows.{linked_by}
use Rattle.codelets.specs.Linked.{together}
use Rattle.codelets.proofs.Leasts.{none_before}
use Rattle.codelets.proofs.Onces.{keep_more, skip_more}
use Rattle.codelets.proofs.groups.class_with.Goals as goal
use Rattle.codelets.proofs.groups.class_with.Goals.{then-are_together+in_ok-push, else-are_together}

pub loop-b-init : goal.loop-b-init
loop-b-init c =
    let P = linked_by c.args.flat.now c.args.graph.now in
    let most = c.requires.within in
    record { within = omega (arith, most); class = c.new-class.ensures ∙ none_before P c.args.a (omega (arith, most)) c.requires.least }

pub loop-b-preserved : goal.loop-b-preserved
loop-b-preserved c =
    let t : ℕ → Bool = together (linked_by c.args.flat.now c.args.graph.now) c.args.a in
    let b : ℕ = c.loop-b.b in
    let test : t b ≡ c.are_together.result = sym c.are_together.ensures in
    record {
      within = omega (arith, c.loop-b-test.true, c.len-b-end.ensures);
      class =
          elim c.if-are_together.branch [
            | then-are_together+in_ok-push w ↦ w.class-is ∙ w.in_ok-push.ensures.ok ∙ keep_more t b c.loop-b.class c.loop-b.invariant.class (test ∙ w.if-are_together.true)
            | else-are_together w ↦ w.class-is ∙ skip_more t b c.loop-b.class c.loop-b.invariant.class (test ∙ w.if-are_together.false)
          ];
    }

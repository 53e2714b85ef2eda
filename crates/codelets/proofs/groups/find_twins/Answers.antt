use Rattle.std.proofs.Common.{◌≡◌, ◌∙◌, ◌+◌, ◌-◌, ◌&&◌, sym, ap, arith, ℕ, Bool, List, ◌∷◌, length, if◌then◌else◌}
use Rattle.std.specs.Prelude.{◌||◌}
use Rattle.std.specs.List.{list_any}
use Rattle.codelets.specs.ByRows.{linked_by}
use Rattle.codelets.specs.Linked.{is_inner, is_so, is_used_outside, uses_value}
use Rattle.codelets.proofs.Ranges.{twins_step}
use Rattle.codelets.proofs.groups.find_twins.Goals as goal
use Rattle.codelets.proofs.groups.find_twins.Goals.{then-needs_twin+in_ok-add_first, else-needs_twin}

pub loop-k-preserved : goal.loop-k-preserved
loop-k-preserved c =
    let P = linked_by c.args.flat.now c.args.graph.now in
    let n : ℕ = length c.args.flat.now.lines in
    let a : ℕ = c.len-count.result - 1 - c.loop-k.k in
    let later : List ℕ = c.loop-k.twins.items in
    let sum : a + (c.loop-k.k + 1) ≡ n = omega (arith, c.len-count.ensures, c.loop-k-test.true) in
    let test : c.needs_twin.result ≡ (is_inner P a && (is_used_outside P a || list_any (is_so P (uses_value (P.fields + a))) later)) =
    c.needs_twin.ensures ∙ ap (λ (xs : List ℕ). is_inner P a && (is_used_outside P a || list_any (is_so P (uses_value (P.fields + a))) xs)) c.as_slice-in-loop-k.ensures.value in
    let is : c.if-needs_twin.twins.items ≡ (if c.needs_twin.result then a ∷ later else later) =
    elim c.if-needs_twin.branch [
      | then-needs_twin+in_ok-add_first w ↦ ap (λ v. v.items) w.twins-is ∙ w.in_ok-add_first.ensures ∙ ap (λ (b : Bool). if b then a ∷ later else later) (sym w.if-needs_twin.true)
      | else-needs_twin w ↦ ap (λ v. v.items) w.twins-is ∙ ap (λ (b : Bool). if b then a ∷ later else later) (sym w.if-needs_twin.false)
    ] in
    twins_step P n c.loop-k.k a later c.if-needs_twin.twins.items c.needs_twin.result sum c.loop-k.invariant test is

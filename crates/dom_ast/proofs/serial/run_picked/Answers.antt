use Rattle.std.proofs.Common.{◌≡◌, ◌<◌, ◌∙◌, ℕ, Bool, ap, sym, length, map, false, if◌then◌else◌, slice_index_or, arith}
use Rattle.dom_ast.specs.Meaning.{Env, all_acted, entering}
use Rattle.dom_ast.specs.Resolved.{act_forms, bodies_form}
use Rattle.dom_ast.specs.inner.Runs.{bodies_within}
use Rattle.dom_ast.proofs.Serials.{entering_alike, picked_next, ranges_alike}
use Rattle.dom_ast.proofs.serial.run_picked.Goals.{then-chosen, else-chosen}
use Rattle.dom_ast.proofs.serial.run_picked.Goals as goal

pub loop-k-preserved : goal.loop-k-preserved
loop-k-preserved g c =
    let hash = g.H.HashUnits.meaning c.args.hash.now in
    let before : Env = entering c.loop-k.words c.loop-k.state in
    let after : Env = entering c.if-chosen.words c.if-chosen.state in
    let done : Env = all_acted hash (act_forms c.body_at.result.now.1) before in
    let answer : Bool = slice_index_or c.args.answers.now c.loop-k.k false in
    let is_after : after ≡ (if answer then done else before) = elim c.if-chosen.branch [
      | then-chosen w ↦ entering_alike w.words-is w.state-is ∙ w.run_all.ensures.env ∙ sym (ap (λ (x : Bool). if x then done else before) w.if-chosen.true)
      | else-chosen w ↦ entering_alike w.words-is w.state-is ∙ sym (ap (λ (x : Bool). if x then done else before) w.if-chosen.false)
    ] in
    let sizes : map (length {A = ℕ}) c.if-chosen.state ≡ map (length {A = ℕ}) c.loop-k.state = elim c.if-chosen.branch [
      | then-chosen w ↦ ap (map (length {A = ℕ})) w.state-is ∙ w.run_all.ensures.sizes
      | else-chosen w ↦ ap (map (length {A = ℕ})) w.state-is
    ] in
    let in_bodies : c.loop-k.k < length c.args.bodies.now = rw (← c.len-k-end.ensures) c.loop-k-test.true in
    let in_answers : c.loop-k.k < length c.args.answers.now = omega (arith, in_bodies, c.requires.room) in
    record {
      rest = picked_next hash c.args.bodies.now c.args.answers.now c.loop-k.k c.body_at.result.now before after in_bodies in_answers c.body_at.ensures.same is_after ∙ c.loop-k.invariant.rest;
      sizes = sizes ∙ c.loop-k.invariant.sizes;
      within = ap (λ r. bodies_within r (bodies_form c.args.bodies.now)) (ranges_alike c.if-chosen.words c.loop-k.words c.if-chosen.state c.loop-k.state c.if-chosen.auto.words sizes) ∙ c.loop-k.invariant.within;
    }

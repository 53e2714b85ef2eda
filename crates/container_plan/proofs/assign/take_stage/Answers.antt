use Rattle.std.proofs.Common.{◌≡◌, ℕ, ◌<◌, ◌≤◌, List, length, fold, arith, length-set, ◌∙◌, ap, subst, inl, inr}
use Rattle.std.proofs.lemmas.Bool.{cases_lt}
use Rattle.std.specs.Prelude.{slice_index}
use Rattle.container_plan.specs.Spans.{take_next}
use Rattle.container_plan.specs.State.{IsState, made_at}
use Rattle.container_plan.proofs.State.{grows_yes, grows_no, occupied_passed, length-occupied}
use Rattle.container_plan.proofs.assign.take_stage.Goals as goal
use Rattle.container_plan.proofs.assign.take_stage.Goals.{then-made-v+in_ok-occupy, else-made-v}

pub loop-v-preserved : goal.loop-v-preserved
loop-v-preserved c = elim c.if-made-v.branch [
  | then-made-v+in_ok-occupy w ↦
      let same : w.deref.result.now ≡ c.loop-v.until.items = w.deref.ensures.value in
      let f : ℕ = w.next_free-free.result in
      let v : ℕ = c.loop-v.v in
      let stage : ℕ = slice_index c.args.last.now v in
      let until : List ℕ = c.loop-v.until.items in
      let is : slice_index c.args.made.now v ≡ c.args.k = w.if-made-v.true in
      let short : slice_index c.args.made.now v ≤ stage = c.requires.short v in
      let high : f ≤ length until = omega (arith, ap (λ (xs : List ℕ). length xs) same, w.next_free-free.ensures.high) in
      let below : (d : ℕ) → d < f → c.args.k ≤ slice_index until d = λ d h. elim (cases_lt d c.loop-v.free) [
        | inl low ↦ c.loop-v.invariant.passed d low
        | inr from ↦ omega (arith, ap (λ (xs : List ℕ). slice_index xs d) same, w.next_free-free.ensures.passed d from h)
      ] in
      let free : f < length until → slice_index until f < c.args.k = λ h.
      let less : f < length w.deref.result.now = omega (arith, ap (λ (xs : List ℕ). length xs) same) in
      omega (arith, ap (λ (xs : List ℕ). slice_index xs f) same, w.next_free-free.ensures.free less) in
      let low : v < length c.loop-v.names = omega (arith, c.loop-v.invariant.names) in
      rw (w.names-is, w.until-is, w.free-is, w.in_ok-occupy.ensures) (record {
        within = length-occupied until f stage high;
        passed = occupied_passed until f stage c.args.k high (omega arith) below;
        names = length-set c.loop-v.names v f ∙ c.loop-v.invariant.names;
        state = grows_yes c.args.made.now c.args.last.now c.args.k c.args.names.now c.args.until.now.items c.loop-v.names until v f c.loop-v.invariant.state is short high below free low;
      })
  | else-made-v w ↦ rw (w.names-is, w.until-is, w.free-is) (record {
    within = c.loop-v.invariant.within;
    passed = c.loop-v.invariant.passed;
    names = c.loop-v.invariant.names;
    state = grows_no c.args.made.now c.args.last.now c.args.k c.args.names.now c.args.until.now.items c.loop-v.names c.loop-v.until.items c.loop-v.v c.loop-v.invariant.state w.if-made-v.false;
  })
]

pub returns : goal.returns
returns c done start =
    let end : c.loop-v.v ≡ length c.args.made.now = omega arith in
    subst (λ (n : ℕ). IsState (slice_index c.args.made.now) (slice_index c.args.last.now) c.loop-v.names c.loop-v.until.items (fold (take_next (slice_index c.args.made.now) (slice_index c.args.last.now)) done (made_at c.args.made.now c.args.k n)))
    end (c.loop-v.invariant.state done start)

use Rattle.std.proofs.Common.{◌≡◌, ℕ, ◌+◌, List, length, arith, ◌∙◌, sym, ap, subst, map, take, drop, ◌++◌}
use Rattle.std.specs.Prelude.{slice_index}
use Rattle.std.specs.List.{range_with_len}
use Rattle.container_plan.specs.Spans.{container_in}
use Rattle.container_plan.specs.State.{IsState, taken_before}
use Rattle.container_plan.proofs.State.{taken_more, over_all, names_map}
use Rattle.container_plan.proofs.assign.assign.Goals as goal

pub loop-k-preserved : goal.loop-k-preserved
loop-k-preserved c =
    let value : c.deref_mut.result.now ≡ c.loop-k.names.items = c.deref_mut.ensures.value in
    let kept : length c.take_stage.new.names ≡ length c.loop-k.names.items = c.take_stage.auto.names ∙ ap (λ (xs : List ℕ). length xs) value in
    let long : c.loop-k.names.len ≡ length c.loop-k.names.items = c.loop-k.names.ok.0 in
    let is : take c.loop-k.names.len (c.take_stage.new.names ++ drop (length c.take_stage.new.names) c.loop-k.names.items) ≡ c.take_stage.new.names =
    over_all c.take_stage.new.names c.loop-k.names.items c.loop-k.names.len kept long in
    rw is (record {
      names = kept ∙ c.loop-k.invariant.names;
      state = subst (λ ts. IsState (slice_index c.args.made.now) (slice_index c.args.last.now) c.take_stage.new.names c.take_stage.new.until.items ts) (sym (taken_more c.args.made.now c.args.last.now c.loop-k.k))
          (c.in_ok-take_stage.ensures (taken_before c.args.made.now c.args.last.now c.loop-k.k)
          (subst (λ (xs : List ℕ). IsState (slice_index c.args.made.now) (slice_index c.args.last.now) xs c.loop-k.until.items (taken_before c.args.made.now c.args.last.now c.loop-k.k)) (sym value) c.loop-k.invariant.state));
    })

pub returns : goal.returns
returns c =
    let end : c.loop-k.k ≡ c.args.stages = omega arith in
    let state : IsState (slice_index c.args.made.now) (slice_index c.args.last.now) c.loop-k.names.items c.loop-k.until.items (taken_before c.args.made.now c.args.last.now c.args.stages) =
    subst (λ (k : ℕ). IsState (slice_index c.args.made.now) (slice_index c.args.last.now) c.loop-k.names.items c.loop-k.until.items (taken_before c.args.made.now c.args.last.now k)) end c.loop-k.invariant.state in
    let size : length c.loop-k.names.items ≡ length c.args.made.now = c.loop-k.invariant.names in
    let f : ℕ → ℕ = container_in (taken_before c.args.made.now c.args.last.now c.args.stages) in
    let all : c.loop-k.names.items ≡ map f (range_with_len 0 (length c.loop-k.names.items)) =
    names_map f c.loop-k.names.items 0 (λ i h. let z : i ≡ 0 + i = omega arith in state.named i h ∙ ap f z) in
    (all ∙ ap (λ (n : ℕ). map f (range_with_len 0 n)) size, c.len-containers.ensures ∙ c.loop-k.until.ok.0 ∙ state.number)

use Rattle.std.proofs.Common.{◌∙◌, ℕ, List, sym, ap, arith, get_or, max}
use Rattle.std.specs.Prelude.{slice_index}
use Rattle.codelets.proofs.Rounds.{max_at_more}
use Rattle.codelets.proofs.leveling.best.Goals as goal

pub loop-place-preserved : goal.loop-place-preserved
loop-place-preserved c =
    let levels : List ℕ = c.args.levels.now in
    let places : List ℕ = c.args.places.now in
    let k : ℕ = c.loop-place.place-index in
    record {
      value =
          c.larger-best.ensures
          ∙ ap (λ (x : ℕ). max c.loop-place.best x) c.level_of.ensures.value
          ∙ ap (λ (b : ℕ). max b (slice_index levels (get_or places k 0))) c.loop-place.invariant.value
          ∙ sym (max_at_more (slice_index levels) places k c.loop-place-test.true);
      low = λ all. let before = c.loop-place.invariant.low all in let here = c.level_of.ensures.low all in omega (arith, c.larger-best.ensures, before, here);
    }

use Rattle.std.proofs.Common.{◌<◌, IfSome, length}
use Rattle.stage_plan.specs.Best.{IsBestBelow}
use Rattle.stage_plan.proofs.chains.best_below.Given as goal

abbrev pub invariant-codelets : goal.invariant-codelets
invariant-codelets l = record {
  best : IsBestBelow l.codelets l.chains l.u l.level l.best;
  within : IfSome l.best (λ b. b < length l.chains);
}

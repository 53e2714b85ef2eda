use Rattle.std.proofs.Common.{◌<◌, IfSome, length, take}
use Rattle.stage_plan.specs.Best.{IsBestAmong}
use Rattle.stage_plan.proofs.chains.best_among.Given as goal

abbrev pub invariant-uses : goal.invariant-uses
invariant-uses l = record {
  best : IsBestAmong l.codelets l.chains (take l.u-index l.among) l.level l.best;
  within : IfSome l.best (λ b. b < length l.chains);
}

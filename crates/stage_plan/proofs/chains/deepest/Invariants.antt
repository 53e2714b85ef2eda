use Rattle.std.proofs.Common.{◌≡◌, take}
use Rattle.stage_plan.specs.Chains.{greatest_level}
use Rattle.stage_plan.proofs.chains.deepest.Given as goal

abbrev pub invariant-codelets : goal.invariant-codelets
invariant-codelets l = l.level ≡ greatest_level (take l.c-index l.codelets)

use Rattle.stage_plan.specs.Best.{AreBest}
use Rattle.stage_plan.proofs.chains.chains_of.Given as goal

abbrev pub invariant-codelets : goal.invariant-codelets
invariant-codelets l = AreBest l.codelets l.chains l.c-index

use Rattle.banzai_machine.proofs.Touched.{touches_once}
use Rattle.banzai_machine.proofs.laws.no_array_is_touched_twice.Goals as goal

pub returns : goal.returns
returns c p = touches_once 1 p.stages

use Rattle.std.proofs.Common.{◌≡◌, drop}
use Rattle.banzai_config.specs.Checked.{first_output}
use Rattle.banzai_config.specs.Judged.{sizes_in}
use Rattle.banzai_config.proofs.outputs.walk_outputs.Given as goal

abbrev pub invariant-loop-k : goal.invariant-loop-k
invariant-loop-k l = first_output (sizes_in l.frame) l.written.numbers 0 l.outputs ≡ first_output (sizes_in l.frame) l.written.numbers l.k (drop l.k l.outputs)

use Rattle.ssa_names.proofs.Blanks.{named_left}
use Rattle.ssa_names.proofs.laws.items_are_flanks_and_steps.Goals as goal

pub returns : goal.returns
returns c = named_left

use Rattle.std.proofs.Common.{◌+◌, ◌*◌}
use Rattle.config_text.proofs.trees.+trees.Given as goal

abbrev pub decreases-first_fork : goal.decreases-first_fork
decreases-first_fork l = 2 * l.levels + 1

abbrev pub decreases-first_tree : goal.decreases-first_tree
decreases-first_tree l = 2 * l.levels

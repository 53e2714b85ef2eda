use Rattle.std.proofs.Common.{arith}
use Rattle.dom_shell.proofs.commands.task.ConfigTask.against.Goals as goal

pub overflow_cast-depth : goal.overflow_cast-depth
overflow_cast-depth g c = omega (arith, c.stages-depth.ensures, c.requires)

use Rattle.dom_shell.proofs.Probed.{same_set_up}
use Rattle.dom_shell.proofs.commands.probe.attached.Goals as goal

pub returns-clause-set_up : goal.returns-clause-set_up
returns-clause-set_up g c = same_set_up _ _ _ _ _ _ c.loop-tap.invariant.machine c.requires.set_up

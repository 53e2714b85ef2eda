use Rattle.std.proofs.Common.{◌∙◌, length}
use Rattle.banzai_machine.proofs.Turned.{length-ring}
use Rattle.banzai_machine.proofs.machine.Machine.config.Goals as goal

pub returns-clause-registers : goal.returns-clause-registers
returns-clause-registers g c =
    let m = c.self.inside in
    rw (← c.self.view_is)
    (length-ring m.config.containers m.position m.filled.items m.words.items (length m.config.stages) c.self.invariant.4.flags c.self.invariant.4.position ∙ c.self.invariant.0)

use Rattle.std.proofs.Common.{◌≡◌, length, sym, ◌∙◌, arith}
use Rattle.banzai_machine.specs.Kept.{set_flags}
use Rattle.banzai_machine.proofs.Idle.{nothing_passed, nothing_stored, nothing_touched}
use Rattle.banzai_machine.proofs.Turned.{length-ring}
use Rattle.banzai_machine.proofs.ring.advance.Goals as goal

pub returns-else-in_flight-gt0-clause-arrays : goal.returns-else-in_flight-gt0-clause-arrays
returns-else-in_flight-gt0-clause-arrays g c =
    let none : set_flags c.args.filled.now ≡ 0 = omega (arith, c.requires.flight) in
    sym (nothing_stored c.args.config.now.stages c.args.width c.args.position c.args.filled.now c.args.words.now c.args.arrays.now none)

pub returns-else-in_flight-gt0-clause-registers : goal.returns-else-in_flight-gt0-clause-registers
returns-else-in_flight-gt0-clause-registers g c =
    let none : set_flags c.args.filled.now ≡ 0 = omega (arith, c.requires.flight) in
    let stages = c.args.config.now.stages in
    sym (nothing_passed stages c.args.width c.args.position c.args.filled.now c.args.words.now c.args.arrays.now none (g.H.HashUnits.meaning c.args.hash.now)
    (length-ring c.args.width c.args.position c.args.filled.now c.args.words.now (length stages) c.requires.filled c.requires.position))

pub returns-else-in_flight-gt0-clause-touches : goal.returns-else-in_flight-gt0-clause-touches
returns-else-in_flight-gt0-clause-touches g c =
    let none : set_flags c.args.filled.now ≡ 0 = omega (arith, c.requires.flight) in
    c.requires.list ∙ sym (nothing_touched c.args.config.now.stages c.args.width c.args.position c.args.filled.now c.args.words.now c.args.arrays.now none 1)

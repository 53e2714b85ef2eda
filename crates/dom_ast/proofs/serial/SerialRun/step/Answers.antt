use Rattle.std.proofs.Common.{◌∙◌, ap, length}
use Rattle.dom_ast.specs.Resolved.{bodies_form}
use Rattle.dom_ast.proofs.Serials.{arrays_are, packet_is, program_within}
use Rattle.dom_ast.proofs.serial.SerialRun.step.Goals as goal

pub run_once-requires-clause-within : goal.run_once-requires-clause-within
run_once-requires-clause-within g c =
    let program = c.args.self.now.program in
    program_within program.fields program.arrays (bodies_form program.bodies) c.words_mut.result.now c.args.self.now.arrays program.ranges (ap length c.words_mut.ensures.value ∙ c.requires) c.args.self.now.sizes

pub returns-clause-packet : goal.returns-clause-packet
returns-clause-packet g c =
    packet_is (g.H.HashUnits.meaning c.args.hash.now) (bodies_form c.args.self.now.program.bodies) c.args.packet.now c.words_mut.result.now c.run_once.new.words c.args.self.now.arrays c.run_once.new.state c.run_once.auto.words c.words_mut.ensures.value c.run_once.ensures.env

pub returns-clause-arrays : goal.returns-clause-arrays
returns-clause-arrays g c =
    arrays_are (g.H.HashUnits.meaning c.args.hash.now) (bodies_form c.args.self.now.program.bodies) c.args.packet.now c.words_mut.result.now c.run_once.new.words c.args.self.now.arrays c.run_once.new.state c.run_once.auto.words c.words_mut.ensures.value c.run_once.ensures.env

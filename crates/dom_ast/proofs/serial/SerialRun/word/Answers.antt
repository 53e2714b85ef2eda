use Rattle.dom_ast.proofs.Serials.{place_within}
use Rattle.dom_ast.proofs.serial.SerialRun.word.Goals as goal

pub word-requires-clause-index : goal.word-requires-clause-index
word-requires-clause-index c =
    place_within c.args.self.now.program.arrays c.args.self.now.arrays c.args.array c.args.index c.args.self.now.sizes c.requires

use Rattle.dom_ast.specs.Meaning.{entering}
use Rattle.dom_ast.proofs.Serials.{chain_is}
use Rattle.dom_ast.proofs.serial.+eval.Goals as goal

pub eval-returns-in-Chain : goal.eval-returns-in-Chain
eval-returns-in-Chain g t c =
    rw (c.in-Chain.is)
    (chain_is (g.H.HashUnits.meaning c.args.hash.now) (entering c.args.words.now c.args.state.now) c.in-Chain.first c.in-Chain.rest _ _ _ c.eval_rest.ensures c.word_of-word.ensures c.deref-in-Chain.ensures)

use Rattle.dom_words.proofs.Stored.{stored_sizes}
use Rattle.dom_ast.proofs.Serials.{filled_alike}
use Rattle.dom_ast.proofs.serial.State.store.Goals as goal

pub invariant_of-self : goal.invariant_of-self
invariant_of-self c =
    filled_alike _ c.self.inside.arrays.items (stored_sizes c.self.inside.arrays.items c.args.array c.index_mut.result.now c.words_mut-words.result.now _ _ (rw c.self.view_is c.requires) c.index_mut.ensures.value c.words_mut-words.ensures.value) c.self.invariant

pub returns-clause-sizes : goal.returns-clause-sizes
returns-clause-sizes c =
    rw (← c.self.view_is) (stored_sizes c.self.inside.arrays.items c.args.array c.index_mut.result.now c.words_mut-words.result.now _ _ (rw c.self.view_is c.requires) c.index_mut.ensures.value c.words_mut-words.ensures.value)

use Rattle.dom_words.proofs.NamesLemmas.{distinct_map}
use Rattle.dom_words.specs.Names.{is_same}
use Rattle.dom_words.proofs.names.Names.len.Goals as goal

pub returns-clause-distinct : goal.returns-clause-distinct
returns-clause-distinct c = rw (← c.self.view_is) (distinct_map is_same _ _ c.len.ensures.unique)

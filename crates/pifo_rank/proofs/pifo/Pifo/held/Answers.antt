use Rattle.std.proofs.Common.{arith, sym, ◌∙◌}
use Rattle.std.specs.BinaryHeap.{heap_items}
use Rattle.pifo_rank.proofs.Keeping.{length_in_order}
use Rattle.pifo_rank.proofs.pifo.Pifo.held.Goals as goal

pub returns-clause-count : goal.returns-clause-count
returns-clause-count c = rw (← c.self.view_is) (c.len.ensures ∙ c.self.inside.waiting.data.ok.0 ∙ sym (length_in_order (heap_items c.self.inside.waiting)))

pub returns-clause-most : goal.returns-clause-most
returns-clause-most c = rw (← c.self.view_is) (omega (arith, c.len.ensures, c.self.invariant.shared))

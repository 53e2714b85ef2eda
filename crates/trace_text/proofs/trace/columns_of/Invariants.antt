use Rattle.std.proofs.Common.{◌≡◌, map, take}
use Rattle.dom_words.specs.Names.{index_of}
use Rattle.trace_text.proofs.trace.columns_of.Given as goal

abbrev pub invariant-loop-k : goal.invariant-loop-k
invariant-loop-k l = l.columns.items ≡ map (λ field. index_of l.names field) (take l.k l.fields)

use Rattle.atom_match.specs.Classes.{class_of}
use Rattle.atom_match.specs.Table.{IsTable}
use Rattle.atom_match.proofs.table.fill.Given as goal

abbrev pub invariant-loop-number : goal.invariant-loop-number
invariant-loop-number l = IsTable (class_of l.codelets l.codelet) l.view l.facts l.number l.table.items

use Rattle.std.proofs.Common.{◌≡◌, drop}
use Rattle.atom_match.specs.Classes.{write_of}
use Rattle.atom_match.proofs.class.written_operand.Given as goal

abbrev pub invariant-loop-number : goal.invariant-loop-number
invariant-loop-number l =
    write_of l.codelets.table l.members l.array ≡ write_of l.codelets.table (drop l.number-index l.members) l.array

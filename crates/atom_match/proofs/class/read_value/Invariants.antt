use Rattle.std.proofs.Common.{◌≡◌, drop, length, true, nat_lt}
use Rattle.std.specs.List.{list_all}
use Rattle.atom_match.specs.Classes.{read_of}
use Rattle.atom_match.proofs.class.read_value.Given as goal

abbrev pub invariant-loop-number : goal.invariant-loop-number
invariant-loop-number l = record {
  same : read_of (length l.codelets.flat.fields) l.codelets.table l.members l.array ≡ read_of (length l.codelets.flat.fields) l.codelets.table (drop l.number-index l.members) l.array;
  within : list_all (λ b. nat_lt b (length l.codelets.flat.lines)) (drop l.number-index l.members) ≡ true;
}

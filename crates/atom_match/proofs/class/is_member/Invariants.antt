use Rattle.std.proofs.Common.{◌≡◌, drop}
use Rattle.codelets.specs.Lists.{has}
use Rattle.atom_match.proofs.class.is_member.Given as goal

abbrev pub invariant-loop-member : goal.invariant-loop-member
invariant-loop-member l = has l.members l.number ≡ has (drop l.member-index l.members) l.number

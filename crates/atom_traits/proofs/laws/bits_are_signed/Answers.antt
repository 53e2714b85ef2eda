use Rattle.atom_traits.proofs.Bits.{within_is_signed}
use Rattle.atom_traits.proofs.laws.bits_are_signed.Goals as goal

pub returns-clause-some : goal.returns-clause-some
returns-clause-some c = within_is_signed

use Rattle.std.proofs.Common.{◌≡◌, ℕ, true, false, take}
use Rattle.std.specs.Prelude.{slice_index_or}
use Rattle.codelets.specs.Lists.{has}
use Rattle.codelets.proofs.owners.give.Given as goal

abbrev pub invariant-loop-number : goal.invariant-loop-number
invariant-loop-number l = record {
  given : (a : ℕ) → has (take l.number-index l.numbers) a ≡ true → slice_index_or l.owners a 0 ≡ l.place;
  kept : (a : ℕ) → has (take l.number-index l.numbers) a ≡ false → slice_index_or l.owners a 0 ≡ slice_index_or l.fn.owners a 0;
}

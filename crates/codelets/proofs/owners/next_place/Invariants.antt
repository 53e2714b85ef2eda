use Rattle.std.proofs.Common.{◌≡◌, ◌<◌, ◌≤◌, ℕ, false, nat_eq, take}
use Rattle.std.specs.Prelude.{slice_index_or}
use Rattle.std.specs.List.{list_any}
use Rattle.codelets.proofs.owners.next_place.Given as goal

abbrev pub invariant-loop-number : goal.invariant-loop-number
invariant-loop-number l = record {
  low : l.from ≤ l.next;
  high : l.next ≤ l.end;
  least : (k : ℕ) → l.from ≤ k → k < l.next → list_any (λ a. nat_eq (slice_index_or l.owners a 0) k) (take l.number-index l.numbers) ≡ false;
}

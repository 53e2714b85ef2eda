use Rattle.std.proofs.Common.{◌≡◌, ◌≢◌, ◌<◌, ◌≤◌, ℕ, List, arith, get_or, false, nat_eq, subst}
use Rattle.std.specs.List.{list_any}
use Rattle.std.proofs.lemmas.List.{take_all}
use Rattle.codelets.proofs.Owned.{least_more}
use Rattle.codelets.proofs.owners.next_place.Goals as goal
use Rattle.codelets.proofs.owners.next_place.Goals.{then-from-place+then-place-next, else-from-place, else-from-place-via-then-from-place+else-place-next, else-from-place-via-else-from-place}

pub loop-number-preserved : goal.loop-number-preserved
loop-number-preserved c =
    let at : ℕ → ℕ = λ a. get_or c.args.owners.now a 0 in
    let i : ℕ = c.loop-number.number-index in
    let before = c.loop-number.invariant in
    let more : (k : ℕ) → c.args.from ≤ k → k < c.loop-number.next → at (get_or c.args.numbers.now i 0) ≢ k → _ = λ k low less ne. least_more at c.args.numbers.now i k c.loop-number-test.true (before.least k low less) ne in
    elim c.if-from-place.branch [
      | then-from-place+then-place-next w ↦ record {
        low = omega (arith, w.next-is, w.if-from-place.true);
        high = omega (arith, w.next-is, w.if-place-next.true, before.high);
        least = λ k low less. more k low (omega (arith, less, w.next-is, w.if-place-next.true)) (λ e. omega (arith, e, less, w.next-is, c.owner-place.ensures));
      }
      | else-from-place w ↦ elim w.else-from-place.branch [
        | else-from-place-via-then-from-place+else-place-next v ↦ record {
          low = omega (arith, w.next-is, before.low);
          high = omega (arith, w.next-is, before.high);
          least = λ k low less. more k low (omega (arith, less, w.next-is)) (λ e. omega (arith, e, less, w.next-is, v.if-place-next.false, c.owner-place.ensures));
        }
        | else-from-place-via-else-from-place v ↦ record {
          low = omega (arith, w.next-is, before.low);
          high = omega (arith, w.next-is, before.high);
          least = λ k low less. more k low (omega (arith, less, w.next-is)) (λ e. omega (arith, e, low, v.if-from-place.false, c.owner-place.ensures));
        }
      ]
    ]

pub returns-clause-least : goal.returns-clause-least
returns-clause-least c = λ k low less.
    subst (λ (ns : List ℕ). list_any (λ a. nat_eq (get_or c.args.owners.now a 0) k) ns ≡ false) (take_all c.loop-number.number-index c.args.numbers.now (omega (arith, c.loop-number-test.false))) (c.loop-number.invariant.least k low less)

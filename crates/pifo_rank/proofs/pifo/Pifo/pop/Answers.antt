use Rattle.std.proofs.Common.{rules, ◌≡◌, ℕ, ℤ, ◌<◌, List, ◌∷◌, length, Some, sym, ap, ◌∙◌, subst, arith, w32, to_z, of_z, ltb, true}
use Rattle.std.proofs.lemmas.Bool.Decides.{nat_tests}
use Rattle.std.proofs.lemmas.List.Elements.{All-push, All-head, All-tail}
use Rattle.std.proofs.lemmas.List.Sorted.{All-permutation}
use Rattle.std.specs.List.{All}
use Rattle.std.specs.BinaryHeap.{heap_items}
use Rattle.std.specs.Prelude.{option_map, unwrap_or}
use Rattle.pifo_rank.specs.declared.waiting.Waiting.{Waiting}
use Rattle.pifo_rank.specs.Queue.{Held, Queue}
use Rattle.pifo_rank.specs.Kept.{arrival_of, held_of, in_order}
use Rattle.pifo_rank.proofs.Arrivals.{apart_permuted, apart_rest}
use Rattle.pifo_rank.proofs.Keeping.{pop_serves, length_in_order, queue}
use Rattle.pifo_rank.proofs.Serving.{Serves}
use Rattle.pifo_rank.proofs.pifo.Pifo.pop.Goals as goal

pub invariant_of-self-2 : goal.invariant_of-self-2
invariant_of-self-2 c =
    let old : List Waiting = heap_items c.self.inside.waiting in
    let new : List Waiting = heap_items c.pop.new.self in
    let x : Waiting = c.in-Some.entry in
    let n : ℕ = c.self.inside.pushes in
    let width : ℕ = c.self.inside.width in
    let p = c.in-Some.ensures.permutation in
    let fits : length c.swap.new.y ≡ width = ap length c.swap.ensures.y_after ∙ c.requires ∙ sym (ap (λ (q : Queue). q.width) c.self.view_is) in
    record {
      ordered = (c.in-Some.ensures.heap_order c.self.invariant.ordered).0;
      apart = apart_rest arrival_of x new (apart_permuted arrival_of old (x ∷ new) p c.self.invariant.apart);
      earlier = All-tail (λ (w : Waiting). w.arrival < n) x new (All-permutation (λ (w : Waiting). w.arrival < n) old (x ∷ new) p c.self.invariant.earlier);
      wide = All-tail (λ (w : Waiting). length w.words ≡ width) x new (All-permutation (λ (w : Waiting). length w.words ≡ width) old (x ∷ new) p c.self.invariant.wide);
      spare_wide =
          subst (λ l. All (λ (q : List ℕ). length q ≡ width) l) (sym c.in-Ok.ensures.items)
          (All-push (λ (q : List ℕ). length q ≡ width) c.self.inside.spare.items c.swap.new.y c.self.invariant.spare_wide fits);
      shared = omega (arith, c.in-Some.ensures.len, c.in-Ok.ensures.len, c.self.invariant.shared);
      places = omega (arith, c.in-Some.ensures.capacity, c.self.invariant.places);
      spare_places = omega (arith, c.in-Ok.ensures.capacity, c.self.invariant.spare_places);
    }

pub returns-clause-some : goal.returns-clause-some
returns-clause-some c =
    let size : length (in_order (heap_items c.self.inside.waiting)) ≡ length (heap_items c.self.inside.waiting) = length_in_order (heap_items c.self.inside.waiting) in
    let len = c.self.inside.waiting.data.ok.0 in
    let held : 0 < length (in_order (heap_items c.self.inside.waiting)) = omega (arith, size, len, c.in-Some.ensures.len) in
    let so : ltb 0 (length (in_order (heap_items c.self.inside.waiting))) ≡ true = grind (arith, nat_tests, held) in
    rw (← c.self.view_is) (sym so)

pub returns-clause-rank : goal.returns-clause-rank
returns-clause-rank c =
    let s : Serves (in_order (heap_items c.self.inside.waiting)) (held_of c.in-Some.entry) (in_order (heap_items c.pop.new.self)) =
    pop_serves (heap_items c.self.inside.waiting) (heap_items c.pop.new.self) c.in-Some.entry c.in-Some.ensures.permutation c.self.invariant.apart (c.in-Some.ensures.heap_order c.self.invariant.ordered).1 in
    let same : to_z w32 (of_z w32 c.in-Some.entry.rank) ≡ c.in-Some.entry.rank = search rules in
    rw (← c.self.view_is) (ap (λ (z : ℤ). Some z) same ∙ sym (ap (option_map (λ (e : Held). e.rank)) s.first))

pub returns-clause-words : goal.returns-clause-words
returns-clause-words c =
    let s : Serves (in_order (heap_items c.self.inside.waiting)) (held_of c.in-Some.entry) (in_order (heap_items c.pop.new.self)) =
    pop_serves (heap_items c.self.inside.waiting) (heap_items c.pop.new.self) c.in-Some.entry c.in-Some.ensures.permutation c.self.invariant.apart (c.in-Some.ensures.heap_order c.self.invariant.ordered).1 in
    rw (← c.self.view_is)
    (c.swap.ensures.x_after ∙ sym (ap (λ o. unwrap_or (option_map (λ (e : Held). e.words) o) c.args.words.now) s.first))

pub returns-clause-size : goal.returns-clause-size
returns-clause-size c =
    let old : List Waiting = heap_items c.self.inside.waiting in
    let new : List Waiting = heap_items c.pop.new.self in
    let width : ℕ = c.self.inside.width in
    let all = All-permutation (λ (w : Waiting). length w.words ≡ width) old (c.in-Some.entry ∷ new) c.in-Some.ensures.permutation c.self.invariant.wide in
    let one : length c.in-Some.entry.words ≡ width = All-head (λ (w : Waiting). length w.words ≡ width) c.in-Some.entry new all in
    ap length c.swap.ensures.x_after ∙ one ∙ ap (λ (q : Queue). q.width) c.self.view_is ∙ sym c.requires

pub returns-clause-queue : goal.returns-clause-queue
returns-clause-queue c =
    let s : Serves (in_order (heap_items c.self.inside.waiting)) (held_of c.in-Some.entry) (in_order (heap_items c.pop.new.self)) =
    pop_serves (heap_items c.self.inside.waiting) (heap_items c.pop.new.self) c.in-Some.entry c.in-Some.ensures.permutation c.self.invariant.apart (c.in-Some.ensures.heap_order c.self.invariant.ordered).1 in
    rw (← c.self.view_is)
    (ap (queue c.self.inside.pushes c.self.inside.room c.self.inside.width) (sym s.stay))

use Rattle.std.proofs.Common.{◌≡◌, ◌<◌, ℕ, true, false, Some, None, List, ◌++◌, length, map, take, drop, nat_eq, subst, ap, sym, ◌∙◌, arith}
use Rattle.std.specs.Prelude.{slice_index}
use Rattle.std.proofs.lemmas.Bool.{eqb-true}
use Rattle.std.proofs.lemmas.Grind.{common_steps}
use Rattle.banzai_config.specs.Action.{Entry}
use Rattle.banzai_machine.specs.Pipe.{entered}
use Rattle.elastic_machine.specs.declared.mark.Mark.{Mark}
use Rattle.elastic_machine.specs.Lanes.{put_last, queues_in}
use Rattle.elastic_machine.specs.Ready.{enter_waits}
use Rattle.elastic_machine.proofs.Leading.{counts_in, enter_leads, enter_stays, free_at, full_none, full_some, length-queues_in}
use Rattle.elastic_machine.proofs.elastic.enter_on.Goals as goal

pub put-requires-clause-room : goal.put-requires-clause-room
put-requires-clause-room g c =
    let cap : ℕ = c.args.cap in
    let ms : List Mark = c.args.marks.now.items in
    let some : 0 < length ms = omega (arith, c.requires.kept.queues) in
    let told : enter_waits cap (map (λ m. m.count) ms) ≡ None = rw c.as_slice.ensures.value at (sym c.enter_waits.ensures ∙ c.in-None.is) in
    let free : nat_eq (slice_index (map (λ m. m.count) ms) 0) cap ≡ false = full_none (nat_eq (slice_index (map (λ m. m.count) ms) 0) cap) 0 told in
    subst (λ (z : List Mark). slice_index (map (λ m. m.count) z) 0 < cap) (sym c.as_mut_slice.ensures.value)
    (free_at cap ms 0 some c.requires.kept.held.within free)

pub returns-in-Some-clause-answer : goal.returns-in-Some-clause-answer
returns-in-Some-clause-answer g c =
    let cap : ℕ = c.args.cap in
    let ms : List Mark = c.args.marks.now.items in
    let told : enter_waits cap (map (λ m. m.count) ms) ≡ Some c.in-Some.full = rw c.as_slice.ensures.value at (sym c.enter_waits.ensures ∙ c.in-Some.is) in
    ap (λ (ns : List ℕ). enter_waits cap ns) (counts_in c.args.config.now.containers cap ms c.args.words.now.items c.requires.kept.held.within) ∙ told

pub returns-in-None-clause-answer : goal.returns-in-None-clause-answer
returns-in-None-clause-answer g c =
    let cap : ℕ = c.args.cap in
    let ms : List Mark = c.args.marks.now.items in
    let told : enter_waits cap (map (λ m. m.count) ms) ≡ None = rw c.as_slice.ensures.value at (sym c.enter_waits.ensures ∙ c.in-None.is) in
    ap (λ (ns : List ℕ). enter_waits cap ns) (counts_in c.args.config.now.containers cap ms c.args.words.now.items c.requires.kept.held.within) ∙ told

pub returns-in-Some-clause-leads : goal.returns-in-Some-clause-leads
returns-in-Some-clause-leads g c hash a =
    let cap : ℕ = c.args.cap in
    let w : ℕ = c.args.config.now.containers in
    let ms : List Mark = c.args.marks.now.items in
    let ws : List ℕ = c.args.words.now.items in
    let qs : List (List Entry) = queues_in w cap ms ws in
    let some : 0 < length qs = omega (arith, c.requires.kept.queues, length-queues_in w cap ms ws) in
    let counts : map length qs ≡ map (λ m. m.count) ms = counts_in w cap ms ws c.requires.kept.held.within in
    let told : enter_waits cap (map (λ m. m.count) ms) ≡ Some c.in-Some.full = rw c.as_slice.ensures.value at (sym c.enter_waits.ensures ∙ c.in-Some.is) in
    let full : nat_eq (slice_index (map (λ m. m.count) ms) 0) cap ≡ true = full_some (nat_eq (slice_index (map (λ m. m.count) ms) 0) cap) 0 c.in-Some.full told in
    enter_stays hash cap c.args.config.now (entered c.args.config.now (Some c.args.packet.now)) qs a some
    (ap (λ (ns : List ℕ). slice_index ns 0) counts ∙ eqb-true (slice_index (map (λ m. m.count) ms) 0) cap full)

pub put-requires-clause-held : goal.put-requires-clause-held
put-requires-clause-held g c = rw (c.containers-width.ensures, c.as_mut_slice.ensures.value, c.as_mut_slice-in-None.ensures.value) c.requires.kept.held

pub returns-in-None-clause-leads : goal.returns-in-None-clause-leads
returns-in-None-clause-leads g c hash a =
    let config = c.args.config.now in
    let cap : ℕ = c.args.cap in
    let w : ℕ = config.containers in
    let ms : List Mark = c.args.marks.now.items in
    let ws : List ℕ = c.args.words.now.items in
    let qs : List (List Entry) = queues_in w cap ms ws in
    let x : Entry = entered config (Some c.args.packet.now) in
    let some : 0 < length qs = omega (arith, c.requires.kept.queues, length-queues_in w cap ms ws) in
    let some' : 0 < length ms = omega (arith, c.requires.kept.queues) in
    let counts : map length qs ≡ map (λ m. m.count) ms = counts_in w cap ms ws c.requires.kept.held.within in
    let told : enter_waits cap (map (λ m. m.count) ms) ≡ None = rw c.as_slice.ensures.value at (sym c.enter_waits.ensures ∙ c.in-None.is) in
    let free : nat_eq (slice_index (map (λ m. m.count) ms) 0) cap ≡ false = full_none (nat_eq (slice_index (map (λ m. m.count) ms) 0) cap) 0 told in
    let room : slice_index (map length qs) 0 < cap = subst (λ (ns : List ℕ). slice_index ns 0 < cap) (sym counts) (free_at cap ms 0 some' c.requires.kept.held.within free) in
    let marks_now : take c.args.marks.now.len (c.put.new.marks ++ drop (length c.put.new.marks) ms) ≡ c.put.new.marks = grind (arith, common_steps) in
    let words_now : take c.args.words.now.len (c.put.new.words ++ drop (length c.put.new.words) ws) ≡ c.put.new.words = grind (arith, common_steps) in
    let is : queues_in w cap c.put.new.marks c.put.new.words ≡ put_last 0 x qs =
    rw (c.containers-width.ensures, c.as_mut_slice.ensures.value, c.as_mut_slice-in-None.ensures.value) at c.put.ensures.queues in
    rw (marks_now, words_now) (enter_leads hash cap config x qs (queues_in w cap c.put.new.marks c.put.new.words) a some room is)

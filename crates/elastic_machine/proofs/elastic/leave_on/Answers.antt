use Rattle.std.proofs.Common.{◌≡◌, ℕ, suc, true, Some, None, List, [], ◌∷◌, ◌++◌, length, map, take, drop, nat_eq, ap, sym, ◌∙◌, arith}
use Rattle.std.specs.Prelude.{slice_index}
use Rattle.std.proofs.lemmas.Bool.{eqb-true}
use Rattle.std.proofs.lemmas.Grind.{common_steps}
use Rattle.banzai_config.specs.Action.{Entry}
use Rattle.banzai_machine.specs.Pipe.{shown}
use Rattle.elastic_machine.specs.declared.mark.Mark.{Mark}
use Rattle.elastic_machine.specs.Lanes.{queues_in}
use Rattle.elastic_machine.specs.Moves.{Leaves}
use Rattle.elastic_machine.specs.Ready.{leave_waits}
use Rattle.elastic_machine.proofs.Happening.{last_at}
use Rattle.elastic_machine.proofs.Leading.{counts_in, empty_some, leave_empty, leave_leads, leave_none, length-queues_in}
use Rattle.elastic_machine.proofs.elastic.leave_on.Goals as goal

pub returns-in-Some-clause-answer : goal.returns-in-Some-clause-answer
returns-in-Some-clause-answer g c =
    let ms : List Mark = c.args.marks.now.items in
    let n : ℕ = length c.args.config.now.stages in
    let told : leave_waits c.stages-last.result (map (λ m. m.count) ms) ≡ Some c.in-Some.empty = rw c.as_slice.ensures.value at (sym c.leave_waits.ensures ∙ c.in-Some.is) in
    ap (λ (ns : List ℕ). leave_waits n ns) (counts_in c.args.config.now.containers c.args.cap ms c.args.words.now.items c.requires.kept.held.within)
    ∙ ap (λ (i : ℕ). leave_waits i (map (λ m. m.count) ms)) (sym c.stages-last.ensures) ∙ told

pub returns-in-None-clause-answer : goal.returns-in-None-clause-answer
returns-in-None-clause-answer g c =
    let ms : List Mark = c.args.marks.now.items in
    let n : ℕ = length c.args.config.now.stages in
    let told : leave_waits c.stages-last.result (map (λ m. m.count) ms) ≡ None = rw c.as_slice.ensures.value at (sym c.leave_waits.ensures ∙ c.in-None.is) in
    ap (λ (ns : List ℕ). leave_waits n ns) (counts_in c.args.config.now.containers c.args.cap ms c.args.words.now.items c.requires.kept.held.within)
    ∙ ap (λ (i : ℕ). leave_waits i (map (λ m. m.count) ms)) (sym c.stages-last.ensures) ∙ told

pub returns-in-Some-clause-leads : goal.returns-in-Some-clause-leads
returns-in-Some-clause-leads g c hash a =
    let w : ℕ = c.args.config.now.containers in
    let ms : List Mark = c.args.marks.now.items in
    let ws : List ℕ = c.args.words.now.items in
    let qs : List (List Entry) = queues_in w c.args.cap ms ws in
    let n : ℕ = length c.args.config.now.stages in
    let size : length qs ≡ suc n = omega (arith, c.requires.kept.queues, length-queues_in w c.args.cap ms ws) in
    let empty : nat_eq (slice_index (map length qs) n) 0 ≡ true = empty_some (nat_eq (slice_index (map length qs) n) 0) n c.in-Some.empty (returns-in-Some-clause-answer g c) in
    leave_empty hash c.args.cap c.args.config.now n qs a size (eqb-true (slice_index (map length qs) n) 0 empty)

pub returns-in-Some-clause-shows : goal.returns-in-Some-clause-shows
returns-in-Some-clause-shows g c =
    let w : ℕ = c.args.config.now.containers in
    let ms : List Mark = c.args.marks.now.items in
    let ws : List ℕ = c.args.words.now.items in
    let qs : List (List Entry) = queues_in w c.args.cap ms ws in
    let n : ℕ = length c.args.config.now.stages in
    let size : length qs ≡ suc n = omega (arith, c.requires.kept.queues, length-queues_in w c.args.cap ms ws) in
    let empty : nat_eq (slice_index (map length qs) n) 0 ≡ true = empty_some (nat_eq (slice_index (map length qs) n) 0) n c.in-Some.empty (returns-in-Some-clause-answer g c) in
    leave_none n qs size (eqb-true (slice_index (map length qs) n) 0 empty)

pub returns-in-None-clause-shows : goal.returns-in-None-clause-shows
returns-in-None-clause-shows g c =
    let config = c.args.config.now in
    let w : ℕ = config.containers in
    let ms : List Mark = c.args.marks.now.items in
    let ws : List ℕ = c.args.words.now.items in
    let qs : List (List Entry) = queues_in w c.args.cap ms ws in
    let k : ℕ = c.stages-last.result in
    let size : length qs ≡ suc k = omega (arith, c.requires.kept.queues, length-queues_in w c.args.cap ms ws, c.stages-last.ensures) in
    let l : Leaves config.outputs k qs (queues_in w c.args.cap c.take_out.new.marks ws) c.take_out.new.leaving =
    rw (c.outputs.ensures, c.containers-width.ensures, c.as_mut_slice.ensures.value, c.as_slice-in-None.ensures.value) at c.take_out.ensures.leaves in
    ap (λ (z : List Entry). map (shown config) z) (last_at k qs (Some l.head ∷ l.rest) size l.at).0
    ∙ ap (λ (z : List ℕ). Some z ∷ []) (sym l.left)

pub returns-in-None-clause-leads : goal.returns-in-None-clause-leads
returns-in-None-clause-leads g c hash a =
    let config = c.args.config.now in
    let w : ℕ = config.containers in
    let ms : List Mark = c.args.marks.now.items in
    let ws : List ℕ = c.args.words.now.items in
    let qs : List (List Entry) = queues_in w c.args.cap ms ws in
    let k : ℕ = c.stages-last.result in
    let size : length qs ≡ suc k = omega (arith, c.requires.kept.queues, length-queues_in w c.args.cap ms ws, c.stages-last.ensures) in
    let l : Leaves config.outputs k qs (queues_in w c.args.cap c.take_out.new.marks ws) c.take_out.new.leaving =
    rw (c.outputs.ensures, c.containers-width.ensures, c.as_mut_slice.ensures.value, c.as_slice-in-None.ensures.value) at c.take_out.ensures.leaves in
    let marks_now : take c.args.marks.now.len (c.take_out.new.marks ++ drop (length c.take_out.new.marks) ms) ≡ c.take_out.new.marks = grind (arith, common_steps) in
    rw marks_now
    (leave_leads hash c.args.cap config k config.outputs qs (queues_in w c.args.cap c.take_out.new.marks ws) a c.take_out.new.leaving size l)

pub take_out-requires-clause-held : goal.take_out-requires-clause-held
take_out-requires-clause-held g c = rw (c.containers-width.ensures, c.as_mut_slice.ensures.value, c.as_slice-in-None.ensures.value) c.requires.kept.held

pub take_out-requires-clause-outputs : goal.take_out-requires-clause-outputs
take_out-requires-clause-outputs g c = rw (c.outputs.ensures, c.containers-width.ensures) c.requires.runs.outputs

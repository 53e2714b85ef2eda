use Rattle.std.proofs.Common.{◌≡◌, ◌+◌, ◌<◌, ℕ, Some, None, List, ◌++◌, length, map, take, drop, subst, ap, sym, ◌∙◌, arith}
use Rattle.std.specs.Prelude.{slice_index}
use Rattle.std.proofs.lemmas.Grind.{common_steps}
use Rattle.banzai_config.specs.Action.{Arrays, Entry}
use Rattle.banzai_config.specs.Parts.{StageForm}
use Rattle.banzai_machine.specs.Runnable.{stage_at}
use Rattle.elastic_machine.specs.declared.mark.Mark.{Mark}
use Rattle.elastic_machine.specs.Lanes.{queues_in}
use Rattle.elastic_machine.specs.Moves.{Passes}
use Rattle.elastic_machine.specs.Ready.{fire_waits}
use Rattle.elastic_machine.proofs.Leading.{counts_in, fire_leads, fire_room, fire_some, fire_stays, length-queues_in}
use Rattle.elastic_machine.proofs.elastic.fire_on.Goals as goal

pub pass-requires-clause-room : goal.pass-requires-clause-room
pass-requires-clause-room g c =
    let cap : ℕ = c.args.cap in
    let k : ℕ = c.args.k in
    let ms : List Mark = c.args.marks.now.items in
    let both : k + 1 < length ms = omega (arith, c.requires.kept.queues, c.requires.k) in
    let told : fire_waits cap k (map (λ m. m.count) ms) ≡ None = rw c.as_slice.ensures.value at (sym c.fire_waits.ensures ∙ c.in-None.is) in
    subst (λ (z : List Mark). slice_index (map (λ m. m.count) z) (k + 1) < cap) (sym c.as_mut_slice.ensures.value)
    (fire_room cap k ms both c.requires.kept.held.within told)

pub returns-in-Some-clause-answer : goal.returns-in-Some-clause-answer
returns-in-Some-clause-answer g c =
    let cap : ℕ = c.args.cap in
    let ms : List Mark = c.args.marks.now.items in
    let told : fire_waits cap c.args.k (map (λ m. m.count) ms) ≡ Some c.in-Some.reason = rw c.as_slice.ensures.value at (sym c.fire_waits.ensures ∙ c.in-Some.is) in
    ap (λ (ns : List ℕ). fire_waits cap c.args.k ns) (counts_in c.args.config.now.containers cap ms c.args.words.now.items c.requires.kept.held.within) ∙ told

pub returns-in-None-clause-answer : goal.returns-in-None-clause-answer
returns-in-None-clause-answer g c =
    let cap : ℕ = c.args.cap in
    let ms : List Mark = c.args.marks.now.items in
    let told : fire_waits cap c.args.k (map (λ m. m.count) ms) ≡ None = rw c.as_slice.ensures.value at (sym c.fire_waits.ensures ∙ c.in-None.is) in
    ap (λ (ns : List ℕ). fire_waits cap c.args.k ns) (counts_in c.args.config.now.containers cap ms c.args.words.now.items c.requires.kept.held.within) ∙ told

pub returns-in-Some-clause-leads : goal.returns-in-Some-clause-leads
returns-in-Some-clause-leads g c =
    let cap : ℕ = c.args.cap in
    let k : ℕ = c.args.k in
    let w : ℕ = c.args.config.now.containers in
    let ms : List Mark = c.args.marks.now.items in
    let ws : List ℕ = c.args.words.now.items in
    let qs : List (List Entry) = queues_in w cap ms ws in
    let both : k + 1 < length qs = omega (arith, c.requires.kept.queues, c.requires.k, length-queues_in w cap ms ws) in
    fire_stays (g.H.HashUnits.meaning c.args.hash.now) cap c.args.config.now k qs c.args.arrays.now.items c.in-Some.reason both (returns-in-Some-clause-answer g c)

pub returns-in-None-clause-leads : goal.returns-in-None-clause-leads
returns-in-None-clause-leads g c =
    let hash = g.H.HashUnits.meaning c.args.hash.now in
    let config = c.args.config.now in
    let cap : ℕ = c.args.cap in
    let k : ℕ = c.args.k in
    let w : ℕ = config.containers in
    let ms : List Mark = c.args.marks.now.items in
    let ws : List ℕ = c.args.words.now.items in
    let old : Arrays = c.args.arrays.now.items in
    let qs : List (List Entry) = queues_in w cap ms ws in
    let stage : StageForm = stage_at config.stages k in
    let both : k + 1 < length qs = omega (arith, c.requires.kept.queues, c.requires.k, length-queues_in w cap ms ws) in
    let counts : map length qs ≡ map (λ m. m.count) ms = counts_in w cap ms ws c.requires.kept.held.within in
    let both' : k + 1 < length ms = omega (arith, c.requires.kept.queues, c.requires.k) in
    let told : fire_waits cap k (map (λ m. m.count) ms) ≡ None = rw c.as_slice.ensures.value at (sym c.fire_waits.ensures ∙ c.in-None.is) in
    let room : slice_index (map (λ m. m.count) ms) (k + 1) < cap = fire_room cap k ms both' c.requires.kept.held.within told in
    let room' : slice_index (map length qs) (k + 1) < cap = subst (λ (ns : List ℕ). slice_index ns (k + 1) < cap) (sym counts) room in
    let marks_now : take c.args.marks.now.len (c.pass.new.marks ++ drop (length c.pass.new.marks) ms) ≡ c.pass.new.marks = grind (arith, common_steps) in
    let words_now : take c.args.words.now.len (c.pass.new.words ++ drop (length c.pass.new.words) ws) ≡ c.pass.new.words = grind (arith, common_steps) in
    let arrays_now : take c.args.arrays.now.len (c.pass.new.arrays ++ drop (length c.pass.new.arrays) old) ≡ c.pass.new.arrays = grind (arith, common_steps) in
    let passes : Passes hash stage k qs (queues_in w cap c.pass.new.marks c.pass.new.words) old c.pass.new.arrays =
    rw (c.containers-width.ensures, c.as_mut_slice.ensures.value, c.as_mut_slice-in-None.ensures.value, c.as_mut_slice-in-None-2.ensures.value) at c.pass.ensures.passes in
    rw (marks_now, words_now, arrays_now)
    (fire_leads hash cap config k stage qs (queues_in w cap c.pass.new.marks c.pass.new.words) old c.pass.new.arrays (fire_some config k c.requires.k) both room' passes)

pub pass-requires-clause-held : goal.pass-requires-clause-held
pass-requires-clause-held g c = rw (c.containers-width.ensures, c.as_mut_slice.ensures.value, c.as_mut_slice-in-None.ensures.value) c.requires.kept.held

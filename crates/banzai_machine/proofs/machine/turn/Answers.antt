use Rattle.std.proofs.Common.{◌≡◌, ℕ, ◌-◌, ◌<◌, ◌≤◌, Bool, List, Bor, None, ◌++◌, length, map, take, drop, set, get_or, sym, ◌∙◌, ap, subst, arith}
use Rattle.std.proofs.lemmas.Grind.{common_steps}
use Rattle.std.proofs.lemmas.List.Elements.{All-same}
use Rattle.std.specs.Option.{option_map}
use Rattle.pipeline_law.specs.Stage.{results}
use Rattle.banzai_config.specs.Action.{Arrays, Entry, acts}
use Rattle.banzai_machine.specs.declared.touch.Touch.{Touch}
use Rattle.banzai_machine.specs.Kept.{put_in}
use Rattle.banzai_machine.specs.Pipe.{clocked, shown}
use Rattle.banzai_machine.specs.Ring.{IsPlace, places, ring, rotated}
use Rattle.banzai_machine.specs.State.{LeavesAs}
use Rattle.banzai_machine.specs.Touches.{AreOnce, cycle_touches}
use Rattle.banzai_machine.proofs.Cycle.{turn_left, turn_row}
use Rattle.banzai_machine.proofs.Rounds.{length-places, length-rotated}
use Rattle.banzai_machine.proofs.Touched.{touches_named, touches_once}
use Rattle.banzai_machine.proofs.machine.turn.Goals as goal

pub returns-clause-left : goal.returns-clause-left
returns-clause-left g c =
    let hash = g.H.HashUnits.meaning c.args.hash.now in
    let config = c.args.config.now in
    let w : ℕ = config.containers in
    let p : ℕ = c.args.position.now in
    let at : ℕ = c.place-oldest.result in
    let flags : List Bool = c.args.filled.now.items in
    let old : Arrays = c.args.arrays.now.items in
    let entry : Entry = option_map (λ (fields : Bor (List ℕ)). fields.now) c.args.entering in
    let before : List Entry = ring w p flags c.args.words.now.items in
    let mid : List Entry = places w flags c.advance.new.words in
    let words_mid : take c.args.words.now.len (c.advance.new.words ++ drop (length c.advance.new.words) c.args.words.now.items) ≡ c.advance.new.words = grind (arith, common_steps) in
    let words_then : c.as_mut_slice-4.result.now ≡ c.advance.new.words = c.as_mut_slice-4.ensures.value ∙ words_mid in
    let is : IsPlace p (length config.stages - 1) (length config.stages) at = subst (λ (n : ℕ). IsPlace p (n - 1) n at) c.stages-depth.ensures c.place-oldest.ensures in
    let position : p ≤ length (places w flags c.args.words.now.items) = omega (arith, length-places w flags c.args.words.now.items, c.requires.kept.flags, c.requires.kept.position) in
    let same : length before ≡ length config.stages = length-rotated p (places w flags c.args.words.now.items) position ∙ length-places w flags c.args.words.now.items ∙ c.requires.kept.flags in
    let long : length mid ≡ length config.stages = length-places w flags c.advance.new.words ∙ c.requires.kept.flags in
    let acted : rotated p mid ≡ results (acts hash) config.stages before old =
    rw (c.containers-width.ensures, c.as_slice.ensures.value, c.as_mut_slice.ensures.value, c.as_mut_slice-2.ensures.value) at c.advance.ensures.registers in
    let left : LeavesAs (shown config (get_or mid at None)) c.exchange-told.result c.args.leaving.now c.exchange-told.new.leaving =
    rw (c.containers-width.ensures, c.as_mut_slice-3.ensures.value, words_then) at c.exchange-told.ensures.left in
    subst (λ (e : Entry). LeavesAs e c.exchange-told.result c.args.leaving.now c.exchange-told.new.leaving)
    (sym (turn_left hash config before mid old entry p at c.requires.runs.some same long c.requires.kept.position is acted)) left

pub returns-clause-row : goal.returns-clause-row
returns-clause-row g c =
    let hash = g.H.HashUnits.meaning c.args.hash.now in
    let config = c.args.config.now in
    let w : ℕ = config.containers in
    let p : ℕ = c.args.position.now in
    let at : ℕ = c.place-oldest.result in
    let flags : List Bool = c.args.filled.now.items in
    let old : Arrays = c.args.arrays.now.items in
    let entry : Entry = option_map (λ (fields : Bor (List ℕ)). fields.now) c.args.entering in
    let before : List Entry = ring w p flags c.args.words.now.items in
    let mid : List Entry = places w flags c.advance.new.words in
    let words_mid : take c.args.words.now.len (c.advance.new.words ++ drop (length c.advance.new.words) c.args.words.now.items) ≡ c.advance.new.words = grind (arith, common_steps) in
    let words_then : c.as_mut_slice-4.result.now ≡ c.advance.new.words = c.as_mut_slice-4.ensures.value ∙ words_mid in
    let is : IsPlace p (length config.stages - 1) (length config.stages) at = subst (λ (n : ℕ). IsPlace p (n - 1) n at) c.stages-depth.ensures c.place-oldest.ensures in
    let position : p ≤ length (places w flags c.args.words.now.items) = omega (arith, length-places w flags c.args.words.now.items, c.requires.kept.flags, c.requires.kept.position) in
    let same : length before ≡ length config.stages = length-rotated p (places w flags c.args.words.now.items) position ∙ length-places w flags c.args.words.now.items ∙ c.requires.kept.flags in
    let long : length mid ≡ length config.stages = length-places w flags c.advance.new.words ∙ c.requires.kept.flags in
    let acted : rotated p mid ≡ results (acts hash) config.stages before old =
    rw (c.containers-width.ensures, c.as_slice.ensures.value, c.as_mut_slice.ensures.value, c.as_mut_slice-2.ensures.value) at c.advance.ensures.registers in
    let state : c.advance.new.arrays ≡ clocked config.stages before old =
    rw (c.containers-width.ensures, c.as_slice.ensures.value, c.as_mut_slice.ensures.value, c.as_mut_slice-2.ensures.value) at c.advance.ensures.arrays in
    let changed : places w c.exchange-told.new.filled c.exchange-told.new.words ≡ set mid at (put_in w entry) =
    rw (c.containers-width.ensures, c.as_mut_slice-3.ensures.value, words_then) at c.exchange-told.ensures.places in
    let flags_now : take c.args.filled.now.len (c.exchange-told.new.filled ++ drop (length c.exchange-told.new.filled) c.args.filled.now.items) ≡ c.exchange-told.new.filled = grind (arith, common_steps) in
    let words_now : take c.args.words.now.len (c.exchange-told.new.words ++ drop (length c.exchange-told.new.words) (take c.args.words.now.len (c.advance.new.words ++ drop (length c.advance.new.words) c.args.words.now.items))) ≡ c.exchange-told.new.words =
    grind (arith, common_steps) in
    let arrays_now : take c.args.arrays.now.len (c.advance.new.arrays ++ drop (length c.advance.new.arrays) c.args.arrays.now.items) ≡ c.advance.new.arrays = grind (arith, common_steps) in
    rw (flags_now, words_now, arrays_now)
    (turn_row hash config before mid old entry p at c.requires.runs.some same long c.requires.kept.position is acted
    (places w c.exchange-told.new.filled c.exchange-told.new.words) c.advance.new.arrays changed state)

pub returns-clause-kept : goal.returns-clause-kept
returns-clause-kept g c =
    let config = c.args.config.now in
    let before : List Entry = ring config.containers c.args.position.now c.args.filled.now.items c.args.words.now.items in
    let touches : c.advance.new.touches.list ≡ cycle_touches config before c.args.arrays.now.items =
    rw (c.containers-width.ensures, c.as_slice.ensures.value, c.as_mut_slice.ensures.value, c.as_mut_slice-2.ensures.value) at c.advance.ensures.touches in
    let words_mid : take c.args.words.now.len (c.advance.new.words ++ drop (length c.advance.new.words) c.args.words.now.items) ≡ c.advance.new.words = grind (arith, common_steps) in
    let words_then : c.as_mut_slice-4.result.now ≡ c.advance.new.words = c.as_mut_slice-4.ensures.value ∙ words_mid in
    let flags_now : take c.args.filled.now.len (c.exchange-told.new.filled ++ drop (length c.exchange-told.new.filled) c.args.filled.now.items) ≡ c.exchange-told.new.filled = grind (arith, common_steps) in
    let words_now : take c.args.words.now.len (c.exchange-told.new.words ++ drop (length c.exchange-told.new.words) (take c.args.words.now.len (c.advance.new.words ++ drop (length c.advance.new.words) c.args.words.now.items))) ≡ c.exchange-told.new.words =
    grind (arith, common_steps) in
    let arrays_now : take c.args.arrays.now.len (c.advance.new.arrays ++ drop (length c.advance.new.arrays) c.args.arrays.now.items) ≡ c.advance.new.arrays = grind (arith, common_steps) in
    record {
      position = omega (arith, c.place-oldest.ensures.within, c.stages-depth.ensures);
      flags = ap length flags_now ∙ c.exchange-told.ensures.flags ∙ ap length c.as_mut_slice-3.ensures.value ∙ c.requires.kept.flags;
      wide = ap length words_now ∙ c.exchange-told.ensures.size ∙ ap length words_then ∙ c.advance.ensures.size ∙ ap length c.as_mut_slice.ensures.value ∙ c.requires.kept.wide;
      sizes = ap (λ (z : Arrays). map length z) arrays_now ∙ c.advance.ensures.sizes ∙ ap (λ (z : Arrays). map length z) c.as_mut_slice-2.ensures.value ∙ c.requires.kept.sizes;
      room = omega (arith, c.advance.ensures.room, c.clear.ensures.room, c.requires.kept.room);
      once = subst (λ (ts : List Touch). AreOnce ts) (sym touches) (touches_once 1 config.stages before c.args.arrays.now.items c.requires.runs.arrays);
      named = All-same (λ (touch : Touch). touch.array < length config.arrays) c.advance.new.touches.list (cycle_touches config before c.args.arrays.now.items) touches (touches_named config before c.args.arrays.now.items c.requires.runs.stages);
    }

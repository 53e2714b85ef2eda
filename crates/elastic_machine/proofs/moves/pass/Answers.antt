use Rattle.std.proofs.Common.{◌≡◌, ◌+◌, ◌*◌, ◌<◌, ◌≤◌, ◌^◌, ◌≢◌, ℕ, Some, List, length, take, drop, get_or, set, slice_get, subst, ap, sym, ◌∙◌, arith}
use Rattle.std.proofs.lemmas.List.{get_or-set_other}
use Rattle.std.proofs.lemmas.Option.{slice_get-get_or}
use Rattle.banzai_config.specs.Action.{Arrays, Entry, acts}
use Rattle.banzai_config.specs.Parts.{StageForm}
use Rattle.banzai_machine.specs.Kept.{stage_slots}
use Rattle.banzai_machine.specs.Ring.{IsPlace}
use Rattle.banzai_machine.specs.Runnable.{stage_at}
use Rattle.banzai_machine.proofs.Every.{every_at}
use Rattle.banzai_machine.proofs.Steps.{room_at}
use Rattle.elastic_machine.specs.declared.mark.Mark.{Mark}
use Rattle.elastic_machine.specs.Lanes.{MarkWithin}
use Rattle.elastic_machine.proofs.Leading.{fire_some}
use Rattle.elastic_machine.proofs.Places.{count_at, few_at, fits_at, pass_is}
use Rattle.elastic_machine.proofs.moves.pass.Goals as goal

pub returns-clause-passes : goal.returns-clause-passes
returns-clause-passes g c =
    let hash = g.H.HashUnits.meaning c.args.hash.now in
    let stage : StageForm = stage_at c.args.config.now.stages c.args.k in
    let w : ℕ = c.args.width in
    let cap : ℕ = c.args.cap in
    let k : ℕ = c.args.k in
    let ms : List Mark = c.args.marks.now in
    let ws : List ℕ = c.args.words.now in
    let new : List ℕ = c.run_at.new.words in
    let old : Arrays = c.args.arrays.now in
    let none : Mark = record { start = 0; count = 0 } in
    let m : Mark = get_or ms k none in
    let n : Mark = get_or ms (k + 1) none in
    let low : k < length ms = omega (arith, c.requires.stage, c.requires.queues) in
    let both : k + 1 < length ms = omega (arith, c.requires.stage, c.requires.queues) in
    let at_m : slice_get ms k ≡ Some m = slice_get-get_or ms k none low in
    let at_n : slice_get ms (k + 1) ≡ Some n = slice_get-get_or ms (k + 1) none both in
    let within_m : MarkWithin cap m = every_at (λ z. MarkWithin cap z) ms k m c.requires.held.within at_m in
    let within_n : MarkWithin cap n = every_at (λ z. MarkWithin cap z) ms (k + 1) n c.requires.held.within at_n in
    let free : n.count < cap = subst (λ (i : ℕ). i < cap) (count_at ms (k + 1) n at_n) c.requires.room in
    let from : c.place-from.result ≡ k * cap + m.start = c.place-from.ensures in
    let to : c.place-to.result ≡ (k + 1) * cap + c.end.result = c.place-to.ensures in
    let head : List ℕ = take w (drop ((k * cap + m.start) * w) ws) in
    let copied : take w (drop (c.place-to.result * w) c.copy.new.words) ≡ head = c.copy.ensures.out ∙ ap (λ (i : ℕ). take w (drop (i * w) ws)) from in
    let x : Entry = (acts hash stage old (Some head)).1 in
    let out : x ≡ Some (take w (drop (((k + 1) * cap + c.end.result) * w) new)) =
    ap (λ (z : List ℕ). (acts hash stage old (Some z)).1) (sym copied) ∙ sym c.run_at.ensures.out ∙ ap (λ (i : ℕ). Some (take w (drop (i * w) new))) to in
    let apart : k ≢ k + 1 = (λ (e : k ≡ k + 1). absurd (omega (arith, e))) in
    let other : get_or (set ms (k + 1) c.grow.new.mark) k none ≡ m = get_or-set_other ms (k + 1) k c.grow.new.mark none apart in
    let is = pass_is w cap ms ws k m at_m within_m n at_n within_n new c.end.result c.shrink.new.mark c.grow.new.mark x free c.end.ensures c.grow.ensures.start c.grow.ensures.count
    (subst (λ (i : ℕ). take (i * w) new ≡ take (i * w) ws) to (c.run_at.ensures.before ∙ c.copy.ensures.before))
    (subst (λ (i : ℕ). drop (i * w + w) new ≡ drop (i * w + w) ws) to (c.run_at.ensures.after ∙ c.copy.ensures.after))
    out
    (subst (λ (z : Mark). IsPlace z.start 1 cap c.shrink.new.mark.start) other c.shrink.ensures.start)
    (subst (λ (z : Mark). c.shrink.new.mark.count + 1 ≡ z.count) other c.shrink.ensures.count) in
    record {
      head = Some head;
      rest = is.0;
      at = is.1;
      queues = is.2;
      state = c.run_at.ensures.arrays ∙ ap (λ (z : List ℕ). (acts hash stage old (Some z)).0) copied;
    }

pub place-to-requires-clause-few : goal.place-to-requires-clause-few
place-to-requires-clause-few g c =
    let both : c.args.k + 1 < length c.args.marks.now = omega (arith, c.requires.stage, c.requires.queues) in
    few_at c.args.cap (length c.args.marks.now) (c.args.k + 1) (2 ^ 31) both c.requires.held.few

pub copy-requires-clause-from : goal.copy-requires-clause-from
copy-requires-clause-from g c =
    let w : ℕ = c.args.width in
    let cap : ℕ = c.args.cap in
    let k : ℕ = c.args.k in
    let ms : List Mark = c.args.marks.now in
    let m : Mark = get_or ms k (record { start = 0; count = 0 }) in
    let low : k < length ms = omega (arith, c.requires.stage, c.requires.queues) in
    let at_m : slice_get ms k ≡ Some m = slice_get-get_or ms k (record { start = 0; count = 0 }) low in
    let within : MarkWithin cap m = every_at (λ z. MarkWithin cap z) ms k m c.requires.held.within at_m in
    subst (λ (n : ℕ). n * w + w ≤ length c.args.words.now) (sym c.place-from.ensures)
    (fits_at w cap (length ms) k m.start (length c.args.words.now) low within.start c.requires.held.wide)

pub copy-requires-clause-to : goal.copy-requires-clause-to
copy-requires-clause-to g c =
    let w : ℕ = c.args.width in
    let both : c.args.k + 1 < length c.args.marks.now = omega (arith, c.requires.stage, c.requires.queues) in
    subst (λ (n : ℕ). n * w + w ≤ length c.args.words.now) (sym c.place-to.ensures)
    (fits_at w c.args.cap (length c.args.marks.now) (c.args.k + 1) c.end.result (length c.args.words.now) both c.end.ensures.within c.requires.held.wide)

pub run_at-requires-clause-fits : goal.run_at-requires-clause-fits
run_at-requires-clause-fits g c =
    let w : ℕ = c.args.width in
    let both : c.args.k + 1 < length c.args.marks.now = omega (arith, c.requires.stage, c.requires.queues) in
    subst (λ (n : ℕ). n * w + w ≤ length c.copy.new.words) (sym c.place-to.ensures)
    (fits_at w c.args.cap (length c.args.marks.now) (c.args.k + 1) c.end.result (length c.copy.new.words) both c.end.ensures.within (c.copy.ensures.size ∙ c.requires.held.wide))

pub run_at-requires-clause-room : goal.run_at-requires-clause-room
run_at-requires-clause-room g c =
    let stage : StageForm = stage_at c.args.config.now.stages c.args.k in
    let there : slice_get c.args.config.now.stages c.args.k ≡ Some stage = fire_some c.args.config.now c.args.k c.requires.stage in
    omega (arith, room_at stage_slots c.args.config.now.stages c.args.k stage there, ap length c.clear.ensures.list, c.clear.ensures.room, c.requires.slots)

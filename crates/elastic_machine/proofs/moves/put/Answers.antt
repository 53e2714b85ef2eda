use Rattle.std.proofs.Common.{◌≡◌, ◌+◌, ◌*◌, ◌<◌, ◌≤◌, ◌^◌, ℕ, Some, List, length, take, drop, get_or, slice_get, subst, ap, sym, ◌∙◌}
use Rattle.std.proofs.lemmas.Option.{slice_get-get_or}
use Rattle.banzai_machine.proofs.Every.{every_at}
use Rattle.elastic_machine.specs.declared.mark.Mark.{Mark}
use Rattle.elastic_machine.specs.Lanes.{MarkWithin, put_last, queues_in}
use Rattle.elastic_machine.proofs.Places.{count_at, few_at, fits_at, put_is}
use Rattle.elastic_machine.proofs.moves.put.Goals as goal

pub place-to-requires-clause-few : goal.place-to-requires-clause-few
place-to-requires-clause-few c = few_at c.args.cap (length c.args.marks.now) 0 (2 ^ 31) c.requires.some c.requires.held.few

pub fill-requires-clause-fits : goal.fill-requires-clause-fits
fill-requires-clause-fits c =
    let w : ℕ = c.args.width in
    let cap : ℕ = c.args.cap in
    subst (λ (n : ℕ). n * w + w ≤ length c.args.words.now) (sym c.place-to.ensures)
    (fits_at w cap (length c.args.marks.now) 0 c.end.result (length c.args.words.now) c.requires.some c.end.ensures.within c.requires.held.wide)

pub returns-clause-queues : goal.returns-clause-queues
returns-clause-queues c =
    let w : ℕ = c.args.width in
    let cap : ℕ = c.args.cap in
    let ms : List Mark = c.args.marks.now in
    let ws : List ℕ = c.args.words.now in
    let new : List ℕ = c.fill.new.words in
    let none : Mark = record { start = 0; count = 0 } in
    let m : Mark = get_or ms 0 none in
    let at_m : slice_get ms 0 ≡ Some m = slice_get-get_or ms 0 none c.requires.some in
    let within : MarkWithin cap m = every_at (λ n. MarkWithin cap n) ms 0 m c.requires.held.within at_m in
    let free : m.count < cap = subst (λ (n : ℕ). n < cap) (count_at ms 0 m at_m) c.requires.room in
    let to : c.place-to.result ≡ 0 * cap + c.end.result = c.place-to.ensures in
    put_is w cap ms ws 0 m at_m within new c.end.result c.grow.new.mark free c.end.ensures c.grow.ensures.start c.grow.ensures.count
    (subst (λ (n : ℕ). take (n * w) new ≡ take (n * w) ws) to c.fill.ensures.before)
    (subst (λ (n : ℕ). drop (n * w + w) new ≡ drop (n * w + w) ws) to c.fill.ensures.after)
    ∙ ap (λ (n : ℕ). put_last 0 (Some (take w (drop (n * w) new))) (queues_in w cap ms ws)) (sym to)
    ∙ ap (λ (z : List ℕ). put_last 0 (Some z) (queues_in w cap ms ws)) c.fill.ensures.out

use Rattle.std.proofs.Common.{◌+◌, ◌<◌, length, take, sym, ap, subst, ◌∙◌, arith}
use Rattle.trace_text.specs.EventWords.{BeginsWith, event_of, feed_size}
use Rattle.trace_text.proofs.EventLines.{begins, no_event, no_feed}
use Rattle.trace_text.proofs.events.first_event.Goals as goal

pub returns-then-size-text-clause-none : goal.returns-then-size-text-clause-none
returns-then-size-text-clause-none c = no_feed c.args.depth c.requires c.args.text.now (sym c.line_size-size.ensures.value ∙ c.if-size-text.true)

pub returns-in-Some-clause-some : goal.returns-in-Some-clause-some
returns-in-Some-clause-some c =
    let value = c.line_size-size.ensures.value in
    let within : feed_size c.args.text.now < length c.args.text.now = let w = c.line_size-size.ensures.within in let n = c.if-size-text.false in omega arith in
    subst (λ n. BeginsWith c.args.depth c.args.text.now c.in-Some.event (n + 1)) (sym value)
    (begins c.args.depth c.requires c.args.text.now c.in-Some.event within (ap (λ n. event_of c.args.depth (take n c.args.text.now)) (sym value) ∙ sym c.event_in.ensures ∙ c.in-Some.is))

pub returns-in-None-clause-none : goal.returns-in-None-clause-none
returns-in-None-clause-none c =
    no_event c.args.depth c.requires c.args.text.now (ap (λ n. event_of c.args.depth (take n c.args.text.now)) (sym c.line_size-size.ensures.value) ∙ sym c.event_in.ensures ∙ c.in-None.is)

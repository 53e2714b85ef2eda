use Rattle.std.proofs.Common.{◌<◌, length, Some, None, ap, ◌∙◌, arith}
use Rattle.std.proofs.lemmas.Option.{slice_get-get_or}
use Rattle.dom_checks.specs.inner.Noted.{named}
use Rattle.dom_checks.proofs.Tables.{firsts_added, firsts_kept}
use Rattle.dom_checks.proofs.seen.note_first.Goals as goal

pub returns-in-Some : goal.returns-in-Some
returns-in-Some c = λ ms are.
    let within : c.args.mention.array < length c.args.firsts.now = omega arith in
    firsts_kept ms (named c.args.mention) c.args.firsts.now c.in-Some.field-0 c.requires (slice_get-get_or c.args.firsts.now c.args.mention.array None within ∙ ap Some c.in-Some.is) are

pub returns-in-None : goal.returns-in-None
returns-in-None c = λ ms are.
    let within : c.args.mention.array < length c.args.firsts.now = omega arith in
    firsts_added ms (named c.args.mention) c.args.firsts.now c.requires within (slice_get-get_or c.args.firsts.now c.args.mention.array None within ∙ ap Some c.in-None.is) are

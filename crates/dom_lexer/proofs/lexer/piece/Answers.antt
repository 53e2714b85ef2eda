use Rattle.std.proofs.Common.{◌<◌, length, arith}
use Rattle.dom_lexer.specs.Text.{most_tokens}
use Rattle.dom_lexer.proofs.Steps.{skipped, taken}
use Rattle.dom_lexer.proofs.lexer.piece.Goals as goal

pub returns-in-Gap-clause-ok : goal.returns-in-Gap-clause-ok
returns-in-Gap-clause-ok c = skipped c.args.text.now c.tail-rest.result.now c.args.at c.in-Gap.length c.args.tokens.now c.tail-rest.ensures c.requires.some c.requires.few c.in-Gap.ensures

pub returns-in_ok-push-in-Start-clause-ok : goal.returns-in_ok-push-in-Start-clause-ok
returns-in_ok-push-in-Start-clause-ok c =
    let few : length c.args.tokens.now < most_tokens = omega arith in
    taken c.args.text.now c.tail-rest.result.now c.args.at c.in_ok-kind-in-Start.length c.in_ok-kind-in-Start.kind c.args.tokens.now c.push.new.self c.tail-rest.ensures c.requires.some few c.in_ok-kind-in-Start.ensures.ok c.in_ok-push-in-Start.ensures.ok

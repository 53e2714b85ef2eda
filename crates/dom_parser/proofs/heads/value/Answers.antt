use Rattle.std.proofs.Common.{sym}
use Rattle.dom_parser.proofs.HeadParts.{named_value, constant_value, no_value}
use Rattle.dom_parser.proofs.heads.value.Goals as goal

pub returns-then-is_name-clause-ok : goal.returns-then-is_name-clause-ok
returns-then-is_name-clause-ok c =
    named_value c.args.tokens.now c.args.at c.offset-place.result c.in_ok-name.name (sym c.if-is_name.ensures.value) c.offset-place.ensures c.in_ok-name.ensures.ok

pub returns-in-Ok-clause-ok : goal.returns-in-Ok-clause-ok
returns-in-Ok-clause-ok c =
    constant_value c.args.tokens.now c.args.at c.in-Ok.next c.in-Ok.word (sym c.if-is_name.ensures.value) c.in-Ok.ensures.ok

pub returns-in-Err-clause-err : goal.returns-in-Err-clause-err
returns-in-Err-clause-err c =
    no_value c.args.tokens.now c.args.at c.in-Err.fault (sym c.if-is_name.ensures.value) c.in-Err.ensures.err

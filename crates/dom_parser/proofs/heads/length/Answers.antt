use Rattle.std.proofs.Common.{sym}
use Rattle.dom_parser.proofs.HeadParts.{named_size, numbered_size, no_size_here}
use Rattle.dom_parser.proofs.heads.length.Goals as goal

pub returns-then-is_name-clause-ok : goal.returns-then-is_name-clause-ok
returns-then-is_name-clause-ok c =
    named_size c.args.tokens.now c.args.at c.offset-place.result c.in_ok-name.name (sym c.if-is_name.ensures.value) c.offset-place.ensures c.in_ok-name.ensures.ok

pub returns-in-Some-clause-ok : goal.returns-in-Some-clause-ok
returns-in-Some-clause-ok c =
    numbered_size c.args.tokens.now c.args.at c.offset-place.result c.in-Some.word (sym c.if-is_name.ensures.value) (sym c.in-Some.ensures.value) c.offset-place.ensures

pub returns-in-None-clause-err : goal.returns-in-None-clause-err
returns-in-None-clause-err c =
    no_size_here c.args.tokens.now c.args.at (sym c.if-is_name.ensures.value) (sym c.in-None.ensures.value)

use Rattle.std.proofs.Common.{sym}
use Rattle.dom_parser.proofs.Transactions.{no_header, header_struct, header_tag, header_param, header_open, reads_header}
use Rattle.dom_parser.proofs.parser.header.Goals as goal

pub returns-then-not-is_fixed-clause-err : goal.returns-then-not-is_fixed-clause-err
returns-then-not-is_fixed-clause-err c =
    no_header c.args.tokens.now c.args.at (sym c.if-not-is_fixed.ensures.value)

pub returns-then-not-is_fixed-2-clause-err : goal.returns-then-not-is_fixed-2-clause-err
returns-then-not-is_fixed-2-clause-err c =
    header_struct c.args.tokens.now c.args.at (sym c.if-not-is_fixed.ensures.value) (sym c.if-not-is_fixed-2.ensures.value)

pub returns-then-not-is_name-clause-err : goal.returns-then-not-is_name-clause-err
returns-then-not-is_name-clause-err c =
    header_tag c.args.tokens.now c.args.at (sym c.if-not-is_fixed.ensures.value) (sym c.if-not-is_fixed-2.ensures.value) (sym c.if-not-is_name.ensures.value)

pub returns-then-not-is_name-2-clause-err : goal.returns-then-not-is_name-2-clause-err
returns-then-not-is_name-2-clause-err c =
    header_param c.args.tokens.now c.args.at (sym c.if-not-is_fixed.ensures.value) (sym c.if-not-is_fixed-2.ensures.value) (sym c.if-not-is_name.ensures.value) (sym c.if-not-is_name-2.ensures.value)

pub returns-then-not-is_fixed-3-clause-err : goal.returns-then-not-is_fixed-3-clause-err
returns-then-not-is_fixed-3-clause-err c =
    header_open c.args.tokens.now c.args.at (sym c.if-not-is_fixed.ensures.value) (sym c.if-not-is_fixed-2.ensures.value) (sym c.if-not-is_name.ensures.value) (sym c.if-not-is_name-2.ensures.value) (sym c.if-not-is_fixed-3.ensures.value)

pub returns-clause-ok : goal.returns-clause-ok
returns-clause-ok c =
    reads_header c.args.tokens.now c.args.at (sym c.if-not-is_fixed.ensures.value) (sym c.if-not-is_fixed-2.ensures.value) (sym c.if-not-is_name.ensures.value) (sym c.if-not-is_name-2.ensures.value) (sym c.if-not-is_fixed-3.ensures.value)

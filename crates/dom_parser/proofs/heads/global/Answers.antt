use Rattle.std.proofs.Common.{sym}
use Rattle.dom_parser.proofs.HeadParts.{no_global_name, global_size, global_start, global_semi, reads_global}
use Rattle.dom_parser.proofs.heads.global.Goals as goal

pub returns-then-not-is_name-clause-err : goal.returns-then-not-is_name-clause-err
returns-then-not-is_name-clause-err c =
    no_global_name c.args.tokens.now c.args.at c.requires.int (sym c.if-not-is_name.ensures.value)

pub returns-then-not-is_fixed-clause-err : goal.returns-then-not-is_fixed-clause-err
returns-then-not-is_fixed-clause-err c =
    global_semi _ _ c.args.tokens.now c.args.at c.in-Ok.after c.in-Ok-init_part.next c.requires.int (sym c.if-not-is_name.ensures.value) c.in-Ok.ensures.ok c.in-Ok-init_part.ensures.ok (sym c.if-not-is_fixed.ensures.value)

pub returns-in_ok-name-in-Ok-init_part-clause-ok : goal.returns-in_ok-name-in-Ok-init_part-clause-ok
returns-in_ok-name-in-Ok-init_part-clause-ok c =
    reads_global c.args.tokens.now c.args.at c.in-Ok.after c.in-Ok-init_part.next c.offset-at.result c.in_ok-name-in-Ok-init_part.name c.in-Ok.length c.in-Ok-init_part.init c.requires.int (sym c.if-not-is_name.ensures.value) c.in-Ok.ensures.ok c.in-Ok-init_part.ensures.ok (sym c.if-not-is_fixed.ensures.value) c.offset-at.ensures c.in_ok-name-in-Ok-init_part.ensures.ok

pub returns-in-Err-init_part-clause-err : goal.returns-in-Err-init_part-clause-err
returns-in-Err-init_part-clause-err c =
    global_start _ c.args.tokens.now c.args.at c.in-Ok.after c.in-Err-init_part.fault c.requires.int (sym c.if-not-is_name.ensures.value) c.in-Ok.ensures.ok c.in-Err-init_part.ensures.err

pub returns-in-Err-clause-err : goal.returns-in-Err-clause-err
returns-in-Err-clause-err c =
    global_size c.args.tokens.now c.args.at c.in-Err.fault c.requires.int (sym c.if-not-is_name.ensures.value) c.in-Err.ensures.err

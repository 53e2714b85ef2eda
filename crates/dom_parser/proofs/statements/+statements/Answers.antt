use Rattle.std.proofs.Common.{sym, arith}
use Rattle.dom_ast.specs.Form.{stmt_form, stmt_forms}
use Rattle.dom_parser.proofs.Stmts.{no_block, block_deep, stmts_start, stmts_next, stmt_fails, block_open, reads_block, no_stmt_block, no_stmt_other, assign_stmt, assign_stmt_fails, if_deep, if_condition, if_body, if_else, if_read, block_body, block_body_fails, assign_body, assign_body_fails, no_body_if, no_body_other, passes_else, else_block_fails, else_stmt_fails, passes_block, passes_stmt}
use Rattle.dom_parser.proofs.statements.+statements.Goals as goal

pub block-returns-then-not-is_fixed-clause-err : goal.block-returns-then-not-is_fixed-clause-err
block-returns-then-not-is_fixed-clause-err t c =
    no_block c.args.depth c.args.tokens.now c.args.at (sym c.if-not-is_fixed.ensures.value)

pub block-returns-then-depth-eq-MOST_OPEN-clause-err : goal.block-returns-then-depth-eq-MOST_OPEN-clause-err
block-returns-then-depth-eq-MOST_OPEN-clause-err t c =
    block_deep c.args.depth c.args.tokens.now c.args.at (sym c.if-not-is_fixed.ensures.value) c.if-depth-eq-MOST_OPEN.true

pub block-statements-init : goal.block-statements-init
block-statements-init t c =
    rw c.new-stmts.ensures (stmts_start c.args.depth c.args.tokens.now c.args.at (sym c.if-not-is_fixed.ensures.value))

pub block-statements-preserved : goal.block-statements-preserved
block-statements-preserved t c =
    stmts_next c.args.depth c.args.tokens.now c.args.at c.statements.next c.in-Ok.after c.statements.stmts c.add.new.to c.in-Ok.stmt c.statements.invariant (sym c.statements-test.ensures.value) c.in-Ok.ensures.ok c.in_ok-add-in-Ok.ensures.ok

pub block-returns-in-Err-clause-err : goal.block-returns-in-Err-clause-err
block-returns-in-Err-clause-err t c =
    stmt_fails c.args.depth c.args.tokens.now c.args.at c.statements.next _ c.in-Err.fault (omega arith) (sym c.if-not-is_fixed.ensures.value) c.statements.invariant (sym c.statements-test.ensures.value) c.in-Err.ensures.err

pub block-returns-then-is_fixed-clause-ok : goal.block-returns-then-is_fixed-clause-ok
block-returns-then-is_fixed-clause-ok t c =
    reads_block c.args.depth c.args.tokens.now c.args.at c.statements.next c.statements.stmts (omega arith) (sym c.if-not-is_fixed.ensures.value) c.statements.invariant (sym c.statements-test.ensures.value) (sym c.if-is_fixed.ensures.value)

pub block-returns-else-is_fixed-clause-err : goal.block-returns-else-is_fixed-clause-err
block-returns-else-is_fixed-clause-err t c =
    block_open c.args.depth c.args.tokens.now c.args.at c.statements.next _ (omega arith) (sym c.if-not-is_fixed.ensures.value) c.statements.invariant (sym c.statements-test.ensures.value) (sym c.if-is_fixed.ensures.value)

pub statement-returns-in-Ok-clause-ok : goal.statement-returns-in-Ok-clause-ok
statement-returns-in-Ok-clause-ok t c =
    assign_stmt c.args.depth c.args.tokens.now c.args.at c.in-Ok.next (stmt_form c.in-Ok.stmt) (sym c.in-Assign.ensures.value) c.in-Ok.ensures.ok

pub statement-returns-in-Err-clause-err : goal.statement-returns-in-Err-clause-err
statement-returns-in-Err-clause-err t c =
    assign_stmt_fails c.args.depth c.args.tokens.now c.args.at c.in-Err.fault (sym c.in-Assign.ensures.value) c.in-Err.ensures.err

pub statement-returns-in-Block-clause-err : goal.statement-returns-in-Block-clause-err
statement-returns-in-Block-clause-err t c =
    no_stmt_block c.args.depth c.args.tokens.now c.args.at (sym c.in-Block.ensures.value)

pub statement-returns-in-Other-clause-err : goal.statement-returns-in-Other-clause-err
statement-returns-in-Other-clause-err t c =
    no_stmt_other c.args.depth c.args.tokens.now c.args.at (sym c.in-Other.ensures.value)

pub branch-returns-then-depth-eq-MOST_OPEN-clause-err : goal.branch-returns-then-depth-eq-MOST_OPEN-clause-err
branch-returns-then-depth-eq-MOST_OPEN-clause-err t c =
    if_deep c.args.depth c.args.tokens.now c.args.at c.requires.lead c.if-depth-eq-MOST_OPEN.true

pub branch-returns-in-Err-clause-err : goal.branch-returns-in-Err-clause-err
branch-returns-in-Err-clause-err t c =
    if_condition c.args.depth c.args.tokens.now c.args.at c.in-Err.fault c.requires.lead (omega arith) c.in-Err.ensures.err

pub branch-returns-in-Err-body-clause-err : goal.branch-returns-in-Err-body-clause-err
branch-returns-in-Err-body-clause-err t c =
    if_body c.args.depth _ c.args.tokens.now c.args.at c.in-Ok.after c.in-Err-body.fault c.requires.lead (omega arith) c.in-Ok.ensures.ok c.in-Err-body.ensures.err

pub branch-returns-in-Err-else_part-clause-err : goal.branch-returns-in-Err-else_part-clause-err
branch-returns-in-Err-else_part-clause-err t c =
    if_else c.args.depth _ _ c.args.tokens.now c.args.at c.in-Ok.after c.in-Ok-body.end c.in-Err-else_part.fault c.requires.lead (omega arith) c.in-Ok.ensures.ok c.in-Ok-body.ensures.ok c.in-Err-else_part.ensures.err

pub branch-returns-in-Ok-else_part-clause-ok : goal.branch-returns-in-Ok-else_part-clause-ok
branch-returns-in-Ok-else_part-clause-ok t c =
    if_read c.args.depth c.args.tokens.now c.args.at c.in-Ok.after c.in-Ok-body.end c.in-Ok-else_part.next c.in-Ok.test c.in-Ok-body.yes c.in-Ok-else_part.no c.requires.lead (omega arith) c.in-Ok.ensures.ok c.in-Ok-body.ensures.ok c.in-Ok-else_part.ensures.ok

pub body-returns-in-Ok-clause-ok : goal.body-returns-in-Ok-clause-ok
body-returns-in-Ok-clause-ok t c =
    block_body c.args.depth c.args.tokens.now c.args.at c.in-Ok.next (stmt_forms c.in-Ok.stmts) (sym c.in-Block.ensures.value) c.in-Ok.ensures.ok

pub body-returns-in-Err-clause-err : goal.body-returns-in-Err-clause-err
body-returns-in-Err-clause-err t c =
    block_body_fails c.args.depth c.args.tokens.now c.args.at c.in-Err.fault (sym c.in-Block.ensures.value) c.in-Err.ensures.err

pub body-returns-in_ok-only-in-Ok-assignment-clause-ok : goal.body-returns-in_ok-only-in-Ok-assignment-clause-ok
body-returns-in_ok-only-in-Ok-assignment-clause-ok t c =
    rw c.in_ok-only-in-Ok-assignment.ensures.ok (assign_body c.args.depth c.args.tokens.now c.args.at c.in-Ok-assignment.next (stmt_form c.in-Ok-assignment.stmt) (sym c.in-Assign.ensures.value) c.in-Ok-assignment.ensures.ok)

pub body-returns-in-Err-assignment-clause-err : goal.body-returns-in-Err-assignment-clause-err
body-returns-in-Err-assignment-clause-err t c =
    assign_body_fails c.args.depth c.args.tokens.now c.args.at c.in-Err-assignment.fault (sym c.in-Assign.ensures.value) c.in-Err-assignment.ensures.err

pub body-returns-in-If-clause-err : goal.body-returns-in-If-clause-err
body-returns-in-If-clause-err t c =
    no_body_if c.args.depth c.args.tokens.now c.args.at (sym c.in-If.ensures.value)

pub body-returns-in-Other-clause-err : goal.body-returns-in-Other-clause-err
body-returns-in-Other-clause-err t c =
    no_body_other c.args.depth c.args.tokens.now c.args.at (sym c.in-Other.ensures.value)

pub else_part-returns-then-not-is_fixed-clause-ok : goal.else_part-returns-then-not-is_fixed-clause-ok
else_part-returns-then-not-is_fixed-clause-ok t c =
    rw c.new.ensures (passes_else c.args.depth c.args.tokens.now c.args.at c.requires.within (sym c.if-not-is_fixed.ensures.value))

pub else_part-returns-in_ok-only-in-Ok-clause-ok : goal.else_part-returns-in_ok-only-in-Ok-clause-ok
else_part-returns-in_ok-only-in-Ok-clause-ok t c =
    rw c.in_ok-only-in-Ok.ensures.ok (passes_stmt c.args.depth c.args.tokens.now c.args.at c.in-Ok.next (stmt_form c.in-Ok.stmt) c.requires.depth (sym c.if-not-is_fixed.ensures.value) (sym c.if-begins_statement.ensures.value) c.in-Ok.ensures.ok)

pub else_part-returns-in-Err-clause-err : goal.else_part-returns-in-Err-clause-err
else_part-returns-in-Err-clause-err t c =
    else_stmt_fails c.args.depth c.args.tokens.now c.args.at c.in-Err.fault c.requires.depth (sym c.if-not-is_fixed.ensures.value) (sym c.if-begins_statement.ensures.value) c.in-Err.ensures.err

pub else_part-returns-in-Ok-block-clause-ok : goal.else_part-returns-in-Ok-block-clause-ok
else_part-returns-in-Ok-block-clause-ok t c =
    passes_block c.args.depth c.args.tokens.now c.args.at c.in-Ok-block.next (stmt_forms c.in-Ok-block.stmts) c.requires.depth (sym c.if-not-is_fixed.ensures.value) (sym c.if-begins_statement.ensures.value) c.in-Ok-block.ensures.ok

pub else_part-returns-in-Err-block-clause-err : goal.else_part-returns-in-Err-block-clause-err
else_part-returns-in-Err-block-clause-err t c =
    else_block_fails c.args.depth c.args.tokens.now c.args.at c.in-Err-block.fault c.requires.depth (sym c.if-not-is_fixed.ensures.value) (sym c.if-begins_statement.ensures.value) c.in-Err-block.ensures.err

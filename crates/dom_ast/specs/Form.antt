-- Syntax trees as plain data: what a tree says, without the places in memory where it is kept.
use Rattle.std.specs.Prelude.{ℕ, List, [], ◌∷◌, map, Option, Some, None}
use Rattle.dom_words.specs.declared.operators.BinOp.{BinOp}
use Rattle.dom_words.specs.declared.operators.UnOp.{UnOp}
use Rattle.dom_ast.specs.declared.expr.Expr.{Expr}
use Rattle.dom_ast.specs.declared.expr.Expr.TheFolds.{fold-Expr}
use Rattle.dom_ast.specs.declared.expr.Expr.TheOpen.{Expr-F}
use Rattle.dom_ast.specs.declared.stmt.Stmt.{Stmt}
use Rattle.dom_ast.specs.declared.stmt.Stmt.TheFolds.{fold-Stmt}
use Rattle.dom_ast.specs.declared.stmt.Stmt.TheOpen.{Stmt-F}
use Rattle.dom_ast.specs.declared.stmt.Target.{Target}
use Rattle.dom_ast.specs.declared.stmt.Target.TheVariants as target
use Rattle.dom_ast.specs.declared.program.Head.{Head}
use Rattle.dom_ast.specs.declared.program.Transaction.{Transaction}
use Rattle.dom_ast.specs.declared.program.Program.{Program}

-- An expression as in the tree. An offset stands before what it is the offset of. A chain and a conditional have none of
-- their own: they begin where their first part does.
mutual
  pub data ExprForm : Type 0 where
    number : ℕ → ℕ → ExprForm
    word : ℕ → List ℕ → ExprForm
    field : ℕ → List ℕ → ℕ → List ℕ → ExprForm
    index : ℕ → List ℕ → ExprForm → ExprForm
    call : ℕ → List ℕ → ExprForms → ExprForm
    un : ℕ → UnOp → ExprForm → ExprForm
    chain : ExprForm → OpForms → ExprForm
    choice : ExprForm → ExprForm → ExprForm → ExprForm

  pub data ExprForms : Type 0 where
    no_exprs : ExprForms
    expr : ExprForm → ExprForms → ExprForms

  pub data OpForms : Type 0 where
    no_ops : OpForms
    op : BinOp → ExprForm → OpForms → OpForms

-- what an assignment writes; its offset is that of the assignment
pub data TargetForm : Type 0 where
  to_word : List ℕ → TargetForm
  to_field : List ℕ → ℕ → List ℕ → TargetForm
  to_index : List ℕ → ExprForm → TargetForm

-- an assignment with its offset, or an `if` with its condition and its two branches
mutual
  pub data StmtForm : Type 0 where
    assign : ℕ → TargetForm → ExprForm → StmtForm
    branch : ExprForm → StmtForms → StmtForms → StmtForm

  pub data StmtForms : Type 0 where
    no_stmts : StmtForms
    stmt : StmtForm → StmtForms → StmtForms

-- a transaction: the name of the struct in its head, which is its tag, and the name of its parameter, each with its offset;
-- its guard, if it has one; and its body
pub record TransactionForm : Type 0 where
  pub tag_at : ℕ
  pub tag : List ℕ
  pub param_at : ℕ
  pub param : List ℕ
  pub guard : Option ExprForm
  pub body : StmtForms

-- heads hold no tree, so they are their own form
pub record ProgramForm : Type 0 where
  pub heads : List Head
  pub transactions : List TransactionForm

-- lists of trees, in the form that they have inside of trees
abbrev pub exprs_of : List ExprForm → ExprForms
exprs_of [] = no_exprs
exprs_of (e ∷ es) = expr e (exprs_of es)

abbrev pub ops_of : List (BinOp × ExprForm) → OpForms
ops_of [] = no_ops
ops_of (p ∷ ps) = op p.0 p.1 (ops_of ps)

abbrev pub stmts_of : List StmtForm → StmtForms
stmts_of [] = no_stmts
stmts_of (s ∷ ss) = stmt s (stmts_of ss)

-- one level of an expression, with the form of each part in its place
abbrev pub expr_step : Expr-F ExprForm → ExprForm
expr_step (Expr-F.Number at w) = number at w
expr_step (Expr-F.Word at name) = word at name
expr_step (Expr-F.Field at base field_at name) = field at base field_at name
expr_step (Expr-F.Index at array e) = index at array e.value
expr_step (Expr-F.Call at unit args) = call at unit (exprs_of args)
expr_step (Expr-F.Un at o arg) = un at o arg.value
expr_step (Expr-F.Chain first rest) = chain first.value (ops_of rest)
expr_step (Expr-F.Cond test a b) = choice test.value a.value b.value

-- The form of an expression, of expressions, of operators with their operands, and so on up to that of a program.
abbrev pub form : Expr → ExprForm
form = fold-Expr ExprForm expr_step

abbrev pub forms : List Expr → ExprForms
forms es = exprs_of (map form es)

abbrev pub target_form : Target → TargetForm
target_form (target.Word name) = to_word name
target_form (target.Field base field_at name) = to_field base field_at name
target_form (target.Index array e) = to_index array (form e)

-- one level of a statement
abbrev pub stmt_step : Stmt-F StmtForm → StmtForm
stmt_step (Stmt-F.Assign at t value) = assign at (target_form t) (form value)
stmt_step (Stmt-F.If test a b) = branch (form test) (stmts_of a) (stmts_of b)

abbrev pub stmt_form : Stmt → StmtForm
stmt_form = fold-Stmt StmtForm stmt_step

abbrev pub stmt_forms : List Stmt → StmtForms
stmt_forms ss = stmts_of (map stmt_form ss)

abbrev pub guard_form : Option Expr → Option ExprForm
guard_form None = None
guard_form (Some e) = Some (form e)

abbrev pub transaction_form : Transaction → TransactionForm
transaction_form t = record { tag_at = t.tag_at; tag = t.tag; param_at = t.param_at; param = t.param; guard = guard_form t.guard; body = stmt_forms t.body }

abbrev pub program_form : Program → ProgramForm
program_form p = record { heads = p.heads; transactions = map transaction_form p.transactions }

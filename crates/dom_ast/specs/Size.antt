-- How large a program is: its statements and expression nodes, and how deep its `if`s are nested.
use Rattle.std.specs.Prelude.{ℕ, zero, suc, ◌+◌, Bool, true, false, ◌&&◌, List, [], ◌∷◌, Option, Some, None}
use Rattle.dom_ast.specs.Form.{ExprForm, number, word, field, index, call, un, chain, choice, ExprForms, no_exprs, expr, OpForms, no_ops, op, TargetForm, to_word, to_field, to_index, StmtForm, assign, branch, StmtForms, no_stmts, stmt, TransactionForm, ProgramForm}

-- expression nodes
abbrev mutual
  pub expr_nodes : ExprForm → ℕ
  expr_nodes (number p w) = 1
  expr_nodes (word p n) = 1
  expr_nodes (field p n q f) = 1
  expr_nodes (index p n e) = suc (expr_nodes e)
  expr_nodes (call p n es) = suc (exprs_nodes es)
  expr_nodes (un p o e) = suc (expr_nodes e)
  expr_nodes (chain e fs) = suc (expr_nodes e + ops_nodes fs)
  expr_nodes (choice e a b) = suc (expr_nodes e + (expr_nodes a + expr_nodes b))

  pub exprs_nodes : ExprForms → ℕ
  exprs_nodes no_exprs = 0
  exprs_nodes (expr e es) = expr_nodes e + exprs_nodes es

  pub ops_nodes : OpForms → ℕ
  ops_nodes no_ops = 0
  ops_nodes (op o e fs) = expr_nodes e + ops_nodes fs

-- the expression nodes of a target: those of its index
abbrev pub target_nodes : TargetForm → ℕ
target_nodes (to_word n) = 0
target_nodes (to_field n q f) = 0
target_nodes (to_index n e) = expr_nodes e

-- statements and the expression nodes in them
abbrev mutual
  pub stmt_nodes : StmtForm → ℕ
  stmt_nodes (assign p t e) = suc (target_nodes t + expr_nodes e)
  stmt_nodes (branch e a b) = suc (expr_nodes e + (stmts_nodes a + stmts_nodes b))

  pub stmts_nodes : StmtForms → ℕ
  stmts_nodes no_stmts = 0
  stmts_nodes (stmt a ss) = stmt_nodes a + stmts_nodes ss

-- the expression nodes of a guard, if there is one
abbrev pub guard_nodes : Option ExprForm → ℕ
guard_nodes None = 0
guard_nodes (Some e) = expr_nodes e

-- the statements and expression nodes of transactions
abbrev pub transactions_nodes : List TransactionForm → ℕ
transactions_nodes [] = 0
transactions_nodes (t ∷ ts) = (guard_nodes t.guard + stmts_nodes t.body) + transactions_nodes ts

-- the statements and expression nodes of a program
abbrev pub program_nodes : ProgramForm → ℕ
program_nodes p = transactions_nodes p.transactions

-- whether the `if`s in statements are nested at most d deep
abbrev mutual
  pub stmt_nested : ℕ → StmtForm → Bool
  stmt_nested d (assign p t e) = true
  stmt_nested zero (branch e a b) = false
  stmt_nested (suc d) (branch e a b) = stmts_nested d a && stmts_nested d b

  pub stmts_nested : ℕ → StmtForms → Bool
  stmts_nested d no_stmts = true
  stmts_nested d (stmt a ss) = stmt_nested d a && stmts_nested d ss

-- the same of a transaction, where a guard counts as one nesting
abbrev pub guarded_nested : ℕ → Option ExprForm → StmtForms → Bool
guarded_nested d None ss = stmts_nested d ss
guarded_nested zero (Some e) ss = false
guarded_nested (suc d) (Some e) ss = stmts_nested d ss

-- the same of all transactions
abbrev pub transactions_nested : ℕ → List TransactionForm → Bool
transactions_nested d [] = true
transactions_nested d (t ∷ ts) = guarded_nested d t.guard t.body && transactions_nested d ts

-- the same of a program
abbrev pub program_nested : ℕ → ProgramForm → Bool
program_nested d p = transactions_nested d p.transactions

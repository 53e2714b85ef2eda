-- The equations of the forms of trees.
use Rattle.std.proofs.Common.{◌≡◌, ℕ, List, sym, ap, ◌∙◌}
use Rattle.std.specs.Prelude.{Box}
use Rattle.std.specs.declared.alloc.Global.{Global}
use Rattle.dom_words.specs.declared.operators.BinOp.{BinOp}
use Rattle.dom_words.specs.declared.operators.UnOp.{UnOp}
use Rattle.dom_ast.specs.declared.expr.Expr.{Expr}
use Rattle.dom_ast.specs.declared.expr.Expr.TheVariants.{Number, Word, Field, Call, rolls-Number, rolls-Word, rolls-Field, rolls-Call}
use Rattle.dom_ast.specs.declared.expr.Expr.TheViews.{Index, Un, Chain, Cond, rolls-Index, rolls-Un, rolls-Chain, rolls-Cond}
use Rattle.dom_ast.specs.declared.expr.Expr.TheFolds.{fold-roll-Expr}
use Rattle.dom_ast.specs.declared.expr.Expr.TheOpen.{Expr-F}
use Rattle.dom_ast.specs.declared.stmt.Stmt.{Stmt}
use Rattle.dom_ast.specs.declared.stmt.Stmt.TheVariants.{Assign, If, rolls-Assign, rolls-If}
use Rattle.dom_ast.specs.declared.stmt.Stmt.TheFolds.{fold-roll-Stmt}
use Rattle.dom_ast.specs.declared.stmt.Stmt.TheOpen.{Stmt-F}
use Rattle.dom_ast.specs.declared.stmt.Target.{Target}
use Rattle.dom_ast.specs.Form.{StmtForm, assign, branch, stmt_form, stmt_forms, stmt_step, target_form, ExprForm, number, word, field, index, call, un, chain, choice, form, forms, expr_step}
use Rattle.dom_ast.specs.inner.ExprOps.{op_forms}

pub form_number : (p w : ℕ) → form (Number p w) ≡ number p w
form_number p w = ap form (sym (rolls-Number p w)) ∙ fold-roll-Expr ExprForm expr_step (Expr-F.Number p w)

pub form_word : (p : ℕ) (n : List ℕ) → form (Word p n) ≡ word p n
form_word p n = ap form (sym (rolls-Word p n)) ∙ fold-roll-Expr ExprForm expr_step (Expr-F.Word p n)

pub form_field : (p : ℕ) (n : List ℕ) (q : ℕ) (f : List ℕ) → form (Field p n q f) ≡ field p n q f
form_field p n q f = ap form (sym (rolls-Field p n q f)) ∙ fold-roll-Expr ExprForm expr_step (Expr-F.Field p n q f)

pub form_call : (p : ℕ) (n : List ℕ) (args : List Expr) → form (Call p n args) ≡ call p n (forms args)
form_call p n args = ap form (sym (rolls-Call p n args)) ∙ fold-roll-Expr ExprForm expr_step (Expr-F.Call p n args)

pub form_index : (p : ℕ) (n : List ℕ) (b : Box Expr Global) (e : Expr) → b.value ≡ e → form (Index p n b) ≡ index p n (form e)
form_index p n b e is =
    ap form (sym (rolls-Index p n b)) ∙ fold-roll-Expr ExprForm expr_step (Expr-F.Index p n b) ∙ ap (λ x. index p n (form x)) is

pub form_un : (p : ℕ) (o : UnOp) (b : Box Expr Global) (e : Expr) → b.value ≡ e → form (Un p o b) ≡ un p o (form e)
form_un p o b e is =
    ap form (sym (rolls-Un p o b)) ∙ fold-roll-Expr ExprForm expr_step (Expr-F.Un p o b) ∙ ap (λ x. un p o (form x)) is

pub form_chain : (b : Box Expr Global) (rest : List (BinOp × Expr)) (e : Expr) → b.value ≡ e → form (Chain b rest) ≡ chain (form e) (op_forms rest)
form_chain b rest e is =
    ap form (sym (rolls-Chain b rest)) ∙ fold-roll-Expr ExprForm expr_step (Expr-F.Chain b rest) ∙ ap (λ x. chain (form x) (op_forms rest)) is

pub form_choice : (a b c : Box Expr Global) (x y z : Expr) → a.value ≡ x → b.value ≡ y → c.value ≡ z → form (Cond a b c) ≡ choice (form x) (form y) (form z)
form_choice a b c x y z p q r =
    ap form (sym (rolls-Cond a b c)) ∙ fold-roll-Expr ExprForm expr_step (Expr-F.Cond a b c) ∙ ap (λ e. choice (form e) (form b.value) (form c.value)) p ∙ ap (λ e. choice (form x) (form e) (form c.value)) q ∙ ap (λ e. choice (form x) (form y) (form e)) r

pub form_assign : (p : ℕ) (t : Target) (e : Expr) → stmt_form (Assign p t e) ≡ assign p (target_form t) (form e)
form_assign p t e = ap stmt_form (sym (rolls-Assign p t e)) ∙ fold-roll-Stmt StmtForm stmt_step (Stmt-F.Assign p t e)

pub form_if : (e : Expr) (a b : List Stmt) → stmt_form (If e a b) ≡ branch (form e) (stmt_forms a) (stmt_forms b)
form_if e a b = ap stmt_form (sym (rolls-If e a b)) ∙ fold-roll-Stmt StmtForm stmt_step (Stmt-F.If e a b)

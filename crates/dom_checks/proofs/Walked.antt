-- Loops over arguments, operands and statements: what of a walk is left.
use Rattle.std.proofs.Common.{◌≡◌, ℕ, zero, suc, ◌+◌, Bool, List, [], ◌∷◌, ◌++◌, length, drop, map, Some, None, refl, sym, ap, ◌∙◌, append_assoc, add-one}
use Rattle.std.proofs.lemmas.List.{append-nil, map-append}
use Rattle.std.proofs.lemmas.Grind.{flat_map-append}
use Rattle.std.proofs.lemmas.Option.{none-some}
use Rattle.std.specs.List.{slice_get}
use Rattle.dom_words.specs.declared.operators.BinOp.{BinOp}
use Rattle.dom_ast.specs.declared.checked.Act.{Act}
use Rattle.dom_ast.specs.declared.expr.Expr.{Expr}
use Rattle.dom_ast.specs.declared.part.Part.{Part}
use Rattle.dom_ast.specs.declared.stmt.Stmt.{Stmt}
use Rattle.dom_ast.specs.Form as syntax
use Rattle.dom_ast.specs.inner.ExprOps as expr_ops
use Rattle.dom_ast.specs.Resolved as tree
use Rattle.dom_ast.specs.inner.PartOps as part_ops
use Rattle.dom_ast.specs.Kept.{Mention, act_visits, acts_visits, mentions_in, ops_mentions, part_mentions, parts_mentions, visit_mentions}
use Rattle.dom_checks.specs.declared.faults.CheckFault.{CheckFault}
use Rattle.dom_checks.specs.Answers.{IsFirst}
use Rattle.dom_checks.specs.Resolve.{act_of, acts_of, ops_of, part_of, parts_of}
use Rattle.dom_checks.specs.Scope.{Scope}
use Rattle.dom_checks.specs.Walk.{expr_checks, exprs_checks, first_fault, ops_checks, stmt_checks, stmts_checks}
use Rattle.dom_checks.proofs.FirstFaults.{faults_behind, first_front, first_same}

-- what is left at an item is the item and what is left after it
left_from : {X : Type 0} (xs : List X) (i : ℕ) (x : X) → slice_get xs i ≡ Some x → drop i xs ≡ x ∷ drop (suc i) xs
left_from [] i x is = absurd (none-some x is)
left_from (y ∷ ys) zero x is =
    let same : y ≡ x = cc in
    ap (λ z. z ∷ ys) same
left_from (y ∷ ys) (suc i) x is = left_from ys i x is

left_at : {X : Type 0} (xs : List X) (i : ℕ) (x : X) → slice_get xs i ≡ Some x → drop i xs ≡ x ∷ drop (i + 1) xs
left_at xs i x is = rw add-one (left_from xs i x is)

all_left : {X : Type 0} (xs : List X) → drop (length xs) xs ≡ []
all_left [] = refl
all_left (x ∷ xs) = all_left xs

-- Arguments.

abbrev pub args_joined : List tree.PartForm → tree.PartForms → tree.PartForms
args_joined [] rest = rest
args_joined (p ∷ ps) rest = tree.part p (args_joined ps rest)

args_joined-push : (ps : List tree.PartForm) (p : tree.PartForm) (rest : tree.PartForms) → args_joined (ps ++ p ∷ []) rest ≡ args_joined ps (tree.part p rest)
args_joined-push [] p rest = refl
args_joined-push (q ∷ ps) p rest = ap (λ (r : tree.PartForms). tree.part q r) (args_joined-push ps p rest)

args_joined-all : (ps : List tree.PartForm) → args_joined ps tree.no_parts ≡ tree.parts_of ps
args_joined-all [] = refl
args_joined-all (p ∷ ps) = ap (λ (r : tree.PartForms). tree.part p r) (args_joined-all ps)

-- of all arguments these are read and resolved, and these are left
pub record ArgsLeft (g : Bool) (scope : Scope) (before now : List Mention) (read : List tree.PartForm) (all left : syntax.ExprForms) : Type 0 where
  pub form : args_joined read (parts_of scope left) ≡ parts_of scope all
  pub checks : first_fault (exprs_checks g scope before all) ≡ first_fault (exprs_checks g scope now left)
  pub seen : before ++ parts_mentions (parts_of scope all) ≡ now ++ parts_mentions (parts_of scope left)

pub args_start : (g : Bool) (scope : Scope) (before : List Mention) (xs : List Expr) → ArgsLeft g scope before before [] (syntax.forms xs) (syntax.forms xs)
args_start g scope before xs = record { form = refl; checks = refl; seen = refl }

args_next : (g : Bool) (scope : Scope) (before now after : List Mention) (read : List tree.PartForm) (q : tree.PartForm) (all : syntax.ExprForms) (e : syntax.ExprForm) (rest : syntax.ExprForms) → ArgsLeft g scope before now read all (syntax.expr e rest)
    → q ≡ part_of scope e → first_fault (expr_checks g scope now e) ≡ None → after ≡ now ++ part_mentions (part_of scope e) → ArgsLeft g scope before after (read ++ q ∷ []) all rest
args_next g scope before now after read q all e rest left is holds seen = record {
  form = args_joined-push read q (parts_of scope rest) ∙ ap (λ (p : tree.PartForm). args_joined read (tree.part p (parts_of scope rest))) is ∙ left.form;
  checks =
      left.checks ∙ faults_behind (expr_checks g scope now e) (exprs_checks g scope (now ++ part_mentions (part_of scope e)) rest) holds
      ∙ ap (λ (ms : List Mention). first_fault (exprs_checks g scope ms rest)) (sym seen);
  seen = left.seen ∙ sym (append_assoc now (part_mentions (part_of scope e)) (parts_mentions (parts_of scope rest))) ∙ ap (λ (ms : List Mention). ms ++ parts_mentions (parts_of scope rest)) (sym seen);
}

args_at : (xs : List Expr) (i : ℕ) (x : Expr) → slice_get xs i ≡ Some x → syntax.forms (drop i xs) ≡ syntax.expr (syntax.form x) (syntax.forms (drop (i + 1) xs))
args_at xs i x is = ap syntax.forms (left_at xs i x is)

-- one more is read
pub args_more : (g : Bool) (scope : Scope) (before now after : List Mention) (read new : List Part) (q : Part) (xs : List Expr) (i : ℕ) (x : Expr) → slice_get xs i ≡ Some x
    → ArgsLeft g scope before now (map tree.form read) (syntax.forms xs) (syntax.forms (drop i xs)) → new ≡ read ++ q ∷ [] → tree.form q ≡ part_of scope (syntax.form x)
    → first_fault (expr_checks g scope now (syntax.form x)) ≡ None → after ≡ now ++ part_mentions (part_of scope (syntax.form x)) → ArgsLeft g scope before after (map tree.form new) (syntax.forms xs) (syntax.forms (drop (i + 1) xs))
args_more g scope before now after read new q xs i x there left is_new is holds seen =
    rw (is_new, map-append tree.form read (q ∷ [])) (
    args_next g scope before now after (map tree.form read) (tree.form q) (syntax.forms xs) (syntax.form x) (syntax.forms (drop (i + 1) xs)) (rw (args_at xs i x there) at left) is holds seen
    )

-- the fault of the next is the first
pub args_fault : (g : Bool) (scope : Scope) (before now : List Mention) (read : List Part) (f : CheckFault) (xs : List Expr) (i : ℕ) (x : Expr) → slice_get xs i ≡ Some x
    → ArgsLeft g scope before now (map tree.form read) (syntax.forms xs) (syntax.forms (drop i xs)) → IsFirst f (expr_checks g scope now (syntax.form x)) → IsFirst f (exprs_checks g scope before (syntax.forms xs))
args_fault g scope before now read f xs i x there left first =
    let more = exprs_checks g scope (now ++ part_mentions (part_of scope (syntax.form x))) (syntax.forms (drop (i + 1) xs)) in
    first_same f (expr_checks g scope now (syntax.form x) ++ more) (exprs_checks g scope before (syntax.forms xs))
    (ap (λ (es : syntax.ExprForms). first_fault (exprs_checks g scope now es)) (sym (args_at xs i x there)) ∙ sym left.checks)
    (first_front f (expr_checks g scope now (syntax.form x)) more first)

args_end : (g : Bool) (scope : Scope) (before now : List Mention) (read : List Part) (xs : List Expr) (i : ℕ) → i ≡ length xs → ArgsLeft g scope before now (map tree.form read) (syntax.forms xs) (syntax.forms (drop i xs)) → ArgsLeft g scope before now (map tree.form read) (syntax.forms xs) syntax.no_exprs
args_end g scope before now read xs i is left =
    rw (ap syntax.forms (ap (λ (k : ℕ). drop k xs) is ∙ all_left xs)) at left

-- all are read
pub args_form : (g : Bool) (scope : Scope) (before now : List Mention) (read : List Part) (xs : List Expr) (i : ℕ) → i ≡ length xs → ArgsLeft g scope before now (map tree.form read) (syntax.forms xs) (syntax.forms (drop i xs)) → tree.parts_of (map tree.form read) ≡ parts_of scope (syntax.forms xs)
args_form g scope before now read xs i is left = sym (args_joined-all (map tree.form read)) ∙ (args_end g scope before now read xs i is left).form

pub args_hold : (g : Bool) (scope : Scope) (before now : List Mention) (read : List Part) (xs : List Expr) (i : ℕ) → i ≡ length xs → ArgsLeft g scope before now (map tree.form read) (syntax.forms xs) (syntax.forms (drop i xs)) → first_fault (exprs_checks g scope before (syntax.forms xs)) ≡ None
args_hold g scope before now read xs i is left = (args_end g scope before now read xs i is left).checks

pub args_seen : (g : Bool) (scope : Scope) (before now : List Mention) (read : List Part) (xs : List Expr) (i : ℕ) → i ≡ length xs → ArgsLeft g scope before now (map tree.form read) (syntax.forms xs) (syntax.forms (drop i xs)) → now ≡ before ++ parts_mentions (parts_of scope (syntax.forms xs))
args_seen g scope before now read xs i is left = sym (append-nil now) ∙ sym (args_end g scope before now read xs i is left).seen

-- Operands.

abbrev pub ops_joined : List (BinOp × tree.PartForm) → tree.OpForms → tree.OpForms
ops_joined [] rest = rest
ops_joined (p ∷ ps) rest = tree.op p.0 p.1 (ops_joined ps rest)

ops_joined-push : (ps : List (BinOp × tree.PartForm)) (p : (BinOp × tree.PartForm)) (rest : tree.OpForms) → ops_joined (ps ++ p ∷ []) rest ≡ ops_joined ps (tree.op p.0 p.1 rest)
ops_joined-push [] p rest = refl
ops_joined-push (q ∷ ps) p rest = ap (λ (r : tree.OpForms). tree.op q.0 q.1 r) (ops_joined-push ps p rest)

ops_joined-all : (ps : List (BinOp × tree.PartForm)) → ops_joined ps tree.no_ops ≡ tree.ops_of ps
ops_joined-all [] = refl
ops_joined-all (p ∷ ps) = ap (λ (r : tree.OpForms). tree.op p.0 p.1 r) (ops_joined-all ps)

-- of all operands after the first these are read and resolved, and these are left
pub record OpsLeft (g : Bool) (scope : Scope) (before now : List Mention) (read : List (BinOp × tree.PartForm)) (all left : syntax.OpForms) : Type 0 where
  pub form : ops_joined read (ops_of scope left) ≡ ops_of scope all
  pub checks : first_fault (ops_checks g scope before all) ≡ first_fault (ops_checks g scope now left)
  pub seen : before ++ ops_mentions (ops_of scope all) ≡ now ++ ops_mentions (ops_of scope left)

pub ops_start : (g : Bool) (scope : Scope) (before : List Mention) (xs : List (BinOp × Expr)) → OpsLeft g scope before before [] (expr_ops.op_forms xs) (expr_ops.op_forms xs)
ops_start g scope before xs = record { form = refl; checks = refl; seen = refl }

ops_next : (g : Bool) (scope : Scope) (before now after : List Mention) (read : List (BinOp × tree.PartForm)) (q : (BinOp × tree.PartForm)) (all : syntax.OpForms) (o : BinOp) (e : syntax.ExprForm) (rest : syntax.OpForms) → OpsLeft g scope before now read all (syntax.op o e rest)
    → q ≡ (o, part_of scope e) → first_fault (expr_checks g scope now e) ≡ None → after ≡ now ++ part_mentions (part_of scope e) → OpsLeft g scope before after (read ++ q ∷ []) all rest
ops_next g scope before now after read q all o e rest left is holds seen = record {
  form = ops_joined-push read q (ops_of scope rest) ∙ ap (λ (p : (BinOp × tree.PartForm)). ops_joined read (tree.op p.0 p.1 (ops_of scope rest))) is ∙ left.form;
  checks =
      left.checks ∙ faults_behind (expr_checks g scope now e) (ops_checks g scope (now ++ part_mentions (part_of scope e)) rest) holds
      ∙ ap (λ (ms : List Mention). first_fault (ops_checks g scope ms rest)) (sym seen);
  seen = left.seen ∙ sym (append_assoc now (part_mentions (part_of scope e)) (ops_mentions (ops_of scope rest))) ∙ ap (λ (ms : List Mention). ms ++ ops_mentions (ops_of scope rest)) (sym seen);
}

ops_at : (xs : List (BinOp × Expr)) (i : ℕ) (x : (BinOp × Expr)) → slice_get xs i ≡ Some x → expr_ops.op_forms (drop i xs) ≡ syntax.op x.0 (syntax.form x.1) (expr_ops.op_forms (drop (i + 1) xs))
ops_at xs i x is = ap expr_ops.op_forms (left_at xs i x is)

-- one more is read
pub ops_more : (g : Bool) (scope : Scope) (before now after : List Mention) (read new : List (BinOp × Part)) (q : (BinOp × Part)) (xs : List (BinOp × Expr)) (i : ℕ) (x : (BinOp × Expr)) → slice_get xs i ≡ Some x
    → OpsLeft g scope before now (map part_ops.op_form read) (expr_ops.op_forms xs) (expr_ops.op_forms (drop i xs)) → new ≡ read ++ q ∷ [] → part_ops.op_form q ≡ (x.0, part_of scope (syntax.form x.1))
    → first_fault (expr_checks g scope now (syntax.form x.1)) ≡ None → after ≡ now ++ part_mentions (part_of scope (syntax.form x.1)) → OpsLeft g scope before after (map part_ops.op_form new) (expr_ops.op_forms xs) (expr_ops.op_forms (drop (i + 1) xs))
ops_more g scope before now after read new q xs i x there left is_new is holds seen =
    rw (is_new, map-append part_ops.op_form read (q ∷ [])) (
    ops_next g scope before now after (map part_ops.op_form read) (part_ops.op_form q) (expr_ops.op_forms xs) x.0 (syntax.form x.1) (expr_ops.op_forms (drop (i + 1) xs)) (rw (ops_at xs i x there) at left) is holds seen
    )

-- the fault of the next is the first
pub ops_fault : (g : Bool) (scope : Scope) (before now : List Mention) (read : List (BinOp × Part)) (f : CheckFault) (xs : List (BinOp × Expr)) (i : ℕ) (x : (BinOp × Expr)) → slice_get xs i ≡ Some x
    → OpsLeft g scope before now (map part_ops.op_form read) (expr_ops.op_forms xs) (expr_ops.op_forms (drop i xs)) → IsFirst f (expr_checks g scope now (syntax.form x.1)) → IsFirst f (ops_checks g scope before (expr_ops.op_forms xs))
ops_fault g scope before now read f xs i x there left first =
    let more = ops_checks g scope (now ++ part_mentions (part_of scope (syntax.form x.1))) (expr_ops.op_forms (drop (i + 1) xs)) in
    first_same f (expr_checks g scope now (syntax.form x.1) ++ more) (ops_checks g scope before (expr_ops.op_forms xs))
    (ap (λ (es : syntax.OpForms). first_fault (ops_checks g scope now es)) (sym (ops_at xs i x there)) ∙ sym left.checks)
    (first_front f (expr_checks g scope now (syntax.form x.1)) more first)

ops_end : (g : Bool) (scope : Scope) (before now : List Mention) (read : List (BinOp × Part)) (xs : List (BinOp × Expr)) (i : ℕ) → i ≡ length xs → OpsLeft g scope before now (map part_ops.op_form read) (expr_ops.op_forms xs) (expr_ops.op_forms (drop i xs)) → OpsLeft g scope before now (map part_ops.op_form read) (expr_ops.op_forms xs) syntax.no_ops
ops_end g scope before now read xs i is left =
    rw (ap expr_ops.op_forms (ap (λ (k : ℕ). drop k xs) is ∙ all_left xs)) at left

-- all are read
pub ops_form : (g : Bool) (scope : Scope) (before now : List Mention) (read : List (BinOp × Part)) (xs : List (BinOp × Expr)) (i : ℕ) → i ≡ length xs → OpsLeft g scope before now (map part_ops.op_form read) (expr_ops.op_forms xs) (expr_ops.op_forms (drop i xs)) → tree.ops_of (map part_ops.op_form read) ≡ ops_of scope (expr_ops.op_forms xs)
ops_form g scope before now read xs i is left = sym (ops_joined-all (map part_ops.op_form read)) ∙ (ops_end g scope before now read xs i is left).form

pub ops_hold : (g : Bool) (scope : Scope) (before now : List Mention) (read : List (BinOp × Part)) (xs : List (BinOp × Expr)) (i : ℕ) → i ≡ length xs → OpsLeft g scope before now (map part_ops.op_form read) (expr_ops.op_forms xs) (expr_ops.op_forms (drop i xs)) → first_fault (ops_checks g scope before (expr_ops.op_forms xs)) ≡ None
ops_hold g scope before now read xs i is left = (ops_end g scope before now read xs i is left).checks

pub ops_seen : (g : Bool) (scope : Scope) (before now : List Mention) (read : List (BinOp × Part)) (xs : List (BinOp × Expr)) (i : ℕ) → i ≡ length xs → OpsLeft g scope before now (map part_ops.op_form read) (expr_ops.op_forms xs) (expr_ops.op_forms (drop i xs)) → now ≡ before ++ ops_mentions (ops_of scope (expr_ops.op_forms xs))
ops_seen g scope before now read xs i is left = sym (append-nil now) ∙ sym (ops_end g scope before now read xs i is left).seen

abbrev pub acts_mentions : tree.ActForms → List Mention
acts_mentions acts = mentions_in (acts_visits acts)

-- Statements.

abbrev pub stmts_joined : List tree.ActForm → tree.ActForms → tree.ActForms
stmts_joined [] rest = rest
stmts_joined (p ∷ ps) rest = tree.act p (stmts_joined ps rest)

stmts_joined-push : (ps : List tree.ActForm) (p : tree.ActForm) (rest : tree.ActForms) → stmts_joined (ps ++ p ∷ []) rest ≡ stmts_joined ps (tree.act p rest)
stmts_joined-push [] p rest = refl
stmts_joined-push (q ∷ ps) p rest = ap (λ (r : tree.ActForms). tree.act q r) (stmts_joined-push ps p rest)

stmts_joined-all : (ps : List tree.ActForm) → stmts_joined ps tree.no_acts ≡ tree.acts_of ps
stmts_joined-all [] = refl
stmts_joined-all (p ∷ ps) = ap (λ (r : tree.ActForms). tree.act p r) (stmts_joined-all ps)

-- of all statements these are read and resolved, and these are left
pub record StmtsLeft (scope : Scope) (before now : List Mention) (read : List tree.ActForm) (all left : syntax.StmtForms) : Type 0 where
  pub form : stmts_joined read (acts_of scope left) ≡ acts_of scope all
  pub checks : first_fault (stmts_checks scope before all) ≡ first_fault (stmts_checks scope now left)
  pub seen : before ++ acts_mentions (acts_of scope all) ≡ now ++ acts_mentions (acts_of scope left)

pub stmts_start : (scope : Scope) (before : List Mention) (xs : List Stmt) → StmtsLeft scope before before [] (syntax.stmt_forms xs) (syntax.stmt_forms xs)
stmts_start scope before xs = record { form = refl; checks = refl; seen = refl }

stmts_next : (scope : Scope) (before now after : List Mention) (read : List tree.ActForm) (q : tree.ActForm) (all : syntax.StmtForms) (e : syntax.StmtForm) (rest : syntax.StmtForms) → StmtsLeft scope before now read all (syntax.stmt e rest)
    → q ≡ act_of scope e → first_fault (stmt_checks scope now e) ≡ None → after ≡ now ++ mentions_in (act_visits (act_of scope e)) → StmtsLeft scope before after (read ++ q ∷ []) all rest
stmts_next scope before now after read q all e rest left is holds seen = record {
  form = stmts_joined-push read q (acts_of scope rest) ∙ ap (λ (p : tree.ActForm). stmts_joined read (tree.act p (acts_of scope rest))) is ∙ left.form;
  checks =
      left.checks ∙ faults_behind (stmt_checks scope now e) (stmts_checks scope (now ++ mentions_in (act_visits (act_of scope e))) rest) holds
      ∙ ap (λ (ms : List Mention). first_fault (stmts_checks scope ms rest)) (sym seen);
  seen = left.seen ∙ (ap (λ (ms : List Mention). now ++ ms) (flat_map-append visit_mentions (act_visits (act_of scope e)) (acts_visits (acts_of scope rest))) ∙ sym (append_assoc now (mentions_in (act_visits (act_of scope e))) (acts_mentions (acts_of scope rest)))) ∙ ap (λ (ms : List Mention). ms ++ acts_mentions (acts_of scope rest)) (sym seen);
}

stmts_at : (xs : List Stmt) (i : ℕ) (x : Stmt) → slice_get xs i ≡ Some x → syntax.stmt_forms (drop i xs) ≡ syntax.stmt (syntax.stmt_form x) (syntax.stmt_forms (drop (i + 1) xs))
stmts_at xs i x is = ap syntax.stmt_forms (left_at xs i x is)

-- one more is read
pub stmts_more : (scope : Scope) (before now after : List Mention) (read new : List Act) (q : Act) (xs : List Stmt) (i : ℕ) (x : Stmt) → slice_get xs i ≡ Some x
    → StmtsLeft scope before now (map tree.act_form read) (syntax.stmt_forms xs) (syntax.stmt_forms (drop i xs)) → new ≡ read ++ q ∷ [] → tree.act_form q ≡ act_of scope (syntax.stmt_form x)
    → first_fault (stmt_checks scope now (syntax.stmt_form x)) ≡ None → after ≡ now ++ mentions_in (act_visits (act_of scope (syntax.stmt_form x))) → StmtsLeft scope before after (map tree.act_form new) (syntax.stmt_forms xs) (syntax.stmt_forms (drop (i + 1) xs))
stmts_more scope before now after read new q xs i x there left is_new is holds seen =
    rw (is_new, map-append tree.act_form read (q ∷ [])) (
    stmts_next scope before now after (map tree.act_form read) (tree.act_form q) (syntax.stmt_forms xs) (syntax.stmt_form x) (syntax.stmt_forms (drop (i + 1) xs)) (rw (stmts_at xs i x there) at left) is holds seen
    )

-- the fault of the next is the first
pub stmts_fault : (scope : Scope) (before now : List Mention) (read : List Act) (f : CheckFault) (xs : List Stmt) (i : ℕ) (x : Stmt) → slice_get xs i ≡ Some x
    → StmtsLeft scope before now (map tree.act_form read) (syntax.stmt_forms xs) (syntax.stmt_forms (drop i xs)) → IsFirst f (stmt_checks scope now (syntax.stmt_form x)) → IsFirst f (stmts_checks scope before (syntax.stmt_forms xs))
stmts_fault scope before now read f xs i x there left first =
    let more = stmts_checks scope (now ++ mentions_in (act_visits (act_of scope (syntax.stmt_form x)))) (syntax.stmt_forms (drop (i + 1) xs)) in
    first_same f (stmt_checks scope now (syntax.stmt_form x) ++ more) (stmts_checks scope before (syntax.stmt_forms xs))
    (ap (λ (es : syntax.StmtForms). first_fault (stmts_checks scope now es)) (sym (stmts_at xs i x there)) ∙ sym left.checks)
    (first_front f (stmt_checks scope now (syntax.stmt_form x)) more first)

stmts_end : (scope : Scope) (before now : List Mention) (read : List Act) (xs : List Stmt) (i : ℕ) → i ≡ length xs → StmtsLeft scope before now (map tree.act_form read) (syntax.stmt_forms xs) (syntax.stmt_forms (drop i xs)) → StmtsLeft scope before now (map tree.act_form read) (syntax.stmt_forms xs) syntax.no_stmts
stmts_end scope before now read xs i is left =
    rw (ap syntax.stmt_forms (ap (λ (k : ℕ). drop k xs) is ∙ all_left xs)) at left

-- all are read
pub stmts_form : (scope : Scope) (before now : List Mention) (read : List Act) (xs : List Stmt) (i : ℕ) → i ≡ length xs → StmtsLeft scope before now (map tree.act_form read) (syntax.stmt_forms xs) (syntax.stmt_forms (drop i xs)) → tree.acts_of (map tree.act_form read) ≡ acts_of scope (syntax.stmt_forms xs)
stmts_form scope before now read xs i is left = sym (stmts_joined-all (map tree.act_form read)) ∙ (stmts_end scope before now read xs i is left).form

pub stmts_hold : (scope : Scope) (before now : List Mention) (read : List Act) (xs : List Stmt) (i : ℕ) → i ≡ length xs → StmtsLeft scope before now (map tree.act_form read) (syntax.stmt_forms xs) (syntax.stmt_forms (drop i xs)) → first_fault (stmts_checks scope before (syntax.stmt_forms xs)) ≡ None
stmts_hold scope before now read xs i is left = (stmts_end scope before now read xs i is left).checks

pub stmts_seen : (scope : Scope) (before now : List Mention) (read : List Act) (xs : List Stmt) (i : ℕ) → i ≡ length xs → StmtsLeft scope before now (map tree.act_form read) (syntax.stmt_forms xs) (syntax.stmt_forms (drop i xs)) → now ≡ before ++ acts_mentions (acts_of scope (syntax.stmt_forms xs))
stmts_seen scope before now read xs i is left = sym (append-nil now) ∙ sym (stmts_end scope before now read xs i is left).seen

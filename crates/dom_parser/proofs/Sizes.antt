-- A program is no larger than what spells it.
use Rattle.std.proofs.Common.{◌≡◌, ℕ, zero, suc, ◌+◌, ◌≤◌, Bool, true, false, ◌&&◌, List, [], ◌∷◌, ◌++◌, map, length, refl, subst, arith}
use Rattle.std.proofs.lemmas.List.{length-append, length-map}
use Rattle.dom_lexer.specs.declared.token.Token.{Token}
use Rattle.dom_ast.specs.Form.{ExprForm, no_ops, op, StmtForm, assign, branch, StmtForms, stmt, no_stmts, ProgramForm}
use Rattle.dom_ast.specs.Size.{expr_nodes, exprs_nodes, ops_nodes, target_nodes, stmt_nodes, stmts_nodes, guard_nodes, transactions_nodes, program_nodes, stmt_nested, stmts_nested, guarded_nested, transactions_nested, program_nested}
use Rattle.dom_words.specs.declared.operators.BinOp.{BinOp}
use Rattle.dom_parser.specs.declared.kinds.Fixed.TheVariants as fixed
use Rattle.dom_parser.specs.Tokens.{Mark, mark}
use Rattle.dom_parser.specs.Grammar.{sign, Way, a_number, a_negated, a_word, a_field, an_index, a_call, in_parens, operated, level_of, More, stop, and_then, if_so, Args, no_args, some_args, MoreArgs, last_arg, next_arg, tokens, more_tokens, arg_tokens, more_arg_tokens, Tail, ops, choose, joined, and_op, tree, more_trees, arg_trees, more_arg_trees, opens, TargetWay, target_word, target_field, target_index, target_tokens, target_tree, Assign, assigned, assign_tokens, assign_tree, Stmts, no_more, then_stmt, Stmt, an_assign, an_if, Body, body_block, body_assign, Else, no_else, else_block, else_stmt, stmts_tokens, stmt_tokens, body_tokens, else_tokens, stmts_trees, stmt_tree, body_tree, else_tree, stmts_opens, stmt_opens, body_opens, else_opens, Guard, no_guard, a_guard, guard_tokens, guard_tree, guard_opens, Transaction, transaction_tokens, transaction_tree, transaction_opens, transactions_tokens, transaction_trees, transactions_opens, decls_tokens, struct_tokens, decls_opens, struct_opens, Program, program, program_tokens, program_tree, program_opens, AreWithin, SpellsWithin}

-- what a tail adds to the nodes of what stands before it
abbrev tail_nodes : Tail → ℕ
tail_nodes (ops no_ops) = 0
tail_nodes (ops (op o e fs)) = suc (expr_nodes e + ops_nodes fs)
tail_nodes (choose a b) = suc (expr_nodes a + expr_nodes b)

joined_nodes : (e : ExprForm) (t : Tail) → expr_nodes (joined e t) ≤ expr_nodes e + tail_nodes t
joined_nodes e (ops no_ops) = omega arith
joined_nodes e (ops (op o f fs)) = omega arith
joined_nodes e (choose a b) = omega arith

and_op_nodes : (o : BinOp) (e : ExprForm) (t : Tail) → tail_nodes (and_op o e t) ≤ suc (expr_nodes e + tail_nodes t)
and_op_nodes o e (ops no_ops) = omega arith
and_op_nodes o e (ops (op p f fs)) = omega arith
and_op_nodes o e (choose a b) = omega arith

-- one bracket more
closed : (ts : List Mark) (t : Mark) → length (ts ++ t ∷ []) ≡ suc (length ts)
closed ts t = let e = length-append ts (t ∷ []) in omega arith

mutual
  expr_small : (w : Way) → expr_nodes (tree w) ≤ length (tokens w)
  expr_small (a_number p w) = omega arith
  expr_small (a_negated p q w) = omega arith
  expr_small (a_word p n) = omega arith
  expr_small (a_field p n q r f) = omega arith
  expr_small (an_index p n q w r) = let h = expr_small w in let e = closed (tokens w) (sign fixed.CloseBracket r) in omega arith
  expr_small (a_call p n q a r) = let h = args_small a in let e = closed (arg_tokens a) (sign fixed.CloseParen r) in omega arith
  expr_small (in_parens p w q) = let h = expr_small w in let e = closed (tokens w) (sign fixed.CloseParen q) in omega arith
  expr_small (operated p o w) = let h = expr_small w in omega arith
  expr_small (level_of w m) = let h = expr_small w in let k = more_small m in let e = length-append (tokens w) (more_tokens m) in let j = joined_nodes (tree w) (more_trees m) in omega arith

  more_small : (m : More) → tail_nodes (more_trees m) ≤ length (more_tokens m)
  more_small stop = omega arith
  more_small (and_then o p w m) = let h = expr_small w in let k = more_small m in let e = length-append (tokens w) (more_tokens m) in let j = and_op_nodes o (tree w) (more_trees m) in omega arith
  more_small (if_so p w q v) = let h = expr_small w in let k = expr_small v in let e = length-append (tokens w) (sign fixed.Colon q ∷ tokens v) in omega arith

  args_small : (a : Args) → exprs_nodes (arg_trees a) ≤ length (arg_tokens a)
  args_small no_args = omega arith
  args_small (some_args w m) = let h = expr_small w in let k = more_args_small m in let e = length-append (tokens w) (more_arg_tokens m) in omega arith

  more_args_small : (m : MoreArgs) → exprs_nodes (more_arg_trees m) ≤ length (more_arg_tokens m)
  more_args_small last_arg = omega arith
  more_args_small (next_arg p w m) = let h = expr_small w in let k = more_args_small m in let e = length-append (tokens w) (more_arg_tokens m) in omega arith

target_small : (g : TargetWay) → target_nodes (target_tree g) ≤ length (target_tokens g)
target_small (target_word p n) = omega arith
target_small (target_field p n q r f) = omega arith
target_small (target_index p n q w r) = let h = expr_small w in let e = closed (tokens w) (sign fixed.CloseBracket r) in omega arith

assign_small : (a : Assign) → stmt_nodes (assign_tree a) ≤ length (assign_tokens a)
assign_small (assigned g p w q) =
    let h = target_small g in let k = expr_small w in let e = closed (tokens w) (sign fixed.Semi q) in let f = length-append (target_tokens g) (sign fixed.Assign p ∷ (tokens w ++ sign fixed.Semi q ∷ [])) in omega arith

mutual
  stmts_small : (b : Stmts) → stmts_nodes (stmts_trees b) ≤ length (stmts_tokens b)
  stmts_small no_more = omega arith
  stmts_small (then_stmt a b) = let h = stmt_small a in let k = stmts_small b in let e = length-append (stmt_tokens a) (stmts_tokens b) in omega arith

  stmt_small : (a : Stmt) → stmt_nodes (stmt_tree a) ≤ length (stmt_tokens a)
  stmt_small (an_assign a) = assign_small a
  stmt_small (an_if m w b c) =
      let h = expr_small w in let k = body_small b in let j = else_small c in
      let e = length-append (tokens w) (sign fixed.CloseParen m.close_at ∷ (body_tokens b ++ else_tokens c)) in let f = length-append (body_tokens b) (else_tokens c) in omega arith

  body_small : (b : Body) → stmts_nodes (body_tree b) ≤ length (body_tokens b)
  body_small (body_block p b q) = let h = stmts_small b in let e = closed (stmts_tokens b) (sign fixed.CloseBrace q) in omega arith
  body_small (body_assign a) = let h = assign_small a in omega arith

  else_small : (c : Else) → stmts_nodes (else_tree c) ≤ length (else_tokens c)
  else_small no_else = omega arith
  else_small (else_block p o b q) = let h = stmts_small b in let e = closed (stmts_tokens b) (sign fixed.CloseBrace q) in omega arith
  else_small (else_stmt p a) = let h = stmt_small a in omega arith

guard_small : (g : Guard) → guard_nodes (guard_tree g) ≤ length (guard_tokens g)
guard_small no_guard = omega arith
guard_small (a_guard p q w r) = let h = expr_small w in let e = closed (tokens w) (sign fixed.CloseParen r) in omega arith

transaction_small : (t : Transaction) → guard_nodes (transaction_tree t).guard + stmts_nodes (transaction_tree t).body ≤ length (transaction_tokens t)
transaction_small t =
    let h = guard_small t.guard in let k = stmts_small t.body in let f = closed (stmts_tokens t.body) (sign fixed.CloseBrace t.end_at) in let j = length-append (guard_tokens t.guard) (sign fixed.OpenBrace t.begin_at ∷ (stmts_tokens t.body ++ sign fixed.CloseBrace t.end_at ∷ [])) in omega arith

transactions_small : (ts : List Transaction) → transactions_nodes (transaction_trees ts) ≤ length (transactions_tokens ts)
transactions_small [] = omega arith
transactions_small (t ∷ ts) = let h = transaction_small t in let k = transactions_small ts in let e = length-append (transaction_tokens t) (transactions_tokens ts) in omega arith

program_small : (w : Program) → program_nodes (program_tree w) ≤ length (program_tokens w)
program_small (program d z e t ts) =
    let h = transaction_small t in let k = transactions_small ts in
    let a = length-append (transaction_tokens t) (transactions_tokens ts) in
    let b = length-append (decls_tokens e) (transaction_tokens t ++ transactions_tokens ts) in
    let c = length-append (struct_tokens z) (decls_tokens e ++ (transaction_tokens t ++ transactions_tokens ts)) in
    let f = length-append (decls_tokens d) (struct_tokens z ++ (decls_tokens e ++ (transaction_tokens t ++ transactions_tokens ts))) in omega arith

pub few_nodes : (p : ProgramForm) (l : List Token) → SpellsWithin p l → program_nodes p ≤ length l
few_nodes p l s =
    let h : program_nodes (program_tree s.0) ≤ length (map mark l) = subst (λ (x : List Mark). program_nodes (program_tree s.0) ≤ length x) s.2 (program_small s.0) in
    let k = length-map l mark in
    subst (λ (x : ProgramForm). program_nodes x ≤ length l) s.3 (omega arith)

-- nesting

parts : (a b : List ℕ) → AreWithin (a ++ b) → AreWithin a × AreWithin b
parts [] b h = (tt, h)
parts (n ∷ a) b h = let k = parts a b h.1 in ((h.0, k.0), k.1)

both : (a b : Bool) → a ≡ true → b ≡ true → (a && b) ≡ true
both true true e f = refl
both true false e f = f
both false b e f = absurd (cc)

first_of : (a b : Bool) → (a && b) ≡ true → a ≡ true
first_of true b e = refl
first_of false b e = absurd (cc)

second_of : (a b : Bool) → (a && b) ≡ true → b ≡ true
second_of true b e = e
second_of false b e = absurd (cc)

-- what is nested d deep is nested d + 1 deep
mutual
  looser : (d : ℕ) (ss : StmtForms) → stmts_nested d ss ≡ true → stmts_nested (suc d) ss ≡ true
  looser d no_stmts e = refl
  looser d (stmt a ss) e = both (stmt_nested (suc d) a) (stmts_nested (suc d) ss) (looser_stmt d a (first_of (stmt_nested d a) (stmts_nested d ss) e)) (looser d ss (second_of (stmt_nested d a) (stmts_nested d ss) e))

  looser_stmt : (d : ℕ) (a : StmtForm) → stmt_nested d a ≡ true → stmt_nested (suc d) a ≡ true
  looser_stmt d (assign p t x) e = refl
  looser_stmt zero (branch x a b) e = absurd (cc)
  looser_stmt (suc d) (branch x a b) e = both (stmts_nested (suc d) a) (stmts_nested (suc d) b) (looser d a (first_of (stmts_nested d a) (stmts_nested d b) e)) (looser d b (second_of (stmts_nested d a) (stmts_nested d b) e))

mutual
  stmts_shallow : (d n : ℕ) (b : Stmts) → n + d ≡ 64 → AreWithin (stmts_opens n b) → stmts_nested d (stmts_trees b) ≡ true
  stmts_shallow d n no_more h a = refl
  stmts_shallow d n (then_stmt x b) h a =
      let k = parts (stmt_opens n x) (stmts_opens n b) a in both (stmt_nested d (stmt_tree x)) (stmts_nested d (stmts_trees b)) (stmt_shallow d n x h k.0) (stmts_shallow d n b h k.1)

  stmt_shallow : (d n : ℕ) (x : Stmt) → n + d ≡ 64 → AreWithin (stmt_opens n x) → stmt_nested d (stmt_tree x) ≡ true
  stmt_shallow d n (an_assign (assigned g p w q)) h a = refl
  stmt_shallow zero n (an_if i w b c) h a = absurd (let k = a.0 in omega arith)
  stmt_shallow (suc d) n (an_if i w b c) h a =
      let k = parts (opens (suc (suc n)) w) (suc (suc n) ∷ (body_opens (suc n) b ++ else_opens (suc n) c)) a.1.1 in
      let m = parts (body_opens (suc n) b) (else_opens (suc n) c) k.1.1 in
      both (stmts_nested d (body_tree b)) (stmts_nested d (else_tree c)) (body_shallow d (suc n) b (omega arith) m.0) (else_shallow d (suc n) c (omega arith) m.1)

  body_shallow : (d n : ℕ) (b : Body) → n + d ≡ 64 → AreWithin (body_opens n b) → stmts_nested d (body_tree b) ≡ true
  body_shallow d n (body_assign (assigned g p w q)) h a = refl
  body_shallow zero n (body_block p b q) h a = absurd (let k = a.0 in omega arith)
  body_shallow (suc d) n (body_block p b q) h a = looser d (stmts_trees b) (stmts_shallow d (suc n) b (omega arith) (parts (stmts_opens (suc n) b) (suc n ∷ []) a.1).0)

  else_shallow : (d n : ℕ) (c : Else) → n + d ≡ 64 → AreWithin (else_opens n c) → stmts_nested d (else_tree c) ≡ true
  else_shallow d n no_else h a = refl
  else_shallow zero n (else_block p o b q) h a = absurd (let k = a.1.0 in omega arith)
  else_shallow (suc d) n (else_block p o b q) h a = looser d (stmts_trees b) (stmts_shallow d (suc n) b (omega arith) (parts (stmts_opens (suc n) b) (suc n ∷ []) a.1.1).0)
  else_shallow d n (else_stmt p x) h a = both (stmt_nested d (stmt_tree x)) true (stmt_shallow d n x h a.1) refl

guarded_shallow : (g : Guard) (w : Stmts) → AreWithin (guard_opens 0 g ++ 1 ∷ (stmts_opens 1 w ++ 1 ∷ [])) → guarded_nested 64 (guard_tree g) (stmts_trees w) ≡ true
guarded_shallow no_guard w a = looser 63 (stmts_trees w) (stmts_shallow 63 1 w (omega arith) (parts (stmts_opens 1 w) (1 ∷ []) a.1).0)
guarded_shallow (a_guard x y k f) w a =
    let g = parts (guard_opens 0 (a_guard x y k f)) (1 ∷ (stmts_opens 1 w ++ 1 ∷ [])) a in
    stmts_shallow 63 1 w (omega arith) (parts (stmts_opens 1 w) (1 ∷ []) g.1.1).0

transaction_shallow : (t : Transaction) → AreWithin (transaction_opens 0 t) → guarded_nested 64 (transaction_tree t).guard (transaction_tree t).body ≡ true
transaction_shallow t a = guarded_shallow t.guard t.body a.1.1.1.1.1.1.1

transactions_shallow : (ts : List Transaction) → AreWithin (transactions_opens 0 ts) → transactions_nested 64 (transaction_trees ts) ≡ true
transactions_shallow [] a = refl
transactions_shallow (t ∷ ts) a =
    let k = parts (transaction_opens 0 t) (transactions_opens 0 ts) a in
    both (guarded_nested 64 (transaction_tree t).guard (transaction_tree t).body) (transactions_nested 64 (transaction_trees ts)) (transaction_shallow t k.0) (transactions_shallow ts k.1)

program_shallow : (w : Program) → AreWithin (program_opens w) → program_nested 64 (program_tree w) ≡ true
program_shallow (program d z e t ts) a =
    let h = parts (decls_opens 0 d) (struct_opens 0 z ++ (decls_opens 0 e ++ (transaction_opens 0 t ++ transactions_opens 0 ts))) a in
    let k = parts (struct_opens 0 z) (decls_opens 0 e ++ (transaction_opens 0 t ++ transactions_opens 0 ts)) h.1 in
    let m = parts (decls_opens 0 e) (transaction_opens 0 t ++ transactions_opens 0 ts) k.1 in
    let n = parts (transaction_opens 0 t) (transactions_opens 0 ts) m.1 in
    both (guarded_nested 64 (transaction_tree t).guard (transaction_tree t).body) (transactions_nested 64 (transaction_trees ts)) (transaction_shallow t n.0) (transactions_shallow ts n.1)

pub few_nested : (p : ProgramForm) (l : List Token) → SpellsWithin p l → program_nested 64 p ≡ true
few_nested p l s = subst (λ (x : ProgramForm). program_nested 64 x ≡ true) s.3 (program_shallow s.0 s.4)

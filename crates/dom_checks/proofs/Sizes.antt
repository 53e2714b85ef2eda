-- A resolved program is no larger than the program, and its `if`s are nested alike.
use Rattle.std.proofs.Common.{◌≡◌, ℕ, zero, suc, ◌≤◌, List, [], ◌∷◌, map, refl, arith}
use Rattle.std.specs.Prelude.{Option, Some, None}
use Rattle.std.proofs.lemmas.List.Sums.{sum_by-cons}
use Rattle.dom_words.specs.declared.hash.HashName.{HashName}
use Rattle.dom_words.specs.Units.{unit_named}
use Rattle.dom_ast.specs.declared.part.Place.{Place}
use Rattle.dom_ast.specs.Form.{ExprForm, number, word, field, index, call, un, chain, choice, ExprForms, no_exprs, expr, OpForms, no_ops, op, StmtForm, assign, branch, StmtForms, no_stmts, stmt, TransactionForm, ProgramForm}
use Rattle.dom_ast.specs.Resolved as tree
use Rattle.dom_ast.specs.PartSize.{act_nested, act_nodes, acts_nested, acts_nodes, bodies_nested, bodies_nodes, body_nodes, ops_nodes, part_nodes, parts_nodes}
use Rattle.dom_ast.specs.PartSize as resolved_size
use Rattle.dom_ast.specs.Size.{expr_nodes, exprs_nodes, program_nested, program_nodes, stmt_nested, stmt_nodes, stmts_nested, stmts_nodes, target_nodes, transactions_nested, transactions_nodes}
use Rattle.dom_ast.specs.Size as size
use Rattle.dom_checks.specs.declared.meant.Meant.{Meant}
use Rattle.dom_checks.specs.declared.meant.Meant.TheVariants as meaning
use Rattle.dom_checks.specs.Resolve.{act_of, acts_of, body_of, call_part, element_part, guard_of, name_part, ops_of, part_of, parts_of, place_of, resolved}
use Rattle.dom_checks.specs.Scope.{Scope, heads_scope, meant, with_param}

name_is_one : (m : Option Meant) → part_nodes (name_part m) ≡ 1
name_is_one None = refl
name_is_one (Some (meaning.Define w)) = refl
name_is_one (Some (meaning.Scalar k)) = refl
name_is_one (Some (meaning.Array k)) = refl
name_is_one (Some meaning.Parameter) = refl

element_is_one : (m : Option Meant) (i : Place) → part_nodes (element_part m i) ≡ 1
element_is_one None i = refl
element_is_one (Some (meaning.Define w)) i = refl
element_is_one (Some (meaning.Scalar k)) i = refl
element_is_one (Some (meaning.Array k)) i = refl
element_is_one (Some meaning.Parameter) i = refl

call_is_few : (unit : Option HashName) (parts : tree.PartForms) → part_nodes (call_part unit parts) ≤ suc (parts_nodes parts)
call_is_few None parts = omega arith
call_is_few (Some unit) parts = omega arith

mutual
  part_is_few : (scope : Scope) (e : ExprForm) → part_nodes (part_of scope e) ≤ expr_nodes e
  part_is_few scope (number p w) = omega arith
  part_is_few scope (word p n) = omega (arith, name_is_one (meant scope n))
  part_is_few scope (field p b q f) = omega arith
  part_is_few scope (index p n e) = omega (arith, element_is_one (meant scope n) (place_of scope e))
  part_is_few scope (call p n es) = omega (arith, call_is_few (unit_named n) (parts_of scope es), parts_are_few scope es)
  part_is_few scope (un p o e) = omega (arith, part_is_few scope e)
  part_is_few scope (chain e os) = omega (arith, part_is_few scope e, ops_are_few scope os)
  part_is_few scope (choice e a b) = omega (arith, part_is_few scope e, part_is_few scope a, part_is_few scope b)

  parts_are_few : (scope : Scope) (es : ExprForms) → parts_nodes (parts_of scope es) ≤ exprs_nodes es
  parts_are_few scope no_exprs = omega arith
  parts_are_few scope (expr e es) = omega (arith, part_is_few scope e, parts_are_few scope es)

  ops_are_few : (scope : Scope) (os : OpForms) → ops_nodes (ops_of scope os) ≤ size.ops_nodes os
  ops_are_few scope no_ops = omega arith
  ops_are_few scope (op o e os) = omega (arith, part_is_few scope e, ops_are_few scope os)

mutual
  act_is_few : (scope : Scope) (s : StmtForm) → act_nodes (act_of scope s) ≤ stmt_nodes s
  act_is_few scope (assign p t e) = omega (arith, part_is_few scope e)
  act_is_few scope (branch e a b) = omega (arith, part_is_few scope e, acts_are_few scope a, acts_are_few scope b)

  acts_are_few : (scope : Scope) (ss : StmtForms) → acts_nodes (acts_of scope ss) ≤ stmts_nodes ss
  acts_are_few scope no_stmts = omega arith
  acts_are_few scope (stmt s ss) = omega (arith, act_is_few scope s, acts_are_few scope ss)

guard_is_few : (scope : Scope) (g : Option ExprForm) → resolved_size.guard_nodes (guard_of scope g) ≤ size.guard_nodes g
guard_is_few scope None = omega arith
guard_is_few scope (Some e) = part_is_few scope e

bodies_are_few : (scope : Scope) (ts : List TransactionForm) → bodies_nodes (map (body_of scope) ts) ≤ transactions_nodes ts
bodies_are_few scope [] = omega arith
bodies_are_few scope (t ∷ ts) =
    let inner = with_param scope t.param in
    omega (arith, sum_by-cons (λ (n : ℕ). n) (body_nodes (body_of scope t)) (map body_nodes (map (body_of scope) ts)), guard_is_few inner t.guard, acts_are_few inner t.body, bodies_are_few scope ts)

-- the statements and expression nodes of a resolved program are no more than the program's
pub resolved_is_few : (p : ProgramForm) → bodies_nodes (resolved p).bodies ≤ program_nodes p
resolved_is_few p = bodies_are_few (heads_scope p.heads) p.transactions

mutual
  act_nested_alike : (scope : Scope) (d : ℕ) (s : StmtForm) → act_nested d (act_of scope s) ≡ stmt_nested d s
  act_nested_alike scope d (assign p t e) = refl
  act_nested_alike scope zero (branch e a b) = refl
  act_nested_alike scope (suc d) (branch e a b) = rw (acts_nested_alike scope d a, acts_nested_alike scope d b) refl

  acts_nested_alike : (scope : Scope) (d : ℕ) (ss : StmtForms) → acts_nested d (acts_of scope ss) ≡ stmts_nested d ss
  acts_nested_alike scope d no_stmts = refl
  acts_nested_alike scope d (stmt s ss) = rw (act_nested_alike scope d s, acts_nested_alike scope d ss) refl

guarded_alike : (scope : Scope) (d : ℕ) (g : Option ExprForm) (ss : StmtForms) → resolved_size.guarded_nested d (guard_of scope g) (acts_of scope ss) ≡ size.guarded_nested d g ss
guarded_alike scope d None ss = acts_nested_alike scope d ss
guarded_alike scope zero (Some e) ss = refl
guarded_alike scope (suc d) (Some e) ss = acts_nested_alike scope d ss

bodies_nested_alike : (scope : Scope) (d : ℕ) (ts : List TransactionForm) → bodies_nested d (map (body_of scope) ts) ≡ transactions_nested d ts
bodies_nested_alike scope d [] = refl
bodies_nested_alike scope d (t ∷ ts) = rw (guarded_alike (with_param scope t.param) d t.guard t.body, bodies_nested_alike scope d ts) refl

-- the `if`s of a resolved program are nested as the program's
pub resolved_nested_alike : (d : ℕ) (p : ProgramForm) → bodies_nested d (resolved p).bodies ≡ program_nested d p
resolved_nested_alike d p = bodies_nested_alike (heads_scope p.heads) d p.transactions

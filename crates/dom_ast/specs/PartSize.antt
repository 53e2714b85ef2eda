-- How large resolved programs are: statements and expression nodes, and how deep `if`s are nested.
use Rattle.std.specs.Prelude.{ℕ, zero, suc, ◌+◌, Bool, true, false, ◌&&◌, List, map, sum, Option, Some, None}
use Rattle.std.specs.List.{list_all}
use Rattle.dom_ast.specs.Resolved.{PartForm, number, field, state, fresh, made, call, un, chain, choice, PartForms, no_parts, part, OpForms, no_ops, op, ActForm, assign, branch, ActForms, no_acts, act, BodyForm}

-- expression nodes
abbrev mutual
  pub part_nodes : PartForm → ℕ
  part_nodes (number w) = 1
  part_nodes (field f) = 1
  part_nodes (state a i) = 1
  part_nodes (fresh k) = 1
  part_nodes (made k) = 1
  part_nodes (call unit ps) = suc (parts_nodes ps)
  part_nodes (un o p) = suc (part_nodes p)
  part_nodes (chain p os) = suc (part_nodes p + ops_nodes os)
  part_nodes (choice c p q) = suc (part_nodes c + (part_nodes p + part_nodes q))

  pub parts_nodes : PartForms → ℕ
  parts_nodes no_parts = 0
  parts_nodes (part p ps) = part_nodes p + parts_nodes ps

  pub ops_nodes : OpForms → ℕ
  ops_nodes no_ops = 0
  ops_nodes (op o p os) = part_nodes p + ops_nodes os

-- statements and the expression nodes in them
abbrev mutual
  pub act_nodes : ActForm → ℕ
  act_nodes (assign g p) = suc (part_nodes p)
  act_nodes (branch c a b) = suc (part_nodes c + (acts_nodes a + acts_nodes b))

  pub acts_nodes : ActForms → ℕ
  acts_nodes no_acts = 0
  acts_nodes (act a rest) = act_nodes a + acts_nodes rest

-- the expression nodes of a guard, if there is one
abbrev pub guard_nodes : Option PartForm → ℕ
guard_nodes None = 0
guard_nodes (Some p) = part_nodes p

-- the statements and expression nodes of a transaction
abbrev pub body_nodes : BodyForm → ℕ
body_nodes body = guard_nodes body.guard + acts_nodes body.acts

-- the same of all transactions
abbrev pub bodies_nodes : List BodyForm → ℕ
bodies_nodes bodies = sum (map body_nodes bodies)

-- whether the `if`s in statements are nested at most d deep
abbrev mutual
  pub act_nested : ℕ → ActForm → Bool
  act_nested d (assign g p) = true
  act_nested zero (branch c a b) = false
  act_nested (suc d) (branch c a b) = acts_nested d a && acts_nested d b

  pub acts_nested : ℕ → ActForms → Bool
  acts_nested d no_acts = true
  acts_nested d (act a rest) = act_nested d a && acts_nested d rest

-- the same of a transaction, where a guard counts as one nesting
abbrev pub guarded_nested : ℕ → Option PartForm → ActForms → Bool
guarded_nested d None acts = acts_nested d acts
guarded_nested zero (Some p) acts = false
guarded_nested (suc d) (Some p) acts = acts_nested d acts

-- the same of all transactions
abbrev pub bodies_nested : ℕ → List BodyForm → Bool
bodies_nested d bodies = list_all (λ body. guarded_nested d body.guard body.acts) bodies

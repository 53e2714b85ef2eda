-- How many items and expression nodes there are.
use Rattle.std.proofs.Common.{◌≡◌, ℕ, zero, suc, ◌+◌, ◌*◌, ◌^◌, ◌<◌, ◌≤◌, List, [], ◌∷◌, ◌++◌, Option, Some, None, fold, length, map, sum, refl, ap, ◌∙◌, arith}
use Rattle.std.specs.List.{range_with_len}
use Rattle.std.proofs.lemmas.List.{map-append}
use Rattle.std.proofs.lemmas.List.Sums.{sum_by-cons, sum_by_push}
use Rattle.dom_ast.specs.Flanks.{FlankForm, flank_nodes, flanks_nodes}
use Rattle.dom_ast.specs.Flanks as flank
use Rattle.dom_ast.specs.Named.{NamedForm, read, make, write, item_nodes, named_nodes}
use Rattle.dom_ast.specs.PartSize.{part_nodes, parts_nodes, ops_nodes}
use Rattle.dom_ast.specs.Resolved.{PartForm, number, field, state, fresh, made, call, un, chain, choice, PartForms, no_parts, part, OpForms, no_ops, op}
use Rattle.dom_ast.specs.Straight.{StepForm}
use Rattle.ssa_names.specs.declared.operand.Operand.{Operand}
use Rattle.ssa_names.specs.declared.operand.Operand.TheVariants.{Number, Field, Made}
use Rattle.ssa_names.specs.Naming.{Current, Naming, all_renamed, named, named_item, named_set, operand_form, ops_renamed, outputs_of, place_operand, plain, renamed, starting}

one_node : (o : Operand) → part_nodes (operand_form o) ≡ 1
one_node (Number w) = refl
one_node (Field f) = refl
one_node (Made k) = refl

mutual
  pub renamed_nodes : (now : Current) (p : PartForm) → part_nodes (renamed now p) ≡ part_nodes p
  renamed_nodes now (number w) = refl
  renamed_nodes now (field f) = one_node (now.fields f)
  renamed_nodes now (state a i) = one_node (now.arrays a)
  renamed_nodes now (fresh k) = one_node (now.fresh k)
  renamed_nodes now (made k) = refl
  renamed_nodes now (call unit ps) = ap suc (all_renamed_nodes now ps)
  renamed_nodes now (un u p) = ap suc (renamed_nodes now p)
  renamed_nodes now (chain p os) = let a = renamed_nodes now p in let b = ops_renamed_nodes now os in omega arith
  renamed_nodes now (choice c p q) =
      let a = renamed_nodes now c in let b = renamed_nodes now p in let d = renamed_nodes now q in omega arith

  all_renamed_nodes : (now : Current) (ps : PartForms) → parts_nodes (all_renamed now ps) ≡ parts_nodes ps
  all_renamed_nodes now no_parts = refl
  all_renamed_nodes now (part p ps) = let a = renamed_nodes now p in let b = all_renamed_nodes now ps in omega arith

  ops_renamed_nodes : (now : Current) (os : OpForms) → ops_nodes (ops_renamed now os) ≡ ops_nodes os
  ops_renamed_nodes now no_ops = refl
  ops_renamed_nodes now (op o p os) = let a = renamed_nodes now p in let b = ops_renamed_nodes now os in omega arith

-- the nodes of items
abbrev pub nodes_of : List NamedForm → ℕ
nodes_of items = sum (map item_nodes items)

nodes_push : (items : List NamedForm) (x : NamedForm) → nodes_of (items ++ x ∷ []) ≡ nodes_of items + item_nodes x
nodes_push items x = ap sum (map-append item_nodes items (x ∷ [])) ∙ sum_by_push (λ (k : ℕ). k) (map item_nodes items) (item_nodes x)

set_nodes : (n : Naming) (s : StepForm) (r : Option Operand) → nodes_of (named_set n s r).items ≤ nodes_of n.items + suc (part_nodes s.value)
set_nodes n s (Some o) = omega arith
set_nodes n s None =
    let a = nodes_push n.items (make (renamed n.now s.value)) in let b = renamed_nodes n.now s.value in omega arith

-- a flank or step makes at most three times its nodes
nodes_step : (n : Naming) (x : FlankForm) → nodes_of (named_item n x).items ≤ nodes_of n.items + 3 * flank_nodes x
nodes_step n (flank.read a i) =
    let o = place_operand n.now i in
    let p = nodes_push n.items (read a (operand_form o)) in let q = one_node o in omega arith
nodes_step n (flank.set s) = let p = set_nodes n s (plain n.now s.value) in omega arith
nodes_step n (flank.write a i) =
    let x = n.now.indexes a in
    let y = n.now.arrays a in
    let p = nodes_push n.items (write a (operand_form x) (operand_form y)) in
    let q = one_node x in
    let r = one_node y in
    omega arith

all_nodes : (n : Naming) (xs : List FlankForm) → nodes_of (fold named_item n xs).items ≤ nodes_of n.items + 3 * flanks_nodes xs
all_nodes n [] = omega arith
all_nodes n (x ∷ xs) =
    let p = nodes_step n x in
    let q = all_nodes (named_item n x) xs in
    let r : flanks_nodes (x ∷ xs) ≡ flank_nodes x + flanks_nodes xs = sum_by-cons (λ (k : ℕ). k) (flank_nodes x) (map flank_nodes xs) in
    omega arith

output_nodes : (g : ℕ → Operand) (k n : ℕ) → sum (map part_nodes (map (λ f. operand_form (g f)) (range_with_len k n))) ≡ n
output_nodes g k zero = refl
output_nodes g k (suc n) =
    let p = output_nodes g (k + 1) n in
    let q = one_node (g k) in
    let rest = map part_nodes (map (λ f. operand_form (g f)) (range_with_len (k + 1) n)) in
    let r : sum (part_nodes (operand_form (g k)) ∷ rest) ≡ part_nodes (operand_form (g k)) + sum rest = sum_by-cons (λ (m : ℕ). m) (part_nodes (operand_form (g k))) rest in
    omega arith

one_flank_node : (x : FlankForm) → 1 ≤ flank_nodes x
one_flank_node (flank.read a i) = omega arith
one_flank_node (flank.set s) = omega arith
one_flank_node (flank.write a i) = omega arith

-- there are no more flanks and steps than nodes
pub few_flanks : (xs : List FlankForm) → length xs ≤ flanks_nodes xs
few_flanks [] = omega arith
few_flanks (x ∷ xs) =
    let p = one_flank_node x in
    let q = few_flanks xs in
    let r : flanks_nodes (x ∷ xs) ≡ flank_nodes x + flanks_nodes xs = sum_by-cons (λ (k : ℕ). k) (flank_nodes x) (map flank_nodes xs) in
    omega arith

-- the nodes of the items and the outputs
pub named_few : (fields : ℕ) (xs : List FlankForm) → flanks_nodes xs < 2 ^ 23 → fields ≤ 64 → named_nodes (named xs).items (outputs_of fields (named xs)) < 2 ^ 25
named_few fields xs few small =
    let n = named xs in
    let p : nodes_of n.items ≤ 0 + 3 * flanks_nodes xs = all_nodes (record { now = starting; items = [] }) xs in
    let q = output_nodes n.now.fields 0 fields in
    omega arith

-- Chains of operators.
use Rattle.std.proofs.Common.{◌≡◌, ℕ, zero, suc, ◌+◌, ◌<◌, ◌≤◌, ◌==◌, Bool, true, false, List, [], ◌∷◌, ◌++◌, length, drop, drop-cons, get_or, add-one, refl, sym, ap, ◌∙◌, arith, if◌then◌else◌}
use Rattle.std.specs.Prelude.{Box}
use Rattle.std.specs.declared.alloc.Global.{Global}
use Rattle.dom_words.specs.declared.operators.BinOp.{BinOp}
use Rattle.dom_ast.specs.PartSize.{ops_nodes, part_nodes}
use Rattle.dom_ast.specs.Resolved.{PartForm, chain, form, part_step}
use Rattle.dom_ast.specs.inner.PartOps.{op_forms}
use Rattle.dom_ast.specs.declared.part.Part.{Part}
use Rattle.dom_ast.specs.declared.part.Part.TheViews.{Chain, rolls-Chain}
use Rattle.dom_ast.specs.declared.part.Part.TheFolds.{fold-roll-Part}
use Rattle.dom_ast.specs.declared.part.Part.TheOpen.{Part-F}
use Rattle.dom_flat.specs.declared.line.Operand.{Operand}
use Rattle.dom_flat.specs.declared.line.Operand.TheVariants.{Value}
use Rattle.dom_flat.specs.declared.line.Line.{Line}
use Rattle.dom_flat.specs.declared.line.Line.TheVariants as line
use Rattle.three_address.specs.Flattening.{Flattened, as_is, with_line, first_modulus, flattened, folded, folded_later}
use Rattle.three_address.specs.inner.Taking.{taken_by}

pub form_chain : (b : Box Part Global) (rest : List (BinOp × Part)) → form (Chain b rest) ≡ chain (form b.value) (op_forms rest)
form_chain b rest = ap form (sym (rolls-Chain b rest)) ∙ fold-roll-Part PartForm part_step (Part-F.Chain b rest)

later : (fields : ℕ) (values : List Operand) (a : Flattened) (ops : List (BinOp × Part)) → folded_later fields values a (op_forms ops) ≡ folded fields values a (op_forms (drop 1 ops))
later fields values a [] = refl
later fields values a (o ∷ ops) = refl

-- a hash takes the first operator with its modulus
pub chain_taken : (fields : ℕ) (values : List Operand) (lines : List Line) (modulus : ℕ) (p : PartForm) (ops : List (BinOp × Part))
    → flattened fields values lines modulus (chain p (op_forms ops)) ≡ folded fields values (flattened fields values lines (first_modulus p (op_forms ops)) p) (op_forms (drop (taken_by (first_modulus p (op_forms ops))) ops))
chain_taken fields values lines modulus p ops = by_case (first_modulus p (op_forms ops) == 0)
  where
    first : Flattened
    first = flattened fields values lines (first_modulus p (op_forms ops)) p

    by_case : (b : Bool) → (if b then folded fields values first (op_forms ops) else folded_later fields values first (op_forms ops)) ≡ folded fields values first (op_forms (drop (if b then 0 else 1) ops))
    by_case true = refl
    by_case false = later fields values first ops

pub ops_left : (n : ℕ) (ops : List (BinOp × Part)) → ops_nodes (op_forms (drop n ops)) ≤ ops_nodes (op_forms ops)
ops_left zero ops = omega arith
ops_left (suc n) [] = omega arith
ops_left (suc n) (o ∷ ops) = omega (arith, ops_left n ops)

-- the operator whose turn it is
op_at : (k : ℕ) (ops : List (BinOp × Part)) (o : BinOp × Part) → k < length ops → o ≡ get_or ops k o → drop k ops ≡ o ∷ drop (k + 1) ops
op_at k ops o h e =
    drop-cons ops k o h ∙ ap (λ (x : BinOp × Part). x ∷ drop (suc k) ops) (sym e) ∙ ap (λ (j : ℕ). o ∷ drop j ops) (sym (add-one k))

pub nodes_at : (k : ℕ) (ops : List (BinOp × Part)) (o : BinOp × Part) → k < length ops → o ≡ get_or ops k o → ops_nodes (op_forms (drop k ops)) ≡ part_nodes (form o.1) + ops_nodes (op_forms (drop (k + 1) ops))
nodes_at k ops o h e = ap (λ (rest : List (BinOp × Part)). ops_nodes (op_forms rest)) (op_at k ops o h e)

abbrev with_op : ℕ → List Operand → Flattened → BinOp → PartForm → Flattened
with_op fields values a o p =
    let b = flattened fields values a.lines 0 p in
    with_line fields b.lines (line.Bin o a.operand b.operand)

-- and what is left after it
pub op_step : (fields : ℕ) (values : List Operand) (before first after : List Line) (a b c : Operand) (k : ℕ) (ops : List (BinOp × Part)) (o : BinOp × Part) (whole : Flattened)
    → k < length ops → o ≡ get_or ops k o
    → folded fields values (as_is before a) (op_forms (drop k ops)) ≡ whole
    → first ≡ (flattened fields values before 0 (form o.1)).lines → b ≡ (flattened fields values before 0 (form o.1)).operand
    → after ≡ first ++ line.Bin o.0 a b ∷ [] → c ≡ Value (fields + length first)
    → folded fields values (as_is after c) (op_forms (drop (k + 1) ops)) ≡ whole
op_step fields values before first after a b c k ops o whole h e inv lines operand pushed number =
    let f = flattened fields values before 0 (form o.1) in
    let rest = op_forms (drop (k + 1) ops) in
    let is_after : after ≡ f.lines ++ line.Bin o.0 a f.operand ∷ [] =
    pushed ∙ ap (λ (ls : List Line). ls ++ line.Bin o.0 a b ∷ []) lines ∙ ap (λ (x : Operand). f.lines ++ line.Bin o.0 a x ∷ []) operand in
    let is_c : c ≡ Value (fields + length f.lines) = number ∙ ap (λ (ls : List Line). Value (fields + length ls)) lines in
    let next : as_is after c ≡ with_op fields values (as_is before a) o.0 (form o.1) =
    ap (λ (ls : List Line). as_is ls c) is_after ∙ ap (as_is (f.lines ++ line.Bin o.0 a f.operand ∷ [])) is_c in
    let step : folded fields values (as_is before a) (op_forms (drop k ops)) ≡ folded fields values (with_op fields values (as_is before a) o.0 (form o.1)) rest =
    ap (λ (xs : List (BinOp × Part)). folded fields values (as_is before a) (op_forms xs)) (op_at k ops o h e) in
    ap (λ (x : Flattened). folded fields values x rest) next ∙ sym step ∙ inv

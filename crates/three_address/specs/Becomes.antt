-- The statements that an expression is, by cases. First its hashes get their modulus and its chains are grouped from the left;
-- then it is the statements of its parts, one after another, and one of its own.
use Rattle.std.specs.Prelude.{◌≡◌, ℕ, ◌+◌, ◌==◌, List, [], ◌∷◌, ◌++◌, length, slice_index_or, if◌then◌else◌}
use Rattle.dom_words.specs.declared.hash.HashName.{HashName}
use Rattle.dom_words.specs.declared.operators.BinOp.{BinOp}
use Rattle.dom_words.specs.declared.operators.UnOp.{UnOp}
use Rattle.dom_ast.specs.Resolved.{PartForm, number, field, state, fresh, made, call, un, chain, choice, PartForms, no_parts, part, OpForms, no_ops, op}
use Rattle.dom_flat.specs.declared.line.Operand.{Operand}
use Rattle.dom_flat.specs.declared.line.Operand.TheVariants.{Const, Value}
use Rattle.dom_flat.specs.declared.line.Line.{Line}
use Rattle.dom_flat.specs.declared.line.Line.TheVariants as line
use Rattle.three_address.specs.Flattening.{first_modulus}

-- an expression whose hashes have their modulus, where 0 is none, and whose operators have two operands at most
mutual
  pub data Fused : Type 0 where
    constant : ℕ → Fused
    entered : ℕ → Fused
    item : ℕ → Fused
    hash : HashName → ℕ → FusedList → Fused
    unary : UnOp → Fused → Fused
    binary : BinOp → Fused → Fused → Fused
    conditional : Fused → Fused → Fused → Fused

  pub data FusedList : Type 0 where
    no_more : FusedList
    also : Fused → FusedList → FusedList

-- a call is a hash with the modulus that it is given; arrays and fresh names do not occur
abbrev mutual
  pub fused : ℕ → PartForm → Fused
  fused modulus (number w) = constant w
  fused modulus (field f) = entered f
  fused modulus (state a i) = constant 0
  fused modulus (fresh k) = constant 0
  fused modulus (made k) = item k
  fused modulus (call unit ps) = hash unit modulus (all_fused ps)
  fused modulus (un o p) = unary o (fused 0 p)
  fused modulus (chain p os) =
      if first_modulus p os == 0 then grouped (fused 0 p) os else grouped_later (fused (first_modulus p os) p) os
  fused modulus (choice c p q) = conditional (fused 0 c) (fused 0 p) (fused 0 q)

  pub all_fused : PartForms → FusedList
  all_fused no_parts = no_more
  all_fused (part p ps) = also (fused 0 p) (all_fused ps)

  -- an expression and the operators behind it, from the left
  pub grouped : Fused → OpForms → Fused
  grouped e no_ops = e
  grouped e (op o p os) = grouped (binary o e (fused 0 p)) os

  -- all operators but the first, which a hash has taken
  pub grouped_later : Fused → OpForms → Fused
  grouped_later e no_ops = e
  grouped_later e (op o p os) = grouped e os

-- From value n on, the expression is these statements and this operand: those of its parts one after another, and then one of
-- its own, whose value is the operand. `values` has the operand of each item's value.
abbrev mutual
  pub Becomes : List Operand → ℕ → Fused → List Line → Operand → Type 0
  Becomes values n (constant w) lines o = (lines ≡ []) × (o ≡ Const w)
  Becomes values n (entered f) lines o = (lines ≡ []) × (o ≡ Value f)
  Becomes values n (item k) lines o = (lines ≡ []) × (o ≡ slice_index_or values k (Const 0))
  Becomes values n (hash unit modulus es) lines o =
      (before : List Line) × (args : List Operand) × AllBecome values n es before args
      × (lines ≡ before ++ line.Hash unit modulus args ∷ []) × (o ≡ Value (n + length before))
  Becomes values n (unary sign e) lines o =
      (before : List Line) × (a : Operand) × Becomes values n e before a
      × (lines ≡ before ++ line.Un sign a ∷ []) × (o ≡ Value (n + length before))
  Becomes values n (binary sign e f) lines o =
      (first : List Line) × (second : List Line) × (a : Operand) × (b : Operand)
      × Becomes values n e first a × Becomes values (n + length first) f second b
      × (lines ≡ (first ++ second) ++ line.Bin sign a b ∷ []) × (o ≡ Value (n + length (first ++ second)))
  Becomes values n (conditional c e f) lines o =
      (test : List Line) × (first : List Line) × (second : List Line) × (t : Operand) × (a : Operand) × (b : Operand)
      × Becomes values n c test t × Becomes values (n + length test) e first a
      × Becomes values (n + length (test ++ first)) f second b
      × (lines ≡ ((test ++ first) ++ second) ++ line.Cond t a b ∷ []) × (o ≡ Value (n + length ((test ++ first) ++ second)))

  -- expressions, one after another
  pub AllBecome : List Operand → ℕ → FusedList → List Line → List Operand → Type 0
  AllBecome values n no_more lines os = (lines ≡ []) × (os ≡ [])
  AllBecome values n (also e es) lines os =
      (first : List Line) × (rest : List Line) × (a : Operand) × (others : List Operand) × Becomes values n e first a
      × AllBecome values (n + length first) es rest others × (lines ≡ first ++ rest) × (os ≡ a ∷ others)

-- Expressions as statements of one operation each. `fields` is the number of fields, and `lines` are the statements so far.
use Rattle.std.specs.Prelude.{ℕ, ◌+◌, ◌==◌, ◌&&◌, nat_le, Bool, List, [], ◌∷◌, ◌++◌, length, slice_index_or, if◌then◌else◌}
use Rattle.dom_words.specs.declared.operators.BinOp.{BinOp}
use Rattle.dom_words.specs.declared.operators.BinOp.TheVariants.{Rem}
use Rattle.dom_ast.specs.Resolved.{PartForm, number, field, state, fresh, made, call, un, chain, choice, PartForms, no_parts, part, OpForms, no_ops, op}
use Rattle.dom_flat.specs.declared.line.Operand.{Operand}
use Rattle.dom_flat.specs.declared.line.Operand.TheVariants.{Const, Value}
use Rattle.dom_flat.specs.declared.line.Line.{Line}
use Rattle.dom_flat.specs.declared.line.Line.TheVariants as line

-- the statements so far, and the operand that the last expression became
pub record Flattened : Type 0 where
  pub lines : List Line
  pub operand : Operand

-- the statements so far, and the operands that the last expressions became
pub record AllFlattened : Type 0 where
  pub lines : List Line
  pub operands : List Operand

-- an operand that needs no statement
abbrev pub as_is : List Line → Operand → Flattened
as_is lines o = record { lines = lines; operand = o }

-- one statement more, whose value is the operand: with so many fields, statement j makes value fields + j
abbrev pub with_line : ℕ → List Line → Line → Flattened
with_line fields lines l = record { lines = lines ++ l ∷ []; operand = Value (fields + length lines) }

-- a hash unit takes these numbers as its modulus
abbrev pub is_modulus : ℕ → Bool
is_modulus m = nat_le 1 m && nat_le m 2147483647

-- the modulus that an expression is; 0 for all that is none
abbrev pub as_modulus : PartForm → ℕ
as_modulus (number m) = if is_modulus m then m else 0
as_modulus _ = 0

-- the modulus that an operator with its operand is: `%` with such a number
abbrev pub op_modulus : BinOp → PartForm → ℕ
op_modulus Rem p = as_modulus p
op_modulus _ p = 0

-- the modulus that the first of these operators is
abbrev pub ops_modulus : OpForms → ℕ
ops_modulus no_ops = 0
ops_modulus (op o p os) = op_modulus o p

-- the modulus that the first operand of a chain takes with it: a call takes that of the first operator, where it has one
abbrev pub first_modulus : PartForm → OpForms → ℕ
first_modulus (call unit ps) os = ops_modulus os
first_modulus _ os = 0

-- An expression after the statements so far, from left to right, operands before the operator. `values` has the operand
-- that each item's value became. A call is one hash, and takes the modulus; 0 is none. No constants are folded.
abbrev mutual
  pub flattened : ℕ → List Operand → List Line → ℕ → PartForm → Flattened
  flattened fields values lines modulus (number w) = as_is lines (Const w)
  flattened fields values lines modulus (field f) = as_is lines (Value f)
  flattened fields values lines modulus (state a i) = as_is lines (Const 0)
  flattened fields values lines modulus (fresh k) = as_is lines (Const 0)
  flattened fields values lines modulus (made k) = as_is lines (slice_index_or values k (Const 0))
  flattened fields values lines modulus (call unit ps) =
      let args = all_flattened fields values lines ps in
      with_line fields args.lines (line.Hash unit modulus args.operands)
  flattened fields values lines modulus (un o p) =
      let a = flattened fields values lines 0 p in
      with_line fields a.lines (line.Un o a.operand)
  flattened fields values lines modulus (chain p os) =
      let first = flattened fields values lines (first_modulus p os) p in
      if first_modulus p os == 0 then folded fields values first os else folded_later fields values first os
  flattened fields values lines modulus (choice c p q) =
      let test = flattened fields values lines 0 c in
      let a = flattened fields values test.lines 0 p in
      let b = flattened fields values a.lines 0 q in
      with_line fields b.lines (line.Cond test.operand a.operand b.operand)

  -- one expression after another
  pub all_flattened : ℕ → List Operand → List Line → PartForms → AllFlattened
  all_flattened fields values lines no_parts = record { lines = lines; operands = [] }
  all_flattened fields values lines (part p ps) =
      let first = flattened fields values lines 0 p in
      let rest = all_flattened fields values first.lines ps in
      record { lines = rest.lines; operands = first.operand ∷ rest.operands }

  -- one operator after another
  pub folded : ℕ → List Operand → Flattened → OpForms → Flattened
  folded fields values a no_ops = a
  folded fields values a (op o p os) =
      let b = flattened fields values a.lines 0 p in
      folded fields values (with_line fields b.lines (line.Bin o a.operand b.operand)) os

  -- all operators but the first, which a hash has taken
  pub folded_later : ℕ → List Operand → Flattened → OpForms → Flattened
  folded_later fields values a no_ops = a
  folded_later fields values a (op o p os) = folded fields values a os

-- One name for each value: a walk through the flanks and steps that keeps what stands for each name, and makes an item for
-- each value.
use Rattle.std.specs.Prelude.{ℕ, ◌==◌, List, [], ◌∷◌, ◌++◌, Option, Some, None, fold, if◌then◌else◌, length, map}
use Rattle.std.specs.List.{range_with_len}
use Rattle.dom_ast.specs.declared.part.Goal.{Goal}
use Rattle.dom_ast.specs.declared.part.Goal.TheVariants as goal
use Rattle.dom_ast.specs.declared.part.Place.{Place}
use Rattle.dom_ast.specs.declared.part.Place.TheVariants as place
use Rattle.dom_ast.specs.Flanks.{FlankForm}
use Rattle.dom_ast.specs.Flanks as flank
use Rattle.dom_ast.specs.Named.{NamedForm, read, make, write}
use Rattle.dom_ast.specs.Resolved.{PartForm, number, field, state, fresh, made, call, un, chain, choice, PartForms, no_parts, part, OpForms, no_ops, op}
use Rattle.dom_ast.specs.Straight.{StepForm}
use Rattle.ssa_names.specs.declared.operand.Operand.{Operand}
use Rattle.ssa_names.specs.declared.operand.Operand.TheVariants.{Number, Field, Made}

-- the operand as an expression
abbrev pub operand_form : Operand → PartForm
operand_form (Number w) = number w
operand_form (Field f) = field f
operand_form (Made k) = made k

-- What stands at a moment for each field, each array and each fresh name, and for the index at which each array was read.
pub record Current : Type 0 where
  pub fields : ℕ → Operand
  pub arrays : ℕ → Operand
  pub fresh : ℕ → Operand
  pub indexes : ℕ → Operand

-- the items so far, and what stands for each name then
pub record Naming : Type 0 where
  pub now : Current
  pub items : List NamedForm

-- operands with another one at number k
abbrev pub with_operand : ℕ → Operand → (ℕ → Operand) → ℕ → Operand
with_operand k o operands j = if j == k then o else operands j

-- what stands for an index
abbrev pub place_operand : Current → Place → Operand
place_operand now (place.Word w) = Number w
place_operand now (place.Field f) = now.fields f

-- what a literal or a name stands for; every other expression stands for nothing yet
abbrev pub plain : Current → PartForm → Option Operand
plain now (number w) = Some (Number w)
plain now (field f) = Some (now.fields f)
plain now (state a i) = Some (now.arrays a)
plain now (fresh k) = Some (now.fresh k)
plain now (made k) = Some (Made k)
plain now _ = None

-- an expression with what stands for its names in their places
abbrev mutual
  pub renamed : Current → PartForm → PartForm
  renamed now (number w) = number w
  renamed now (field f) = operand_form (now.fields f)
  renamed now (state a i) = operand_form (now.arrays a)
  renamed now (fresh k) = operand_form (now.fresh k)
  renamed now (made k) = made k
  renamed now (call unit ps) = call unit (all_renamed now ps)
  renamed now (un o p) = un o (renamed now p)
  renamed now (chain p os) = chain (renamed now p) (ops_renamed now os)
  renamed now (choice c p q) = choice (renamed now c) (renamed now p) (renamed now q)

  pub all_renamed : Current → PartForms → PartForms
  all_renamed now no_parts = no_parts
  all_renamed now (part p ps) = part (renamed now p) (all_renamed now ps)

  pub ops_renamed : Current → OpForms → OpForms
  ops_renamed now no_ops = no_ops
  ops_renamed now (op o p os) = op o (renamed now p) (ops_renamed now os)

-- an operand stands for a target from now on
abbrev pub assigned : Goal → Operand → Current → Current
assigned (goal.Field f) o now = record now { fields = with_operand f o now.fields }
assigned (goal.State a i) o now = record now { arrays = with_operand a o now.arrays }
assigned (goal.Fresh k) o now = record now { fresh = with_operand k o now.fresh }

-- an operand stands for the word of an array that is read at an index
abbrev pub read_at : ℕ → Operand → Operand → Current → Current
read_at a i o now = record now { arrays = with_operand a o now.arrays; indexes = with_operand a i now.indexes }

-- a read flank makes a value of its index's operand
abbrev pub named_read : Naming → ℕ → Operand → Naming
named_read n a i = record {
  now = read_at a i (Made (length n.items)) n.now;
  items = n.items ++ read a (operand_form i) ∷ [];
}

-- a step whose value is a literal or a name is a copy and makes no item; every other step makes a value
abbrev pub named_set : Naming → StepForm → Option Operand → Naming
named_set n s (Some o) = record n { now = assigned s.target o n.now }
named_set n s None = record {
  now = assigned s.target (Made (length n.items)) n.now;
  items = n.items ++ make (renamed n.now s.value) ∷ [];
}

-- a write flank has the read flank's index, and writes what stands for the array
abbrev pub named_write : Naming → ℕ → Naming
named_write n a = record n { items = n.items ++ write a (operand_form (n.now.indexes a)) (operand_form (n.now.arrays a)) ∷ [] }

-- one flank or step more
abbrev pub named_item : Naming → FlankForm → Naming
named_item n (flank.read a i) = named_read n a (place_operand n.now i)
named_item n (flank.set s) = named_set n s (plain n.now s.value)
named_item n (flank.write a i) = named_write n a

-- at the start the entered value of each field stands for it, and the number 0 for all else
abbrev pub starting : Current
starting = record { fields = Field; arrays = λ a. Number 0; fresh = λ k. Number 0; indexes = λ a. Number 0 }

-- the items of a list of steps between flanks
abbrev pub named : List FlankForm → Naming
named items = fold named_item (record { now = starting; items = [] }) items

-- what stands for so many fields at the end
abbrev pub outputs_of : ℕ → Naming → List PartForm
outputs_of fields n = map (λ f. operand_form (n.now.fields f)) (range_with_len 0 fields)

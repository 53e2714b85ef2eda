-- Resolved trees and the lists between the passes as plain data, without the places in memory where they are kept. There an
-- expression is called a part, a target a goal, a statement an act, and a transaction a body.
use Rattle.std.specs.Prelude.{ℕ, List, [], ◌∷◌, map, Option, Some, None}
use Rattle.dom_words.specs.declared.array.Array.{Array}
use Rattle.dom_words.specs.declared.hash.HashName.{HashName}
use Rattle.dom_words.specs.declared.operators.BinOp.{BinOp}
use Rattle.dom_words.specs.declared.operators.UnOp.{UnOp}
use Rattle.dom_ast.specs.declared.part.Place.{Place}
use Rattle.dom_ast.specs.declared.part.Goal.{Goal}
use Rattle.dom_ast.specs.declared.part.Part.{Part}
use Rattle.dom_ast.specs.declared.part.Part.TheFolds.{fold-Part}
use Rattle.dom_ast.specs.declared.part.Part.TheOpen.{Part-F}
use Rattle.dom_ast.specs.declared.checked.Act.{Act}
use Rattle.dom_ast.specs.declared.checked.Act.TheFolds.{fold-Act}
use Rattle.dom_ast.specs.declared.checked.Act.TheOpen.{Act-F}

-- An expression whose names are numbers: of a field, of an array with its index, of a fresh name, of a made value. Fresh
-- names, each for the word of a condition, and made values, each of an item of a list with one name for each value, come
-- with the passes of the compiler.
mutual
  pub data PartForm : Type 0 where
    number : ℕ → PartForm
    field : ℕ → PartForm
    state : ℕ → Place → PartForm
    fresh : ℕ → PartForm
    made : ℕ → PartForm
    call : HashName → PartForms → PartForm
    un : UnOp → PartForm → PartForm
    chain : PartForm → OpForms → PartForm
    choice : PartForm → PartForm → PartForm → PartForm

  pub data PartForms : Type 0 where
    no_parts : PartForms
    part : PartForm → PartForms → PartForms

  pub data OpForms : Type 0 where
    no_ops : OpForms
    op : BinOp → PartForm → OpForms → OpForms

-- a statement
mutual
  pub data ActForm : Type 0 where
    assign : Goal → PartForm → ActForm
    branch : PartForm → ActForms → ActForms → ActForm

  pub data ActForms : Type 0 where
    no_acts : ActForms
    act : ActForm → ActForms → ActForms

-- a transaction: its guard, if it has one, and its statements
pub record BodyForm : Type 0 where
  pub guard : Option PartForm
  pub acts : ActForms

-- lists of trees, in the form that they have inside of trees
abbrev pub parts_of : List PartForm → PartForms
parts_of [] = no_parts
parts_of (p ∷ ps) = part p (parts_of ps)

abbrev pub ops_of : List (BinOp × PartForm) → OpForms
ops_of [] = no_ops
ops_of (p ∷ ps) = op p.0 p.1 (ops_of ps)

abbrev pub acts_of : List ActForm → ActForms
acts_of [] = no_acts
acts_of (a ∷ rest) = act a (acts_of rest)

-- one level of an expression, with the form of each part in its place
abbrev pub part_step : Part-F PartForm → PartForm
part_step (Part-F.Number w) = number w
part_step (Part-F.Field f) = field f
part_step (Part-F.State a i) = state a i
part_step (Part-F.Fresh k) = fresh k
part_step (Part-F.Made k) = made k
part_step (Part-F.Call unit args) = call unit (parts_of args)
part_step (Part-F.Un o arg) = un o arg.value
part_step (Part-F.Chain first rest) = chain first.value (ops_of rest)
part_step (Part-F.Cond test a b) = choice test.value a.value b.value

-- The form of an expression, of expressions, of operators with their operands, and so on up to that of transactions.
abbrev pub form : Part → PartForm
form = fold-Part PartForm part_step

abbrev pub forms : List Part → PartForms
forms ps = parts_of (map form ps)

-- one level of a statement
abbrev pub act_step : Act-F ActForm → ActForm
act_step (Act-F.Assign target value) = assign target (form value)
act_step (Act-F.If test a b) = branch (form test) (acts_of a) (acts_of b)

abbrev pub act_form : Act → ActForm
act_form = fold-Act ActForm act_step

abbrev pub act_forms : List Act → ActForms
act_forms acts = acts_of (map act_form acts)

abbrev pub guard_form : Option Part → Option PartForm
guard_form None = None
guard_form (Some p) = Some (form p)

abbrev pub body_form : Option Part × List Act → BodyForm
body_form body = record { guard = guard_form body.0; acts = act_forms body.1 }

abbrev pub bodies_form : List (Option Part × List Act) → List BodyForm
bodies_form bodies = map body_form bodies

-- a program whose names are numbers: the names of its fields, its arrays, its transactions
pub record CheckedForm : Type 0 where
  pub fields : List (List ℕ)
  pub arrays : List Array
  pub bodies : List BodyForm

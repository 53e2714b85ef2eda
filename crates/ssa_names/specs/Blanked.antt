-- What is left of flanks, steps and items without their names: each literal and each name is the number 0.
use Rattle.std.specs.Prelude.{Bool, true, false, List, [], ◌∷◌, if◌then◌else◌}
use Rattle.dom_ast.specs.Flanks.{FlankForm}
use Rattle.dom_ast.specs.Flanks as flank
use Rattle.dom_ast.specs.Named.{NamedForm, read, make, write}
use Rattle.dom_ast.specs.Resolved.{PartForm, number, call, un, chain, choice, PartForms, no_parts, part, OpForms, no_ops, op}

-- an expression with the number 0 for each literal and name
abbrev mutual
  pub blanked : PartForm → PartForm
  blanked (call unit ps) = call unit (all_blanked ps)
  blanked (un o p) = un o (blanked p)
  blanked (chain p os) = chain (blanked p) (ops_blanked os)
  blanked (choice c p q) = choice (blanked c) (blanked p) (blanked q)
  blanked _ = number 0

  pub all_blanked : PartForms → PartForms
  all_blanked no_parts = no_parts
  all_blanked (part p ps) = part (blanked p) (all_blanked ps)

  pub ops_blanked : OpForms → OpForms
  ops_blanked no_ops = no_ops
  ops_blanked (op o p os) = op o (blanked p) (ops_blanked os)

-- a step is a copy where its value is a literal or a name
abbrev pub is_copied : PartForm → Bool
is_copied (call unit ps) = false
is_copied (un o p) = false
is_copied (chain p os) = false
is_copied (choice c p q) = false
is_copied _ = true

-- the items that a flank or a step makes: one each, but none for a copy
abbrev pub left_of : FlankForm → List NamedForm
left_of (flank.read a i) = read a (number 0) ∷ []
left_of (flank.set s) = if is_copied s.value then [] else make (blanked s.value) ∷ []
left_of (flank.write a i) = write a (number 0) (number 0) ∷ []

-- an item with its expressions blanked
abbrev pub blanked_item : NamedForm → NamedForm
blanked_item (read a i) = read a (blanked i)
blanked_item (make p) = make (blanked p)
blanked_item (write a i p) = write a (blanked i) (blanked p)

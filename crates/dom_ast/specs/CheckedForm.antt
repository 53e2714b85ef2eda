-- A resolved program as plain data, and what heads have in every program that is spelled.
use Rattle.std.specs.Prelude.{ℕ, Bool, true, false, ◌&&◌, nat_eq, List, [], ◌∷◌}
use Rattle.std.specs.List.{count_by, list_all}
use Rattle.dom_ast.specs.declared.checked.Checked.{Checked}
use Rattle.dom_ast.specs.declared.program.Head.{Head}
use Rattle.dom_ast.specs.declared.program.Head.TheVariants as head
use Rattle.dom_ast.specs.Resolved.{CheckedForm, bodies_form}

-- a resolved program as plain data
abbrev pub checked_form : Checked → CheckedForm
checked_form c = record { fields = c.fields; arrays = c.arrays; bodies = bodies_form c.bodies }

-- a head is the struct
abbrev pub is_struct : Head → Bool
is_struct (head.Define p name w) = false
is_struct (head.Struct p tag fields) = true
is_struct (head.Global p name l i) = false

abbrev pub is_some_field : List (ℕ × List ℕ) → Bool
is_some_field [] = false
is_some_field (f ∷ fields) = true

-- a struct has a field; of other heads nothing is asked
abbrev pub has_field : Head → Bool
has_field (head.Define p name w) = true
has_field (head.Struct p tag fields) = is_some_field fields
has_field (head.Global p name l i) = true

-- there is exactly one struct, and it has a field
abbrev pub has_one_struct : List Head → Bool
has_one_struct heads = nat_eq (count_by is_struct heads) 1 && list_all has_field heads

-- Lists with one name for each value.
use Rattle.std.specs.Prelude.{ℕ, suc, ◌+◌, Bool, true, false, ◌&&◌, nat_eq, nat_lt, List, [], ◌∷◌, ◌++◌, fold, map, sum, slice_index, slice_index_or}
use Rattle.std.specs.List.{list_all}
use Rattle.dom_words.specs.Order.{Event, reading, writing, working, are_ordered}
use Rattle.dom_words.specs.State.{Hash, Outcome, fetched, stored}
use Rattle.dom_ast.specs.declared.named.NamedItem.{NamedItem}
use Rattle.dom_ast.specs.declared.named.NamedItem.TheVariants as item
use Rattle.dom_ast.specs.Resolved.{PartForm, form, number, field, state, fresh, made, call, un, chain, choice}
use Rattle.dom_ast.specs.Kept.{Ranges, part_within}
use Rattle.dom_ast.specs.Meaning.{Names, value}
use Rattle.dom_ast.specs.PartSize.{part_nodes}

-- an item: the word of an array at an index, a value, or a word that is written to an array at an index
pub data NamedForm : Type 0 where
  read : ℕ → PartForm → NamedForm
  make : PartForm → NamedForm
  write : ℕ → PartForm → PartForm → NamedForm

-- such an item as plain data
abbrev pub named_form : NamedItem → NamedForm
named_form (item.Read a i) = read a (form i)
named_form (item.Make p) = make (form p)
named_form (item.Write a i p) = write a (form i) (form p)

-- a number, a field or a made value
abbrev pub is_operand : PartForm → Bool
is_operand (number w) = true
is_operand (field f) = true
is_operand (made k) = true
is_operand _ = false

-- two operands are the same
abbrev pub is_same_operand : PartForm → PartForm → Bool
is_same_operand (number w) (number v) = nat_eq w v
is_same_operand (field f) (field g) = nat_eq f g
is_same_operand (made k) (made j) = nat_eq k j
is_same_operand _ _ = false

-- which items make a value
abbrev pub makes : NamedForm → Bool
makes (read a i) = true
makes (make p) = true
makes (write a i p) = false

-- which of the items make a value, in order
abbrev pub makes_of : List NamedForm → List Bool
makes_of items = map makes items

-- an expression may name the fields and the values of the items so far that make one
abbrev pub named_ranges : ℕ → List Bool → Ranges
named_ranges fields made_so_far =
    record { fields = fields; arrays = 0; fresh = 0; is_made = λ k. slice_index_or made_so_far k false }

-- an operand, with a number in range
abbrev pub operand_within : ℕ → List Bool → PartForm → Bool
operand_within fields made_so_far p = is_operand p && part_within (named_ranges fields made_so_far) p

-- the numbers of an item are in range, after items that make these values
abbrev pub item_within : ℕ → ℕ → List Bool → NamedForm → Bool
item_within fields arrays before (read a i) = nat_lt a arrays && operand_within fields before i
item_within fields arrays before (make p) = part_within (named_ranges fields before) p
item_within fields arrays before (write a i p) =
    nat_lt a arrays && (operand_within fields before i && operand_within fields before p)

-- after items that make these values, numbers are in range, and values are used after they are made
abbrev pub are_named : ℕ → ℕ → List Bool → List NamedForm → Bool
are_named fields arrays before [] = true
are_named fields arrays before (item ∷ items) =
    item_within fields arrays before item && are_named fields arrays (before ++ makes item ∷ []) items

-- what an item is to the arrays
abbrev pub item_event : NamedForm → Event PartForm
item_event (read a i) = reading a i
item_event (make p) = working []
item_event (write a i p) = writing a i

-- no array is read twice or written twice, and a write stands after its array's read and has its index
abbrev pub are_in_order : List NamedForm → Bool
are_in_order items = are_ordered is_same_operand [] [] (map item_event items)

-- each output is an operand with a number in range
abbrev pub are_outputs : ℕ → List Bool → List PartForm → Bool
are_outputs fields made_so_far outputs = list_all (operand_within fields made_so_far) outputs

-- the words of the arrays, and the value of each item so far; a write makes 0, which nothing uses
pub record NamedEnv : Type 0 where
  pub arrays : List (List ℕ)
  pub made : List ℕ

-- what names stand for: the entered fields and the values so far; there are no arrays and no fresh names
abbrev pub item_names : List ℕ → List ℕ → Names
item_names packet values = record { field = slice_index packet; state = λ a i. 0; fresh = λ k. 0; made = slice_index values }

-- the word of an expression, for an entered packet and the values so far
abbrev pub named_value : Hash → List ℕ → NamedEnv → PartForm → ℕ
named_value hash packet env p = value hash (item_names packet env.made) p

-- what an item does, for an entered packet
abbrev pub named_step : Hash → List ℕ → NamedEnv → NamedForm → NamedEnv
named_step hash packet env (read a i) =
    record { arrays = env.arrays; made = env.made ++ fetched env.arrays a (named_value hash packet env i) ∷ [] }
named_step hash packet env (make p) = record { arrays = env.arrays; made = env.made ++ named_value hash packet env p ∷ [] }
named_step hash packet env (write a i p) =
    record { arrays = stored env.arrays a (named_value hash packet env i) (named_value hash packet env p); made = env.made ++ 0 ∷ [] }

-- the items one after another
abbrev pub all_named : Hash → List ℕ → NamedEnv → List NamedForm → NamedEnv
all_named hash packet env items = fold (named_step hash packet) env items

-- the words of the outputs, and the state at the end
abbrev pub named_end : Hash → List ℕ → List PartForm → NamedEnv → Outcome
named_end hash packet outputs env = record { packet = map (named_value hash packet env) outputs; arrays = env.arrays }

-- what items and outputs make of a packet and a state
abbrev pub named_outcome : Hash → List NamedForm → List PartForm → List ℕ → List (List ℕ) → Outcome
named_outcome hash items outputs packet arrays =
    named_end hash packet outputs (all_named hash packet (record { arrays = arrays; made = [] }) items)

-- an item and the expression nodes in it
abbrev pub item_nodes : NamedForm → ℕ
item_nodes (read a i) = suc (part_nodes i)
item_nodes (make p) = suc (part_nodes p)
item_nodes (write a i p) = suc (part_nodes i + part_nodes p)

-- the items and the expression nodes in them and in the outputs
abbrev pub named_nodes : List NamedForm → List PartForm → ℕ
named_nodes items outputs = sum (map item_nodes items) + sum (map part_nodes outputs)

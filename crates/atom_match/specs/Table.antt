-- The table of what is found, statement by statement.
use Rattle.std.specs.Prelude.{◌≡◌, ℕ, ◌+◌, ◌-◌, ◌<◌, ◌≤◌, ◌||◌, not, Bool, true, nat_eq, nat_lt, List, length, Option, Some, None, slice_get, unwrap_or, if◌then◌else◌}
use Rattle.std.specs.List.{list_all}
use Rattle.dom_flat.specs.declared.line.Operand.{Operand}
use Rattle.dom_flat.specs.declared.line.Operand.TheVariants as operand
use Rattle.dom_flat.specs.declared.line.Line.{Line}
use Rattle.dom_flat.specs.Lines.{operands_of}
use Rattle.atom_traits.specs.declared.tree.Port.TheVariants as port
use Rattle.atom_traits.specs.declared.tree.Leaf.TheVariants.{Keep, Put}
use Rattle.atom_match.specs.declared.class.View.{View}
use Rattle.atom_match.specs.declared.found.Answer.TheVariants.{Is, Other}
use Rattle.atom_match.specs.declared.found.Found.{Found}
use Rattle.atom_match.specs.declared.found.Fact.{Fact}
use Rattle.atom_match.specs.Classes.{Class, in_class, is_some_value}
use Rattle.codelets.specs.Lists.{has}
use Rattle.atom_match.specs.Rules.{found_as, line_found_if}
use Rattle.atom_match.specs.Resolve.{found_in}

-- what a table has of a value
abbrev pub entry_of : ℕ → List (Option Found) → ℕ → Option Found
entry_of fields table v = if nat_lt v fields then None else unwrap_or (slice_get table (v - fields)) None

abbrev pub found_or : Found → Option Found → Found
found_or other None = other
found_or other (Some found) = found

-- after so many fields and with these containers, what is found of a value: by its entry where it has one
abbrev pub looked : ℕ → (ℕ → ℕ) → View → List Fact → List (Option Found) → ℕ → Found
looked fields container view facts table v =
    if nat_eq v view.read then found_as view.state facts (Is Keep)
    else if is_some_value view.other v then found_as view.state facts Other
    else found_or (found_as view.state facts (Is (Put (port.Container (container v))))) (entry_of fields table v)

-- the next entry, from the entries so far
abbrev pub next_entry : Class → View → List Fact → List (Option Found) → ℕ → Option Found
next_entry c view facts table b =
    if has c.members b then Some (line_found_if view.state facts (λ u. looked c.fields c.container view facts table u) (c.line_of b)) else None

-- the entry of a statement: a member has what its line gives
abbrev pub entry : Class → View → List Fact → ℕ → Option Found
entry c view facts b =
    if has c.members b then Some (line_found_if view.state facts (λ u. found_in c view (c.fields + b) facts u) (c.line_of b)) else None

-- the first n statements are in the table
pub record IsTable (c : Class) (view : View) (facts : List Fact) (n : ℕ) (table : List (Option Found)) : Type 0 where
  pub long : length table ≡ n
  pub each : (b : ℕ) → b < n → slice_get table b ≡ Some (entry c view facts b)

-- a constant, or a value that passes
abbrev pub operand_passes : (ℕ → Bool) → Operand → Bool
operand_passes ok (operand.Const w) = true
operand_passes ok (operand.Value v) = ok v

-- an earlier value, or one from outside
abbrev pub is_early : Class → ℕ → ℕ → Bool
is_early c v u = nat_lt u v || not (in_class c u)

-- of n statements, those of the class use earlier values and values from outside alone
pub record IsEarlier (c : Class) (n : ℕ) : Type 0 where
  pub some_fields : 1 ≤ c.fields
  pub within : list_all (λ b. nat_lt b n) c.members ≡ true
  pub earlier : (b : ℕ) (l : Line) → has c.members b ≡ true → c.line_of b ≡ Some l → list_all (operand_passes (is_early c (c.fields + b))) (operands_of l) ≡ true

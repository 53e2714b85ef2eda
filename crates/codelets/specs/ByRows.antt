-- The codelets of a statement list by the rows of its graph, as they are found.
use Rattle.std.specs.Prelude.{ℕ, Bool, ◌&&◌, nat_lt, List, length, map, Option, Some, None}
use Rattle.std.specs.List.{filter}
use Rattle.dom_flat.specs.declared.flat.Flat.{Flat}
use Rattle.dom_flat.specs.declared.line.Operand.{Operand}
use Rattle.dep_graph.specs.Rows.{cell}
use Rattle.dom_flat.specs.Form.{flat_form}
use Rattle.dom_flat.specs.Lines.{is_flank}
use Rattle.codelets.specs.Flat.{linked}
use Rattle.codelets.specs.Linked.{Linked, is_so, numbers}
use Rattle.codelets.specs.Cut.{Cut, cut, outer, seen_by, used_in}

-- a number past the rows reaches nothing
abbrev pub reaches_in : List (List ℕ) → ℕ → ℕ → Bool
reaches_in rows a b = nat_lt a (length rows) && (nat_lt b (length rows) && cell rows a b)

abbrev pub linked_by : Flat → List (List ℕ) → Linked
linked_by flat rows = linked (flat_form flat) (reaches_in rows)

abbrev pub cut_by : Flat → List (List ℕ) → Cut
cut_by flat rows = cut (linked_by flat rows)

-- an operand as a statement of a class has it, or as users outside do
abbrev pub seen_for : Cut → Option ℕ → Operand → Operand
seen_for D None o = outer D o
seen_for D (Some b) o = seen_by D b o

-- the places of the codelets that each codelet uses, by number
abbrev pub use_lists : Cut → List (List ℕ)
use_lists D = map (used_in D D.all) D.all

-- the numbers of the flanks
abbrev pub flanks_of : Linked → List ℕ
flanks_of P = filter (is_so P is_flank) (numbers P)

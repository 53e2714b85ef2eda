-- The statement list of a list with one name for each value.
use Rattle.std.specs.Prelude.{◌≡◌, ◌<◌, ℕ, Bool, List, [], ◌∷◌, ◌++◌, fold, map, ⊤}
use Rattle.dom_ast.specs.Named.{NamedForm, read, make, write}
use Rattle.dom_ast.specs.Resolved.{PartForm, parts_of}
use Rattle.dom_flat.specs.declared.line.Operand.{Operand}
use Rattle.dom_flat.specs.declared.line.Line.{Line}
use Rattle.dom_flat.specs.declared.line.Line.TheVariants as line
use Rattle.three_address.specs.declared.fault.FlatFault.{FlatFault}
use Rattle.three_address.specs.declared.fault.FlatFault.TheVariants as fault
use Rattle.three_address.specs.Flattening.{AllFlattened, Flattened, all_flattened, with_line, flattened}
use Rattle.three_address.specs.Needs.{kept, line_renumbered, needed, new_number, renumbered}

-- the statements so far, and the operand that each item's value became
pub record Draft : Type 0 where
  pub lines : List Line
  pub values : List Operand

-- an item after the statements so far; a write flank's value is its number, which nothing uses
abbrev pub item_flattened : ℕ → List Operand → List Line → NamedForm → Flattened
item_flattened fields values lines (read a i) =
    let index = flattened fields values lines 0 i in
    with_line fields index.lines (line.Fetch a index.operand)
item_flattened fields values lines (make p) = flattened fields values lines 0 p
item_flattened fields values lines (write a i p) =
    let index = flattened fields values lines 0 i in
    let value = flattened fields values index.lines 0 p in
    with_line fields value.lines (line.Store a index.operand value.operand)

abbrev pub draft : List Line → List Operand → Draft
draft lines values = record { lines = lines; values = values }

-- one item more
abbrev pub with_item : ℕ → Draft → NamedForm → Draft
with_item fields d item =
    let value = item_flattened fields d.values d.lines item in
    draft value.lines (d.values ++ value.operand ∷ [])

-- the items one after another
abbrev pub with_items : ℕ → Draft → List NamedForm → Draft
with_items fields d items = fold (with_item fields) d items

-- the statements of all items, and the operands of the outputs
abbrev pub all_statements : ℕ → List NamedForm → List PartForm → AllFlattened
all_statements fields items outputs =
    let d = with_items fields (draft [] []) items in
    all_flattened fields d.values d.lines (parts_of outputs)

-- which of them are needed
abbrev pub marks_of : ℕ → AllFlattened → List Bool
marks_of fields all = needed all.lines all.operands fields all.lines

-- the statements with these marks, numbered from 0
abbrev pub numbered : ℕ → List Bool → AllFlattened → AllFlattened
numbered fields marks all = record {
  lines = map (line_renumbered (new_number fields marks)) (kept marks all.lines);
  operands = map (renumbered (new_number fields marks)) all.operands;
}

-- the statements that are needed, numbered from 0, and the outputs
abbrev pub needed_only : ℕ → AllFlattened → AllFlattened
needed_only fields all = numbered fields (marks_of fields all) all

-- the statement list of items and outputs
abbrev pub statements : ℕ → List NamedForm → List PartForm → AllFlattened
statements fields items outputs = needed_only fields (all_statements fields items outputs)

-- why a list of so many statements is refused
abbrev pub IsRefused : FlatFault → ℕ → Type 0
IsRefused (fault.TooManyStatements n) count = (n ≡ count) × (512 < n)
IsRefused fault.Memory count = ⊤

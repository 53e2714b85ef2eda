-- A class of statements with flanks, as the matcher sees it.
use Rattle.std.specs.Prelude.{ℕ, ◌+◌, ◌-◌, ◌&&◌, not, Bool, true, false, nat_eq, nat_le, List, length, map, Option, Some, None, unwrap_or, if◌then◌else◌}
use Rattle.dom_flat.specs.declared.line.Operand.{Operand}
use Rattle.dom_flat.specs.declared.line.Operand.TheVariants as operand
use Rattle.dom_flat.specs.declared.line.Line.{Line}
use Rattle.dom_flat.specs.declared.line.Line.TheVariants as line
use Rattle.codelets.specs.declared.answer.Codelets.{Codelets}
use Rattle.codelets.specs.declared.codelet.Codelet.{Codelet}
use Rattle.codelets.specs.declared.codelet.Slot.{Slot}
use Rattle.codelets.specs.Answer.{line_in}
use Rattle.codelets.specs.Lists.{first_some, has, place_in}
use Rattle.atom_match.specs.declared.class.Flanks.{Flanks}
use Rattle.atom_match.specs.declared.class.View.{View}

-- members are numbers of statements, and line_of gives them; statement b makes value fields + b; container gives the
-- container of each value that has one; slots stand in the order of their arrays
pub record Class : Type 0 where
  pub fields : ℕ
  pub members : List ℕ
  pub slots : List Flanks
  pub line_of : ℕ → Option Line
  pub container : ℕ → ℕ

-- after so many fields, one of these statements makes the value
abbrev pub makes_value : ℕ → List ℕ → ℕ → Bool
makes_value fields members v = nat_le fields v && has members (v - fields)

-- a member makes the value
abbrev pub in_class : Class → ℕ → Bool
in_class c v = makes_value c.fields c.members v

-- a constant or a value that none of these statements makes
abbrev pub is_outside : ℕ → List ℕ → Operand → Bool
is_outside fields members (operand.Const w) = true
is_outside fields members (operand.Value v) = not (makes_value fields members v)

abbrev pub is_some_value : Option ℕ → ℕ → Bool
is_some_value None v = false
is_some_value (Some u) v = nat_eq v u

abbrev pub other_state : ℕ → ℕ
other_state k = if nat_eq k 0 then 1 else 0

-- the slots' views
abbrev pub view_alone : Flanks → View
view_alone s = record { state = 0; read = s.read; other = None }

abbrev pub view_first : Flanks → Flanks → View
view_first s t = record { state = 0; read = s.read; other = Some t.read }

abbrev pub view_second : Flanks → Flanks → View
view_second s t = record { state = 1; read = t.read; other = Some s.read }

-- the value that the read flank of an array makes, where statement b is that flank
abbrev pub fetched_by : ℕ → ℕ → ℕ → Option Line → Option ℕ
fetched_by fields array b None = None
fetched_by fields array b (Some (line.Fetch a i)) = if nat_eq a array then Some (fields + b) else None
fetched_by fields array b (Some (line.Store a i v)) = None
fetched_by fields array b (Some (line.Un op a)) = None
fetched_by fields array b (Some (line.Bin op a d)) = None
fetched_by fields array b (Some (line.Cond a d e)) = None
fetched_by fields array b (Some (line.Hash unit modulus args)) = None

-- what the write flank of an array stores, where the statement is that flank
abbrev pub stored_by : ℕ → Option Line → Option Operand
stored_by array None = None
stored_by array (Some (line.Fetch a i)) = None
stored_by array (Some (line.Store a i v)) = if nat_eq a array then Some v else None
stored_by array (Some (line.Un op a)) = None
stored_by array (Some (line.Bin op a d)) = None
stored_by array (Some (line.Cond a d e)) = None
stored_by array (Some (line.Hash unit modulus args)) = None

-- the value of the read flank of an array among statements
abbrev pub read_of : ℕ → List (Option Line) → List ℕ → ℕ → ℕ
read_of fields table members array = unwrap_or (first_some (λ b. fetched_by fields array b (line_in table b)) members) 0

-- what the write flank of an array among statements stores
abbrev pub write_of : List (Option Line) → List ℕ → ℕ → Option Operand
write_of table members array = first_some (λ b. stored_by array (line_in table b)) members

abbrev pub flanks_at : Codelets → List ℕ → Slot → Flanks
flanks_at codelets members slot = record {
  index = slot.index;
  read = read_of (length codelets.flat.fields) codelets.table members slot.array;
  write = write_of codelets.table members slot.array;
}

-- the container of a value that has one, where these values have containers; for any other the number of containers
abbrev pub container_of : List ℕ → ℕ → ℕ
container_of values v = place_in values v

-- a codelet as a class
abbrev pub class_of : Codelets → Codelet → Class
class_of codelets c = record {
  fields = length codelets.flat.fields;
  members = c.lines;
  slots = map (flanks_at codelets c.lines) c.slots;
  line_of = line_in codelets.table;
  container = container_of codelets.values;
}

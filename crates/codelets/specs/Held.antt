-- The arrays of codelets, and which values a codelet exports.
use Rattle.std.specs.Prelude.{ℕ, ◌+◌, ◌-◌, Bool, false, not, ◌&&◌, ◌||◌, nat_eq, nat_lt, List, ◌++◌, map, Option, Some, None, slice_get, if◌then◌else◌}
use Rattle.std.specs.List.{list_any, filter_map, flat_map, range_with_len}
use Rattle.std.specs.Option.{option_to_list}
use Rattle.dom_flat.specs.declared.line.Operand.{Operand}
use Rattle.dom_flat.specs.declared.line.Operand.TheVariants.{Const, Value}
use Rattle.dom_flat.specs.declared.line.Line.{Line}
use Rattle.dom_flat.specs.declared.line.Line.TheVariants as line
use Rattle.dom_flat.specs.Lines.{is_fetch, is_value}
pub use Rattle.codelets.specs.declared.held.Held.{Held}
use Rattle.codelets.specs.Lists.{first_some, has, meet}
use Rattle.codelets.specs.Linked.{is_so}
use Rattle.codelets.specs.Cut.{Cut, has_flank, line_uses, outer, seen_by}

-- an output or another codelet uses value v of codelet c
abbrev pub is_shared : Cut → List ℕ → ℕ → Bool
is_shared D c v = list_any (λ o. is_value v (outer D o)) D.linked.outputs || list_any (λ d. not (meet d c) && list_any (line_uses D v) d) D.all

-- what statement b stores, where it is the write flank of an array
abbrev pub stored_by : Cut → ℕ → ℕ → Option Line → Option Operand
stored_by D array b None = None
stored_by D array b (Some (line.Fetch a i)) = None
stored_by D array b (Some (line.Store a i v)) = if nat_eq a array then Some (seen_by D b v) else None
stored_by D array b (Some (line.Un op a)) = None
stored_by D array b (Some (line.Bin op a d)) = None
stored_by D array b (Some (line.Cond a d e)) = None
stored_by D array b (Some (line.Hash unit modulus args)) = None

-- what a codelet writes to an array
abbrev pub written : Cut → List ℕ → ℕ → Option Operand
written D c array = first_some (λ b. stored_by D array b (slice_get D.linked.lines b)) c

abbrev pub is_this : ℕ → Option Operand → Bool
is_this v None = false
is_this v (Some o) = is_value v o

abbrev pub if_so : Bool → ℕ → Option ℕ
if_so b v = if b then Some v else None

-- the written value is exported: the codelet makes it, it is no old value, it is shared, and no array before has it
abbrev pub is_new : Cut → List ℕ → ℕ → ℕ → Bool
is_new D c array v =
    (not (nat_lt v D.linked.fields) && has c (v - D.linked.fields))
    && (not (is_so D.linked is_fetch (v - D.linked.fields)) && (is_shared D c v && not (list_any (λ k. is_this v (written D c k)) (range_with_len 0 array))))

abbrev pub new_of : Cut → List ℕ → ℕ → Option Operand → Option ℕ
new_of D c array None = None
new_of D c array (Some (Const w)) = None
new_of D c array (Some (Value v)) = if_so (is_new D c array v) v

-- an array of codelet c, where statement b is its read flank
abbrev pub held_by : Cut → List ℕ → ℕ → ℕ → Option Line → Option Held
held_by D c array b None = None
held_by D c array b (Some (line.Fetch a i)) =
    if nat_eq a array then Some (record { array = array; index = seen_by D b i; read = D.linked.fields + b; write = written D c array; old = if_so (is_shared D c (D.linked.fields + b)) (D.linked.fields + b); new = new_of D c array (written D c array) }) else None
held_by D c array b (Some (line.Store a i v)) = None
held_by D c array b (Some (line.Un op a)) = None
held_by D c array b (Some (line.Bin op a d)) = None
held_by D c array b (Some (line.Cond a d e)) = None
held_by D c array b (Some (line.Hash unit modulus args)) = None

abbrev pub held_at : Cut → List ℕ → ℕ → Option Held
held_at D c array = first_some (λ b. held_by D c array b (slice_get D.linked.lines b)) c

-- the arrays of a codelet in their order
abbrev pub held : Cut → List ℕ → List Held
held D c = filter_map (held_at D c) (range_with_len 0 D.linked.arrays)

abbrev pub old_and_new : Held → List ℕ
old_and_new h = option_to_list h.old ++ option_to_list h.new

-- the values that a codelet exports: without a flank its own, else the shared old and new words of its arrays
abbrev pub exports : Cut → List ℕ → List ℕ
exports D c = if has_flank D c then flat_map old_and_new (held D c) else map (λ b. D.linked.fields + b) c

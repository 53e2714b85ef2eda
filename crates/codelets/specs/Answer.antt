-- Codelets as they are answered.
use Rattle.std.specs.Prelude.{ℕ, List, map, Option, Some, None, slice_index, slice_index_or, if◌then◌else◌}
use Rattle.dom_flat.specs.declared.line.Line.{Line}
use Rattle.codelets.specs.declared.codelet.Codelet.{Codelet}
use Rattle.codelets.specs.declared.codelet.Slot.{Slot}
use Rattle.codelets.specs.declared.codelet.Kind.TheVariants.{Stateful, Stateless}
use Rattle.codelets.specs.Cut.{Cut, has_flank, in_order, level, used_in}
use Rattle.codelets.specs.Held.{Held, held}
use Rattle.codelets.specs.Containers.{place}

abbrev pub option_place : Cut → Option ℕ → Option ℕ
option_place D None = None
option_place D (Some v) = Some (place D v)

abbrev pub slot_of : Cut → Held → Slot
slot_of D h = record { array = h.array; index = h.index; old = option_place D h.old; new = option_place D h.new }

-- the positions of the codelets that a codelet uses
abbrev pub used : Cut → List ℕ → List ℕ
used D c = used_in D (in_order D) c

abbrev pub codelet_of : Cut → List ℕ → Codelet
codelet_of D c = record {
  first = slice_index c 0;
  level = level D c;
  kind = if has_flank D c then Stateful else Stateless;
  lines = c;
  uses = used D c;
  slots = map (slot_of D) (held D c);
}

abbrev pub codelets : Cut → List Codelet
codelets D = map (codelet_of D) (in_order D)

-- the statement with a number in a table
abbrev pub line_in : List (Option Line) → ℕ → Option Line
line_in table number = slice_index_or table number None

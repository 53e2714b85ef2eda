-- A class with three arrays, and a value that two arrays store.
use Rattle.std.proofs.Common.{◌≡◌, List, [], ◌∷◌, Some, None, map, refl}
use Rattle.dom_words.specs.declared.operators.BinOp.TheVariants.{Add}
use Rattle.dom_flat.specs.declared.line.Operand.TheVariants.{Const, Value}
use Rattle.dom_flat.specs.declared.line.Line.{Line}
use Rattle.dom_flat.specs.declared.line.Line.TheVariants as line
use Rattle.codelets.proofs.ReachTable.{table_cell, reach_table}
use Rattle.codelets.specs.Linked.{Linked}
use Rattle.codelets.specs.Cut.{cut, in_order}
use Rattle.codelets.specs.Held.{held}
use Rattle.codelets.specs.Containers.{holders}

abbrev rot : List Line
rot =
    line.Fetch 0 (Const 0) ∷ line.Fetch 1 (Const 0) ∷ line.Fetch 2 (Const 0) ∷ line.Store 0 (Const 0) (Value 2) ∷ line.Store 1 (Const 0) (Value 3) ∷ line.Store 2 (Const 0) (Value 1) ∷ []

abbrev of_rot : Linked
of_rot = record { fields = 1; arrays = 3; lines = rot; outputs = Value 1 ∷ []; reach = table_cell (reach_table 1 rot) }

pub its_codelets : in_order (cut of_rot) ≡ (0 ∷ 1 ∷ 2 ∷ 3 ∷ 4 ∷ 5 ∷ []) ∷ []
its_codelets = refl

pub its_holders : holders (cut of_rot) ≡ 0 ∷ 1 ∷ []
its_holders = refl

-- the sum belongs to the first of its arrays, after that one's old value where that is shown too
abbrev both : List Line
both =
    line.Fetch 0 (Const 0) ∷ line.Fetch 1 (Const 0) ∷ line.Bin Add (Value 1) (Value 2) ∷ line.Store 0 (Const 0) (Value 3) ∷ line.Store 1 (Const 0) (Value 3) ∷ []

abbrev of_both : Linked
of_both = record { fields = 1; arrays = 2; lines = both; outputs = Value 3 ∷ Value 2 ∷ []; reach = table_cell (reach_table 1 both) }

pub both_new : map (λ h. h.new) (held (cut of_both) (0 ∷ 1 ∷ 2 ∷ 3 ∷ 4 ∷ [])) ≡ Some 3 ∷ None ∷ []
both_new = refl

pub both_holders : holders (cut of_both) ≡ 0 ∷ 3 ∷ 2 ∷ []
both_holders = refl

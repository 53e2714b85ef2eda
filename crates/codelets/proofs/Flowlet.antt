-- The codelets of a flowlet program.
use Rattle.std.proofs.Common.{◌≡◌, List, [], ◌∷◌, map, refl, arith}
use Rattle.dom_words.specs.declared.operators.BinOp.TheVariants.{Sub, Gt}
use Rattle.dom_flat.specs.declared.line.Operand.TheVariants.{Const, Value}
use Rattle.dom_flat.specs.declared.line.Line.{Line}
use Rattle.dom_flat.specs.declared.line.Line.TheVariants as line
use Rattle.codelets.proofs.ReachTable.{table_cell, reach_table}
use Rattle.codelets.specs.Linked.{Linked}
use Rattle.codelets.specs.Cut.{cut, in_order, level}
use Rattle.codelets.specs.Containers.{holders}

abbrev flowlet : List Line
flowlet =
    line.Hash (record { args = 3; letter = 0; some_args = omega arith; few_args = omega arith; letter_to_h = omega arith }) 10 (Value 0 ∷ Value 1 ∷ Value 2 ∷ []) ∷ line.Hash (record { args = 2; letter = 0; some_args = omega arith; few_args = omega arith; letter_to_h = omega arith }) 8000 (Value 0 ∷ Value 1 ∷ [])
    ∷ line.Fetch 0 (Value 7) ∷ line.Bin Sub (Value 2) (Value 8) ∷ line.Bin Gt (Value 9) (Const 5) ∷ line.Fetch 1 (Value 7) ∷ line.Cond (Value 10) (Value 6) (Value 11)
    ∷ line.Store 0 (Value 7) (Value 2) ∷ line.Store 1 (Value 7) (Value 12) ∷ []

abbrev of_flowlet : Linked
of_flowlet = record {
  fields = 6;
  arrays = 2;
  lines = flowlet;
  outputs = Value 0 ∷ Value 1 ∷ Value 2 ∷ Value 6 ∷ Value 12 ∷ Value 7 ∷ [];
  reach = table_cell (reach_table 6 flowlet);
}

pub its_codelets : in_order (cut of_flowlet) ≡ (0 ∷ []) ∷ (1 ∷ []) ∷ (2 ∷ 7 ∷ []) ∷ (3 ∷ []) ∷ (4 ∷ []) ∷ (5 ∷ 6 ∷ 8 ∷ []) ∷ []
its_codelets = refl

pub its_levels : map (level (cut of_flowlet)) (in_order (cut of_flowlet)) ≡ 1 ∷ 1 ∷ 2 ∷ 3 ∷ 4 ∷ 5 ∷ []
its_levels = refl

-- 12 containers
pub its_holders : holders (cut of_flowlet) ≡ 0 ∷ 1 ∷ 2 ∷ 3 ∷ 4 ∷ 5 ∷ 6 ∷ 7 ∷ 8 ∷ 9 ∷ 10 ∷ 12 ∷ []
its_holders = refl

-- The codelets of a load balancer: two arrays in one class, each of whose words decides the other.
use Rattle.std.proofs.Common.{◌≡◌, List, [], ◌∷◌, Some, None, refl}
use Rattle.dom_words.specs.declared.operators.BinOp.TheVariants.{Lt, Eq}
use Rattle.dom_flat.specs.declared.line.Operand.TheVariants.{Value}
use Rattle.dom_flat.specs.declared.line.Line.{Line}
use Rattle.dom_flat.specs.declared.line.Line.TheVariants as line
use Rattle.codelets.proofs.ReachTable.{table_cell, reach_table}
use Rattle.codelets.specs.Linked.{Linked}
use Rattle.codelets.specs.Cut.{cut, in_order}
use Rattle.codelets.specs.Held.{held}
use Rattle.codelets.specs.Containers.{holders}

abbrev pub conga : List Line
conga =
    line.Fetch 0 (Value 0) ∷ line.Bin Lt (Value 1) (Value 3) ∷ line.Cond (Value 4) (Value 1) (Value 3) ∷ line.Fetch 1 (Value 0) ∷ line.Cond (Value 4) (Value 2) (Value 6)
    ∷ line.Bin Eq (Value 2) (Value 7) ∷ line.Cond (Value 8) (Value 1) (Value 5) ∷ line.Cond (Value 4) (Value 5) (Value 9) ∷ line.Store 0 (Value 0) (Value 10) ∷ line.Store 1 (Value 0) (Value 7) ∷ []

abbrev pub of_conga : Linked
of_conga = record { fields = 3; arrays = 2; lines = conga; outputs = Value 0 ∷ Value 1 ∷ Value 2 ∷ []; reach = table_cell (reach_table 3 conga) }

pub its_codelets : in_order (cut of_conga) ≡ (0 ∷ 1 ∷ 2 ∷ 3 ∷ 4 ∷ 5 ∷ 6 ∷ 7 ∷ 8 ∷ 9 ∷ []) ∷ []
its_codelets = refl

-- nothing outside uses its words
pub its_held : held (cut of_conga) (0 ∷ 1 ∷ 2 ∷ 3 ∷ 4 ∷ 5 ∷ 6 ∷ 7 ∷ 8 ∷ 9 ∷ [])
    ≡ record { array = 0; index = Value 0; read = 3; write = Some (Value 10); old = None; new = None } ∷ record { array = 1; index = Value 0; read = 6; write = Some (Value 7); old = None; new = None } ∷ []
its_held = refl

pub its_holders : holders (cut of_conga) ≡ 0 ∷ 1 ∷ 2 ∷ []
its_holders = refl

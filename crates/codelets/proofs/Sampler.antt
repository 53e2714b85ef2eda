-- The codelets of a sampler.
use Rattle.std.proofs.Common.{◌≡◌, List, [], ◌∷◌, Some, None, refl}
use Rattle.dom_words.specs.declared.operators.BinOp.TheVariants.{Add, Eq}
use Rattle.dom_flat.specs.declared.line.Operand.TheVariants.{Const, Value}
use Rattle.dom_flat.specs.declared.line.Line.{Line}
use Rattle.dom_flat.specs.declared.line.Line.TheVariants as line
use Rattle.codelets.proofs.ReachTable.{table_cell, reach_table}
use Rattle.codelets.specs.Linked.{Linked}
use Rattle.codelets.specs.Cut.{cut, in_order, line_of}
use Rattle.codelets.specs.Held.{held}
use Rattle.codelets.specs.Containers.{holders}

abbrev pub sampler : List Line
sampler =
    line.Fetch 0 (Const 0) ∷ line.Bin Eq (Value 1) (Const 29) ∷ line.Cond (Value 2) (Const 1) (Value 0) ∷ line.Cond (Value 2) (Const 0) (Value 1)
    ∷ line.Cond (Value 2) (Value 3) (Const 0) ∷ line.Bin Add (Value 4) (Const 1) ∷ line.Cond (Value 2) (Value 4) (Value 6) ∷ line.Store 0 (Const 0) (Value 7) ∷ []

abbrev pub of_sampler : Linked
of_sampler = record { fields = 1; arrays = 1; lines = sampler; outputs = Value 5 ∷ []; reach = table_cell (reach_table 1 sampler) }

-- the twin of statement 1 has number 9
pub its_codelets : in_order (cut of_sampler) ≡ (0 ∷ 1 ∷ 3 ∷ 5 ∷ 6 ∷ 7 ∷ []) ∷ (9 ∷ []) ∷ (2 ∷ []) ∷ (4 ∷ []) ∷ []
its_codelets = refl

-- it compares the old value, and statement 2 uses it
pub its_twin : line_of (cut of_sampler) 9 ≡ Some (line.Bin Eq (Value 1) (Const 29))
its_twin = refl

pub its_user : line_of (cut of_sampler) 2 ≡ Some (line.Cond (Value 10) (Const 1) (Value 0))
its_user = refl

-- the array's old word is exported, its new one is not
pub its_held : held (cut of_sampler) (0 ∷ 1 ∷ 3 ∷ 5 ∷ 6 ∷ 7 ∷ []) ≡ record { array = 0; index = Const 0; read = 1; write = Some (Value 7); old = Some 1; new = None } ∷ []
its_held = refl

-- field 0, the old value, the twin's value, and those of statements 2 and 4
pub its_holders : holders (cut of_sampler) ≡ 0 ∷ 1 ∷ 10 ∷ 3 ∷ 5 ∷ []
its_holders = refl

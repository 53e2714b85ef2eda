-- The statements that are needed, and their new numbers.
use Rattle.std.specs.Prelude.{ℕ, suc, ◌+◌, ◌-◌, ◌||◌, nat_lt, Bool, true, false, List, [], ◌∷◌, take, if◌then◌else◌}
use Rattle.std.specs.List.{list_any}
use Rattle.dom_flat.specs.Lines.{operands_of, stores_to, uses, with_operands}
use Rattle.dom_flat.specs.declared.line.Operand.{Operand}
use Rattle.dom_flat.specs.declared.line.Operand.TheVariants.{Const, Value}
use Rattle.dom_flat.specs.declared.line.Line.{Line}
use Rattle.dom_flat.specs.declared.line.Line.TheVariants as line

-- these statements have a write flank of the array
abbrev pub is_stored : List Line → ℕ → Bool
is_stored lines a = list_any (stores_to a) lines

-- a write flank is needed, and the read flank of an array that has one
abbrev pub is_kept_flank : List Line → Line → Bool
is_kept_flank all (line.Fetch a i) = is_stored all a
is_kept_flank all (line.Store a i v) = true
is_kept_flank all _ = false

-- the statements with these marks
abbrev pub kept : List Bool → List Line → List Line
kept [] lines = []
kept (mark ∷ marks) [] = []
kept (true ∷ marks) (l ∷ lines) = l ∷ kept marks lines
kept (false ∷ marks) (l ∷ lines) = kept marks lines

-- an output or one of the statements uses a value
abbrev pub is_used : List Operand → List Line → ℕ → Bool
is_used outputs lines v = uses v outputs || list_any (λ l. uses v (operands_of l)) lines

-- Which statements are needed, where the first makes value v: statements whose value an output or a needed statement after
-- them uses, and flanks that are kept.
abbrev pub needed : List Line → List Operand → ℕ → List Line → List Bool
needed all outputs v [] = []
needed all outputs v (l ∷ lines) =
    let later = needed all outputs (suc v) lines in
    (is_used outputs (kept later lines) v || is_kept_flank all l) ∷ later

-- how many marks there are
abbrev pub count : List Bool → ℕ
count [] = 0
count (true ∷ marks) = suc (count marks)
count (false ∷ marks) = count marks

-- the new number of a value: those of fields stay, and that of a statement is by the number of needed statements before it
abbrev pub new_number : ℕ → List Bool → ℕ → ℕ
new_number fields marks v = if nat_lt v fields then v else fields + count (take (v - fields) marks)

-- an operand with a new number for its value
abbrev pub renumbered : (ℕ → ℕ) → Operand → Operand
renumbered number (Const w) = Const w
renumbered number (Value v) = Value (number v)

-- a statement with the new numbers of its operands
abbrev pub line_renumbered : (ℕ → ℕ) → Line → Line
line_renumbered number l = with_operands (renumbered number) l

-- What a statement list makes of a packet and a state: as a run, and as what holds between its values.
use Rattle.std.specs.Prelude.{◌≡◌, ℕ, ◌+◌, ◌<◌, List, [], ◌∷◌, ◌++◌, Some, fold, length, map, slice_get, slice_index}
use Rattle.dom_words.specs.Operators.{bin_word, chosen, reduced, un_word}
use Rattle.dom_words.specs.State.{Hash, Outcome, fetched, stored}
use Rattle.dom_flat.specs.declared.line.Operand.{Operand}
use Rattle.dom_flat.specs.declared.line.Operand.TheVariants.{Const, Value}
use Rattle.dom_flat.specs.declared.line.Line.{Line}
use Rattle.dom_flat.specs.declared.line.Line.TheVariants as line
use Rattle.dom_flat.specs.Flanks.{Flank, fetch, store, plain, flank_of}

-- the word of an operand, where val gives the word of each value
abbrev pub operand_word : Operand → (ℕ → ℕ) → ℕ
operand_word (Const w) val = w
operand_word (Value v) val = val v

-- the word that a statement makes; a write flank makes none, and 0 stands in its place
abbrev pub line_word : Hash → Line → List (List ℕ) → (ℕ → ℕ) → ℕ
line_word hash (line.Fetch array i) arrays val = fetched arrays array (operand_word i val)
line_word hash (line.Store array i value) arrays val = 0
line_word hash (line.Un op a) arrays val = un_word op (operand_word a val)
line_word hash (line.Bin op a b) arrays val = bin_word op (operand_word a val) (operand_word b val)
line_word hash (line.Cond c a b) arrays val = chosen (operand_word c val) (operand_word a val) (operand_word b val)
line_word hash (line.Hash unit modulus args) arrays val = reduced modulus (hash unit (map (λ a. operand_word a val) args))

-- the arrays after a flank: a write flank alone changes them
abbrev pub flank_arrays : Flank → List (List ℕ) → (ℕ → ℕ) → List (List ℕ)
flank_arrays (fetch a i) arrays val = arrays
flank_arrays (store a i v) arrays val = stored arrays a (operand_word i val) (operand_word v val)
flank_arrays plain arrays val = arrays

-- the arrays after a statement
abbrev pub line_arrays : Line → List (List ℕ) → (ℕ → ℕ) → List (List ℕ)
line_arrays l arrays val = flank_arrays (flank_of l) arrays val

-- the words of the arrays, and the words of all values so far
pub record FlatEnv : Type 0 where
  pub arrays : List (List ℕ)
  pub values : List ℕ

-- what a statement does
abbrev pub line_step : Hash → FlatEnv → Line → FlatEnv
line_step hash env l = record {
  arrays = line_arrays l env.arrays (slice_index env.values);
  values = env.values ++ line_word hash l env.arrays (slice_index env.values) ∷ [];
}

-- the statements one after another
abbrev pub run_lines : Hash → FlatEnv → List Line → FlatEnv
run_lines hash env lines = fold (line_step hash) env lines

-- the word of each value at the end of a run
abbrev pub values_after : Hash → FlatEnv → List Line → ℕ → ℕ
values_after hash env lines = slice_index (run_lines hash env lines).values

-- the values start with the packet's words
abbrev pub flat_entering : List ℕ → List (List ℕ) → FlatEnv
flat_entering packet arrays = record { arrays = arrays; values = packet }

-- the words of the outputs, and the arrays at the end
abbrev pub flat_end : List Operand → FlatEnv → Outcome
flat_end outputs env = record { packet = map (λ o. operand_word o (slice_index env.values)) outputs; arrays = env.arrays }

-- what statements and outputs make of a packet and a state
abbrev pub flat_outcome : Hash → List Line → List Operand → List ℕ → List (List ℕ) → Outcome
flat_outcome hash lines outputs packet arrays = flat_end outputs (run_lines hash (flat_entering packet arrays) lines)

-- the arrays that the write flanks leave, where val gives the word of each value
abbrev pub arrays_after : List Line → List (List ℕ) → (ℕ → ℕ) → List (List ℕ)
arrays_after [] arrays val = arrays
arrays_after (l ∷ lines) arrays val = arrays_after lines (line_arrays l arrays val) val

-- val has the packet's words, and for each statement the word that it makes of those arrays and of val
pub record HoldTogether (hash : Hash) (lines : List Line) (arrays : List (List ℕ)) (packet : List ℕ) (val : ℕ → ℕ) : Type 0 where
  pub entering : (v : ℕ) → v < length packet → val v ≡ slice_index packet v
  pub made : (j : ℕ) (l : Line) → slice_get lines j ≡ Some l → val (length packet + j) ≡ line_word hash l arrays val

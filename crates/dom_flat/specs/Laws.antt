-- What holds of each statement of a list at its place, and of the list's runs.
use Rattle.std.specs.Prelude.{◌≡◌, ◌<◌, ◌≤◌, ◌+◌, ◌^◌, ℕ, true, List, Some, length, map, slice_get}
use Rattle.dom_words.specs.State.{Hash, Outcome, array_of, stored}
use Rattle.dom_words.specs.declared.array.Array.{Array}
use Rattle.dom_words.specs.declared.hash.HashName.{HashName}
use Rattle.dom_flat.specs.declared.line.Operand.{Operand}
use Rattle.dom_flat.specs.declared.line.Operand.TheVariants.{Const}
use Rattle.dom_flat.specs.declared.line.Line.{Line}
use Rattle.dom_flat.specs.declared.line.Line.TheVariants as line
use Rattle.dom_flat.specs.Form.{FlatForm}
use Rattle.dom_flat.specs.Lines.{IsQuiet, makes, operands_of, uses}
use Rattle.dom_flat.specs.Meaning.{HoldTogether, arrays_after, flat_entering, flat_outcome, operand_word, values_after}

-- statement a is there and makes a value
pub record IsMaker (lines : List Line) (a : ℕ) : Type 0 where
  pub statement : Line
  pub there : slice_get lines a ≡ Some statement
  pub makes_one : makes statement ≡ true

-- a statement uses values before its own, and each value that it or an output uses is a field's or that of a statement which
-- makes one
pub record UsesAreMade (f : FlatForm) : Type 0 where
  pub before : (b u : ℕ) (l : Line) → slice_get f.lines b ≡ Some l → uses u (operands_of l) ≡ true → u < f.fields + b
  pub made : (a b : ℕ) (l : Line) → slice_get f.lines b ≡ Some l → uses (f.fields + a) (operands_of l) ≡ true → IsMaker f.lines a
  pub shown : (a : ℕ) → uses (f.fields + a) f.outputs ≡ true → IsMaker f.lines a

-- an array is fetched at an index before statement j
pub record IsFetchedBefore (lines : List Line) (j a : ℕ) (i : Operand) : Type 0 where
  pub place : ℕ
  pub before : place < j
  pub there : slice_get lines place ≡ Some (line.Fetch a i)

-- an array has one read flank and one write flank at most, and the read flank stands before the write flank and has its index
pub record FlanksArePaired (lines : List Line) : Type 0 where
  pub fetched : (j a : ℕ) (i v : Operand) → slice_get lines j ≡ Some (line.Store a i v) → IsFetchedBefore lines j a i
  pub one_fetch : (j k a : ℕ) (i i' : Operand) → slice_get lines j ≡ Some (line.Fetch a i) → slice_get lines k ≡ Some (line.Fetch a i') → j ≡ k
  pub one_store : (j k a : ℕ) (i i' v v' : Operand) → slice_get lines j ≡ Some (line.Store a i v) → slice_get lines k ≡ Some (line.Store a i' v') → j ≡ k

-- a flank's array is one of so many, and a hash has as many arguments as its unit takes
pub record PlacesAreInRange (arrays : ℕ) (lines : List Line) : Type 0 where
  pub fetched : (k a : ℕ) (i : Operand) → slice_get lines k ≡ Some (line.Fetch a i) → a < arrays
  pub stored : (k a : ℕ) (i v : Operand) → slice_get lines k ≡ Some (line.Store a i v) → a < arrays
  pub arguments : (k modulus : ℕ) (unit : HashName) (args : List Operand) → slice_get lines k ≡ Some (line.Hash unit modulus args) → length args ≡ unit.args

-- a modulus is at most 2147483647, and constants and what arrays start with are words of 32 bits
pub record NumbersAreWords (arrays : List Array) (lines : List Line) (outputs : List Operand) : Type 0 where
  pub moduli : (k modulus : ℕ) (unit : HashName) (args : List Operand) → slice_get lines k ≡ Some (line.Hash unit modulus args) → modulus ≤ 2147483647
  pub used : (k j w : ℕ) (l : Line) → slice_get lines k ≡ Some l → slice_get (operands_of l) j ≡ Some (Const w) → w < 2 ^ 32
  pub shown : (j w : ℕ) → slice_get outputs j ≡ Some (Const w) → w < 2 ^ 32
  pub first : (a : ℕ) (array : Array) → slice_get arrays a ≡ Some array → array.init < 2 ^ 32

-- a run keeps the lengths of the arrays, and gives one word for each field
pub record RunsKeepSizes (f : FlatForm) : Type 0 where
  pub arrays : (hash : Hash) (packet : List ℕ) (state : List (List ℕ)) → map length (flat_outcome hash f.lines f.outputs packet state).arrays ≡ map length state
  pub packet : (hash : Hash) (packet : List ℕ) (state : List (List ℕ)) → length (flat_outcome hash f.lines f.outputs packet state).packet ≡ f.fields

-- the outputs' words and the arrays that the write flanks leave, where val gives the word of each value
abbrev pub outcome_by : FlatForm → List (List ℕ) → (ℕ → ℕ) → Outcome
outcome_by f arrays val = record { packet = map (λ o. operand_word o val) f.outputs; arrays = arrays_after f.lines arrays val }

-- a run and what holds between its values are the same: the values of a run hold together, and values that hold together
-- are those of the run and come to its outcome; of each array the one write flank decides, or it stays
pub record RunIsConsistent (f : FlatForm) : Type 0 where
  pub made : (hash : Hash) (packet : List ℕ) (state : List (List ℕ)) → length packet ≡ f.fields → HoldTogether hash f.lines state packet (values_after hash (flat_entering packet state) f.lines)
  pub same : (hash : Hash) (packet : List ℕ) (state : List (List ℕ)) (val : ℕ → ℕ) → length packet ≡ f.fields → HoldTogether hash f.lines state packet val
      → (v : ℕ) → v < f.fields + length f.lines → val v ≡ values_after hash (flat_entering packet state) f.lines v
  pub outcome : (hash : Hash) (packet : List ℕ) (state : List (List ℕ)) (val : ℕ → ℕ) → length packet ≡ f.fields → HoldTogether hash f.lines state packet val
      → flat_outcome hash f.lines f.outputs packet state ≡ outcome_by f state val
  pub stays : (state : List (List ℕ)) (val : ℕ → ℕ) (a : ℕ) → IsQuiet a f.lines → array_of (arrays_after f.lines state val) a ≡ array_of state a
  pub stored_at : (state : List (List ℕ)) (val : ℕ → ℕ) (j a : ℕ) (i v : Operand) → slice_get f.lines j ≡ Some (line.Store a i v)
      → array_of (arrays_after f.lines state val) a ≡ array_of (stored state a (operand_word i val) (operand_word v val)) a

-- What the statements of a class do, and that trees do the same.
use Rattle.std.proofs.Common.{◌≡◌, ℕ, ◌+◌, ◌||◌, Bool, true, false, List, [], Option, Some, None, map}
use Rattle.std.specs.Prelude.{slice_index}
use Rattle.std.specs.List.{AllByRecursion, list_all}
use Rattle.dom_words.specs.State.{Hash}
use Rattle.dom_flat.specs.declared.line.Operand.{Operand}
use Rattle.dom_flat.specs.declared.line.Line.{Line}
use Rattle.dom_flat.specs.Lines.{is_flank, operands_of}
use Rattle.dom_flat.specs.Meaning.{line_word}
use Rattle.atom_traits.specs.Form.{TreesForm, two_of, words_of}
use Rattle.codelets.specs.Lists.{has}
use Rattle.atom_match.specs.Classes.{Class, in_class}
use Rattle.atom_match.specs.Meaning.{stored_word}
use Rattle.atom_match.specs.Table.{operand_passes}

-- a value of the class, or one of these
abbrev pub is_meant_value : Class → List ℕ → ℕ → Bool
is_meant_value c uses v = in_class c v || has uses v

-- a constant, a value of the class, or one of these
abbrev pub is_meant : Class → List ℕ → Operand → Bool
is_meant c uses o = operand_passes (is_meant_value c uses) o

abbrev pub is_meant_if : Class → List ℕ → Option Operand → Bool
is_meant_if c uses None = true
is_meant_if c uses (Some o) = is_meant c uses o

-- uses has all values from outside that the class's statements use
pub record IsClosed (c : Class) (uses : List ℕ) : Type 0 where
  pub lines : (b : ℕ) (l : Line) → has c.members b ≡ true → c.line_of b ≡ Some l → is_flank l ≡ false → list_all (is_meant c uses) (operands_of l) ≡ true
  pub stores : list_all (λ s. is_meant_if c uses s.write) c.slots ≡ true

-- val gives the words that the class's statements make of its old words, and of the words from outside that the containers hold
pub record ClassMakes (hash : Hash) (c : Class) (uses olds words : List ℕ) (val : ℕ → ℕ) : Type 0 where
  pub outside : AllByRecursion (λ v. slice_index words (c.container v) ≡ val v) uses
  pub old : map (λ s. val s.read) c.slots ≡ olds
  pub made : (b : ℕ) (l : Line) → has c.members b ≡ true → c.line_of b ≡ Some l → is_flank l ≡ false → val (c.fields + b) ≡ line_word hash l [] val

-- on all words, trees give what the class's write flanks store
abbrev pub MeansClass : Class → List ℕ → TreesForm → Type 0
MeansClass c uses t =
    (hash : Hash) (olds words : List ℕ) (val : ℕ → ℕ) → ClassMakes hash c uses olds words val
    → words_of t (two_of olds) words ≡ two_of (map (λ s. stored_word s.write s.read val) c.slots)

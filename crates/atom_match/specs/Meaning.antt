-- What the atom of a codelet is, by the words that the program's values have.
use Rattle.std.specs.Prelude.{◌≡◌, ℕ, ◌+◌, ◌<◌, Bool, true, false, List, [], ◌∷◌, Option, Some, None, length, map, slice_index, ◌⊎◌}
use Rattle.std.specs.List.{AllByRecursion}
use Rattle.dom_words.specs.State.{Hash}
use Rattle.dom_flat.specs.declared.line.Operand.{Operand}
use Rattle.dom_flat.specs.declared.line.Line.{Line}
use Rattle.dom_flat.specs.Lines.{is_flank}
use Rattle.dom_flat.specs.Meaning.{operand_word, line_word}
use Rattle.codelets.specs.Lists.{IsIn}
use Rattle.codelets.specs.Linked.{Linked}
use Rattle.codelets.specs.Cut.{cut, has_flank, line_of, uses_codelet}
use Rattle.codelets.specs.Held.{exports, held}
use Rattle.codelets.specs.Containers.{place}
use Rattle.atom_traits.specs.declared.operation.StatelessOp.{StatelessOp}
use Rattle.atom_traits.specs.Form.{TreesForm, count_of, two_of, words_of}
use Rattle.atom_traits.specs.Operation.{operation_names}
use Rattle.atom_traits.specs.Tests.{trees_name}
use Rattle.atom_match.specs.Classes.{is_outside}
use Rattle.atom_match.specs.Atoms.{AtomForm, Operates, Updates, operator_of}

-- the word that a write flank stores; without one the old word
abbrev pub stored_word : Option Operand → ℕ → (ℕ → ℕ) → ℕ
stored_word None read val = val read
stored_word (Some o) read val = operand_word o val

module _ (P : Linked) where
  -- what codelet c has from outside: fields, and what codelets that it uses export
  abbrev pub Enters : List ℕ → ℕ → Type 0
  Enters c v = (v < P.fields) ⊎ ((d : List ℕ) × IsIn d (cut P).all × (uses_codelet (cut P) c d ≡ true) × IsIn v (exports (cut P) d))

  -- each container that passes holds a value that enters codelet c
  abbrev pub HasEntering : List ℕ → (ℕ → Bool) → Type 0
  HasEntering c r = (v : ℕ) → Enters c v → r (place (cut P) v) ≡ true

  -- val gives the words that a codelet's statements make of its old words, and of the words from outside that the containers hold
  pub record CodeletMakes (hash : Hash) (c : List ℕ) (olds words : List ℕ) (val : ℕ → ℕ) : Type 0 where
    pub outside : (v : ℕ) → Enters c v → slice_index words (place (cut P) v) ≡ val v
    pub old : map (λ h. val h.read) (held (cut P) c) ≡ olds
    pub made : (b : ℕ) (l : Line) → IsIn b c → line_of (cut P) b ≡ Some l → is_flank l ≡ false → val (P.fields + b) ≡ line_word hash l [] val

  -- for every hash and on all words, trees give what the codelet's write flanks store
  abbrev pub MeansCodelet : List ℕ → TreesForm → Type 0
  MeansCodelet c t =
      (hash : Hash) (olds words : List ℕ) (val : ℕ → ℕ) → CodeletMakes hash c olds words val
      → words_of t (two_of olds) words ≡ two_of (map (λ h. stored_word h.write h.read val) (held (cut P) c))

  -- a codelet without a flank is one statement, and this is its operator; it names containers of entering values alone
  pub record IsOperatorOf (c : List ℕ) (o : StatelessOp) : Type 0 where
    pub stateless : has_flank (cut P) c ≡ false
    pub number : ℕ
    pub only : c ≡ number ∷ []
    pub its : Line
    pub there : line_of (cut P) number ≡ Some its
    pub plain : is_flank its ≡ false
    pub operator : operator_of (place (cut P)) its ≡ Some o
    pub reads : (r : ℕ → Bool) → HasEntering c r → operation_names r o ≡ true

  -- a codelet with one or two arrays, whose indexes come from outside; its trees mean what it stores, and name containers
  -- of entering values alone
  pub record AreTreesOf (c : List ℕ) (t : TreesForm) : Type 0 where
    pub stateful : has_flank (cut P) c ≡ true
    pub slots : length (held (cut P) c) ≡ count_of t
    pub indexes : AllByRecursion (λ h. is_outside P.fields c h.index ≡ true) (held (cut P) c)
    pub means : MeansCodelet c t
    pub reads : (r : ℕ → Bool) → HasEntering c r → trees_name r t ≡ true

  -- an atom does what its codelet does
  abbrev pub IsAtomOf : List ℕ → AtomForm → Type 0
  IsAtomOf c (Operates o) = IsOperatorOf c o
  IsAtomOf c (Updates t) = AreTreesOf c t

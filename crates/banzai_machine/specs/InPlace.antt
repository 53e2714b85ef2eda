-- Atoms that write their exports into the packet that they read.
use Rattle.std.specs.Prelude.{◌≡◌, ℕ, Some, List, [], ◌∷◌, ◌++◌, map, slice_index, slice_set, ⊤, ◌≢◌}
use Rattle.std.specs.List.{AllByRecursion}
use Rattle.dom_words.specs.State.{Hash}
use Rattle.pipeline_law.specs.Order.{runs}
use Rattle.atom_traits.specs.Operation.{stateless_word}
use Rattle.banzai_config.specs.declared.parts.OpAtom.{OpAtom}
use Rattle.banzai_config.specs.Action.{Arrays, atom_exports, atom_writes, new_words, put, slot_exports, slot_writes, stage_exports, stage_writes, store}
use Rattle.banzai_config.specs.Named.{reads_of, targets_of}
use Rattle.banzai_config.specs.Parts.{Atom, AtomForm, StageForm, atoms_of}
use Rattle.banzai_machine.specs.declared.touch.Touch.{Touch}
use Rattle.banzai_machine.specs.Touches.{slots_of, touch_of, touches_before}

-- two lists of containers that are alike at these numbers
abbrev pub Alike : List ℕ → List ℕ → List ℕ → Type 0
Alike u v ks = AllByRecursion (λ k. slice_index u k ≡ slice_index v k) ks

-- no atom of the list reads what one before it writes
abbrev pub NoneReads : List Atom → Type 0
NoneReads [] = ⊤
NoneReads (x ∷ xs) = AllByRecursion (λ y. AllByRecursion (λ t. AllByRecursion (λ k. t ≢ k) (reads_of y)) (targets_of x)) xs × NoneReads xs

-- in no stage an atom reads what one before it writes
abbrev pub NoneReadsIn : List StageForm → Type 0
NoneReadsIn stages = AllByRecursion (λ stage. NoneReads (atoms_of stage)) stages

-- a packet, the arrays and the touches so far
pub record InPlace : Type 0 where
  pub words : List ℕ
  pub arrays : Arrays
  pub touches : List Touch

-- an atom of a stage with this number
abbrev pub in_place : Hash → ℕ → Atom → InPlace → InPlace
in_place hash number atom m = record {
  words = put (atom_exports hash atom m.arrays m.words) m.words;
  arrays = store (atom_writes atom m.arrays m.words) m.arrays;
  touches = m.touches ++ map (touch_of number m.arrays m.words) (slots_of atom);
}

-- an atom of each kind alone
abbrev pub op_in_place : Hash → OpAtom → List ℕ → List ℕ
op_in_place hash atom words = slice_set words atom.to (stateless_word hash atom.op words)

abbrev pub fit_in_place : ℕ → AtomForm → InPlace → InPlace
fit_in_place number atom m = record {
  words = put (slot_exports atom.slots (new_words atom m.arrays m.words) m.arrays m.words) m.words;
  arrays = store (slot_writes atom.slots (new_words atom m.arrays m.words) m.arrays m.words) m.arrays;
  touches = m.touches ++ map (touch_of number m.arrays m.words) atom.slots;
}

-- the atoms of the stage, one after another in the packet's place, do what the stage does with this packet
abbrev pub IsStageInPlace : Hash → ℕ → StageForm → InPlace → Type 0
IsStageInPlace hash number stage before =
    ◌≡◌ {A = InPlace} (runs (in_place hash number) (atoms_of stage) before) (record {
      words = put (stage_exports hash stage before.arrays before.words) before.words;
      arrays = store (stage_writes stage before.arrays before.words) before.arrays;
      touches = before.touches ++ touches_before number stage before.arrays (Some before.words);
    })

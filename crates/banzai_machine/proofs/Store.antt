-- What writes leave as it was.
use Rattle.std.proofs.Common.{◌≡◌, ℕ, zero, suc, ◌%◌, List, [], ◌∷◌, ◌++◌, length, map, get_or, set, refl, sym, ◌∙◌, ap, ◌≢◌, ◌⊎◌, inl, inr, get_or-set_other}
use Rattle.std.proofs.lemmas.Bool.{cases_eq}
use Rattle.std.proofs.lemmas.List.{length-set}
use Rattle.std.specs.List.{AllByRecursion as Every}
use Rattle.dom_words.specs.State.{Hash, array_of}
use Rattle.atom_traits.specs.Form.{port_word, two_of, words_of}
use Rattle.banzai_config.specs.declared.parts.PartSlot.{PartSlot}
use Rattle.banzai_config.specs.Action.{Arrays, Export, Write, atom_exports, atom_writes, export_to, new_words, old_word, slot_element, slot_exports, slot_writes, stage_exports, stage_writes, store}
use Rattle.banzai_config.specs.Named.{arrays_of, slot_array, stage_arrays}
use Rattle.banzai_config.specs.Parts.{Atom, AtomForm, Stateful, Stateless, StageForm, atoms_of}
use Rattle.banzai_machine.proofs.Every.{Every-flat, Every-from_flat, Every-weaker, flat_same}

pub store-append : (vs ws : List Write) (arrays : Arrays) → store (vs ++ ws) arrays ≡ store ws (store vs arrays)
store-append [] ws arrays = refl
store-append (v ∷ vs) ws arrays = store-append vs ws (set arrays v.array (set (get_or arrays v.array []) v.index v.word))

pub length-store : (ws : List Write) (arrays : Arrays) → length (store ws arrays) ≡ length arrays
length-store [] arrays = refl
length-store (w ∷ ws) arrays =
    length-store ws (set arrays w.array (set (get_or arrays w.array []) w.index w.word)) ∙ length-set arrays w.array (set (get_or arrays w.array []) w.index w.word)

-- writes to other arrays leave an array
pub store-other : (ws : List Write) (arrays : Arrays) (k : ℕ) → Every (λ (w : Write). w.array ≢ k) ws → array_of (store ws arrays) k ≡ array_of arrays k
store-other [] arrays k p = refl
store-other (w ∷ ws) arrays k p =
    let ne : k ≢ w.array = λ e. p.0 (sym e) in
    store-other ws (set arrays w.array (set (get_or arrays w.array []) w.index w.word)) k p.1
    ∙ get_or-set_other arrays w.array k (set (get_or arrays w.array []) w.index w.word) [] ne

set_here : (arrays : Arrays) (k j v : ℕ) → get_or (set arrays k (set (get_or arrays k []) j v)) k [] ≡ set (get_or arrays k []) j v
set_here [] k j v = refl
set_here (a ∷ arrays) zero j v = refl
set_here (a ∷ arrays) (suc k) j v = set_here arrays k j v

-- what writes make of an array depends on that array alone
pub store-same : (ws : List Write) (a b : Arrays) (k : ℕ) → array_of a k ≡ array_of b k → array_of (store ws a) k ≡ array_of (store ws b) k
store-same [] a b k e = e
store-same (w ∷ ws) a b k e =
    store-same ws (set a w.array (set (get_or a w.array []) w.index w.word)) (set b w.array (set (get_or b w.array []) w.index w.word)) k (one (cases_eq k w.array))
  where
    one : (k ≡ w.array) ⊎ (k ≢ w.array) → get_or (set a w.array (set (get_or a w.array []) w.index w.word)) k [] ≡ get_or (set b w.array (set (get_or b w.array []) w.index w.word)) k []
    one (inl is) = rw is (set_here a w.array w.index w.word ∙ ap (λ (xs : List ℕ). set xs w.index w.word) (rw is at e) ∙ sym (set_here b w.array w.index w.word))
    one (inr ne) = get_or-set_other a w.array k (set (get_or a w.array []) w.index w.word) [] ne ∙ e ∙ sym (get_or-set_other b w.array k (set (get_or b w.array []) w.index w.word) [] ne)

-- two lists of arrays that agree on the slots' arrays
abbrev pub Agree : Arrays → Arrays → List ℕ → Type 0
Agree a b ks = Every (λ k. array_of a k ≡ array_of b k) ks

pub slot_element-same : (slot : PartSlot) (a b : Arrays) (words : List ℕ) → array_of a slot.array ≡ array_of b slot.array → slot_element slot a words ≡ slot_element slot b words
slot_element-same slot a b words e = ap (λ (xs : List ℕ). port_word slot.index words % length xs) e

old_word-same : (slot : PartSlot) (a b : Arrays) (words : List ℕ) → array_of a slot.array ≡ array_of b slot.array → old_word slot a words ≡ old_word slot b words
old_word-same slot a b words e = ap (λ (xs : List ℕ). get_or xs (port_word slot.index words % length xs) 0) e

slots_old : (slots : List PartSlot) (a b : Arrays) (words : List ℕ) → Agree a b (map slot_array slots) → map (λ s. old_word s a words) slots ≡ map (λ s. old_word s b words) slots
slots_old [] a b words p = refl
slots_old (s ∷ slots) a b words p =
    let head : old_word s a words ≡ old_word s b words = old_word-same s a b words p.0 in
    let rest : map (λ s. old_word s a words) slots ≡ map (λ s. old_word s b words) slots = slots_old slots a b words p.1 in
    cc

slot_writes-same : (slots : List PartSlot) (news : List ℕ) (a b : Arrays) (words : List ℕ) → Agree a b (map slot_array slots) → slot_writes slots news a words ≡ slot_writes slots news b words
slot_writes-same [] news a b words p = refl
slot_writes-same (s ∷ slots) [] a b words p = refl
slot_writes-same (s ∷ slots) (n ∷ news) a b words p =
    ap (λ (i : ℕ). record { array = s.array; index = i; word = n } ∷ slot_writes slots news a words) (slot_element-same s a b words p.0)
    ∙ ap (λ (z : List Write). record { array = s.array; index = slot_element s b words; word = n } ∷ z) (slot_writes-same slots news a b words p.1)

slot_exports-same : (slots : List PartSlot) (news : List ℕ) (a b : Arrays) (words : List ℕ) → Agree a b (map slot_array slots) → slot_exports slots news a words ≡ slot_exports slots news b words
slot_exports-same [] news a b words p = refl
slot_exports-same (s ∷ slots) [] a b words p = refl
slot_exports-same (s ∷ slots) (n ∷ news) a b words p =
    ap (λ (w : ℕ). export_to s.old w ++ (export_to s.new n ++ slot_exports slots news a words)) (old_word-same s a b words p.0)
    ∙ ap (λ (z : List Export). export_to s.old (old_word s b words) ++ (export_to s.new n ++ z)) (slot_exports-same slots news a b words p.1)

-- writes of slots name these slots' arrays alone
slot_writes-arrays : (slots : List PartSlot) (news : List ℕ) (a : Arrays) (words : List ℕ) (k : ℕ) → Every (λ j. j ≢ k) (map slot_array slots) → Every (λ (w : Write). w.array ≢ k) (slot_writes slots news a words)
slot_writes-arrays [] news a words k p = tt
slot_writes-arrays (s ∷ slots) [] a words k p = tt
slot_writes-arrays (s ∷ slots) (n ∷ news) a words k p = (p.0, slot_writes-arrays slots news a words k p.1)

new_words-same : (atom : AtomForm) (a b : Arrays) (words : List ℕ) → Agree a b (map slot_array atom.slots) → new_words atom a words ≡ new_words atom b words
new_words-same atom a b words p = ap (λ (olds : List ℕ). words_of atom.trees (two_of olds) words) (slots_old atom.slots a b words p)

-- what an atom stores and exports depends on its own arrays alone
pub atom_writes-same : (atom : Atom) (a b : Arrays) (words : List ℕ) → Agree a b (arrays_of atom) → atom_writes atom a words ≡ atom_writes atom b words
atom_writes-same (Stateless atom) a b words p = refl
atom_writes-same (Stateful atom) a b words p =
    ap (λ (news : List ℕ). slot_writes atom.slots news a words) (new_words-same atom a b words p)
    ∙ slot_writes-same atom.slots (new_words atom b words) a b words p

pub atom_exports-same : (hash : Hash) (atom : Atom) (a b : Arrays) (words : List ℕ) → Agree a b (arrays_of atom) → atom_exports hash atom a words ≡ atom_exports hash atom b words
atom_exports-same hash (Stateless atom) a b words p = refl
atom_exports-same hash (Stateful atom) a b words p =
    ap (λ (news : List ℕ). slot_exports atom.slots news a words) (new_words-same atom a b words p)
    ∙ slot_exports-same atom.slots (new_words atom b words) a b words p

-- an atom stores into its own arrays alone
pub atom_writes-arrays : (atom : Atom) (a : Arrays) (words : List ℕ) (k : ℕ) → Every (λ j. j ≢ k) (arrays_of atom) → Every (λ (w : Write). w.array ≢ k) (atom_writes atom a words)
atom_writes-arrays (Stateless atom) a words k p = tt
atom_writes-arrays (Stateful atom) a words k p = slot_writes-arrays atom.slots (new_words atom a words) a words k p

-- the same of a stage
each_agree : (stage : StageForm) (a b : Arrays) → Agree a b (stage_arrays stage) → Every (λ atom. Agree a b (arrays_of atom)) (atoms_of stage)
each_agree stage a b p = Every-flat (λ k. array_of a k ≡ array_of b k) arrays_of (atoms_of stage) p

pub stage_writes-same : (stage : StageForm) (a b : Arrays) (words : List ℕ) → Agree a b (stage_arrays stage) → stage_writes stage a words ≡ stage_writes stage b words
stage_writes-same stage a b words p =
    flat_same (λ atom. atom_writes atom a words) (λ atom. atom_writes atom b words) (atoms_of stage)
    (Every-weaker (λ atom. Agree a b (arrays_of atom)) (λ atom. atom_writes atom a words ≡ atom_writes atom b words) (λ atom h. atom_writes-same atom a b words h) (atoms_of stage) (each_agree stage a b p))

pub stage_exports-same : (hash : Hash) (stage : StageForm) (a b : Arrays) (words : List ℕ) → Agree a b (stage_arrays stage) → stage_exports hash stage a words ≡ stage_exports hash stage b words
stage_exports-same hash stage a b words p =
    flat_same (λ atom. atom_exports hash atom a words) (λ atom. atom_exports hash atom b words) (atoms_of stage)
    (Every-weaker (λ atom. Agree a b (arrays_of atom)) (λ atom. atom_exports hash atom a words ≡ atom_exports hash atom b words) (λ atom h. atom_exports-same hash atom a b words h) (atoms_of stage) (each_agree stage a b p))

pub stage_writes-arrays : (stage : StageForm) (a : Arrays) (words : List ℕ) (k : ℕ) → Every (λ j. j ≢ k) (stage_arrays stage) → Every (λ (w : Write). w.array ≢ k) (stage_writes stage a words)
stage_writes-arrays stage a words k p =
    Every-from_flat (λ (w : Write). w.array ≢ k) (λ atom. atom_writes atom a words) (atoms_of stage)
    (Every-weaker (λ atom. Every (λ j. j ≢ k) (arrays_of atom)) (λ atom. Every (λ (w : Write). w.array ≢ k) (atom_writes atom a words)) (λ atom h. atom_writes-arrays atom a words k h) (atoms_of stage)
    (Every-flat (λ j. j ≢ k) arrays_of (atoms_of stage) p))

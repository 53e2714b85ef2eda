-- Atoms that write their exports into the packet that they read, where no atom reads what an earlier one of the stage writes.
use Rattle.std.proofs.Common.{◌≡◌, ℕ, ◌%◌, Bool, if◌then◌else◌, Option, Some, None, List, [], ◌∷◌, ◌++◌, length, map, set, slice_index, refl, sym, ◌∙◌, ap, ◌≢◌, get_or-set_other, append-nil, append_assoc}
use Rattle.std.specs.List.{flat_map, AllByRecursion as Every}
use Rattle.dom_words.specs.State.{Hash, array_of}
use Rattle.dom_words.specs.Operators.{bin_word, chosen, reduced, un_word}
use Rattle.pipeline_law.specs.Order.{runs}
use Rattle.atom_traits.specs.declared.operation.StatelessOp.{StatelessOp}
use Rattle.atom_traits.specs.declared.operation.StatelessOp.TheVariants.{Un, Bin, Cond, Hash as HashOf}
use Rattle.atom_traits.specs.declared.tree.Guard.{Guard}
use Rattle.atom_traits.specs.declared.tree.Leaf.{Leaf}
use Rattle.atom_traits.specs.declared.tree.Leaf.TheVariants as leaf
use Rattle.atom_traits.specs.declared.tree.Port.{Port}
use Rattle.atom_traits.specs.declared.tree.Port.TheVariants.{Const, Container}
use Rattle.atom_traits.specs.declared.tree.Source.{Source}
use Rattle.atom_traits.specs.declared.tree.Source.TheVariants as source
use Rattle.atom_traits.specs.Form.{Asks, Ends, TreeForm, TreesForm, guard_holds, leaf_word, port_word, relates, second_word, source_word, two_of, word_of, words_of}
use Rattle.atom_traits.specs.Operation.{ports_of, stateless_word}
use Rattle.banzai_config.specs.declared.parts.PartSlot.{PartSlot}
use Rattle.banzai_config.specs.Action.{Arrays, Export, Write, atom_exports, atom_writes, export_to, new_words, old_word, put, slot_element, slot_exports, slot_writes, stage_exports, stage_writes, store}
use Rattle.banzai_config.specs.Named.{arrays_of, guard_reads, leaf_reads, port_reads, reads_of, second_reads, slot_array, slot_reads, source_reads, stage_arrays, targets_of, tree_reads, trees_reads}
use Rattle.banzai_config.specs.Parts.{Atom, AtomForm, Stateful, Stateless, StageForm, atoms_of}
use Rattle.banzai_machine.specs.declared.touch.Touch.{Touch}
use Rattle.banzai_machine.specs.InPlace.{Alike, InPlace, NoneReads, in_place}
use Rattle.banzai_machine.specs.Own.{AreDistinct}
use Rattle.banzai_machine.specs.Touches.{slots_of, touch_of, touches_before}
use Rattle.banzai_machine.proofs.AnyOrder.{put-append}
use Rattle.banzai_machine.proofs.Commute.{Disjoint, exports_to, writes_to}
use Rattle.banzai_machine.proofs.Every.{Every-always, Every-left, Every-right, Every-swap, distinct_left, distinct_right}
use Rattle.banzai_machine.proofs.Store.{Agree, atom_exports-same, atom_writes-same, slot_element-same, store-append, store-other}

-- the meanings depend on the containers that are named alone
module _ (u v : List ℕ) where
  left_alike : (ks js : List ℕ) → Alike u v (ks ++ js) → Alike u v ks
  left_alike ks js p = Every-left (λ k. slice_index u k ≡ slice_index v k) ks js p

  right_alike : (ks js : List ℕ) → Alike u v (ks ++ js) → Alike u v js
  right_alike ks js p = Every-right (λ k. slice_index u k ≡ slice_index v k) ks js p

  port_alike : (port : Port) → Alike u v (port_reads port) → port_word port u ≡ port_word port v
  port_alike (Const w) p = refl
  port_alike (Container k) p = p.0

  ports_alike : (ports : List Port) → Alike u v (flat_map port_reads ports) → map (λ a. port_word a u) ports ≡ map (λ a. port_word a v) ports
  ports_alike [] p = refl
  ports_alike (x ∷ ports) p =
      let head : port_word x u ≡ port_word x v = port_alike x (left_alike (port_reads x) (flat_map port_reads ports) p) in
      let rest : map (λ a. port_word a u) ports ≡ map (λ a. port_word a v) ports = ports_alike ports (right_alike (port_reads x) (flat_map port_reads ports) p) in
      cc

  -- an operator, from the words of its ports
  abbrev word_from : Hash → StatelessOp → List ℕ → ℕ
  word_from hash (Un op a) ws = un_word op (slice_index ws 0)
  word_from hash (Bin op a b) ws = bin_word op (slice_index ws 0) (slice_index ws 1)
  word_from hash (Cond c a b) ws = chosen (slice_index ws 0) (slice_index ws 1) (slice_index ws 2)
  word_from hash (HashOf unit modulus args) ws = reduced modulus (hash unit ws)

  from_ports : (hash : Hash) (op : StatelessOp) (words : List ℕ) → stateless_word hash op words ≡ word_from hash op (map (λ a. port_word a words) (ports_of op))
  from_ports hash (Un op a) words = refl
  from_ports hash (Bin op a b) words = refl
  from_ports hash (Cond c a b) words = refl
  from_ports hash (HashOf unit modulus args) words = refl

  op_alike : (hash : Hash) (op : StatelessOp) → Alike u v (flat_map port_reads (ports_of op)) → stateless_word hash op u ≡ stateless_word hash op v
  op_alike hash op p = from_ports hash op u ∙ ap (λ (ws : List ℕ). word_from hash op ws) (ports_alike (ports_of op) p) ∙ sym (from_ports hash op v)

  module _ (old : List ℕ) where
    source_alike : (s : Source) → Alike u v (source_reads s) → source_word s old u ≡ source_word s old v
    source_alike (source.Const w) p = refl
    source_alike (source.Container k) p = p.0
    source_alike (source.State k) p = refl

    guard_alike : (g : Guard) → Alike u v (guard_reads g) → guard_holds g old u ≡ guard_holds g old v
    guard_alike g p =
        ap (λ (w : ℕ). relates g.rel w (source_word g.right old u)) (source_alike g.left (left_alike (source_reads g.left) (source_reads g.right) p))
        ∙ ap (λ (w : ℕ). relates g.rel (source_word g.left old v) w) (source_alike g.right (right_alike (source_reads g.left) (source_reads g.right) p))

    leaf_alike : (l : Leaf) (own : ℕ) → Alike u v (leaf_reads l) → leaf_word l own u ≡ leaf_word l own v
    leaf_alike leaf.Keep own p = refl
    leaf_alike (leaf.Put x) own p = port_alike x p
    leaf_alike (leaf.Add x) own p = ap (λ (w : ℕ). leaf_word (leaf.Add (Const w)) own u) (port_alike x p)
    leaf_alike (leaf.Sub x) own p = ap (λ (w : ℕ). leaf_word (leaf.Sub (Const w)) own u) (port_alike x p)

    tree_alike : (t : TreeForm) (own : ℕ) → Alike u v (tree_reads t) → word_of t own old u ≡ word_of t own old v
    tree_alike (Ends l) own p = leaf_alike l own p
    tree_alike (Asks g yes_form no_form) own p =
        let both : Alike u v (tree_reads yes_form ++ tree_reads no_form) = right_alike (guard_reads g) (tree_reads yes_form ++ tree_reads no_form) p in
        ap (λ (b : Bool). if b then word_of yes_form own old u else word_of no_form own old u) (guard_alike g (left_alike (guard_reads g) (tree_reads yes_form ++ tree_reads no_form) p))
        ∙ ap (λ (w : ℕ). if guard_holds g old v then w else word_of no_form own old u) (tree_alike yes_form own (left_alike (tree_reads yes_form) (tree_reads no_form) both))
        ∙ ap (λ (w : ℕ). if guard_holds g old v then word_of yes_form own old v else w) (tree_alike no_form own (right_alike (tree_reads yes_form) (tree_reads no_form) both))

    second_alike : (t : Option TreeForm) → Alike u v (second_reads t) → second_word t old u ≡ second_word t old v
    second_alike None p = refl
    second_alike (Some t) p = tree_alike t (slice_index old 1) p

    trees_alike : (t : TreesForm) → Alike u v (trees_reads t) → words_of t old u ≡ words_of t old v
    trees_alike t p =
        ap (λ (w : ℕ). w ∷ second_word t.second old u ∷ []) (tree_alike t.first (slice_index old 0) (left_alike (tree_reads t.first) (second_reads t.second) p))
        ∙ ap (λ (w : ℕ). word_of t.first (slice_index old 0) old v ∷ w ∷ []) (second_alike t.second (right_alike (tree_reads t.first) (second_reads t.second) p))

put-other : (es : List Export) (words : List ℕ) (k : ℕ) → Every (λ (e : Export). e.to ≢ k) es → slice_index (put es words) k ≡ slice_index words k
put-other [] words k p = refl
put-other (e ∷ es) words k p = put-other es (set words e.to e.word) k p.1 ∙ get_or-set_other words e.to k e.word 0 (λ q. p.0 (sym q))

element_alike : (s : PartSlot) (a : Arrays) (u v : List ℕ) → Alike u v (port_reads s.index) → slot_element s a u ≡ slot_element s a v
element_alike s a u v p = ap (λ (w : ℕ). w % length (array_of a s.array)) (port_alike u v s.index p)

olds_alike : (slots : List PartSlot) (a : Arrays) (u v : List ℕ) → Alike u v (flat_map slot_reads slots) → map (λ s. old_word s a u) slots ≡ map (λ s. old_word s a v) slots
olds_alike [] a u v p = refl
olds_alike (s ∷ slots) a u v p =
    let head : old_word s a u ≡ old_word s a v = ap (λ (i : ℕ). slice_index (array_of a s.array) i) (element_alike s a u v (Every-left (λ k. slice_index u k ≡ slice_index v k) (port_reads s.index) (flat_map slot_reads slots) p)) in
    let rest : map (λ s. old_word s a u) slots ≡ map (λ s. old_word s a v) slots = olds_alike slots a u v (Every-right (λ k. slice_index u k ≡ slice_index v k) (port_reads s.index) (flat_map slot_reads slots) p) in
    cc

slot_writes-alike : (slots : List PartSlot) (news : List ℕ) (a : Arrays) (u v : List ℕ) → Alike u v (flat_map slot_reads slots) → slot_writes slots news a u ≡ slot_writes slots news a v
slot_writes-alike [] news a u v p = refl
slot_writes-alike (s ∷ slots) [] a u v p = refl
slot_writes-alike (s ∷ slots) (n ∷ news) a u v p =
    ap (λ (i : ℕ). record { array = s.array; index = i; word = n } ∷ slot_writes slots news a u) (element_alike s a u v (Every-left (λ k. slice_index u k ≡ slice_index v k) (port_reads s.index) (flat_map slot_reads slots) p))
    ∙ ap (λ (z : List Write). record { array = s.array; index = slot_element s a v; word = n } ∷ z) (slot_writes-alike slots news a u v (Every-right (λ k. slice_index u k ≡ slice_index v k) (port_reads s.index) (flat_map slot_reads slots) p))

slot_exports-alike : (slots : List PartSlot) (news : List ℕ) (a : Arrays) (u v : List ℕ) → Alike u v (flat_map slot_reads slots) → slot_exports slots news a u ≡ slot_exports slots news a v
slot_exports-alike [] news a u v p = refl
slot_exports-alike (s ∷ slots) [] a u v p = refl
slot_exports-alike (s ∷ slots) (n ∷ news) a u v p =
    ap (λ (i : ℕ). export_to s.old (slice_index (array_of a s.array) i) ++ (export_to s.new n ++ slot_exports slots news a u)) (element_alike s a u v (Every-left (λ k. slice_index u k ≡ slice_index v k) (port_reads s.index) (flat_map slot_reads slots) p))
    ∙ ap (λ (z : List Export). export_to s.old (old_word s a v) ++ (export_to s.new n ++ z)) (slot_exports-alike slots news a u v (Every-right (λ k. slice_index u k ≡ slice_index v k) (port_reads s.index) (flat_map slot_reads slots) p))

pub touch_slots-same : (number : ℕ) (slots : List PartSlot) (a b : Arrays) (u : List ℕ) → Agree a b (map slot_array slots) → map (touch_of number a u) slots ≡ map (touch_of number b u) slots
touch_slots-same number [] a b u p = refl
touch_slots-same number (s ∷ slots) a b u p =
    ap (λ (i : ℕ). record { stage = number; array = s.array; index = i } ∷ map (touch_of number a u) slots) (slot_element-same s a b u p.0)
    ∙ ap (λ (z : List Touch). touch_of number b u s ∷ z) (touch_slots-same number slots a b u p.1)

touch_slots-alike : (number : ℕ) (slots : List PartSlot) (a : Arrays) (u v : List ℕ) → Alike u v (flat_map slot_reads slots) → map (touch_of number a u) slots ≡ map (touch_of number a v) slots
touch_slots-alike number [] a u v p = refl
touch_slots-alike number (s ∷ slots) a u v p =
    ap (λ (i : ℕ). record { stage = number; array = s.array; index = i } ∷ map (touch_of number a u) slots) (element_alike s a u v (Every-left (λ k. slice_index u k ≡ slice_index v k) (port_reads s.index) (flat_map slot_reads slots) p))
    ∙ ap (λ (z : List Touch). touch_of number a v s ∷ z) (touch_slots-alike number slots a u v (Every-right (λ k. slice_index u k ≡ slice_index v k) (port_reads s.index) (flat_map slot_reads slots) p))

abbrev pub touches_in : ℕ → Arrays → List ℕ → Atom → List Touch
touches_in number arrays words atom = map (touch_of number arrays words) (slots_of atom)

abbrev pub placed : List ℕ → Arrays → List Touch → InPlace
placed words arrays touches = record { words = words; arrays = arrays; touches = touches }

news_alike : (atom : AtomForm) (a : Arrays) (u v : List ℕ) → Alike u v (flat_map slot_reads atom.slots ++ trees_reads atom.trees) → new_words atom a u ≡ new_words atom a v
news_alike atom a u v p =
    ap (λ (olds : List ℕ). words_of atom.trees (two_of olds) u) (olds_alike atom.slots a u v (left_alike u v (flat_map slot_reads atom.slots) (trees_reads atom.trees) p))
    ∙ trees_alike u v (two_of (map (λ s. old_word s a v) atom.slots)) atom.trees (right_alike u v (flat_map slot_reads atom.slots) (trees_reads atom.trees) p)

writes_alike : (x : Atom) (a : Arrays) (u v : List ℕ) → Alike u v (reads_of x) → atom_writes x a u ≡ atom_writes x a v
writes_alike (Stateless atom) a u v p = refl
writes_alike (Stateful atom) a u v p =
    ap (λ (news : List ℕ). slot_writes atom.slots news a u) (news_alike atom a u v p)
    ∙ slot_writes-alike atom.slots (new_words atom a v) a u v (left_alike u v (flat_map slot_reads atom.slots) (trees_reads atom.trees) p)

exports_alike : (hash : Hash) (x : Atom) (a : Arrays) (u v : List ℕ) → Alike u v (reads_of x) → atom_exports hash x a u ≡ atom_exports hash x a v
exports_alike hash (Stateless atom) a u v p = ap (λ (w : ℕ). record { to = atom.to; word = w } ∷ []) (op_alike u v hash atom.op p)
exports_alike hash (Stateful atom) a u v p =
    ap (λ (news : List ℕ). slot_exports atom.slots news a u) (news_alike atom a u v p)
    ∙ slot_exports-alike atom.slots (new_words atom a v) a u v (left_alike u v (flat_map slot_reads atom.slots) (trees_reads atom.trees) p)

touches_alike : (x : Atom) (number : ℕ) (a b : Arrays) (u v : List ℕ) → Agree a b (arrays_of x) → Alike u v (reads_of x) → touches_in number a u x ≡ touches_in number b v x
touches_alike (Stateless atom) number a b u v q p = refl
touches_alike (Stateful atom) number a b u v q p =
    touch_slots-same number atom.slots a b u q
    ∙ touch_slots-alike number atom.slots b u v (left_alike u v (flat_map slot_reads atom.slots) (trees_reads atom.trees) p)

module _ (hash : Hash) where
  in_place_is : (number : ℕ) (xs : List (Atom)) (words now : List ℕ) (old arrays : Arrays) (ts : List Touch) → Every (λ x. Alike now words (reads_of x)) xs → NoneReads xs
      → Agree arrays old (flat_map arrays_of xs) → AreDistinct (flat_map arrays_of xs)
      → ◌≡◌ {A = InPlace} (runs (in_place hash number) xs (placed now arrays ts))
      (placed (put (flat_map (λ x. atom_exports hash x old words) xs) now) (store (flat_map (λ x. atom_writes x old words) xs) arrays) (ts ++ flat_map (touches_in number old words) xs))
  in_place_is number [] words now old arrays ts alike none agree apart = ap (λ (t : List Touch). placed now arrays t) (sym (append-nil ts))
  in_place_is number (x ∷ xs) words now old arrays ts alike none agree apart =
      let mine : Agree arrays old (arrays_of x) = Every-left (λ i. array_of arrays i ≡ array_of old i) (arrays_of x) (flat_map arrays_of xs) agree in
      let ex : List Export = atom_exports hash x old words in
      let wx : List Write = atom_writes x old words in
      let tx : List Touch = touches_in number old words x in
      let e1 : atom_exports hash x arrays now ≡ ex = atom_exports-same hash x arrays old now mine ∙ exports_alike hash x old now words alike.0 in
      let w1 : atom_writes x arrays now ≡ wx = atom_writes-same x arrays old now mine ∙ writes_alike x old now words alike.0 in
      let t1 : touches_in number arrays now x ≡ tx = touches_alike x number arrays old now words mine alike.0 in
      let next : List ℕ = put ex now in
      let still : Every (λ y. Alike next words (reads_of y)) xs = keep xs none.0 alike.1 in
      let agree' : Agree (store wx arrays) old (flat_map arrays_of xs) =
      both (flat_map arrays_of xs) (Every-swap (λ j i. j ≢ i) (arrays_of x) (flat_map arrays_of xs) (distinct_left (arrays_of x) (flat_map arrays_of xs) apart))
      (Every-right (λ i. array_of arrays i ≡ array_of old i) (arrays_of x) (flat_map arrays_of xs) agree) in
      let step : in_place hash number x (placed now arrays ts) ≡ placed next (store wx arrays) (ts ++ tx) =
      ap (λ (es : List Export). placed (put es now) (store (atom_writes x arrays now) arrays) (ts ++ touches_in number arrays now x)) e1
      ∙ ap (λ (ws : List Write). placed next (store ws arrays) (ts ++ touches_in number arrays now x)) w1
      ∙ ap (λ (t : List Touch). placed next (store wx arrays) (ts ++ t)) t1 in
      ap (λ (m : InPlace). runs (in_place hash number) xs m) step
      ∙ in_place_is number xs words next old (store wx arrays) (ts ++ tx) still none.1 agree' (distinct_right (arrays_of x) (flat_map arrays_of xs) apart)
      ∙ ap (λ (w : List ℕ). placed w (store (flat_map (λ x. atom_writes x old words) xs) (store wx arrays)) ((ts ++ tx) ++ flat_map (touches_in number old words) xs)) (sym (put-append ex (flat_map (λ x. atom_exports hash x old words) xs) now))
      ∙ ap (λ (b : Arrays). placed (put (ex ++ flat_map (λ x. atom_exports hash x old words) xs) now) b ((ts ++ tx) ++ flat_map (touches_in number old words) xs)) (sym (store-append wx (flat_map (λ x. atom_writes x old words) xs) arrays))
      ∙ ap (λ (t : List Touch). placed (put (ex ++ flat_map (λ x. atom_exports hash x old words) xs) now) (store (wx ++ flat_map (λ x. atom_writes x old words) xs) arrays) t) (append_assoc ts tx (flat_map (touches_in number old words) xs))
    where
      keep_one : (ks : List ℕ) → Every (λ k. Every (λ t. t ≢ k) (targets_of x)) ks → Alike now words ks → Alike (put (atom_exports hash x old words) now) words ks
      keep_one [] d p = tt
      keep_one (k ∷ ks) d p = (put-other (atom_exports hash x old words) now k (exports_to hash x old words (λ t. t ≢ k) d.0) ∙ p.0, keep_one ks d.1 p.1)

      keep : (ys : List (Atom)) → Every (λ y. Disjoint (targets_of x) (reads_of y)) ys → Every (λ y. Alike now words (reads_of y)) ys → Every (λ y. Alike (put (atom_exports hash x old words) now) words (reads_of y)) ys
      keep [] d p = tt
      keep (y ∷ ys) d p = (keep_one (reads_of y) (Every-swap (λ t k. t ≢ k) (targets_of x) (reads_of y) d.0) p.0, keep ys d.1 p.1)

      both : (ks : List ℕ) → Every (λ i. Every (λ j. j ≢ i) (arrays_of x)) ks → Every (λ i. array_of arrays i ≡ array_of old i) ks → Every (λ i. array_of (store (atom_writes x old words) arrays) i ≡ array_of old i) ks
      both [] d p = tt
      both (i ∷ ks) d p = (store-other (atom_writes x old words) arrays i (writes_to hash x old words (λ j. j ≢ i) d.0) ∙ p.0, both ks d.1 p.1)

  -- a stage in place is the stage on its incoming containers
  pub stage_in_place : (number : ℕ) (s : StageForm) (words : List ℕ) (arrays : Arrays) (ts : List Touch) → NoneReads (atoms_of s) → AreDistinct (stage_arrays s)
      → ◌≡◌ {A = InPlace} (runs (in_place hash number) (atoms_of s) (placed words arrays ts))
      (placed (put (stage_exports hash s arrays words) words) (store (stage_writes s arrays words) arrays) (ts ++ touches_before number s arrays (Some words)))
  stage_in_place number s words arrays ts none apart =
      in_place_is number (atoms_of s) words words arrays arrays ts
      (Every-always (λ x. Alike words words (reads_of x)) (λ x. Every-always (λ k. slice_index words k ≡ slice_index words k) (λ k. refl) (reads_of x)) (atoms_of s))
      none
      (Every-always (λ k. array_of arrays k ≡ array_of arrays k) (λ k. refl) (stage_arrays s))
      apart

-- An atom under new container numbers does on other containers what it did, where these hold the words that it reads.
use Rattle.std.proofs.Common.{◌≡◌, ℕ, ◌%◌, ◌≤◌, inl, Bool, true, Option, Some, None, List, [], ◌∷◌, ◌++◌, length, map, flat_map, refl, sym, ap, ◌∙◌, arith, append_assoc}
use Rattle.std.specs.Prelude.{slice_index}
use Rattle.std.specs.List.{AllByRecursion as Every}
use Rattle.std.specs.Option.{option_map, option_to_list}
use Rattle.std.proofs.lemmas.Bool.{and_from}
use Rattle.dom_words.specs.State.{Hash, array_of}
use Rattle.atom_traits.specs.declared.operation.StatelessOp.{StatelessOp}
use Rattle.atom_traits.specs.declared.tree.Guard.{Guard}
use Rattle.atom_traits.specs.declared.tree.Leaf.{Leaf}
use Rattle.atom_traits.specs.declared.tree.Leaf.TheVariants.{Keep, Put, Add, Sub}
use Rattle.atom_traits.specs.declared.tree.Port.{Port}
use Rattle.atom_traits.specs.declared.tree.Port.TheVariants as port
use Rattle.atom_traits.specs.declared.tree.Source.{Source}
use Rattle.atom_traits.specs.declared.tree.Source.TheVariants as source
use Rattle.atom_traits.specs.Form.{TreeForm, Ends, Asks, TreesForm, port_word, two_of, words_of}
use Rattle.atom_traits.specs.Operation.{operation_names, operation_renamed, ports_of, stateless_word}
use Rattle.atom_traits.specs.Renamed.{port_renamed, renamed}
use Rattle.atom_traits.specs.Tests.{guard_passes, leaf_passes, port_in, ports_in, second_passes, source_in, tree_passes, trees_name}
use Rattle.atom_traits.proofs.SameLaws.{trees_move}
use Rattle.atom_traits.proofs.OperationLaws.{operation_moves}
use Rattle.banzai_config.specs.declared.parts.PartSlot.{PartSlot}
use Rattle.banzai_config.specs.Action.{Arrays, Export, Write, atom_exports, atom_writes, export_to, new_words, old_word, slot_element, slot_exports, slot_writes}
use Rattle.banzai_config.specs.Legal.{has}
use Rattle.banzai_config.specs.Named.{guard_reads, leaf_reads, port_reads, reads_of, second_reads, slot_reads, slot_targets, source_reads, targets_of, tree_reads, trees_reads}
use Rattle.banzai_config.specs.Parts.{Atom, AtomForm, Stateful, Stateless}
use Rattle.container_plan.specs.Facts.{IsIn}
use Rattle.container_plan.specs.Renamed.{atom_renamed, form_renamed, slot_renamed}
use Rattle.container_plan.proofs.Every.{Every-left, Every-right}
use Rattle.container_plan.proofs.Least.{has_in, in_has}
use Rattle.container_plan.proofs.Made.{every_at}
use Rattle.container_plan.proofs.Order.{in_left, in_right}
use Rattle.container_plan.proofs.Renaming.{map-append}

-- an export to a new container
abbrev pub export_renamed : (ℕ → ℕ) → Export → Export
export_renamed name e = record { to = name e.to; word = e.word }

abbrev pub target_of : Export → ℕ
target_of e = e.to

-- A test that each container passes that is read.

module _ (r : ℕ → Bool) where
  abbrev pub Pass : List ℕ → Type 0
  Pass cs = (c : ℕ) → IsIn c cs → r c ≡ true

  port_pass : (x : Port) → Pass (port_reads x) → port_in r x ≡ true
  port_pass (port.Const w) h = refl
  port_pass (port.Container c) h = h c (inl refl)

  source_pass : (x : Source) → Pass (source_reads x) → source_in r x ≡ true
  source_pass (source.Const w) h = refl
  source_pass (source.Container c) h = h c (inl refl)
  source_pass (source.State k) h = refl

  leaf_pass : (l : Leaf) → Pass (leaf_reads l) → leaf_passes (port_in r) (source_in r) l ≡ true
  leaf_pass Keep h = refl
  leaf_pass (Put x) h = port_pass x h
  leaf_pass (Add x) h = port_pass x h
  leaf_pass (Sub x) h = port_pass x h

  guard_pass : (g : Guard) → Pass (guard_reads g) → guard_passes (port_in r) (source_in r) g ≡ true
  guard_pass g h =
      and_from _ _ (source_pass g.left (λ c i. h c (in_left c (source_reads g.left) (source_reads g.right) i))) (source_pass g.right (λ c i. h c (in_right c (source_reads g.left) (source_reads g.right) i)))

  tree_pass : (t : TreeForm) → Pass (tree_reads t) → tree_passes (port_in r) (source_in r) t ≡ true
  tree_pass (Ends l) h = leaf_pass l h
  tree_pass (Asks g a b) h =
      and_from _ _ (guard_pass g (λ c i. h c (in_left c (guard_reads g) (tree_reads a ++ tree_reads b) i)))
      (and_from _ _ (tree_pass a (λ c i. h c (in_right c (guard_reads g) (tree_reads a ++ tree_reads b) (in_left c (tree_reads a) (tree_reads b) i))))
      (tree_pass b (λ c i. h c (in_right c (guard_reads g) (tree_reads a ++ tree_reads b) (in_right c (tree_reads a) (tree_reads b) i)))))

  second_pass : (t : Option TreeForm) → Pass (second_reads t) → second_passes (port_in r) (source_in r) t ≡ true
  second_pass None h = refl
  second_pass (Some t) h = tree_pass t h

  pub trees_pass_all : (t : TreesForm) → Pass (trees_reads t) → trees_name r t ≡ true
  trees_pass_all t h =
      and_from _ _ (tree_pass t.first (λ c i. h c (in_left c (tree_reads t.first) (second_reads t.second) i))) (second_pass t.second (λ c i. h c (in_right c (tree_reads t.first) (second_reads t.second) i)))

  ports_pass : (ps : List Port) → Pass (flat_map port_reads ps) → ports_in r ps ≡ true
  ports_pass [] h = refl
  ports_pass (x ∷ ps) h =
      and_from _ _ (port_pass x (λ c i. h c (in_left c (port_reads x) (flat_map port_reads ps) i))) (ports_pass ps (λ c i. h c (in_right c (port_reads x) (flat_map port_reads ps) i)))

  pub operation_pass : (op : StatelessOp) → Pass (flat_map port_reads (ports_of op)) → operation_names r op ≡ true
  operation_pass op h = ports_pass (ports_of op) h

-- The words that an atom makes.

module _ (name : ℕ → ℕ) (words others : List ℕ) where
  -- the new containers hold the words of the old ones
  abbrev pub Same : List ℕ → Type 0
  Same cs = Every (λ c. slice_index others (name c) ≡ slice_index words c) cs

  same_at : (cs : List ℕ) → Same cs → (c : ℕ) → has c cs ≡ true → slice_index others (name c) ≡ slice_index words c
  same_at cs h c e = every_at (λ c. slice_index others (name c) ≡ slice_index words c) c cs h (has_in cs c e)

  pub trees_same : (t : TreesForm) (olds : List ℕ) → Same (trees_reads t) → words_of (renamed name t) olds others ≡ words_of t olds words
  trees_same t olds h =
      trees_move name (λ c. has c (trees_reads t)) olds words others (same_at (trees_reads t) h) t (trees_pass_all (λ c. has c (trees_reads t)) t (λ c i. in_has (trees_reads t) c i))

  pub operation_same : (hash : Hash) (op : StatelessOp) → Same (flat_map port_reads (ports_of op)) → stateless_word hash (operation_renamed name op) others ≡ stateless_word hash op words
  operation_same hash op h =
      let cs : List ℕ = flat_map port_reads (ports_of op) in
      operation_moves name (λ c. has c cs) words others (same_at cs h) hash op (operation_pass (λ c. has c cs) op (λ c i. in_has cs c i))

  pub port_same : (x : Port) → Same (port_reads x) → port_word (port_renamed name x) others ≡ port_word x words
  port_same (port.Const w) h = refl
  port_same (port.Container c) h = h.0

  element_same : (slot : PartSlot) (arrays : Arrays) → Same (slot_reads slot) → slot_element (slot_renamed name slot) arrays others ≡ slot_element slot arrays words
  element_same slot arrays h = ap (λ z. z % length (array_of arrays slot.array)) (port_same slot.index h)

  old_same : (slot : PartSlot) (arrays : Arrays) → Same (slot_reads slot) → old_word (slot_renamed name slot) arrays others ≡ old_word slot arrays words
  old_same slot arrays h = ap (λ z. slice_index (array_of arrays slot.array) (z % length (array_of arrays slot.array))) (port_same slot.index h)

  olds_same : (slots : List PartSlot) (arrays : Arrays) → Same (flat_map slot_reads slots) → map (λ slot. old_word slot arrays others) (map (slot_renamed name) slots) ≡ map (λ slot. old_word slot arrays words) slots
  olds_same [] arrays h = refl
  olds_same (slot ∷ slots) arrays h =
      let mine : old_word (slot_renamed name slot) arrays others ≡ old_word slot arrays words = old_same slot arrays (Every-left _ (slot_reads slot) (flat_map slot_reads slots) h) in
      let rest : map (λ slot. old_word slot arrays others) (map (slot_renamed name) slots) ≡ map (λ slot. old_word slot arrays words) slots = olds_same slots arrays (Every-right _ (slot_reads slot) (flat_map slot_reads slots) h) in
      ap (λ z. z ∷ map (λ slot. old_word slot arrays others) (map (slot_renamed name) slots)) mine ∙ ap (λ z. old_word slot arrays words ∷ z) rest

  slots_write : (slots : List PartSlot) (news : List ℕ) (arrays : Arrays) → Same (flat_map slot_reads slots) → slot_writes (map (slot_renamed name) slots) news arrays others ≡ slot_writes slots news arrays words
  slots_write [] news arrays h = refl
  slots_write (slot ∷ slots) [] arrays h = refl
  slots_write (slot ∷ slots) (new ∷ news) arrays h =
      let mine : slot_element (slot_renamed name slot) arrays others ≡ slot_element slot arrays words = element_same slot arrays (Every-left _ (slot_reads slot) (flat_map slot_reads slots) h) in
      let rest : slot_writes (map (slot_renamed name) slots) news arrays others ≡ slot_writes slots news arrays words = slots_write slots news arrays (Every-right _ (slot_reads slot) (flat_map slot_reads slots) h) in
      ap (λ (z : ℕ). let w : Write = record { array = slot.array; index = z; word = new } in w ∷ slot_writes (map (slot_renamed name) slots) news arrays others) mine
      ∙ ap (λ z. let w : Write = record { array = slot.array; index = slot_element slot arrays words; word = new } in w ∷ z) rest

  exported : (o : Option ℕ) (word : ℕ) → export_to (option_map name o) word ≡ map (export_renamed name) (export_to o word)
  exported None word = refl
  exported (Some c) word = refl

  slots_export : (slots : List PartSlot) (news : List ℕ) (arrays : Arrays) → Same (flat_map slot_reads slots)
      → slot_exports (map (slot_renamed name) slots) news arrays others ≡ map (export_renamed name) (slot_exports slots news arrays words)
  slots_export [] news arrays h = refl
  slots_export (slot ∷ slots) [] arrays h = refl
  slots_export (slot ∷ slots) (new ∷ news) arrays h =
      let mine : old_word (slot_renamed name slot) arrays others ≡ old_word slot arrays words = old_same slot arrays (Every-left _ (slot_reads slot) (flat_map slot_reads slots) h) in
      let rest : slot_exports (map (slot_renamed name) slots) news arrays others ≡ map (export_renamed name) (slot_exports slots news arrays words) = slots_export slots news arrays (Every-right _ (slot_reads slot) (flat_map slot_reads slots) h) in
      let old : export_to (option_map name slot.old) (old_word (slot_renamed name slot) arrays others) ≡ map (export_renamed name) (export_to slot.old (old_word slot arrays words)) =
      ap (export_to (option_map name slot.old)) mine ∙ exported slot.old (old_word slot arrays words) in
      let new' : export_to (option_map name slot.new) new ≡ map (export_renamed name) (export_to slot.new new) = exported slot.new new in
      let a : List Export = export_to slot.old (old_word slot arrays words) in
      let b : List Export = export_to slot.new new in
      let r : List Export = slot_exports slots news arrays words in
      let joined : map (export_renamed name) (a ++ (b ++ r)) ≡ map (export_renamed name) a ++ (map (export_renamed name) b ++ map (export_renamed name) r) =
      map-append (export_renamed name) a (b ++ r) ∙ ap (λ z. map (export_renamed name) a ++ z) (map-append (export_renamed name) b r) in
      ap (λ z. z ++ (export_to (option_map name slot.new) new ++ slot_exports (map (slot_renamed name) slots) news arrays others)) old
      ∙ ap (λ z. map (export_renamed name) a ++ (z ++ slot_exports (map (slot_renamed name) slots) news arrays others)) new'
      ∙ ap (λ z. map (export_renamed name) a ++ (map (export_renamed name) b ++ z)) rest
      ∙ sym joined

  news_same : (a : AtomForm) (arrays : Arrays) → Same (reads_of (Stateful a)) → new_words (form_renamed name a) arrays others ≡ new_words a arrays words
  news_same a arrays h =
      ap (λ z. words_of (renamed name a.trees) (two_of z) others) (olds_same a.slots arrays (Every-left _ (flat_map slot_reads a.slots) (trees_reads a.trees) h))
      ∙ trees_same a.trees (two_of (map (λ slot. old_word slot arrays words) a.slots)) (Every-right _ (flat_map slot_reads a.slots) (trees_reads a.trees) h)

  -- it stores the same
  pub stored_same : (a : Atom) (arrays : Arrays) → Same (reads_of a) → atom_writes (atom_renamed name a) arrays others ≡ atom_writes a arrays words
  stored_same (Stateless a) arrays h = refl
  stored_same (Stateful a) arrays h =
      ap (λ z. slot_writes (map (slot_renamed name) a.slots) z arrays others) (news_same a arrays h) ∙ slots_write a.slots (new_words a arrays words) arrays (Every-left _ (flat_map slot_reads a.slots) (trees_reads a.trees) h)

  -- it exports the same, to the new containers
  pub exported_same : (hash : Hash) (a : Atom) (arrays : Arrays) → Same (reads_of a) → atom_exports hash (atom_renamed name a) arrays others ≡ map (export_renamed name) (atom_exports hash a arrays words)
  exported_same hash (Stateless a) arrays h = ap (λ (z : ℕ). let e : Export = record { to = name a.to; word = z } in e ∷ []) (operation_same hash a.op h)
  exported_same hash (Stateful a) arrays h =
      ap (λ z. slot_exports (map (slot_renamed name) a.slots) z arrays others) (news_same a arrays h) ∙ slots_export a.slots (new_words a arrays words) arrays (Every-left _ (flat_map slot_reads a.slots) (trees_reads a.trees) h)

-- What exports name.

export_target : (o : Option ℕ) (word : ℕ) → map target_of (export_to o word) ≡ option_to_list o
export_target None word = refl
export_target (Some c) word = refl

slots_export_to : (slots : List PartSlot) (news : List ℕ) (arrays : Arrays) (words : List ℕ) → length slots ≤ length news → map target_of (slot_exports slots news arrays words) ≡ flat_map slot_targets slots
slots_export_to [] news arrays words h = refl
slots_export_to (slot ∷ slots) [] arrays words h = absurd (omega arith)
slots_export_to (slot ∷ slots) (new ∷ news) arrays words h =
    let a : List Export = export_to slot.old (old_word slot arrays words) in
    let b : List Export = export_to slot.new new in
    let r : List Export = slot_exports slots news arrays words in
    let rest : map target_of r ≡ flat_map slot_targets slots = slots_export_to slots news arrays words (omega arith) in
    map-append target_of a (b ++ r) ∙ ap (λ z. map target_of a ++ z) (map-append target_of b r)
    ∙ ap (λ z. z ++ (map target_of b ++ map target_of r)) (export_target slot.old (old_word slot arrays words))
    ∙ ap (λ z. option_to_list slot.old ++ (z ++ map target_of r)) (export_target slot.new new)
    ∙ ap (λ z. option_to_list slot.old ++ (option_to_list slot.new ++ z)) rest
    ∙ sym (append_assoc (option_to_list slot.old) (option_to_list slot.new) (flat_map slot_targets slots))

-- an atom with state has two slots at most
abbrev pub IsNarrow : Atom → Type 0
IsNarrow (Stateless a) = Unit {0}
IsNarrow (Stateful a) = length a.slots ≤ 2

-- an atom exports to the containers that it writes
pub exports_to : (hash : Hash) (a : Atom) (arrays : Arrays) (words : List ℕ) → IsNarrow a → map target_of (atom_exports hash a arrays words) ≡ targets_of a
exports_to hash (Stateless a) arrays words narrow = refl
exports_to hash (Stateful a) arrays words narrow = slots_export_to a.slots (new_words a arrays words) arrays words narrow

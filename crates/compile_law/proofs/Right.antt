-- The atom of a codelet that is right is right.
use Rattle.std.proofs.Common.{◌≡◌, ℕ, suc, ◌%◌, ◌<◌, ◌≤◌, List, [], ◌∷◌, ◌++◌, Option, Some, None, length, map, get_or, set, refl, sym, ap, ◌∙◌, subst, arith, ◌≢◌, get_or-set_other, append_assoc}
use Rattle.std.specs.Prelude.{slice_index}
use Rattle.std.specs.Option.{option_to_list}
use Rattle.std.specs.List.{flat_map, AllByRecursion as Every}
use Rattle.dom_words.specs.State.{Hash, array_of, fetched, stored}
use Rattle.dom_flat.specs.Meaning.{operand_word}
use Rattle.codelets.specs.declared.held.Held.{Held}
use Rattle.codelets.specs.Lists.{AreDistinct}
use Rattle.codelets.specs.Linked.{Linked}
use Rattle.codelets.specs.Cut.{cut}
use Rattle.codelets.specs.Containers.{holder, place}
use Rattle.codelets.specs.Answer.{option_place}
use Rattle.atom_traits.specs.Form.{TreesForm, port_word, two_of, words_of}
use Rattle.atom_traits.specs.Operation.{stateless_word}
use Rattle.atom_match.specs.Atoms.{port_of}
use Rattle.atom_match.specs.Meaning.{Enters, stored_word}
use Rattle.banzai_config.specs.declared.parts.OpAtom.{OpAtom}
use Rattle.banzai_config.specs.declared.parts.PartSlot.{PartSlot}
use Rattle.banzai_config.specs.Action.{Arrays, Write, Export, store, slot_element, old_word, slot_writes, slot_exports, export_to, new_words, atom_writes, atom_exports}
use Rattle.banzai_config.specs.Named.{arrays_of, slot_targets, targets_of}
use Rattle.banzai_config.specs.Parts.{Atom, AtomForm, Stateless, Stateful}
use Rattle.compile_law.proofs.Front.{IsRight, right_export}
use Rattle.compile_law.proofs.Planned.{atom_slot}
use Rattle.compile_law.proofs.Every.{Every-weaker, Every-zip, Every-always}
use Rattle.compile_law.proofs.Store.{store-other}
use Rattle.dom_words.proofs.Stored.{set_here}

-- val: the word of each value; before and after: the arrays
module _ (P : Linked) (val : ℕ → ℕ) (before after : Arrays) where
  abbrev pub right : ℕ → ℕ
  right c = val (holder (cut P) c)

  -- the containers hold what codelet c has from outside
  abbrev pub IsFed : List ℕ → List ℕ → Type 0
  IsFed c words = (v : ℕ) → Enters P c v → slice_index words (place (cut P) v) ≡ val v

  abbrev pub word_of : Held → ℕ
  word_of h = stored_word h.write h.read val

  -- an export of this word is right
  abbrev pub ShowsWord : Option ℕ → ℕ → Type 0
  ShowsWord None w = Unit {0}
  ShowsWord (Some v) w = (holder (cut P) (place (cut P) v) ≡ v) × (val v ≡ w)

  pub record HeldRight (c : List ℕ) (h : Held) : Type 0 where
    pub index : (words : List ℕ) → IsFed c words → port_word (port_of (place (cut P)) h.index) words ≡ operand_word h.index val
    pub read : val h.read ≡ fetched before h.array (operand_word h.index val)
    pub old : ShowsWord h.old (val h.read)
    pub new : ShowsWord h.new (word_of h)
    pub left : array_of after h.array ≡ array_of (stored before h.array (operand_word h.index val) (word_of h)) h.array

  abbrev my_slots : List Held → List PartSlot
  my_slots hs = map (atom_slot P) hs

  abbrev IsOld : Arrays → List Held → Type 0
  IsOld arrays hs = Every (λ a. array_of arrays a ≡ array_of before a) (map (λ slot. slot.array) (my_slots hs))

  element_right : (c : List ℕ) (h : Held) (arrays : Arrays) (words : List ℕ) → HeldRight c h → IsFed c words → array_of arrays h.array ≡ array_of before h.array
      → slot_element (atom_slot P h) arrays words ≡ operand_word h.index val % length (array_of before h.array)
  element_right c h arrays words r fed old =
      ap (λ (i : ℕ). i % length (array_of arrays h.array)) (r.index words fed) ∙ ap (λ (ws : List ℕ). operand_word h.index val % length ws) old

  old_right : (c : List ℕ) (h : Held) (arrays : Arrays) (words : List ℕ) → HeldRight c h → IsFed c words → array_of arrays h.array ≡ array_of before h.array
      → old_word (atom_slot P h) arrays words ≡ val h.read
  old_right c h arrays words r fed old =
      ap (λ (i : ℕ). slice_index (array_of arrays h.array) i) (element_right c h arrays words r fed old)
      ∙ ap (λ (ws : List ℕ). slice_index ws (operand_word h.index val % length (array_of before h.array))) old
      ∙ sym r.read

  olds_right : (c : List ℕ) (hs : List Held) (arrays : Arrays) (words : List ℕ) → Every (HeldRight c) hs → IsFed c words → IsOld arrays hs
      → map (λ slot. old_word slot arrays words) (my_slots hs) ≡ map (λ h. val h.read) hs
  olds_right c [] arrays words r fed old = refl
  olds_right c (h ∷ hs) arrays words r fed old =
      let head : old_word (atom_slot P h) arrays words ≡ val h.read = old_right c h arrays words r.0 fed old.0 in
      let rest : map (λ slot. old_word slot arrays words) (my_slots hs) ≡ map (λ h. val h.read) hs = olds_right c hs arrays words r.1 fed old.1 in
      cc

  export_right : (to : Option ℕ) (w u : ℕ) → ShowsWord to u → w ≡ u → export_to (option_place (cut P) to) w ≡ map (right_export right) (option_to_list (option_place (cut P) to))
  export_right None w u r e = refl
  export_right (Some v) w u r e = ap (λ (x : ℕ). record { to = place (cut P) v; word = x } ∷ []) (e ∙ sym r.1 ∙ ap val (sym r.0))

  map-append' : (cs ds : List ℕ) → map (right_export right) (cs ++ ds) ≡ map (right_export right) cs ++ map (right_export right) ds
  map-append' [] ds = refl
  map-append' (c ∷ cs) ds = ap (λ (z : List Export). right_export right c ∷ z) (map-append' cs ds)

  slots_show : (c : List ℕ) (hs : List Held) (arrays : Arrays) (words : List ℕ) → Every (HeldRight c) hs → IsFed c words → IsOld arrays hs
      → slot_exports (my_slots hs) (map word_of hs) arrays words ≡ map (right_export right) (flat_map slot_targets (my_slots hs))
  slots_show c [] arrays words r fed old = refl
  slots_show c (h ∷ hs) arrays words r fed old =
      let slots : List PartSlot = my_slots hs in
      let slot : PartSlot = atom_slot P h in
      let ts : List ℕ = flat_map slot_targets slots in
      let first : export_to slot.old (old_word slot arrays words) ≡ map (right_export right) (option_to_list slot.old) =
      export_right h.old (old_word slot arrays words) (val h.read) r.0.old (old_right c h arrays words r.0 fed old.0) in
      let second : export_to slot.new (word_of h) ≡ map (right_export right) (option_to_list slot.new) = export_right h.new (word_of h) (word_of h) r.0.new refl in
      let rest : slot_exports slots (map word_of hs) arrays words ≡ map (right_export right) ts = slots_show c hs arrays words r.1 fed old.1 in
      ap (λ (z : List Export). z ++ (export_to slot.new (word_of h) ++ slot_exports slots (map word_of hs) arrays words)) first
      ∙ ap (λ (z : List Export). map (right_export right) (option_to_list slot.old) ++ (z ++ slot_exports slots (map word_of hs) arrays words)) second
      ∙ ap (λ (z : List Export). map (right_export right) (option_to_list slot.old) ++ (map (right_export right) (option_to_list slot.new) ++ z)) rest
      ∙ sym (map-append' (option_to_list slot.old ++ option_to_list slot.new) ts ∙ ap (λ (z : List Export). z ++ map (right_export right) ts) (map-append' (option_to_list slot.old) (option_to_list slot.new)) ∙ append_assoc (map (right_export right) (option_to_list slot.old)) (map (right_export right) (option_to_list slot.new)) (map (right_export right) ts))

  -- one or two slots take no more of the two words than they are
  trim_exports : (hs : List PartSlot) (ws : List ℕ) (arrays : Arrays) (words : List ℕ) → length hs ≡ length ws → length hs ≤ 2 → slot_exports hs (two_of ws) arrays words ≡ slot_exports hs ws arrays words
  trim_exports [] [] arrays words e few = refl
  trim_exports [] (w ∷ ws) arrays words e few = absurd (omega arith)
  trim_exports (h ∷ hs) [] arrays words e few = absurd (omega arith)
  trim_exports (h ∷ []) (w ∷ []) arrays words e few = refl
  trim_exports (h ∷ []) (w ∷ x ∷ ws) arrays words e few = absurd (omega arith)
  trim_exports (h ∷ i ∷ hs) (w ∷ []) arrays words e few = absurd (omega arith)
  trim_exports (h ∷ i ∷ []) (w ∷ x ∷ []) arrays words e few = refl
  trim_exports (h ∷ i ∷ []) (w ∷ x ∷ y ∷ ws) arrays words e few = absurd (omega arith)
  trim_exports (h ∷ i ∷ j ∷ hs) (w ∷ x ∷ ws) arrays words e few = absurd (omega arith)

  trim_writes : (hs : List PartSlot) (ws : List ℕ) (arrays : Arrays) (words : List ℕ) → length hs ≡ length ws → length hs ≤ 2 → slot_writes hs (two_of ws) arrays words ≡ slot_writes hs ws arrays words
  trim_writes [] [] arrays words e few = refl
  trim_writes [] (w ∷ ws) arrays words e few = absurd (omega arith)
  trim_writes (h ∷ hs) [] arrays words e few = absurd (omega arith)
  trim_writes (h ∷ []) (w ∷ []) arrays words e few = refl
  trim_writes (h ∷ []) (w ∷ x ∷ ws) arrays words e few = absurd (omega arith)
  trim_writes (h ∷ i ∷ hs) (w ∷ []) arrays words e few = absurd (omega arith)
  trim_writes (h ∷ i ∷ []) (w ∷ x ∷ []) arrays words e few = refl
  trim_writes (h ∷ i ∷ []) (w ∷ x ∷ y ∷ ws) arrays words e few = absurd (omega arith)
  trim_writes (h ∷ i ∷ j ∷ hs) (w ∷ x ∷ ws) arrays words e few = absurd (omega arith)

  -- writes of slots name these slots' arrays alone
  slot_writes-arrays : (slots : List PartSlot) (news : List ℕ) (a : Arrays) (words : List ℕ) (k : ℕ) → Every (λ j. j ≢ k) (map (λ (s : PartSlot). s.array) slots) → Every (λ (w : Write). w.array ≢ k) (slot_writes slots news a words)
  slot_writes-arrays [] news a words k p = tt
  slot_writes-arrays (s ∷ slots) [] a words k p = tt
  slot_writes-arrays (s ∷ slots) (n ∷ news) a words k p = (p.0, slot_writes-arrays slots news a words k p.1)

  pub arrays_map : (hs : List Held) → map (λ (s : PartSlot). s.array) (my_slots hs) ≡ map (λ h. h.array) hs
  arrays_map [] = refl
  arrays_map (h ∷ hs) = let rest : map (λ (s : PartSlot). s.array) (my_slots hs) ≡ map (λ h. h.array) hs = arrays_map hs in cc

  -- the words are computed on `arrays`; the writes of the slots before are already in `now`
  slots_leave : (c : List ℕ) (hs : List Held) (arrays now : Arrays) (words : List ℕ) → Every (HeldRight c) hs → IsFed c words → AreDistinct (map (λ h. h.array) hs)
      → Every (λ h. array_of arrays h.array ≡ array_of before h.array) hs → Every (λ h. array_of now h.array ≡ array_of arrays h.array) hs
      → Every (λ h. array_of (store (slot_writes (my_slots hs) (map word_of hs) arrays words) now) h.array ≡ array_of after h.array) hs
  slots_leave c [] arrays now words r fed distinct old same = tt
  slots_leave c (h ∷ hs) arrays now words r fed distinct old same =
      let slot : PartSlot = atom_slot P h in
      let i : ℕ = slot_element slot arrays words in
      let rest : List Write = slot_writes (my_slots hs) (map word_of hs) arrays words in
      let now' : Arrays = set now h.array (set (get_or now h.array []) i (word_of h)) in
      let apart : Every (λ a. a ≢ h.array) (map (λ (s : PartSlot). s.array) (my_slots hs)) =
      rw (arrays_map hs) (Every-weaker (λ a. h.array ≢ a) (λ a. a ≢ h.array) (λ a ne e. ne (sym e)) (map (λ h. h.array) hs) distinct.0) in
      let here : get_or now h.array [] ≡ array_of before h.array = same.0 ∙ old.0 in
      let first : array_of (store rest now') h.array ≡ array_of after h.array =
      store-other rest now' h.array (slot_writes-arrays (my_slots hs) (map word_of hs) arrays words h.array apart)
      ∙ set_here now h.array i (word_of h)
      ∙ ap (λ (ws : List ℕ). set ws i (word_of h)) here
      ∙ ap (λ (j : ℕ). set (array_of before h.array) j (word_of h)) (element_right c h arrays words r.0 fed old.0)
      ∙ sym (set_here before h.array (operand_word h.index val % length (array_of before h.array)) (word_of h))
      ∙ sym r.0.left in
      let kept : Every (λ g. array_of now' g.array ≡ array_of arrays g.array) hs =
      Every-weaker (λ g. (array_of now g.array ≡ array_of arrays g.array) × (h.array ≢ g.array)) (λ g. array_of now' g.array ≡ array_of arrays g.array)
      (λ g q. get_or-set_other now h.array g.array (set (get_or now h.array []) i (word_of h)) [] (λ e. q.1 (sym e)) ∙ q.0) hs (Every-zip _ _ hs same.1 (unmap _ hs distinct.0)) in
      (first, slots_leave c hs arrays now' words r.1 fed distinct.1 old.1 kept)
    where
      unmap : (Q : ℕ → Type 0) (gs : List Held) → Every Q (map (λ h. h.array) gs) → Every (λ g. Q g.array) gs
      unmap Q [] p = tt
      unmap Q (g ∷ gs) p = (p.0, unmap Q gs p.1)

  unmap' : (Q : ℕ → Type 0) (hs : List Held) → Every Q (map (λ (s : PartSlot). s.array) (my_slots hs)) → Every (λ h. Q h.array) hs
  unmap' Q [] p = tt
  unmap' Q (h ∷ hs) p = (p.0, unmap' Q hs p.1)

  remap' : (Q : ℕ → Type 0) (hs : List Held) → Every (λ h. Q h.array) hs → Every Q (map (λ (s : PartSlot). s.array) (my_slots hs))
  remap' Q [] p = tt
  remap' Q (h ∷ hs) p = (p.0, remap' Q hs p.1)

  length_map : {X Y : Type 0} (f : X → Y) (xs : List X) → length (map f xs) ≡ length xs
  length_map f [] = refl
  length_map f (x ∷ xs) = ap (λ n. suc n) (length_map f xs)

  -- the atom of these arrays with these trees
  abbrev pub group_atom : List Held → TreesForm → AtomForm
  group_atom hs t = record { slots = my_slots hs; trees = t }

  -- size: the number of containers; Known k c: container c is right behind stage k
  module _ (hash : Hash) (size : ℕ) (Known : ℕ → ℕ → Type 0) where
    abbrev pub IsAtomRight : ℕ → Atom → Type 0
    IsAtomRight k atom = IsRight atom_writes (atom_exports hash) arrays_of targets_of (λ j. right) before after size Known k atom

    -- where all known containers are right, codelet c has its words from outside
    abbrev pub Feeds : ℕ → List ℕ → Type 0
    Feeds k c = (words : List ℕ) → ((d : ℕ) → Known k d → slice_index words d ≡ right d) → IsFed c words

    pub single_right : (k : ℕ) (c : List ℕ) (a : OpAtom) (v : ℕ) → holder (cut P) a.to ≡ v → ((words : List ℕ) → IsFed c words → stateless_word hash a.op words ≡ val v)
        → Feeds k c → a.to < size → IsAtomRight k (Stateless a)
    single_right k c a v holds makes feeds within = record {
      shows = λ arrays words long ready old. ap (λ (w : ℕ). record { to = a.to; word = w } ∷ []) (makes words (feeds words ready) ∙ ap val (sym holds));
      leaves = λ arrays words long ready old. tt;
      elsewhere = λ arrays words j ne. tt;
      within = (within, tt);
    }

    pub group_right : (k : ℕ) (c : List ℕ) (hs : List Held) (t : TreesForm) → Every (HeldRight c) hs → length hs ≤ 2 → AreDistinct (map (λ h. h.array) hs)
        → ((words : List ℕ) → IsFed c words → words_of t (two_of (map (λ h. val h.read) hs)) words ≡ two_of (map word_of hs))
        → Feeds k c → Every (λ d. d < size) (targets_of (Stateful (group_atom hs t))) → IsAtomRight k (Stateful (group_atom hs t))
    group_right k c hs t are few distinct means feeds within =
        let sizes : length (my_slots hs) ≡ length (map word_of hs) = length_map (atom_slot P) hs ∙ sym (length_map word_of hs) in
        let few' : length (my_slots hs) ≤ 2 = omega (arith, length_map (atom_slot P) hs, few) in
        record {
          shows = λ arrays words long ready old.
              ap (λ (ns : List ℕ). slot_exports (my_slots hs) ns arrays words) (news arrays words (feeds words ready) old)
              ∙ trim_exports (my_slots hs) (map word_of hs) arrays words sizes few'
              ∙ slots_show c hs arrays words are (feeds words ready) old;
          leaves = λ arrays words long ready old.
              let is : slot_writes (my_slots hs) (new_words (group_atom hs t) arrays words) arrays words ≡ slot_writes (my_slots hs) (map word_of hs) arrays words =
              ap (λ (ns : List ℕ). slot_writes (my_slots hs) ns arrays words) (news arrays words (feeds words ready) old)
              ∙ trim_writes (my_slots hs) (map word_of hs) arrays words sizes few' in
              remap' (λ a. array_of (store (slot_writes (my_slots hs) (new_words (group_atom hs t) arrays words) arrays words) arrays) a ≡ array_of after a) hs
              (subst (λ (ws : List Write). Every (λ h. array_of (store ws arrays) h.array ≡ array_of after h.array) hs) (sym is)
              (slots_leave c hs arrays arrays words are (feeds words ready) distinct (unmap' (λ a. array_of arrays a ≡ array_of before a) hs old) (Every-always (λ h. array_of arrays h.array ≡ array_of arrays h.array) (λ h. refl) hs)));
          elsewhere = λ arrays words j ne. slot_writes-arrays (my_slots hs) (new_words (group_atom hs t) arrays words) arrays words j ne;
          within = within;
        }
      where
        news : (arrays : Arrays) (words : List ℕ) → IsFed c words → IsOld arrays hs → new_words (group_atom hs t) arrays words ≡ two_of (map word_of hs)
        news arrays words fed old = ap (λ (ws : List ℕ). words_of t (two_of ws) words) (olds_right c hs arrays words are fed old) ∙ means words fed

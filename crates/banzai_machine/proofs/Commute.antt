-- Two atoms that write different arrays and different containers may be fired in either order.
use Rattle.std.proofs.Common.{◌≡◌, ℕ, zero, suc, Option, Some, None, List, [], ◌∷◌, ◌++◌, map, get_or, set, refl, sym, ◌∙◌, ap, ◌≢◌, ◌⊎◌, inl, inr, get_or-set_other}
use Rattle.std.proofs.lemmas.Bool.{cases_eq}
use Rattle.std.proofs.lemmas.List.{set_comm, set-set}
use Rattle.std.specs.List.{flat_map, AllByRecursion as Every}
use Rattle.std.specs.Option.{option_to_list}
use Rattle.dom_words.specs.State.{Hash, array_of}
use Rattle.pipeline_law.specs.Order.{Commute}
use Rattle.pipeline_law.specs.Pipeline.{Midst}
use Rattle.banzai_config.specs.declared.parts.PartSlot.{PartSlot}
use Rattle.banzai_config.specs.Action.{Arrays, Entry, Write, Export, store, put, export_to, old_word, slot_writes, slot_exports, new_words, atom_writes, atom_exports}
use Rattle.banzai_config.specs.Named.{arrays_of, slot_array, slot_targets, targets_of}
use Rattle.banzai_config.specs.Parts.{Atom, Stateless, Stateful}
use Rattle.banzai_machine.specs.Fired.{Firing, put_into, fired_on, fire}
use Rattle.banzai_machine.proofs.Every.{Every-append, Every-left, Every-right, Every-weaker, Every-swap}
use Rattle.banzai_machine.proofs.Store.{Agree, store-other, atom_writes-same, atom_exports-same}

-- no number of the first list is one of the second
abbrev pub Disjoint : List ℕ → List ℕ → Type 0
Disjoint xs ys = Every (λ x. Every (λ y. x ≢ y) ys) xs

-- no number of the first list is in the second
pub disjoint_swap : (xs ys : List ℕ) → Disjoint xs ys → Disjoint ys xs
disjoint_swap xs ys p =
    Every-weaker (λ y. Every (λ x. x ≢ y) xs) (λ y. Every (λ x. y ≢ x) xs)
    (λ y h. Every-weaker (λ x. x ≢ y) (λ x. y ≢ x) (λ x ne e. ne (sym e)) xs h) ys (Every-swap (λ x y. x ≢ y) xs ys p)

-- a write may come before or after writes to other arrays
store_past : (i j u : ℕ) (ws : List Write) (a : Arrays) → Every (λ (v : Write). v.array ≢ i) ws
    → store ws (set a i (set (get_or a i []) j u)) ≡ set (store ws a) i (set (get_or (store ws a) i []) j u)
store_past i j u [] a p = refl
store_past i j u (v ∷ ws) a p =
    let new : List ℕ = set (get_or a v.array []) v.index v.word in
    let next : Arrays = set a v.array new in
    let ne : i ≢ v.array = λ e. p.0 (sym e) in
    let read : get_or (set a i (set (get_or a i []) j u)) v.array [] ≡ get_or a v.array [] = get_or-set_other a i v.array (set (get_or a i []) j u) [] p.0 in
    let back : get_or next i [] ≡ get_or a i [] = get_or-set_other a v.array i new [] ne in
    let turn : set (set a i (set (get_or a i []) j u)) v.array new ≡ set next i (set (get_or next i []) j u) =
    set_comm a i v.array (set (get_or a i []) j u) new ne ∙ ap (λ (xs : List ℕ). set next i (set xs j u)) (sym back) in
    ap (λ (xs : List ℕ). store ws (set (set a i (set (get_or a i []) j u)) v.array (set xs v.index v.word))) read
    ∙ ap (λ (z : Arrays). store ws z) turn
    ∙ store_past i j u ws next p.1

pub store_comm : (xs ys : List Write) (a : Arrays) → Every (λ (x : Write). Every (λ (y : Write). y.array ≢ x.array) ys) xs → store xs (store ys a) ≡ store ys (store xs a)
store_comm [] ys a p = refl
store_comm (x ∷ xs) ys a p =
    ap (λ (z : Arrays). store xs z) (sym (store_past x.array x.index x.word ys a p.0))
    ∙ store_comm xs ys (set a x.array (set (get_or a x.array []) x.index x.word)) p.1

put_past : (i u : ℕ) (es : List Export) (words : List ℕ) → Every (λ (e : Export). e.to ≢ i) es → put es (set words i u) ≡ set (put es words) i u
put_past i u [] words p = refl
put_past i u (e ∷ es) words p =
    ap (λ (z : List ℕ). put es z) (set_comm words i e.to u e.word (λ q. p.0 (sym q))) ∙ put_past i u es (set words e.to e.word) p.1

pub put_comm : (xs ys : List Export) (words : List ℕ) → Every (λ (x : Export). Every (λ (y : Export). y.to ≢ x.to) ys) xs → put xs (put ys words) ≡ put ys (put xs words)
put_comm [] ys words p = refl
put_comm (x ∷ xs) ys words p = ap (λ (z : List ℕ). put xs z) (sym (put_past x.to x.word ys words p.0)) ∙ put_comm xs ys (set words x.to x.word) p.1

pub put_into_comm : (xs ys : List Export) (e : Entry) → Every (λ (x : Export). Every (λ (y : Export). y.to ≢ x.to) ys) xs → put_into xs (put_into ys e) ≡ put_into ys (put_into xs e)
put_into_comm xs ys None p = refl
put_into_comm xs ys (Some words) p = ap (λ (z : List ℕ). Some z) (put_comm xs ys words p)

-- exports into one copy of many
abbrev pub into : List Export → ℕ → List Entry → List Entry
into es k cs = set cs k (put_into es (get_or cs k None))

entry_here : (es : List Export) (k : ℕ) (cs : List Entry) → get_or (into es k cs) k None ≡ put_into es (get_or cs k None)
entry_here es k [] = refl
entry_here es zero (c ∷ cs) = refl
entry_here es (suc k) (c ∷ cs) = entry_here es k cs

into_twice : (xs ys : List Export) (k : ℕ) (cs : List Entry) → into xs k (into ys k cs) ≡ set cs k (put_into xs (put_into ys (get_or cs k None)))
into_twice xs ys k cs =
    ap (λ (e : Entry). set (into ys k cs) k (put_into xs e)) (entry_here ys k cs)
    ∙ set-set cs k (put_into ys (get_or cs k None)) (put_into xs (put_into ys (get_or cs k None)))

into_other : (xs ys : List Export) (j k : ℕ) (cs : List Entry) → j ≢ k → into xs j (into ys k cs) ≡ into ys k (into xs j cs)
into_other xs ys j k cs ne =
    let x : Entry = put_into xs (get_or cs j None) in
    let y : Entry = put_into ys (get_or cs k None) in
    ap (λ (e : Entry). set (into ys k cs) j (put_into xs e)) (get_or-set_other cs k j y None ne)
    ∙ set_comm cs k j y x (λ e. ne (sym e))
    ∙ ap (λ (e : Entry). set (into xs j cs) k (put_into ys e)) (sym (get_or-set_other cs j k x None (λ e. ne (sym e))))

pub into_comm : (xs ys : List Export) (j k : ℕ) (cs : List Entry) → (j ≢ k) ⊎ Every (λ (x : Export). Every (λ (y : Export). y.to ≢ x.to) ys) xs → into xs j (into ys k cs) ≡ into ys k (into xs j cs)
into_comm xs ys j k cs (inl ne) = into_other xs ys j k cs ne
into_comm xs ys j k cs (inr apart) =
    elim (cases_eq j k) [
      | inl is ↦ rw is (into_twice xs ys k cs ∙ ap (λ (e : Entry). set cs k e) (put_into_comm xs ys (get_or cs k None) apart) ∙ sym (into_twice ys xs k cs))
      | inr ne ↦ into_other xs ys j k cs ne
    ]

-- what an atom exports goes to its targets
exported_to : (to : Option ℕ) (word : ℕ) (Q : ℕ → Type 0) → Every Q (option_to_list to) → Every (λ (e : Export). Q e.to) (export_to to word)
exported_to None word Q p = tt
exported_to (Some k) word Q p = (p.0, tt)

slot_exports_to : (slots : List PartSlot) (news : List ℕ) (a : Arrays) (words : List ℕ) (Q : ℕ → Type 0) → Every Q (flat_map slot_targets slots)
    → Every (λ (e : Export). Q e.to) (slot_exports slots news a words)
slot_exports_to [] news a words Q p = tt
slot_exports_to (s ∷ slots) [] a words Q p = tt
slot_exports_to (s ∷ slots) (n ∷ news) a words Q p =
    let these : Every Q (option_to_list s.old ++ option_to_list s.new) = Every-left Q (option_to_list s.old ++ option_to_list s.new) (flat_map slot_targets slots) p in
    let others : Every Q (flat_map slot_targets slots) = Every-right Q (option_to_list s.old ++ option_to_list s.new) (flat_map slot_targets slots) p in
    Every-append (λ (e : Export). Q e.to) (export_to s.old (old_word s a words)) (export_to s.new n ++ slot_exports slots news a words)
    (exported_to s.old (old_word s a words) Q (Every-left Q (option_to_list s.old) (option_to_list s.new) these))
    (Every-append (λ (e : Export). Q e.to) (export_to s.new n) (slot_exports slots news a words)
    (exported_to s.new n Q (Every-right Q (option_to_list s.old) (option_to_list s.new) these))
    (slot_exports_to slots news a words Q others))

slot_writes_to : (slots : List PartSlot) (news : List ℕ) (a : Arrays) (words : List ℕ) (Q : ℕ → Type 0) → Every Q (map slot_array slots)
    → Every (λ (w : Write). Q w.array) (slot_writes slots news a words)
slot_writes_to [] news a words Q p = tt
slot_writes_to (s ∷ slots) [] a words Q p = tt
slot_writes_to (s ∷ slots) (n ∷ news) a words Q p = (p.0, slot_writes_to slots news a words Q p.1)

module _ (hash : Hash) where
  pub exports_to : (x : Atom) (a : Arrays) (words : List ℕ) (Q : ℕ → Type 0) → Every Q (targets_of x) → Every (λ (e : Export). Q e.to) (atom_exports hash x a words)
  exports_to (Stateless atom) a words Q p = (p.0, tt)
  exports_to (Stateful atom) a words Q p = slot_exports_to atom.slots (new_words atom a words) a words Q p

  pub writes_to : (x : Atom) (a : Arrays) (words : List ℕ) (Q : ℕ → Type 0) → Every Q (arrays_of x) → Every (λ (w : Write). Q w.array) (atom_writes x a words)
  writes_to (Stateless atom) a words Q p = tt
  writes_to (Stateful atom) a words Q p = slot_writes_to atom.slots (new_words atom a words) a words Q p

  -- an atom's arrays are not written by an atom that owns others
  kept_by : (x y : Atom) (a b : Arrays) (words : List ℕ) → Disjoint (arrays_of x) (arrays_of y) → Agree (store (atom_writes y b words) a) a (arrays_of x)
  kept_by x y a b words p =
      Every-weaker (λ i. Every (λ j. i ≢ j) (arrays_of y)) (λ i. array_of (store (atom_writes y b words) a) i ≡ array_of a i)
      (λ i h. store-other (atom_writes y b words) a i
      (writes_to y b words (λ j. j ≢ i) (Every-weaker (λ j. i ≢ j) (λ j. j ≢ i) (λ j ne e. ne (sym e)) (arrays_of y) h)))
      (arrays_of x) p

  writes_apart : (x y : Atom) (a : Arrays) (u v : List ℕ) → Disjoint (arrays_of x) (arrays_of y)
      → Every (λ (w : Write). Every (λ (z : Write). z.array ≢ w.array) (atom_writes y a v)) (atom_writes x a u)
  writes_apart x y a u v p =
      writes_to x a u (λ i. Every (λ (z : Write). z.array ≢ i) (atom_writes y a v))
      (Every-weaker (λ i. Every (λ j. i ≢ j) (arrays_of y)) (λ i. Every (λ (z : Write). z.array ≢ i) (atom_writes y a v))
      (λ i h. writes_to y a v (λ j. j ≢ i) (Every-weaker (λ j. i ≢ j) (λ j. j ≢ i) (λ j ne e. ne (sym e)) (arrays_of y) h)) (arrays_of x) p)

  exports_apart : (x y : Atom) (a : Arrays) (u v : List ℕ) → Disjoint (targets_of x) (targets_of y)
      → Every (λ (e : Export). Every (λ (f : Export). f.to ≢ e.to) (atom_exports hash y a v)) (atom_exports hash x a u)
  exports_apart x y a u v p =
      exports_to x a u (λ i. Every (λ (f : Export). f.to ≢ i) (atom_exports hash y a v))
      (Every-weaker (λ i. Every (λ j. i ≢ j) (targets_of y)) (λ i. Every (λ (f : Export). f.to ≢ i) (atom_exports hash y a v))
      (λ i h. exports_to y a v (λ j. j ≢ i) (Every-weaker (λ j. i ≢ j) (λ j. j ≢ i) (λ j ne e. ne (sym e)) (targets_of y) h)) (targets_of x) p)

  -- different arrays, and different stages or different containers
  pub record Separate (x y : Firing) : Type 0 where
    pub owned : Disjoint (arrays_of x.atom) (arrays_of y.atom)
    pub places : (x.stage ≢ y.stage) ⊎ Disjoint (targets_of x.atom) (targets_of y.atom)

  on_both : (x y : Firing) (m : (Midst Arrays Entry)) (r q : Entry) → Separate x y → fired_on hash x (fired_on hash y m q) r ≡ fired_on hash y (fired_on hash x m r) q
  on_both x y m None q p = refl
  on_both x y m (Some u) None p = refl
  on_both x y m (Some u) (Some v) p =
      let a : Arrays = m.state in
      let wx : List Write = atom_writes x.atom a u in
      let wy : List Write = atom_writes y.atom a v in
      let ex : List Export = atom_exports hash x.atom a u in
      let ey : List Export = atom_exports hash y.atom a v in
      let keep_x : Agree (store wy a) a (arrays_of x.atom) = kept_by x.atom y.atom a a v p.owned in
      let keep_y : Agree (store wx a) a (arrays_of y.atom) = kept_by y.atom x.atom a a u (disjoint_swap (arrays_of x.atom) (arrays_of y.atom) p.owned) in
      let arrays : store (atom_writes x.atom (store wy a) u) (store wy a) ≡ store (atom_writes y.atom (store wx a) v) (store wx a) =
      ap (λ (ws : List Write). store ws (store wy a)) (atom_writes-same x.atom (store wy a) a u keep_x)
      ∙ store_comm wx wy a (writes_apart x.atom y.atom a u v p.owned)
      ∙ sym (ap (λ (ws : List Write). store ws (store wx a)) (atom_writes-same y.atom (store wx a) a v keep_y)) in
      let copies : into (atom_exports hash x.atom (store wy a) u) x.stage (into ey y.stage m.copies) ≡ into (atom_exports hash y.atom (store wx a) v) y.stage (into ex x.stage m.copies) =
      ap (λ (es : List Export). into es x.stage (into ey y.stage m.copies)) (atom_exports-same hash x.atom (store wy a) a u keep_x)
      ∙ into_comm ex ey x.stage y.stage m.copies (apart p.places)
      ∙ sym (ap (λ (es : List Export). into es y.stage (into ex x.stage m.copies)) (atom_exports-same hash y.atom (store wx a) a v keep_y)) in
      ap (λ (cs : List Entry). record { copies = cs; state = store (atom_writes x.atom (store wy a) u) (store wy a) }) copies
      ∙ ap (λ (b : Arrays). record { copies = into (atom_exports hash y.atom (store wx a) v) y.stage (into ex x.stage m.copies); state = b }) arrays
    where
      apart : (x.stage ≢ y.stage) ⊎ Disjoint (targets_of x.atom) (targets_of y.atom)
          → (x.stage ≢ y.stage) ⊎ Every (λ (e : Export). Every (λ (f : Export). f.to ≢ e.to) (atom_exports hash y.atom m.state v)) (atom_exports hash x.atom m.state u)
      apart (inl ne) = inl ne
      apart (inr d) = inr (exports_apart x.atom y.atom m.state u v d)

  pub commute : (registers : List Entry) (x y : Firing) → Separate x y → Commute (fire hash registers) x y
  commute registers x y p m = on_both x y m (get_or registers x.stage None) (get_or registers y.stage None) p

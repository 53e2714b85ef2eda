-- The line that words mean.
use Rattle.std.proofs.Common.{◌≡◌, ℕ, zero, suc, Bool, true, false, ◌&&◌, ◌==◌, if◌then◌else◌, nat_le, cond, List, [], ◌∷◌, ◌++◌, length, map, Option, Some, None, refl, sym, ap, subst, ◌∙◌, arith, append_assoc, codes}
use Rattle.std.specs.Fmt.{decimal}
use Rattle.std.specs.List.{find, list_all}
use Rattle.std.proofs.lemmas.List.{append-nil}
use Rattle.std.proofs.lemmas.Bool.{and_parts, and_from, leb-true, lt-ltb}
use Rattle.dom_words.specs.declared.hash.HashName.{HashName}
use Rattle.dom_words.specs.declared.operators.UnOp.{UnOp}
use Rattle.dom_words.specs.declared.operators.UnOp.TheVariants as un
use Rattle.dom_words.specs.declared.operators.BinOp.{BinOp}
use Rattle.dom_words.specs.declared.operators.BinOp.TheVariants as bin
use Rattle.dom_words.specs.Names.{is_same}
use Rattle.dom_words.specs.Spelling.{is_name}
use Rattle.dom_words.specs.Units.{unit_named, unit_text}
use Rattle.dom_words.proofs.UnitLemmas.{unit_found, named_back}
use Rattle.atom_traits.specs.declared.operation.StatelessOp.{StatelessOp}
use Rattle.atom_traits.specs.declared.operation.StatelessOp.TheVariants as operation
use Rattle.atom_traits.specs.declared.tree.Leaf.{Leaf}
use Rattle.atom_traits.specs.declared.tree.Leaf.TheVariants as leaf
use Rattle.atom_traits.specs.declared.tree.Port.{Port}
use Rattle.atom_traits.specs.declared.tree.Rel.{Rel}
use Rattle.atom_traits.specs.declared.tree.Rel.TheVariants as rel
use Rattle.atom_traits.specs.declared.tree.Source.{Source}
use Rattle.atom_traits.specs.Form.{TreeForm, Ends, Asks}
use Rattle.banzai_config.specs.declared.parts.Version.{Version}
use Rattle.banzai_config.specs.declared.parts.Version.TheVariants as version
use Rattle.config_text.specs.Words.{bin_text, is_small, is_target_word, leaf_fits, op_fits, op_words, option_fits, option_text, port_fits, port_text, rel_text, source_fits, source_text, tree_fits, tree_words, un_text, version_text, word_text}
use Rattle.config_text.specs.Lines.{Line, head, target, field, array, containers, stage, op, atom, slot, out, the_end, words_of, joined, line_text, line_fits}
use Rattle.config_text.specs.Reading.{array_line, asks, atom_line, bin_from, bin_line, bin_ops, cond_line, container_from, count_from, fork_rest, four_words, guard_rest, GuardRest, hash_by, hash_line, Key, key_array, key_atom, key_bin, key_cond, key_containers, key_end, key_field, key_hash, key_head, key_of, key_out, key_slot, key_stage, key_target, key_text, key_un, keys, leaf_rest, line_by, line_from, line_of_words, modulus_from, no_tree, no_word, on, one_word, op_line, option_from, port_from, PortRest, port_rest, ports_from, rel_from, slot_line, source_from, split, three_words, tree_by, tree_from, TreeKey, key_add, key_if, key_keep, key_put, key_sub, tree_key, tree_keys, tree_text, TreeRest, un_from, un_line, un_ops, version_from, whole_by, whole_tree, word_from}
use Rattle.config_text.proofs.Decimals.{container_back, container_says, count_back, count_says, option_back, option_says, port_back, port_says, same_is, source_back, source_says, word_back, word_says}
use Rattle.config_text.proofs.Split.{joined_split, split_joined, line_plain, plain}

pub on_some : {A B : Type 0} (o : Option A) (go : A → Option B) (b : B) → on o go ≡ Some b → (a : A) × ((o ≡ Some a) × (go a ≡ Some b))
on_some None go b e = absurd (cc)
on_some (Some a) go b e = (a, (refl, e))

if_says : {A : Type 0} (t : Bool) (a b : A) → (if t then Some a else None) ≡ Some b → (t ≡ true) × (a ≡ b)
if_says true a b e = (refl, cc)
if_says false a b e = absurd (cc)

-- what is found by its text has that text
find_says : {A : Type 0} (text : A → List ℕ) (w : List ℕ) (xs : List A) (x : A) → find (λ y. is_same w (text y)) xs ≡ Some x → w ≡ text x
find_says text w [] x e = absurd (cc)
find_says text w (y ∷ ys) x e = from (find_says text w ys x) (is_same w (text y)) refl e
  where
    from : (find (λ y. is_same w (text y)) ys ≡ Some x → w ≡ text x) → (t : Bool) → is_same w (text y) ≡ t → cond t (Some y) (find (λ y. is_same w (text y)) ys) ≡ Some x → w ≡ text x
    from more true q e = let s : y ≡ x = cc in same_is w (text y) q ∙ ap text s
    from more false q e = more e

-- operators
un_back : (o : UnOp) → un_from (un_text o) ≡ Some o
un_back un.Neg = refl
un_back un.Inv = refl
un_back un.Not = refl

bin_back : (o : BinOp) → bin_from (bin_text o) ≡ Some o
bin_back bin.Mul = refl
bin_back bin.Div = refl
bin_back bin.Rem = refl
bin_back bin.Add = refl
bin_back bin.Sub = refl
bin_back bin.Shl = refl
bin_back bin.Shr = refl
bin_back bin.Lt = refl
bin_back bin.Le = refl
bin_back bin.Gt = refl
bin_back bin.Ge = refl
bin_back bin.Eq = refl
bin_back bin.Ne = refl
bin_back bin.BitAnd = refl
bin_back bin.BitXor = refl
bin_back bin.BitOr = refl
bin_back bin.And = refl
bin_back bin.Or = refl

rel_back : (r : Rel) → rel_from (rel_text r) ≡ Some r
rel_back rel.Lt = refl
rel_back rel.Eq = refl

rel_says : (w : List ℕ) (r : Rel) → rel_from w ≡ Some r → rel_text r ≡ w
rel_says w r e = from (is_same w (codes "lt")) refl (is_same w (codes "eq")) refl e
  where
    from : (a : Bool) → is_same w (codes "lt") ≡ a → (b : Bool) → is_same w (codes "eq") ≡ b → (if a then Some rel.Lt else (if b then Some rel.Eq else None)) ≡ Some r → rel_text r ≡ w
    from true p b q e = let s : rel.Lt ≡ r = cc in ap rel_text (sym s) ∙ sym (same_is w (codes "lt") p)
    from false p true q e = let s : rel.Eq ≡ r = cc in ap rel_text (sym s) ∙ sym (same_is w (codes "eq") q)
    from false p false q e = absurd (cc)

version_back : (v : Version) → version_from (version_text v) ≡ Some v
version_back version.One = refl
version_back version.Two = refl

version_says : (w : List ℕ) (v : Version) → version_from w ≡ Some v → version_text v ≡ w
version_says w v e = from (is_same w (codes "1")) refl (is_same w (codes "2")) refl e
  where
    from : (a : Bool) → is_same w (codes "1") ≡ a → (b : Bool) → is_same w (codes "2") ≡ b → (if a then Some version.One else (if b then Some version.Two else None)) ≡ Some v → version_text v ≡ w
    from true p b q e = let s : version.One ≡ v = cc in ap version_text (sym s) ∙ sym (same_is w (codes "1") p)
    from false p true q e = let s : version.Two ≡ v = cc in ap version_text (sym s) ∙ sym (same_is w (codes "2") q)
    from false p false q e = absurd (cc)

modulus_back : (n : ℕ) → nat_le n 2147483647 ≡ true → modulus_from (decimal n) ≡ Some n
modulus_back n h =
    let l = leb-true n 2147483647 h in
    ap (λ o. on o (λ n. if nat_le n 2147483647 then Some n else None)) (count_back n (lt-ltb n 4294967296 (omega arith))) ∙ ap (λ (t : Bool). if t then Some n else None) h

modulus_says : (w : List ℕ) (n : ℕ) → modulus_from w ≡ Some n → (decimal n ≡ w) × (nat_le n 2147483647 ≡ true)
modulus_says w n e =
    let (m, (f, g)) = on_some (count_from w) (λ n. if nat_le n 2147483647 then Some n else None) n e in
    let (t, q) = if_says (nat_le m 2147483647) m n g in
    (ap decimal (sym q) ∙ (count_says w m f).0, ap (λ k. nat_le k 2147483647) (sym q) ∙ t)

ports_back : (ps : List Port) → list_all port_fits ps ≡ true → ports_from (map port_text ps) ≡ Some ps
ports_back [] h = refl
ports_back (p ∷ ps) h =
    let both = and_parts (port_fits p) (list_all port_fits ps) h in
    ap (λ o. on o (λ p. on (ports_from (map port_text ps)) (λ ps. Some (p ∷ ps)))) (port_back p both.0)
    ∙ ap (λ o. on o (λ ps. Some (p ∷ ps))) (ports_back ps both.1)

ports_say : (ws : List (List ℕ)) (ps : List Port) → ports_from ws ≡ Some ps → (map port_text ps ≡ ws) × (list_all port_fits ps ≡ true)
ports_say [] ps e = let q : [] ≡ ps = cc in (ap (map port_text) (sym q), ap (list_all port_fits) (sym q))
ports_say (w ∷ ws) ps e =
    let (p, (f, g)) = on_some (port_from w) (λ p. on (ports_from ws) (λ ps. Some (p ∷ ps))) ps e in
    let (more, (f2, g2)) = on_some (ports_from ws) (λ ps. Some (p ∷ ps)) ps g in
    let q : p ∷ more ≡ ps = cc in
    let s = port_says w p f in
    let m = ports_say ws more f2 in
    (ap (map port_text) (sym q) ∙ ap (λ x. x ∷ map port_text more) s.0 ∙ ap (λ x. w ∷ x) m.0, ap (list_all port_fits) (sym q) ∙ and_from _ _ s.1 m.1)

-- trees
abbrev the_rest : TreeForm → List (List ℕ) → TreeRest
the_rest t ws = record { tree = t; rest = ws }

abbrev the_port : Port → List (List ℕ) → PortRest
the_port p ws = record { port = p; rest = ws }

leaf_back : (leaf : Port → Leaf) (p : Port) (ws : List (List ℕ)) → port_fits p ≡ true → leaf_rest leaf (port_text p ∷ ws) ≡ Some (the_rest (Ends (leaf p)) ws)
leaf_back leaf p ws h = ap (λ o. on (on o (λ p. Some (the_port p ws))) (λ r. Some (the_rest (Ends (leaf r.port)) r.rest))) (port_back p h)

abbrev guard_of : Rel → Source → Source → List (List ℕ) → GuardRest
guard_of r a b ws = record { rel = r; left = a; right = b; rest = ws }

guard_back : (r : Rel) (a b : Source) (ws : List (List ℕ)) → source_fits a ≡ true → source_fits b ≡ true → guard_rest (rel_text r ∷ source_text a ∷ source_text b ∷ ws) ≡ Some (guard_of r a b ws)
guard_back r a b ws h g =
    ap (λ o. on o (λ rel. on (source_from (source_text a)) (λ left. on (source_from (source_text b)) (λ right. Some (guard_of rel left right ws))))) (rel_back r)
    ∙ ap (λ o. on o (λ left. on (source_from (source_text b)) (λ right. Some (guard_of r left right ws)))) (source_back a h)
    ∙ ap (λ o. on o (λ right. Some (guard_of r a right ws))) (source_back b g)

tree_back : (n : ℕ) (t : TreeForm) (ws : List (List ℕ)) → tree_fits n t ≡ true → tree_from n (tree_words t ++ ws) ≡ Some (the_rest t ws)
tree_back zero (Ends leaf.Keep) ws h = refl
tree_back zero (Ends (leaf.Put p)) ws h = leaf_back leaf.Put p ws h
tree_back zero (Ends (leaf.Add p)) ws h = leaf_back leaf.Add p ws h
tree_back zero (Ends (leaf.Sub p)) ws h = leaf_back leaf.Sub p ws h
tree_back zero (Asks g y z) ws h = absurd (cc)
tree_back (suc n) (Ends leaf.Keep) ws h = refl
tree_back (suc n) (Ends (leaf.Put p)) ws h = leaf_back leaf.Put p ws h
tree_back (suc n) (Ends (leaf.Add p)) ws h = leaf_back leaf.Add p ws h
tree_back (suc n) (Ends (leaf.Sub p)) ws h = leaf_back leaf.Sub p ws h
tree_back (suc n) (Asks g y z) ws h =
    let a = and_parts (source_fits g.left) (source_fits g.right && (tree_fits n y && tree_fits n z)) h in
    let b = and_parts (source_fits g.right) (tree_fits n y && tree_fits n z) a.1 in
    let c = and_parts (tree_fits n y) (tree_fits n z) b.1 in
    ap (λ l. fork_rest (tree_from n) (rel_text g.rel ∷ source_text g.left ∷ source_text g.right ∷ l)) (append_assoc (tree_words y) (tree_words z) ws)
    ∙ ap (λ o. on o (λ g. on (tree_from n g.rest) (λ y. on (tree_from n y.rest) (λ m. Some (the_rest (asks g y.tree m.tree) m.rest))))) (guard_back g.rel g.left g.right (tree_words y ++ (tree_words z ++ ws)) a.0 b.0)
    ∙ ap (λ o. on o (λ t. on (tree_from n t.rest) (λ m. Some (the_rest (Asks g t.tree m.tree) m.rest)))) (tree_back n y (tree_words z ++ ws) c.0)
    ∙ ap (λ o. on o (λ m. Some (the_rest (Asks g y m.tree) m.rest))) (tree_back n z ws c.1)

abbrev TreeSays : ℕ → List (List ℕ) → TreeRest → Type 0
TreeSays n ws r = (tree_words r.tree ++ r.rest ≡ ws) × (tree_fits n r.tree ≡ true)

ends_fit : (n : ℕ) (l : Leaf) → leaf_fits l ≡ true → tree_fits n (Ends l) ≡ true
ends_fit zero l h = h
ends_fit (suc n) l h = h

keep_says : (n : ℕ) (ws : List (List ℕ)) (r : TreeRest) → Some (the_rest (Ends leaf.Keep) ws) ≡ Some r → TreeSays n (codes "keep" ∷ ws) r
keep_says n ws r e = let q : the_rest (Ends leaf.Keep) ws ≡ r = cc in subst (TreeSays n (codes "keep" ∷ ws)) q (refl, ends_fit n leaf.Keep refl)

some_port : (a b : PortRest) → Some a ≡ Some b → a ≡ b
some_port a b e = cc

some_tree : (a b : TreeRest) → Some a ≡ Some b → a ≡ b
some_tree a b e = cc

leaf_says : (n : ℕ) (leaf : Port → Leaf) (word : List ℕ) → ((p : Port) → tree_words (Ends (leaf p)) ≡ word ∷ port_text p ∷ []) → ((p : Port) → leaf_fits (leaf p) ≡ port_fits p)
    → (ws : List (List ℕ)) (r : TreeRest) → leaf_rest leaf ws ≡ Some r → TreeSays n (word ∷ ws) r
leaf_says n leaf word spelled fit [] r e = absurd (cc)
leaf_says n leaf word spelled fit (w ∷ ws) r e =
    let (p, (f, g)) = on_some (port_from w) (λ p. Some (the_port p ws)) _ (on_some (port_rest (w ∷ ws)) (λ r. Some (the_rest (Ends (leaf r.port)) r.rest)) r e).1.0 in
    let s = port_says w p f in
    let read : the_port p ws ≡ (on_some (port_rest (w ∷ ws)) (λ r. Some (the_rest (Ends (leaf r.port)) r.rest)) r e).0 = some_port _ _ g in
    let q : the_rest (Ends (leaf p)) ws ≡ r = ap (λ x. the_rest (Ends (leaf x.port)) x.rest) read ∙ some_tree _ _ (on_some (port_rest (w ∷ ws)) (λ r. Some (the_rest (Ends (leaf r.port)) r.rest)) r e).1.1 in
    subst (TreeSays n (word ∷ w ∷ ws)) q (ap (λ l. l ++ ws) (spelled p) ∙ ap (λ u. word ∷ u ∷ ws) s.0, ends_fit n (leaf p) (fit p ∙ s.1))

record GuardSays (ws : List (List ℕ)) (g : GuardRest) : Type 0 where
  whole : rel_text g.rel ∷ source_text g.left ∷ source_text g.right ∷ g.rest ≡ ws
  left : source_fits g.left ≡ true
  right : source_fits g.right ≡ true

guard_says : (ws : List (List ℕ)) (g : GuardRest) → guard_rest ws ≡ Some g → GuardSays ws g
guard_says [] g e = absurd (cc)
guard_says (x ∷ []) g e = absurd (cc)
guard_says (x ∷ y ∷ []) g e = absurd (cc)
guard_says (x ∷ y ∷ z ∷ ws) g e =
    let (r, (f, h)) = on_some (rel_from x) (λ rel. on (source_from y) (λ left. on (source_from z) (λ right. Some (guard_of rel left right ws)))) g e in
    let (a, (f2, h2)) = on_some (source_from y) (λ left. on (source_from z) (λ right. Some (guard_of r left right ws))) g h in
    let (b, (f3, h3)) = on_some (source_from z) (λ right. Some (guard_of r a right ws)) g h2 in
    let q : guard_of r a b ws ≡ g = cc in
    let s = source_says y a f2 in
    let t = source_says z b f3 in
    subst (GuardSays (x ∷ y ∷ z ∷ ws)) q (record {
      whole = ap (λ u. u ∷ source_text a ∷ source_text b ∷ ws) (rel_says x r f) ∙ ap (λ u. x ∷ u ∷ source_text b ∷ ws) s.0 ∙ ap (λ u. x ∷ y ∷ u ∷ ws) t.0;
      left = s.1;
      right = t.1;
    })

fork_says : (n : ℕ) (go : List (List ℕ) → Option TreeRest) → ((ws : List (List ℕ)) (r : TreeRest) → go ws ≡ Some r → TreeSays n ws r) → (ws : List (List ℕ)) (r : TreeRest) → fork_rest go ws ≡ Some r → TreeSays (suc n) (codes "if" ∷ ws) r
fork_says n go says ws r e =
    let (g, (f, h)) = on_some (guard_rest ws) (λ g. on (go g.rest) (λ y. on (go y.rest) (λ m. Some (the_rest (asks g y.tree m.tree) m.rest)))) r e in
    let (y, (f2, h2)) = on_some (go g.rest) (λ y. on (go y.rest) (λ m. Some (the_rest (asks g y.tree m.tree) m.rest))) r h in
    let (m, (f3, h3)) = on_some (go y.rest) (λ m. Some (the_rest (asks g y.tree m.tree) m.rest)) r h2 in
    let s = guard_says ws g f in
    let a = says g.rest y f2 in
    let b = says y.rest m f3 in
    let q : the_rest (asks g y.tree m.tree) m.rest ≡ r = cc in
    subst (TreeSays (suc n) (codes "if" ∷ ws)) q (
      ap (λ l. codes "if" ∷ rel_text g.rel ∷ source_text g.left ∷ source_text g.right ∷ l) (append_assoc (tree_words y.tree) (tree_words m.tree) m.rest ∙ ap (λ l. tree_words y.tree ++ l) b.0 ∙ a.0) ∙ ap (λ l. codes "if" ∷ l) s.whole,
      and_from _ _ s.left (and_from _ _ s.right (and_from _ _ a.1 b.1)),
    )

no_says : (n : ℕ) (w : List ℕ) (ws : List (List ℕ)) (r : TreeRest) → fork_rest no_tree ws ≡ Some r → TreeSays n (w ∷ ws) r
no_says n w ws r e =
    let (g, (f, h)) = on_some (guard_rest ws) (λ g. on (no_tree g.rest) (λ y. on (no_tree y.rest) (λ m. Some (the_rest (asks g y.tree m.tree) m.rest)))) r e in
    absurd (cc)

tree_key_says : (w : List ℕ) (k : TreeKey) → tree_key w ≡ Some k → w ≡ tree_text k
tree_key_says w k e = find_says tree_text w tree_keys k e

port_same : (p : Port) → port_fits p ≡ port_fits p
port_same p = refl

tree_says : (n : ℕ) (ws : List (List ℕ)) (r : TreeRest) → tree_from n ws ≡ Some r → TreeSays n ws r
tree_says zero [] r e = absurd (cc)
tree_says zero (w ∷ ws) r e = let (k, (f, g)) = on_some (tree_key w) (λ k. tree_by k ws no_tree) r e in by_key k (tree_key_says w k f) g
  where
    by_key : (k : TreeKey) → w ≡ tree_text k → tree_by k ws no_tree ≡ Some r → TreeSays zero (w ∷ ws) r
    by_key key_keep q g = subst (λ u. TreeSays zero (u ∷ ws) r) (sym q) (keep_says zero ws r g)
    by_key key_put q g = subst (λ u. TreeSays zero (u ∷ ws) r) (sym q) (leaf_says zero leaf.Put (codes "put") (λ p. refl) port_same ws r g)
    by_key key_add q g = subst (λ u. TreeSays zero (u ∷ ws) r) (sym q) (leaf_says zero leaf.Add (codes "add") (λ p. refl) port_same ws r g)
    by_key key_sub q g = subst (λ u. TreeSays zero (u ∷ ws) r) (sym q) (leaf_says zero leaf.Sub (codes "sub") (λ p. refl) port_same ws r g)
    by_key key_if q g = no_says zero w ws r g
tree_says (suc n) [] r e = absurd (cc)
tree_says (suc n) (w ∷ ws) r e = let (k, (f, g)) = on_some (tree_key w) (λ k. tree_by k ws (tree_from n)) r e in by_key (λ ws r e. tree_says n ws r e) k (tree_key_says w k f) g
  where
    by_key : ((ws : List (List ℕ)) (r : TreeRest) → tree_from n ws ≡ Some r → TreeSays n ws r) → (k : TreeKey) → w ≡ tree_text k → tree_by k ws (tree_from n) ≡ Some r → TreeSays (suc n) (w ∷ ws) r
    by_key says key_keep q g = subst (λ u. TreeSays (suc n) (u ∷ ws) r) (sym q) (keep_says (suc n) ws r g)
    by_key says key_put q g = subst (λ u. TreeSays (suc n) (u ∷ ws) r) (sym q) (leaf_says (suc n) leaf.Put (codes "put") (λ p. refl) port_same ws r g)
    by_key says key_add q g = subst (λ u. TreeSays (suc n) (u ∷ ws) r) (sym q) (leaf_says (suc n) leaf.Add (codes "add") (λ p. refl) port_same ws r g)
    by_key says key_sub q g = subst (λ u. TreeSays (suc n) (u ∷ ws) r) (sym q) (leaf_says (suc n) leaf.Sub (codes "sub") (λ p. refl) port_same ws r g)
    by_key says key_if q g = subst (λ u. TreeSays (suc n) (u ∷ ws) r) (sym q) (fork_says n (tree_from n) says ws r g)

whole_back : (t : TreeForm) → tree_fits 2 t ≡ true → whole_tree (tree_words t) ≡ Some t
whole_back t h =
    ap (λ l. on (tree_from 2 l) (λ r. whole_by r.rest r.tree)) (sym (append-nil (tree_words t)))
    ∙ ap (λ o. on o (λ r. whole_by r.rest r.tree)) (tree_back 2 t [] h)

whole_by_says : (ws : List (List ℕ)) (t u : TreeForm) → whole_by ws t ≡ Some u → (ws ≡ []) × (t ≡ u)
whole_by_says [] t u e = (refl, cc)
whole_by_says (w ∷ ws) t u e = absurd (cc)

whole_says : (ws : List (List ℕ)) (t : TreeForm) → whole_tree ws ≡ Some t → (tree_words t ≡ ws) × (tree_fits 2 t ≡ true)
whole_says ws t e =
    let (r, (f, g)) = on_some (tree_from 2 ws) (λ r. whole_by r.rest r.tree) t e in
    let s = tree_says 2 ws r f in
    let (z, q) = whole_by_says r.rest r.tree t g in
    (ap tree_words (sym q) ∙ sym (append-nil (tree_words r.tree)) ∙ ap (λ v. tree_words r.tree ++ v) (sym z) ∙ s.0, ap (tree_fits 2) (sym q) ∙ s.1)

-- lines
op_back : (to : ℕ) (o : StatelessOp) → is_small to ≡ true → op_fits o ≡ true → line_of_words (op_words to o) ≡ op_line to o
op_back to (operation.Un o a) t h =
    ap (λ x. on x (λ to. on (un_from (un_text o)) (λ o. on (port_from (port_text a)) (λ a. op_line to (operation.Un o a))))) (container_back to t)
    ∙ ap (λ x. on x (λ o. on (port_from (port_text a)) (λ a. op_line to (operation.Un o a)))) (un_back o)
    ∙ ap (λ x. on x (λ a. op_line to (operation.Un o a))) (port_back a h)
op_back to (operation.Bin o a b) t h =
    let both = and_parts (port_fits a) (port_fits b) h in
    ap (λ x. on x (λ to. on (bin_from (bin_text o)) (λ o. on (port_from (port_text a)) (λ a. on (port_from (port_text b)) (λ b. op_line to (operation.Bin o a b)))))) (container_back to t)
    ∙ ap (λ x. on x (λ o. on (port_from (port_text a)) (λ a. on (port_from (port_text b)) (λ b. op_line to (operation.Bin o a b))))) (bin_back o)
    ∙ ap (λ x. on x (λ a. on (port_from (port_text b)) (λ b. op_line to (operation.Bin o a b)))) (port_back a both.0)
    ∙ ap (λ x. on x (λ b. op_line to (operation.Bin o a b))) (port_back b both.1)
op_back to (operation.Cond c a b) t h =
    let first = and_parts (port_fits c) (port_fits a && port_fits b) h in
    let both = and_parts (port_fits a) (port_fits b) first.1 in
    ap (λ x. on x (λ to. on (port_from (port_text c)) (λ c. on (port_from (port_text a)) (λ a. on (port_from (port_text b)) (λ b. op_line to (operation.Cond c a b)))))) (container_back to t)
    ∙ ap (λ x. on x (λ c. on (port_from (port_text a)) (λ a. on (port_from (port_text b)) (λ b. op_line to (operation.Cond c a b))))) (port_back c first.0)
    ∙ ap (λ x. on x (λ a. on (port_from (port_text b)) (λ b. op_line to (operation.Cond c a b)))) (port_back a both.0)
    ∙ ap (λ x. on x (λ b. op_line to (operation.Cond c a b))) (port_back b both.1)
op_back to (operation.Hash unit modulus args) t h =
    let first = and_parts (nat_le modulus 2147483647) (length args == unit.args && list_all port_fits args) h in
    let both = and_parts (length args == unit.args) (list_all port_fits args) first.1 in
    ap (λ x. on x (λ to. on (unit_named (unit_text unit)) (λ unit. on (modulus_from (decimal modulus)) (λ modulus. on (ports_from (map port_text args)) (λ args. hash_by to unit modulus args))))) (container_back to t)
    ∙ ap (λ x. on x (λ unit. on (modulus_from (decimal modulus)) (λ modulus. on (ports_from (map port_text args)) (λ args. hash_by to unit modulus args)))) (unit_found unit)
    ∙ ap (λ x. on x (λ modulus. on (ports_from (map port_text args)) (λ args. hash_by to unit modulus args))) (modulus_back modulus first.0)
    ∙ ap (λ x. on x (λ args. hash_by to unit modulus args)) (ports_back args both.1)
    ∙ ap (λ (b : Bool). if b then op_line to (operation.Hash unit modulus args) else None) both.0

words_back : (l : Line) → line_fits l ≡ true → line_of_words (words_of l) ≡ Some l
words_back (head v) h = ap (λ o. on o (λ v. Some (head v))) (version_back v)
words_back (target name) h = ap (λ (t : Bool). if t then Some (target name) else None) h
words_back (field name) h = ap (λ (t : Bool). if t then Some (field name) else None) h
words_back (array a) h =
    let first = and_parts (is_name a.name) (is_small a.length && is_small a.init) h in
    let both = and_parts (is_small a.length) (is_small a.init) first.1 in
    ap (λ (t : Bool). if t then on (count_from (decimal a.length)) (λ length. on (word_from (word_text a.init)) (λ init. Some (array (record { name = a.name; length = length; init = init })))) else None) first.0
    ∙ ap (λ o. on o (λ length. on (word_from (word_text a.init)) (λ init. Some (array (record { name = a.name; length = length; init = init }))))) (count_back a.length both.0)
    ∙ ap (λ o. on o (λ init. Some (array (record { name = a.name; length = a.length; init = init })))) (word_back a.init both.1)
words_back (containers n) h = ap (λ o. on o (λ n. Some (containers n))) (count_back n h)
words_back (stage n) h = ap (λ o. on o (λ n. Some (stage n))) (count_back n h)
words_back (op a) h = let both = and_parts (is_small a.to) (op_fits a.op) h in op_back a.to a.op both.0 both.1
words_back (atom n) h =
    let both = and_parts (nat_le 1 n) (nat_le n 2) h in
    ap (λ o. on o atom_line) (count_back n (lt-ltb n 4294967296 (let s = leb-true n 2 both.1 in omega arith))) ∙ ap (λ (t : Bool). if t then Some (atom n) else None) h
words_back (slot s t) h =
    let a = and_parts (is_small s.array) (port_fits s.index && (option_fits s.old && (option_fits s.new && tree_fits 2 t))) h in
    let b = and_parts (port_fits s.index) (option_fits s.old && (option_fits s.new && tree_fits 2 t)) a.1 in
    let c = and_parts (option_fits s.old) (option_fits s.new && tree_fits 2 t) b.1 in
    let d = and_parts (option_fits s.new) (tree_fits 2 t) c.1 in
    ap (λ x. on x (λ a. on (port_from (port_text s.index)) (λ i. on (option_from (option_text s.old)) (λ o. on (option_from (option_text s.new)) (λ n. on (whole_tree (tree_words t)) (λ t. Some (slot (record { array = a; index = i; old = o; new = n }) t))))))) (count_back s.array a.0)
    ∙ ap (λ x. on x (λ i. on (option_from (option_text s.old)) (λ o. on (option_from (option_text s.new)) (λ n. on (whole_tree (tree_words t)) (λ t. Some (slot (record { array = s.array; index = i; old = o; new = n }) t)))))) (port_back s.index b.0)
    ∙ ap (λ x. on x (λ o. on (option_from (option_text s.new)) (λ n. on (whole_tree (tree_words t)) (λ t. Some (slot (record { array = s.array; index = s.index; old = o; new = n }) t))))) (option_back s.old c.0)
    ∙ ap (λ x. on x (λ n. on (whole_tree (tree_words t)) (λ t. Some (slot (record { array = s.array; index = s.index; old = s.old; new = n }) t)))) (option_back s.new d.0)
    ∙ ap (λ x. on x (λ t. Some (slot s t))) (whole_back t d.1)
words_back (out p) h = ap (λ o. on o (λ p. Some (out p))) (port_back p h)
words_back the_end h = refl

op_word : (to : ℕ) (o : StatelessOp) → (w : List ℕ) × ((ws : List (List ℕ)) × (op_words to o ≡ w ∷ ws))
op_word to (operation.Un o a) = (_, (_, refl))
op_word to (operation.Bin o a b) = (_, (_, refl))
op_word to (operation.Cond c a b) = (_, (_, refl))
op_word to (operation.Hash unit modulus args) = (_, (_, refl))

some_word : (l : Line) → (w : List ℕ) × ((ws : List (List ℕ)) × (words_of l ≡ w ∷ ws))
some_word (head v) = (_, (_, refl))
some_word (target name) = (_, (_, refl))
some_word (field name) = (_, (_, refl))
some_word (array a) = (_, (_, refl))
some_word (containers n) = (_, (_, refl))
some_word (stage n) = (_, (_, refl))
some_word (op a) = op_word a.to a.op
some_word (atom n) = (_, (_, refl))
some_word (slot s t) = (_, (_, refl))
some_word (out p) = (_, (_, refl))
some_word the_end = (_, (_, refl))

-- the text of a line is read as that line
pub line_back : (l : Line) → line_fits l ≡ true → line_from (line_text l) ≡ Some l
line_back l h =
    let (w, (ws, e)) = some_word l in
    ap (λ u. line_of_words (split (joined u))) e
    ∙ ap line_of_words (split_joined w ws (ap (list_all plain) (sym e) ∙ line_plain l h))
    ∙ ap line_of_words (sym e) ∙ words_back l h

abbrev LineSays : List (List ℕ) → Line → Type 0
LineSays ws l = (words_of l ≡ ws) × (line_fits l ≡ true)

one_says : {A : Type 0} (ws : List (List ℕ)) (go : List ℕ → Option A) (a : A) → one_word ws go ≡ Some a → (w : List ℕ) × ((ws ≡ w ∷ []) × (go w ≡ Some a))
one_says [] go a e = absurd (cc)
one_says (w ∷ []) go a e = (w, (refl, e))
one_says (w ∷ v ∷ ws) go a e = absurd (cc)

three_say : {A : Type 0} (ws : List (List ℕ)) (go : List ℕ → List ℕ → List ℕ → Option A) (a : A) → three_words ws go ≡ Some a → (w v u : List ℕ) × ((ws ≡ w ∷ v ∷ u ∷ []) × (go w v u ≡ Some a))
three_say [] go a e = absurd (cc)
three_say (w ∷ []) go a e = absurd (cc)
three_say (w ∷ v ∷ []) go a e = absurd (cc)
three_say (w ∷ v ∷ u ∷ []) go a e = (w, v, u, (refl, e))
three_say (w ∷ v ∷ u ∷ t ∷ ws) go a e = absurd (cc)

four_say : {A : Type 0} (ws : List (List ℕ)) (go : List ℕ → List ℕ → List ℕ → List ℕ → Option A) (a : A) → four_words ws go ≡ Some a → (w v u t : List ℕ) × ((ws ≡ w ∷ v ∷ u ∷ t ∷ []) × (go w v u t ≡ Some a))
four_say [] go a e = absurd (cc)
four_say (w ∷ []) go a e = absurd (cc)
four_say (w ∷ v ∷ []) go a e = absurd (cc)
four_say (w ∷ v ∷ u ∷ []) go a e = absurd (cc)
four_say (w ∷ v ∷ u ∷ t ∷ []) go a e = (w, v, u, t, (refl, e))
four_say (w ∷ v ∷ u ∷ t ∷ s ∷ ws) go a e = absurd (cc)

no_words_say : (ws : List (List ℕ)) (a b : Line) → no_word ws a ≡ Some b → (ws ≡ []) × (a ≡ b)
no_words_say [] a b e = (refl, cc)
no_words_say (w ∷ ws) a b e = absurd (cc)

op_says : (to : ℕ) (o : StatelessOp) (ws : List (List ℕ)) (l : Line) → op_line to o ≡ Some l → op_words to o ≡ ws → is_small to ≡ true → op_fits o ≡ true → LineSays ws l
op_says to o ws l e w t h =
    let q : op (record { to = to; op = o }) ≡ l = cc in
    subst (LineSays ws) q (w, and_from _ _ t h)

un_says : (ws : List (List ℕ)) (l : Line) → three_words ws un_line ≡ Some l → LineSays (codes "un" ∷ ws) l
un_says ws l e =
    let (d, o, a, (p, q)) = three_say ws un_line l e in
    let (to, (f, g)) = on_some (container_from d) (λ to. on (un_from o) (λ o. on (port_from a) (λ a. op_line to (operation.Un o a)))) l q in
    let (un_op, (f2, g2)) = on_some (un_from o) (λ o. on (port_from a) (λ a. op_line to (operation.Un o a))) l g in
    let (x, (f3, g3)) = on_some (port_from a) (λ a. op_line to (operation.Un un_op a)) l g2 in
    let s = container_says d to f in
    let t = port_says a x f3 in
    op_says to (operation.Un un_op x) (codes "un" ∷ ws) l g3
    (ap (λ z. codes "un" ∷ z ∷ un_text un_op ∷ port_text x ∷ []) s.0 ∙ ap (λ z. codes "un" ∷ d ∷ z ∷ port_text x ∷ []) (sym (find_says un_text o un_ops un_op f2)) ∙ ap (λ z. codes "un" ∷ d ∷ o ∷ z ∷ []) t.0 ∙ ap (λ z. codes "un" ∷ z) (sym p)) s.1 t.1

bin_says : (ws : List (List ℕ)) (l : Line) → four_words ws bin_line ≡ Some l → LineSays (codes "bin" ∷ ws) l
bin_says ws l e =
    let (d, o, a, b, (p, q)) = four_say ws bin_line l e in
    let (to, (f, g)) = on_some (container_from d) (λ to. on (bin_from o) (λ o. on (port_from a) (λ a. on (port_from b) (λ b. op_line to (operation.Bin o a b))))) l q in
    let (bin_op, (f2, g2)) = on_some (bin_from o) (λ o. on (port_from a) (λ a. on (port_from b) (λ b. op_line to (operation.Bin o a b)))) l g in
    let (x, (f3, g3)) = on_some (port_from a) (λ a. on (port_from b) (λ b. op_line to (operation.Bin bin_op a b))) l g2 in
    let (y, (f4, g4)) = on_some (port_from b) (λ b. op_line to (operation.Bin bin_op x b)) l g3 in
    let s = container_says d to f in
    let t = port_says a x f3 in
    let u = port_says b y f4 in
    op_says to (operation.Bin bin_op x y) (codes "bin" ∷ ws) l g4
    (ap (λ z. codes "bin" ∷ z ∷ bin_text bin_op ∷ port_text x ∷ port_text y ∷ []) s.0 ∙ ap (λ z. codes "bin" ∷ d ∷ z ∷ port_text x ∷ port_text y ∷ []) (sym (find_says bin_text o bin_ops bin_op f2)) ∙ ap (λ z. codes "bin" ∷ d ∷ o ∷ z ∷ port_text y ∷ []) t.0 ∙ ap (λ z. codes "bin" ∷ d ∷ o ∷ a ∷ z ∷ []) u.0 ∙ ap (λ z. codes "bin" ∷ z) (sym p)) s.1 (and_from _ _ t.1 u.1)

cond_says : (ws : List (List ℕ)) (l : Line) → four_words ws cond_line ≡ Some l → LineSays (codes "cond" ∷ ws) l
cond_says ws l e =
    let (d, c, a, b, (p, q)) = four_say ws cond_line l e in
    let (to, (f, g)) = on_some (container_from d) (λ to. on (port_from c) (λ c. on (port_from a) (λ a. on (port_from b) (λ b. op_line to (operation.Cond c a b))))) l q in
    let (k, (f2, g2)) = on_some (port_from c) (λ c. on (port_from a) (λ a. on (port_from b) (λ b. op_line to (operation.Cond c a b)))) l g in
    let (x, (f3, g3)) = on_some (port_from a) (λ a. on (port_from b) (λ b. op_line to (operation.Cond k a b))) l g2 in
    let (y, (f4, g4)) = on_some (port_from b) (λ b. op_line to (operation.Cond k x b)) l g3 in
    let s = container_says d to f in
    let r = port_says c k f2 in
    let t = port_says a x f3 in
    let u = port_says b y f4 in
    op_says to (operation.Cond k x y) (codes "cond" ∷ ws) l g4
    (ap (λ z. codes "cond" ∷ z ∷ port_text k ∷ port_text x ∷ port_text y ∷ []) s.0 ∙ ap (λ z. codes "cond" ∷ d ∷ z ∷ port_text x ∷ port_text y ∷ []) r.0 ∙ ap (λ z. codes "cond" ∷ d ∷ c ∷ z ∷ port_text y ∷ []) t.0 ∙ ap (λ z. codes "cond" ∷ d ∷ c ∷ a ∷ z ∷ []) u.0 ∙ ap (λ z. codes "cond" ∷ z) (sym p)) s.1 (and_from _ _ r.1 (and_from _ _ t.1 u.1))

hash_by_says : (to : ℕ) (unit : HashName) (modulus : ℕ) (args : List Port) (l : Line) → hash_by to unit modulus args ≡ Some l → ((length args == unit.args) ≡ true) × (op_line to (operation.Hash unit modulus args) ≡ Some l)
hash_by_says to unit modulus args l e = from (length args == unit.args) refl e
  where
    from : (t : Bool) → (length args == unit.args) ≡ t → (if t then op_line to (operation.Hash unit modulus args) else None) ≡ Some l → ((length args == unit.args) ≡ true) × (op_line to (operation.Hash unit modulus args) ≡ Some l)
    from true q e = (q, e)
    from false q e = absurd (cc)

hash_says : (ws : List (List ℕ)) (l : Line) → hash_line ws ≡ Some l → LineSays (codes "hash" ∷ ws) l
hash_says [] l e = absurd (cc)
hash_says (d ∷ []) l e = absurd (cc)
hash_says (d ∷ h ∷ []) l e = absurd (cc)
hash_says (d ∷ h ∷ m ∷ ws) l e =
    let (to, (f, g)) = on_some (container_from d) (λ to. on (unit_named h) (λ unit. on (modulus_from m) (λ modulus. on (ports_from ws) (λ args. hash_by to unit modulus args)))) l e in
    let (unit, (f2, g2)) = on_some (unit_named h) (λ unit. on (modulus_from m) (λ modulus. on (ports_from ws) (λ args. hash_by to unit modulus args))) l g in
    let (modulus, (f3, g3)) = on_some (modulus_from m) (λ modulus. on (ports_from ws) (λ args. hash_by to unit modulus args)) l g2 in
    let (args, (f4, g4)) = on_some (ports_from ws) (λ args. hash_by to unit modulus args) l g3 in
    let s = container_says d to f in
    let r = modulus_says m modulus f3 in
    let t = ports_say ws args f4 in
    let u = hash_by_says to unit modulus args l g4 in
    op_says to (operation.Hash unit modulus args) (codes "hash" ∷ d ∷ h ∷ m ∷ ws) l u.1
    (ap (λ z. codes "hash" ∷ z ∷ unit_text unit ∷ decimal modulus ∷ map port_text args) s.0 ∙ ap (λ z. codes "hash" ∷ d ∷ z ∷ decimal modulus ∷ map port_text args) (named_back h unit f2) ∙ ap (λ z. codes "hash" ∷ d ∷ h ∷ z ∷ map port_text args) r.0 ∙ ap (λ z. codes "hash" ∷ d ∷ h ∷ m ∷ z) t.0) s.1 (and_from _ _ r.1 (and_from _ _ u.0 t.1))

slot_says : (ws : List (List ℕ)) (l : Line) → slot_line ws ≡ Some l → LineSays (codes "slot" ∷ ws) l
slot_says [] l e = absurd (cc)
slot_says (a ∷ []) l e = absurd (cc)
slot_says (a ∷ i ∷ []) l e = absurd (cc)
slot_says (a ∷ i ∷ o ∷ []) l e = absurd (cc)
slot_says (a ∷ i ∷ o ∷ n ∷ ws) l e =
    let (array_number, (f, g)) = on_some (count_from a) (λ a. on (port_from i) (λ i. on (option_from o) (λ o. on (option_from n) (λ n. on (whole_tree ws) (λ t. Some (slot (record { array = a; index = i; old = o; new = n }) t)))))) l e in
    let (index, (f2, g2)) = on_some (port_from i) (λ i. on (option_from o) (λ o. on (option_from n) (λ n. on (whole_tree ws) (λ t. Some (slot (record { array = array_number; index = i; old = o; new = n }) t))))) l g in
    let (old, (f3, g3)) = on_some (option_from o) (λ o. on (option_from n) (λ n. on (whole_tree ws) (λ t. Some (slot (record { array = array_number; index = index; old = o; new = n }) t)))) l g2 in
    let (new, (f4, g4)) = on_some (option_from n) (λ n. on (whole_tree ws) (λ t. Some (slot (record { array = array_number; index = index; old = old; new = n }) t))) l g3 in
    let (t, (f5, g5)) = on_some (whole_tree ws) (λ t. Some (slot (record { array = array_number; index = index; old = old; new = new }) t)) l g4 in
    let r1 = count_says a array_number f in
    let r2 = port_says i index f2 in
    let r3 = option_says o old f3 in
    let r4 = option_says n new f4 in
    let r5 = whole_says ws t f5 in
    let q : slot (record { array = array_number; index = index; old = old; new = new }) t ≡ l = cc in
    subst (LineSays (codes "slot" ∷ a ∷ i ∷ o ∷ n ∷ ws)) q (
      ap (λ z. codes "slot" ∷ z ∷ port_text index ∷ option_text old ∷ option_text new ∷ tree_words t) r1.0 ∙ ap (λ z. codes "slot" ∷ a ∷ z ∷ option_text old ∷ option_text new ∷ tree_words t) r2.0 ∙ ap (λ z. codes "slot" ∷ a ∷ i ∷ z ∷ option_text new ∷ tree_words t) r3.0 ∙ ap (λ z. codes "slot" ∷ a ∷ i ∷ o ∷ z ∷ tree_words t) r4.0 ∙ ap (λ z. codes "slot" ∷ a ∷ i ∷ o ∷ n ∷ z) r5.0,
      and_from _ _ r1.1 (and_from _ _ r2.1 (and_from _ _ r3.1 (and_from _ _ r4.1 r5.1))),
    )

array_says : (ws : List (List ℕ)) (l : Line) → three_words ws array_line ≡ Some l → LineSays (codes "array" ∷ ws) l
array_says ws l e =
    let (w, k, i, (p, q)) = three_say ws array_line l e in
    from w k i p (is_name w) refl q
  where
    from : (w k i : List ℕ) → ws ≡ w ∷ k ∷ i ∷ [] → (t : Bool) → is_name w ≡ t → (if t then on (count_from k) (λ length. on (word_from i) (λ init. Some (array (record { name = w; length = length; init = init })))) else None) ≡ Some l → LineSays (codes "array" ∷ ws) l
    from w k i p true named q =
        let (size, (f, g)) = on_some (count_from k) (λ length. on (word_from i) (λ init. Some (array (record { name = w; length = length; init = init })))) l q in
        let (init, (f2, g2)) = on_some (word_from i) (λ init. Some (array (record { name = w; length = size; init = init }))) l g in
        let s = count_says k size f in
        let t = word_says i init f2 in
        let r : array (record { name = w; length = size; init = init }) ≡ l = cc in
        subst (LineSays (codes "array" ∷ ws)) r (ap (λ z. codes "array" ∷ w ∷ z ∷ word_text init ∷ []) s.0 ∙ ap (λ z. codes "array" ∷ w ∷ k ∷ z ∷ []) t.0 ∙ ap (λ z. codes "array" ∷ z) (sym p), and_from _ _ named (and_from _ _ s.1 t.1))
    from w k i p false named q = absurd (cc)

by_says : (k : Key) (ws : List (List ℕ)) (l : Line) → line_by k ws ≡ Some l → LineSays (key_text k ∷ ws) l
by_says key_head ws l e =
    let (w, (p, q)) = one_says ws (λ w. on (version_from w) (λ v. Some (head v))) l e in
    let (v, (f, g)) = on_some (version_from w) (λ v. Some (head v)) l q in
    let r : head v ≡ l = cc in
    subst (LineSays (codes "banzai" ∷ ws)) r (ap (λ z. codes "banzai" ∷ z ∷ []) (version_says w v f) ∙ ap (λ z. codes "banzai" ∷ z) (sym p), refl)
by_says key_target ws l e =
    let (w, (p, q)) = one_says ws (λ w. if is_target_word w then Some (target w) else None) l e in
    let (s, r) = if_says (is_target_word w) (target w) l q in
    subst (LineSays (codes "target" ∷ ws)) r (ap (λ v. codes "target" ∷ v) (sym p), s)
by_says key_field ws l e =
    let (w, (p, q)) = one_says ws (λ w. if is_name w then Some (field w) else None) l e in
    let (s, r) = if_says (is_name w) (field w) l q in
    subst (LineSays (codes "field" ∷ ws)) r (ap (λ v. codes "field" ∷ v) (sym p), s)
by_says key_array ws l e = array_says ws l e
by_says key_containers ws l e =
    let (w, (p, q)) = one_says ws (λ w. on (count_from w) (λ n. Some (containers n))) l e in
    let (n, (f, g)) = on_some (count_from w) (λ n. Some (containers n)) l q in
    let s = count_says w n f in
    let r : containers n ≡ l = cc in
    subst (LineSays (codes "containers" ∷ ws)) r (ap (λ v. codes "containers" ∷ v ∷ []) s.0 ∙ ap (λ v. codes "containers" ∷ v) (sym p), s.1)
by_says key_stage ws l e =
    let (w, (p, q)) = one_says ws (λ w. on (count_from w) (λ n. Some (stage n))) l e in
    let (n, (f, g)) = on_some (count_from w) (λ n. Some (stage n)) l q in
    let s = count_says w n f in
    let r : stage n ≡ l = cc in
    subst (LineSays (codes "stage" ∷ ws)) r (ap (λ v. codes "stage" ∷ v ∷ []) s.0 ∙ ap (λ v. codes "stage" ∷ v) (sym p), s.1)
by_says key_un ws l e = un_says ws l e
by_says key_bin ws l e = bin_says ws l e
by_says key_cond ws l e = cond_says ws l e
by_says key_hash ws l e = hash_says ws l e
by_says key_atom ws l e =
    let (w, (p, q)) = one_says ws (λ w. on (count_from w) atom_line) l e in
    let (n, (f, g)) = on_some (count_from w) atom_line l q in
    let s = count_says w n f in
    let (t, r) = if_says (nat_le 1 n && nat_le n 2) (atom n) l g in
    subst (LineSays (codes "atom" ∷ ws)) r (ap (λ v. codes "atom" ∷ v ∷ []) s.0 ∙ ap (λ v. codes "atom" ∷ v) (sym p), t)
by_says key_slot ws l e = slot_says ws l e
by_says key_out ws l e =
    let (w, (p, q)) = one_says ws (λ w. on (port_from w) (λ p. Some (out p))) l e in
    let (n, (f, g)) = on_some (port_from w) (λ n. Some (out n)) l q in
    let s = port_says w n f in
    let r : out n ≡ l = cc in
    subst (LineSays (codes "out" ∷ ws)) r (ap (λ v. codes "out" ∷ v ∷ []) s.0 ∙ ap (λ v. codes "out" ∷ v) (sym p), s.1)
by_says key_end ws l e =
    let (p, r) = no_words_say ws the_end l e in
    subst (LineSays (codes "end" ∷ ws)) r (ap (λ v. codes "end" ∷ v) (sym p), refl)

words_say : (ws : List (List ℕ)) (l : Line) → line_of_words ws ≡ Some l → LineSays ws l
words_say [] l e = absurd (cc)
words_say (w ∷ ws) l e =
    let (k, (f, g)) = on_some (key_of w) (λ k. line_by k ws) l e in
    subst (λ v. LineSays (v ∷ ws) l) (sym (find_says key_text w keys k f)) (by_says k ws l g)

-- bytes that are read as a line are its text
pub line_says : (bytes : List ℕ) (l : Line) → line_from bytes ≡ Some l → (line_text l ≡ bytes) × (line_fits l ≡ true)
line_says bytes l e = let s = words_say (split bytes) l e in (ap joined s.0 ∙ joined_split bytes, s.1)

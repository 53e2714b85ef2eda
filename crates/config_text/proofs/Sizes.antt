-- No text of a legal configuration is long.
use Rattle.std.proofs.Common.{◌≡◌, ℕ, zero, suc, ◌+◌, ◌-◌, ◌*◌, ◌≤◌, ◌<◌, Bool, true, false, ◌&&◌, if◌then◌else◌, nat_eq, nat_le, nat_lt, List, [], ◌∷◌, ◌++◌, codes, map, length, length-append, Option, Some, None, refl, sym, ap, subst, ◌∙◌, arith, append_assoc}
use Rattle.std.specs.Fmt.{decimal}
use Rattle.std.specs.List.{flat_map, list_all, sum_by}
use Rattle.std.proofs.lemmas.Bool.{and_from, and_parts, eqb-true, le-leb, leb-true, ltb-true, ltb-false}
use Rattle.std.proofs.lemmas.Fmt.{length-decimal-le}
use Rattle.std.proofs.lemmas.List.{append-nil}
use Rattle.std.proofs.lemmas.List.Folds.{list_all-append}
use Rattle.std.proofs.lemmas.List.Sums.{sum_by-cons}
use Rattle.dom_words.specs.declared.array.Array.{Array}
use Rattle.dom_words.specs.declared.hash.HashName.{HashName}
use Rattle.dom_words.specs.declared.operators.BinOp.{BinOp}
use Rattle.dom_words.specs.declared.operators.BinOp.TheVariants as bin
use Rattle.dom_words.specs.declared.operators.UnOp.{UnOp}
use Rattle.dom_words.specs.declared.operators.UnOp.TheVariants as un
use Rattle.dom_words.specs.Units.{letter_text, unit_text}
use Rattle.atom_traits.specs.declared.operation.StatelessOp.{StatelessOp}
use Rattle.atom_traits.specs.declared.operation.StatelessOp.TheVariants as operation
use Rattle.atom_traits.specs.declared.tree.Leaf.{Leaf}
use Rattle.atom_traits.specs.declared.tree.Leaf.TheVariants as leaf
use Rattle.atom_traits.specs.declared.tree.Port.{Port}
use Rattle.atom_traits.specs.declared.tree.Port.TheVariants as port
use Rattle.atom_traits.specs.declared.tree.Rel.{Rel}
use Rattle.atom_traits.specs.declared.tree.Rel.TheVariants as rel
use Rattle.atom_traits.specs.declared.tree.Source.{Source}
use Rattle.atom_traits.specs.declared.tree.Source.TheVariants as source
use Rattle.atom_traits.specs.Form.{Asks, Ends, TreeForm}
use Rattle.banzai_config.specs.declared.fault.ConfigKind.TheVariants as kind
use Rattle.banzai_config.specs.declared.parts.OpAtom.{OpAtom}
use Rattle.banzai_config.specs.declared.parts.PartSlot.{PartSlot}
use Rattle.banzai_config.specs.declared.parts.Version.{Version}
use Rattle.banzai_config.specs.declared.parts.Version.TheVariants as version
use Rattle.banzai_config.specs.declared.target.Geometry.{Geometry}
use Rattle.banzai_config.specs.declared.target.Geometry.TheVariants.{Small, Medium, Large}
use Rattle.banzai_config.specs.declared.target.Target.{Target}
use Rattle.banzai_config.specs.declared.target.Template.{Template}
use Rattle.banzai_config.specs.declared.target.Template.TheVariants as template
use Rattle.banzai_config.specs.Legal.{are_counts_right, at, atom_rules, before_of, count, has_place, head_holds, is_stateful, is_stateless, LegalFor, output_rules, rules_of, Shape, Sizes, sizes_of, stage_rules, standing, standing_after, test}
use Rattle.banzai_config.specs.Named.{stage_targets}
use Rattle.banzai_config.specs.Parts.{Atom, AtomForm, atoms_of, PartsForm, StageForm, Stateful, Stateless}
use Rattle.banzai_config.specs.Targets.{depth_of, geometry_text, name_of, shape_of, stateful_of, stateless_of, template_text}
use Rattle.banzai_config.proofs.Lawful.{all_hold}
use Rattle.config_text.specs.Fronts.{ended, for_target, TextOf, whole_text}
use Rattle.config_text.specs.Lines.{array, atom, atom_lines, containers, field, head, joined, Line, line_fits, line_text, lines_of, op, out, parts_lines, second_lines, slot, slot_lines, stage, stage_lines, stages_from, target, the_end, words_of}
use Rattle.config_text.specs.Sizes.{array_name_size, name_size, names_size}
use Rattle.config_text.specs.Words.{bin_text, container_text, is_small, leaf_fits, leaf_words, op_fits, op_words, option_fits, option_text, port_fits, port_text, rel_text, source_fits, source_text, tree_fits, tree_words, un_text, version_text, word_text}
use Rattle.config_text.proofs.LegalTexts.{rule_holds}

none_and : (n : ℕ) → n ≡ 0 + n
none_and n = omega arith

one_and : (a b : ℕ) → a ≡ b → 1 + a ≡ suc b
one_and a b e = omega arith

-- words with a comma or a line feed after each
abbrev words_size : List (List ℕ) → ℕ
words_size [] = 0
words_size (w ∷ ws) = length w + 1 + words_size ws

joined_size : (w : List ℕ) (ws : List (List ℕ)) → length (joined (w ∷ ws)) + 1 ≡ words_size (w ∷ ws)
joined_size w [] = plus_zero (length w)
  where
    plus_zero : (n : ℕ) → n + 1 ≡ n + 1 + 0
    plus_zero n = omega arith
joined_size w (v ∷ ws) = sum (length (w ++ 44 ∷ joined (v ∷ ws))) (length w) (length (joined (v ∷ ws))) (words_size (v ∷ ws)) (length-append w (44 ∷ joined (v ∷ ws))) (joined_size v ws)
  where
    sum : (all a b r : ℕ) → all ≡ a + suc b → b + 1 ≡ r → all + 1 ≡ a + 1 + r
    sum all a b r e f = omega arith

words_more : (ws vs : List (List ℕ)) → words_size (ws ++ vs) ≡ words_size ws + words_size vs
words_more [] vs = none_and (words_size vs)
words_more (w ∷ ws) vs = sum (length w) (words_size (ws ++ vs)) (words_size ws) (words_size vs) (words_more ws vs)
  where
    sum : (a b c d : ℕ) → b ≡ c + d → a + 1 + b ≡ a + 1 + c + d
    sum a b c d e = omega arith

-- words
decimal_size : (n : ℕ) → is_small n ≡ true → length (decimal n) ≤ 10
decimal_size n h = let l = ltb-true n 4294967296 h in length-decimal-le 10 n (omega arith) (omega arith) (omega arith)

word_size : (n : ℕ) → is_small n ≡ true → length (word_text n) ≤ 11
word_size n h = from (nat_lt n 2147483648) refl
  where
    one_more : (a : ℕ) → a ≤ 10 → suc a ≤ 11
    one_more a h = omega arith

    from : (t : Bool) → nat_lt n 2147483648 ≡ t → length (if t then decimal n else 45 ∷ decimal (4294967296 - n)) ≤ 11
    from true e = let d = decimal_size n h in up (length (decimal n)) d
      where
        up : (a : ℕ) → a ≤ 10 → a ≤ 11
        up a h = omega arith
    from false e =
        let big = ltb-false n 2147483648 e in
        let l = ltb-true n 4294967296 h in
        one_more (length (decimal (4294967296 - n))) (length-decimal-le 10 (4294967296 - n) (omega arith) (omega arith) (omega arith))

one_more : (a b : ℕ) → a ≤ b → suc a ≤ suc b
one_more a b h = omega arith

within : (a b c : ℕ) → a ≤ b → b ≤ c → a ≤ c
within a b c h g = omega arith

container_size : (n : ℕ) → is_small n ≡ true → length (container_text n) ≤ 11
container_size n h = one_more (length (decimal n)) 10 (decimal_size n h)

port_size : (p : Port) → port_fits p ≡ true → length (port_text p) ≤ 12
port_size (port.Const n) h = one_more (length (word_text n)) 11 (word_size n h)
port_size (port.Container n) h = within (length (container_text n)) 11 12 (container_size n h) (omega arith)

source_size : (p : Source) → source_fits p ≡ true → length (source_text p) ≤ 12
source_size (source.Const n) h = one_more (length (word_text n)) 11 (word_size n h)
source_size (source.Container n) h = within (length (container_text n)) 11 12 (container_size n h) (omega arith)
source_size (source.State n) h =
    let l = ltb-true n 2 h in
    within (length (115 ∷ decimal n)) 2 12 (one_more (length (decimal n)) 1 (length-decimal-le 1 n (omega arith) (omega arith) (omega arith))) (omega arith)

option_size : (o : Option ℕ) → option_fits o ≡ true → length (option_text o) ≤ 11
option_size None h = omega arith
option_size (Some n) h = container_size n h

un_size : (o : UnOp) → length (un_text o) ≤ 3
un_size un.Neg = omega arith
un_size un.Inv = omega arith
un_size un.Not = omega arith

bin_size : (o : BinOp) → length (bin_text o) ≤ 4
bin_size bin.Mul = omega arith
bin_size bin.Div = omega arith
bin_size bin.Rem = omega arith
bin_size bin.Add = omega arith
bin_size bin.Sub = omega arith
bin_size bin.Shl = omega arith
bin_size bin.Shr = omega arith
bin_size bin.Lt = omega arith
bin_size bin.Le = omega arith
bin_size bin.Gt = omega arith
bin_size bin.Ge = omega arith
bin_size bin.Eq = omega arith
bin_size bin.Ne = omega arith
bin_size bin.BitAnd = omega arith
bin_size bin.BitXor = omega arith
bin_size bin.BitOr = omega arith
bin_size bin.And = omega arith
bin_size bin.Or = omega arith

rel_size : (r : Rel) → length (rel_text r) ≤ 2
rel_size rel.Lt = omega arith
rel_size rel.Eq = omega arith

version_size : (v : Version) → length (version_text v) ≤ 1
version_size version.One = omega arith
version_size version.Two = omega arith

unit_size : (u : HashName) → length (unit_text u) ≤ 6
unit_size u = letter u.letter
  where
    letter : (n : ℕ) → suc (suc (suc (suc (suc (length (letter_text n)))))) ≤ 6
    letter zero = omega arith
    letter (suc n) = omega arith

-- trees
abbrev tree_most : ℕ → ℕ
tree_most zero = 17
tree_most (suc n) = 32 + (tree_most n + tree_most n)

leaf_size : (l : Leaf) → leaf_fits l ≡ true → words_size (leaf_words l) ≤ 17
leaf_size leaf.Keep h = omega arith
leaf_size (leaf.Put p) h = by_port (length (port_text p)) (port_size p h)
  where
    by_port : (n : ℕ) → n ≤ 12 → 3 + 1 + (n + 1 + 0) ≤ 17
    by_port n h = omega arith
leaf_size (leaf.Add p) h = by_port (length (port_text p)) (port_size p h)
  where
    by_port : (n : ℕ) → n ≤ 12 → 3 + 1 + (n + 1 + 0) ≤ 17
    by_port n h = omega arith
leaf_size (leaf.Sub p) h = by_port (length (port_text p)) (port_size p h)
  where
    by_port : (n : ℕ) → n ≤ 12 → 3 + 1 + (n + 1 + 0) ≤ 17
    by_port n h = omega arith

fork_sum : (r a b both y n most : ℕ) → r ≤ 2 → a ≤ 12 → b ≤ 12 → both ≡ y + n → y ≤ most → n ≤ most → 2 + 1 + (r + 1 + (a + 1 + (b + 1 + both))) ≤ 32 + (most + most)
fork_sum r a b both y n most hr ha hb e hy hn = omega arith

tree_size : (levels : ℕ) (t : TreeForm) → tree_fits levels t ≡ true → words_size (tree_words t) ≤ tree_most levels
tree_size zero (Ends l) h = leaf_size l h
tree_size (suc levels) (Ends l) h = up (words_size (leaf_words l)) (tree_most levels) (leaf_size l h)
  where
    up : (a most : ℕ) → a ≤ 17 → a ≤ 32 + (most + most)
    up a most h = omega arith
tree_size zero (Asks g y n) h = absurd (cc)
tree_size (suc levels) (Asks g y n) h =
    let one = and_parts (source_fits g.left) _ h in
    let two = and_parts (source_fits g.right) _ one.1 in
    let both = and_parts (tree_fits levels y) (tree_fits levels n) two.1 in
    fork_sum (length (rel_text g.rel)) (length (source_text g.left)) (length (source_text g.right)) (words_size (tree_words y ++ tree_words n)) (words_size (tree_words y)) (words_size (tree_words n)) (tree_most levels)
    (rel_size g.rel) (source_size g.left one.0) (source_size g.right two.0) (words_more (tree_words y) (tree_words n)) (tree_size levels y both.0) (tree_size levels n both.1)

-- atoms without state
ports_size : (ps : List Port) → list_all port_fits ps ≡ true → words_size (map port_text ps) ≤ 13 * length ps
ports_size [] h = omega arith
ports_size (p ∷ ps) h =
    let both = and_parts (port_fits p) (list_all port_fits ps) h in
    sum (length (port_text p)) (words_size (map port_text ps)) (length ps) (port_size p both.0) (ports_size ps both.1)
  where
    sum : (a b n : ℕ) → a ≤ 12 → b ≤ 13 * n → a + 1 + b ≤ 13 * suc n
    sum a b n h g = omega arith

op_size : (to : ℕ) (o : StatelessOp) → is_small to ≡ true → op_fits o ≡ true → words_size (op_words to o) ≤ 87
op_size to (operation.Un o a) small h = sum (length (container_text to)) (length (un_text o)) (length (port_text a)) (container_size to small) (un_size o) (port_size a h)
  where
    sum : (c n a : ℕ) → c ≤ 11 → n ≤ 3 → a ≤ 12 → 2 + 1 + (c + 1 + (n + 1 + (a + 1 + 0))) ≤ 87
    sum c n a hc hn ha = omega arith
op_size to (operation.Bin o a b) small h =
    let both = and_parts (port_fits a) (port_fits b) h in
    sum (length (container_text to)) (length (bin_text o)) (length (port_text a)) (length (port_text b)) (container_size to small) (bin_size o) (port_size a both.0) (port_size b both.1)
  where
    sum : (c n a b : ℕ) → c ≤ 11 → n ≤ 4 → a ≤ 12 → b ≤ 12 → 3 + 1 + (c + 1 + (n + 1 + (a + 1 + (b + 1 + 0)))) ≤ 87
    sum c n a b hc hn ha hb = omega arith
op_size to (operation.Cond x a b) small h =
    let one = and_parts (port_fits x) _ h in
    let both = and_parts (port_fits a) (port_fits b) one.1 in
    sum (length (container_text to)) (length (port_text x)) (length (port_text a)) (length (port_text b)) (container_size to small) (port_size x one.0) (port_size a both.0) (port_size b both.1)
  where
    sum : (c n a b : ℕ) → c ≤ 11 → n ≤ 12 → a ≤ 12 → b ≤ 12 → 4 + 1 + (c + 1 + (n + 1 + (a + 1 + (b + 1 + 0)))) ≤ 87
    sum c n a b hc hn ha hb = omega arith
op_size to (operation.Hash unit modulus args) small h =
    let one = and_parts (nat_le modulus 2147483647) _ h in
    let two = and_parts (nat_eq (length args) unit.args) (list_all port_fits args) one.1 in
    let low = leb-true modulus 2147483647 one.0 in
    sum (length (container_text to)) (length (unit_text unit)) (length (decimal modulus)) (words_size (map port_text args)) (length args) unit.args (container_size to small) (unit_size unit)
    (length-decimal-le 10 modulus (omega arith) (omega arith) (omega arith)) (ports_size args two.1) (eqb-true (length args) unit.args two.0) unit.few_args
  where
    sum : (c u m a n k : ℕ) → c ≤ 11 → u ≤ 6 → m ≤ 10 → a ≤ 13 * n → n ≡ k → k ≤ 4 → 4 + 1 + (c + 1 + (u + 1 + (m + 1 + a))) ≤ 87
    sum c u m a n k hc hu hm ha e hk = omega arith

-- the most bytes of a line and its line feed
abbrev line_most : Line → ℕ
line_most (head v) = 9
line_most (target name) = 8 + length name
line_most (field name) = 7 + length name
line_most (array a) = 30 + length a.name
line_most (containers n) = 22
line_most (stage k) = 17
line_most (op a) = 87
line_most (atom n) = 7
line_most (slot s t) = 217
line_most (out p) = 17
line_most the_end = 4

line_short : (l : Line) → line_fits l ≡ true → words_size (words_of l) ≤ line_most l
line_short (head v) h = sum (length (version_text v)) (version_size v)
  where
    sum : (a : ℕ) → a ≤ 1 → 6 + 1 + (a + 1 + 0) ≤ 9
    sum a h = omega arith
line_short (target name) h = sum (length name)
  where
    sum : (a : ℕ) → 6 + 1 + (a + 1 + 0) ≤ 8 + a
    sum a = omega arith
line_short (field name) h = sum (length name)
  where
    sum : (a : ℕ) → 5 + 1 + (a + 1 + 0) ≤ 7 + a
    sum a = omega arith
line_short (array a) h =
    let both = and_parts (is_small a.length) (is_small a.init) (and_parts _ _ h).1 in
    sum (length a.name) (length (decimal a.length)) (length (word_text a.init)) (decimal_size a.length both.0) (word_size a.init both.1)
  where
    sum : (a d w : ℕ) → d ≤ 10 → w ≤ 11 → 5 + 1 + (a + 1 + (d + 1 + (w + 1 + 0))) ≤ 30 + a
    sum a d w hd hw = omega arith
line_short (containers n) h = sum (length (decimal n)) (decimal_size n h)
  where
    sum : (d : ℕ) → d ≤ 10 → 10 + 1 + (d + 1 + 0) ≤ 22
    sum d h = omega arith
line_short (stage k) h = sum (length (decimal k)) (decimal_size k h)
  where
    sum : (d : ℕ) → d ≤ 10 → 5 + 1 + (d + 1 + 0) ≤ 17
    sum d h = omega arith
line_short (op a) h = let both = and_parts (is_small a.to) (op_fits a.op) h in op_size a.to a.op both.0 both.1
line_short (atom n) h =
    let both = and_parts (nat_le 1 n) (nat_le n 2) h in
    let low = leb-true n 2 both.1 in
    sum (length (decimal n)) (length-decimal-le 1 n (omega arith) (omega arith) (omega arith))
  where
    sum : (d : ℕ) → d ≤ 1 → 4 + 1 + (d + 1 + 0) ≤ 7
    sum d h = omega arith
line_short (slot s t) h =
    let one = and_parts (is_small s.array) _ h in
    let two = and_parts (port_fits s.index) _ one.1 in
    let three = and_parts (option_fits s.old) _ two.1 in
    let four = and_parts (option_fits s.new) (tree_fits 2 t) three.1 in
    sum (length (decimal s.array)) (length (port_text s.index)) (length (option_text s.old)) (length (option_text s.new)) (words_size (tree_words t)) (decimal_size s.array one.0) (port_size s.index two.0) (option_size s.old three.0) (option_size s.new four.0) (tree_size 2 t four.1)
  where
    sum : (a i o n t : ℕ) → a ≤ 10 → i ≤ 12 → o ≤ 11 → n ≤ 11 → t ≤ 164 → 4 + 1 + (a + 1 + (i + 1 + (o + 1 + (n + 1 + t)))) ≤ 217
    sum a i o n t ha hi ho hn ht = omega arith
line_short (out p) h = sum (length (port_text p)) (port_size p h)
  where
    sum : (a : ℕ) → a ≤ 12 → 3 + 1 + (a + 1 + 0) ≤ 17
    sum a h = omega arith
line_short the_end h = omega arith

op_words_joined : (to : ℕ) (o : StatelessOp) → length (joined (op_words to o)) + 1 ≡ words_size (op_words to o)
op_words_joined to (operation.Un o a) = joined_size (codes "un") (container_text to ∷ un_text o ∷ port_text a ∷ [])
op_words_joined to (operation.Bin o a b) = joined_size (codes "bin") (container_text to ∷ bin_text o ∷ port_text a ∷ port_text b ∷ [])
op_words_joined to (operation.Cond x a b) = joined_size (codes "cond") (container_text to ∷ port_text x ∷ port_text a ∷ port_text b ∷ [])
op_words_joined to (operation.Hash unit modulus args) = joined_size (codes "hash") (container_text to ∷ unit_text unit ∷ decimal modulus ∷ map port_text args)

line_joined : (l : Line) → length (line_text l) + 1 ≡ words_size (words_of l)
line_joined (head v) = joined_size (codes "banzai") (version_text v ∷ [])
line_joined (target name) = joined_size (codes "target") (name ∷ [])
line_joined (field name) = joined_size (codes "field") (name ∷ [])
line_joined (array a) = joined_size (codes "array") (a.name ∷ decimal a.length ∷ word_text a.init ∷ [])
line_joined (containers n) = joined_size (codes "containers") (decimal n ∷ [])
line_joined (stage k) = joined_size (codes "stage") (decimal k ∷ [])
line_joined (op a) = op_words_joined a.to a.op
line_joined (atom n) = joined_size (codes "atom") (decimal n ∷ [])
line_joined (slot s t) = joined_size (codes "slot") (decimal s.array ∷ port_text s.index ∷ option_text s.old ∷ option_text s.new ∷ tree_words t)
line_joined (out p) = joined_size (codes "out") (port_text p ∷ [])
line_joined the_end = joined_size (codes "end") []

-- texts
abbrev most : List Line → ℕ
most [] = 0
most (l ∷ ls) = line_most l + most ls

most_more : (ls ks : List Line) → most (ls ++ ks) ≡ most ls + most ks
most_more [] ks = none_and (most ks)
most_more (l ∷ ls) ks = sum (line_most l) (most (ls ++ ks)) (most ls) (most ks) (most_more ls ks)
  where
    sum : (a b c d : ℕ) → b ≡ c + d → a + b ≡ a + c + d
    sum a b c d e = omega arith

text_short : (ls : List Line) → list_all line_fits ls ≡ true → length (ended (map line_text ls)) ≤ most ls
text_short [] h = omega arith
text_short (l ∷ ls) h =
    let both = and_parts (line_fits l) (list_all line_fits ls) h in
    sum (length ((line_text l ++ 10 ∷ []) ++ ended (map line_text ls))) (length (line_text l ++ 10 ∷ [])) (length (line_text l)) (words_size (words_of l)) (line_most l) (length (ended (map line_text ls))) (most ls)
    (length-append (line_text l ++ 10 ∷ []) (ended (map line_text ls))) (length-append (line_text l) (10 ∷ [])) (line_joined l) (line_short l both.0) (text_short ls both.1)
  where
    sum : (all one a w m rest r : ℕ) → all ≡ one + rest → one ≡ a + 1 → a + 1 ≡ w → w ≤ m → rest ≤ r → all ≤ m + r
    sum all one a w m rest r e f g h k = omega arith

-- the parts of a text
ops_most : (xs : List OpAtom) → most (map op xs) ≡ 87 * length xs
ops_most [] = refl
ops_most (a ∷ xs) = sum (most (map op xs)) (length xs) (ops_most xs)
  where
    sum : (a n : ℕ) → a ≡ 87 * n → 87 + a ≡ 87 * suc n
    sum a n e = omega arith

second_most : (ss : List PartSlot) (t : Option TreeForm) → most (second_lines ss t) ≤ 217
second_most [] t = omega arith
second_most (s ∷ ss) None = omega arith
second_most (s ∷ ss) (Some t) = omega arith

atom_most : (a : AtomForm) → most (atom_lines a) ≤ 441
atom_most a = from a.slots a.trees.first a.trees.second
  where
    up : (n : ℕ) → n ≤ 217 → 7 + (217 + n) ≤ 441
    up n h = omega arith

    from : (ss : List PartSlot) (first : TreeForm) (second : Option TreeForm) → 7 + most (slot_lines ss (record { first = first; second = second })) ≤ 441
    from [] first second = omega arith
    from (s ∷ ss) first second = up (most (second_lines ss second)) (second_most ss second)

atoms_most : (xs : List AtomForm) → most (flat_map atom_lines xs) ≤ 441 * length xs
atoms_most [] = omega arith
atoms_most (a ∷ xs) = sum (most (atom_lines a ++ flat_map atom_lines xs)) (most (atom_lines a)) (most (flat_map atom_lines xs)) (length xs) (most_more (atom_lines a) (flat_map atom_lines xs)) (atom_most a) (atoms_most xs)
  where
    sum : (all a b n : ℕ) → all ≡ a + b → a ≤ 441 → b ≤ 441 * n → all ≤ 441 * suc n
    sum all a b n e h g = omega arith

abbrev is_narrow : StageForm → Bool
is_narrow s = nat_le (length s.stateless) 300 && nat_le (length s.stateful) 10

stage_most : (k : ℕ) (s : StageForm) → is_narrow s ≡ true → most (stage k ∷ stage_lines s) ≤ 30527
stage_most k s h =
    let both = and_parts (nat_le (length s.stateless) 300) (nat_le (length s.stateful) 10) h in
    sum (most (stage_lines s)) (most (map op s.stateless)) (most (flat_map atom_lines s.stateful)) (length s.stateless) (length s.stateful) (most_more (map op s.stateless) (flat_map atom_lines s.stateful)) (ops_most s.stateless) (atoms_most s.stateful) (leb-true (length s.stateless) 300 both.0) (leb-true (length s.stateful) 10 both.1)
  where
    sum : (all a b n m : ℕ) → all ≡ a + b → a ≡ 87 * n → b ≤ 441 * m → n ≤ 300 → m ≤ 10 → 17 + all ≤ 30527
    sum all a b n m e f g h i = omega arith

stages_most : (k : ℕ) (ss : List StageForm) → list_all is_narrow ss ≡ true → most (stages_from k ss) ≤ 30527 * length ss
stages_most k [] h = omega arith
stages_most k (s ∷ ss) h =
    let both = and_parts (is_narrow s) (list_all is_narrow ss) h in
    sum (most (stages_from k (s ∷ ss))) (most (stage k ∷ stage_lines s)) (most (stages_from (k + 1) ss)) (length ss) (most_more (stage k ∷ stage_lines s) (stages_from (k + 1) ss)) (stage_most k s both.0) (stages_most (k + 1) ss both.1)
  where
    sum : (all a b n : ℕ) → all ≡ a + b → a ≤ 30527 → b ≤ 30527 * n → all ≤ 30527 * suc n
    sum all a b n e h g = omega arith

fields_most : (names : List (List ℕ)) → most (map field names) ≡ 7 * length names + sum_by name_size names
fields_most [] = refl
fields_most (name ∷ names) =
    sum (length name) (most (map field names)) (length names) (sum_by name_size names) (sum_by name_size (name ∷ names)) (fields_most names) (sum_by-cons name_size name names)
  where
    sum : (a b n s all : ℕ) → b ≡ 7 * n + s → all ≡ a + s → 7 + a + b ≡ 7 * suc n + all
    sum a b n s all e f = omega arith

arrays_most : (xs : List Array) → most (map array xs) ≡ 30 * length xs + sum_by array_name_size xs
arrays_most [] = refl
arrays_most (x ∷ xs) =
    sum (length x.name) (most (map array xs)) (length xs) (sum_by array_name_size xs) (sum_by array_name_size (x ∷ xs)) (arrays_most xs) (sum_by-cons array_name_size x xs)
  where
    sum : (a b n s all : ℕ) → b ≡ 30 * n + s → all ≡ a + s → 30 + a + b ≡ 30 * suc n + all
    sum a b n s all e f = omega arith

outs_most : (xs : List Port) → most (map out xs) ≡ 17 * length xs
outs_most [] = refl
outs_most (p ∷ xs) = sum (most (map out xs)) (length xs) (outs_most xs)
  where
    sum : (a n : ℕ) → a ≡ 17 * n → 17 + a ≡ 17 * suc n
    sum a n e = omega arith

-- the widths of the stages of a legal configuration
count_more : (p : Atom → Bool) (xs ys : List Atom) → count p (xs ++ ys) ≡ count p xs + count p ys
count_more p [] ys = none_and (count p ys)
count_more p (x ∷ xs) ys = sum (if p x then 1 else 0) (count p (xs ++ ys)) (count p xs) (count p ys) (count_more p xs ys)
  where
    sum : (a b c d : ℕ) → b ≡ c + d → a + b ≡ a + c + d
    sum a b c d e = omega arith

record AreWithin (s : Shape) (atoms : List Atom) : Type 0 where
  stateless : count is_stateless atoms ≤ s.stateless
  stateful : count is_stateful atoms ≤ s.stateful

one_within : (s : Shape) (stages : List StageForm) (before : List Atom) (a : Atom) → has_place s (before_of stages before) a ≡ true → AreWithin s before → AreWithin s (before ++ a ∷ [])
one_within s stages before (Stateless a) h all = record {
  stateless = sum (count is_stateless (before ++ Stateless a ∷ [])) (count is_stateless before) s.stateless (count_more is_stateless before (Stateless a ∷ [])) (ltb-true _ _ h);
  stateful = same (count is_stateful (before ++ Stateless a ∷ [])) (count is_stateful before) s.stateful (count_more is_stateful before (Stateless a ∷ [])) all.stateful;
}
  where
    sum : (n m most : ℕ) → n ≡ m + (1 + 0) → m < most → n ≤ most
    sum n m most e h = omega arith

    same : (n m most : ℕ) → n ≡ m + (0 + 0) → m ≤ most → n ≤ most
    same n m most e h = omega arith
one_within s stages before (Stateful a) h all = record {
  stateless = same (count is_stateless (before ++ Stateful a ∷ [])) (count is_stateless before) s.stateless (count_more is_stateless before (Stateful a ∷ [])) all.stateless;
  stateful = sum (count is_stateful (before ++ Stateful a ∷ [])) (count is_stateful before) s.stateful (count_more is_stateful before (Stateful a ∷ [])) (ltb-true _ _ h);
}
  where
    sum : (n m most : ℕ) → n ≡ m + (1 + 0) → m < most → n ≤ most
    sum n m most e h = omega arith

    same : (n m most : ℕ) → n ≡ m + (0 + 0) → m ≤ most → n ≤ most
    same n m most e h = omega arith

all_within : (s : Shape) (z : Sizes) (stages : List StageForm) (before atoms : List Atom) → list_all rule_holds (flat_map (atom_rules s z stages) (standing_after before atoms)) ≡ true → AreWithin s before → AreWithin s (before ++ atoms)
all_within s z stages before [] h all = subst (AreWithin s) (sym (append-nil before)) all
all_within s z stages before (a ∷ atoms) h all =
    let here = atom_rules s z stages (record { before = before; item = a }) in
    let more = flat_map (atom_rules s z stages) (standing_after (before ++ a ∷ []) atoms) in
    let both = and_parts (list_all rule_holds here) (list_all rule_holds more) (sym (list_all-append rule_holds here more) ∙ h) in
    let place = and_parts (has_place s (before_of stages before) a) _ both.0 in
    subst (AreWithin s) (append_assoc before (a ∷ []) atoms)
    (all_within s z stages (before ++ a ∷ []) atoms both.1 (one_within s stages before a place.0 all))

none_counted : (xs : List OpAtom) → count is_stateful (map (λ a. Stateless a) xs) ≡ 0
none_counted [] = refl
none_counted (x ∷ xs) = sym (none_and (count is_stateful (map (λ a. Stateless a) xs))) ∙ none_counted xs

no_stateless : (xs : List AtomForm) → count is_stateless (map (λ a. Stateful a) xs) ≡ 0
no_stateless [] = refl
no_stateless (x ∷ xs) = sym (none_and (count is_stateless (map (λ a. Stateful a) xs))) ∙ no_stateless xs

ops_counted : (xs : List OpAtom) → count is_stateless (map (λ a. Stateless a) xs) ≡ length xs
ops_counted [] = refl
ops_counted (x ∷ xs) = one_and (count is_stateless (map (λ a. Stateless a) xs)) (length xs) (ops_counted xs)

atoms_counted : (xs : List AtomForm) → count is_stateful (map (λ a. Stateful a) xs) ≡ length xs
atoms_counted [] = refl
atoms_counted (x ∷ xs) = one_and (count is_stateful (map (λ a. Stateful a) xs)) (length xs) (atoms_counted xs)

widths : (g : Geometry) → (stateless_of g ≤ 300) × (stateful_of g ≤ 10)
widths Small = (omega arith, omega arith)
widths Medium = (omega arith, omega arith)
widths Large = (omega arith, omega arith)

narrow_sum : (all a b n most : ℕ) → all ≡ a + b → a ≡ n → b ≡ 0 → all ≤ most → most ≤ 300 → n ≤ 300
narrow_sum all a b n most e f g h k = omega arith

narrow_rest : (all a b n most : ℕ) → all ≡ a + b → a ≡ 0 → b ≡ n → all ≤ most → most ≤ 10 → n ≤ 10
narrow_rest all a b n most e f g h k = omega arith

narrow : (t : Target) (z : Sizes) (before : List StageForm) (x : StageForm) → list_all rule_holds (flat_map (atom_rules (shape_of t) z before) (standing (atoms_of x))) ≡ true → is_narrow x ≡ true
narrow t z before x h =
    let s = shape_of t in
    let none : AreWithin s [] = record { stateless = omega arith; stateful = omega arith } in
    let w = all_within s z before [] (atoms_of x) h none in
    let one = map (λ a. Stateless a) x.stateless in
    let two = map (λ a. Stateful a) x.stateful in
    and_from _ _
    (le-leb (length x.stateless) 300 (narrow_sum (count is_stateless (atoms_of x)) (count is_stateless one) (count is_stateless two) (length x.stateless) s.stateless (count_more is_stateless one two) (ops_counted x.stateless) (no_stateless x.stateful) w.stateless (widths t.geometry).0))
    (le-leb (length x.stateful) 10 (narrow_rest (count is_stateful (atoms_of x)) (count is_stateful one) (count is_stateful two) (length x.stateful) s.stateful (count_more is_stateful one two) (none_counted x.stateless) (atoms_counted x.stateful) w.stateful (widths t.geometry).1))

all_narrow : (t : Target) (z : Sizes) (before stages : List StageForm) → list_all rule_holds (flat_map (stage_rules (shape_of t) z) (standing_after before stages)) ≡ true → list_all is_narrow stages ≡ true
all_narrow t z before [] h = refl
all_narrow t z before (x ∷ stages) h =
    let here = stage_rules (shape_of t) z (record { before = before; item = x }) in
    let more = flat_map (stage_rules (shape_of t) z) (standing_after (before ++ x ∷ []) stages) in
    let both = and_parts (list_all rule_holds here) (list_all rule_holds more) (sym (list_all-append rule_holds here more) ∙ h) in
    and_from _ _ (narrow t z before x both.0) (all_narrow t z (before ++ x ∷ []) stages both.1)

-- the name of a target
template_size : (x : Template) → length (template_text x) ≤ 6
template_size template.Write = omega arith
template_size template.Raw = omega arith
template_size template.Praw = omega arith
template_size template.IfElse = omega arith
template_size template.Sub = omega arith
template_size template.Nested = omega arith
template_size template.Pairs = omega arith

geometry_size : (g : Geometry) → length (geometry_text g) ≤ 6
geometry_size Small = omega arith
geometry_size Medium = omega arith
geometry_size Large = omega arith

target_size : (t : Target) → length (name_of t) ≤ 13
target_size t = sum (length (name_of t)) (length (template_text t.template ++ codes "-")) (length (template_text t.template)) (length (geometry_text t.geometry)) (length-append (template_text t.template ++ codes "-") (geometry_text t.geometry)) (length-append (template_text t.template) (codes "-")) (template_size t.template) (geometry_size t.geometry)
  where
    sum : (all m a g : ℕ) → all ≡ m + g → m ≡ a + 1 → a ≤ 6 → g ≤ 6 → all ≤ 13
    sum all m a g e f h k = omega arith

depths : (g : Geometry) → depth_of g ≤ 32
depths Small = omega arith
depths Medium = omega arith
depths Large = omega arith

-- the whole
record Counts (t : Target) (p : PartsForm) : Type 0 where
  fields : length p.fields ≤ 64
  arrays : length p.arrays ≤ 32
  stages : length p.stages ≤ 32
  narrow : list_all is_narrow p.stages ≡ true

counts_of : (t : Target) (p : PartsForm) → LegalFor (shape_of t) p → Counts t p
counts_of t p legal =
    let s = shape_of t in
    let z = sizes_of p in
    let outs = flat_map (output_rules s z (flat_map stage_targets p.stages)) (standing p.outputs) in
    let behind = at (s.depth + 1) 0 (test kind.BadNumber (nat_eq (length p.outputs) (length p.fields))) ∷ outs in
    let stages = flat_map (stage_rules s z) (standing p.stages) in
    let one = and_parts (head_holds p) _ (all_hold (rules_of s p) legal) in
    let two = and_parts (nat_eq (length p.stages) s.depth) _ one.1 in
    let three = and_parts (list_all rule_holds stages) (list_all rule_holds behind) (sym (list_all-append rule_holds stages behind) ∙ two.1) in
    let heads = and_parts (are_counts_right p) _ one.0 in
    let some = and_parts (nat_le 1 (length p.fields)) _ heads.0 in
    let few = and_parts (nat_le (length p.fields) 64) _ some.1 in
    let few_arrays = and_parts (nat_le (length p.arrays) 32) _ few.1 in
    record {
      fields = leb-true (length p.fields) 64 few.0;
      arrays = leb-true (length p.arrays) 32 few_arrays.0;
      stages = deep (length p.stages) s.depth (eqb-true (length p.stages) s.depth two.0) (depths t.geometry);
      narrow = all_narrow t z [] p.stages three.0;
    }
  where
    deep : (n d : ℕ) → n ≡ d → d ≤ 32 → n ≤ 32
    deep n d e h = omega arith

parts_most : (p : PartsForm) → most (parts_lines p) ≡ most (map field p.fields) + (most (map array p.arrays) + (22 + (most (stages_from 1 p.stages) + (most (map out p.outputs) + 4))))
parts_most p =
    let last = map out p.outputs ++ the_end ∷ [] in
    let behind = containers p.containers ∷ (stages_from 1 p.stages ++ last) in
    most_more (map field p.fields) (map array p.arrays ++ behind)
    ∙ ap (λ n. most (map field p.fields) + n)
    (most_more (map array p.arrays) behind
    ∙ ap (λ n. most (map array p.arrays) + (22 + n))
    (most_more (stages_from 1 p.stages) last ∙ ap (λ n. most (stages_from 1 p.stages) + n) (most_more (map out p.outputs) (the_end ∷ []))))

whole_sum : (text name parts fs xs outs ss nf na ns n sf sa : ℕ) → text ≤ 9 + (8 + name + parts) → name ≤ 13 → parts ≡ fs + (xs + (22 + (ss + (outs + 4))))
    → fs ≡ 7 * nf + sf → xs ≡ 30 * na + sa → ss ≤ 30527 * ns → outs ≡ 17 * n → nf ≤ 64 → na ≤ 32 → ns ≤ 32 → n ≡ nf → sf + sa ≤ 65536 → text < 1048576
whole_sum text name parts fs xs outs ss nf na ns n sf sa ht hn hp hf ha hs hout h1 h2 h3 h4 h5 = omega arith

pub short_text : (t : Target) (p : PartsForm) (text : List ℕ) → LegalFor (shape_of t) p → TextOf t p text → names_size p ≤ 65536 → length text < 1048576
short_text t p text legal is_text names =
    let c = counts_of t p legal in
    let has = is_text.0 in
    let lines = lines_of (for_target t p) in
    let bound = text_short lines has.lines in
    whole_sum (length text) (length (name_of t)) (most (parts_lines p)) (most (map field p.fields)) (most (map array p.arrays)) (most (map out p.outputs)) (most (stages_from 1 p.stages)) (length p.fields) (length p.arrays) (length p.stages) (length p.outputs) (sum_by name_size p.fields) (sum_by array_name_size p.arrays)
    (moved (length text) (length (whole_text (for_target t p))) (most lines) (ap length is_text.1) bound) (target_size t) (parts_most p) (fields_most p.fields) (arrays_most p.arrays) (stages_most 1 p.stages c.narrow) (outs_most p.outputs) c.fields c.arrays c.stages has.outputs names
  where
    moved : (a b m : ℕ) → a ≡ b → b ≤ m → a ≤ m
    moved a b m e h = omega arith

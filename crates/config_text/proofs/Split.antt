-- Words between commas.
use Rattle.std.proofs.Common.{◌≡◌, ◌≢◌, ℕ, zero, suc, ◌-◌, ◌≤◌, ◌<◌, Bool, true, false, not, ◌&&◌, ◌==◌, if◌then◌else◌, nat_lt, nat_le, ◌+◌, Option, Some, None, List, [], ◌∷◌, ◌++◌, length, map, codes, refl, sym, ap, ◌∙◌, arith}
use Rattle.std.specs.Fmt.{decimal}
use Rattle.std.specs.Char.{is_ascii_digit}
use Rattle.std.specs.List.{list_all}
use Rattle.std.proofs.lemmas.List.Folds.{list_all-append}
use Rattle.std.proofs.lemmas.Bool.{and_parts, and_from, eqb-true, ltb-true, lt-ltb, ltb-false, leb-true}
use Rattle.std.proofs.lemmas.Fmt.{digits_decimal}
use Rattle.dom_words.specs.declared.hash.HashName.{HashName}
use Rattle.dom_words.specs.declared.operators.UnOp.{UnOp}
use Rattle.dom_words.specs.declared.operators.UnOp.TheVariants as un
use Rattle.dom_words.specs.declared.operators.BinOp.{BinOp}
use Rattle.dom_words.specs.declared.operators.BinOp.TheVariants as bin
use Rattle.dom_words.specs.Names.{has_name}
use Rattle.dom_words.specs.Spelling.{is_name, is_word, is_word_byte, is_word_start, reserved}
use Rattle.dom_words.specs.Units.{letter_text, unit_text}
use Rattle.atom_traits.specs.declared.operation.StatelessOp.{StatelessOp}
use Rattle.atom_traits.specs.declared.operation.StatelessOp.TheVariants as operation
use Rattle.atom_traits.specs.declared.tree.Leaf.{Leaf}
use Rattle.atom_traits.specs.declared.tree.Leaf.TheVariants as leaf
use Rattle.atom_traits.specs.declared.tree.Port.{Port}
use Rattle.atom_traits.specs.declared.tree.Port.TheVariants as port
use Rattle.atom_traits.specs.declared.tree.Rel.{Rel}
use Rattle.atom_traits.specs.declared.tree.Rel.TheVariants as rel
use Rattle.atom_traits.specs.declared.tree.Source.{Source}
use Rattle.atom_traits.specs.declared.tree.Source.TheVariants as source
use Rattle.atom_traits.specs.Form.{TreeForm, Ends, Asks}
use Rattle.banzai_config.specs.declared.parts.Version.{Version}
use Rattle.banzai_config.specs.declared.parts.Version.TheVariants as version
use Rattle.config_text.specs.Words.{bin_text, container_text, is_small, is_target_byte, is_target_word, leaf_fits, leaf_words, op_fits, op_words, option_fits, option_text, port_fits, port_text, rel_text, source_fits, source_text, tree_fits, tree_words, un_text, version_text, word_text}
use Rattle.config_text.specs.Lines.{Line, head, target, field, array, containers, stage, op, atom, slot, out, the_end, words_of, joined, line_text, line_fits}
use Rattle.config_text.specs.Fronts.{has_no_feed}
use Rattle.config_text.specs.Reading.{all_digits, split, split_by}
use Rattle.config_text.proofs.Decimals.{own}

-- neither a comma nor a line feed
abbrev pub is_plain : ℕ → Bool
is_plain b = nat_lt 10 b && not (b == 44)

abbrev pub plain : List ℕ → Bool
plain w = list_all is_plain w

never_empty : (bytes : List ℕ) → split bytes ≡ [] → ⊥
never_empty [] e = absurd (cc)
never_empty (b ∷ bs) e = from (b == 44) (split bs) e
  where
    from : (t : Bool) (ws : List (List ℕ)) → split_by t b ws ≡ [] → ⊥
    from true ws e = absurd (cc)
    from false [] e = absurd (cc)
    from false (w ∷ ws) e = absurd (cc)

pub joined_split : (bytes : List ℕ) → joined (split bytes) ≡ bytes
joined_split [] = refl
joined_split (b ∷ bs) = from (joined_split bs) (never_empty bs) (b == 44) refl (split bs) refl
  where
    from : joined (split bs) ≡ bs → (split bs ≡ [] → ⊥) → (t : Bool) → (b == 44) ≡ t → (ws : List (List ℕ)) → split bs ≡ ws → joined (split_by t b ws) ≡ b ∷ bs
    from more some t e [] q = absurd (some q)
    from more some true e (w ∷ ws) q = ap (λ k. k ∷ joined (w ∷ ws)) (sym (eqb-true b 44 e)) ∙ ap (λ l. b ∷ joined l) (sym q) ∙ ap (λ l. b ∷ l) more
    from more some false e (w ∷ []) q = ap (λ l. b ∷ l) (ap joined (sym q) ∙ more)
    from more some false e (w ∷ v ∷ ws) q = ap (λ l. b ∷ l) (ap joined (sym q) ∙ more)

plain_comma : (b : ℕ) → is_plain b ≡ true → (b == 44) ≡ false
plain_comma b h = from (b == 44) (and_parts (nat_lt 10 b) (not (b == 44)) h).1
  where
    from : (t : Bool) → not t ≡ true → t ≡ false
    from true e = absurd (cc)
    from false e = refl

split_last : (w : List ℕ) → plain w ≡ true → split w ≡ w ∷ []
split_last [] h = refl
split_last (b ∷ w) h =
    let both = and_parts (is_plain b) (plain w) h in
    ap (λ t. split_by t b (split w)) (plain_comma b both.0) ∙ ap (λ l. split_by false b l) (split_last w both.1)

split_first : (w rest : List ℕ) → plain w ≡ true → split (w ++ 44 ∷ rest) ≡ w ∷ split rest
split_first [] rest h = refl
split_first (b ∷ w) rest h =
    let both = and_parts (is_plain b) (plain w) h in
    ap (λ t. split_by t b (split (w ++ 44 ∷ rest))) (plain_comma b both.0) ∙ ap (λ l. split_by false b l) (split_first w rest both.1)

pub split_joined : (w : List ℕ) (ws : List (List ℕ)) → list_all plain (w ∷ ws) ≡ true → split (joined (w ∷ ws)) ≡ w ∷ ws
split_joined w [] h = split_last w (and_parts (plain w) true h).0
split_joined w (v ∷ ws) h =
    let both = and_parts (plain w) (list_all plain (v ∷ ws)) h in
    split_first w (joined (v ∷ ws)) both.0 ∙ ap (λ l. w ∷ l) (split_joined v ws both.1)

-- digits and letters are plain
all_more : (p q : ℕ → Bool) → ((b : ℕ) → p b ≡ true → q b ≡ true) → (w : List ℕ) → list_all p w ≡ true → list_all q w ≡ true
all_more p q h [] e = refl
all_more p q h (b ∷ w) e = let both = and_parts (p b) (list_all p w) e in and_from _ _ (h b both.0) (all_more p q h w both.1)

plain_from : (b : ℕ) → 10 < b → b ≢ 44 → is_plain b ≡ true
plain_from b h n = and_from _ _ (lt-ltb 10 b h) (from (b == 44) refl)
  where
    from : (t : Bool) → (b == 44) ≡ t → not t ≡ true
    from true e = absurd (n (eqb-true b 44 e))
    from false e = refl

digit_plain : (b : ℕ) → is_ascii_digit b ≡ true → is_plain b ≡ true
digit_plain b h = let low : 48 ≤ b = (grind (arith, h)) in plain_from b (omega arith) (λ e. absurd (omega arith))

digits_plain : (w : List ℕ) → all_digits w ≡ true → plain w ≡ true
digits_plain [] h = refl
digits_plain (b ∷ w) h = let both = and_parts (is_ascii_digit b) (all_digits w) h in and_from _ _ (digit_plain b both.0) (digits_plain w both.1)

decimal_plain : (n : ℕ) → is_small n ≡ true → plain (decimal n) ≡ true
decimal_plain n h = let s = ltb-true n 4294967296 h in digits_plain (decimal n) (digits_decimal own n (omega arith))

word_plain : (n : ℕ) → is_small n ≡ true → plain (word_text n) ≡ true
word_plain n h = from (nat_lt n 2147483648) refl
  where
    from : (t : Bool) → nat_lt n 2147483648 ≡ t → plain (if t then decimal n else 45 ∷ decimal (4294967296 - n)) ≡ true
    from true e = decimal_plain n h
    from false e = let s = ltb-false n 2147483648 e in decimal_plain (4294967296 - n) (lt-ltb _ _ (omega arith))

container_plain : (n : ℕ) → is_small n ≡ true → plain (container_text n) ≡ true
container_plain n h = decimal_plain n h

port_plain : (p : Port) → port_fits p ≡ true → plain (port_text p) ≡ true
port_plain (port.Const n) h = word_plain n h
port_plain (port.Container n) h = container_plain n h

source_plain : (p : Source) → source_fits p ≡ true → plain (source_text p) ≡ true
source_plain (source.Const n) h = word_plain n h
source_plain (source.Container n) h = container_plain n h
source_plain (source.State n) h = let l = ltb-true n 2 h in decimal_plain n (lt-ltb n 4294967296 (omega arith))

option_plain : (o : Option ℕ) → option_fits o ≡ true → plain (option_text o) ≡ true
option_plain None h = refl
option_plain (Some n) h = container_plain n h

un_plain : (o : UnOp) → plain (un_text o) ≡ true
un_plain un.Neg = refl
un_plain un.Inv = refl
un_plain un.Not = refl

bin_plain : (o : BinOp) → plain (bin_text o) ≡ true
bin_plain bin.Mul = refl
bin_plain bin.Div = refl
bin_plain bin.Rem = refl
bin_plain bin.Add = refl
bin_plain bin.Sub = refl
bin_plain bin.Shl = refl
bin_plain bin.Shr = refl
bin_plain bin.Lt = refl
bin_plain bin.Le = refl
bin_plain bin.Gt = refl
bin_plain bin.Ge = refl
bin_plain bin.Eq = refl
bin_plain bin.Ne = refl
bin_plain bin.BitAnd = refl
bin_plain bin.BitXor = refl
bin_plain bin.BitOr = refl
bin_plain bin.And = refl
bin_plain bin.Or = refl

rel_plain : (r : Rel) → plain (rel_text r) ≡ true
rel_plain rel.Lt = refl
rel_plain rel.Eq = refl

version_plain : (v : Version) → plain (version_text v) ≡ true
version_plain version.One = refl
version_plain version.Two = refl

letter_plain : (n : ℕ) → n ≤ 8 → plain (letter_text n) ≡ true
letter_plain zero h = refl
letter_plain (suc n) h = and_from _ _ (plain_from (97 + n) (omega arith) (λ e. absurd (omega arith))) refl

unit_plain : (u : HashName) → plain (unit_text u) ≡ true
unit_plain u =
    let some = u.some_args in
    let few = u.few_args in
    list_all-append is_plain (codes "hash") ((48 + u.args) ∷ letter_text u.letter)
    ∙ and_from _ _ (plain_from (48 + u.args) (omega arith) (λ e. absurd (omega arith))) (letter_plain u.letter u.letter_to_h)

ports_plain : (ps : List Port) → list_all port_fits ps ≡ true → list_all plain (map port_text ps) ≡ true
ports_plain [] h = refl
ports_plain (p ∷ ps) h = let both = and_parts (port_fits p) (list_all port_fits ps) h in and_from _ _ (port_plain p both.0) (ports_plain ps both.1)

word_byte_plain : (b : ℕ) → is_word_byte b ≡ true → is_plain b ≡ true
word_byte_plain b h = let low : 48 ≤ b = (grind (arith, h)) in plain_from b (omega arith) (λ e. absurd (omega arith))

word_start_byte : (b : ℕ) → is_word_start b ≡ true → is_plain b ≡ true
word_start_byte b h = let low : 65 ≤ b = (grind (arith, h)) in plain_from b (omega arith) (λ e. absurd (omega arith))

is_word_plain : (w : List ℕ) → is_word w ≡ true → plain w ≡ true
is_word_plain [] h = absurd (cc)
is_word_plain (b ∷ bs) h =
    let both = and_parts (is_word_start b) (list_all is_word_byte bs) h in
    and_from _ _ (word_start_byte b both.0) (all_more is_word_byte is_plain word_byte_plain bs both.1)

name_plain : (w : List ℕ) → is_name w ≡ true → plain w ≡ true
name_plain w h = is_word_plain w (and_parts (is_word w) (not (has_name reserved w)) h).0

target_byte_plain : (b : ℕ) → is_target_byte b ≡ true → is_plain b ≡ true
target_byte_plain b h = let low : 45 ≤ b = (grind (arith, h)) in plain_from b (omega arith) (λ e. absurd (omega arith))

target_plain : (w : List ℕ) → is_target_word w ≡ true → plain w ≡ true
target_plain [] h = absurd (cc)
target_plain (b ∷ bs) h = all_more is_target_byte is_plain target_byte_plain (b ∷ bs) h

op_plain : (to : ℕ) (o : StatelessOp) → is_small to ≡ true → op_fits o ≡ true → list_all plain (op_words to o) ≡ true
op_plain to (operation.Un o a) t h = and_from _ _ (container_plain to t) (and_from _ _ (un_plain o) (and_from _ _ (port_plain a h) refl))
op_plain to (operation.Bin o a b) t h =
    let both = and_parts (port_fits a) (port_fits b) h in
    and_from _ _ (container_plain to t) (and_from _ _ (bin_plain o) (and_from _ _ (port_plain a both.0) (and_from _ _ (port_plain b both.1) refl)))
op_plain to (operation.Cond c a b) t h =
    let first = and_parts (port_fits c) (port_fits a && port_fits b) h in
    let both = and_parts (port_fits a) (port_fits b) first.1 in
    and_from _ _ (container_plain to t) (and_from _ _ (port_plain c first.0) (and_from _ _ (port_plain a both.0) (and_from _ _ (port_plain b both.1) refl)))
op_plain to (operation.Hash unit modulus args) t h =
    let first = and_parts (nat_le modulus 2147483647) (length args == unit.args && list_all port_fits args) h in
    let both = and_parts (length args == unit.args) (list_all port_fits args) first.1 in
    let most = leb-true modulus 2147483647 first.0 in
    and_from _ _ (container_plain to t) (and_from _ _ (unit_plain unit) (and_from _ _ (decimal_plain modulus (lt-ltb modulus 4294967296 (omega arith))) (ports_plain args both.1)))

leaf_plain : (l : Leaf) → leaf_fits l ≡ true → list_all plain (leaf_words l) ≡ true
leaf_plain leaf.Keep h = refl
leaf_plain (leaf.Put p) h = and_from _ _ (port_plain p h) refl
leaf_plain (leaf.Add p) h = and_from _ _ (port_plain p h) refl
leaf_plain (leaf.Sub p) h = and_from _ _ (port_plain p h) refl

tree_plain : (n : ℕ) (t : TreeForm) → tree_fits n t ≡ true → list_all plain (tree_words t) ≡ true
tree_plain zero (Ends l) h = leaf_plain l h
tree_plain (suc n) (Ends l) h = leaf_plain l h
tree_plain zero (Asks g y z) h = absurd (cc)
tree_plain (suc n) (Asks g y z) h =
    let a = and_parts (source_fits g.left) (source_fits g.right && (tree_fits n y && tree_fits n z)) h in
    let b = and_parts (source_fits g.right) (tree_fits n y && tree_fits n z) a.1 in
    let c = and_parts (tree_fits n y) (tree_fits n z) b.1 in
    and_from _ _ (rel_plain g.rel) (and_from _ _ (source_plain g.left a.0) (and_from _ _ (source_plain g.right b.0) (list_all-append plain (tree_words y) (tree_words z) ∙ and_from _ _ (tree_plain n y c.0) (tree_plain n z c.1))))

-- the words of a line have no comma and no line feed
pub line_plain : (l : Line) → line_fits l ≡ true → list_all plain (words_of l) ≡ true
line_plain (head v) h = and_from _ _ (version_plain v) refl
line_plain (target name) h = and_from _ _ (target_plain name h) refl
line_plain (field name) h = and_from _ _ (name_plain name h) refl
line_plain (array a) h =
    let first = and_parts (is_name a.name) (is_small a.length && is_small a.init) h in
    let both = and_parts (is_small a.length) (is_small a.init) first.1 in
    and_from _ _ (name_plain a.name first.0) (and_from _ _ (decimal_plain a.length both.0) (and_from _ _ (word_plain a.init both.1) refl))
line_plain (containers n) h = and_from _ _ (decimal_plain n h) refl
line_plain (stage n) h = and_from _ _ (decimal_plain n h) refl
line_plain (op a) h = let both = and_parts (is_small a.to) (op_fits a.op) h in op_plain a.to a.op both.0 both.1
line_plain (atom n) h = let both = and_parts (nat_le 1 n) (nat_le n 2) h in and_from _ _ (decimal_plain n (lt-ltb n 4294967296 (let s = leb-true n 2 both.1 in omega arith))) refl
line_plain (slot s t) h =
    let a = and_parts (is_small s.array) (port_fits s.index && (option_fits s.old && (option_fits s.new && tree_fits 2 t))) h in
    let b = and_parts (port_fits s.index) (option_fits s.old && (option_fits s.new && tree_fits 2 t)) a.1 in
    let c = and_parts (option_fits s.old) (option_fits s.new && tree_fits 2 t) b.1 in
    let d = and_parts (option_fits s.new) (tree_fits 2 t) c.1 in
    and_from _ _ (decimal_plain s.array a.0) (and_from _ _ (port_plain s.index b.0) (and_from _ _ (option_plain s.old c.0) (and_from _ _ (option_plain s.new d.0) (tree_plain 2 t d.1))))
line_plain (out p) h = and_from _ _ (port_plain p h) refl
line_plain the_end h = refl

-- a line has no line feed
plain_feed : (w : List ℕ) → plain w ≡ true → has_no_feed w ≡ true
plain_feed w h = all_more is_plain (λ b. not (b == 10)) one w h
  where
    one : (b : ℕ) → is_plain b ≡ true → not (b == 10) ≡ true
    one b h = from (b == 10) refl
      where
        from : (t : Bool) → (b == 10) ≡ t → not t ≡ true
        from true e = absurd (let s = ltb-true 10 b (and_parts (nat_lt 10 b) (not (b == 44)) h).0 in let q = eqb-true b 10 e in omega arith)
        from false e = refl

joined_feed : (ws : List (List ℕ)) → list_all plain ws ≡ true → has_no_feed (joined ws) ≡ true
joined_feed [] h = refl
joined_feed (w ∷ []) h = plain_feed w (and_parts (plain w) true h).0
joined_feed (w ∷ v ∷ ws) h =
    let both = and_parts (plain w) (list_all plain (v ∷ ws)) h in
    list_all-append (λ b. not (b == 10)) w (44 ∷ joined (v ∷ ws)) ∙ and_from _ _ (plain_feed w both.0) (joined_feed (v ∷ ws) both.1)

pub line_feed_free : (l : Line) → line_fits l ≡ true → has_no_feed (line_text l) ≡ true
line_feed_free l h = joined_feed (words_of l) (line_plain l h)

-- Counts, words and ports, and their texts.
use Rattle.std.proofs.Common.{◌≡◌, ℕ, zero, suc, ◌-◌, ◌≤◌, ◌<◌, ◌^◌, Bool, true, false, not, ◌&&◌, ◌||◌, ◌==◌, if◌then◌else◌, nat_lt, nat_le, List, [], ◌∷◌, length, get_or, Option, Some, None, refl, sym, ap, ◌∙◌, arith, rules, ◌⊎◌, inl, inr, codes}
use Rattle.std.specs.Fmt.{decimal}
use Rattle.std.specs.Char.{is_ascii_digit}
use Rattle.std.proofs.lemmas.Str.Parse.{IsNumeralModel, numerals_by_fold}
use Rattle.std.proofs.lemmas.Fmt.{decimal_nonempty, first_decimal, digits_decimal, digits_value-decimal, decimal-digits_value, decimal_digit}
use Rattle.std.proofs.lemmas.Bool.{and_parts, and_from, eqb-true, eq-eqb, ltb-true, lt-ltb, le-ltb, ltb-false, leb-true, le-leb, cases_lt}
use Rattle.atom_traits.specs.declared.tree.Port.{Port}
use Rattle.atom_traits.specs.declared.tree.Port.TheVariants as port
use Rattle.atom_traits.specs.declared.tree.Source.{Source}
use Rattle.atom_traits.specs.declared.tree.Source.TheVariants as source
use Rattle.std.specs.Cmp.Lexicographic.{same_text}
use Rattle.dom_words.specs.Names.{is_same}
use Rattle.config_text.specs.Words.{word_text, container_text, port_text, port_fits, source_text, source_fits, option_text, option_fits, is_small}
use Rattle.config_text.specs.Reading.{all_digits, value_after, is_nil, is_count, small_value, count_from, minus_word, plus_word, word_from, on, container_from, port_from, state_from, source_from, option_from}

pub own : IsNumeralModel (λ ds. all_digits ds ≡ true) (value_after 0)
own = numerals_by_fold (λ ds. all_digits ds ≡ true) (search rules) value_after (search rules)

-- no leading zero
abbrev NoZero : List ℕ → Type 0
NoZero ds = get_or ds 0 0 ≡ 48 → length ds ≡ 1

zero_by : (d : ℕ) (ds : List ℕ) → (not (d == 48) || is_nil ds) ≡ true → NoZero (d ∷ ds)
zero_by d [] h e = refl
zero_by d (c ∷ ds) h e = absurd (let t = eq-eqb d 48 e in let g = rw t at h in cc)

by_zero : (d : ℕ) (ds : List ℕ) → NoZero (d ∷ ds) → (not (d == 48) || is_nil ds) ≡ true
by_zero d [] h = or_true (not (d == 48))
  where
    or_true : (b : Bool) → (b || true) ≡ true
    or_true true = refl
    or_true false = refl
by_zero d (c ∷ ds) h = from (d == 48) refl
  where
    from : (t : Bool) → (d == 48) ≡ t → (not t || false) ≡ true
    from true e = absurd (let l = h (eqb-true d 48 e) in omega arith)
    from false e = refl

zero_of : (n : ℕ) → n < 2 ^ 64 → NoZero (decimal n)
zero_of n h e = from (cases_lt 0 n)
  where
    from : (0 < n) ⊎ (n ≤ 0) → length (decimal n) ≡ 1
    from (inl p) = absurd (let f = first_decimal n p h in omega arith)
    from (inr z) = let q : n ≡ 0 = omega arith in ap (λ m. length (decimal m)) q ∙ ap length (decimal_digit 0 (omega arith))

is_count_of : (t : List ℕ) → 0 < length t → all_digits t ≡ true → NoZero t → is_count t ≡ true
is_count_of [] l d z = absurd (omega arith)
is_count_of (c ∷ cs) l d z = and_from _ _ d (by_zero c cs z)

pub count_back : (n : ℕ) → is_small n ≡ true → count_from (decimal n) ≡ Some n
count_back n h =
    let s = ltb-true n 4294967296 h in
    let c = is_count_of (decimal n) (decimal_nonempty n (omega arith)) (digits_decimal own n (omega arith)) (zero_of n (omega arith)) in
    ap (λ b. small_value b (value_after 0 (decimal n))) c ∙ ap (λ m. small_value true m) (digits_value-decimal own n (omega arith)) ∙ ap (λ (b : Bool). if b then Some n else None) h

pub count_says : (t : List ℕ) (n : ℕ) → count_from t ≡ Some n → (decimal n ≡ t) × (is_small n ≡ true)
count_says t n e = by_count (is_count t) refl e
  where
    by_small : is_count t ≡ true → (b : Bool) → is_small (value_after 0 t) ≡ b → (if b then Some (value_after 0 t) else None) ≡ Some n → (decimal n ≡ t) × (is_small n ≡ true)
    by_small c true s e =
        let q : value_after 0 t ≡ n = cc in
        let p = parts t c in
        (ap decimal (sym q) ∙ decimal-digits_value own t p.0 p.1 p.2 (let l = ltb-true (value_after 0 t) 4294967296 s in omega arith), ap is_small (sym q) ∙ s)
      where
        parts : (t : List ℕ) → is_count t ≡ true → (all_digits t ≡ true) × (0 < length t) × NoZero t
        parts [] c = absurd (cc)
        parts (d ∷ ds) c = let both = and_parts _ _ c in (both.0, omega arith, zero_by d ds both.1)
    by_small c false s e = absurd (cc)

    by_count : (b : Bool) → is_count t ≡ b → small_value b (value_after 0 t) ≡ Some n → (decimal n ≡ t) × (is_small n ≡ true)
    by_count true c e = by_small c (is_small (value_after 0 t)) refl e
    by_count false c e = absurd (cc)

-- words
first_digit : (t : List ℕ) → all_digits t ≡ true → 0 < length t → (b : ℕ) → is_ascii_digit b ≡ false → (get_or t 0 0 == b) ≡ false
first_digit [] d l b h = absurd (omega arith)
first_digit (c ∷ cs) d l b h = from (c == b) refl
  where
    from : (t : Bool) → (c == b) ≡ t → t ≡ false
    from true e = absurd (let q = eqb-true c b e in let p = (and_parts _ _ d).0 in let r : is_ascii_digit b ≡ true = ap is_ascii_digit (sym q) ∙ p in cc)
    from false e = refl

plus_from : (t : List ℕ) → 0 < length t → (get_or t 0 0 == 45) ≡ false → word_from t ≡ plus_word (count_from t)
plus_from [] l h = absurd (omega arith)
plus_from (b ∷ bs) l h = rw h refl

pub word_back : (n : ℕ) → is_small n ≡ true → word_from (word_text n) ≡ Some n
word_back n h = from (nat_lt n 2147483648) refl
  where
    from : (t : Bool) → nat_lt n 2147483648 ≡ t → word_from (if t then decimal n else 45 ∷ decimal (4294967296 - n)) ≡ Some n
    from true e =
        let s = ltb-true n 2147483648 e in
        plus_from (decimal n) (decimal_nonempty n (omega arith)) (first_digit (decimal n) (digits_decimal own n (omega arith)) (decimal_nonempty n (omega arith)) 45 refl)
        ∙ ap plus_word (count_back n h) ∙ ap (λ (b : Bool). if b then Some n else None) e
    from false e =
        let s = ltb-false n 2147483648 e in
        let m = ltb-true n 4294967296 h in
        ap minus_word (count_back (4294967296 - n) (lt-ltb _ _ (omega arith)))
        ∙ ap (λ (b : Bool). if b then Some (4294967296 - (4294967296 - n)) else None) (and_from _ _ (le-leb 1 (4294967296 - n) (omega arith)) (le-leb (4294967296 - n) 2147483648 (omega arith)))
        ∙ ap Some (omega arith)

pub word_says : (t : List ℕ) (n : ℕ) → word_from t ≡ Some n → (word_text n ≡ t) × (is_small n ≡ true)
word_says [] n e = absurd (cc)
word_says (b ∷ bs) n e = by_sign (b == 45) refl e
  where
    minus : (o : Option ℕ) → count_from bs ≡ o → b ≡ 45 → minus_word o ≡ Some n → (word_text n ≡ b ∷ bs) × (is_small n ≡ true)
    minus None c s e = absurd (cc)
    minus (Some m) c s e = by_range (nat_le 1 m && nat_le m 2147483648) refl e
      where
        by_range : (t : Bool) → (nat_le 1 m && nat_le m 2147483648) ≡ t → (if t then Some (4294967296 - m) else None) ≡ Some n → (word_text n ≡ b ∷ bs) × (is_small n ≡ true)
        by_range true r e =
            let q : 4294967296 - m ≡ n = cc in
            let both = and_parts (nat_le 1 m) (nat_le m 2147483648) r in
            let low = leb-true 1 m both.0 in
            let high = leb-true m 2147483648 both.1 in
            let back : 4294967296 - n ≡ m = omega arith in
            (ap (λ (t : Bool). if t then decimal n else 45 ∷ decimal (4294967296 - n)) (le-ltb n 2147483648 (omega arith)) ∙ ap (λ k. 45 ∷ decimal k) back ∙ ap (λ l. 45 ∷ l) (count_says bs m c).0 ∙ ap (λ k. k ∷ bs) (sym s), lt-ltb n 4294967296 (omega arith))
        by_range false r e = absurd (cc)

    plus : (o : Option ℕ) → count_from (b ∷ bs) ≡ o → plus_word o ≡ Some n → (word_text n ≡ b ∷ bs) × (is_small n ≡ true)
    plus None c e = absurd (cc)
    plus (Some m) c e = by_range (nat_lt m 2147483648) refl e
      where
        by_range : (t : Bool) → nat_lt m 2147483648 ≡ t → (if t then Some m else None) ≡ Some n → (word_text n ≡ b ∷ bs) × (is_small n ≡ true)
        by_range true r e =
            let q : m ≡ n = cc in
            let s = count_says (b ∷ bs) m c in
            (ap word_text (sym q) ∙ ap (λ (t : Bool). if t then decimal m else 45 ∷ decimal (4294967296 - m)) r ∙ s.0, ap is_small (sym q) ∙ s.1)
        by_range false r e = absurd (cc)

    by_sign : (t : Bool) → (b == 45) ≡ t → (if t then minus_word (count_from bs) else plus_word (count_from (b ∷ bs))) ≡ Some n → (word_text n ≡ b ∷ bs) × (is_small n ≡ true)
    by_sign true s e = minus (count_from bs) refl (eqb-true b 45 s) e
    by_sign false s e = plus (count_from (b ∷ bs)) refl e

pub same_is : (v w : List ℕ) → is_same v w ≡ true → v ≡ w
same_is v w h = same_text v w (sym h)

-- containers and ports
container_says_by : (b : ℕ) (bs : List ℕ) (n : ℕ) → b ≡ 99 → count_from bs ≡ Some n → (container_text n ≡ b ∷ bs) × (is_small n ≡ true)
container_says_by b bs n m c = let s = count_says bs n c in (ap (λ l. 99 ∷ l) s.0 ∙ ap (λ k. k ∷ bs) (sym m), s.1)

const_says_by : (b : ℕ) (bs : List ℕ) (n : ℕ) → b ≡ 35 → word_from bs ≡ Some n → (35 ∷ word_text n ≡ b ∷ bs) × (is_small n ≡ true)
const_says_by b bs n m c = let s = word_says bs n c in (ap (λ l. 35 ∷ l) s.0 ∙ ap (λ k. k ∷ bs) (sym m), s.1)

pub container_back : (n : ℕ) → is_small n ≡ true → container_from (container_text n) ≡ Some n
container_back n h = count_back n h

pub container_says : (w : List ℕ) (n : ℕ) → container_from w ≡ Some n → (container_text n ≡ w) × (is_small n ≡ true)
container_says [] n e = absurd (cc)
container_says (b ∷ bs) n e = from (b == 99) refl e
  where
    from : (t : Bool) → (b == 99) ≡ t → (if t then count_from bs else None) ≡ Some n → (container_text n ≡ b ∷ bs) × (is_small n ≡ true)
    from true q e = container_says_by b bs n (eqb-true b 99 q) e
    from false q e = absurd (cc)

pub port_back : (p : Port) → port_fits p ≡ true → port_from (port_text p) ≡ Some p
port_back (port.Const n) h = ap (λ o. on o (λ n. Some (port.Const n))) (word_back n h)
port_back (port.Container n) h = ap (λ o. on o (λ n. Some (port.Container n))) (count_back n h)

pub port_says : (t : List ℕ) (p : Port) → port_from t ≡ Some p → (port_text p ≡ t) × (port_fits p ≡ true)
port_says [] p e = absurd (cc)
port_says (b ∷ bs) p e = by_mark (b == 35) refl (b == 99) refl e
  where
    const : b ≡ 35 → (o : Option ℕ) → word_from bs ≡ o → on o (λ n. Some (port.Const n)) ≡ Some p → (port_text p ≡ b ∷ bs) × (port_fits p ≡ true)
    const m None c e = absurd (cc)
    const m (Some n) c e =
        let q : port.Const n ≡ p = cc in
        let s = const_says_by b bs n m c in
        (ap port_text (sym q) ∙ s.0, ap port_fits (sym q) ∙ s.1)

    container : b ≡ 99 → (o : Option ℕ) → count_from bs ≡ o → on o (λ n. Some (port.Container n)) ≡ Some p → (port_text p ≡ b ∷ bs) × (port_fits p ≡ true)
    container m None c e = absurd (cc)
    container m (Some n) c e =
        let q : port.Container n ≡ p = cc in
        let s = container_says_by b bs n m c in
        (ap port_text (sym q) ∙ s.0, ap port_fits (sym q) ∙ s.1)

    by_mark : (t : Bool) → (b == 35) ≡ t → (u : Bool) → (b == 99) ≡ u → (if t then on (word_from bs) (λ n. Some (port.Const n)) else (if u then on (count_from bs) (λ n. Some (port.Container n)) else None)) ≡ Some p → (port_text p ≡ b ∷ bs) × (port_fits p ≡ true)
    by_mark true m u v e = const (eqb-true b 35 m) (word_from bs) refl e
    by_mark false m true v e = container (eqb-true b 99 v) (count_from bs) refl e
    by_mark false m false v e = absurd (cc)

-- sources
state_back : (n : ℕ) → nat_lt n 2 ≡ true → state_from (decimal n) ≡ Some (source.State n)
state_back zero h = ap state_from (decimal_digit 0 (omega arith))
state_back (suc zero) h = ap state_from (decimal_digit 1 (omega arith))
state_back (suc (suc n)) h = absurd (let l = ltb-true (suc (suc n)) 2 h in omega arith)

pub source_back : (p : Source) → source_fits p ≡ true → source_from (source_text p) ≡ Some p
source_back (source.Const n) h = ap (λ o. on o (λ n. Some (source.Const n))) (word_back n h)
source_back (source.Container n) h = ap (λ o. on o (λ n. Some (source.Container n))) (count_back n h)
source_back (source.State n) h = state_back n h

state_says : (w : List ℕ) (p : Source) → state_from w ≡ Some p → (source_text p ≡ 115 ∷ w) × (source_fits p ≡ true)
state_says w p e = from (is_same w (codes "0")) refl (is_same w (codes "1")) refl e
  where
    from : (a : Bool) → is_same w (codes "0") ≡ a → (b : Bool) → is_same w (codes "1") ≡ b → (if a then Some (source.State 0) else (if b then Some (source.State 1) else None)) ≡ Some p → (source_text p ≡ 115 ∷ w) × (source_fits p ≡ true)
    from true q b r e = let s : source.State 0 ≡ p = cc in (ap source_text (sym s) ∙ ap (λ l. 115 ∷ l) (decimal_digit 0 (omega arith)) ∙ ap (λ l. 115 ∷ l) (sym (same_is w (codes "0") q)), ap source_fits (sym s))
    from false q true r e = let s : source.State 1 ≡ p = cc in (ap source_text (sym s) ∙ ap (λ l. 115 ∷ l) (decimal_digit 1 (omega arith)) ∙ ap (λ l. 115 ∷ l) (sym (same_is w (codes "1") r)), ap source_fits (sym s))
    from false q false r e = absurd (cc)

pub source_says : (t : List ℕ) (p : Source) → source_from t ≡ Some p → (source_text p ≡ t) × (source_fits p ≡ true)
source_says [] p e = absurd (cc)
source_says (b ∷ bs) p e = by_mark (b == 35) refl (b == 99) refl (b == 115) refl e
  where
    const : b ≡ 35 → (o : Option ℕ) → word_from bs ≡ o → on o (λ n. Some (source.Const n)) ≡ Some p → (source_text p ≡ b ∷ bs) × (source_fits p ≡ true)
    const m None c e = absurd (cc)
    const m (Some n) c e =
        let q : source.Const n ≡ p = cc in
        let s = const_says_by b bs n m c in
        (ap source_text (sym q) ∙ s.0, ap source_fits (sym q) ∙ s.1)

    container : b ≡ 99 → (o : Option ℕ) → count_from bs ≡ o → on o (λ n. Some (source.Container n)) ≡ Some p → (source_text p ≡ b ∷ bs) × (source_fits p ≡ true)
    container m None c e = absurd (cc)
    container m (Some n) c e =
        let q : source.Container n ≡ p = cc in
        let s = container_says_by b bs n m c in
        (ap source_text (sym q) ∙ s.0, ap source_fits (sym q) ∙ s.1)

    by_mark : (t : Bool) → (b == 35) ≡ t → (u : Bool) → (b == 99) ≡ u → (x : Bool) → (b == 115) ≡ x
        → (if t then on (word_from bs) (λ n. Some (source.Const n)) else (if u then on (count_from bs) (λ n. Some (source.Container n)) else (if x then state_from bs else None))) ≡ Some p → (source_text p ≡ b ∷ bs) × (source_fits p ≡ true)
    by_mark true m u v x y e = const (eqb-true b 35 m) (word_from bs) refl e
    by_mark false m true v x y e = container (eqb-true b 99 v) (count_from bs) refl e
    by_mark false m false v true y e = let s = state_says bs p e in (s.0 ∙ ap (λ k. k ∷ bs) (sym (eqb-true b 115 y)), s.1)
    by_mark false m false v false y e = absurd (cc)

-- containers that may be missing
pub option_back : (o : Option ℕ) → option_fits o ≡ true → option_from (option_text o) ≡ Some o
option_back None h = refl
option_back (Some n) h = ap (λ o. on o (λ n. Some (Some n))) (count_back n h)

pub option_says : (w : List ℕ) (o : Option ℕ) → option_from w ≡ Some o → (option_text o ≡ w) × (option_fits o ≡ true)
option_says w o e = from (is_same w (codes "-")) refl e
  where
    by_container : (c : Option ℕ) → container_from w ≡ c → on c (λ n. Some (Some n)) ≡ Some o → (option_text o ≡ w) × (option_fits o ≡ true)
    by_container None c e = absurd (cc)
    by_container (Some n) c e =
        let q : Some n ≡ o = cc in
        let s = container_says w n c in
        (ap option_text (sym q) ∙ s.0, ap option_fits (sym q) ∙ s.1)

    from : (t : Bool) → is_same w (codes "-") ≡ t → (if t then Some None else on (container_from w) (λ n. Some (Some n))) ≡ Some o → (option_text o ≡ w) × (option_fits o ≡ true)
    from true q e = let s : None ≡ o = cc in (ap option_text (sym s) ∙ sym (same_is w (codes "-") q), ap option_fits (sym s))
    from false q e = by_container (container_from w) refl e

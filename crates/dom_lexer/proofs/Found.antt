-- What stands first.
use Rattle.std.proofs.Common.{◌≡◌, ℕ, zero, suc, ◌+◌, ◌≤◌, ◌<◌, inl, inr, Bool, true, false, ◌&&◌, ◌||◌, ◌==◌, if◌then◌else◌, List, [], ◌∷◌, ◌++◌, length, take, drop, Option, Some, None, refl, sym, ap, subst, ◌∙◌, arith, nat_le, append_assoc, length-append}
use Rattle.std.proofs.Math.Seq.{take-append_seam, drop-append_seam}
use Rattle.dom_lexer.proofs.Blocks.{starts_split, starts_front, close_found, close_none}
use Rattle.std.specs.List.{prefix_len, list_all}
use Rattle.std.specs.Char.{is_ascii_digit, is_ascii_hexdigit}
use Rattle.std.proofs.lemmas.List.Folds.{length-prefix_len}
use Rattle.std.proofs.lemmas.Bool.{and_parts, and_from, leb-true, leb-false}
use Rattle.dom_lexer.specs.Bytes.{is_space, is_number, is_decimal, is_hex, is_x, number_value}
use Rattle.dom_words.specs.Spelling.{is_word_start, is_word_byte}
use Rattle.dom_lexer.specs.Text.{space, line, block, spelling, IsLongest, IsWord, IsNumber, IsSymbol, starts, first_is, close_mark, open_mark, line_mark, is_no_feed, BeginsNumber, greatest_number}
use Rattle.dom_lexer.specs.inner.Next.{class_by, class_of, hex_starts, hex_by, hex_len, number_len, number_form, form_by, up_to, close_len, block_next, symbol_of, symbol_next, mark_by, mark_next, next_by, next_of}
use Rattle.dom_lexer.specs.inner.Reads.{IsForm, IsNext}
use Rattle.dom_lexer.specs.declared.token.Sym.{Sym}
use Rattle.dom_lexer.specs.declared.next.Class.{Class}
use Rattle.dom_lexer.specs.declared.next.Class.TheVariants.{Blank, Letter, Digit, Other}
use Rattle.dom_lexer.specs.declared.next.Next.{Next}
use Rattle.dom_lexer.specs.declared.next.Next.TheVariants.{Gap, Start}
use Rattle.dom_lexer.specs.declared.next.Form.TheVariants.{Letters, Symbol}
use Rattle.dom_lexer.proofs.Symbols.{symbol_there, symbol_longest, symbol_absent, symbol_some}
use Rattle.dom_lexer.proofs.Runs.{suc_of, run_passes, run_stops, run_longest}

-- classes
class_space : (s w d : Bool) → class_by s w d ≡ Blank → s ≡ true
class_space true w d e = refl
class_space false true d e = absurd (cc)
class_space false false true e = absurd (cc)
class_space false false false e = absurd (cc)

class_letter : (s w d : Bool) → class_by s w d ≡ Letter → w ≡ true
class_letter true w d e = absurd (cc)
class_letter false true d e = refl
class_letter false false true e = absurd (cc)
class_letter false false false e = absurd (cc)

class_digit : (s w d : Bool) → class_by s w d ≡ Digit → d ≡ true
class_digit true w d e = absurd (cc)
class_digit false true d e = absurd (cc)
class_digit false false true e = refl
class_digit false false false e = absurd (cc)

class_mark : (s w d : Bool) → class_by s w d ≡ Other → (s ≡ false) × ((w ≡ false) × (d ≡ false))
class_mark true w d e = absurd (cc)
class_mark false true d e = absurd (cc)
class_mark false false true e = absurd (cc)
class_mark false false false e = (refl, (refl, refl))

pub split : {X : Type 0} (n : ℕ) (xs : List X) → xs ≡ take n xs ++ drop n xs
split zero xs = refl
split (suc n) [] = refl
split (suc n) (x ∷ xs) = ap (λ l. x ∷ l) (split n xs)

-- lists
heads : {X : Type 0} {x y : X} {xs ys : List X} → x ∷ xs ≡ y ∷ ys → x ≡ y
heads e = cc

tails : {X : Type 0} {x y : X} {xs ys : List X} → x ∷ xs ≡ y ∷ ys → xs ≡ ys
tails e = cc

-- a run p of w
run_most : (p : ℕ → Bool) (v rest bs : List ℕ) → v ++ rest ≡ bs → list_all p v ≡ true → length v ≤ prefix_len p bs
run_most p v rest bs e h = subst (λ (l : List ℕ). length v ≤ prefix_len p l) e (run_longest p v rest h)

-- words
pub word_longest : (b : ℕ) (bs : List ℕ) → is_word_start b ≡ true → IsLongest IsWord (b ∷ take (prefix_len is_word_byte bs) bs) (drop (prefix_len is_word_byte bs) bs)
word_longest b bs h = (and_from _ _ h (run_passes is_word_byte bs), longest)
  where
    longest : (v rest : List ℕ) → v ++ rest ≡ b ∷ (take (prefix_len is_word_byte bs) bs ++ drop (prefix_len is_word_byte bs) bs) → IsWord v → length v ≤ suc (length (take (prefix_len is_word_byte bs) bs))
    longest [] rest e w = omega arith
    longest (c ∷ v) rest e w =
        let all = and_parts (is_word_start c) (list_all is_word_byte v) w in
        let m = run_most is_word_byte v rest bs (tails e ∙ sym (split (prefix_len is_word_byte bs) bs)) all.1 in
        rw (length-prefix_len is_word_byte bs) (omega arith)

word_next : (b : ℕ) (bs : List ℕ) → is_word_start b ≡ true → IsNext (b ∷ bs) (Start (Letters (1 + prefix_len is_word_byte bs)))
word_next b bs h = (
  inl h,
  (
    b ∷ take (prefix_len is_word_byte bs) bs,
    record {
      some = omega arith;
      after = drop (prefix_len is_word_byte bs) bs;
      whole = ap (λ l. b ∷ l) (split (prefix_len is_word_byte bs) bs);
      size = ap suc (length-prefix_len is_word_byte bs) ∙ sym (suc_of (prefix_len is_word_byte bs));
      stands = (word_longest b bs h, refl);
    },
  ),
)

-- numbers
second_of : (a b c : Bool) → c ≡ false → ((a && b) || c) ≡ true → b ≡ true
second_of true true c z e = refl
second_of true false c z e = absurd (cc)
second_of false b c z e = absurd (cc)

no_hex : (c : ℕ) (v : List ℕ) → (c == 48) ≡ false → is_hex (c ∷ v) ≡ false
no_hex c [] z = refl
no_hex c (x ∷ []) z = refl
no_hex c (x ∷ d ∷ ds) z = rw z refl

decimal_by : (c : ℕ) (v : List ℕ) → (c == 48) ≡ false → is_decimal (c ∷ v) ≡ (is_ascii_digit c && list_all is_ascii_digit v)
decimal_by c v z = rw z refl

decimal_digits : (c : ℕ) (v : List ℕ) → (c == 48) ≡ false → is_number (c ∷ v) ≡ true → list_all is_ascii_digit v ≡ true
decimal_digits c v z w = second_of (is_ascii_digit c) (list_all is_ascii_digit v) (is_hex (c ∷ v)) (no_hex c v z) (ap (λ t. t || is_hex (c ∷ v)) (sym (decimal_by c v z)) ∙ w)

decimal_is : (b : ℕ) (v : List ℕ) → is_ascii_digit b ≡ true → (b == 48) ≡ false → list_all is_ascii_digit v ≡ true → is_number (b ∷ v) ≡ true
decimal_is b v h z e = ap (λ t. t || is_hex (b ∷ v)) (decimal_by b v z ∙ and_from _ _ h e)

pub decimal_longest : (b : ℕ) (bs : List ℕ) → is_ascii_digit b ≡ true → (b == 48) ≡ false → IsLongest IsNumber (b ∷ take (prefix_len is_ascii_digit bs) bs) (drop (prefix_len is_ascii_digit bs) bs)
decimal_longest b bs h z = (decimal_is b _ h z (run_passes is_ascii_digit bs), longest)
  where
    longest : (v rest : List ℕ) → v ++ rest ≡ b ∷ (take (prefix_len is_ascii_digit bs) bs ++ drop (prefix_len is_ascii_digit bs) bs) → IsNumber v → length v ≤ suc (length (take (prefix_len is_ascii_digit bs) bs))
    longest [] rest e w = omega arith
    longest (c ∷ v) rest e w =
        let d = decimal_digits c v (ap (λ n. n == 48) (heads e) ∙ z) w in
        let m = run_most is_ascii_digit v rest bs (tails e ∙ sym (split (prefix_len is_ascii_digit bs) bs)) d in
        rw (length-prefix_len is_ascii_digit bs) (omega arith)

hex_is : (b x d : ℕ) (v : List ℕ) → (b == 48) ≡ true → is_x x ≡ true → is_ascii_hexdigit d ≡ true → list_all is_ascii_hexdigit v ≡ true → is_number (b ∷ x ∷ d ∷ v) ≡ true
hex_is b x d v z hx hd hv = rw z (and_from _ _ hx (and_from _ _ hd hv))

hex_digits : (c x d : ℕ) (v : List ℕ) → (c == 48) ≡ true → is_number (c ∷ x ∷ d ∷ v) ≡ true → list_all is_ascii_hexdigit v ≡ true
hex_digits c x d v z w =
    let h = rw z at w in
    (and_parts (is_ascii_hexdigit d) _ (and_parts (is_x x) _ h).1).1

pub hex_longest : (b x d : ℕ) (ds : List ℕ) → (b == 48) ≡ true → is_x x ≡ true → is_ascii_hexdigit d ≡ true → IsLongest IsNumber (b ∷ x ∷ d ∷ take (prefix_len is_ascii_hexdigit ds) ds) (drop (prefix_len is_ascii_hexdigit ds) ds)
hex_longest b x d ds z hx hd = (hex_is b x d (take (prefix_len is_ascii_hexdigit ds) ds) z hx hd (run_passes is_ascii_hexdigit ds), longest)
  where
    longest : (v rest : List ℕ) → v ++ rest ≡ b ∷ x ∷ d ∷ (take (prefix_len is_ascii_hexdigit ds) ds ++ drop (prefix_len is_ascii_hexdigit ds) ds) → IsNumber v → length v ≤ suc (suc (suc (length (take (prefix_len is_ascii_hexdigit ds) ds))))
    longest [] rest e w = omega arith
    longest (c ∷ []) rest e w = omega arith
    longest (c ∷ y ∷ []) rest e w = omega arith
    longest (c ∷ y ∷ f ∷ v) rest e w =
        let all = hex_digits c y f v (ap (λ n. n == 48) (heads e) ∙ z) w in
        let m = run_most is_ascii_hexdigit v rest ds (tails (tails (tails e)) ∙ sym (split (prefix_len is_ascii_hexdigit ds) ds)) all in
        rw (length-prefix_len is_ascii_hexdigit ds) (omega arith)

zero_most : (c : ℕ) (v rest : List ℕ) → (c == 48) ≡ true → hex_starts (v ++ rest) ≡ false → is_number (c ∷ v) ≡ true → length v ≡ 0
zero_most c [] rest z h w = refl
zero_most c (x ∷ []) rest z h w = let f = rw z at w in absurd (cc)
zero_most c (x ∷ d ∷ ds) rest z h w =
    let f = rw z at w in
    let both = and_parts (is_x x) _ f in
    let t = and_from _ _ both.0 (and_parts (is_ascii_hexdigit d) _ both.1).0 in
    absurd (cc)

pub zero_longest : (b : ℕ) (bs : List ℕ) → (b == 48) ≡ true → hex_starts bs ≡ false → IsLongest IsNumber (b ∷ []) bs
zero_longest b bs z h = (rw z refl, longest)
  where
    longest : (v rest : List ℕ) → v ++ rest ≡ b ∷ bs → IsNumber v → length v ≤ 1
    longest [] rest e w = omega arith
    longest (c ∷ v) rest e w = let l = zero_most c v rest (ap (λ n. n == 48) (heads e) ∙ z) (ap hex_starts (tails e) ∙ h) w in omega arith

-- the longest number, and its length
record LongNumber (text : List ℕ) (n : ℕ) : Type 0 where
  w : List ℕ
  after : List ℕ
  begins : BeginsNumber text w after
  size : length w ≡ n

long_number : (b : ℕ) (bs : List ℕ) → is_ascii_digit b ≡ true → LongNumber (b ∷ bs) (number_len (b ∷ bs))
long_number b bs h = by_zero (b == 48) refl
  where
    by_hex : (b == 48) ≡ true → (bs : List ℕ) (t : Bool) → hex_starts bs ≡ t → LongNumber (b ∷ bs) (hex_by t bs)
    by_hex z [] true e = absurd (cc)
    by_hex z (x ∷ []) true e = absurd (let f = (and_parts (is_x x) false e).1 in cc)
    by_hex z (x ∷ d ∷ ds) true e =
        let both = and_parts (is_x x) (is_ascii_hexdigit d) e in
        record {
          w = b ∷ x ∷ d ∷ take (prefix_len is_ascii_hexdigit ds) ds;
          after = drop (prefix_len is_ascii_hexdigit ds) ds;
          begins = record { whole = ap (λ l. b ∷ x ∷ d ∷ l) (split (prefix_len is_ascii_hexdigit ds) ds); longest = hex_longest b x d ds z both.0 both.1 };
          size = rw both.1 (rw (length-prefix_len is_ascii_hexdigit ds) (omega arith));
        }
    by_hex z bs false e = record { w = b ∷ []; after = bs; begins = record { whole = refl; longest = zero_longest b bs z e }; size = refl }

    by_zero : (t : Bool) → (b == 48) ≡ t → LongNumber (b ∷ bs) (if t then hex_len bs else (1 + prefix_len is_ascii_digit bs))
    by_zero true z = by_hex z bs (hex_starts bs) refl
    by_zero false z = record {
      w = b ∷ take (prefix_len is_ascii_digit bs) bs;
      after = drop (prefix_len is_ascii_digit bs) bs;
      begins = record { whole = ap (λ l. b ∷ l) (split (prefix_len is_ascii_digit bs) bs); longest = decimal_longest b bs h z };
      size = ap suc (length-prefix_len is_ascii_digit bs) ∙ sym (suc_of (prefix_len is_ascii_digit bs));
    }

number_after : (text : List ℕ) (n : ℕ) (w after : List ℕ) → 1 ≤ n → BeginsNumber text w after → length w ≡ n → IsForm text (form_by (up_to greatest_number (number_value w)) n (first_is is_word_byte after))
number_after text n w after one b size = by_case (nat_le (number_value w) greatest_number) refl (first_is is_word_byte after) refl
  where
    by_case : (t : Bool) → nat_le (number_value w) greatest_number ≡ t → (g : Bool) → first_is is_word_byte after ≡ g → IsForm text (form_by (if t then Some (number_value w) else None) n g)
    by_case true e true f = record { digits = w; after = after; begins = b; value = leb-true _ _ e; touched = f; size = size }
    by_case true e false f = record {
      bytes = w;
      begins = record { some = one; after = after; whole = b.whole; size = size; stands = (b.longest, (refl, (leb-true _ _ e, f))) };
    }
    by_case false e g f = record { digits = w; after = after; begins = b; value = leb-false _ _ e }

number_at : (b : ℕ) (bs : List ℕ) → is_ascii_digit b ≡ true → IsNext (b ∷ bs) (Start (number_form (b ∷ bs)))
number_at b bs h = (inr (inl h), from (number_len (b ∷ bs)) (long_number b bs h))
  where
    from : (n : ℕ) → LongNumber (b ∷ bs) n → IsForm (b ∷ bs) (form_by (up_to greatest_number (number_value (take n (b ∷ bs)))) n (first_is is_word_byte (drop n (b ∷ bs))))
    from n l =
        let front : take n (b ∷ bs) ≡ l.w = ap (λ k. take k (b ∷ bs)) (sym l.size) ∙ ap (take (length l.w)) l.begins.whole ∙ take-append_seam l.w l.after in
        let back : drop n (b ∷ bs) ≡ l.after = ap (λ k. drop k (b ∷ bs)) (sym l.size) ∙ ap (drop (length l.w)) l.begins.whole ∙ drop-append_seam l.w l.after in
        let one : 1 ≤ n = (nonempty l.w l.begins.longest.0 l.size) in
        subst (λ (u : List ℕ). IsForm (b ∷ bs) (form_by (up_to greatest_number (number_value u)) n (first_is is_word_byte (drop n (b ∷ bs))))) (sym front)
        (subst (λ (u : List ℕ). IsForm (b ∷ bs) (form_by (up_to greatest_number (number_value l.w)) n (first_is is_word_byte u))) (sym back)
        (number_after (b ∷ bs) n l.w l.after one l.begins l.size))
      where
        nonempty : (w : List ℕ) → is_number w ≡ true → length w ≡ n → 1 ≤ n
        nonempty [] e f = absurd (cc)
        nonempty (c ∷ w) e f = omega arith

-- comments
line_next : (text : List ℕ) → starts line_mark text ≡ true → IsNext text (Gap (2 + prefix_len is_no_feed (drop 2 text)))
line_next text h =
    let k = prefix_len is_no_feed (drop 2 text) in
    record {
      piece = line (take k (drop 2 text));
      no_token = λ at. refl;
      begins = record {
        some = omega arith;
        after = drop k (drop 2 text);
        whole = starts_split line_mark text h ∙ ap (λ l. line_mark ++ l) (split k (drop 2 text));
        size = rw (length-prefix_len is_no_feed (drop 2 text)) (omega arith);
        stands = (run_passes is_no_feed (drop 2 text), run_stops is_no_feed (drop 2 text));
      };
    }

block_at : (text : List ℕ) → starts open_mark text ≡ true → IsNext text (block_next (close_len (drop 2 text)))
block_at text h = by_case (close_len (drop 2 text)) refl
  where
    by_case : (o : Option ℕ) → close_len (drop 2 text) ≡ o → IsNext text (block_next o)
    by_case None e = (h, close_none (drop 2 text) e)
    by_case (Some n) e =
        let c = close_found (drop 2 text) n e in
        record {
          piece = block c.body;
          no_token = λ at. refl;
          begins = record {
            some = omega arith;
            after = c.after;
            whole = starts_split open_mark text h ∙ ap (λ l. open_mark ++ l) (c.whole ∙ sym (append_assoc c.body close_mark c.after));
            size = rw (length-append c.body close_mark) (let s = c.size in omega arith);
            stands = c.clear;
          };
        }

-- symbols
sign_next : (text : List ℕ) (s : Sym) → symbol_of text ≡ Some s → starts line_mark text ≡ false → starts open_mark text ≡ false → IsNext text (Start (Symbol s))
sign_next text s e l o =
    let there = symbol_there text s e in
    let whole = starts_split (spelling s) text there in (
      inr (inr record { no_line = l; no_block = o; symbol = s; there = there }),
      record {
        bytes = spelling s;
        begins = record {
          some = symbol_some s;
          after = drop (length (spelling s)) text;
          whole = whole;
          size = refl;
          stands = (((s, refl), longest), (refl, (ap (starts line_mark) (sym whole) ∙ l, ap (starts open_mark) (sym whole) ∙ o)));
        };
      },
    )
  where
    longest : (v rest : List ℕ) → v ++ rest ≡ spelling s ++ drop (length (spelling s)) text → IsSymbol v → length v ≤ length (spelling s)
    longest v rest f (t, g) =
        let whole = starts_split (spelling s) text (symbol_there text s e) in
        let there : starts (spelling t) text ≡ true = ap (starts (spelling t)) (whole ∙ sym f ∙ ap (λ w. w ++ rest) g) ∙ starts_front (spelling t) rest in
        let m = symbol_longest text s e t there in
        rw (ap length g) m

mark_at : (b : ℕ) (bs : List ℕ) → is_space b ≡ false → is_word_start b ≡ false → is_ascii_digit b ≡ false → IsNext (b ∷ bs) (mark_next (b ∷ bs))
mark_at b bs s w d = by_case (starts line_mark (b ∷ bs)) refl (starts open_mark (b ∷ bs)) refl
  where
    by_symbol : starts line_mark (b ∷ bs) ≡ false → starts open_mark (b ∷ bs) ≡ false → (o : Option Sym) → symbol_of (b ∷ bs) ≡ o → IsNext (b ∷ bs) (symbol_next o)
    by_symbol l f (Some t) e = sign_next (b ∷ bs) t e l f
    by_symbol l f None e = record { some = omega arith; no_space = s; no_word = w; no_number = d; no_symbol = symbol_absent (b ∷ bs) e }

    by_case : (l : Bool) → starts line_mark (b ∷ bs) ≡ l → (o : Bool) → starts open_mark (b ∷ bs) ≡ o → IsNext (b ∷ bs) (mark_by l o (b ∷ bs))
    by_case true e o f = line_next (b ∷ bs) e
    by_case false e true f = block_at (b ∷ bs) f
    by_case false e false f = by_symbol e f (symbol_of (b ∷ bs)) refl

pub found : (b : ℕ) (bs : List ℕ) → IsNext (b ∷ bs) (next_of (b ∷ bs))
found b bs = by_class (class_of b) refl
  where
    by_class : (k : Class) → class_of b ≡ k → IsNext (b ∷ bs) (next_by k b bs)
    by_class Blank e = record {
      piece = space b;
      no_token = λ at. refl;
      begins = record { some = omega arith; after = bs; whole = refl; size = refl; stands = class_space _ _ _ e };
    }
    by_class Letter e = word_next b bs (class_letter _ _ _ e)
    by_class Digit e = number_at b bs (class_digit _ _ _ e)
    by_class Other e = let m = class_mark _ _ _ e in mark_at b bs m.0 m.1.0 m.1.1

pub found_at : (text : List ℕ) (x : Next) → 0 < length text → x ≡ next_of text → IsNext text x
found_at [] x h e = absurd (omega arith)
found_at (b ∷ bs) x h e = subst (IsNext (b ∷ bs)) (sym e) (found b bs)

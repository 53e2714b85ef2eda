-- A text has one answer.
use Rattle.std.proofs.Common.{◌≡◌, ℕ, ◌+◌, ◌-◌, ◌≤◌, ◌<◌, ◌⊎◌, inl, inr, Bool, true, false, ◌&&◌, ◌||◌, ◌==◌, List, [], ◌∷◌, ◌++◌, length, get_or, drop, max, Result, Ok, Err, refl, sym, ap, subst, ◌∙◌, arith, append_assoc, add_assoc, length-append}
use Rattle.std.specs.List.{list_all}
use Rattle.std.specs.Char.{is_ascii_digit}
use Rattle.std.proofs.lemmas.Bool.{and_parts, and_from, eqb-true, eq-eqb}
use Rattle.dom_lexer.specs.Bytes.{is_space, is_number, is_decimal, is_hex, number_value}
use Rattle.dom_words.specs.Spelling.{is_word_start, is_word_byte}
use Rattle.dom_lexer.specs.Text.{Piece, space, line, block, token, spelling, IsLongest, IsWord, IsNumber, IsSymbol, starts, first_is, has_mark, close_mark, open_mark, line_mark, is_no_feed, StartsNothing, StartsToken, StartsOpenComment, StartsBigNumber, StartsTouchedNumber, BeginsNumber, greatest_number, bytes_of, Stands, Row, tokens_of, tokens_from, most_tokens, Lexed, IsFault, IsFaultAt}
use Rattle.dom_lexer.specs.inner.Next.{class_by, class_of}
use Rattle.dom_lexer.specs.Answer.{IsAnswer}
use Rattle.dom_lexer.specs.declared.token.Sym.{Sym}
use Rattle.dom_lexer.specs.declared.token.Sym.TheVariants.{Slash}
use Rattle.dom_lexer.specs.declared.token.TokenKind.TheVariants.{Word, Number, Sym as Symbol}
use Rattle.dom_lexer.specs.declared.token.Token.{Token}
use Rattle.dom_lexer.specs.declared.token.LexFault.{LexFault}
use Rattle.dom_lexer.specs.declared.token.LexFault.TheVariants.{BadByte, OpenComment, BigLiteral, TooManyTokens, Memory}
use Rattle.dom_lexer.specs.declared.next.Class.{Class}
use Rattle.dom_lexer.specs.declared.next.Class.TheVariants.{Blank, Letter, Digit, Other}
use Rattle.dom_lexer.proofs.Blocks.{starts_split, starts_front}
use Rattle.dom_lexer.proofs.Symbols.{symbol_some, symbol_first, spelling_one}

-- two parts of one text
pub record Same (x y a b : List ℕ) : Type 0 where
  pub front : x ≡ y
  pub back : a ≡ b

same_front : (x y a b : List ℕ) → length x ≡ length y → x ++ a ≡ y ++ b → Same x y a b
same_front [] [] a b l e = record { front = refl; back = e }
same_front [] (c ∷ y) a b l e = absurd (omega arith)
same_front (c ∷ x) [] a b l e = absurd (omega arith)
same_front (c ∷ x) (d ∷ y) a b l e =
    let q : c ≡ d = cc in
    let t : x ++ a ≡ y ++ b = cc in
    let m = same_front x y a b (omega arith) t in
    record { front = ap (λ k. k ∷ x) q ∙ ap (λ k. d ∷ k) m.front; back = m.back }

longest_one : (P : List ℕ → Type 0) (x y a b : List ℕ) → IsLongest P x a → IsLongest P y b → x ++ a ≡ y ++ b → Same x y a b
longest_one P x y a b (p, h) (q, k) e =
    let up = h y b (sym e) q in
    let down = k x a e p in
    same_front x y a b (omega arith) e

run_one : (p : ℕ → Bool) (x y a b : List ℕ) → list_all p x ≡ true → list_all p y ≡ true → first_is p a ≡ false → first_is p b ≡ false → x ++ a ≡ y ++ b → Same x y a b
run_one p [] [] a b hx hy ha hb e = record { front = refl; back = e }
run_one p [] (d ∷ y) a b hx hy ha hb e = absurd (let t = (and_parts (p d) (list_all p y) hy).0 in let u : p d ≡ false = ap (first_is p) (sym e) ∙ ha in cc)
run_one p (c ∷ x) [] a b hx hy ha hb e = absurd (let t = (and_parts (p c) (list_all p x) hx).0 in let u : p c ≡ false = ap (first_is p) e ∙ hb in cc)
run_one p (c ∷ x) (d ∷ y) a b hx hy ha hb e =
    let q : c ≡ d = cc in
    let t : x ++ a ≡ y ++ b = cc in
    let m = run_one p x y a b (and_parts (p c) (list_all p x) hx).1 (and_parts (p d) (list_all p y) hy).1 ha hb t in
    record { front = ap (λ k. k ∷ x) q ∙ ap (λ k. d ∷ k) m.front; back = m.back }

or_first : (x y : Bool) → (x || y) ≡ false → x ≡ false
or_first true y e = absurd (cc)
or_first false y e = refl

or_second : (x y : Bool) → (x || y) ≡ false → y ≡ false
or_second true y e = absurd (cc)
or_second false y e = e

-- the first `*/` after no other
close_nil : (y a b : List ℕ) → has_mark close_mark y ≡ false → close_mark ++ a ≡ y ++ (close_mark ++ b) → Same [] y a b
close_nil [] a b hy e = record { front = refl; back = ap (drop 2) e }
close_nil (c ∷ []) a b hy e = absurd (let q : 47 ≡ 42 = ap (λ l. get_or l 1 0) e in omega arith)
close_nil (c ∷ d ∷ y) a b hy e =
    let q : 42 ≡ c = ap (λ l. get_or l 0 0) e in
    let r : 47 ≡ d = ap (λ l. get_or l 1 0) e in
    let s : starts close_mark (c ∷ d ∷ y) ≡ true = and_from _ _ (eq-eqb 42 c q) (and_from _ _ (eq-eqb 47 d r) refl) in
    let f = or_first (starts close_mark (c ∷ d ∷ y)) (has_mark close_mark (d ∷ y)) hy in
    absurd (let z : true ≡ false = sym s ∙ f in cc)

flip : (x y a b : List ℕ) → Same x y a b → Same y x b a
flip x y a b s = record { front = sym s.front; back = sym s.back }

heads : {c d : ℕ} {x y : List ℕ} → c ∷ x ≡ d ∷ y → c ≡ d
heads e = cc

tails : {c d : ℕ} {x y : List ℕ} → c ∷ x ≡ d ∷ y → x ≡ y
tails e = cc

close_one : (x y a b : List ℕ) → has_mark close_mark x ≡ false → has_mark close_mark y ≡ false → x ++ (close_mark ++ a) ≡ y ++ (close_mark ++ b) → Same x y a b
close_one [] y a b hx hy e = close_nil y a b hy e
close_one (c ∷ x) [] a b hx hy e = flip [] (c ∷ x) b a (close_nil (c ∷ x) b a hx (sym e))
close_one (c ∷ x) (d ∷ y) a b hx hy e =
    let m = close_one x y a b (or_second (starts close_mark (c ∷ x)) (has_mark close_mark x) hx) (or_second (starts close_mark (d ∷ y)) (has_mark close_mark y) hy) (tails e) in
    record { front = ap (λ k. k ∷ x) (heads e) ∙ ap (λ k. d ∷ k) m.front; back = m.back }

mark_there : (x a : List ℕ) → has_mark close_mark (x ++ (close_mark ++ a)) ≡ true
mark_there [] a = refl
mark_there (c ∷ x) a = or_true (starts close_mark (c ∷ (x ++ (close_mark ++ a)))) (mark_there x a)
  where
    or_true : (t : Bool) {u : Bool} → u ≡ true → (t || u) ≡ true
    or_true true e = refl
    or_true false e = e

-- bytes of different kinds
space_low : (b : ℕ) → is_space b ≡ true → b ≤ 32
space_low b h = grind (arith, h)

letter_high : (b : ℕ) → is_word_start b ≡ true → 65 ≤ b
letter_high b h = grind (arith, h)

digit_low : (b : ℕ) → is_ascii_digit b ≡ true → 48 ≤ b
digit_low b h = grind (arith, h)

digit_high : (b : ℕ) → is_ascii_digit b ≡ true → b ≤ 57
digit_high b h = grind (arith, h)

false_by : (t : Bool) → (t ≡ true → ⊥) → t ≡ false
false_by true h = absurd (h refl)
false_by false h = refl

-- the class of a first byte
letter_class : (b : ℕ) → is_word_start b ≡ true → class_of b ≡ Letter
letter_class b h =
    let n = false_by (is_space b) (λ s. absurd (let l = space_low b s in let u = letter_high b h in omega arith)) in
    ap (λ s. class_by s (is_word_start b) (is_ascii_digit b)) n ∙ ap (λ w. class_by false w (is_ascii_digit b)) h

digit_class : (b : ℕ) → is_ascii_digit b ≡ true → class_of b ≡ Digit
digit_class b h =
    let n = false_by (is_space b) (λ s. absurd (let l = space_low b s in let u = digit_low b h in omega arith)) in
    let w = false_by (is_word_start b) (λ s. absurd (let l = letter_high b s in let u = digit_high b h in omega arith)) in
    ap (λ s. class_by s (is_word_start b) (is_ascii_digit b)) n ∙ ap (λ w. class_by false w (is_ascii_digit b)) w ∙ ap (class_by false false) h

-- what stands first, by the first two bytes
abbrev tag_by : Class → Bool → Bool → ℕ
tag_by Blank l o = 1
tag_by Letter l o = 2
tag_by Digit l o = 3
tag_by Other true o = 4
tag_by Other false true = 5
tag_by Other false false = 6

abbrev tag_of : List ℕ → ℕ
tag_of [] = 0
tag_of (b ∷ bs) = tag_by (class_of b) (starts line_mark (b ∷ bs)) (starts open_mark (b ∷ bs))

abbrev tag_under : ℕ → List ℕ → Class → ℕ
tag_under b bs k = tag_by k (starts line_mark (b ∷ bs)) (starts open_mark (b ∷ bs))

letter_tag : (b : ℕ) (bs : List ℕ) → is_word_start b ≡ true → tag_of (b ∷ bs) ≡ 2
letter_tag b bs h = ap (tag_under b bs) (letter_class b h)

digit_tag : (b : ℕ) (bs : List ℕ) → is_ascii_digit b ≡ true → tag_of (b ∷ bs) ≡ 3
digit_tag b bs h = ap (tag_under b bs) (digit_class b h)

number_first : (b : ℕ) (v : List ℕ) → is_number (b ∷ v) ≡ true → is_ascii_digit b ≡ true
number_first b v h = from (b == 48) refl
  where
    hex : (v : List ℕ) → (b == 48) ≡ false → is_hex (b ∷ v) ≡ true → ⊥
    hex [] z e = absurd (cc)
    hex (x ∷ []) z e = absurd (cc)
    hex (x ∷ d ∷ ds) z e = absurd (let f = rw z at e in cc)

    from : (t : Bool) → (b == 48) ≡ t → is_ascii_digit b ≡ true
    from true z = ap is_ascii_digit (eqb-true b 48 z)
    from false z = parts (is_decimal (b ∷ v)) refl
      where
        parts : (d : Bool) → is_decimal (b ∷ v) ≡ d → is_ascii_digit b ≡ true
        parts true q = let f = rw z at q in (and_parts (is_ascii_digit b) _ f).0
        parts false q = absurd (let f : is_hex (b ∷ v) ≡ true = ap (λ t. t || is_hex (b ∷ v)) (sym q) ∙ h in hex v z f)

symbol_tag : (s : Sym) (w a : List ℕ) → w ≡ spelling s → starts line_mark (w ++ a) ≡ false → starts open_mark (w ++ a) ≡ false → tag_of (w ++ a) ≡ 6
symbol_tag s [] a e l o = absurd (let n = symbol_some s in let z = ap length e in omega arith)
symbol_tag s (b ∷ v) a e l o = ap (tag_under b (v ++ a)) (symbol_first s b v (sym e)) ∙ ap (λ t. tag_by Other t (starts open_mark (b ∷ (v ++ a)))) l ∙ ap (tag_by Other false) o

abbrev tag : Piece → ℕ
tag (space b) = 1
tag (line x) = 4
tag (block x) = 5
tag (token (Word n) w) = 2
tag (token (Number n) w) = 3
tag (token (Symbol s) w) = 6

tag_says : (p : Piece) (a : List ℕ) → Stands p a → tag_of (bytes_of p ++ a) ≡ tag p
tag_says (space b) a h = ap (λ s. tag_under b a (class_by s (is_word_start b) (is_ascii_digit b))) h
tag_says (line x) a h = refl
tag_says (block x) a h = refl
tag_says (token (Word n) []) a ((w, l), q) = absurd (cc)
tag_says (token (Word n) (b ∷ v)) a ((w, l), q) = letter_tag b (v ++ a) (and_parts (is_word_start b) _ w).0
tag_says (token (Number n) []) a ((w, l), q) = absurd (cc)
tag_says (token (Number n) (b ∷ v)) a ((w, l), q) = digit_tag b (v ++ a) (number_first b v w)
tag_says (token (Symbol s) w) a (l, (e, (f, g))) = symbol_tag s w a e f g

pub record SamePiece (p q : Piece) (a b : List ℕ) : Type 0 where
  pub piece : p ≡ q
  pub after : a ≡ b

same_by : (p q : Piece) (a b : List ℕ) → Stands p a → Stands q b → bytes_of p ++ a ≡ bytes_of q ++ b → tag p ≡ tag q → SamePiece p q a b
same_by (space b1) (space b2) a b h k e t = let q : b1 ≡ b2 = cc in record { piece = ap space q; after = cc }
same_by (space b1) (line x2) a b h k e t = absurd (omega arith)
same_by (space b1) (block x2) a b h k e t = absurd (omega arith)
same_by (space b1) (token (Word n2) w2) a b h k e t = absurd (omega arith)
same_by (space b1) (token (Number n2) w2) a b h k e t = absurd (omega arith)
same_by (space b1) (token (Symbol s2) w2) a b h k e t = absurd (omega arith)
same_by (line x1) (space b2) a b h k e t = absurd (omega arith)
same_by (line x1) (line x2) a b h k e t = let m = run_one is_no_feed x1 x2 a b h.0 k.0 h.1 k.1 (ap (drop 2) e) in record { piece = ap line m.front; after = m.back }
same_by (line x1) (block x2) a b h k e t = absurd (omega arith)
same_by (line x1) (token (Word n2) w2) a b h k e t = absurd (omega arith)
same_by (line x1) (token (Number n2) w2) a b h k e t = absurd (omega arith)
same_by (line x1) (token (Symbol s2) w2) a b h k e t = absurd (omega arith)
same_by (block x1) (space b2) a b h k e t = absurd (omega arith)
same_by (block x1) (line x2) a b h k e t = absurd (omega arith)
same_by (block x1) (block x2) a b h k e t = let m = close_one x1 x2 a b h k (sym (append_assoc x1 close_mark a) ∙ ap (drop 2) e ∙ append_assoc x2 close_mark b) in record { piece = ap block m.front; after = m.back }
same_by (block x1) (token (Word n2) w2) a b h k e t = absurd (omega arith)
same_by (block x1) (token (Number n2) w2) a b h k e t = absurd (omega arith)
same_by (block x1) (token (Symbol s2) w2) a b h k e t = absurd (omega arith)
same_by (token (Word n1) w1) (space b2) a b h k e t = absurd (omega arith)
same_by (token (Word n1) w1) (line x2) a b h k e t = absurd (omega arith)
same_by (token (Word n1) w1) (block x2) a b h k e t = absurd (omega arith)
same_by (token (Word n1) w1) (token (Word n2) w2) a b (h, f) (k, g) e t = let m = longest_one IsWord w1 w2 a b h k e in let n : n1 ≡ n2 = f ∙ m.front ∙ sym g in record { piece = ap (λ x. token (Word x) w1) n ∙ ap (token (Word n2)) m.front; after = m.back }
same_by (token (Word n1) w1) (token (Number n2) w2) a b h k e t = absurd (omega arith)
same_by (token (Word n1) w1) (token (Symbol s2) w2) a b h k e t = absurd (omega arith)
same_by (token (Number n1) w1) (space b2) a b h k e t = absurd (omega arith)
same_by (token (Number n1) w1) (line x2) a b h k e t = absurd (omega arith)
same_by (token (Number n1) w1) (block x2) a b h k e t = absurd (omega arith)
same_by (token (Number n1) w1) (token (Word n2) w2) a b h k e t = absurd (omega arith)
same_by (token (Number n1) w1) (token (Number n2) w2) a b (h, (f, u)) (k, (g, v)) e t = let m = longest_one IsNumber w1 w2 a b h k e in let n : n1 ≡ n2 = sym f ∙ ap number_value m.front ∙ g in record { piece = ap (λ x. token (Number x) w1) n ∙ ap (token (Number n2)) m.front; after = m.back }
same_by (token (Number n1) w1) (token (Symbol s2) w2) a b h k e t = absurd (omega arith)
same_by (token (Symbol s1) w1) (space b2) a b h k e t = absurd (omega arith)
same_by (token (Symbol s1) w1) (line x2) a b h k e t = absurd (omega arith)
same_by (token (Symbol s1) w1) (block x2) a b h k e t = absurd (omega arith)
same_by (token (Symbol s1) w1) (token (Word n2) w2) a b h k e t = absurd (omega arith)
same_by (token (Symbol s1) w1) (token (Number n2) w2) a b h k e t = absurd (omega arith)
same_by (token (Symbol s1) w1) (token (Symbol s2) w2) a b (h, (f, u)) (k, (g, v)) e t = let m = longest_one IsSymbol w1 w2 a b h k e in let n : s1 ≡ s2 = spelling_one s1 s2 (sym f ∙ m.front ∙ g) in record { piece = ap (λ x. token (Symbol x) w1) n ∙ ap (token (Symbol s2)) m.front; after = m.back }

same_piece : (p q : Piece) (a b : List ℕ) → Stands p a → Stands q b → bytes_of p ++ a ≡ bytes_of q ++ b → SamePiece p q a b
same_piece p q a b h k e = same_by p q a b h k e (sym (tag_says p a h) ∙ ap tag_of e ∙ tag_says q b k)

-- how many tokens
abbrev one_of : Piece → ℕ
one_of p = length (tokens_of 0 p)

one_is : (at : ℕ) (p : Piece) → length (tokens_of at p) ≡ one_of p
one_is at (space b) = refl
one_is at (line x) = refl
one_is at (block x) = refl
one_is at (token k w) = refl

abbrev number : List Piece → ℕ
number [] = 0
number (p ∷ ps) = one_of p + number ps

number_is : (at : ℕ) (ps : List Piece) → length (tokens_from at ps) ≡ number ps
number_is at [] = refl
number_is at (p ∷ ps) =
    let one = one_is at p in
    let more = number_is (at + length (bytes_of p)) ps in
    length-append (tokens_of at p) (tokens_from (at + length (bytes_of p)) ps) ∙ omega arith

-- no piece may come next, with at most so many tokens
abbrev Stop : ℕ → ℕ → List ℕ → Type 0
Stop limit n rest = (q : Piece) (b : List ℕ) → rest ≡ bytes_of q ++ b → Stands q b → n + one_of q ≤ limit → ⊥

rows_one : (limit : ℕ) (ps qs : List Piece) (n : ℕ) (text r s : List ℕ) → Row ps text r → Row qs text s → Stop limit (n + number ps) r → Stop limit (n + number qs) s → n + number ps ≤ limit → n + number qs ≤ limit → (ps ≡ qs) × (r ≡ s)
rows_one limit [] [] n text r s e f a b low high = (refl, sym e ∙ f)
rows_one limit [] (q ∷ qs) n text r s e (after, (w, (st, row))) a b low high = absurd (a q after (sym e ∙ w) st (omega arith))
rows_one limit (p ∷ ps) [] n text r s (after, (w, (st, row))) f a b low high = absurd (b p after (sym f ∙ w) st (omega arith))
rows_one limit (p ∷ ps) (q ∷ qs) n text r s (x, (w, (st, row))) (y, (v, (su, row2))) a b low high =
    let m = same_piece p q x y st su (sym w ∙ v) in
    let k : n + one_of p ≡ n + one_of q = ap (λ z. n + one_of z) m.piece in
    let more = rows_one limit ps qs (n + one_of p) x r s row (subst (λ t. Row qs t s) (sym m.after) row2)
    (subst (λ z. Stop limit z r) (sym (add_assoc n (one_of p) (number ps))) a)
    (subst (λ z. Stop limit z s) (sym (add_assoc n (one_of q) (number qs)) ∙ ap (λ z. z + number qs) (sym k)) b)
    (omega arith) (omega arith) in
    (ap (λ z. z ∷ ps) m.piece ∙ ap (λ z. q ∷ z) more.0, more.1)

-- nothing stands in no bytes
some_bytes : (q : Piece) (b : List ℕ) → Stands q b → 1 ≤ length (bytes_of q)
some_bytes (space b) a h = omega arith
some_bytes (line x) a h = omega arith
some_bytes (block x) a h = omega arith
some_bytes (token (Word m) []) a ((w, k), q) = absurd (cc)
some_bytes (token (Word m) (b ∷ v)) a h = omega arith
some_bytes (token (Number m) []) a ((w, k), q) = absurd (cc)
some_bytes (token (Number m) (b ∷ v)) a h = omega arith
some_bytes (token (Symbol s) w) a (k, (f, g)) = let n = symbol_some s in let z = ap length f in omega arith

stop_empty : (limit n : ℕ) → Stop limit n []
stop_empty limit n q b e h l = absurd (let some = some_bytes q b h in let z = ap length e ∙ length-append (bytes_of q) b in omega arith)

-- the tag of a fault's place
nothing_tag : (rest : List ℕ) → StartsNothing rest → tag_of rest ≡ 6
nothing_tag [] f = absurd (let s = f.some in omega arith)
nothing_tag (b ∷ bs) f =
    let c : class_of b ≡ Other = ap (λ x. class_by x (is_word_start b) (is_ascii_digit b)) f.no_space ∙ ap (λ x. class_by false x (is_ascii_digit b)) f.no_word ∙ ap (class_by false false) f.no_number in
    let slash : (47 == b) ≡ false = and_true (47 == b) (f.no_symbol Slash) in
    ap (tag_under b bs) c ∙ ap (λ x. tag_by Other (x && starts (47 ∷ []) bs) (x && starts (42 ∷ []) bs)) slash
  where
    and_true : (t : Bool) → (t && true) ≡ false → t ≡ false
    and_true true e = absurd (cc)
    and_true false e = refl

long_tag : (w after : List ℕ) → is_number w ≡ true → tag_of (w ++ after) ≡ 3
long_tag [] after h = absurd (cc)
long_tag (b ∷ v) after h = digit_tag b (v ++ after) (number_first b v h)

open_tag : (rest : List ℕ) → starts open_mark rest ≡ true → tag_of rest ≡ 5
open_tag rest h = ap tag_of (starts_split open_mark rest h)

-- a token starts with a tag of its own
abbrev IsTokenTag : ℕ → Type 0
IsTokenTag t = (t ≡ 2) ⊎ ((t ≡ 3) ⊎ (t ≡ 6))

token_tag : (rest : List ℕ) → StartsToken rest → IsTokenTag (tag_of rest)
token_tag [] (inl h) = absurd (cc)
token_tag [] (inr (inl h)) = absurd (cc)
token_tag (b ∷ bs) (inl h) = inl (letter_tag b bs h)
token_tag (b ∷ bs) (inr (inl h)) = inr (inl (digit_tag b bs h))
token_tag rest (inr (inr h)) =
    let e = starts_split (spelling h.symbol) rest h.there in
    let a = drop (length (spelling h.symbol)) rest in
    inr (inr (ap tag_of e ∙ symbol_tag h.symbol (spelling h.symbol) a refl (ap (starts line_mark) (sym e) ∙ h.no_line) (ap (starts open_mark) (sym e) ∙ h.no_block)))

token_stop : (n : ℕ) (q : Piece) → most_tokens ≤ n → IsTokenTag (tag q) → n + one_of q ≤ most_tokens → ⊥
token_stop n (space b) m (inl t) l = absurd (omega arith)
token_stop n (space b) m (inr (inl t)) l = absurd (omega arith)
token_stop n (space b) m (inr (inr t)) l = absurd (omega arith)
token_stop n (line b) m (inl t) l = absurd (omega arith)
token_stop n (line b) m (inr (inl t)) l = absurd (omega arith)
token_stop n (line b) m (inr (inr t)) l = absurd (omega arith)
token_stop n (block b) m (inl t) l = absurd (omega arith)
token_stop n (block b) m (inr (inl t)) l = absurd (omega arith)
token_stop n (block b) m (inr (inr t)) l = absurd (omega arith)
token_stop n (token k w) m t l = absurd (omega arith)

abbrev tag_at : (rest : List ℕ) (q : Piece) (b : List ℕ) → rest ≡ bytes_of q ++ b → Stands q b → tag_of rest ≡ tag q
tag_at rest q b e h = ap tag_of e ∙ tag_says q b h

nothing_stop : (n : ℕ) (rest : List ℕ) → StartsNothing rest → Stop most_tokens n rest
nothing_stop n rest f (space b) a e h l = absurd (let t = tag_at rest (space b) a e h in let u = nothing_tag rest f in omega arith)
nothing_stop n rest f (line b) a e h l = absurd (let t = tag_at rest (line b) a e h in let u = nothing_tag rest f in omega arith)
nothing_stop n rest f (block b) a e h l = absurd (let t = tag_at rest (block b) a e h in let u = nothing_tag rest f in omega arith)
nothing_stop n rest f (token (Word m) w) a e h l = absurd (let t = tag_at rest (token (Word m) w) a e h in let u = nothing_tag rest f in omega arith)
nothing_stop n rest f (token (Number m) w) a e h l = absurd (let t = tag_at rest (token (Number m) w) a e h in let u = nothing_tag rest f in omega arith)
nothing_stop n rest f (token (Symbol s) w) a e (k, (i, g)) l =
    absurd (let t : starts (spelling s) rest ≡ true = ap (starts (spelling s)) (e ∙ ap (λ v. v ++ a) i) ∙ starts_front (spelling s) a in let u = f.no_symbol s in cc)

-- a number that no token is
abbrev Unfit : List ℕ → List ℕ → Type 0
Unfit w after = (greatest_number < number_value w) ⊎ (first_is is_word_byte after ≡ true)

number_tag : (rest w after : List ℕ) → BeginsNumber rest w after → tag_of rest ≡ 3
number_tag rest w after g = ap tag_of g.whole ∙ long_tag w after g.longest.0

number_stop : (n : ℕ) (rest w after : List ℕ) → BeginsNumber rest w after → Unfit w after → Stop most_tokens n rest
number_stop n rest w after g u (space b) a e h l = absurd (let t = tag_at rest (space b) a e h in let s = number_tag rest w after g in omega arith)
number_stop n rest w after g u (line b) a e h l = absurd (let t = tag_at rest (line b) a e h in let s = number_tag rest w after g in omega arith)
number_stop n rest w after g u (block b) a e h l = absurd (let t = tag_at rest (block b) a e h in let s = number_tag rest w after g in omega arith)
number_stop n rest w after g u (token (Word m) v) a e h l = absurd (let t = tag_at rest (token (Word m) v) a e h in let s = number_tag rest w after g in omega arith)
number_stop n rest w after g u (token (Symbol m) v) a e h l = absurd (let t = tag_at rest (token (Symbol m) v) a e h in let s = number_tag rest w after g in omega arith)
number_stop n rest w after g (inl u) (token (Number m) v) a e (h, (i, (j, k))) l = absurd (let s = longest_one IsNumber v w a after h g.longest (sym e ∙ g.whole) in let z = ap number_value s.front in omega arith)
number_stop n rest w after g (inr u) (token (Number m) v) a e (h, (i, (j, k))) l = absurd (let s = longest_one IsNumber v w a after h g.longest (sym e ∙ g.whole) in let z = ap (first_is is_word_byte) s.back in cc)

open_stop : (n : ℕ) (rest : List ℕ) → StartsOpenComment rest → Stop most_tokens n rest
open_stop n rest (f, g) (space b) a e h l = absurd (let t = tag_at rest (space b) a e h in let s = open_tag rest f in omega arith)
open_stop n rest (f, g) (line b) a e h l = absurd (let t = tag_at rest (line b) a e h in let s = open_tag rest f in omega arith)
open_stop n rest (f, g) (token (Word m) v) a e h l = absurd (let t = tag_at rest (token (Word m) v) a e h in let s = open_tag rest f in omega arith)
open_stop n rest (f, g) (token (Number m) v) a e h l = absurd (let t = tag_at rest (token (Number m) v) a e h in let s = open_tag rest f in omega arith)
open_stop n rest (f, g) (token (Symbol m) v) a e h l = absurd (let t = tag_at rest (token (Symbol m) v) a e h in let s = open_tag rest f in omega arith)
open_stop n rest (f, g) (block x) a e h l = absurd (let s : drop 2 rest ≡ x ++ (close_mark ++ a) = ap (drop 2) e ∙ append_assoc x close_mark a in let t = ap (has_mark close_mark) s ∙ mark_there x a in cc)

many_stop : (n : ℕ) (rest : List ℕ) → most_tokens ≤ n → StartsToken rest → Stop most_tokens n rest
many_stop n rest m s q a e h l = token_stop n q m (subst IsTokenTag (tag_at rest q a e h) (token_tag rest s)) l

fault_stop : (at n : ℕ) (rest : List ℕ) (f : LexFault) → IsFaultAt at n rest f → Stop most_tokens n rest
fault_stop at n rest (BadByte k) (inl (p, h)) = nothing_stop n rest h
fault_stop at n rest (BadByte k) (inr (c, (m, (p, t)))) = number_stop n rest t.digits t.after t.begins (inr t.touched)
fault_stop at n rest (OpenComment k) (p, h) = open_stop n rest h
fault_stop at n rest (BigLiteral k) (p, (c, b)) = number_stop n rest b.digits b.after b.begins (inl b.value)
fault_stop at n rest (TooManyTokens k) (p, (m, s)) = many_stop n rest m s
fault_stop at n rest Memory h = absurd h

-- one fault at a place
token_nothing : (rest : List ℕ) → StartsToken rest → StartsNothing rest → ⊥
token_nothing rest (inl h) f = absurd (let n = f.no_word in cc)
token_nothing rest (inr (inl h)) f = absurd (let n = f.no_number in cc)
token_nothing rest (inr (inr h)) f = absurd (let t = h.there in let n = f.no_symbol h.symbol in cc)

nothing_number : (rest w after : List ℕ) → StartsNothing rest → BeginsNumber rest w after → ⊥
nothing_number rest w after f g = absurd (let t = nothing_tag rest f in let s = number_tag rest w after g in omega arith)

nothing_open : (rest : List ℕ) → StartsNothing rest → StartsOpenComment rest → ⊥
nothing_open rest f (g, h) = absurd (let t = nothing_tag rest f in let s = open_tag rest g in omega arith)

number_open : (rest w after : List ℕ) → BeginsNumber rest w after → StartsOpenComment rest → ⊥
number_open rest w after f (g, h) = absurd (let t = number_tag rest w after f in let s = open_tag rest g in omega arith)

big_touched : (rest : List ℕ) (n : ℕ) → StartsBigNumber rest → StartsTouchedNumber rest n → ⊥
big_touched rest n b t = absurd (let s = longest_one IsNumber b.digits t.digits b.after t.after b.begins.longest t.begins.longest (sym b.begins.whole ∙ t.begins.whole) in let z = ap number_value s.front in let u = b.value in let v = t.value in omega arith)

one_touched : (rest : List ℕ) (n m : ℕ) → StartsTouchedNumber rest n → StartsTouchedNumber rest m → n ≡ m
one_touched rest n m t u =
    let s = longest_one IsNumber t.digits u.digits t.after u.after t.begins.longest u.begins.longest (sym t.begins.whole ∙ u.begins.whole) in
    sym t.size ∙ ap length s.front ∙ u.size

not_five : (t : ℕ) → IsTokenTag t → t ≡ 5 → ⊥
not_five t (inl e) f = absurd (omega arith)
not_five t (inr (inl e)) f = absurd (omega arith)
not_five t (inr (inr e)) f = absurd (omega arith)

token_open : (rest : List ℕ) → StartsToken rest → StartsOpenComment rest → ⊥
token_open rest s (f, g) = not_five (tag_of rest) (token_tag rest s) (open_tag rest f)

fault_one : (at n : ℕ) (rest : List ℕ) (f g : LexFault) → IsFaultAt at n rest f → IsFaultAt at n rest g → f ≡ g
fault_one at n rest (BadByte k) (BadByte j) (inl (p, h)) (inl (q, i)) = ap BadByte (p ∙ sym q)
fault_one at n rest (BadByte k) (BadByte j) (inl (p, h)) (inr (c, (m, (q, t)))) = absurd (nothing_number rest t.digits t.after h t.begins)
fault_one at n rest (BadByte k) (BadByte j) (inr (c, (m, (q, t)))) (inl (p, h)) = absurd (nothing_number rest t.digits t.after h t.begins)
fault_one at n rest (BadByte k) (BadByte j) (inr (c, (m, (p, t)))) (inr (d, (o, (q, u)))) = ap BadByte (p ∙ ap (λ z. at + z) (one_touched rest m o t u) ∙ sym q)
fault_one at n rest (BadByte k) (OpenComment j) (inl (p, h)) (q, o) = absurd (nothing_open rest h o)
fault_one at n rest (BadByte k) (OpenComment j) (inr (c, (m, (p, t)))) (q, o) = absurd (number_open rest t.digits t.after t.begins o)
fault_one at n rest (BadByte k) (BigLiteral j) (inl (p, h)) (q, (c, b)) = absurd (nothing_number rest b.digits b.after h b.begins)
fault_one at n rest (BadByte k) (BigLiteral j) (inr (c, (m, (p, t)))) (q, (d, b)) = absurd (big_touched rest m b t)
fault_one at n rest (BadByte k) (TooManyTokens j) (inl (p, h)) (q, (m, s)) = absurd (token_nothing rest s h)
fault_one at n rest (BadByte k) (TooManyTokens j) (inr (c, x)) (q, (m, s)) = absurd (omega arith)
fault_one at n rest (OpenComment k) (BadByte j) (q, o) (inl (p, h)) = absurd (nothing_open rest h o)
fault_one at n rest (OpenComment k) (BadByte j) (q, o) (inr (c, (m, (p, t)))) = absurd (number_open rest t.digits t.after t.begins o)
fault_one at n rest (OpenComment k) (OpenComment j) (p, x) (q, y) = ap OpenComment (p ∙ sym q)
fault_one at n rest (OpenComment k) (BigLiteral j) (p, o) (q, (c, b)) = absurd (number_open rest b.digits b.after b.begins o)
fault_one at n rest (OpenComment k) (TooManyTokens j) (p, o) (q, (m, s)) = absurd (token_open rest s o)
fault_one at n rest (BigLiteral k) (BadByte j) (q, (c, b)) (inl (p, h)) = absurd (nothing_number rest b.digits b.after h b.begins)
fault_one at n rest (BigLiteral k) (BadByte j) (q, (d, b)) (inr (c, (m, (p, t)))) = absurd (big_touched rest m b t)
fault_one at n rest (BigLiteral k) (OpenComment j) (q, (c, b)) (p, o) = absurd (number_open rest b.digits b.after b.begins o)
fault_one at n rest (BigLiteral k) (BigLiteral j) (p, x) (q, y) = ap BigLiteral (p ∙ sym q)
fault_one at n rest (BigLiteral k) (TooManyTokens j) (p, (c, x)) (q, (m, s)) = absurd (omega arith)
fault_one at n rest (TooManyTokens k) (BadByte j) (q, (m, s)) (inl (p, h)) = absurd (token_nothing rest s h)
fault_one at n rest (TooManyTokens k) (BadByte j) (q, (m, s)) (inr (c, x)) = absurd (omega arith)
fault_one at n rest (TooManyTokens k) (OpenComment j) (q, (m, s)) (p, o) = absurd (token_open rest s o)
fault_one at n rest (TooManyTokens k) (BigLiteral j) (q, (m, s)) (p, (c, x)) = absurd (omega arith)
fault_one at n rest (TooManyTokens k) (TooManyTokens j) (p, x) (q, y) = ap TooManyTokens (p ∙ sym q)
fault_one at n rest Memory g h i = absurd h
fault_one at n rest (BadByte k) Memory h i = absurd i
fault_one at n rest (OpenComment k) Memory h i = absurd i
fault_one at n rest (BigLiteral k) Memory h i = absurd i
fault_one at n rest (TooManyTokens k) Memory h i = absurd i

-- a fault has a byte
some_token : (rest : List ℕ) → StartsToken rest → 1 ≤ length rest
some_token [] (inl h) = absurd (cc)
some_token [] (inr (inl h)) = absurd (cc)
some_token [] (inr (inr h)) = absurd (let n = symbol_some h.symbol in let z = ap length (starts_split (spelling h.symbol) [] h.there) ∙ length-append (spelling h.symbol) _ in omega arith)
some_token (b ∷ bs) h = omega arith

some_number : (rest w after : List ℕ) → BeginsNumber rest w after → 1 ≤ length rest
some_number rest [] after g = absurd (let n = g.longest.0 in cc)
some_number rest (b ∷ v) after g = let z = ap length g.whole in omega arith

some_open : (rest : List ℕ) → StartsOpenComment rest → 1 ≤ length rest
some_open [] (f, g) = absurd (cc)
some_open (b ∷ bs) h = omega arith

some_rest : (at n : ℕ) (rest : List ℕ) (f : LexFault) → IsFaultAt at n rest f → 1 ≤ length rest
some_rest at n rest (BadByte k) (inl (p, h)) = h.some
some_rest at n rest (BadByte k) (inr (c, (m, (p, t)))) = some_number rest t.digits t.after t.begins
some_rest at n rest (OpenComment k) (p, h) = some_open rest h
some_rest at n rest (BigLiteral k) (p, (c, b)) = some_number rest b.digits b.after b.begins
some_rest at n rest (TooManyTokens k) (p, (m, s)) = some_token rest s
some_rest at n rest Memory h = absurd h

-- a text has one list of tokens
pub one_list : (text : List ℕ) (ts us : List Token) → Lexed text ts → Lexed text us → ts ≡ us
one_list text ts us k l =
    let limit = max (number k.pieces) (number l.pieces) in
    let same = rows_one limit k.pieces l.pieces 0 text [] [] k.row l.row (stop_empty limit (0 + number k.pieces)) (stop_empty limit (0 + number l.pieces)) (omega arith) (omega arith) in
    sym k.listed ∙ ap (tokens_from 0) same.0 ∙ l.listed

-- a text with tokens has no fault
zero_plus : (n : ℕ) → n ≡ 0 + n
zero_plus n = omega arith

pub tokens_fault : (text : List ℕ) (ts : List Token) (f : LexFault) → Lexed text ts → length ts ≤ most_tokens → IsFault text f → ⊥
tokens_fault text ts f k few l =
    let np = number_is 0 k.pieces in
    let nq = number_is 0 l.pieces in
    let a = ap length k.listed in
    let low = l.few in
    let same = rows_one most_tokens k.pieces l.pieces 0 text [] l.rest k.row l.row (stop_empty most_tokens (0 + number k.pieces)) (subst (λ z. Stop most_tokens z l.rest) (nq ∙ zero_plus (number l.pieces)) (fault_stop _ _ l.rest f l.wrong)) (omega arith) (omega arith) in
    let some = some_rest _ _ l.rest f l.wrong in
    let none = ap length same.1 in
    absurd (omega arith)

-- a text has one fault
pub one_fault : (text : List ℕ) (f g : LexFault) → IsFault text f → IsFault text g → f ≡ g
one_fault text f g k l =
    let np = number_is 0 k.pieces in
    let nq = number_is 0 l.pieces in
    let low = k.few in
    let high = l.few in
    let same = rows_one most_tokens k.pieces l.pieces 0 text k.rest l.rest k.row l.row (subst (λ z. Stop most_tokens z k.rest) (np ∙ zero_plus (number k.pieces)) (fault_stop _ _ k.rest f k.wrong)) (subst (λ z. Stop most_tokens z l.rest) (nq ∙ zero_plus (number l.pieces)) (fault_stop _ _ l.rest g l.wrong)) (omega arith) (omega arith) in
    let moved : IsFaultAt (length text - length k.rest) (length (tokens_from 0 k.pieces)) k.rest g =
    subst (λ (x : List Piece). IsFaultAt (length text - length k.rest) (length (tokens_from 0 x)) k.rest g) (sym same.0)
    (subst (λ (x : List ℕ). IsFaultAt (length text - length x) (length (tokens_from 0 l.pieces)) x g) (sym same.1) l.wrong) in
    fault_one (length text - length k.rest) (length (tokens_from 0 k.pieces)) k.rest f g k.wrong moved

-- a text has one answer
pub one_answer : (text : List ℕ) (r s : Result (List Token) LexFault) → IsAnswer text r → IsAnswer text s → r ≡ s
one_answer text (Ok ts) (Ok us) (k, few) (l, many) = ap Ok (one_list text ts us k l)
one_answer text (Ok ts) (Err g) (k, few) l = absurd (tokens_fault text ts g k few l)
one_answer text (Err f) (Ok us) k (l, few) = absurd (tokens_fault text us f l few k)
one_answer text (Err f) (Err g) k l = ap Err (one_fault text f g k l)

-- All symbols, and the first of them that a text begins with.
use Rattle.std.proofs.Common.{◌≡◌, ℕ, zero, suc, ◌≤◌, Bool, true, false, ◌&&◌, ◌||◌, not, nat_le, cond, List, [], ◌∷◌, length, Option, Some, None, refl, sym, ap, ◌∙◌, arith}
use Rattle.std.specs.List.{find, list_all}
use Rattle.std.proofs.lemmas.Bool.{and_parts, and_from, leb-true, le-leb}
use Rattle.dom_lexer.specs.Text.{spelling, starts, first_is}
use Rattle.dom_lexer.specs.inner.Next.{symbols, symbol_of, class_of}
use Rattle.dom_lexer.specs.declared.next.Class.{Class}
use Rattle.dom_lexer.specs.declared.next.Class.TheVariants.{Blank, Letter, Digit, Other}
use Rattle.dom_lexer.specs.declared.token.Sym.{Sym}
use Rattle.dom_lexer.specs.declared.token.Sym.TheVariants.{Shl, Shr, Le, Ge, EqEq, NotEq, AndAnd, OrOr, Plus, Minus, Star, Slash, Percent, Less, Greater, Assign, Bang, Tilde, Amp, Bar, Caret, Question, Colon, Semi, Comma, Dot, OpenParen, CloseParen, OpenBracket, CloseBracket, OpenBrace, CloseBrace, Hash}

-- each symbol is in the list
abbrev nth : List Sym → ℕ → Option Sym
nth [] k = None
nth (s ∷ ss) zero = Some s
nth (s ∷ ss) (suc k) = nth ss k

abbrev place : Sym → ℕ
place Shl = 0
place Shr = 1
place Le = 2
place Ge = 3
place EqEq = 4
place NotEq = 5
place AndAnd = 6
place OrOr = 7
place Plus = 8
place Minus = 9
place Star = 10
place Slash = 11
place Percent = 12
place Less = 13
place Greater = 14
place Assign = 15
place Bang = 16
place Tilde = 17
place Amp = 18
place Bar = 19
place Caret = 20
place Question = 21
place Colon = 22
place Semi = 23
place Comma = 24
place Dot = 25
place OpenParen = 26
place CloseParen = 27
place OpenBracket = 28
place CloseBracket = 29
place OpenBrace = 30
place CloseBrace = 31
place Hash = 32

placed : (s : Sym) → nth symbols (place s) ≡ Some s
placed Shl = refl
placed Shr = refl
placed Le = refl
placed Ge = refl
placed EqEq = refl
placed NotEq = refl
placed AndAnd = refl
placed OrOr = refl
placed Plus = refl
placed Minus = refl
placed Star = refl
placed Slash = refl
placed Percent = refl
placed Less = refl
placed Greater = refl
placed Assign = refl
placed Bang = refl
placed Tilde = refl
placed Amp = refl
placed Bar = refl
placed Caret = refl
placed Question = refl
placed Colon = refl
placed Semi = refl
placed Comma = refl
placed Dot = refl
placed OpenParen = refl
placed CloseParen = refl
placed OpenBracket = refl
placed CloseBracket = refl
placed OpenBrace = refl
placed CloseBrace = refl
placed Hash = refl

inside : {x y : Sym} → Some x ≡ Some y → x ≡ y
inside e = cc

at_place : (p : Sym → Bool) (ss : List Sym) (k : ℕ) (s : Sym) → list_all p ss ≡ true → nth ss k ≡ Some s → p s ≡ true
at_place p [] k s h e = absurd (cc)
at_place p (t ∷ ss) zero s h e = ap p (sym (inside e)) ∙ (and_parts (p t) (list_all p ss) h).0
at_place p (t ∷ ss) (suc k) s h e = at_place p ss k s (and_parts (p t) (list_all p ss) h).1 e

-- what holds of all in the list holds of each symbol
pub each : (p : Sym → Bool) → list_all p symbols ≡ true → (s : Sym) → p s ≡ true
each p h s = at_place p symbols (place s) s h (placed s)

-- the first that passes
find_passes : (p : Sym → Bool) (ss : List Sym) (s : Sym) → find p ss ≡ Some s → p s ≡ true
find_passes p [] s e = absurd (cc)
find_passes p (t ∷ ss) s e = by_case (find_passes p ss s) (p t) refl e
  where
    by_case : (find p ss ≡ Some s → p s ≡ true) → (u : Bool) → p t ≡ u → cond u (Some t) (find p ss) ≡ Some s → p s ≡ true
    by_case later true h f = ap p (sym (inside f)) ∙ h
    by_case later false h f = later f

find_fails : (p : Sym → Bool) (ss : List Sym) → find p ss ≡ None → list_all (λ s. not (p s)) ss ≡ true
find_fails p [] e = refl
find_fails p (t ∷ ss) e = by_case (find_fails p ss) (p t) refl e
  where
    by_case : (find p ss ≡ None → list_all (λ s. not (p s)) ss ≡ true) → (u : Bool) → p t ≡ u → cond u (Some t) (find p ss) ≡ None → (not (p t) && list_all (λ s. not (p s)) ss) ≡ true
    by_case later true h f = absurd (cc)
    by_case later false h f = and_from _ _ (ap not h) (later f)

-- no symbol of the list is longer than one before it
abbrev is_short : Sym → Sym → Bool
is_short s t = nat_le (length (spelling t)) (length (spelling s))

abbrev sinks : List Sym → Bool
sinks [] = true
sinks (s ∷ ss) = list_all (is_short s) ss && sinks ss

same_le : (n : ℕ) → nat_le n n ≡ true
same_le n = le-leb n n (omega arith)

or_true : (t : Bool) {u : Bool} → u ≡ true → (t || u) ≡ true
or_true true e = refl
or_true false e = e

weaken : (p q : Sym → Bool) (ss : List Sym) → list_all q ss ≡ true → list_all (λ s. p s || q s) ss ≡ true
weaken p q [] h = refl
weaken p q (t ∷ ss) h = let both = and_parts (q t) (list_all q ss) h in and_from _ _ (or_true (p t) both.0) (weaken p q ss both.1)

find_longest : (p : Sym → Bool) (ss : List Sym) (s : Sym) → sinks ss ≡ true → find p ss ≡ Some s → list_all (λ t. not (p t) || is_short s t) ss ≡ true
find_longest p [] s d e = refl
find_longest p (t ∷ ss) s d e = by_case (find_longest p ss s (and_parts (list_all (is_short t) ss) (sinks ss) d).1) (p t) refl e
  where
    by_case : (find p ss ≡ Some s → list_all (λ t. not (p t) || is_short s t) ss ≡ true) → (u : Bool) → p t ≡ u → cond u (Some t) (find p ss) ≡ Some s → ((not (p t) || is_short s t) && list_all (λ t. not (p t) || is_short s t) ss) ≡ true
    by_case later true h f =
        let same : t ≡ s = inside f in
        let short : list_all (is_short s) ss ≡ true = ap (λ r. list_all (is_short r) ss) (sym same) ∙ (and_parts (list_all (is_short t) ss) (sinks ss) d).0 in
        and_from _ _ (or_true (not (p t)) (ap (is_short s) same ∙ same_le (length (spelling s)))) (weaken (λ t. not (p t)) (is_short s) ss short)
    by_case later false h f = and_from _ _ (ap (λ u. not u || is_short s t) h) (later f)

-- the symbol that a text begins with
pub symbol_there : (text : List ℕ) (s : Sym) → symbol_of text ≡ Some s → starts (spelling s) text ≡ true
symbol_there text s e = find_passes (λ t. starts (spelling t) text) symbols s e

pub symbol_longest : (text : List ℕ) (s : Sym) → symbol_of text ≡ Some s → (t : Sym) → starts (spelling t) text ≡ true → length (spelling t) ≤ length (spelling s)
symbol_longest text s e t h = leb-true _ _ (from (starts (spelling t) text) h (each (λ t. not (starts (spelling t) text) || is_short s t) (find_longest (λ t. starts (spelling t) text) symbols s refl e) t))
  where
    from : (u : Bool) {v : Bool} → u ≡ true → (not u || v) ≡ true → v ≡ true
    from true e f = f
    from false e f = absurd (cc)

pub symbol_absent : (text : List ℕ) → symbol_of text ≡ None → (t : Sym) → starts (spelling t) text ≡ false
symbol_absent text e t = from (starts (spelling t) text) (each (λ t. not (starts (spelling t) text)) (find_fails (λ t. starts (spelling t) text) symbols e) t)
  where
    from : (u : Bool) → not u ≡ true → u ≡ false
    from true e = absurd (cc)
    from false e = refl

-- a symbol has a byte, and that starts no white space, word or number
pub symbol_some : (s : Sym) → 1 ≤ length (spelling s)
symbol_some s = leb-true _ _ (each (λ s. nat_le 1 (length (spelling s))) refl s)

abbrev is_other : Class → Bool
is_other Blank = false
is_other Letter = false
is_other Digit = false
is_other Other = true

other_is : (c : Class) → is_other c ≡ true → c ≡ Other
other_is Blank e = absurd (cc)
other_is Letter e = absurd (cc)
other_is Digit e = absurd (cc)
other_is Other e = refl

pub symbol_first : (s : Sym) (b : ℕ) (bs : List ℕ) → spelling s ≡ b ∷ bs → class_of b ≡ Other
symbol_first s b bs e = other_is (class_of b) (ap (first_is (λ b. is_other (class_of b))) (sym e) ∙ each (λ s. first_is (λ b. is_other (class_of b)) (spelling s)) refl s)

-- a spelling is that of one symbol
itself : (s : Sym) → symbol_of (spelling s) ≡ Some s
itself Shl = refl
itself Shr = refl
itself Le = refl
itself Ge = refl
itself EqEq = refl
itself NotEq = refl
itself AndAnd = refl
itself OrOr = refl
itself Plus = refl
itself Minus = refl
itself Star = refl
itself Slash = refl
itself Percent = refl
itself Less = refl
itself Greater = refl
itself Assign = refl
itself Bang = refl
itself Tilde = refl
itself Amp = refl
itself Bar = refl
itself Caret = refl
itself Question = refl
itself Colon = refl
itself Semi = refl
itself Comma = refl
itself Dot = refl
itself OpenParen = refl
itself CloseParen = refl
itself OpenBracket = refl
itself CloseBracket = refl
itself OpenBrace = refl
itself CloseBrace = refl
itself Hash = refl

pub spelling_one : (s t : Sym) → spelling s ≡ spelling t → s ≡ t
spelling_one s t e = inside (sym (itself s) ∙ ap symbol_of e ∙ itself t)

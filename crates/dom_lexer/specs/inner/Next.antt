-- What stands first in a text, found from its first bytes. A name that ends in `_by` goes by cases on what was found. Only
-- proofs and contracts of private functions cite this.
use Rattle.std.specs.Prelude.{ℕ, ◌+◌, Bool, true, false, ◌&&◌, ◌==◌, nat_le, List, [], ◌∷◌, Option, Some, None, drop, take, if◌then◌else◌}
use Rattle.std.specs.List.{prefix_len, find}
use Rattle.std.specs.Char.{is_ascii_digit, is_ascii_hexdigit}
use Rattle.dom_lexer.specs.Bytes.{is_space, number_value, is_x}
use Rattle.dom_words.specs.Spelling.{is_word_start, is_word_byte}
use Rattle.dom_lexer.specs.Text.{spelling, first_is, is_no_feed, starts, line_mark, open_mark, close_mark, greatest_number}
use Rattle.dom_lexer.specs.declared.token.Sym.{Sym}
use Rattle.dom_lexer.specs.declared.token.Sym.TheVariants.{Shl, Shr, Le, Ge, EqEq, NotEq, AndAnd, OrOr, Plus, Minus, Star, Slash, Percent, Less, Greater, Assign, Bang, Tilde, Amp, Bar, Caret, Question, Colon, Semi, Comma, Dot, OpenParen, CloseParen, OpenBracket, CloseBracket, OpenBrace, CloseBrace, Hash}
use Rattle.dom_lexer.specs.declared.next.Class.{Class}
use Rattle.dom_lexer.specs.declared.next.Class.TheVariants.{Blank, Letter, Digit, Other}
use Rattle.dom_lexer.specs.declared.next.Form.{Form}
use Rattle.dom_lexer.specs.declared.next.Form.TheVariants.{Letters, Digits, TooBig, Touched, Symbol}
use Rattle.dom_lexer.specs.declared.next.Next.{Next}
use Rattle.dom_lexer.specs.declared.next.Next.TheVariants.{Gap, Unclosed, Nothing, Start}

-- all symbols, those of two bytes first
abbrev pub symbols : List Sym
symbols = Shl ∷ Shr ∷ Le ∷ Ge ∷ EqEq ∷ NotEq ∷ AndAnd ∷ OrOr ∷ Plus ∷ Minus ∷ Star ∷ Slash ∷ Percent ∷ Less ∷ Greater ∷ Assign ∷ Bang ∷ Tilde ∷ Amp ∷ Bar ∷ Caret ∷ Question ∷ Colon ∷ Semi ∷ Comma ∷ Dot ∷ OpenParen ∷ CloseParen ∷ OpenBracket ∷ CloseBracket ∷ OpenBrace ∷ CloseBrace ∷ Hash ∷ []

-- the first of them that a text begins with
abbrev pub symbol_of : List ℕ → Option Sym
symbol_of text = find (λ s. starts (spelling s) text) symbols

-- what a byte may start, by whether it is white space, a letter or `_`, or a digit
abbrev pub class_by : Bool → Bool → Bool → Class
class_by true letter digit = Blank
class_by false true digit = Letter
class_by false false true = Digit
class_by false false false = Other

-- what a byte may start
abbrev pub class_of : ℕ → Class
class_of b = class_by (is_space b) (is_word_start b) (is_ascii_digit b)

-- behind a `0` these bytes make a hexadecimal number: `x` or `X`, and a hexadecimal digit
abbrev pub hex_starts : List ℕ → Bool
hex_starts [] = false
hex_starts (x ∷ ds) = is_x x && first_is is_ascii_hexdigit ds

-- how long the longest number is that begins with `0`, by whether it is hexadecimal; these bytes stand behind the `0`
abbrev pub hex_by : Bool → List ℕ → ℕ
hex_by true bs = 2 + prefix_len is_ascii_hexdigit (drop 1 bs)
hex_by false bs = 1

-- the same, from the bytes behind the `0` alone
abbrev pub hex_len : List ℕ → ℕ
hex_len bs = hex_by (hex_starts bs) bs

-- how long the longest number is that a text begins with, where it begins with a digit
abbrev pub number_len : List ℕ → ℕ
number_len [] = 0
number_len (b ∷ bs) = if b == 48 then hex_len bs else 1 + prefix_len is_ascii_digit bs

-- a value, where it is at most the limit
abbrev pub up_to : ℕ → ℕ → Option ℕ
up_to limit n = if nat_le n limit then Some n else None

-- the form of a number: by its value, if that is at most the limit, its length, and whether a word's byte follows
abbrev pub form_by : Option ℕ → ℕ → Bool → Form
form_by None length touched = TooBig
form_by (Some value) length true = Touched length
form_by (Some value) length false = Digits value length

-- the form of the longest number that a text begins with
abbrev pub number_form : List ℕ → Form
number_form text = form_by (up_to greatest_number (number_value (take (number_len text) text))) (number_len text) (first_is is_word_byte (drop (number_len text) text))

-- one byte more
abbrev pub one_more : Option ℕ → Option ℕ
one_more None = None
one_more (Some n) = Some (n + 1)

-- how many bytes there are up to and with the first `*/`; `None` where there is none
abbrev pub close_len : List ℕ → Option ℕ
close_len [] = None
close_len (b ∷ bs) = if starts close_mark (b ∷ bs) then Some 2 else one_more (close_len bs)

-- a comment between marks, by how many bytes it has behind its `/*`
abbrev pub block_next : Option ℕ → Next
block_next None = Unclosed
block_next (Some n) = Gap (n + 2)

-- a symbol, or nothing that may stand there
abbrev pub symbol_next : Option Sym → Next
symbol_next None = Nothing
symbol_next (Some s) = Start (Symbol s)

-- a comment or a symbol, by whether the text begins with `//` and whether with `/*`
abbrev pub mark_by : Bool → Bool → List ℕ → Next
mark_by true block text = Gap (2 + prefix_len is_no_feed (drop 2 text))
mark_by false true text = block_next (close_len (drop 2 text))
mark_by false false text = symbol_next (symbol_of text)

-- the comment or the symbol that a text begins with
abbrev pub mark_next : List ℕ → Next
mark_next text = mark_by (starts line_mark text) (starts open_mark text) text

-- what stands first, by what its first byte may start
abbrev pub next_by : Class → ℕ → List ℕ → Next
next_by Blank b bs = Gap 1
next_by Letter b bs = Start (Letters (1 + prefix_len is_word_byte bs))
next_by Digit b bs = Start (number_form (b ∷ bs))
next_by Other b bs = mark_next (b ∷ bs)

-- what stands first in a text
abbrev pub next_of : List ℕ → Next
next_of [] = Nothing
next_of (b ∷ bs) = next_by (class_of b) b bs

-- A text as a row of white space, comments and tokens, and the fault that stands first in one.
use Rattle.std.specs.Prelude.{◌≡◌, ℕ, ◌+◌, ◌-◌, ◌<◌, ◌≤◌, ◌⊎◌, Bool, true, false, ◌&&◌, ◌||◌, not, ◌==◌, List, [], ◌∷◌, ◌++◌, length, drop, codes}
use Rattle.std.specs.List.{list_all}
use Rattle.std.specs.Char.{is_ascii_digit}
use Rattle.dom_lexer.specs.Bytes.{is_space, is_number, number_value}
use Rattle.dom_words.specs.Spelling.{is_word, is_word_byte, is_word_start}
use Rattle.dom_lexer.specs.declared.token.Sym.{Sym}
use Rattle.dom_lexer.specs.declared.token.Sym.TheVariants.{Shl, Shr, Le, Ge, EqEq, NotEq, AndAnd, OrOr, Plus, Minus, Star, Slash, Percent, Less, Greater, Assign, Bang, Tilde, Amp, Bar, Caret, Question, Colon, Semi, Comma, Dot, OpenParen, CloseParen, OpenBracket, CloseBracket, OpenBrace, CloseBrace, Hash}
use Rattle.dom_lexer.specs.declared.token.TokenKind.{TokenKind}
use Rattle.dom_lexer.specs.declared.token.TokenKind.TheVariants.{Word, Number, Sym as Symbol}
use Rattle.dom_lexer.specs.declared.token.Token.{Token}
use Rattle.dom_lexer.specs.declared.token.LexFault.{LexFault}
use Rattle.dom_lexer.specs.declared.token.LexFault.TheVariants.{BadByte, OpenComment, BigLiteral, TooManyTokens, Memory}

-- how each symbol is spelled
abbrev pub spelling : Sym → List ℕ
spelling Shl = codes "<<"
spelling Shr = codes ">>"
spelling Le = codes "<="
spelling Ge = codes ">="
spelling EqEq = codes "=="
spelling NotEq = codes "!="
spelling AndAnd = codes "&&"
spelling OrOr = codes "||"
spelling Plus = codes "+"
spelling Minus = codes "-"
spelling Star = codes "*"
spelling Slash = codes "/"
spelling Percent = codes "%"
spelling Less = codes "<"
spelling Greater = codes ">"
spelling Assign = codes "="
spelling Bang = codes "!"
spelling Tilde = codes "~"
spelling Amp = codes "&"
spelling Bar = codes "|"
spelling Caret = codes "^"
spelling Question = codes "?"
spelling Colon = codes ":"
spelling Semi = codes ";"
spelling Comma = codes ","
spelling Dot = codes "."
spelling OpenParen = codes "("
spelling CloseParen = codes ")"
spelling OpenBracket = codes "["
spelling CloseBracket = codes "]"
spelling OpenBrace = codes "{"
spelling CloseBrace = codes "}"
spelling Hash = codes "#"

-- w has the form P, and nothing longer has it in a text that goes on with `after` behind w
abbrev pub IsLongest : (List ℕ → Type 0) → List ℕ → List ℕ → Type 0
IsLongest P w after = P w × ((v rest : List ℕ) → v ++ rest ≡ w ++ after → P v → length v ≤ length w)

-- the forms of words, of numbers and of symbols
abbrev pub IsWord : List ℕ → Type 0
IsWord w = is_word w ≡ true

abbrev pub IsNumber : List ℕ → Type 0
IsNumber w = is_number w ≡ true

abbrev pub IsSymbol : List ℕ → Type 0
IsSymbol w = (s : Sym) × (w ≡ spelling s)

-- the text begins with these bytes
abbrev pub starts : List ℕ → List ℕ → Bool
starts [] text = true
starts (b ∷ bs) [] = false
starts (b ∷ bs) (c ∷ text) = b == c && starts bs text

-- these bytes stand somewhere in the text
abbrev pub has_mark : List ℕ → List ℕ → Bool
has_mark mark [] = starts mark []
has_mark mark (b ∷ text) = starts mark (b ∷ text) || has_mark mark text

-- there is a first byte, and it is of this kind
abbrev pub first_is : (ℕ → Bool) → List ℕ → Bool
first_is p [] = false
first_is p (b ∷ bs) = p b

-- any byte but a line feed
abbrev pub is_no_feed : ℕ → Bool
is_no_feed b = not (b == 10)

-- what begins a comment up to the end of its line
abbrev pub line_mark : List ℕ
line_mark = codes "//"

-- what begins a comment that `*/` ends
abbrev pub open_mark : List ℕ
open_mark = codes "/*"

-- what ends such a comment
abbrev pub close_mark : List ℕ
close_mark = codes "*/"

-- the greatest value of a number
abbrev pub greatest_number : ℕ
greatest_number = 4294967295

-- a piece of a text: a byte of white space, a comment up to the end of its line, a comment between its marks, a token
pub data Piece : Type 0 where
  space : ℕ → Piece
  line : List ℕ → Piece
  block : List ℕ → Piece
  token : TokenKind → List ℕ → Piece

-- the bytes of a piece
abbrev pub bytes_of : Piece → List ℕ
bytes_of (space b) = b ∷ []
bytes_of (line body) = line_mark ++ body
bytes_of (block body) = open_mark ++ (body ++ close_mark)
bytes_of (token kind w) = w

-- With `after` behind them, the bytes w are this token: the longest word, number or symbol at their place. No comment
-- starts where a symbol does, and no letter, digit or `_` follows a number.
abbrev pub IsToken : TokenKind → List ℕ → List ℕ → Type 0
IsToken (Word name) w after = IsLongest IsWord w after × (name ≡ w)
IsToken (Number n) w after = IsLongest IsNumber w after × ((number_value w ≡ n) × ((n ≤ greatest_number) × (first_is is_word_byte after ≡ false)))
IsToken (Symbol s) w after = IsLongest IsSymbol w after × ((w ≡ spelling s) × ((starts line_mark (w ++ after) ≡ false) × (starts open_mark (w ++ after) ≡ false)))

-- This piece may stand before the bytes `after`. A comment up to the end of its line ends before a line feed or the end of
-- the text, and one between marks ends at its first `*/`.
abbrev pub Stands : Piece → List ℕ → Type 0
Stands (space b) after = is_space b ≡ true
Stands (line body) after = (list_all is_no_feed body ≡ true) × (first_is is_no_feed after ≡ false)
Stands (block body) after = has_mark close_mark body ≡ false
Stands (token kind w) after = IsToken kind w after

-- the pieces, each where it may stand, lead from a text to the rest of it
abbrev pub Row : List Piece → List ℕ → List ℕ → Type 0
Row [] text rest = text ≡ rest
Row (p ∷ ps) text rest = (after : List ℕ) × ((text ≡ bytes_of p ++ after) × (Stands p after × Row ps after rest))

-- the token of a piece, if it is one, with its offset
abbrev pub tokens_of : ℕ → Piece → List Token
tokens_of at (space b) = []
tokens_of at (line body) = []
tokens_of at (block body) = []
tokens_of at (token kind w) = record { at = at; kind = kind } ∷ []

-- the tokens of pieces, the first of which stands at an offset
abbrev pub tokens_from : ℕ → List Piece → List Token
tokens_from at [] = []
tokens_from at (p ∷ ps) = tokens_of at p ++ tokens_from (at + length (bytes_of p)) ps

-- the text is a row of pieces, and the tokens are those among them
pub record Lexed (text : List ℕ) (tokens : List Token) : Type 0 where
  pub pieces : List Piece
  pub row : Row pieces text []
  pub listed : tokens_from 0 pieces ≡ tokens

-- the most tokens that a text may have
abbrev pub most_tokens : ℕ
most_tokens = 16384

-- the first byte starts no white space, comment or token
pub record StartsNothing (text : List ℕ) : Type 0 where
  pub some : 1 ≤ length text
  pub no_space : first_is is_space text ≡ false
  pub no_word : first_is is_word_start text ≡ false
  pub no_number : first_is is_ascii_digit text ≡ false
  pub no_symbol : (s : Sym) → starts (spelling s) text ≡ false

-- a symbol starts here, and no comment
pub record StartsSymbol (text : List ℕ) : Type 0 where
  pub no_line : starts line_mark text ≡ false
  pub no_block : starts open_mark text ≡ false
  pub symbol : Sym
  pub there : starts (spelling symbol) text ≡ true

-- a token starts here
abbrev pub StartsToken : List ℕ → Type 0
StartsToken text = (first_is is_word_start text ≡ true) ⊎ ((first_is is_ascii_digit text ≡ true) ⊎ StartsSymbol text)

-- a comment starts here that has no end
abbrev pub StartsOpenComment : List ℕ → Type 0
StartsOpenComment text = (starts open_mark text ≡ true) × (has_mark close_mark (drop 2 text) ≡ false)

-- the longest number at the front of a text
pub record BeginsNumber (text digits after : List ℕ) : Type 0 where
  pub whole : text ≡ digits ++ after
  pub longest : IsLongest IsNumber digits after

-- a number starts here that is too great
pub record StartsBigNumber (text : List ℕ) : Type 0 where
  pub digits : List ℕ
  pub after : List ℕ
  pub begins : BeginsNumber text digits after
  pub value : greatest_number < number_value digits

-- a number of n bytes starts here that is not too great, and a letter, a digit or `_` follows it
pub record StartsTouchedNumber (text : List ℕ) (n : ℕ) : Type 0 where
  pub digits : List ℕ
  pub after : List ℕ
  pub begins : BeginsNumber text digits after
  pub value : number_value digits ≤ greatest_number
  pub touched : first_is is_word_byte after ≡ true
  pub size : length digits ≡ n

-- What is wrong at the front of the rest of a text, which starts at an offset with so many tokens before it. A token that
-- would be one too many is told before its value is looked at.
abbrev pub IsFaultAt : ℕ → ℕ → List ℕ → LexFault → Type 0
IsFaultAt at count rest (BadByte place) = ((place ≡ at) × StartsNothing rest) ⊎ ((count < most_tokens) × ((n : ℕ) × ((place ≡ at + n) × StartsTouchedNumber rest n)))
IsFaultAt at count rest (OpenComment place) = (place ≡ at) × StartsOpenComment rest
IsFaultAt at count rest (BigLiteral place) = (place ≡ at) × ((count < most_tokens) × StartsBigNumber rest)
IsFaultAt at count rest (TooManyTokens place) = (place ≡ at) × ((most_tokens ≤ count) × StartsToken rest)
IsFaultAt at count rest Memory = ⊥

-- the first fault of a text: pieces lead up to it, with no more tokens than there may be
pub record IsFault (text : List ℕ) (fault : LexFault) : Type 0 where
  pub pieces : List Piece
  pub rest : List ℕ
  pub row : Row pieces text rest
  pub few : length (tokens_from 0 pieces) ≤ most_tokens
  pub wrong : IsFaultAt (length text - length rest) (length (tokens_from 0 pieces)) rest fault

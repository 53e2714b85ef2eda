-- What tokens are to the grammar.
use Rattle.std.specs.Prelude.{ℕ, ◌+◌, Bool, true, false, List, [], ◌∷◌, Option, Some, None, if◌then◌else◌, slice_get, codes}
use Rattle.dom_words.specs.Names.{has_name, is_same}
use Rattle.dom_words.specs.Spelling.{forbidden_words}
use Rattle.dom_words.specs.declared.operators.BinOp.{BinOp}
use Rattle.dom_words.specs.declared.operators.BinOp.TheVariants as bin
use Rattle.dom_lexer.specs.declared.token.Sym.{Sym}
use Rattle.dom_lexer.specs.declared.token.Sym.TheVariants as sym
use Rattle.dom_lexer.specs.declared.token.Token.{Token}
use Rattle.dom_lexer.specs.declared.token.TokenKind.{TokenKind}
use Rattle.dom_lexer.specs.declared.token.TokenKind.TheVariants as token
use Rattle.dom_parser.specs.declared.kinds.Fixed.{Fixed}
use Rattle.dom_parser.specs.declared.kinds.Fixed.TheVariants as fixed
use Rattle.dom_parser.specs.declared.kinds.Kind.{Kind}
use Rattle.dom_parser.specs.declared.kinds.Kind.TheVariants as kind

-- what each of the language's own words is
abbrev pub own_kinds : List (List ℕ × Fixed)
own_kinds =
    (codes "struct", fixed.Struct) ∷ (codes "int", fixed.Int) ∷ (codes "void", fixed.Void)
    ∷ (codes "if", fixed.If) ∷ (codes "else", fixed.Else) ∷ (codes "define", fixed.Define) ∷ []

-- what a word is by such a table; `None` where it is not in it
abbrev pub found_in : List (List ℕ × Fixed) → List ℕ → Option Fixed
found_in [] text = None
found_in (entry ∷ table) text = if is_same text entry.0 then Some entry.1 else found_in table text

-- what a word is, by what it is among the own words, and whether it is forbidden
abbrev pub kind_by : Option Fixed → Bool → Kind
kind_by (Some own) forbidden = kind.Fixed own
kind_by None true = kind.Forbidden
kind_by None false = kind.Name

-- what a word is to the grammar: an own word, a forbidden one, or a name
abbrev pub word_kind : List ℕ → Kind
word_kind text = kind_by (found_in own_kinds text) (has_name forbidden_words text)

-- what a symbol is to the grammar; `-` is the operator `Sub` wherever it stands
abbrev pub symbol_kind : Sym → Kind
symbol_kind sym.Shl = kind.Operator bin.Shl
symbol_kind sym.Shr = kind.Operator bin.Shr
symbol_kind sym.Le = kind.Operator bin.Le
symbol_kind sym.Ge = kind.Operator bin.Ge
symbol_kind sym.EqEq = kind.Operator bin.Eq
symbol_kind sym.NotEq = kind.Operator bin.Ne
symbol_kind sym.AndAnd = kind.Operator bin.And
symbol_kind sym.OrOr = kind.Operator bin.Or
symbol_kind sym.Plus = kind.Operator bin.Add
symbol_kind sym.Minus = kind.Operator bin.Sub
symbol_kind sym.Star = kind.Operator bin.Mul
symbol_kind sym.Slash = kind.Operator bin.Div
symbol_kind sym.Percent = kind.Operator bin.Rem
symbol_kind sym.Less = kind.Operator bin.Lt
symbol_kind sym.Greater = kind.Operator bin.Gt
symbol_kind sym.Assign = kind.Fixed fixed.Assign
symbol_kind sym.Bang = kind.Not
symbol_kind sym.Tilde = kind.Inv
symbol_kind sym.Amp = kind.Operator bin.BitAnd
symbol_kind sym.Bar = kind.Operator bin.BitOr
symbol_kind sym.Caret = kind.Operator bin.BitXor
symbol_kind sym.Question = kind.Fixed fixed.Question
symbol_kind sym.Colon = kind.Fixed fixed.Colon
symbol_kind sym.Semi = kind.Fixed fixed.Semi
symbol_kind sym.Comma = kind.Fixed fixed.Comma
symbol_kind sym.Dot = kind.Fixed fixed.Dot
symbol_kind sym.OpenParen = kind.Fixed fixed.OpenParen
symbol_kind sym.CloseParen = kind.Fixed fixed.CloseParen
symbol_kind sym.OpenBracket = kind.Fixed fixed.OpenBracket
symbol_kind sym.CloseBracket = kind.Fixed fixed.CloseBracket
symbol_kind sym.OpenBrace = kind.Fixed fixed.OpenBrace
symbol_kind sym.CloseBrace = kind.Fixed fixed.CloseBrace
symbol_kind sym.Hash = kind.Fixed fixed.Hash

-- what a token is to the grammar
abbrev pub token_kind : TokenKind → Kind
token_kind (token.Word text) = word_kind text
token_kind (token.Number n) = kind.Number n
token_kind (token.Sym s) = symbol_kind s

-- the bytes of a word
abbrev pub word_text : TokenKind → List ℕ
word_text (token.Word text) = text
word_text (token.Number n) = []
word_text (token.Sym s) = []

-- the bytes, of a name alone
abbrev pub name_text : Kind → List ℕ → List ℕ
name_text kind.Name text = text
name_text _ text = []

-- a token as the grammar sees it: its offset, what it is, and the bytes of a name
pub record Mark : Type 0 where
  pub place : ℕ
  pub kind : Kind
  pub text : List ℕ

-- a token as the grammar sees it
abbrev pub mark : Token → Mark
mark t = record { place = t.at; kind = token_kind t.kind; text = name_text (token_kind t.kind) (word_text t.kind) }

-- what stands at a place, and its offset
abbrev pub kind_in : Option Token → Kind
kind_in None = kind.End
kind_in (Some t) = token_kind t.kind

abbrev pub stands : List Token → ℕ → Kind
stands l n = kind_in (slice_get l n)

abbrev pub offset_in : Option Token → ℕ
offset_in None = 0
offset_in (Some t) = t.at

abbrev pub offset_at : List Token → ℕ → ℕ
offset_at l n = offset_in (slice_get l n)

-- the level of an operator in the grammar: the higher, the more weakly it binds
abbrev pub rank_of : BinOp → ℕ
rank_of bin.Mul = 1
rank_of bin.Div = 1
rank_of bin.Rem = 1
rank_of bin.Add = 2
rank_of bin.Sub = 2
rank_of bin.Shl = 3
rank_of bin.Shr = 3
rank_of bin.Lt = 4
rank_of bin.Le = 4
rank_of bin.Gt = 4
rank_of bin.Ge = 4
rank_of bin.Eq = 5
rank_of bin.Ne = 5
rank_of bin.BitAnd = 6
rank_of bin.BitXor = 7
rank_of bin.BitOr = 8
rank_of bin.And = 9
rank_of bin.Or = 10

-- whether a "-" or a number stands there
abbrev pub is_minus : Kind → Bool
is_minus (kind.Operator bin.Sub) = true
is_minus _ = false

abbrev pub is_number : Kind → Bool
is_number (kind.Number n) = true
is_number _ = false

-- whether a number comes first, and whether one comes after a place
abbrev pub number_first : List Mark → Bool
number_first [] = false
number_first (t ∷ l) = is_number t.kind

abbrev pub ahead : List Token → ℕ → Bool
ahead l p = is_number (stands l (p + 1))

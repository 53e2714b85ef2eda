-- What the parser's functions ask of a token at a place.
use Rattle.std.specs.Prelude.{ℕ, Bool, true, false, List, [], map, drop, Option, Some, None, if◌then◌else◌, slice_get, nat_eq}
use Rattle.dom_words.specs.declared.operators.BinOp.{BinOp}
use Rattle.dom_words.specs.declared.operators.BinOp.TheVariants as bin
use Rattle.dom_words.specs.declared.operators.UnOp.{UnOp}
use Rattle.dom_words.specs.declared.operators.UnOp.TheVariants as un
use Rattle.dom_lexer.specs.declared.token.Token.{Token}
use Rattle.dom_parser.specs.declared.kinds.Fixed.{Fixed}
use Rattle.dom_parser.specs.declared.kinds.Fixed.TheVariants as fixed
use Rattle.dom_parser.specs.declared.kinds.Kind.{Kind}
use Rattle.dom_parser.specs.declared.kinds.Kind.TheVariants as kind
use Rattle.dom_parser.specs.Tokens.{Mark, mark, word_text, rank_of}

-- the tokens from a place on
abbrev pub rest : List Token → ℕ → List Mark
rest l n = map mark (drop n l)

-- the bytes of a word there
abbrev pub text_in : Option Token → List ℕ
text_in None = []
text_in (Some t) = word_text t.kind

abbrev pub text_at : List Token → ℕ → List ℕ
text_at l n = text_in (slice_get l n)

-- a number for each own word and symbol, by which they are compared
abbrev pub fixed_number : Fixed → ℕ
fixed_number fixed.Struct = 0
fixed_number fixed.Int = 1
fixed_number fixed.Void = 2
fixed_number fixed.If = 3
fixed_number fixed.Else = 4
fixed_number fixed.Define = 5
fixed_number fixed.Assign = 6
fixed_number fixed.Question = 7
fixed_number fixed.Colon = 8
fixed_number fixed.Semi = 9
fixed_number fixed.Comma = 10
fixed_number fixed.Dot = 11
fixed_number fixed.OpenParen = 12
fixed_number fixed.CloseParen = 13
fixed_number fixed.OpenBracket = 14
fixed_number fixed.CloseBracket = 15
fixed_number fixed.OpenBrace = 16
fixed_number fixed.CloseBrace = 17
fixed_number fixed.Hash = 18

-- whether this own word or symbol stands there
abbrev pub is_fixed : Fixed → Kind → Bool
is_fixed f (kind.Fixed g) = nat_eq (fixed_number g) (fixed_number f)
is_fixed f _ = false

-- whether a name stands there
abbrev pub is_name : Kind → Bool
is_name kind.Name = true
is_name _ = false

-- the number there, if it is one
abbrev pub number_of : Kind → Option ℕ
number_of (kind.Number n) = Some n
number_of _ = None

-- the operator of this level there, if it is one
abbrev pub operator_of : ℕ → Kind → Option BinOp
operator_of n (kind.Operator o) = if nat_eq (rank_of o) n then Some o else None
operator_of n _ = None

-- `-` before an operand
abbrev pub negation : BinOp → Option UnOp
negation bin.Sub = Some un.Neg
negation _ = None

-- the operator before an operand there, if it is one
abbrev pub unary_of : Kind → Option UnOp
unary_of (kind.Operator o) = negation o
unary_of kind.Inv = Some un.Inv
unary_of kind.Not = Some un.Not
unary_of _ = None

-- a fact where the test is passed
abbrev pub Where : Bool → Type 0 → Type 0
Where true P = P
Where false P = Unit {0}

-- whether a token stands there
abbrev pub is_there : Kind → Bool
is_there kind.End = false
is_there kind.Name = true
is_there (kind.Number w) = true
is_there (kind.Fixed f) = true
is_there kind.Inv = true
is_there kind.Not = true
is_there (kind.Operator o) = true
is_there kind.Forbidden = true

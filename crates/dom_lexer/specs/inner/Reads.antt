-- What the lexer's functions answer. Only proofs and contracts of private functions cite this.
use Rattle.std.specs.Prelude.{◌≡◌, ℕ, ◌+◌, ◌<◌, ◌≤◌, List, [], ◌++◌, length, drop}
use Rattle.dom_lexer.specs.Text.{Piece, token, bytes_of, spelling, Stands, tokens_of, StartsNothing, StartsToken, StartsOpenComment, StartsBigNumber, StartsTouchedNumber, IsFaultAt, most_tokens}
use Rattle.dom_lexer.specs.declared.token.TokenKind.{TokenKind}
use Rattle.dom_lexer.specs.declared.token.TokenKind.TheVariants.{Word, Number, Sym as Sign}
use Rattle.dom_lexer.specs.declared.token.Token.{Token}
use Rattle.dom_lexer.specs.declared.token.LexFault.{LexFault}
use Rattle.dom_lexer.specs.declared.token.LexFault.TheVariants.{BadByte, OpenComment, BigLiteral, TooManyTokens, Memory}
use Rattle.dom_lexer.specs.declared.next.Form.{Form}
use Rattle.dom_lexer.specs.declared.next.Form.TheVariants.{Letters, Digits, TooBig, Touched, Symbol}
use Rattle.dom_lexer.specs.declared.next.Next.{Next}
use Rattle.dom_lexer.specs.declared.next.Next.TheVariants.{Gap, Unclosed, Nothing, Start}

-- the text begins with this piece, of n bytes
pub record Begins (text : List ℕ) (n : ℕ) (p : Piece) : Type 0 where
  pub some : 1 ≤ n
  pub after : List ℕ
  pub whole : text ≡ bytes_of p ++ after
  pub size : length (bytes_of p) ≡ n
  pub stands : Stands p after

-- the text begins with white space or a comment, of n bytes
pub record BeginsGap (text : List ℕ) (n : ℕ) : Type 0 where
  pub piece : Piece
  pub begins : Begins text n piece
  pub no_token : (at : ℕ) → tokens_of at piece ≡ []

-- the text begins with this token, of n bytes
pub record BeginsToken (text : List ℕ) (kind : TokenKind) (n : ℕ) : Type 0 where
  pub bytes : List ℕ
  pub begins : Begins text n (token kind bytes)

-- a token of this form starts here, or a number that is too great or that a letter, a digit or `_` follows
abbrev pub IsForm : List ℕ → Form → Type 0
IsForm text (Letters n) = (w : List ℕ) × Begins text n (token (Word w) w)
IsForm text (Digits value n) = BeginsToken text (Number value) n
IsForm text TooBig = StartsBigNumber text
IsForm text (Touched n) = StartsTouchedNumber text n
IsForm text (Symbol s) = BeginsToken text (Sign s) (length (spelling s))

-- this stands first in the text
abbrev pub IsNext : List ℕ → Next → Type 0
IsNext text (Gap n) = BeginsGap text n
IsNext text Unclosed = StartsOpenComment text
IsNext text Nothing = StartsNothing text
IsNext text (Start form) = StartsToken text × IsForm text form

-- the fault of a token that starts at an offset
abbrev pub IsTokenFault : ℕ → List ℕ → LexFault → Type 0
IsTokenFault at rest (BadByte place) = (n : ℕ) × ((place ≡ at + n) × StartsTouchedNumber rest n)
IsTokenFault at rest (OpenComment place) = ⊥
IsTokenFault at rest (BigLiteral place) = (place ≡ at) × StartsBigNumber rest
IsTokenFault at rest (TooManyTokens place) = ⊥
IsTokenFault at rest Memory = Unit {0}

-- from offset `at` one piece leads on to offset `next`, and where it is a token the list has grown by it
pub record Grows (text : List ℕ) (at : ℕ) (old : List Token) (next : ℕ) (new : List Token) : Type 0 where
  pub piece : Piece
  pub forth : at < next
  pub within : next ≤ length text
  pub whole : drop at text ≡ bytes_of piece ++ drop next text
  pub size : next ≡ at + length (bytes_of piece)
  pub stands : Stands piece (drop next text)
  pub tokens : new ≡ old ++ tokens_of at piece
  pub few : length new ≤ most_tokens

-- a fault that has the property, or want of memory
abbrev pub OrMemory : (LexFault → Type 0) → LexFault → Type 0
OrMemory P (BadByte place) = P (BadByte place)
OrMemory P (OpenComment place) = P (OpenComment place)
OrMemory P (BigLiteral place) = P (BigLiteral place)
OrMemory P (TooManyTokens place) = P (TooManyTokens place)
OrMemory P Memory = Unit {0}

-- the fault at the front of the rest of a text, which starts at an offset with so many tokens before it, or want of memory
abbrev pub FaultHere : List ℕ → ℕ → ℕ → LexFault → Type 0
FaultHere rest at count fault = OrMemory (IsFaultAt at count rest) fault

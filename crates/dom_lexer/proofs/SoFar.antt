-- What is known of a text that is read in part, and of its first fault.
use Rattle.std.specs.Prelude.{◌≡◌, ℕ, ◌+◌, ◌≤◌, List, length, drop, Option, Some, None}
use Rattle.dom_lexer.specs.Text.{Piece, Row, tokens_from, IsFault, most_tokens}
use Rattle.dom_lexer.specs.inner.Reads.{OrMemory}
use Rattle.dom_lexer.specs.declared.token.Token.{Token}
use Rattle.dom_lexer.specs.declared.token.LexFault.{LexFault}

-- the first fault of a text, or want of memory
abbrev pub IsFaultOrMemory : List ℕ → LexFault → Type 0
IsFaultOrMemory text fault = OrMemory (IsFault text) fault

-- the pieces read so far
pub record SoFar (text : List ℕ) (at : ℕ) (tokens : List Token) : Type 0 where
  pub pieces : List Piece
  pub within : at ≤ length text
  pub row : Row pieces text (drop at text)
  pub listed : tokens_from 0 pieces ≡ tokens
  pub few : length tokens ≤ most_tokens

-- so many more
abbrev pub plus : ℕ → Option ℕ → Option ℕ
plus n None = None
plus n (Some k) = Some (n + k)

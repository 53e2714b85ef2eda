-- The words among tokens.
use Rattle.std.specs.Prelude.{◌≡◌, ◌≤◌, ℕ, true, List, [], ◌∷◌, length, Option, Some, None}
use Rattle.std.specs.List.{filter_map, list_all, sum_by}
use Rattle.dom_words.specs.Spelling.{is_word}
use Rattle.dom_lexer.specs.declared.token.TokenKind.{TokenKind}
use Rattle.dom_lexer.specs.declared.token.TokenKind.TheVariants.{Word, Number, Sym as Symbol}
use Rattle.dom_lexer.specs.declared.token.Token.{Token}

-- the bytes of a word; `None` for all other tokens
abbrev pub word_of : TokenKind → Option (List ℕ)
word_of (Word w) = Some w
word_of (Number n) = None
word_of (Symbol s) = None

-- the words among tokens, in order
abbrev pub words_of : List Token → List (List ℕ)
words_of tokens = filter_map (λ t. word_of t.kind) tokens

-- each word of a text has the form of a word, and all together they are no longer than the text
pub record AreWordsOf (text : List ℕ) (tokens : List Token) : Type 0 where
  pub spelled : list_all is_word (words_of tokens) ≡ true
  pub fit : sum_by length (words_of tokens) ≤ length text

-- one word and nothing else
abbrev pub word_alone : List ℕ → List Token
word_alone word = record { at = 0; kind = Word word } ∷ []

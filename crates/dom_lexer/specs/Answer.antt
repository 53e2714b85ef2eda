-- The answer of a text: its tokens, or its first fault.
use Rattle.std.specs.Prelude.{◌≡◌, ◌≤◌, ◌⊎◌, ℕ, List, length, Result, Ok, Err}
use Rattle.dom_lexer.specs.Text.{Lexed, IsFault, most_tokens}
use Rattle.dom_lexer.specs.declared.token.Token.{Token}
use Rattle.dom_lexer.specs.declared.token.LexFault.{LexFault}
use Rattle.dom_lexer.specs.declared.token.LexFault.TheVariants.{Memory}

-- this is the answer of a text: its tokens, no more than there may be, or its first fault
abbrev pub IsAnswer : List ℕ → Result (List Token) LexFault → Type 0
IsAnswer text (Ok tokens) = Lexed text tokens × (length tokens ≤ most_tokens)
IsAnswer text (Err fault) = IsFault text fault

-- the fault is answered only where it is the text's first; and where it is, it is answered, or want of memory
abbrev pub IsAnsweredExactly : {T : Type 0} → LexFault → List ℕ → Result T LexFault → Type 0
IsAnsweredExactly fault text result = (result ≡ Err fault → IsFault text fault) × (IsFault text fault → (result ≡ Err fault) ⊎ (result ≡ Err Memory))

-- The answer of a text is given exactly where it is the answer.
use Rattle.std.proofs.Common.{◌≡◌, ℕ, ◌≤◌, ◌⊎◌, inl, inr, List, [], length, drop, Result, Ok, Err, refl, ap, subst}
use Rattle.std.proofs.lemmas.List.{drop_all}
use Rattle.dom_lexer.specs.Text.{Lexed, Row, IsFault, most_tokens}
use Rattle.dom_lexer.specs.Answer.{IsAnsweredExactly}
use Rattle.dom_lexer.proofs.SoFar.{SoFar, IsFaultOrMemory}
use Rattle.dom_lexer.specs.declared.token.Token.{Token}
use Rattle.dom_lexer.specs.declared.token.LexFault.{LexFault}
use Rattle.dom_lexer.specs.declared.token.LexFault.TheVariants.{BadByte, OpenComment, BigLiteral, TooManyTokens, Memory}
use Rattle.dom_lexer.proofs.One.{one_fault, tokens_fault}

-- a text that is read to its end
pub lexed_all : (text : List ℕ) (at : ℕ) (tokens : List Token) → SoFar text at tokens → length text ≤ at → Lexed text tokens
lexed_all text at tokens s h =
    let none : drop at text ≡ [] = drop_all at text h in
    record { pieces = s.pieces; row = subst (Row s.pieces text) none s.row; listed = s.listed }

pub finished : {T : Type 0} (text : List ℕ) (at : ℕ) (tokens : List Token) (r : T) (fault : LexFault) → SoFar text at tokens → length text ≤ at → IsAnsweredExactly {T = T} fault text (Ok r)
finished text at tokens r fault s h = (λ e. absurd (cc), λ l. absurd (tokens_fault text tokens fault (lexed_all text at tokens s h) s.few l))

-- a fault is answered
same_fault : {T : Type 0} (f g : LexFault) → ◌≡◌ {A = Result T LexFault} (Err f) (Err g) → f ≡ g
same_fault f g e = cc

answered : {T : Type 0} (text : List ℕ) (f g : LexFault) → IsFaultOrMemory text f → (IsFaultOrMemory text g → IsFault text g) → IsAnsweredExactly {T = T} g text (Err f)
answered {T} text f g h plain = (λ e. plain (subst (IsFaultOrMemory text) (same_fault f g e) h), there f h)
  where
    there : (f : LexFault) → IsFaultOrMemory text f → IsFault text g → (◌≡◌ {A = Result T LexFault} (Err f) (Err g)) ⊎ (◌≡◌ {A = Result T LexFault} (Err f) (Err Memory))
    there (BadByte k) h l = inl (ap Err (one_fault text (BadByte k) g h l))
    there (OpenComment k) h l = inl (ap Err (one_fault text (OpenComment k) g h l))
    there (BigLiteral k) h l = inl (ap Err (one_fault text (BigLiteral k) g h l))
    there (TooManyTokens k) h l = inl (ap Err (one_fault text (TooManyTokens k) g h l))
    there Memory h l = inr refl

pub exact_bad_byte : {T : Type 0} (text : List ℕ) (f : LexFault) (at : ℕ) → IsFaultOrMemory text f → IsAnsweredExactly {T = T} (BadByte at) text (Err f)
exact_bad_byte text f at h = answered text f (BadByte at) h (λ k. k)

pub exact_open_comment : {T : Type 0} (text : List ℕ) (f : LexFault) (at : ℕ) → IsFaultOrMemory text f → IsAnsweredExactly {T = T} (OpenComment at) text (Err f)
exact_open_comment text f at h = answered text f (OpenComment at) h (λ k. k)

pub exact_big_literal : {T : Type 0} (text : List ℕ) (f : LexFault) (at : ℕ) → IsFaultOrMemory text f → IsAnsweredExactly {T = T} (BigLiteral at) text (Err f)
exact_big_literal text f at h = answered text f (BigLiteral at) h (λ k. k)

pub exact_too_many_tokens : {T : Type 0} (text : List ℕ) (f : LexFault) (at : ℕ) → IsFaultOrMemory text f → IsAnsweredExactly {T = T} (TooManyTokens at) text (Err f)
exact_too_many_tokens text f at h = answered text f (TooManyTokens at) h (λ k. k)

-- a text with tokens is refused for want of memory alone
pub only_memory : (text : List ℕ) (f : LexFault) (ts : List Token) → IsFaultOrMemory text f → Lexed text ts → length ts ≤ most_tokens → f ≡ Memory
only_memory text (BadByte k) ts h l few = absurd (tokens_fault text ts (BadByte k) l few h)
only_memory text (OpenComment k) ts h l few = absurd (tokens_fault text ts (OpenComment k) l few h)
only_memory text (BigLiteral k) ts h l few = absurd (tokens_fault text ts (BigLiteral k) l few h)
only_memory text (TooManyTokens k) ts h l few = absurd (tokens_fault text ts (TooManyTokens k) l few h)
only_memory text Memory ts h l few = refl

-- Every text has an answer.
use Rattle.std.proofs.Common.{◌≡◌, ℕ, zero, suc, ◌+◌, ◌≤◌, ◌<◌, ◌⊎◌, inl, inr, Bool, true, false, nat_le, List, [], ◌∷◌, ◌++◌, length, drop, Result, Ok, Err, refl, arith, length-drop}
use Rattle.std.proofs.lemmas.Bool.{leb-true, leb-false, cases_lt}
use Rattle.dom_lexer.specs.Text.{IsFault, StartsToken, most_tokens}
use Rattle.dom_lexer.specs.Answer.{IsAnswer}
use Rattle.dom_lexer.specs.inner.Next.{next_of}
use Rattle.dom_lexer.specs.inner.Reads.{BeginsToken, Grows, IsForm, IsNext}
use Rattle.dom_lexer.proofs.SoFar.{SoFar}
use Rattle.dom_lexer.specs.declared.token.Token.{Token}
use Rattle.dom_lexer.specs.declared.token.TokenKind.{TokenKind}
use Rattle.dom_lexer.specs.declared.token.TokenKind.TheVariants.{Word, Number, Sym as Sign}
use Rattle.dom_lexer.specs.declared.token.LexFault.{LexFault}
use Rattle.dom_lexer.specs.declared.token.LexFault.TheVariants.{BadByte, OpenComment, BigLiteral, TooManyTokens}
use Rattle.dom_lexer.specs.declared.next.Form.{Form}
use Rattle.dom_lexer.specs.declared.next.Form.TheVariants.{Letters, Digits, TooBig, Touched, Symbol}
use Rattle.dom_lexer.specs.declared.next.Next.{Next}
use Rattle.dom_lexer.specs.declared.next.Next.TheVariants.{Gap, Unclosed, Nothing, Start}
use Rattle.dom_lexer.proofs.Found.{found_at}
use Rattle.dom_lexer.proofs.Steps.{skipped, taken, grown, faulty}
use Rattle.dom_lexer.proofs.Exact.{lexed_all}

-- a further place up to which a text is read
record Further (text : List ℕ) (at : ℕ) : Type 0 where
  next : ℕ
  tokens : List Token
  forth : at < next
  so_far : SoFar text next tokens

abbrev Step : List ℕ → ℕ → Type 0
Step text at = Further text at ⊎ ((fault : LexFault) × IsFault text fault)

further : (text : List ℕ) (at : ℕ) (old : List Token) (next : ℕ) (new : List Token) → SoFar text at old → Grows text at old next new → Further text at
further text at old next new s g = record { next = next; tokens = new; forth = g.forth; so_far = grown text at old next new s g }

module _ (text : List ℕ) (at : ℕ) (tokens : List Token) (s : SoFar text at tokens) (h : at < length text) where
  with_token : (n : ℕ) (kind : TokenKind) → length tokens < most_tokens → BeginsToken (drop at text) kind n → Step text at
  with_token n kind few b =
      let new = tokens ++ record { at = at; kind = kind } ∷ [] in
      inl (further text at tokens (at + n) new s (taken text (drop at text) at n kind tokens new refl h few b refl))

  by_form : (form : Form) → length tokens < most_tokens → IsForm (drop at text) form → Step text at
  by_form (Letters n) few (w, b) = with_token n (Word w) few record { bytes = w; begins = b }
  by_form (Digits v n) few b = with_token n (Number v) few b
  by_form (Symbol sign) few b = with_token _ (Sign sign) few b
  by_form TooBig few b = inr (BigLiteral at, faulty text at tokens (BigLiteral at) s (refl, (few, b)))
  by_form (Touched n) few t = inr (BadByte (at + n), faulty text at tokens (BadByte (at + n)) s (inr (few, (n, (refl, t)))))

  by_count : (form : Form) → StartsToken (drop at text) → IsForm (drop at text) form → (full : Bool) → nat_le most_tokens (length tokens) ≡ full → Step text at
  by_count form start f true e = inr (TooManyTokens at, faulty text at tokens (TooManyTokens at) s (refl, (leb-true _ _ e, start)))
  by_count form start f false e = by_form form (leb-false _ _ e) f

  by_next : (next : Next) → IsNext (drop at text) next → Step text at
  by_next (Gap n) g = inl (further text at tokens (at + n) tokens s (skipped text (drop at text) at n tokens refl h s.few g))
  by_next Unclosed o = inr (OpenComment at, faulty text at tokens (OpenComment at) s (refl, o))
  by_next Nothing f = inr (BadByte at, faulty text at tokens (BadByte at) s (inl (refl, f)))
  by_next (Start form) (start, f) = by_count form start f (nat_le most_tokens (length tokens)) refl

  step : Step text at
  step = by_next (next_of (drop at text)) (found_at (drop at text) (next_of (drop at text)) (omega (arith, length-drop at text)) refl)

answer_from : (fuel : ℕ) (text : List ℕ) (at : ℕ) (tokens : List Token) → length text ≤ at + fuel → SoFar text at tokens → (r : Result (List Token) LexFault) × IsAnswer text r
answer_from zero text at tokens h s = (Ok tokens, (lexed_all text at tokens s (omega arith), s.few))
answer_from (suc fuel) text at tokens h s =
    let more : Further text at → (r : Result (List Token) LexFault) × IsAnswer text r = λ f. answer_from fuel text f.next f.tokens (let forth = f.forth in omega arith) f.so_far in
    elim (cases_lt at (length text)) [
      | inl low ↦ (elim (step text at tokens s low) [ inl f ↦ more f | inr fault ↦ (Err fault.0, fault.1) ])
      | inr done ↦ (Ok tokens, (lexed_all text at tokens s done, s.few))
    ]

pub some_answer : (text : List ℕ) → (r : Result (List Token) LexFault) × IsAnswer text r
some_answer text = answer_from (length text) text 0 [] (omega arith) record { pieces = []; within = omega arith; row = refl; listed = refl; few = omega arith }

-- From one piece to the next.
use Rattle.std.proofs.Common.{◌≡◌, ℕ, ◌+◌, ◌-◌, ◌≤◌, ◌<◌, List, [], ◌∷◌, ◌++◌, length, drop, refl, sym, ap, subst, ◌∙◌, arith, append_assoc, add_assoc, length-append, length-drop}
use Rattle.std.proofs.Math.Seq.{drop-append_seam}
use Rattle.std.proofs.lemmas.List.{append-nil, drop-drop}
use Rattle.dom_lexer.specs.Text.{Piece, token, bytes_of, Stands, Row, tokens_of, tokens_from, most_tokens, IsFaultAt, IsFault}
use Rattle.dom_lexer.specs.inner.Reads.{Begins, BeginsGap, BeginsToken, Grows, FaultHere}
use Rattle.dom_lexer.proofs.SoFar.{SoFar, IsFaultOrMemory}
use Rattle.dom_lexer.specs.declared.token.TokenKind.{TokenKind}
use Rattle.dom_lexer.specs.declared.token.Token.{Token}
use Rattle.dom_lexer.specs.declared.token.LexFault.{LexFault}
use Rattle.dom_lexer.specs.declared.token.LexFault.TheVariants.{BadByte, OpenComment, BigLiteral, TooManyTokens, Memory}

begun : (text : List ℕ) (at n : ℕ) (p : Piece) (old new : List Token) → at < length text → Begins (drop at text) n p → new ≡ old ++ tokens_of at p → length new ≤ most_tokens → Grows text at old (at + n) new
begun text at n p old new h b t few =
    let long : length (drop at text) ≡ length (bytes_of p) + length b.after = ap length b.whole ∙ length-append (bytes_of p) b.after in
    let back : b.after ≡ drop (at + n) text = sym (drop-append_seam (bytes_of p) b.after) ∙ ap (drop (length (bytes_of p))) (sym b.whole) ∙ ap (λ k. drop k (drop at text)) b.size ∙ drop-drop n at text in
    let size = b.size in
    let some = b.some in
    record {
      piece = p;
      forth = omega arith;
      within = omega (arith, length-drop at text);
      whole = b.whole ∙ ap (λ l. bytes_of p ++ l) back;
      size = omega arith;
      stands = subst (Stands p) back b.stands;
      tokens = t;
      few = few;
    }

pub skipped : (text rest : List ℕ) (at n : ℕ) (old : List Token) → rest ≡ drop at text → at < length text → length old ≤ most_tokens → BeginsGap rest n → Grows text at old (at + n) old
skipped text rest at n old e h few g =
    begun text at n g.piece old old h (subst (λ (l : List ℕ). Begins l n g.piece) e g.begins) (sym (append-nil old) ∙ ap (λ l. old ++ l) (sym (g.no_token at))) few

pub taken : (text rest : List ℕ) (at n : ℕ) (kind : TokenKind) (old new : List Token) → rest ≡ drop at text → at < length text → length old < most_tokens → BeginsToken rest kind n → new ≡ old ++ record { at = at; kind = kind } ∷ [] → Grows text at old (at + n) new
taken text rest at n kind old new e h few b t =
    begun text at n (token kind b.bytes) old new h (subst (λ (l : List ℕ). Begins l n (token kind b.bytes)) e b.begins) t (rw t (rw (length-append old (record { at = at; kind = kind } ∷ [])) (omega arith)))

-- rows
size_of : List Piece → ℕ
size_of [] = 0
size_of (p ∷ ps) = length (bytes_of p) + size_of ps

row_more : (ps : List Piece) (text mid rest : List ℕ) (p : Piece) → Row ps text mid → mid ≡ bytes_of p ++ rest → Stands p rest → Row (ps ++ p ∷ []) text rest
row_more [] text mid rest p r e s = (rest, (r ∙ e, (s, refl)))
row_more (q ∷ ps) text mid rest p (after, (w, (t, r))) e s = (after, (w, (t, row_more ps after mid rest p r e s)))

row_size : (ps : List Piece) (text rest : List ℕ) → Row ps text rest → length text ≡ size_of ps + length rest
unfolding size_of
row_size [] text rest r = ap length r ∙ omega arith
row_size (q ∷ ps) text rest (after, (w, (t, r))) =
    let more = row_size ps after rest r in
    ap length w ∙ length-append (bytes_of q) after ∙ omega arith

tokens_more : (at : ℕ) (ps : List Piece) (p : Piece) → tokens_from at (ps ++ p ∷ []) ≡ tokens_from at ps ++ tokens_of (at + size_of ps) p
unfolding size_of
tokens_more at [] p = append-nil (tokens_of at p) ∙ ap (λ k. tokens_of k p) (omega arith)
tokens_more at (q ∷ ps) p =
    let n = length (bytes_of q) in
    ap (λ l. tokens_of at q ++ l) (tokens_more (at + n) ps p ∙ ap (λ k. tokens_from (at + n) ps ++ tokens_of k p) (add_assoc at n (size_of ps))) ∙ sym (append_assoc (tokens_of at q) (tokens_from (at + n) ps) (tokens_of (at + (n + size_of ps)) p))

pub grown : (text : List ℕ) (at : ℕ) (old : List Token) (next : ℕ) (new : List Token) → SoFar text at old → Grows text at old next new → SoFar text next new
grown text at old next new s g =
    let size = row_size s.pieces text (drop at text) s.row in
    let w = s.within in
    let place : 0 + size_of s.pieces ≡ at = omega (arith, length-drop at text) in
    record {
      pieces = s.pieces ++ g.piece ∷ [];
      within = g.within;
      row = row_more s.pieces text (drop at text) (drop next text) g.piece s.row g.whole g.stands;
      listed = tokens_more 0 s.pieces g.piece ∙ ap (λ k. tokens_from 0 s.pieces ++ tokens_of k g.piece) place ∙ ap (λ l. l ++ tokens_of at g.piece) s.listed ∙ sym g.tokens;
      few = g.few;
    }

pub faulty : (text : List ℕ) (at : ℕ) (tokens : List Token) (f : LexFault) → SoFar text at tokens → IsFaultAt at (length tokens) (drop at text) f → IsFault text f
faulty text at tokens f s h =
    let w = s.within in
    let place : at ≡ length text - length (drop at text) = omega (arith, length-drop at text) in
    record {
      pieces = s.pieces;
      rest = drop at text;
      row = s.row;
      few = rw s.listed s.few;
      wrong = subst (λ k. IsFaultAt k (length (tokens_from 0 s.pieces)) (drop at text) f) place
          (subst (λ (l : List Token). IsFaultAt at (length l) (drop at text) f) (sym s.listed) h);
    }

pub is_fault : (text : List ℕ) (at : ℕ) (tokens : List Token) (f : LexFault) → SoFar text at tokens → FaultHere (drop at text) at (length tokens) f → IsFaultOrMemory text f
is_fault text at tokens (BadByte k) s h = faulty text at tokens (BadByte k) s h
is_fault text at tokens (OpenComment k) s h = faulty text at tokens (OpenComment k) s h
is_fault text at tokens (BigLiteral k) s h = faulty text at tokens (BigLiteral k) s h
is_fault text at tokens (TooManyTokens k) s h = faulty text at tokens (TooManyTokens k) s h
is_fault text at tokens Memory s h = tt

-- The words of a text are words, they fit into it, and a word is lexed as itself.
use Rattle.std.proofs.Common.{◌≡◌, ℕ, ◌+◌, ◌≤◌, true, List, [], ◌∷◌, ◌++◌, length, refl, sym, ap, ◌∙◌, arith, length-append, append-nil}
use Rattle.std.specs.List.{list_all, sum_by}
use Rattle.std.proofs.lemmas.Bool.{and_from, and_parts}
use Rattle.std.proofs.lemmas.List.Sums.{sum_by-cons}
use Rattle.dom_words.specs.Spelling.{is_word}
use Rattle.dom_lexer.specs.Text.{Piece, space, line, block, token, IsWord, Lexed, Row, line_mark, open_mark, close_mark, tokens_from}
use Rattle.dom_lexer.specs.Words.{AreWordsOf, word_alone, words_of}
use Rattle.dom_lexer.specs.declared.token.TokenKind.TheVariants.{Word, Number, Sym as Symbol}
use Rattle.dom_lexer.specs.declared.token.Token.{Token}

-- the same of a text up to a rest
record Found (words : List (List ℕ)) (text rest : List ℕ) : Type 0 where
  spelled : list_all is_word words ≡ true
  fit : sum_by length words + length rest ≤ length text

-- a piece without a word
past : (words : List (List ℕ)) (text front after rest : List ℕ) → text ≡ front ++ after → Found words after rest → Found words text rest
past words text front after rest e f =
    record { spelled = f.spelled; fit = let fit = f.fit in omega (arith, length-append front after, ap (λ (t : List ℕ). length t) e) }

-- a word
on : (words : List (List ℕ)) (text w name after rest : List ℕ) → text ≡ w ++ after → is_word w ≡ true → name ≡ w → Found words after rest → Found (name ∷ words) text rest
on words text w name after rest e is same f =
    record {
      spelled = and_from (is_word name) (list_all is_word words) (ap is_word same ∙ is) f.spelled;
      fit =
          let fit = f.fit in
          omega (arith, sum_by-cons (λ (v : List ℕ). length v) name words, ap (λ (t : List ℕ). length t) same, length-append w after, ap (λ (t : List ℕ). length t) e);
    }

found : (at : ℕ) (pieces : List Piece) (text rest : List ℕ) → Row pieces text rest → Found (words_of (tokens_from at pieces)) text rest
found at [] text rest e = record { spelled = refl; fit = omega (arith, ap (λ (t : List ℕ). length t) e) }
found at (space b ∷ ps) text rest (after, (e, (s, r))) = past _ text (b ∷ []) after rest e (found (at + 1) ps after rest r)
found at (line body ∷ ps) text rest (after, (e, (s, r))) = past _ text (line_mark ++ body) after rest e (found _ ps after rest r)
found at (block body ∷ ps) text rest (after, (e, (s, r))) = past _ text (open_mark ++ (body ++ close_mark)) after rest e (found _ ps after rest r)
found at (token (Word name) w ∷ ps) text rest (after, (e, (((is, longest), same), r))) = on _ text w name after rest e is same (found _ ps after rest r)
found at (token (Number n) w ∷ ps) text rest (after, (e, (s, r))) = past _ text w after rest e (found _ ps after rest r)
found at (token (Symbol s) w ∷ ps) text rest (after, (e, (t, r))) = past _ text w after rest e (found _ ps after rest r)

pub are_words : (text : List ℕ) (tokens : List Token) → Lexed text tokens → AreWordsOf text tokens
are_words text tokens is =
    let f = found 0 is.pieces text [] is.row in
    let listed : words_of (tokens_from 0 is.pieces) ≡ words_of tokens = ap words_of is.listed in
    record {
      spelled = ap (list_all is_word) (sym listed) ∙ f.spelled;
      fit = let fit = f.fit in omega (arith, ap (λ (ws : List (List ℕ)). sum_by (λ (v : List ℕ). length v) ws) listed);
    }

pub lexed_alone : (word : List ℕ) → is_word word ≡ true → Lexed word (word_alone word)
lexed_alone word is =
    record {
      pieces = token (Word word) word ∷ [];
      row = ([], (sym (append-nil word), (((is, longest), refl), refl)));
      listed = refl;
    }
  where
    longest : (v rest : List ℕ) → v ++ rest ≡ word ++ [] → IsWord v → length v ≤ length word
    longest v rest e w = omega (arith, length-append v rest, length-append word [], ap (λ (t : List ℕ). length t) e)

pub alone_is_word : (word : List ℕ) → Lexed word (word_alone word) → is_word word ≡ true
alone_is_word word is = let s = (are_words word (word_alone word) is).spelled in (and_parts (is_word word) true s).0

-- The names of a program that tokens spell are names, and stand among the words of the tokens.
use Rattle.std.proofs.Common.{◌≡◌, ◌↔◌, ℕ, ◌≤◌, Bool, true, false, not, ◌||◌, List, [], ◌∷◌, ◌++◌, length, map, codes, Option, Some, None, if◌then◌else◌, refl, sym, ap, ◌∙◌, subst, arith, append-nil}
use Rattle.std.specs.List.{cons_option, filter_map, list_all, sum_by}
use Rattle.std.proofs.lemmas.Bool.{and_from, and_parts}
use Rattle.std.proofs.lemmas.List.Elements.{filter_map-append}
use Rattle.std.proofs.lemmas.List.Folds.{list_all-append}
use Rattle.std.proofs.lemmas.Grind.{flat_map-append}
use Rattle.std.proofs.lemmas.List.Sums.{sum_by-append, sum_by-cons}
use Rattle.dom_words.specs.Names.{has_name, is_same}
use Rattle.dom_words.specs.Spelling.{forbidden_words, is_name, is_word, reserved}
use Rattle.dom_lexer.specs.Words.{word_of, words_of}
use Rattle.dom_lexer.specs.declared.token.Sym.{Sym}
use Rattle.dom_lexer.specs.declared.token.Sym.TheVariants as sym
use Rattle.dom_lexer.specs.declared.token.Token.{Token}
use Rattle.dom_lexer.specs.declared.token.TokenKind.{TokenKind}
use Rattle.dom_lexer.specs.declared.token.TokenKind.TheVariants as token
use Rattle.dom_ast.specs.HeadNames.{declared_names, head_names}
use Rattle.dom_ast.specs.Form.{ProgramForm}
use Rattle.dom_parser.specs.declared.kinds.Fixed.TheVariants as fixed
use Rattle.dom_parser.specs.declared.kinds.Kind.{Kind}
use Rattle.dom_parser.specs.declared.kinds.Kind.TheVariants as kind
use Rattle.dom_parser.specs.Grammar.{Decl, Decls, Field, Program, Spells, Structure, a_define, a_global, decl_tokens, decl_tree, decls_tokens, decls_trees, fields_tokens, fields_trees, no_decls, program, program_tokens, program_tree, sign, struct_tokens, struct_tree, then_decl, transaction_tokens, transactions_tokens}
use Rattle.dom_parser.specs.Names.{AreNamedBy}
use Rattle.dom_parser.specs.Tokens.{Mark, kind_by, mark, name_text, symbol_kind, token_kind, word_kind, word_text}
use Rattle.dom_parser.specs.inner.AtPlace.{is_name as is_name_kind}
use Rattle.dom_parser.proofs.KnownKinds.{kind_name}

-- the kind of a word by which of the words it is
abbrev kind_of : Bool → Bool → Bool → Bool → Bool → Bool → Bool → Kind
kind_of a b c d e f forbidden =
    kind_by (if a then Some fixed.Struct else (if b then Some fixed.Int else (if c then Some fixed.Void else (if d then Some fixed.If else (if e then Some fixed.Else else (if f then Some fixed.Define else None)))))) forbidden

none_of : (a b c d e f g : Bool) → is_name_kind (kind_of a b c d e f g) ≡ not (a || (b || (c || (d || (e || (f || g))))))
none_of true b c d e f g = refl
none_of false true c d e f g = refl
none_of false false true d e f g = refl
none_of false false false true e f g = refl
none_of false false false false true f g = refl
none_of false false false false false true g = refl
none_of false false false false false false true = refl
none_of false false false false false false false = refl

pub kind_is : (word : List ℕ) → is_name_kind (word_kind word) ≡ not (has_name reserved word)
unfolding reserved
kind_is word =
    let is : List ℕ → Bool = is_same word in
    none_of (is (codes "struct")) (is (codes "int")) (is (codes "void")) (is (codes "if")) (is (codes "else")) (is (codes "define")) (has_name forbidden_words word)

pub kind_of_name : (word : List ℕ) → is_word word ≡ true → (word_kind word ≡ kind.Name) ↔ (is_name word ≡ true)
kind_of_name word is = (
  (λ e. and_from (is_word word) (not (has_name reserved word)) is (sym (kind_is word) ∙ ap is_name_kind e)),
  (λ e. kind_name (word_kind word) (kind_is word ∙ (and_parts (is_word word) (not (has_name reserved word)) e).1)),
)

-- The names in tokens.

abbrev when_name : Bool → List ℕ → Option (List ℕ)
when_name true text = Some text
when_name false text = None

abbrev name_in : Mark → Option (List ℕ)
name_in m = when_name (is_name_kind m.kind) m.text

abbrev names_in : List Mark → List (List ℕ)
names_in marks = filter_map name_in marks

-- names that are no longer than these words
record Fit (names words : List (List ℕ)) : Type 0 where
  spelled : list_all is_name names ≡ true
  fit : sum_by length names ≤ sum_by length words

module _ (word : List ℕ) (names words : List (List ℕ)) (f : Fit names words) where
  fit_word : Fit names (word ∷ words)
  fit_word = record { spelled = f.spelled; fit = let fit = f.fit in omega (arith, sum_by-cons (λ (w : List ℕ). length w) word words) }

  fit_name : (name : List ℕ) → name ≡ word → is_name word ≡ true → Fit (name ∷ names) (word ∷ words)
  fit_name name same is =
      record {
        spelled = and_from (is_name name) (list_all is_name names) (ap is_name same ∙ is) f.spelled;
        fit =
            let fit = f.fit in
            omega (arith, ap (λ (w : List ℕ). length w) same, sum_by-cons (λ (w : List ℕ). length w) word words, sum_by-cons (λ (w : List ℕ). length w) name names);
      }

  fit_kind : is_word word ≡ true → (k : Kind) → word_kind word ≡ k → (b : Bool) → is_name_kind k ≡ b → Fit (cons_option (when_name b (name_text k word)) names) (word ∷ words)
  fit_kind is k e true n =
      let named : k ≡ kind.Name = kind_name k n in
      fit_name (name_text k word) (ap (λ (j : Kind). name_text j word) named) ((kind_of_name word is).0 (e ∙ named))
  fit_kind is k e false n = fit_word

-- no symbol is a name
other : (s : Sym) → is_name_kind (symbol_kind s) ≡ false
other sym.Shl = refl
other sym.Shr = refl
other sym.Le = refl
other sym.Ge = refl
other sym.EqEq = refl
other sym.NotEq = refl
other sym.AndAnd = refl
other sym.OrOr = refl
other sym.Plus = refl
other sym.Minus = refl
other sym.Star = refl
other sym.Slash = refl
other sym.Percent = refl
other sym.Less = refl
other sym.Greater = refl
other sym.Assign = refl
other sym.Bang = refl
other sym.Tilde = refl
other sym.Amp = refl
other sym.Bar = refl
other sym.Caret = refl
other sym.Question = refl
other sym.Colon = refl
other sym.Semi = refl
other sym.Comma = refl
other sym.Dot = refl
other sym.OpenParen = refl
other sym.CloseParen = refl
other sym.OpenBracket = refl
other sym.CloseBracket = refl
other sym.OpenBrace = refl
other sym.CloseBrace = refl
other sym.Hash = refl

symbol_fits : (s : Sym) (names words : List (List ℕ)) (b : Bool) → is_name_kind (symbol_kind s) ≡ b → Fit names words → Fit (cons_option (when_name b (name_text (symbol_kind s) [])) names) words
symbol_fits s names words true e f = let o = other s in absurd (cc)
symbol_fits s names words false e f = f

token_fits : (k : TokenKind) (names words : List (List ℕ)) → list_all is_word (cons_option (word_of k) words) ≡ true → (list_all is_word words ≡ true → Fit names words) → Fit (cons_option (when_name (is_name_kind (token_kind k)) (name_text (token_kind k) (word_text k))) names) (cons_option (word_of k) words)
token_fits (token.Word w) names words all rest =
    let parts = and_parts (is_word w) (list_all is_word words) all in
    fit_kind w names words (rest parts.1) parts.0 (word_kind w) refl (is_name_kind (word_kind w)) refl
token_fits (token.Number n) names words all rest = rest all
token_fits (token.Sym s) names words all rest = symbol_fits s names words (is_name_kind (symbol_kind s)) refl (rest all)

names_fit : (l : List Token) → list_all is_word (words_of l) ≡ true → Fit (names_in (map mark l)) (words_of l)
names_fit [] all = record { spelled = refl; fit = omega arith }
names_fit (t ∷ l) all = token_fits t.kind (names_in (map mark l)) (words_of l) all (names_fit l)

-- The names of heads among those in their tokens.

record Among (names words : List (List ℕ)) : Type 0 where
  spelled : list_all is_name words ≡ true → list_all is_name names ≡ true
  fit : sum_by length names ≤ sum_by length words

among_none : (words : List (List ℕ)) → Among [] words
among_none words = record { spelled = λ all. refl; fit = omega arith }

module _ (n : List ℕ) (names words : List (List ℕ)) (a : Among names words) where
  among_behind : Among names (n ∷ words)
  among_behind =
      record {
        spelled = λ all. a.spelled (and_parts (is_name n) (list_all is_name words) all).1;
        fit = let fit = a.fit in omega (arith, sum_by-cons (λ (w : List ℕ). length w) n words);
      }

  among_name : Among (n ∷ names) (n ∷ words)
  among_name =
      record {
        spelled = λ all. let parts = and_parts (is_name n) (list_all is_name words) all in and_from (is_name n) (list_all is_name names) parts.0 (a.spelled parts.1);
        fit = let fit = a.fit in omega (arith, sum_by-cons (λ (w : List ℕ). length w) n words, sum_by-cons (λ (w : List ℕ). length w) n names);
      }

among_both : (xs ys : List (List ℕ)) (front back : List Mark) → Among xs (names_in front) → Among ys (names_in back) → Among (xs ++ ys) (names_in (front ++ back))
among_both xs ys front back a b =
    subst (λ (words : List (List ℕ)). Among (xs ++ ys) words) (sym (filter_map-append name_in front back)) record {
      spelled =
          λ all.
          let parts = and_parts (list_all is_name (names_in front)) (list_all is_name (names_in back)) (sym (list_all-append is_name (names_in front) (names_in back)) ∙ all) in
          list_all-append is_name xs ys ∙ and_from (list_all is_name xs) (list_all is_name ys) (a.spelled parts.0) (b.spelled parts.1);
      fit =
          let left = a.fit in
          let right = b.fit in
          omega (arith, sum_by-append (λ (w : List ℕ). length w) xs ys, sum_by-append (λ (w : List ℕ). length w) (names_in front) (names_in back));
    }

among_front : (xs : List (List ℕ)) (front back : List Mark) → Among xs (names_in front) → Among xs (names_in (front ++ back))
among_front xs front back a =
    subst (λ (names : List (List ℕ)). Among names (names_in (front ++ back))) (append-nil xs) (among_both xs [] front back a (among_none (names_in back)))

decl_among : (d : Decl) → Among (head_names (decl_tree d)) (names_in (decl_tokens d))
decl_among (a_define p q r n c) = among_none (names_in (decl_tokens (a_define p q r n c)))
decl_among (a_global m z s) = among_name m.name [] _ (among_none _)

decls_among : (d : Decls) → Among (declared_names (decls_trees d)) (names_in (decls_tokens d))
decls_among no_decls = among_none []
decls_among (then_decl a d) = among_both (head_names (decl_tree a)) (declared_names (decls_trees d)) (decl_tokens a) (decls_tokens d) (decl_among a) (decls_among d)

abbrev texts : List Field → List (List ℕ)
texts f = map (λ (x : ℕ × List ℕ). x.1) (fields_trees f)

fields_among : (f : List Field) → Among (texts f) (names_in (fields_tokens f))
fields_among [] = among_none []
fields_among (x ∷ f) = among_name x.name (texts f) (names_in (fields_tokens f)) (fields_among f)

struct_among : (s : Structure) → Among (head_names (struct_tree s)) (names_in (struct_tokens s))
struct_among s =
    let f = s.others in
    let m = (s.first).name in
    let tail : List Mark = sign fixed.CloseBrace s.close_at ∷ sign fixed.Semi s.semi_at ∷ [] in
    let behind : List (List ℕ) = names_in (fields_tokens f ++ tail) in
    among_behind s.tag (m ∷ texts f) (m ∷ behind) (among_name m (texts f) behind (among_front (texts f) (fields_tokens f) tail (fields_among f)))

way_among : (way : Program) → Among (declared_names (program_tree way).heads) (names_in (program_tokens way))
way_among (program d s e t ts) =
    let rest : List Mark = transaction_tokens t ++ transactions_tokens ts in
    let after : List (List ℕ) = declared_names (decls_trees e) in
    let struct : List (List ℕ) = head_names (struct_tree s) in
    subst (λ (names : List (List ℕ)). Among names (names_in (program_tokens (program d s e t ts))))
    (sym (flat_map-append head_names (decls_trees d) (struct_tree s ∷ decls_trees e)))
    (among_both (declared_names (decls_trees d)) (struct ++ after) (decls_tokens d) (struct_tokens s ++ (decls_tokens e ++ rest)) (decls_among d)
    (among_both struct after (struct_tokens s) (decls_tokens e ++ rest) (struct_among s) (among_front after (decls_tokens e) rest (decls_among e))))

pub named_by : (p : ProgramForm) (l : List Token) → Spells p l → list_all is_word (words_of l) ≡ true → AreNamedBy p.heads l
named_by p l (way, is_program, tokens, tree) all =
    let a = way_among way in
    let f = names_fit l all in
    record {
      spelled =
          ap (λ (q : ProgramForm). list_all is_name (declared_names q.heads)) (sym tree)
          ∙ a.spelled (ap (λ (ms : List Mark). list_all is_name (names_in ms)) tokens ∙ f.spelled);
      fit =
          let less = a.fit in
          let fit = f.fit in
          omega (
            arith,
            ap (λ (q : ProgramForm). sum_by (λ (w : List ℕ). length w) (declared_names q.heads)) tree,
            ap (λ (ms : List Mark). sum_by (λ (w : List ℕ). length w) (names_in ms)) tokens,
          );
    }

-- A list of tokens is spelled in one way at most.
use Rattle.std.proofs.Common.{◌≡◌, ℕ, zero, suc, true, false, List, [], ◌∷◌, ◌++◌, None, refl, sym, ap, ◌∙◌, subst, arith, append_assoc}
use Rattle.dom_words.specs.declared.operators.UnOp.{UnOp}
use Rattle.dom_words.specs.declared.operators.UnOp.TheVariants as un
use Rattle.dom_parser.specs.declared.kinds.Fixed.{Fixed}
use Rattle.dom_parser.specs.declared.kinds.Fixed.TheVariants as fixed
use Rattle.dom_parser.specs.declared.kinds.Kind.{Kind}
use Rattle.dom_parser.specs.declared.kinds.Kind.TheVariants as kind
use Rattle.dom_parser.specs.inner.AtPlace as AtPlace
use Rattle.dom_parser.specs.Tokens.{Mark, number_first}
use Rattle.dom_parser.specs.Grammar.{top, sign, name_mark, un_kind, Way, a_number, a_negated, a_word, a_field, an_index, a_call, in_parens, operated, level_of, More, stop, and_then, if_so, Args, no_args, some_args, MoreArgs, last_arg, next_arg, IsAt, IsAfter, AreArgs, AreMoreArgs, tokens, more_tokens, arg_tokens, more_arg_tokens}
use Rattle.dom_parser.specs.inner.Following as item
use Rattle.dom_parser.specs.inner.Following.{Item, more, name_rest, level, expand}
use Rattle.dom_parser.proofs.Traces.{Refused, Ends, ends_close, ends_more, rank_row, no_number, ends_arg, first_token}

-- the parts of a first token
abbrev pub kind_first : List Mark → Kind
kind_first [] = kind.End
kind_first (t ∷ l) = t.kind

abbrev pub place_first : List Mark → ℕ
place_first [] = 0
place_first (t ∷ l) = t.place

abbrev pub text_first : List Mark → List ℕ
text_first [] = []
text_first (t ∷ l) = t.text

abbrev pub others : List Mark → List Mark
others [] = []
others (t ∷ l) = l

same_un : (o u : UnOp) → un_kind o ≡ un_kind u → o ≡ u
same_un un.Neg un.Neg e = refl
same_un un.Neg un.Inv e = absurd (cc)
same_un un.Neg un.Not e = absurd (cc)
same_un un.Inv un.Neg e = absurd (cc)
same_un un.Inv un.Inv e = refl
same_un un.Inv un.Not e = absurd (cc)
same_un un.Not un.Neg e = absurd (cc)
same_un un.Not un.Inv e = absurd (cc)
same_un un.Not un.Not e = refl

abbrev pub number_of_kind : Kind → ℕ
number_of_kind (kind.Number w) = w
number_of_kind _ = 0

-- both in brackets
pub in_both : (f : Fixed) (w w' : Way) (r r' : ℕ) (l l' : List Mark) → (Ends top (sign f r ∷ l) → Ends top (sign f r' ∷ l') → tokens w ++ sign f r ∷ l ≡ tokens w' ++ sign f r' ∷ l' → (w ≡ w') × (sign f r ∷ l ≡ sign f r' ∷ l')) → item.suffix_row (item.suffix_fixed f) ≡ None → AtPlace.is_fixed fixed.Question (kind.Fixed f) ≡ false → (tokens w ++ sign f r ∷ []) ++ l ≡ (tokens w' ++ sign f r' ∷ []) ++ l' → (w ≡ w') × (r ≡ r') × (l ≡ l')
in_both f w w' r r' l l' one a b e =
    let g = one (ends_close f top r l a b) (ends_close f top r' l' a b) (sym (append_assoc (tokens w) (sign f r ∷ []) l) ∙ e ∙ append_assoc (tokens w') (sign f r' ∷ []) l') in
    (g.0, ap place_first g.1, ap others g.1)

-- a question mark goes on with an expression that has no condition
not_asked : (k p : ℕ) (l : List Mark) → k ≡ 10 → Refused (more k) (sign fixed.Question p ∷ l) → ⊥
not_asked k p l e h = absurd (let f : Refused (more 10) (sign fixed.Question p ∷ l) = subst (λ (j : ℕ). Refused (more j) (sign fixed.Question p ∷ l)) e h in cc)

-- an expression does not begin with a bracket that closes
no_close : (w : Way) → IsAt top w → (b c l : List Mark) (r : ℕ) (m : List Mark) → sign fixed.CloseParen r ∷ m ≡ ((tokens w ++ b) ++ c) ++ l → ⊥
no_close w a b c l r m e =
    let f = first_token top w a in
    let g : kind.Fixed fixed.CloseParen ≡ f.0.kind = ap kind_first (e ∙ ap (λ (x : List Mark). ((x ++ b) ++ c) ++ l) f.2) in
    let h : true ≡ AtPlace.is_fixed fixed.CloseParen f.0.kind = ap (AtPlace.is_fixed fixed.CloseParen) g in
    let i = f.3 in absurd (cc)

dot_bracket : (a b : Mark) (x y : ℕ) (l m : List Mark) → a ∷ sign fixed.Dot x ∷ l ≡ b ∷ sign fixed.OpenBracket y ∷ m → ⊥
dot_bracket a b x y l m e = absurd (let f = ap kind_first (ap others e) in cc)

dot_paren : (a b : Mark) (x y : ℕ) (l m : List Mark) → a ∷ sign fixed.Dot x ∷ l ≡ b ∷ sign fixed.OpenParen y ∷ m → ⊥
dot_paren a b x y l m e = absurd (let f = ap kind_first (ap others e) in cc)

bracket_paren : (a b : Mark) (x y : ℕ) (l m : List Mark) → a ∷ sign fixed.OpenBracket x ∷ l ≡ b ∷ sign fixed.OpenParen y ∷ m → ⊥
bracket_paren a b x y l m e = absurd (let f = ap kind_first (ap others e) in cc)

no_dot : (l : List Mark) (k x : ℕ) (m : List Mark) → Ends k l → l ≡ sign fixed.Dot x ∷ m → ⊥
no_dot l k x m d e = absurd (let f = subst (Refused name_rest) e d.name in cc)

no_bracket : (l : List Mark) (k x : ℕ) (m : List Mark) → Ends k l → l ≡ sign fixed.OpenBracket x ∷ m → ⊥
no_bracket l k x m d e = absurd (let f = subst (Refused name_rest) e d.name in cc)

no_paren : (l : List Mark) (k x : ℕ) (m : List Mark) → Ends k l → l ≡ sign fixed.OpenParen x ∷ m → ⊥
no_paren l k x m d e = absurd (let f = subst (Refused name_rest) e d.name in cc)

mutual
  pub one_way : (k : ℕ) (v v' : Way) (l l' : List Mark) → IsAt k v → IsAt k v' → Ends k l → Ends k l' → tokens v ++ l ≡ tokens v' ++ l' → (v ≡ v') × (l ≡ l')
  one_way zero (a_number p w) (a_number p' w') l l' h h' d d' e = let i = ap number_of_kind (ap kind_first e) in (ap (λ y. a_number y w) (ap place_first e) ∙ ap (a_number p') i, ap others e)
  one_way zero (a_number p w) (a_negated p' x' w') l l' h h' d d' e = absurd (let f = ap kind_first e in cc)
  one_way zero (a_number p w) (a_word p' n') l l' h h' d d' e = absurd (let f = ap kind_first e in cc)
  one_way zero (a_number p w) (a_field p' n' x' r' f') l l' h h' d d' e = absurd (let f = ap kind_first e in cc)
  one_way zero (a_number p w) (an_index p' n' x' w' r') l l' h h' d d' e = absurd (let f = ap kind_first e in cc)
  one_way zero (a_number p w) (a_call p' n' x' c' r') l l' h h' d d' e = absurd (let f = ap kind_first e in cc)
  one_way zero (a_number p w) (in_parens p' w' r') l l' h h' d d' e = absurd (let f = ap kind_first e in cc)
  one_way zero (a_number p w) (operated p' un.Neg w') l l' h h' d d' e = absurd (let f = ap kind_first e in cc)
  one_way zero (a_number p w) (operated p' un.Inv w') l l' h h' d d' e = absurd (let f = ap kind_first e in cc)
  one_way zero (a_number p w) (operated p' un.Not w') l l' h h' d d' e = absurd (let f = ap kind_first e in cc)
  one_way zero (a_negated p x w) (a_number p' w') l l' h h' d d' e = absurd (let f = ap kind_first e in cc)
  one_way zero (a_negated p x w) (a_negated p' x' w') l l' h h' d d' e = let f = ap others e in let i = ap number_of_kind (ap kind_first f) in (ap (λ y. a_negated y x w) (ap place_first e) ∙ ap (λ y. a_negated p' y w) (ap place_first f) ∙ ap (a_negated p' x') i, ap others f)
  one_way zero (a_negated p x w) (a_word p' n') l l' h h' d d' e = absurd (let f = ap kind_first e in cc)
  one_way zero (a_negated p x w) (a_field p' n' x' r' f') l l' h h' d d' e = absurd (let f = ap kind_first e in cc)
  one_way zero (a_negated p x w) (an_index p' n' x' w' r') l l' h h' d d' e = absurd (let f = ap kind_first e in cc)
  one_way zero (a_negated p x w) (a_call p' n' x' c' r') l l' h h' d d' e = absurd (let f = ap kind_first e in cc)
  one_way zero (a_negated p x w) (in_parens p' w' r') l l' h h' d d' e = absurd (let f = ap kind_first e in cc)
  one_way zero (a_negated p x w) (operated p' un.Neg w') l l' h h' d d' e = absurd (let f : true ≡ number_first (tokens w' ++ l') = ap number_first (ap others e) in let g = no_number w' l' h'.1 h'.0 in cc)
  one_way zero (a_negated p x w) (operated p' un.Inv w') l l' h h' d d' e = absurd (let f = ap kind_first e in cc)
  one_way zero (a_negated p x w) (operated p' un.Not w') l l' h h' d d' e = absurd (let f = ap kind_first e in cc)
  one_way zero (a_word p n) (a_number p' w') l l' h h' d d' e = absurd (let f = ap kind_first e in cc)
  one_way zero (a_word p n) (a_negated p' x' w') l l' h h' d d' e = absurd (let f = ap kind_first e in cc)
  one_way zero (a_word p n) (a_word p' n') l l' h h' d d' e = (ap (λ y. a_word y n) (ap place_first e) ∙ ap (a_word p') (ap text_first e), ap others e)
  one_way zero (a_word p n) (a_field p' n' x' r' f') l l' h h' d d' e = absurd (no_dot l zero x' (name_mark r' f' ∷ l') d (ap others e))
  one_way zero (a_word p n) (an_index p' n' x' w' r') l l' h h' d d' e = absurd (no_bracket l zero x' ((tokens w' ++ sign fixed.CloseBracket r' ∷ []) ++ l') d (ap others e))
  one_way zero (a_word p n) (a_call p' n' x' c' r') l l' h h' d d' e = absurd (no_paren l zero x' ((arg_tokens c' ++ sign fixed.CloseParen r' ∷ []) ++ l') d (ap others e))
  one_way zero (a_word p n) (in_parens p' w' r') l l' h h' d d' e = absurd (let f = ap kind_first e in cc)
  one_way zero (a_word p n) (operated p' un.Neg w') l l' h h' d d' e = absurd (let f = ap kind_first e in cc)
  one_way zero (a_word p n) (operated p' un.Inv w') l l' h h' d d' e = absurd (let f = ap kind_first e in cc)
  one_way zero (a_word p n) (operated p' un.Not w') l l' h h' d d' e = absurd (let f = ap kind_first e in cc)
  one_way zero (a_field p n x r f) (a_number p' w') l l' h h' d d' e = absurd (let f = ap kind_first e in cc)
  one_way zero (a_field p n x r f) (a_negated p' x' w') l l' h h' d d' e = absurd (let f = ap kind_first e in cc)
  one_way zero (a_field p n x r f) (a_word p' n') l l' h h' d d' e = absurd (no_dot l' zero x (name_mark r f ∷ l) d' (sym (ap others e)))
  one_way zero (a_field p n x r f) (a_field p' n' x' r' f') l l' h h' d d' e = let u = ap others e in let g = ap others u in (ap (λ y. a_field y n x r f) (ap place_first e) ∙ ap (λ y. a_field p' y x r f) (ap text_first e) ∙ ap (λ y. a_field p' n' y r f) (ap place_first u) ∙ ap (λ y. a_field p' n' x' y f) (ap place_first g) ∙ ap (a_field p' n' x' r') (ap text_first g), ap others g)
  one_way zero (a_field p n x r f) (an_index p' n' x' w' r') l l' h h' d d' e = absurd (dot_bracket (name_mark p n) (name_mark p' n') x x' (name_mark r f ∷ l) ((tokens w' ++ sign fixed.CloseBracket r' ∷ []) ++ l') e)
  one_way zero (a_field p n x r f) (a_call p' n' x' c' r') l l' h h' d d' e = absurd (dot_paren (name_mark p n) (name_mark p' n') x x' (name_mark r f ∷ l) ((arg_tokens c' ++ sign fixed.CloseParen r' ∷ []) ++ l') e)
  one_way zero (a_field p n x r f) (in_parens p' w' r') l l' h h' d d' e = absurd (let f = ap kind_first e in cc)
  one_way zero (a_field p n x r f) (operated p' un.Neg w') l l' h h' d d' e = absurd (let f = ap kind_first e in cc)
  one_way zero (a_field p n x r f) (operated p' un.Inv w') l l' h h' d d' e = absurd (let f = ap kind_first e in cc)
  one_way zero (a_field p n x r f) (operated p' un.Not w') l l' h h' d d' e = absurd (let f = ap kind_first e in cc)
  one_way zero (an_index p n x w r) (a_number p' w') l l' h h' d d' e = absurd (let f = ap kind_first e in cc)
  one_way zero (an_index p n x w r) (a_negated p' x' w') l l' h h' d d' e = absurd (let f = ap kind_first e in cc)
  one_way zero (an_index p n x w r) (a_word p' n') l l' h h' d d' e = absurd (no_bracket l' zero x ((tokens w ++ sign fixed.CloseBracket r ∷ []) ++ l) d' (sym (ap others e)))
  one_way zero (an_index p n x w r) (a_field p' n' x' r' f') l l' h h' d d' e = absurd (dot_bracket (name_mark p' n') (name_mark p n) x' x (name_mark r' f' ∷ l') ((tokens w ++ sign fixed.CloseBracket r ∷ []) ++ l) (sym e))
  one_way zero (an_index p n x w r) (an_index p' n' x' w' r') l l' h h' d d' e = let f = ap others e in let g = in_both fixed.CloseBracket w w' r r' l l' (λ a b c. one_way top w w' (sign fixed.CloseBracket r ∷ l) (sign fixed.CloseBracket r' ∷ l') h h' a b c) refl refl (ap others f) in (ap (λ y. an_index y n x w r) (ap place_first e) ∙ ap (λ y. an_index p' y x w r) (ap text_first e) ∙ ap (λ y. an_index p' n' y w r) (ap place_first f) ∙ ap (λ y. an_index p' n' x' y r) g.0 ∙ ap (an_index p' n' x' w') g.1, g.2)
  one_way zero (an_index p n x w r) (a_call p' n' x' c' r') l l' h h' d d' e = absurd (bracket_paren (name_mark p n) (name_mark p' n') x x' ((tokens w ++ sign fixed.CloseBracket r ∷ []) ++ l) ((arg_tokens c' ++ sign fixed.CloseParen r' ∷ []) ++ l') e)
  one_way zero (an_index p n x w r) (in_parens p' w' r') l l' h h' d d' e = absurd (let f = ap kind_first e in cc)
  one_way zero (an_index p n x w r) (operated p' un.Neg w') l l' h h' d d' e = absurd (let f = ap kind_first e in cc)
  one_way zero (an_index p n x w r) (operated p' un.Inv w') l l' h h' d d' e = absurd (let f = ap kind_first e in cc)
  one_way zero (an_index p n x w r) (operated p' un.Not w') l l' h h' d d' e = absurd (let f = ap kind_first e in cc)
  one_way zero (a_call p n x c r) (a_number p' w') l l' h h' d d' e = absurd (let f = ap kind_first e in cc)
  one_way zero (a_call p n x c r) (a_negated p' x' w') l l' h h' d d' e = absurd (let f = ap kind_first e in cc)
  one_way zero (a_call p n x c r) (a_word p' n') l l' h h' d d' e = absurd (no_paren l' zero x ((arg_tokens c ++ sign fixed.CloseParen r ∷ []) ++ l) d' (sym (ap others e)))
  one_way zero (a_call p n x c r) (a_field p' n' x' r' f') l l' h h' d d' e = absurd (dot_paren (name_mark p' n') (name_mark p n) x' x (name_mark r' f' ∷ l') ((arg_tokens c ++ sign fixed.CloseParen r ∷ []) ++ l) (sym e))
  one_way zero (a_call p n x c r) (an_index p' n' x' w' r') l l' h h' d d' e = absurd (bracket_paren (name_mark p' n') (name_mark p n) x' x ((tokens w' ++ sign fixed.CloseBracket r' ∷ []) ++ l') ((arg_tokens c ++ sign fixed.CloseParen r ∷ []) ++ l) (sym e))
  one_way zero (a_call p n x c r) (a_call p' n' x' c' r') l l' h h' d d' e = let f = ap others e in let g = one_args c c' r r' l l' h h' (ap others f) in (ap (λ y. a_call y n x c r) (ap place_first e) ∙ ap (λ y. a_call p' y x c r) (ap text_first e) ∙ ap (λ y. a_call p' n' y c r) (ap place_first f) ∙ ap (λ y. a_call p' n' x' y r) g.0 ∙ ap (a_call p' n' x' c') g.1, g.2)
  one_way zero (a_call p n x c r) (in_parens p' w' r') l l' h h' d d' e = absurd (let f = ap kind_first e in cc)
  one_way zero (a_call p n x c r) (operated p' un.Neg w') l l' h h' d d' e = absurd (let f = ap kind_first e in cc)
  one_way zero (a_call p n x c r) (operated p' un.Inv w') l l' h h' d d' e = absurd (let f = ap kind_first e in cc)
  one_way zero (a_call p n x c r) (operated p' un.Not w') l l' h h' d d' e = absurd (let f = ap kind_first e in cc)
  one_way zero (in_parens p w r) (a_number p' w') l l' h h' d d' e = absurd (let f = ap kind_first e in cc)
  one_way zero (in_parens p w r) (a_negated p' x' w') l l' h h' d d' e = absurd (let f = ap kind_first e in cc)
  one_way zero (in_parens p w r) (a_word p' n') l l' h h' d d' e = absurd (let f = ap kind_first e in cc)
  one_way zero (in_parens p w r) (a_field p' n' x' r' f') l l' h h' d d' e = absurd (let f = ap kind_first e in cc)
  one_way zero (in_parens p w r) (an_index p' n' x' w' r') l l' h h' d d' e = absurd (let f = ap kind_first e in cc)
  one_way zero (in_parens p w r) (a_call p' n' x' c' r') l l' h h' d d' e = absurd (let f = ap kind_first e in cc)
  one_way zero (in_parens p w r) (in_parens p' w' r') l l' h h' d d' e = let g = in_both fixed.CloseParen w w' r r' l l' (λ a b c. one_way top w w' (sign fixed.CloseParen r ∷ l) (sign fixed.CloseParen r' ∷ l') h h' a b c) refl refl (ap others e) in (ap (λ y. in_parens y w r) (ap place_first e) ∙ ap (λ y. in_parens p' y r) g.0 ∙ ap (in_parens p' w') g.1, g.2)
  one_way zero (in_parens p w r) (operated p' un.Neg w') l l' h h' d d' e = absurd (let f = ap kind_first e in cc)
  one_way zero (in_parens p w r) (operated p' un.Inv w') l l' h h' d d' e = absurd (let f = ap kind_first e in cc)
  one_way zero (in_parens p w r) (operated p' un.Not w') l l' h h' d d' e = absurd (let f = ap kind_first e in cc)
  one_way zero (operated p un.Neg w) (a_number p' w') l l' h h' d d' e = absurd (let f = ap kind_first e in cc)
  one_way zero (operated p un.Inv w) (a_number p' w') l l' h h' d d' e = absurd (let f = ap kind_first e in cc)
  one_way zero (operated p un.Not w) (a_number p' w') l l' h h' d d' e = absurd (let f = ap kind_first e in cc)
  one_way zero (operated p un.Neg w) (a_negated p' x' w') l l' h h' d d' e = absurd (let f : number_first (tokens w ++ l) ≡ true = ap number_first (ap others e) in let g = no_number w l h.1 h.0 in cc)
  one_way zero (operated p un.Inv w) (a_negated p' x' w') l l' h h' d d' e = absurd (let f = ap kind_first e in cc)
  one_way zero (operated p un.Not w) (a_negated p' x' w') l l' h h' d d' e = absurd (let f = ap kind_first e in cc)
  one_way zero (operated p un.Neg w) (a_word p' n') l l' h h' d d' e = absurd (let f = ap kind_first e in cc)
  one_way zero (operated p un.Inv w) (a_word p' n') l l' h h' d d' e = absurd (let f = ap kind_first e in cc)
  one_way zero (operated p un.Not w) (a_word p' n') l l' h h' d d' e = absurd (let f = ap kind_first e in cc)
  one_way zero (operated p un.Neg w) (a_field p' n' x' r' f') l l' h h' d d' e = absurd (let f = ap kind_first e in cc)
  one_way zero (operated p un.Inv w) (a_field p' n' x' r' f') l l' h h' d d' e = absurd (let f = ap kind_first e in cc)
  one_way zero (operated p un.Not w) (a_field p' n' x' r' f') l l' h h' d d' e = absurd (let f = ap kind_first e in cc)
  one_way zero (operated p un.Neg w) (an_index p' n' x' w' r') l l' h h' d d' e = absurd (let f = ap kind_first e in cc)
  one_way zero (operated p un.Inv w) (an_index p' n' x' w' r') l l' h h' d d' e = absurd (let f = ap kind_first e in cc)
  one_way zero (operated p un.Not w) (an_index p' n' x' w' r') l l' h h' d d' e = absurd (let f = ap kind_first e in cc)
  one_way zero (operated p un.Neg w) (a_call p' n' x' c' r') l l' h h' d d' e = absurd (let f = ap kind_first e in cc)
  one_way zero (operated p un.Inv w) (a_call p' n' x' c' r') l l' h h' d d' e = absurd (let f = ap kind_first e in cc)
  one_way zero (operated p un.Not w) (a_call p' n' x' c' r') l l' h h' d d' e = absurd (let f = ap kind_first e in cc)
  one_way zero (operated p un.Neg w) (in_parens p' w' r') l l' h h' d d' e = absurd (let f = ap kind_first e in cc)
  one_way zero (operated p un.Inv w) (in_parens p' w' r') l l' h h' d d' e = absurd (let f = ap kind_first e in cc)
  one_way zero (operated p un.Not w) (in_parens p' w' r') l l' h h' d d' e = absurd (let f = ap kind_first e in cc)
  one_way zero (operated p o w) (operated p' o' w') l l' h h' d d' e = let g = one_way zero w w' l l' h.1 h'.1 d d' (ap others e) in (ap (λ y. operated y o w) (ap place_first e) ∙ ap (λ y. operated p' y w) (same_un o o' (ap kind_first e)) ∙ ap (operated p' o') g.0, g.1)
  one_way zero (a_number p w) (level_of w' m') l l' h h' d d' e = absurd h'
  one_way zero (a_negated p x w) (level_of w' m') l l' h h' d d' e = absurd h'
  one_way zero (a_word p n) (level_of w' m') l l' h h' d d' e = absurd h'
  one_way zero (a_field p n x r f) (level_of w' m') l l' h h' d d' e = absurd h'
  one_way zero (an_index p n x w r) (level_of w' m') l l' h h' d d' e = absurd h'
  one_way zero (a_call p n x c r) (level_of w' m') l l' h h' d d' e = absurd h'
  one_way zero (in_parens p w r) (level_of w' m') l l' h h' d d' e = absurd h'
  one_way zero (operated p o w) (level_of w' m') l l' h h' d d' e = absurd h'
  one_way zero (level_of w m) v' l l' h h' d d' e = absurd h
  one_way (suc k) (a_number p w) v' l l' h h' d d' e = absurd h
  one_way (suc k) (a_negated p x w) v' l l' h h' d d' e = absurd h
  one_way (suc k) (a_word p n) v' l l' h h' d d' e = absurd h
  one_way (suc k) (a_field p n x r f) v' l l' h h' d d' e = absurd h
  one_way (suc k) (an_index p n x w r) v' l l' h h' d d' e = absurd h
  one_way (suc k) (a_call p n x c r) v' l l' h h' d d' e = absurd h
  one_way (suc k) (in_parens p w r) v' l l' h h' d d' e = absurd h
  one_way (suc k) (operated p o w) v' l l' h h' d d' e = absurd h
  one_way (suc k) (level_of w m) (a_number p' w') l l' h h' d d' e = absurd h'
  one_way (suc k) (level_of w m) (a_negated p' x' w') l l' h h' d d' e = absurd h'
  one_way (suc k) (level_of w m) (a_word p' n') l l' h h' d d' e = absurd h'
  one_way (suc k) (level_of w m) (a_field p' n' x' r' f') l l' h h' d d' e = absurd h'
  one_way (suc k) (level_of w m) (an_index p' n' x' w' r') l l' h h' d d' e = absurd h'
  one_way (suc k) (level_of w m) (a_call p' n' x' c' r') l l' h h' d d' e = absurd h'
  one_way (suc k) (level_of w m) (in_parens p' w' r') l l' h h' d d' e = absurd h'
  one_way (suc k) (level_of w m) (operated p' o' w') l l' h h' d d' e = absurd h'
  one_way (suc k) (level_of w m) (level_of w' m') l l' h h' d d' e =
      let f = one_way k w w' (more_tokens m ++ l) (more_tokens m' ++ l') h.0 h'.0 (ends_more k m l h.1 d) (ends_more k m' l' h'.1 d') (sym (append_assoc (tokens w) (more_tokens m) l) ∙ e ∙ append_assoc (tokens w') (more_tokens m') l') in
      let g = one_more k m m' l l' h.1 h'.1 d d' f.1 in
      (ap (λ y. level_of y m) f.0 ∙ ap (level_of w') g.0, g.1)

  one_more : (k : ℕ) (v v' : More) (l l' : List Mark) → IsAfter k v → IsAfter k v' → Ends (suc k) l → Ends (suc k) l' → more_tokens v ++ l ≡ more_tokens v' ++ l' → (v ≡ v') × (l ≡ l')
  one_more k stop stop l l' h h' d d' e = (refl, e)
  one_more k stop (and_then o' p' w' m') l l' h h' d d' e = absurd (let f : expand (more k) (kind.Operator o') false ≡ None = subst (Refused (more k)) e (d.op k (omega arith)) in let g = rank_row k o' h'.0 in cc)
  one_more k stop (if_so p' w' q' v') l l' h h' d d' e = absurd (not_asked k p' ((tokens w' ++ sign fixed.Colon q' ∷ tokens v') ++ l') h'.0 (subst (Refused (more k)) e (d.op k (omega arith))))
  one_more k (and_then o p w m) stop l l' h h' d d' e = absurd (let f : expand (more k) (kind.Operator o) false ≡ None = subst (Refused (more k)) (sym e) (d'.op k (omega arith)) in let g = rank_row k o h.0 in cc)
  one_more k (and_then o p w m) (and_then o' p' w' m') l l' h h' d d' e =
      let i : o ≡ o' = let f = ap kind_first e in cc in
      let f = one_way k w w' (more_tokens m ++ l) (more_tokens m' ++ l') h.1 h'.1 (ends_more k m l h.2 d) (ends_more k m' l' h'.2 d') (sym (append_assoc (tokens w) (more_tokens m) l) ∙ ap others e ∙ append_assoc (tokens w') (more_tokens m') l') in
      let g = one_more k m m' l l' h.2 h'.2 d d' f.1 in
      (ap (λ y. and_then y p w m) i ∙ ap (λ y. and_then o' y w m) (ap place_first e) ∙ ap (λ y. and_then o' p' y m) f.0 ∙ ap (and_then o' p' w') g.0, g.1)
  one_more k (and_then o p w m) (if_so p' w' q' v') l l' h h' d d' e = absurd (let f = ap kind_first e in cc)
  one_more k (if_so p w q v) stop l l' h h' d d' e = absurd (not_asked k p ((tokens w ++ sign fixed.Colon q ∷ tokens v) ++ l) h.0 (subst (Refused (more k)) (sym e) (d'.op k (omega arith))))
  one_more k (if_so p w q v) (and_then o' p' w' m') l l' h h' d d' e = absurd (let f = ap kind_first e in cc)
  one_more k (if_so p w q v) (if_so p' w' q' v') l l' h h' d d' e =
      let d11 : Ends top l = subst (λ (j : ℕ). Ends (suc j) l) h.0 d in
      let e11 : Ends top l' = subst (λ (j : ℕ). Ends (suc j) l') h'.0 d' in
      let f = one_way top w w' (sign fixed.Colon q ∷ (tokens v ++ l)) (sign fixed.Colon q' ∷ (tokens v' ++ l')) h.1 h'.1 (ends_close fixed.Colon top q (tokens v ++ l) refl refl) (ends_close fixed.Colon top q' (tokens v' ++ l') refl refl) (sym (append_assoc (tokens w) (sign fixed.Colon q ∷ tokens v) l) ∙ ap others e ∙ append_assoc (tokens w') (sign fixed.Colon q' ∷ tokens v') l') in
      let g = one_way top v v' l l' h.2 h'.2 d11 e11 (ap others f.1) in
      (ap (λ y. if_so y w q v) (ap place_first e) ∙ ap (λ y. if_so p' y q v) f.0 ∙ ap (λ y. if_so p' w' y v) (ap place_first f.1) ∙ ap (if_so p' w' q') g.0, g.1)

  one_args : (v v' : Args) (r r' : ℕ) (l l' : List Mark) → AreArgs v → AreArgs v' → (arg_tokens v ++ sign fixed.CloseParen r ∷ []) ++ l ≡ (arg_tokens v' ++ sign fixed.CloseParen r' ∷ []) ++ l' → (v ≡ v') × (r ≡ r') × (l ≡ l')
  one_args no_args no_args r r' l l' h h' e = (refl, ap place_first e, ap others e)
  one_args no_args (some_args w' m') r r' l l' h h' e = absurd (no_close w' h'.0 (more_arg_tokens m') (sign fixed.CloseParen r' ∷ []) l' r l e)
  one_args (some_args w m) no_args r r' l l' h h' e = absurd (no_close w h.0 (more_arg_tokens m) (sign fixed.CloseParen r ∷ []) l r' l' (sym e))
  one_args (some_args w m) (some_args w' m') r r' l l' h h' e =
      let f = one_way top w w' (more_arg_tokens m ++ sign fixed.CloseParen r ∷ l) (more_arg_tokens m' ++ sign fixed.CloseParen r' ∷ l') h.0 h'.0 (ends_arg m r l) (ends_arg m' r' l') (sym (append_assoc (tokens w ++ more_arg_tokens m) (sign fixed.CloseParen r ∷ []) l ∙ append_assoc (tokens w) (more_arg_tokens m) (sign fixed.CloseParen r ∷ l)) ∙ e ∙ append_assoc (tokens w' ++ more_arg_tokens m') (sign fixed.CloseParen r' ∷ []) l' ∙ append_assoc (tokens w') (more_arg_tokens m') (sign fixed.CloseParen r' ∷ l')) in
      let g = one_more_args m m' r r' l l' h.1 h'.1 f.1 in
      (ap (λ y. some_args y m) f.0 ∙ ap (some_args w') g.0, g.1, g.2)

  one_more_args : (v v' : MoreArgs) (r r' : ℕ) (l l' : List Mark) → AreMoreArgs v → AreMoreArgs v' → more_arg_tokens v ++ sign fixed.CloseParen r ∷ l ≡ more_arg_tokens v' ++ sign fixed.CloseParen r' ∷ l' → (v ≡ v') × (r ≡ r') × (l ≡ l')
  one_more_args last_arg last_arg r r' l l' h h' e = (refl, ap place_first e, ap others e)
  one_more_args last_arg (next_arg p' w' m') r r' l l' h h' e = absurd (let f = ap kind_first e in cc)
  one_more_args (next_arg p w m) last_arg r r' l l' h h' e = absurd (let f = ap kind_first e in cc)
  one_more_args (next_arg p w m) (next_arg p' w' m') r r' l l' h h' e =
      let f = one_way top w w' (more_arg_tokens m ++ sign fixed.CloseParen r ∷ l) (more_arg_tokens m' ++ sign fixed.CloseParen r' ∷ l') h.0 h'.0 (ends_arg m r l) (ends_arg m' r' l') (sym (append_assoc (tokens w) (more_arg_tokens m) (sign fixed.CloseParen r ∷ l)) ∙ ap others e ∙ append_assoc (tokens w') (more_arg_tokens m') (sign fixed.CloseParen r' ∷ l')) in
      let g = one_more_args m m' r r' l l' h.1 h'.1 f.1 in
      (ap (λ y. next_arg y w m) (ap place_first e) ∙ ap (λ y. next_arg p' y m) f.0 ∙ ap (next_arg p' w') g.0, g.1, g.2)

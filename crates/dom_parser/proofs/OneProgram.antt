-- The tokens of a program are spelled in one way at most.
use Rattle.std.proofs.Common.{◌≡◌, ℕ, false, List, [], ◌∷◌, ◌++◌, None, refl, sym, ap, ◌∙◌, subst, append_assoc}
use Rattle.dom_lexer.specs.declared.token.Token.{Token}
use Rattle.dom_ast.specs.Form.{ProgramForm}
use Rattle.dom_parser.specs.declared.kinds.Fixed.{Fixed}
use Rattle.dom_parser.specs.declared.kinds.Fixed.TheVariants as fixed
use Rattle.dom_parser.specs.declared.kinds.Kind.TheVariants as kind
use Rattle.dom_parser.specs.inner.AtPlace as AtPlace
use Rattle.dom_parser.specs.Tokens.{Mark}
use Rattle.dom_parser.specs.Grammar.{top, sign, name_mark, Way, IsAt, tokens, TargetWay, target_word, target_field, target_index, IsTarget, target_tokens, Assign, assigned, IsAssign, assign_tokens, Stmts, no_more, then_stmt, Stmt, an_assign, an_if, Body, body_block, body_assign, Else, no_else, else_block, else_stmt, AreStmts, IsStmt, IsBody, IsElse, stmts_tokens, stmt_tokens, body_tokens, else_tokens, Constant, plain, negative, constant_tokens, Value, a_constant, a_name, value_tokens, Start, no_start, bare, braced, start_tokens, Size, no_size, number_size, name_size, size_tokens, Decl, a_define, a_global, decl_tokens, Decls, no_decls, then_decl, decls_tokens, Field, fields_tokens, Structure, struct_tokens, Guard, no_guard, a_guard, IsGuard, guard_tokens, Transaction, IsTransaction, transaction_tokens, AreTransactions, transactions_tokens, Program, program, IsProgram, program_tokens, program_tree, Spells, IfMarks, GlobalMarks}
use Rattle.dom_parser.specs.inner.Following as item
use Rattle.dom_parser.specs.inner.Following.{Item, level}
use Rattle.dom_parser.proofs.Traces.{Refused}
use Rattle.dom_parser.proofs.Whole.{starts_ok, struct_first, transaction_first}
use Rattle.dom_parser.proofs.One.{kind_first, place_first, text_first, others, number_of_kind, one_way, in_both}

-- an expression and the symbol after it
one_in : (f : Fixed) (w w' : Way) (r r' : ℕ) (l l' : List Mark) → IsAt top w → IsAt top w' → item.suffix_row (item.suffix_fixed f) ≡ None → AtPlace.is_fixed fixed.Question (kind.Fixed f) ≡ false → (tokens w ++ sign f r ∷ []) ++ l ≡ (tokens w' ++ sign f r' ∷ []) ++ l' → (w ≡ w') × (r ≡ r') × (l ≡ l')
one_in f w w' r r' l l' h h' a b e = in_both f w w' r r' l l' (λ x y z. one_way top w w' (sign f r ∷ l) (sign f r' ∷ l') h h' x y z) a b e

one_target : (g g' : TargetWay) (p p' : ℕ) (l l' : List Mark) → IsTarget g → IsTarget g' → target_tokens g ++ sign fixed.Assign p ∷ l ≡ target_tokens g' ++ sign fixed.Assign p' ∷ l' → (g ≡ g') × (p ≡ p') × (l ≡ l')
one_target (target_word x n) (target_word x' n') p p' l l' h h' e = let u = ap others e in (ap (λ z. target_word z n) (ap place_first e) ∙ ap (target_word x') (ap text_first e), ap place_first u, ap others u)
one_target (target_word x n) (target_field x' n' y' r' f') p p' l l' h h' e = absurd (let f = ap kind_first (ap others e) in cc)
one_target (target_word x n) (target_index x' n' y' w' r') p p' l l' h h' e = absurd (let f = ap kind_first (ap others e) in cc)
one_target (target_field x n y r f) (target_word x' n') p p' l l' h h' e = absurd (let f = ap kind_first (ap others e) in cc)
one_target (target_field x n y r f) (target_field x' n' y' r' f') p p' l l' h h' e = let u = ap others e in let v = ap others u in let w = ap others v in (ap (λ z. target_field z n y r f) (ap place_first e) ∙ ap (λ z. target_field x' z y r f) (ap text_first e) ∙ ap (λ z. target_field x' n' z r f) (ap place_first u) ∙ ap (λ z. target_field x' n' y' z f) (ap place_first v) ∙ ap (target_field x' n' y' r') (ap text_first v), ap place_first w, ap others w)
one_target (target_field x n y r f) (target_index x' n' y' w' r') p p' l l' h h' e = absurd (let f = ap kind_first (ap others e) in cc)
one_target (target_index x n y w r) (target_word x' n') p p' l l' h h' e = absurd (let f = ap kind_first (ap others e) in cc)
one_target (target_index x n y w r) (target_field x' n' y' r' f') p p' l l' h h' e = absurd (let f = ap kind_first (ap others e) in cc)
one_target (target_index x n y w r) (target_index x' n' y' w' r') p p' l l' h h' e = let u = ap others e in let g = one_in fixed.CloseBracket w w' r r' (sign fixed.Assign p ∷ l) (sign fixed.Assign p' ∷ l') h h' refl refl (ap others u) in (ap (λ z. target_index z n y w r) (ap place_first e) ∙ ap (λ z. target_index x' z y w r) (ap text_first e) ∙ ap (λ z. target_index x' n' z w r) (ap place_first u) ∙ ap (λ z. target_index x' n' y' z r) g.0 ∙ ap (target_index x' n' y' w') g.1, ap place_first g.2, ap others g.2)

one_assign : (a a' : Assign) (l l' : List Mark) → IsAssign a → IsAssign a' → assign_tokens a ++ l ≡ assign_tokens a' ++ l' → (a ≡ a') × (l ≡ l')
one_assign (assigned g p w q) (assigned g' p' w' q') l l' h h' e =
    let f = one_target g g' p p' ((tokens w ++ sign fixed.Semi q ∷ []) ++ l) ((tokens w' ++ sign fixed.Semi q' ∷ []) ++ l') h.0 h'.0 (sym (append_assoc (target_tokens g) (sign fixed.Assign p ∷ (tokens w ++ sign fixed.Semi q ∷ [])) l) ∙ e ∙ append_assoc (target_tokens g') (sign fixed.Assign p' ∷ (tokens w' ++ sign fixed.Semi q' ∷ [])) l') in
    let k = one_in fixed.Semi w w' q q' l l' h.1 h'.1 refl refl f.2 in
    (ap (λ z. assigned z p w q) f.0 ∙ ap (λ z. assigned g' z w q) f.1 ∙ ap (λ z. assigned g' p' z q) k.0 ∙ ap (assigned g' p' w') k.1, k.2)

split_paren : (w : Way) (r : ℕ) (z l : List Mark) → (tokens w ++ sign fixed.CloseParen r ∷ z) ++ l ≡ (tokens w ++ sign fixed.CloseParen r ∷ []) ++ (z ++ l)
split_paren w r z l = append_assoc (tokens w) (sign fixed.CloseParen r ∷ z) l ∙ sym (append_assoc (tokens w) (sign fixed.CloseParen r ∷ []) (z ++ l))

apart_name : (f : Fixed) (x : ℕ) (n : List ℕ) (p : ℕ) (l m : List Mark) → name_mark x n ∷ l ≡ sign f p ∷ m → ⊥
apart_name f x n p l m e = absurd (let k = ap kind_first e in cc)

brace_if : (p q : ℕ) (l m : List Mark) → sign fixed.OpenBrace p ∷ l ≡ sign fixed.If q ∷ m → ⊥
brace_if p q l m e = absurd (let k = ap kind_first e in cc)

close_if : (p q : ℕ) (l m : List Mark) → sign fixed.CloseBrace p ∷ l ≡ sign fixed.If q ∷ m → ⊥
close_if p q l m e = absurd (let k = ap kind_first e in cc)

no_else_first : (l : List Mark) (p : ℕ) (m : List Mark) → Refused item.else_part l → l ≡ sign fixed.Else p ∷ m → ⊥
no_else_first l p m h e = absurd (let k = subst (Refused item.else_part) e h in cc)

-- records are the same where their fields are
one_if_marks : (m m' : IfMarks) → m.if_at ≡ m'.if_at → m.open_at ≡ m'.open_at → m.close_at ≡ m'.close_at → m ≡ m'
one_if_marks m m' a b c = λ i. record { if_at = a i; open_at = b i; close_at = c i }

one_global_marks : (m m' : GlobalMarks) → m.int_at ≡ m'.int_at → m.name_at ≡ m'.name_at → m.name ≡ m'.name → m.semi_at ≡ m'.semi_at → m ≡ m'
one_global_marks m m' a b c d = λ i. record { int_at = a i; name_at = b i; name = c i; semi_at = d i }

one_field : (f f' : Field) → f.int_at ≡ f'.int_at → f.name_at ≡ f'.name_at → f.name ≡ f'.name → f.semi_at ≡ f'.semi_at → f ≡ f'
one_field f f' a b c d = λ i. record { int_at = a i; name_at = b i; name = c i; semi_at = d i }

regroup : (a : Stmt) (z : Stmts) (k : ℕ) (l : List Mark) → ((stmt_tokens a ++ stmts_tokens z) ++ sign fixed.CloseBrace k ∷ []) ++ l ≡ stmt_tokens a ++ ((stmts_tokens z ++ sign fixed.CloseBrace k ∷ []) ++ l)
regroup a z k l = append_assoc (stmt_tokens a ++ stmts_tokens z) (sign fixed.CloseBrace k ∷ []) l ∙ append_assoc (stmt_tokens a) (stmts_tokens z) (sign fixed.CloseBrace k ∷ l) ∙ ap (λ (y : List Mark). stmt_tokens a ++ y) (sym (append_assoc (stmts_tokens z) (sign fixed.CloseBrace k ∷ []) l))

mutual
  one_stmts : (b b' : Stmts) (q q' : ℕ) (l l' : List Mark) → AreStmts b → AreStmts b' → (stmts_tokens b ++ sign fixed.CloseBrace q ∷ []) ++ l ≡ (stmts_tokens b' ++ sign fixed.CloseBrace q' ∷ []) ++ l' → (b ≡ b') × (q ≡ q') × (l ≡ l')
  one_stmts no_more no_more k k' l l' h h' e = (refl, ap place_first e, ap others e)
  one_stmts no_more (then_stmt (an_assign (assigned (target_word x' n') u' v' y')) z') k k' l l' h h' e = absurd (apart_name fixed.CloseBrace x' n' k _ _ (sym e))
  one_stmts no_more (then_stmt (an_assign (assigned (target_field x' n' b' r' f') u' v' y')) z') k k' l l' h h' e = absurd (apart_name fixed.CloseBrace x' n' k _ _ (sym e))
  one_stmts no_more (then_stmt (an_assign (assigned (target_index x' n' b' w' r') u' v' y')) z') k k' l l' h h' e = absurd (apart_name fixed.CloseBrace x' n' k _ _ (sym e))
  one_stmts no_more (then_stmt (an_if m' w' b' c') z') k k' l l' h h' e = absurd (close_if k m'.if_at _ _ e)
  one_stmts (then_stmt (an_assign (assigned (target_word x n) u v y)) z) no_more k k' l l' h h' e = absurd (apart_name fixed.CloseBrace x n k' _ _ e)
  one_stmts (then_stmt (an_assign (assigned (target_field x n b r f) u v y)) z) no_more k k' l l' h h' e = absurd (apart_name fixed.CloseBrace x n k' _ _ e)
  one_stmts (then_stmt (an_assign (assigned (target_index x n b w r) u v y)) z) no_more k k' l l' h h' e = absurd (apart_name fixed.CloseBrace x n k' _ _ e)
  one_stmts (then_stmt (an_if m w b c) z) no_more k k' l l' h h' e = absurd (close_if k' m.if_at _ _ (sym e))
  one_stmts (then_stmt a z) (then_stmt a' z') k k' l l' h h' e =
      let f = one_stmt a a' ((stmts_tokens z ++ sign fixed.CloseBrace k ∷ []) ++ l) ((stmts_tokens z' ++ sign fixed.CloseBrace k' ∷ []) ++ l') h.0 h'.0 (starts_ok z k l) (starts_ok z' k' l') (sym (regroup a z k l) ∙ e ∙ regroup a' z' k' l') in
      let g = one_stmts z z' k k' l l' h.1 h'.1 f.1 in
      (ap (λ y. then_stmt y z) f.0 ∙ ap (then_stmt a') g.0, g.1, g.2)

  one_stmt : (a a' : Stmt) (l l' : List Mark) → IsStmt a → IsStmt a' → Refused item.else_part l → Refused item.else_part l' → stmt_tokens a ++ l ≡ stmt_tokens a' ++ l' → (a ≡ a') × (l ≡ l')
  one_stmt (an_assign a) (an_assign a') l l' h h' d d' e = let f = one_assign a a' l l' h h' e in (ap an_assign f.0, f.1)
  one_stmt (an_assign (assigned (target_word x n) u v y)) (an_if m' w' b' c') l l' h h' d d' e = absurd (apart_name fixed.If x n m'.if_at _ _ e)
  one_stmt (an_assign (assigned (target_field x n b r f) u v y)) (an_if m' w' b' c') l l' h h' d d' e = absurd (apart_name fixed.If x n m'.if_at _ _ e)
  one_stmt (an_assign (assigned (target_index x n b w r) u v y)) (an_if m' w' b' c') l l' h h' d d' e = absurd (apart_name fixed.If x n m'.if_at _ _ e)
  one_stmt (an_if m w b c) (an_assign (assigned (target_word x' n') u' v' y')) l l' h h' d d' e = absurd (apart_name fixed.If x' n' m.if_at _ _ (sym e))
  one_stmt (an_if m w b c) (an_assign (assigned (target_field x' n' b' r' f') u' v' y')) l l' h h' d d' e = absurd (apart_name fixed.If x' n' m.if_at _ _ (sym e))
  one_stmt (an_if m w b c) (an_assign (assigned (target_index x' n' b' w' r') u' v' y')) l l' h h' d d' e = absurd (apart_name fixed.If x' n' m.if_at _ _ (sym e))
  one_stmt (an_if m w b c) (an_if m' w' b' c') l l' h h' d d' e =
      let u = ap others e in
      let f = one_in fixed.CloseParen w w' m.close_at m'.close_at ((body_tokens b ++ else_tokens c) ++ l) ((body_tokens b' ++ else_tokens c') ++ l') h.0 h'.0 refl refl (sym (split_paren w m.close_at (body_tokens b ++ else_tokens c) l) ∙ ap others u ∙ split_paren w' m'.close_at (body_tokens b' ++ else_tokens c') l') in
      let g = one_body b b' (else_tokens c ++ l) (else_tokens c' ++ l') h.1 h'.1 (sym (append_assoc (body_tokens b) (else_tokens c) l) ∙ f.2 ∙ append_assoc (body_tokens b') (else_tokens c') l') in
      let k = one_else c c' l l' h.2 h'.2 d d' g.1 in
      (ap (λ y. an_if y w b c) (one_if_marks m m' (ap place_first e) (ap place_first u) f.1) ∙ ap (λ y. an_if m' y b c) f.0 ∙ ap (λ y. an_if m' w' y c) g.0 ∙ ap (an_if m' w' b') k.0, k.1)

  one_body : (b b' : Body) (l l' : List Mark) → IsBody b → IsBody b' → body_tokens b ++ l ≡ body_tokens b' ++ l' → (b ≡ b') × (l ≡ l')
  one_body (body_block p s q) (body_block p' s' q') l l' h h' e =
      let f = one_stmts s s' q q' l l' h h' (ap others e) in (ap (λ y. body_block y s q) (ap place_first e) ∙ ap (λ y. body_block p' y q) f.0 ∙ ap (body_block p' s') f.1, f.2)
  one_body (body_assign a) (body_assign a') l l' h h' e = let f = one_assign a a' l l' h h' e in (ap body_assign f.0, f.1)
  one_body (body_block p s q) (body_assign (assigned (target_word x' n') u' v' y')) l l' h h' e = absurd (apart_name fixed.OpenBrace x' n' p _ _ (sym e))
  one_body (body_block p s q) (body_assign (assigned (target_field x' n' b' r' f') u' v' y')) l l' h h' e = absurd (apart_name fixed.OpenBrace x' n' p _ _ (sym e))
  one_body (body_block p s q) (body_assign (assigned (target_index x' n' b' w' r') u' v' y')) l l' h h' e = absurd (apart_name fixed.OpenBrace x' n' p _ _ (sym e))
  one_body (body_assign (assigned (target_word x n) u v y)) (body_block p' s' q') l l' h h' e = absurd (apart_name fixed.OpenBrace x n p' _ _ e)
  one_body (body_assign (assigned (target_field x n b r f) u v y)) (body_block p' s' q') l l' h h' e = absurd (apart_name fixed.OpenBrace x n p' _ _ e)
  one_body (body_assign (assigned (target_index x n b w r) u v y)) (body_block p' s' q') l l' h h' e = absurd (apart_name fixed.OpenBrace x n p' _ _ e)

  one_else : (c c' : Else) (l l' : List Mark) → IsElse c → IsElse c' → Refused item.else_part l → Refused item.else_part l' → else_tokens c ++ l ≡ else_tokens c' ++ l' → (c ≡ c') × (l ≡ l')
  one_else no_else no_else l l' h h' d d' e = (refl, e)
  one_else no_else (else_block p' o' s' k') l l' h h' d d' e = absurd (no_else_first l p' _ d e)
  one_else no_else (else_stmt p' a') l l' h h' d d' e = absurd (no_else_first l p' _ d e)
  one_else (else_block p o s k) no_else l l' h h' d d' e = absurd (no_else_first l' p _ d' (sym e))
  one_else (else_stmt p a) no_else l l' h h' d d' e = absurd (no_else_first l' p _ d' (sym e))
  one_else (else_block p o s k) (else_block p' o' s' k') l l' h h' d d' e =
      let u = ap others e in
      let f = one_stmts s s' k k' l l' h h' (ap others u) in
      (ap (λ y. else_block y o s k) (ap place_first e) ∙ ap (λ y. else_block p' y s k) (ap place_first u) ∙ ap (λ y. else_block p' o' y k) f.0 ∙ ap (else_block p' o' s') f.1, f.2)
  one_else (else_stmt p a) (else_stmt p' a') l l' h h' d d' e =
      let f = one_stmt a a' l l' h h' d d' (ap others e) in (ap (λ y. else_stmt y a) (ap place_first e) ∙ ap (else_stmt p') f.0, f.1)
  one_else (else_block o i s k) (else_stmt o' (an_assign (assigned (target_word x' n') u' v' y'))) l l' h h' d d' e = absurd (apart_name fixed.OpenBrace x' n' i _ _ (sym (ap others e)))
  one_else (else_block o i s k) (else_stmt o' (an_assign (assigned (target_field x' n' b' r' f') u' v' y'))) l l' h h' d d' e = absurd (apart_name fixed.OpenBrace x' n' i _ _ (sym (ap others e)))
  one_else (else_block o i s k) (else_stmt o' (an_assign (assigned (target_index x' n' b' w' r') u' v' y'))) l l' h h' d d' e = absurd (apart_name fixed.OpenBrace x' n' i _ _ (sym (ap others e)))
  one_else (else_block o i s k) (else_stmt o' (an_if m' w' b' c')) l l' h h' d d' e = absurd (brace_if i m'.if_at _ _ (ap others e))
  one_else (else_stmt o (an_assign (assigned (target_word x n) u v y))) (else_block o' i' s' k') l l' h h' d d' e = absurd (apart_name fixed.OpenBrace x n i' _ _ (ap others e))
  one_else (else_stmt o (an_assign (assigned (target_field x n b r f) u v y))) (else_block o' i' s' k') l l' h h' d d' e = absurd (apart_name fixed.OpenBrace x n i' _ _ (ap others e))
  one_else (else_stmt o (an_assign (assigned (target_index x n b w r) u v y))) (else_block o' i' s' k') l l' h h' d d' e = absurd (apart_name fixed.OpenBrace x n i' _ _ (ap others e))
  one_else (else_stmt o (an_if m w b c)) (else_block o' i' s' k') l l' h h' d d' e = absurd (brace_if i' m.if_at _ _ (sym (ap others e)))

-- heads

one_constant : (c c' : Constant) (l l' : List Mark) → constant_tokens c ++ l ≡ constant_tokens c' ++ l' → (c ≡ c') × (l ≡ l')
one_constant (plain p w) (plain p' w') l l' e = let i = ap number_of_kind (ap kind_first e) in (ap (λ y. plain y w) (ap place_first e) ∙ ap (plain p') i, ap others e)
one_constant (plain p w) (negative p' q' w') l l' e = absurd (let f = ap kind_first e in cc)
one_constant (negative p q w) (plain p' w') l l' e = absurd (let f = ap kind_first e in cc)
one_constant (negative p q w) (negative p' q' w') l l' e = let u = ap others e in let i = ap number_of_kind (ap kind_first u) in (ap (λ y. negative y q w) (ap place_first e) ∙ ap (λ y. negative p' y w) (ap place_first u) ∙ ap (negative p' q') i, ap others u)

one_value : (v v' : Value) (l l' : List Mark) → value_tokens v ++ l ≡ value_tokens v' ++ l' → (v ≡ v') × (l ≡ l')
one_value (a_constant c) (a_constant c') l l' e = let f = one_constant c c' l l' e in (ap a_constant f.0, f.1)
one_value (a_constant (plain p w)) (a_name p' n') l l' e = absurd (let f = ap kind_first e in cc)
one_value (a_constant (negative p q w)) (a_name p' n') l l' e = absurd (let f = ap kind_first e in cc)
one_value (a_name p n) (a_constant (plain p' w')) l l' e = absurd (let f = ap kind_first e in cc)
one_value (a_name p n) (a_constant (negative p' q' w')) l l' e = absurd (let f = ap kind_first e in cc)
one_value (a_name p n) (a_name p' n') l l' e = (ap (λ y. a_name y n) (ap place_first e) ∙ ap (a_name p') (ap text_first e), ap others e)

braced_end : (v : Value) (k r : ℕ) (l : List Mark) → ((value_tokens v ++ sign fixed.CloseBrace k ∷ []) ++ sign fixed.Semi r ∷ []) ++ l ≡ value_tokens v ++ (sign fixed.CloseBrace k ∷ sign fixed.Semi r ∷ l)
braced_end v k r l = append_assoc (value_tokens v ++ sign fixed.CloseBrace k ∷ []) (sign fixed.Semi r ∷ []) l ∙ append_assoc (value_tokens v) (sign fixed.CloseBrace k ∷ []) (sign fixed.Semi r ∷ l)

one_start : (s s' : Start) (r r' : ℕ) (l l' : List Mark) → (start_tokens s ++ sign fixed.Semi r ∷ []) ++ l ≡ (start_tokens s' ++ sign fixed.Semi r' ∷ []) ++ l' → (s ≡ s') × (r ≡ r') × (l ≡ l')
one_start no_start no_start r r' l l' e = (refl, ap place_first e, ap others e)
one_start no_start (bare p' v') r r' l l' e = absurd (let f = ap kind_first e in cc)
one_start no_start (braced p' q' v' k') r r' l l' e = absurd (let f = ap kind_first e in cc)
one_start (bare p v) no_start r r' l l' e = absurd (let f = ap kind_first e in cc)
one_start (braced p q v k) no_start r r' l l' e = absurd (let f = ap kind_first e in cc)
one_start (bare p v) (bare p' v') r r' l l' e =
    let f = one_value v v' (sign fixed.Semi r ∷ l) (sign fixed.Semi r' ∷ l') (sym (append_assoc (value_tokens v) (sign fixed.Semi r ∷ []) l) ∙ ap others e ∙ append_assoc (value_tokens v') (sign fixed.Semi r' ∷ []) l') in
    (ap (λ y. bare y v) (ap place_first e) ∙ ap (bare p') f.0, ap place_first f.1, ap others f.1)
one_start (bare p (a_constant (plain a b))) (braced p' q' v' k') r r' l l' e = absurd (let f = ap kind_first (ap others e) in cc)
one_start (bare p (a_constant (negative a b c))) (braced p' q' v' k') r r' l l' e = absurd (let f = ap kind_first (ap others e) in cc)
one_start (bare p (a_name a b)) (braced p' q' v' k') r r' l l' e = absurd (let f = ap kind_first (ap others e) in cc)
one_start (braced p q v k) (bare p' (a_constant (plain a' b'))) r r' l l' e = absurd (let f = ap kind_first (ap others e) in cc)
one_start (braced p q v k) (bare p' (a_constant (negative a' b' c'))) r r' l l' e = absurd (let f = ap kind_first (ap others e) in cc)
one_start (braced p q v k) (bare p' (a_name a' b')) r r' l l' e = absurd (let f = ap kind_first (ap others e) in cc)
one_start (braced p q v k) (braced p' q' v' k') r r' l l' e =
    let u = ap others e in
    let f = one_value v v' (sign fixed.CloseBrace k ∷ sign fixed.Semi r ∷ l) (sign fixed.CloseBrace k' ∷ sign fixed.Semi r' ∷ l') (sym (braced_end v k r l) ∙ ap others u ∙ braced_end v' k' r' l') in
    let g = ap others f.1 in
    (ap (λ y. braced y q v k) (ap place_first e) ∙ ap (λ y. braced p' y v k) (ap place_first u) ∙ ap (λ y. braced p' q' y k) f.0 ∙ ap (braced p' q' v') (ap place_first f.1), ap place_first g, ap others g)

one_size : (z z' : Size) (s s' : Start) (r r' : ℕ) (l l' : List Mark) → size_tokens z ++ ((start_tokens s ++ sign fixed.Semi r ∷ []) ++ l) ≡ size_tokens z' ++ ((start_tokens s' ++ sign fixed.Semi r' ∷ []) ++ l') → (z ≡ z') × ((start_tokens s ++ sign fixed.Semi r ∷ []) ++ l ≡ (start_tokens s' ++ sign fixed.Semi r' ∷ []) ++ l')
one_size no_size no_size s s' r r' l l' e = (refl, e)
one_size no_size (number_size p' q' w' k') no_start s' r r' l l' e = absurd (let f = ap kind_first e in cc)
one_size no_size (number_size p' q' w' k') (bare m v) s' r r' l l' e = absurd (let f = ap kind_first e in cc)
one_size no_size (number_size p' q' w' k') (braced m n v k) s' r r' l l' e = absurd (let f = ap kind_first e in cc)
one_size no_size (name_size p' q' n' k') no_start s' r r' l l' e = absurd (let f = ap kind_first e in cc)
one_size no_size (name_size p' q' n' k') (bare m v) s' r r' l l' e = absurd (let f = ap kind_first e in cc)
one_size no_size (name_size p' q' n' k') (braced m n v k) s' r r' l l' e = absurd (let f = ap kind_first e in cc)
one_size (number_size p q w k) no_size s no_start r r' l l' e = absurd (let f = ap kind_first e in cc)
one_size (number_size p q w k) no_size s (bare m' v') r r' l l' e = absurd (let f = ap kind_first e in cc)
one_size (number_size p q w k) no_size s (braced m' n' v' k') r r' l l' e = absurd (let f = ap kind_first e in cc)
one_size (name_size p q n k) no_size s no_start r r' l l' e = absurd (let f = ap kind_first e in cc)
one_size (name_size p q n k) no_size s (bare m' v') r r' l l' e = absurd (let f = ap kind_first e in cc)
one_size (name_size p q n k) no_size s (braced m' n' v' k') r r' l l' e = absurd (let f = ap kind_first e in cc)
one_size (number_size p q w k) (name_size p' q' n' k') s s' r r' l l' e = absurd (let f = ap kind_first (ap others e) in cc)
one_size (name_size p q n k) (number_size p' q' w' k') s s' r r' l l' e = absurd (let f = ap kind_first (ap others e) in cc)
one_size (number_size p q w k) (number_size p' q' w' k') s s' r r' l l' e =
    let u = ap others e in let v = ap others u in let i = ap number_of_kind (ap kind_first u) in
    (ap (λ y. number_size y q w k) (ap place_first e) ∙ ap (λ y. number_size p' y w k) (ap place_first u) ∙ ap (λ y. number_size p' q' y k) i ∙ ap (number_size p' q' w') (ap place_first v), ap others v)
one_size (name_size p q n k) (name_size p' q' n' k') s s' r r' l l' e =
    let u = ap others e in let v = ap others u in
    (ap (λ y. name_size y q n k) (ap place_first e) ∙ ap (λ y. name_size p' y n k) (ap place_first u) ∙ ap (λ y. name_size p' q' y k) (ap text_first u) ∙ ap (name_size p' q' n') (ap place_first v), ap others v)

one_decl : (a a' : Decl) (l l' : List Mark) → decl_tokens a ++ l ≡ decl_tokens a' ++ l' → (a ≡ a') × (l ≡ l')
one_decl (a_define p q r n c) (a_define p' q' r' n' c') l l' e =
    let u = ap others e in let v = ap others u in let f = one_constant c c' l l' (ap others v) in
    (ap (λ y. a_define y q r n c) (ap place_first e) ∙ ap (λ y. a_define p' y r n c) (ap place_first u) ∙ ap (λ y. a_define p' q' y n c) (ap place_first v) ∙ ap (λ y. a_define p' q' r' y c) (ap text_first v) ∙ ap (a_define p' q' r' n') f.0, f.1)
one_decl (a_define p q r n c) (a_global m' z' s') l l' e = absurd (let f = ap kind_first e in cc)
one_decl (a_global m z s) (a_define p' q' r' n' c') l l' e = absurd (let f = ap kind_first e in cc)
one_decl (a_global m z s) (a_global m' z' s') l l' e =
    let u = ap others e in
    let f = one_size z z' s s' m.semi_at m'.semi_at l l' (sym (append_assoc (size_tokens z) (start_tokens s ++ sign fixed.Semi m.semi_at ∷ []) l) ∙ ap others u ∙ append_assoc (size_tokens z') (start_tokens s' ++ sign fixed.Semi m'.semi_at ∷ []) l') in
    let g = one_start s s' m.semi_at m'.semi_at l l' f.1 in
    (ap (λ y. a_global y z s) (one_global_marks m m' (ap place_first e) (ap place_first u) (ap text_first u) g.1) ∙ ap (λ y. a_global m' y s) f.0 ∙ ap (a_global m' z') g.0, g.2)

one_decls : (d d' : Decls) (l l' : List Mark) → Refused item.decls l → Refused item.decls l' → decls_tokens d ++ l ≡ decls_tokens d' ++ l' → (d ≡ d') × (l ≡ l')
one_decls no_decls no_decls l l' h h' e = (refl, e)
one_decls no_decls (then_decl (a_define p' q' r' n' c') d') l l' h h' e = absurd (let f = subst (Refused item.decls) e h in cc)
one_decls no_decls (then_decl (a_global m' z' s') d') l l' h h' e = absurd (let f = subst (Refused item.decls) e h in cc)
one_decls (then_decl (a_define p q r n c) d) no_decls l l' h h' e = absurd (let f = subst (Refused item.decls) (sym e) h' in cc)
one_decls (then_decl (a_global m z s) d) no_decls l l' h h' e = absurd (let f = subst (Refused item.decls) (sym e) h' in cc)
one_decls (then_decl a d) (then_decl a' d') l l' h h' e =
    let f = one_decl a a' (decls_tokens d ++ l) (decls_tokens d' ++ l') (sym (append_assoc (decl_tokens a) (decls_tokens d) l) ∙ e ∙ append_assoc (decl_tokens a') (decls_tokens d') l') in
    let g = one_decls d d' l l' h h' f.1 in
    (ap (λ y. then_decl y d) f.0 ∙ ap (then_decl a') g.0, g.1)

one_fields : (f f' : List Field) (c c' : ℕ) (l l' : List Mark) → fields_tokens f ++ sign fixed.CloseBrace c ∷ l ≡ fields_tokens f' ++ sign fixed.CloseBrace c' ∷ l' → (f ≡ f') × (c ≡ c') × (l ≡ l')
one_fields [] [] c c' l l' e = (refl, ap place_first e, ap others e)
one_fields [] (x' ∷ f') c c' l l' e = absurd (let f = ap kind_first e in cc)
one_fields (x ∷ f) [] c c' l l' e = absurd (let f = ap kind_first e in cc)
one_fields (x ∷ f) (x' ∷ f') c c' l l' e =
    let u = ap others e in let v = ap others u in let g = one_fields f f' c c' l l' (ap others v) in
    (ap (λ y. y ∷ f) (one_field x x' (ap place_first e) (ap place_first u) (ap text_first u) (ap place_first v)) ∙ ap (λ y. x' ∷ y) g.0, g.1, g.2)

one_struct : (z z' : Structure) (l l' : List Mark) → struct_tokens z ++ l ≡ struct_tokens z' ++ l' → (z ≡ z') × (l ≡ l')
one_struct z z' l l' e =
    let a = ap others e in let b = ap others a in let d = ap others b in let g = ap others d in let h = ap others g in
    let f = z.others in let f' = z'.others in let c = z.close_at in let c' = z'.close_at in let s = z.semi_at in let s' = z'.semi_at in
    let k = one_fields f f' c c' (sign fixed.Semi s ∷ l) (sign fixed.Semi s' ∷ l') (sym (append_assoc (fields_tokens f) (sign fixed.CloseBrace c ∷ sign fixed.Semi s ∷ []) l) ∙ ap others h ∙ append_assoc (fields_tokens f') (sign fixed.CloseBrace c' ∷ sign fixed.Semi s' ∷ []) l') in
    let x = one_field z.first z'.first (ap place_first d) (ap place_first g) (ap text_first g) (ap place_first h) in
    let at = ap place_first e in let tag_at = ap place_first a in let tag = ap text_first a in let open_at = ap place_first b in let semi_at = ap place_first k.2 in
    (λ i. record { struct_at = at i; tag_at = tag_at i; tag = tag i; open_at = open_at i; first = x i; others = k.0 i; close_at = k.1 i; semi_at = semi_at i }, ap others k.2)

one_guard : (g g' : Guard) (b b' : ℕ) (l l' : List Mark) → IsGuard g → IsGuard g' → guard_tokens g ++ sign fixed.OpenBrace b ∷ l ≡ guard_tokens g' ++ sign fixed.OpenBrace b' ∷ l' → (g ≡ g') × (b ≡ b') × (l ≡ l')
one_guard no_guard no_guard b b' l l' h h' e = (refl, ap place_first e, ap others e)
one_guard no_guard (a_guard p' q' w' r') b b' l l' h h' e = absurd (let f = ap kind_first e in cc)
one_guard (a_guard p q w r) no_guard b b' l l' h h' e = absurd (let f = ap kind_first e in cc)
one_guard (a_guard p q w r) (a_guard p' q' w' r') b b' l l' h h' e =
    let u = ap others e in let f = one_in fixed.CloseParen w w' r r' (sign fixed.OpenBrace b ∷ l) (sign fixed.OpenBrace b' ∷ l') h h' refl refl (ap others u) in
    (ap (λ y. a_guard y q w r) (ap place_first e) ∙ ap (λ y. a_guard p' y w r) (ap place_first u) ∙ ap (λ y. a_guard p' q' y r) f.0 ∙ ap (a_guard p' q' w') f.1, ap place_first f.2, ap others f.2)

one_transaction : (t t' : Transaction) (l l' : List Mark) → IsTransaction t → IsTransaction t' → transaction_tokens t ++ l ≡ transaction_tokens t' ++ l' → (t ≡ t') × (l ≡ l')
one_transaction t t' l l' h h' e =
    let e1 = ap others e in let e2 = ap others e1 in let e3 = ap others e2 in let e4 = ap others e3 in let e5 = ap others e4 in let e6 = ap others e5 in
    let g = t.guard in let g' = t'.guard in let b = t.begin_at in let b' = t'.begin_at in let s = t.body in let s' = t'.body in let k = t.end_at in let k' = t'.end_at in
    let f = one_guard g g' b b' ((stmts_tokens s ++ sign fixed.CloseBrace k ∷ []) ++ l) ((stmts_tokens s' ++ sign fixed.CloseBrace k' ∷ []) ++ l') h.0 h'.0 (sym (append_assoc (guard_tokens g) (sign fixed.OpenBrace b ∷ (stmts_tokens s ++ sign fixed.CloseBrace k ∷ [])) l) ∙ ap others e6 ∙ append_assoc (guard_tokens g') (sign fixed.OpenBrace b' ∷ (stmts_tokens s' ++ sign fixed.CloseBrace k' ∷ [])) l') in
    let x = one_stmts s s' k k' l l' h.1 h'.1 f.2 in
    let void_at = ap place_first e in let name_at = ap place_first e1 in let name = ap text_first e1 in let open_at = ap place_first e2 in let struct_at = ap place_first e3 in
    let tag_at = ap place_first e4 in let tag = ap text_first e4 in let param_at = ap place_first e5 in let param = ap text_first e5 in let close_at = ap place_first e6 in
    (λ i. record { void_at = void_at i; name_at = name_at i; name = name i; open_at = open_at i; struct_at = struct_at i; tag_at = tag_at i; tag = tag i; param_at = param_at i; param = param i; close_at = close_at i; guard = f.0 i; begin_at = f.1 i; body = x.0 i; end_at = x.1 i }, x.2)

one_transactions : (t t' : List Transaction) → AreTransactions t → AreTransactions t' → transactions_tokens t ≡ transactions_tokens t' → t ≡ t'
one_transactions [] [] h h' e = refl
one_transactions [] (t' ∷ ts') h h' e = absurd (let f = ap kind_first e in cc)
one_transactions (t ∷ ts) [] h h' e = absurd (let f = ap kind_first e in cc)
one_transactions (t ∷ ts) (t' ∷ ts') h h' e =
    let f = one_transaction t t' (transactions_tokens ts) (transactions_tokens ts') h.0 h'.0 e in ap (λ y. y ∷ ts) f.0 ∙ ap (λ y. t' ∷ y) (one_transactions ts ts' h.1 h'.1 f.1)

one_way_only : (w w' : Program) → IsProgram w → IsProgram w' → program_tokens w ≡ program_tokens w' → w ≡ w'
one_way_only (program d z x t ts) (program d' z' x' t' ts') h h' e =
    let four = transaction_tokens t ++ transactions_tokens ts in let four' = transaction_tokens t' ++ transactions_tokens ts' in
    let a = one_decls d d' (struct_tokens z ++ (decls_tokens x ++ four)) (struct_tokens z' ++ (decls_tokens x' ++ four')) (struct_first z (decls_tokens x ++ four)) (struct_first z' (decls_tokens x' ++ four')) e in
    let b = one_struct z z' (decls_tokens x ++ four) (decls_tokens x' ++ four') a.1 in
    let c = one_decls x x' four four' (transaction_first t (transactions_tokens ts)) (transaction_first t' (transactions_tokens ts')) b.1 in
    let f = one_transaction t t' (transactions_tokens ts) (transactions_tokens ts') h.0 h'.0 c.1 in
    ap (λ y. program y z x t ts) a.0 ∙ ap (λ y. program d' y x t ts) b.0 ∙ ap (λ y. program d' z' y t ts) c.0 ∙ ap (λ y. program d' z' x' y ts) f.0 ∙ ap (program d' z' x' t') (one_transactions ts ts' h.1 h'.1 f.1)

pub one_tree : (p q : ProgramForm) (l : List Token) → Spells p l → Spells q l → p ≡ q
one_tree p q l a b = sym a.3 ∙ ap program_tree (one_way_only a.0 b.0 a.1 b.1 (a.2 ∙ sym b.2)) ∙ b.3

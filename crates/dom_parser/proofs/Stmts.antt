-- What the functions on statements read.
use Rattle.std.proofs.Common.{◌≡◌, ℕ, ◌+◌, ◌<◌, ◌≤◌, Bool, true, false, List, [], ◌∷◌, ◌++◌, map, Option, Some, None, length, refl, sym, ap, ◌∙◌, subst, arith, append_assoc}
use Rattle.std.proofs.lemmas.List.{map-append}
use Rattle.dom_lexer.specs.declared.token.Token.{Token}
use Rattle.dom_ast.specs.declared.stmt.Stmt.{Stmt as StmtTree}
use Rattle.dom_ast.specs.Form.{ExprForm, TargetForm, to_word, to_field, to_index, StmtForm, assign, branch, StmtForms, no_stmts, stmt, stmts_of, stmt_form, stmt_forms}
use Rattle.dom_parser.specs.declared.faults.Fault.{Fault}
use Rattle.dom_parser.specs.declared.faults.Fault.TheVariants.{Unexpected, TooNested, Memory}
use Rattle.dom_parser.specs.declared.kinds.Fixed.TheVariants as fixed
use Rattle.dom_parser.specs.declared.kinds.Kind.{Kind}
use Rattle.dom_parser.specs.declared.kinds.Kind.TheVariants as kind
use Rattle.dom_parser.specs.declared.kinds.Suffix.TheVariants as suffix
use Rattle.dom_parser.specs.declared.kinds.Lead.{Lead}
use Rattle.dom_parser.specs.declared.kinds.Lead.TheVariants as lead
use Rattle.dom_parser.specs.Tokens.{Mark, stands, offset_at, ahead}
use Rattle.dom_parser.specs.inner.AtPlace.{rest, text_at, is_fixed, is_name}
use Rattle.dom_parser.specs.Grammar.{top, sign, name_mark, tokens, tree, target_word, target_field, target_index, target_tokens, target_tree, assigned, no_more, then_stmt, an_assign, an_if, body_block, body_assign, no_else, else_block, else_stmt, stmts_tokens, stmt_tokens, body_tokens, else_tokens, stmts_trees, body_tree, else_tree}
use Rattle.dom_parser.specs.inner.Following as item
use Rattle.dom_parser.specs.inner.Following.{Item, term, close, ended, level, when, then_row, paren_row, bracket_row, target_row, assign_row, if_row, block_row, stmt_row, body_row, else_row, suffix_of, lead_of, begins, expand, may_skip, held, limit, Problem, bad, deep, fault_from}
use Rattle.dom_parser.specs.inner.Reads.{FailsBy, Step, Reads, Passes, SpellsExpr, ReadsIn, FailsIn, ReadsTarget, SpellsAssign, SpellsCondition, SpellsStmt, SpellsBlock, SpellsBody, SpellsElse}
use Rattle.dom_parser.proofs.SoFar.{with_stmts, StmtsSoFar}
use Rattle.dom_ast.specs.declared.expr.Expr.{Expr}
use Rattle.dom_ast.specs.declared.stmt.Target.{Target as TargetTree}
use Rattle.dom_ast.specs.declared.stmt.Stmt.TheVariants.{Assign as AssignTree, If as IfTree}
use Rattle.dom_ast.specs.Form.{form, target_form}
use Rattle.dom_parser.proofs.Forms.{form_assign, form_if}
use Rattle.dom_parser.proofs.KnownKinds.{suffix_dot, suffix_bracket, lead_block, lead_if, lead_assign}
use Rattle.dom_parser.proofs.Steps.{skips, fails, first_of, same_row, row_none, row_one, row_here, row_later, row_read, row_failed, fails_here, deep_here, fails_as, read_term, read_name, read_ended, read_close, fails_term, fails_name, fails_close, fixed_mark, fixed_inside, sign_mark, sign_inside, word_mark, word_inside, named_mark, named_inside}

-- conditions

condition_row : (l : List Token) (p : ℕ) (b : Bool) → is_fixed fixed.OpenParen (stands l p) ≡ b → expand item.condition (stands l p) (ahead l p) ≡ when b paren_row
condition_row l p b e = ap (λ (x : Bool). when x paren_row) e

pub no_condition : (n : ℕ) (l : List Token) (p : ℕ) → is_fixed fixed.OpenParen (stands l p) ≡ false → FailsBy item.condition n l p (Unexpected p)
no_condition n l p e = fails_here item.condition n l p (condition_row l p false e) refl

pub condition_fails : (n : ℕ) (l : List Token) (p : ℕ) (f : Fault) → is_fixed fixed.OpenParen (stands l p) ≡ true → FailsIn fixed.CloseParen n l p f → FailsBy item.condition n l p f
condition_fails n l p f e a = a.there item.condition (condition_row l p true e)

pub reads_condition : (n : ℕ) (l : List Token) (p next : ℕ) (e : ExprForm) → is_fixed fixed.OpenParen (stands l p) ≡ true → ReadsIn fixed.CloseParen n l p next e → Reads item.condition n (SpellsCondition e) l p next
reads_condition n l p next e x r =
    let way = r.spelled.0 in
    let a = r.forth in
    let o = offset_at l p in
    record {
      forth = omega arith;
      within = r.within;
      reads = r.reads item.condition (condition_row l p true x);
      spelled = (sign fixed.OpenParen o ∷ (tokens way ++ sign fixed.CloseParen r.spelled.2 ∷ []), fixed_mark fixed.OpenParen l p x ∙ ap (λ (y : List Mark). sign fixed.OpenParen o ∷ y) (r.spelled.3 ∙ sym (append_assoc (tokens way) (sign fixed.CloseParen r.spelled.2 ∷ []) (rest l next))), (o, way, r.spelled.2, r.spelled.1, refl, r.spelled.4));
    }

-- targets

pub lead_within : (l : List Token) (p : ℕ) → lead_of (stands l p) ≡ lead.Assign → p < length l
lead_within l p e = word_inside l p (lead_assign (stands l p) e)

the_name : (l : List Token) (p : ℕ) → lead_of (stands l p) ≡ lead.Assign → rest l p ≡ name_mark (offset_at l p) (text_at l p) ∷ rest l (p + 1)
the_name l p e = word_mark l p (lead_assign (stands l p) e)

plain_target : (n : ℕ) (l : List Token) (p : ℕ) → lead_of (stands l p) ≡ lead.Assign → target_row (suffix_of (stands l (p + 1))) ≡ None → ReadsTarget n l p (p + 1) (to_word (text_at l p))
plain_target n l p e x =
    let inside = lead_within l p e in
    record {
      forth = omega arith;
      within = omega arith;
      reads = λ s z. skips l (p + 1) item.target_rest s x refl;
      spelled = (target_word (offset_at l p) (text_at l p), tt, the_name l p e, refl, refl);
    }

pub target_plain : (n : ℕ) (l : List Token) (p : ℕ) → lead_of (stands l p) ≡ lead.Assign → suffix_of (stands l (p + 1)) ≡ suffix.Other → ReadsTarget n l p (p + 1) (to_word (text_at l p))
target_plain n l p e x = plain_target n l p e (ap target_row x)

pub target_paren : (n : ℕ) (l : List Token) (p : ℕ) → lead_of (stands l p) ≡ lead.Assign → suffix_of (stands l (p + 1)) ≡ suffix.Paren → ReadsTarget n l p (p + 1) (to_word (text_at l p))
target_paren n l p e x = plain_target n l p e (ap target_row x)

pub no_field : (n : ℕ) (l : List Token) (p : ℕ) → n ≤ limit → suffix_of (stands l (p + 1)) ≡ suffix.Dot → is_name (stands l (p + 2)) ≡ false → FailsBy item.target_rest n l (p + 1) (Unexpected (p + 2))
no_field n l p h x m =
    let two : p + 2 ≡ p + 1 + 1 = omega arith in
    let missing : FailsBy item.a_name n l (p + 1 + 1) (Unexpected (p + 2)) = subst (λ (k : ℕ). FailsBy item.a_name n l k (Unexpected (p + 2))) two (fails_name n l (p + 2) m) in
    row_failed item.target_rest (item.a_name ∷ []) n l (p + 1) (Unexpected (p + 2)) (ap target_row x) (omega arith) (row_here item.a_name [] n n l (p + 1 + 1) (Unexpected (p + 2)) (omega arith) missing)

pub target_with_field : (n : ℕ) (l : List Token) (p : ℕ) → n ≤ limit → lead_of (stands l p) ≡ lead.Assign → suffix_of (stands l (p + 1)) ≡ suffix.Dot → is_name (stands l (p + 2)) ≡ true → ReadsTarget n l p (p + 3) (to_field (text_at l p) (offset_at l (p + 2)) (text_at l (p + 2)))
target_with_field n l p h e x m =
    let two : p + 2 ≡ p + 1 + 1 = omega arith in
    let three : p + 2 + 1 ≡ p + 3 = omega arith in
    let inside = named_inside l (p + 2) m in
    let third : rest l (p + 2) ≡ name_mark (offset_at l (p + 2)) (text_at l (p + 2)) ∷ rest l (p + 3) = named_mark l (p + 2) m ∙ ap (λ (k : ℕ). name_mark (offset_at l (p + 2)) (text_at l (p + 2)) ∷ rest l k) three in
    let second : rest l (p + 1) ≡ sign fixed.Dot (offset_at l (p + 1)) ∷ rest l (p + 2) = sign_mark fixed.Dot l (p + 1) (suffix_dot (stands l (p + 1)) x) ∙ ap (λ (k : ℕ). sign fixed.Dot (offset_at l (p + 1)) ∷ rest l k) (sym two) in
    let last : Step item.a_name n l (p + 1 + 1) (p + 3) = subst (λ (k : ℕ). Step item.a_name n l k (p + 3)) two (subst (λ (k : ℕ). Step item.a_name n l (p + 2) k) three (read_name n l (p + 2) m h)) in
    record {
      forth = omega arith;
      within = omega arith;
      reads = row_read item.target_rest (item.a_name ∷ []) n l (p + 1) (p + 3) (ap target_row x) (omega arith) (row_one item.a_name [] n n l (p + 1 + 1) (p + 3) (p + 3) (omega arith) last (row_none n l (p + 3)));
      spelled = (target_field (offset_at l p) (text_at l p) (offset_at l (p + 1)) (offset_at l (p + 2)) (text_at l (p + 2)), tt, the_name l p e ∙ ap (λ (y : List Mark). name_mark (offset_at l p) (text_at l p) ∷ y) (second ∙ ap (λ (y : List Mark). sign fixed.Dot (offset_at l (p + 1)) ∷ y) third), refl, refl);
    }

pub no_index : (n : ℕ) (l : List Token) (p : ℕ) (f : Fault) → suffix_of (stands l (p + 1)) ≡ suffix.Bracket → FailsIn fixed.CloseBracket n l (p + 1) f → FailsBy item.target_rest n l (p + 1) f
no_index n l p f x a = a.there item.target_rest (ap target_row x)

pub target_with_index : (n : ℕ) (l : List Token) (p next : ℕ) (e : ExprForm) → lead_of (stands l p) ≡ lead.Assign → suffix_of (stands l (p + 1)) ≡ suffix.Bracket → ReadsIn fixed.CloseBracket n l (p + 1) next e → ReadsTarget n l p next (to_index (text_at l p) e)
target_with_index n l p next e b x r =
    let way = r.spelled.0 in
    let a = r.forth in
    let o = offset_at l (p + 1) in
    let second : rest l (p + 1) ≡ sign fixed.OpenBracket o ∷ (tokens way ++ sign fixed.CloseBracket r.spelled.2 ∷ rest l next) = sign_mark fixed.OpenBracket l (p + 1) (suffix_bracket (stands l (p + 1)) x) ∙ ap (λ (y : List Mark). sign fixed.OpenBracket o ∷ y) r.spelled.3 in
    record {
      forth = omega arith;
      within = r.within;
      reads = r.reads item.target_rest (ap target_row x);
      spelled = (target_index (offset_at l p) (text_at l p) o way r.spelled.2, r.spelled.1, the_name l p b ∙ ap (λ (y : List Mark). name_mark (offset_at l p) (text_at l p) ∷ y) (second ∙ ap (λ (y : List Mark). sign fixed.OpenBracket o ∷ y) (sym (append_assoc (tokens way) (sign fixed.CloseBracket r.spelled.2 ∷ []) (rest l next)))), ap (λ (y : ExprForm). to_index (text_at l p) y) r.spelled.4, refl);
    }

-- assignments

name_there : (l : List Token) (p : ℕ) → lead_of (stands l p) ≡ lead.Assign → expand item.assignment (stands l p) (ahead l p) ≡ Some assign_row
name_there l p e = ap (λ (k : Kind). when (is_name k) assign_row) (lead_assign (stands l p) e)

pub target_fails : (n : ℕ) (l : List Token) (p : ℕ) (f : Fault) → n ≤ limit → lead_of (stands l p) ≡ lead.Assign → FailsBy item.target_rest n l (p + 1) f → FailsBy item.assignment n l p f
target_fails n l p f h e a =
    row_failed item.assignment assign_row n l p f (name_there l p e) (omega arith) (row_here item.target_rest (term fixed.Assign ∷ level top ∷ term fixed.Semi ∷ []) n n l (p + 1) f (omega arith) a)

pub no_equals : (n : ℕ) (l : List Token) (p q : ℕ) (t : TargetForm) → n ≤ limit → lead_of (stands l p) ≡ lead.Assign → ReadsTarget n l p q t → is_fixed fixed.Assign (stands l q) ≡ false → FailsBy item.assignment n l p (Unexpected q)
no_equals n l p q t h e r x =
    row_failed item.assignment assign_row n l p (Unexpected q) (name_there l p e) (omega arith) (row_later item.target_rest (term fixed.Assign ∷ level top ∷ term fixed.Semi ∷ []) n n l (p + 1) q (Unexpected q) (omega arith) r.reads (row_here (term fixed.Assign) (level top ∷ term fixed.Semi ∷ []) n n l q (Unexpected q) (omega arith) (fails_term fixed.Assign n l q x)))

pub value_fails : (n : ℕ) (l : List Token) (p q : ℕ) (t : TargetForm) (f : Fault) → n ≤ limit → lead_of (stands l p) ≡ lead.Assign → ReadsTarget n l p q t → is_fixed fixed.Assign (stands l q) ≡ true → FailsBy (level top) n l (q + 1) f → FailsBy item.assignment n l p f
value_fails n l p q t f h e r x a =
    row_failed item.assignment assign_row n l p f (name_there l p e) (omega arith) (row_later item.target_rest (term fixed.Assign ∷ level top ∷ term fixed.Semi ∷ []) n n l (p + 1) q f (omega arith) r.reads (row_later (term fixed.Assign) (level top ∷ term fixed.Semi ∷ []) n n l q (q + 1) f (omega arith) (read_term fixed.Assign n l q x h) (row_here (level top) (term fixed.Semi ∷ []) n n l (q + 1) f (omega arith) a)))

pub no_semi : (n : ℕ) (Is : List Mark → Type 0) (l : List Token) (p q u : ℕ) (t : TargetForm) → n ≤ limit → lead_of (stands l p) ≡ lead.Assign → ReadsTarget n l p q t → is_fixed fixed.Assign (stands l q) ≡ true → Reads (level top) n Is l (q + 1) u → is_fixed fixed.Semi (stands l u) ≡ false → FailsBy item.assignment n l p (Unexpected u)
no_semi n Is l p q u t h e r x v y =
    row_failed item.assignment assign_row n l p (Unexpected u) (name_there l p e) (omega arith) (row_later item.target_rest (term fixed.Assign ∷ level top ∷ term fixed.Semi ∷ []) n n l (p + 1) q (Unexpected u) (omega arith) r.reads (row_later (term fixed.Assign) (level top ∷ term fixed.Semi ∷ []) n n l q (q + 1) (Unexpected u) (omega arith) (read_term fixed.Assign n l q x h) (row_later (level top) (term fixed.Semi ∷ []) n n l (q + 1) u (Unexpected u) (omega arith) v.reads (row_here (term fixed.Semi) [] n n l u (Unexpected u) (omega arith) (fails_term fixed.Semi n l u y)))))

pub reads_assign : (n : ℕ) (l : List Token) (p q u : ℕ) (t : TargetForm) (e : ExprForm) → n ≤ limit → lead_of (stands l p) ≡ lead.Assign → ReadsTarget n l p q t → is_fixed fixed.Assign (stands l q) ≡ true → Reads (level top) n (SpellsExpr top e) l (q + 1) u → is_fixed fixed.Semi (stands l u) ≡ true → Reads item.assignment n (SpellsAssign (assign (offset_at l p) t e)) l p (u + 1)
reads_assign n l p q u t e h b r x v y =
    let g = r.spelled.0 in
    let way = v.spelled.2.0 in
    let a = r.forth in let c = v.forth in
    let inside = fixed_inside fixed.Semi l u y in
    let eq = offset_at l q in let semi = offset_at l u in
    let read : rest l (q + 1) ≡ tokens way ++ rest l u = v.spelled.1 ∙ ap (λ (z : List Mark). z ++ rest l u) (sym v.spelled.2.2) in
    let value : rest l q ≡ sign fixed.Assign eq ∷ (tokens way ++ sign fixed.Semi semi ∷ rest l (u + 1)) = fixed_mark fixed.Assign l q x ∙ ap (λ (z : List Mark). sign fixed.Assign eq ∷ z) (read ∙ ap (λ (z : List Mark). tokens way ++ z) (fixed_mark fixed.Semi l u y)) in
    let value_in : rest l q ≡ (sign fixed.Assign eq ∷ (tokens way ++ sign fixed.Semi semi ∷ [])) ++ rest l (u + 1) = value ∙ ap (λ (z : List Mark). sign fixed.Assign eq ∷ z) (sym (append_assoc (tokens way) (sign fixed.Semi semi ∷ []) (rest l (u + 1)))) in
    record {
      forth = omega arith;
      within = omega arith;
      reads = row_read item.assignment assign_row n l p (u + 1) (name_there l p b) (omega arith) (row_one item.target_rest (term fixed.Assign ∷ level top ∷ term fixed.Semi ∷ []) n n l (p + 1) q (u + 1) (omega arith) r.reads (row_one (term fixed.Assign) (level top ∷ term fixed.Semi ∷ []) n n l q (q + 1) (u + 1) (omega arith) (read_term fixed.Assign n l q x h) (row_one (level top) (term fixed.Semi ∷ []) n n l (q + 1) u (u + 1) (omega arith) v.reads (row_one (term fixed.Semi) [] n n l u (u + 1) (u + 1) (omega arith) (read_term fixed.Semi n l u y h) (row_none n l (u + 1))))));
      spelled = (target_tokens g ++ sign fixed.Assign eq ∷ (tokens way ++ sign fixed.Semi semi ∷ []), r.spelled.2 ∙ ap (λ (z : List Mark). target_tokens g ++ z) value_in ∙ sym (append_assoc (target_tokens g) (sign fixed.Assign eq ∷ (tokens way ++ sign fixed.Semi semi ∷ [])) (rest l (u + 1))), (assigned g eq way semi, (r.spelled.1, v.spelled.2.1), refl, ap (λ (z : ℕ). assign z (target_tree g) (tree way)) r.spelled.4 ∙ ap (λ (z : TargetForm). assign (offset_at l p) z (tree way)) r.spelled.3 ∙ ap (λ (z : ExprForm). assign (offset_at l p) t z) v.spelled.2.3));
    }

-- what a name begins is an assignment
pub assign_as : (i : Item) (n : ℕ) (l : List Token) (p : ℕ) → lead_of (stands l p) ≡ lead.Assign → expand i (stands l p) (ahead l p) ≡ Some assign_row → (s : List Item) → fault_from l p (i ∷ s) ≡ fault_from l p (item.assignment ∷ s)
assign_as i n l p e f s = same_row l p i item.assignment assign_row s f (name_there l p e)

-- blocks

block_there : (l : List Token) (p : ℕ) (b : Bool) → is_fixed fixed.OpenBrace (stands l p) ≡ b → expand item.block (stands l p) (ahead l p) ≡ when b block_row
block_there l p b e = ap (λ (x : Bool). when x block_row) e

pub no_block : (n : ℕ) (l : List Token) (p : ℕ) → is_fixed fixed.OpenBrace (stands l p) ≡ false → FailsBy item.block n l p (Unexpected p)
no_block n l p e = fails_here item.block n l p (block_there l p false e) refl

pub block_deep : (n : ℕ) (l : List Token) (p : ℕ) → is_fixed fixed.OpenBrace (stands l p) ≡ true → n ≡ limit → FailsBy item.block n l p (TooNested p)
block_deep n l p e h = deep_here item.block block_row n l p (block_there l p true e) (omega arith)

pub stmts_start : (n : ℕ) (l : List Token) (p : ℕ) → is_fixed fixed.OpenBrace (stands l p) ≡ true → StmtsSoFar n l p (p + 1) []
stmts_start n l p e =
    let inside = fixed_inside fixed.OpenBrace l p e in
    record { forth = omega arith; within = omega arith; reads = λ s z. refl; spelled = λ q tail a x. (q, a, x, refl) }

-- where a statement begins
begun : (a : Lead) → begins a ≡ true → (row : List Item) × (stmt_row a ≡ Some row)
begun lead.Block e = absurd (cc)
begun lead.Assign e = (assign_row, refl)
begun lead.If e = (if_row, refl)
begun lead.Other e = absurd (cc)

not_begun : (a : Lead) → begins a ≡ false → stmt_row a ≡ None
not_begun lead.Block e = refl
not_begun lead.Assign e = absurd (cc)
not_begun lead.If e = absurd (cc)
not_begun lead.Other e = refl

pub no_stmt_block : (n : ℕ) (l : List Token) (p : ℕ) → lead_of (stands l p) ≡ lead.Block → FailsBy item.stmt n l p (Unexpected p)
no_stmt_block n l p e = fails_here item.stmt n l p (ap stmt_row e) refl

pub no_stmt_other : (n : ℕ) (l : List Token) (p : ℕ) → lead_of (stands l p) ≡ lead.Other → FailsBy item.stmt n l p (Unexpected p)
no_stmt_other n l p e = fails_here item.stmt n l p (ap stmt_row e) refl

one_more : (l : List Token) (p : ℕ) → begins (lead_of (stands l p)) ≡ true → (s : List Item) → fault_from l p (item.stmts ∷ s) ≡ fault_from l p (item.stmt ∷ item.stmts ∷ s)
one_more l p e s = let b = begun (lead_of (stands l p)) e in first_of l p item.stmts item.stmt (item.stmts ∷ []) b.0 s refl b.1

with_stmt : (ss : List StmtForm) (a : StmtForm) (t : StmtForms) → with_stmts (ss ++ a ∷ []) t ≡ with_stmts ss (stmt a t)
with_stmt [] a t = refl
with_stmt (b ∷ ss) a t = ap (stmt b) (with_stmt ss a t)

with_no_stmts : (ss : List StmtForm) → with_stmts ss no_stmts ≡ stmts_of ss
with_no_stmts [] = refl
with_no_stmts (b ∷ ss) = ap (stmt b) (with_no_stmts ss)

pub stmts_next : (n : ℕ) (l : List Token) (p next after : ℕ) (done all : List StmtTree) (a : StmtTree) → StmtsSoFar n l p next (map stmt_form done) → begins (lead_of (stands l next)) ≡ true → Reads item.stmt (n + 1) (SpellsStmt (stmt_form a)) l next after → all ≡ done ++ a ∷ [] → StmtsSoFar n l p after (map stmt_form all)
stmts_next n l p next after done all a m b r is =
    let x = m.forth in let y = r.forth in
    let way = r.spelled.2.0 in
    let read : rest l next ≡ stmt_tokens way ++ rest l after = r.spelled.1 ∙ ap (λ (z : List Mark). z ++ rest l after) (sym r.spelled.2.2) in
    let pushed : map stmt_form all ≡ map stmt_form done ++ stmt_form a ∷ [] = ap (map stmt_form) is ∙ map-append stmt_form done (a ∷ []) in
    let so_far : StmtsSoFar n l p after (map stmt_form done ++ stmt_form a ∷ []) = record {
      forth = omega arith;
      within = r.within;
      reads = λ s z. m.reads s z ∙ one_more l next b s ∙ r.reads (item.stmts ∷ s) z;
      spelled = λ q tail aq eq.
          let d : rest l next ≡ (stmt_tokens way ++ stmts_tokens q) ++ tail = read ∙ ap (λ (z : List Mark). stmt_tokens way ++ z) eq ∙ sym (append_assoc (stmt_tokens way) (stmts_tokens q) tail) in
          let w = m.spelled (then_stmt way q) tail (r.spelled.2.1, aq) d in
          (w.0, w.1, w.2, w.3 ∙ ap (λ (z : StmtForm). with_stmts (map stmt_form done) (stmt z (stmts_trees q))) r.spelled.2.3 ∙ sym (with_stmt (map stmt_form done) (stmt_form a) (stmts_trees q)));
    } in
    subst (λ (z : List StmtForm). StmtsSoFar n l p after z) (sym pushed) so_far

in_block : (n : ℕ) (l : List Token) (p next : ℕ) (ss : List StmtForm) (f : Fault) → n < limit → is_fixed fixed.OpenBrace (stands l p) ≡ true → StmtsSoFar n l p next ss → ((s : List Item) → held s ≡ n + 1 → fault_from l next (item.stmts ∷ s) ≡ fault_from l next s) → FailsBy (close fixed.CloseBrace) n l next f → FailsBy item.block n l p f
in_block n l p next ss f h e m k a =
    row_failed item.block block_row n l p f (block_there l p true e) (omega arith) (row_later item.stmts (close fixed.CloseBrace ∷ []) n (n + 1) l (p + 1) next f (omega arith) (λ s z. m.reads s z ∙ k s z) (row_here (close fixed.CloseBrace) [] n n l next f (omega arith) a))

pub stmt_fails : (n : ℕ) (l : List Token) (p next : ℕ) (ss : List StmtForm) (f : Fault) → n < limit → is_fixed fixed.OpenBrace (stands l p) ≡ true → StmtsSoFar n l p next ss → begins (lead_of (stands l next)) ≡ true → FailsBy item.stmt (n + 1) l next f → FailsBy item.block n l p f
stmt_fails n l p next ss f h e m b a =
    row_failed item.block block_row n l p f (block_there l p true e) (omega arith) (row_here item.stmts (close fixed.CloseBrace ∷ []) n (n + 1) l (p + 1) f (omega arith) (go f a))
  where
    go : (f : Fault) → FailsBy item.stmt (n + 1) l next f → FailsBy item.stmts (n + 1) l (p + 1) f
    go (Unexpected q) a = record { there = λ s z. m.reads s z ∙ one_more l next b s ∙ a.there (item.stmts ∷ s) z }
    go (TooNested q) a = record { there = λ s z. m.reads s z ∙ one_more l next b s ∙ a.there (item.stmts ∷ s) z }
    go Memory a = tt

no_more_here : (l : List Token) (p : ℕ) → begins (lead_of (stands l p)) ≡ false → (s : List Item) → fault_from l p (item.stmts ∷ s) ≡ fault_from l p s
no_more_here l p b s =
    skips l p item.stmts s (ap (λ (r : Option (List Item)). then_row r (item.stmts ∷ [])) (not_begun (lead_of (stands l p)) b)) refl

pub block_open : (n : ℕ) (l : List Token) (p next : ℕ) (ss : List StmtForm) → n < limit → is_fixed fixed.OpenBrace (stands l p) ≡ true → StmtsSoFar n l p next ss → begins (lead_of (stands l next)) ≡ false → is_fixed fixed.CloseBrace (stands l next) ≡ false → FailsBy item.block n l p (Unexpected next)
block_open n l p next ss h e m b c =
    in_block n l p next ss (Unexpected next) h e m (λ s z. no_more_here l next b s) (fails_close fixed.CloseBrace n l next c)

pub reads_block : (n : ℕ) (l : List Token) (p next : ℕ) (ss : List StmtTree) → n < limit → is_fixed fixed.OpenBrace (stands l p) ≡ true → StmtsSoFar n l p next (map stmt_form ss) → begins (lead_of (stands l next)) ≡ false → is_fixed fixed.CloseBrace (stands l next) ≡ true → Reads item.block n (SpellsBlock (stmt_forms ss)) l p (next + 1)
reads_block n l p next ss h e m b c =
    let x = m.forth in
    let inside = fixed_inside fixed.CloseBrace l next c in
    let o = offset_at l p in let q = offset_at l next in
    let w = m.spelled no_more (rest l next) tt refl in
    record {
      forth = omega arith;
      within = omega arith;
      reads = row_read item.block block_row n l p (next + 1) (block_there l p true e) (omega arith) (row_one item.stmts (close fixed.CloseBrace ∷ []) n (n + 1) l (p + 1) next (next + 1) (omega arith) (λ s z. m.reads s z ∙ no_more_here l next b s) (row_one (close fixed.CloseBrace) [] n n l next (next + 1) (next + 1) (omega arith) (read_close fixed.CloseBrace n l next c (omega arith)) (row_none n l (next + 1))));
      spelled = (sign fixed.OpenBrace o ∷ (stmts_tokens w.0 ++ sign fixed.CloseBrace q ∷ []), fixed_mark fixed.OpenBrace l p e ∙ ap (λ (z : List Mark). sign fixed.OpenBrace o ∷ z) (w.2 ∙ ap (λ (z : List Mark). stmts_tokens w.0 ++ z) (fixed_mark fixed.CloseBrace l next c) ∙ sym (append_assoc (stmts_tokens w.0) (sign fixed.CloseBrace q ∷ []) (rest l (next + 1)))), (o, w.0, q, w.1, refl, w.3 ∙ with_no_stmts (map stmt_form ss)));
    }

-- statements

pub assign_stmt : (n : ℕ) (l : List Token) (p q : ℕ) (a : StmtForm) → lead_of (stands l p) ≡ lead.Assign → Reads item.assignment n (SpellsAssign a) l p q → Reads item.stmt n (SpellsStmt a) l p q
assign_stmt n l p q a e r = record {
  forth = r.forth;
  within = r.within;
  reads = λ s z. assign_as item.stmt n l p e (ap stmt_row e) s ∙ r.reads s z;
  spelled = (r.spelled.0, r.spelled.1, (an_assign r.spelled.2.0, r.spelled.2.1, r.spelled.2.2, r.spelled.2.3));
}

pub assign_stmt_fails : (n : ℕ) (l : List Token) (p : ℕ) (f : Fault) → lead_of (stands l p) ≡ lead.Assign → FailsBy item.assignment n l p f → FailsBy item.stmt n l p f
assign_stmt_fails n l p f e a = fails_as item.stmt item.assignment n l p f (assign_as item.stmt n l p e (ap stmt_row e)) a

pub if_within : (l : List Token) (p : ℕ) → lead_of (stands l p) ≡ lead.If → p < length l
if_within l p e = sign_inside fixed.If l p (lead_if (stands l p) e)

if_there : (l : List Token) (p : ℕ) → lead_of (stands l p) ≡ lead.If → expand item.stmt (stands l p) (ahead l p) ≡ Some if_row
if_there l p e = ap stmt_row e

pub if_deep : (n : ℕ) (l : List Token) (p : ℕ) → lead_of (stands l p) ≡ lead.If → n ≡ limit → FailsBy item.stmt n l p (TooNested p)
if_deep n l p e h = deep_here item.stmt if_row n l p (if_there l p e) (omega arith)

pub if_condition : (n : ℕ) (l : List Token) (p : ℕ) (f : Fault) → lead_of (stands l p) ≡ lead.If → n < limit → FailsBy item.condition (n + 1) l (p + 1) f → FailsBy item.stmt n l p f
if_condition n l p f e h a =
    row_failed item.stmt if_row n l p f (if_there l p e) (omega arith) (row_here item.condition (item.body ∷ item.else_part ∷ ended ∷ []) n (n + 1) l (p + 1) f (omega arith) a)

pub if_body : (n : ℕ) (Is : List Mark → Type 0) (l : List Token) (p q : ℕ) (f : Fault) → lead_of (stands l p) ≡ lead.If → n < limit → Reads item.condition (n + 1) Is l (p + 1) q → FailsBy item.body (n + 1) l q f → FailsBy item.stmt n l p f
if_body n Is l p q f e h r a =
    row_failed item.stmt if_row n l p f (if_there l p e) (omega arith) (row_later item.condition (item.body ∷ item.else_part ∷ ended ∷ []) n (n + 1) l (p + 1) q f (omega arith) r.reads (row_here item.body (item.else_part ∷ ended ∷ []) n (n + 1) l q f (omega arith) a))

pub if_else : (n : ℕ) (Is Js : List Mark → Type 0) (l : List Token) (p q u : ℕ) (f : Fault) → lead_of (stands l p) ≡ lead.If → n < limit → Reads item.condition (n + 1) Is l (p + 1) q → Reads item.body (n + 1) Js l q u → FailsBy item.else_part (n + 1) l u f → FailsBy item.stmt n l p f
if_else n Is Js l p q u f e h r v a =
    row_failed item.stmt if_row n l p f (if_there l p e) (omega arith) (row_later item.condition (item.body ∷ item.else_part ∷ ended ∷ []) n (n + 1) l (p + 1) q f (omega arith) r.reads (row_later item.body (item.else_part ∷ ended ∷ []) n (n + 1) l q u f (omega arith) v.reads (row_here item.else_part (ended ∷ []) n (n + 1) l u f (omega arith) a)))

pub reads_if : (n : ℕ) (l : List Token) (p q u v : ℕ) (e : ExprForm) (ss ts : StmtForms) → lead_of (stands l p) ≡ lead.If → n < limit → Reads item.condition (n + 1) (SpellsCondition e) l (p + 1) q → Reads item.body (n + 1) (SpellsBody ss) l q u → Passes item.else_part (n + 1) (SpellsElse ts) l u v → Reads item.stmt n (SpellsStmt (branch e ss ts)) l p v
reads_if n l p q u v e ss ts b h r x y =
    let c = r.spelled.2 in
    let way = c.1 in let body_way = x.spelled.2.0 in let else_way = y.spelled.2.0 in
    let f = r.forth in let g = x.forth in let k = y.forth in
    let o = offset_at l p in
    let shut = sign fixed.CloseParen c.2 in
    let read_else : rest l u ≡ else_tokens else_way ++ rest l v = y.spelled.1 ∙ ap (λ (z : List Mark). z ++ rest l v) (sym y.spelled.2.2) in
    let read_body : rest l q ≡ (body_tokens body_way ++ else_tokens else_way) ++ rest l v = x.spelled.1 ∙ ap (λ (z : List Mark). z ++ rest l u) (sym x.spelled.2.2) ∙ ap (λ (z : List Mark). body_tokens body_way ++ z) read_else ∙ sym (append_assoc (body_tokens body_way) (else_tokens else_way) (rest l v)) in
    let read_test : rest l (p + 1) ≡ sign fixed.OpenParen c.0 ∷ (tokens way ++ shut ∷ rest l q) = r.spelled.1 ∙ ap (λ (z : List Mark). z ++ rest l q) (sym c.4) ∙ ap (λ (z : List Mark). sign fixed.OpenParen c.0 ∷ z) (append_assoc (tokens way) (shut ∷ []) (rest l q)) in
    let all : rest l p ≡ sign fixed.If o ∷ sign fixed.OpenParen c.0 ∷ (tokens way ++ shut ∷ ((body_tokens body_way ++ else_tokens else_way) ++ rest l v)) = sign_mark fixed.If l p (lead_if (stands l p) b) ∙ ap (λ (z : List Mark). sign fixed.If o ∷ z) (read_test ∙ ap (λ (z : List Mark). sign fixed.OpenParen c.0 ∷ (tokens way ++ shut ∷ z)) read_body) in
    record {
      forth = omega arith;
      within = y.within;
      reads = row_read item.stmt if_row n l p v (if_there l p b) (omega arith) (row_one item.condition (item.body ∷ item.else_part ∷ ended ∷ []) n (n + 1) l (p + 1) q v (omega arith) r.reads (row_one item.body (item.else_part ∷ ended ∷ []) n (n + 1) l q u v (omega arith) x.reads (row_one item.else_part (ended ∷ []) n (n + 1) l u v v (omega arith) y.reads (row_one ended [] n n l v v v (omega arith) (read_ended n l v) (row_none n l v)))));
      spelled = (sign fixed.If o ∷ sign fixed.OpenParen c.0 ∷ (tokens way ++ shut ∷ (body_tokens body_way ++ else_tokens else_way)), all ∙ ap (λ (z : List Mark). sign fixed.If o ∷ sign fixed.OpenParen c.0 ∷ z) (sym (append_assoc (tokens way) (shut ∷ (body_tokens body_way ++ else_tokens else_way)) (rest l v))), (an_if (record { if_at = o; open_at = c.0; close_at = c.2 }) way body_way else_way, (c.3, x.spelled.2.1, y.spelled.2.1), refl, ap (λ (z : ExprForm). branch z (body_tree body_way) (else_tree else_way)) c.5 ∙ ap (λ (z : StmtForms). branch e z (else_tree else_way)) x.spelled.2.3 ∙ ap (λ (z : StmtForms). branch e ss z) y.spelled.2.3));
    }

-- bodies

brace_there : (l : List Token) (p : ℕ) → lead_of (stands l p) ≡ lead.Block → expand item.block (stands l p) (ahead l p) ≡ Some block_row
brace_there l p e = ap (λ (k : Kind). when (is_fixed fixed.OpenBrace k) block_row) (lead_block (stands l p) e)

pub block_body : (n : ℕ) (l : List Token) (p q : ℕ) (ss : StmtForms) → lead_of (stands l p) ≡ lead.Block → Reads item.block n (SpellsBlock ss) l p q → Reads item.body n (SpellsBody ss) l p q
block_body n l p q ss e r =
    let c = r.spelled.2 in
    record {
      forth = r.forth;
      within = r.within;
      reads = λ s z. same_row l p item.body item.block block_row s (ap body_row e) (brace_there l p e) ∙ r.reads s z;
      spelled = (r.spelled.0, r.spelled.1, (body_block c.0 c.1 c.2, c.3, c.4, c.5));
    }

pub block_body_fails : (n : ℕ) (l : List Token) (p : ℕ) (f : Fault) → lead_of (stands l p) ≡ lead.Block → FailsBy item.block n l p f → FailsBy item.body n l p f
block_body_fails n l p f e a = fails_as item.body item.block n l p f (λ s. same_row l p item.body item.block block_row s (ap body_row e) (brace_there l p e)) a

pub assign_body : (n : ℕ) (l : List Token) (p q : ℕ) (a : StmtForm) → lead_of (stands l p) ≡ lead.Assign → Reads item.assignment n (SpellsAssign a) l p q → Reads item.body n (SpellsBody (stmt a no_stmts)) l p q
assign_body n l p q a e r = record {
  forth = r.forth;
  within = r.within;
  reads = λ s z. assign_as item.body n l p e (ap body_row e) s ∙ r.reads s z;
  spelled = (r.spelled.0, r.spelled.1, (body_assign r.spelled.2.0, r.spelled.2.1, r.spelled.2.2, ap (λ (z : StmtForm). stmt z no_stmts) r.spelled.2.3));
}

pub assign_body_fails : (n : ℕ) (l : List Token) (p : ℕ) (f : Fault) → lead_of (stands l p) ≡ lead.Assign → FailsBy item.assignment n l p f → FailsBy item.body n l p f
assign_body_fails n l p f e a = fails_as item.body item.assignment n l p f (assign_as item.body n l p e (ap body_row e)) a

pub no_body_if : (n : ℕ) (l : List Token) (p : ℕ) → lead_of (stands l p) ≡ lead.If → FailsBy item.body n l p (Unexpected p)
no_body_if n l p e = fails_here item.body n l p (ap body_row e) refl

pub no_body_other : (n : ℕ) (l : List Token) (p : ℕ) → lead_of (stands l p) ≡ lead.Other → FailsBy item.body n l p (Unexpected p)
no_body_other n l p e = fails_here item.body n l p (ap body_row e) refl

-- else

no_brace : (k : Kind) → lead_of k ≡ lead.Other → when (is_fixed fixed.OpenBrace k) block_row ≡ None
no_brace kind.Name e = absurd (cc)
no_brace (kind.Number n) e = refl
no_brace kind.Inv e = refl
no_brace kind.Not e = refl
no_brace (kind.Operator o) e = refl
no_brace kind.Forbidden e = refl
no_brace kind.End e = refl
no_brace (kind.Fixed fixed.Struct) e = refl
no_brace (kind.Fixed fixed.Int) e = refl
no_brace (kind.Fixed fixed.Void) e = refl
no_brace (kind.Fixed fixed.If) e = absurd (cc)
no_brace (kind.Fixed fixed.Else) e = refl
no_brace (kind.Fixed fixed.Define) e = refl
no_brace (kind.Fixed fixed.Assign) e = refl
no_brace (kind.Fixed fixed.Question) e = refl
no_brace (kind.Fixed fixed.Colon) e = refl
no_brace (kind.Fixed fixed.Semi) e = refl
no_brace (kind.Fixed fixed.Comma) e = refl
no_brace (kind.Fixed fixed.Dot) e = refl
no_brace (kind.Fixed fixed.OpenParen) e = refl
no_brace (kind.Fixed fixed.CloseParen) e = refl
no_brace (kind.Fixed fixed.OpenBracket) e = refl
no_brace (kind.Fixed fixed.CloseBracket) e = refl
no_brace (kind.Fixed fixed.OpenBrace) e = absurd (cc)
no_brace (kind.Fixed fixed.CloseBrace) e = refl
no_brace (kind.Fixed fixed.Hash) e = refl

else_there : (l : List Token) (p : ℕ) (b : Bool) → is_fixed fixed.Else (stands l p) ≡ b → expand item.else_part (stands l p) (ahead l p) ≡ when b (item.else_rest ∷ [])
else_there l p b e = ap (λ (x : Bool). when x (item.else_rest ∷ [])) e

pub passes_else : (n : ℕ) (l : List Token) (p : ℕ) → p ≤ length l → is_fixed fixed.Else (stands l p) ≡ false → Passes item.else_part n (SpellsElse no_stmts) l p p
passes_else n l p h e = record {
  forth = omega arith;
  within = h;
  reads = λ s z. skips l p item.else_part s (else_there l p false e) refl;
  spelled = ([], refl, (no_else, tt, refl, refl));
}

else_fails : (i : Item) (n : ℕ) (l : List Token) (p : ℕ) (f : Fault) → n ≤ limit → is_fixed fixed.Else (stands l p) ≡ true → ((s : List Item) → fault_from l (p + 1) (item.else_rest ∷ s) ≡ fault_from l (p + 1) (i ∷ s)) → FailsBy i n l (p + 1) f → FailsBy item.else_part n l p f
else_fails i n l p f h e k a =
    row_failed item.else_part (item.else_rest ∷ []) n l p f (else_there l p true e) (omega arith) (row_here item.else_rest [] n n l (p + 1) f (omega arith) (fails_as item.else_rest i n l (p + 1) f k a))

-- what begins no statement there must be a block
as_block : (l : List Token) (p : ℕ) → begins (lead_of (stands l p)) ≡ false → (s : List Item) → fault_from l p (item.else_rest ∷ s) ≡ fault_from l p (item.block ∷ s)
as_block l p b s = go (lead_of (stands l p)) refl b
  where
    go : (a : Lead) → lead_of (stands l p) ≡ a → begins a ≡ false → fault_from l p (item.else_rest ∷ s) ≡ fault_from l p (item.block ∷ s)
    go lead.Block e b = same_row l p item.else_rest item.block block_row s (ap else_row e) (brace_there l p e)
    go lead.Assign e b = absurd (cc)
    go lead.If e b = absurd (cc)
    go lead.Other e b = fails l p item.else_rest s (ap else_row e) refl ∙ sym (fails l p item.block s (no_brace (stands l p) e) refl)

-- whether what follows `else` is a statement
as_stmt : (l : List Token) (p : ℕ) (a : Lead) → lead_of (stands l p) ≡ a → begins a ≡ true → (s : List Item) → fault_from l p (item.else_rest ∷ s) ≡ fault_from l p (item.stmt ∷ s)
as_stmt l p lead.Block e b s = absurd (cc)
as_stmt l p lead.Assign e b s = same_row l p item.else_rest item.stmt assign_row s (ap else_row e) (ap stmt_row e)
as_stmt l p lead.If e b s = same_row l p item.else_rest item.stmt if_row s (ap else_row e) (ap stmt_row e)
as_stmt l p lead.Other e b s = absurd (cc)

pub else_block_fails : (n : ℕ) (l : List Token) (p : ℕ) (f : Fault) → n ≤ limit → is_fixed fixed.Else (stands l p) ≡ true → begins (lead_of (stands l (p + 1))) ≡ false → FailsBy item.block n l (p + 1) f → FailsBy item.else_part n l p f
else_block_fails n l p f h e b a = else_fails item.block n l p f h e (as_block l (p + 1) b) a

pub else_stmt_fails : (n : ℕ) (l : List Token) (p : ℕ) (f : Fault) → n ≤ limit → is_fixed fixed.Else (stands l p) ≡ true → begins (lead_of (stands l (p + 1))) ≡ true → FailsBy item.stmt n l (p + 1) f → FailsBy item.else_part n l p f
else_stmt_fails n l p f h e b a = else_fails item.stmt n l p f h e (as_stmt l (p + 1) (lead_of (stands l (p + 1))) refl b) a

else_reads : (i : Item) (n : ℕ) (l : List Token) (p q : ℕ) → n ≤ limit → is_fixed fixed.Else (stands l p) ≡ true → ((s : List Item) → fault_from l (p + 1) (item.else_rest ∷ s) ≡ fault_from l (p + 1) (i ∷ s)) → Step i n l (p + 1) q → Step item.else_part n l p q
else_reads i n l p q h e k a =
    row_read item.else_part (item.else_rest ∷ []) n l p q (else_there l p true e) (omega arith) (row_one item.else_rest [] n n l (p + 1) q q (omega arith) (λ s z. k s ∙ a s z) (row_none n l q))

pub passes_block : (n : ℕ) (l : List Token) (p q : ℕ) (ss : StmtForms) → n ≤ limit → is_fixed fixed.Else (stands l p) ≡ true → begins (lead_of (stands l (p + 1))) ≡ false → Reads item.block n (SpellsBlock ss) l (p + 1) q → Passes item.else_part n (SpellsElse ss) l p q
passes_block n l p q ss h e b r =
    let c = r.spelled.2 in
    let f = r.forth in
    let o = offset_at l p in
    record {
      forth = omega arith;
      within = r.within;
      reads = else_reads item.block n l p q h e (as_block l (p + 1) b) r.reads;
      spelled = (sign fixed.Else o ∷ r.spelled.0, fixed_mark fixed.Else l p e ∙ ap (λ (z : List Mark). sign fixed.Else o ∷ z) r.spelled.1, (else_block o c.0 c.1 c.2, c.3, ap (λ (z : List Mark). sign fixed.Else o ∷ z) c.4, c.5));
    }

pub passes_stmt : (n : ℕ) (l : List Token) (p q : ℕ) (a : StmtForm) → n ≤ limit → is_fixed fixed.Else (stands l p) ≡ true → begins (lead_of (stands l (p + 1))) ≡ true → Reads item.stmt n (SpellsStmt a) l (p + 1) q → Passes item.else_part n (SpellsElse (stmt a no_stmts)) l p q
passes_stmt n l p q a h e b r =
    let c = r.spelled.2 in
    let f = r.forth in
    let o = offset_at l p in
    record {
      forth = omega arith;
      within = r.within;
      reads = else_reads item.stmt n l p q h e (as_stmt l (p + 1) (lead_of (stands l (p + 1))) refl b) r.reads;
      spelled = (sign fixed.Else o ∷ r.spelled.0, fixed_mark fixed.Else l p e ∙ ap (λ (z : List Mark). sign fixed.Else o ∷ z) r.spelled.1, (else_stmt o c.0, c.1, ap (λ (z : List Mark). sign fixed.Else o ∷ z) c.2, ap (λ (z : StmtForm). stmt z no_stmts) c.3));
    }

-- with the trees as the functions build them

pub assign_read : (n : ℕ) (l : List Token) (p q u x : ℕ) (t : TargetTree) (e : Expr) → n ≤ limit → lead_of (stands l p) ≡ lead.Assign → ReadsTarget n l p q (target_form t) → is_fixed fixed.Assign (stands l q) ≡ true → Reads (level top) n (SpellsExpr top (form e)) l (q + 1) u → is_fixed fixed.Semi (stands l u) ≡ true → x ≡ offset_at l p → Reads item.assignment n (SpellsAssign (stmt_form (AssignTree x t e))) l p (u + 1)
assign_read n l p q u x t e h b r a v c f =
    subst (λ (y : StmtForm). Reads item.assignment n (SpellsAssign y) l p (u + 1)) (sym (form_assign x t e ∙ ap (λ (y : ℕ). assign y (target_form t) (form e)) f)) (reads_assign n l p q u (target_form t) (form e) h b r a v c)

pub if_read : (n : ℕ) (l : List Token) (p q u v : ℕ) (e : Expr) (a b : List StmtTree) → lead_of (stands l p) ≡ lead.If → n < limit → Reads item.condition (n + 1) (SpellsCondition (form e)) l (p + 1) q → Reads item.body (n + 1) (SpellsBody (stmt_forms a)) l q u → Passes item.else_part (n + 1) (SpellsElse (stmt_forms b)) l u v → Reads item.stmt n (SpellsStmt (stmt_form (IfTree e a b))) l p v
if_read n l p q u v e a b x h r y z =
    subst (λ (w : StmtForm). Reads item.stmt n (SpellsStmt w) l p v) (sym (form_if e a b)) (reads_if n l p q u v (form e) (stmt_forms a) (stmt_forms b) x h r y z)

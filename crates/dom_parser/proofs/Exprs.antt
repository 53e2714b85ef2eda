-- What the functions on expressions read.
use Rattle.std.proofs.Common.{◌≡◌, ℕ, zero, suc, ◌+◌, ◌-◌, ◌%◌, ◌^◌, ◌<◌, ◌≤◌, Bool, true, false, ◌&&◌, List, [], ◌∷◌, ◌++◌, map, Option, Some, None, length, refl, sym, ap, ◌∙◌, subst, arith, append_assoc, nat_eq, if◌then◌else◌}
use Rattle.std.proofs.lemmas.Bool.{eqb-true}
use Rattle.std.proofs.lemmas.List.{length-map, map-append}
use Rattle.dom_words.specs.Number.{negated}
use Rattle.dom_words.specs.declared.operators.BinOp.{BinOp}
use Rattle.dom_words.specs.declared.operators.BinOp.TheVariants as bin
use Rattle.dom_words.specs.declared.operators.UnOp.{UnOp}
use Rattle.dom_words.specs.declared.operators.UnOp.TheVariants as un
use Rattle.dom_lexer.specs.declared.token.Token.{Token}
use Rattle.dom_ast.specs.declared.expr.Expr.{Expr}
use Rattle.dom_ast.specs.Form.{ExprForm, number, word, field, index, call, un as un_form, chain, choice, ExprForms, no_exprs, expr, no_ops, exprs_of, ops_of, form, forms}
use Rattle.dom_ast.specs.inner.ExprOps.{op_form, op_forms}
use Rattle.dom_parser.specs.declared.faults.Fault.{Fault}
use Rattle.dom_parser.specs.declared.faults.Fault.TheVariants.{Unexpected, TooNested, Memory}
use Rattle.dom_parser.specs.declared.kinds.Fixed.{Fixed}
use Rattle.dom_parser.specs.declared.kinds.Fixed.TheVariants as fixed
use Rattle.dom_parser.specs.declared.kinds.Kind.{Kind}
use Rattle.dom_parser.specs.declared.kinds.Kind.TheVariants as kind
use Rattle.dom_parser.specs.declared.kinds.Begin.{Begin}
use Rattle.dom_parser.specs.declared.kinds.Begin.TheVariants as begin
use Rattle.dom_parser.specs.declared.kinds.Suffix.TheVariants as suffix
use Rattle.dom_parser.specs.Tokens.{Mark, stands, offset_at, ahead, is_number, number_first}
use Rattle.dom_parser.specs.inner.AtPlace.{rest, text_at, is_fixed, is_name, number_of, operator_of, unary_of}
use Rattle.dom_parser.specs.Grammar.{top, sign, name_mark, number_mark, bin_mark, un_mark, Way, a_number, a_negated, a_word, a_field, an_index, a_call, in_parens, operated, level_of, stop, and_then, if_so, no_args, some_args, last_arg, next_arg, MakesNode, tokens, more_tokens, arg_tokens, more_arg_tokens, Tail, ops, joined, and_op, tree, more_trees, more_arg_trees}
use Rattle.dom_parser.specs.inner.Following as item
use Rattle.dom_parser.specs.inner.Following.{Item, term, close, ended, level, more, args, args_row, name_rest, more_args, when, then_row, paren_row, bracket_row, begin_row, operand_row, operator_row, level_row, choice_row, suffix_row, begin_of, suffix_of, is_neg, expand, may_skip, held, limit, Problem, bad, deep, fault_from}
use Rattle.dom_parser.specs.inner.Reads.{FailsBy, Step, Reads, SpellsExpr, ReadsIn, FailsIn, ReadsArgs, negated_in}
use Rattle.dom_parser.proofs.SoFar.{with_ops, OpsSoFar, LevelSoFar, with_args, ArgsSoFar}
use Rattle.dom_ast.specs.declared.expr.Expr.TheVariants.{Number, Word, Field, Call}
use Rattle.dom_ast.specs.declared.expr.Expr.TheViews.{Un, Chain}
use Rattle.std.specs.Prelude.{Box}
use Rattle.std.specs.declared.alloc.Global.{Global}
use Rattle.dom_parser.proofs.Forms.{form_number, form_word, form_field, form_call, form_un, form_chain}
use Rattle.dom_parser.proofs.KnownKinds.{kind_number, kind_unary, kind_operator, begin_paren, begin_number, begin_name, suffix_dot, suffix_bracket, suffix_paren}
use Rattle.dom_parser.proofs.Steps.{number_ahead, skips, fails, takes, extends, row_none, row_one, row_here, row_later, row_read, row_failed, fails_here, deep_here, one_token, read_term, read_name, read_ended, read_close, fails_term, fails_name, fails_close, fixed_mark, fixed_inside, sign_mark, sign_inside, word_mark, word_inside, named_mark, named_inside, numeral_mark, numeral_inside, operator_mark, operator_inside, unary_mark, unary_inside}

not_ten : (k : ℕ) → k < 10 → nat_eq k 10 ≡ false
not_ten k h = by_case (nat_eq k 10) refl
  where
    by_case : (b : Bool) → nat_eq k 10 ≡ b → nat_eq k 10 ≡ false
    by_case true e = absurd (let f : k ≡ 10 = eqb-true k 10 e in omega arith)
    by_case false e = e

more_row : (k : ℕ) (l : List Token) (p : ℕ) → k < 10 → expand (more k) (stands l p) (ahead l p) ≡ operator_row k (operator_of (suc k) (stands l p))
more_row k l p h =
    ap (λ (b : Bool). if b then when (is_fixed fixed.Question (stands l p)) choice_row else operator_row k (operator_of (suc k) (stands l p))) (not_ten k h)

-- a level is the level below it and what follows
pub lower : (l : List Token) (p k : ℕ) (s : List Item) → fault_from l p (level (suc k) ∷ s) ≡ fault_from l p (level k ∷ more k ∷ s)
lower l p k s = extends l p (level (suc k)) (level k) (more k ∷ []) s refl refl refl

pub fails_lower : (n k : ℕ) (l : List Token) (p : ℕ) (f : Fault) → FailsBy (level k) n l p f → FailsBy (level (suc k)) n l p f
fails_lower n k l p (Unexpected q) a = record { there = λ s z. lower l p k s ∙ a.there (more k ∷ s) z }
fails_lower n k l p (TooNested q) a = record { there = λ s z. lower l p k s ∙ a.there (more k ∷ s) z }
fails_lower n k l p Memory a = tt

pub fails_first : (n k : ℕ) (l : List Token) (p : ℕ) (f : Fault) → 0 < k → FailsBy (level (k - 1)) n l p f → FailsBy (level k) n l p f
fails_first n zero l p f h a = absurd (omega arith)
fails_first n (suc k) l p f h a =
    let q : suc k - 1 ≡ k = omega arith in
    fails_lower n k l p f (subst (λ (x : ℕ). FailsBy (level x) n l p f) q a)

-- a fault after the first part of a level
pub fails_more : (n k : ℕ) (Is : List Mark → Type 0) (l : List Token) (p start : ℕ) (f : Fault) → Reads (level k) n Is l p start → FailsBy (more k) n l start f → FailsBy (level (suc k)) n l p f
fails_more n k Is l p start (Unexpected q) r a = record { there = λ s z. lower l p k s ∙ r.reads (more k ∷ s) z ∙ a.there s z }
fails_more n k Is l p start (TooNested q) r a = record { there = λ s z. lower l p k s ∙ r.reads (more k ∷ s) z ∙ a.there s z }
fails_more n k Is l p start Memory r a = tt

-- operators of a rank

pressed : (n k : ℕ) (l : List Token) (p : ℕ) (o : BinOp) → k < 10 → n ≤ limit → operator_of (suc k) (stands l p) ≡ Some o → (s : List Item) → held s ≡ n → fault_from l p (more k ∷ s) ≡ fault_from l (p + 1) (level k ∷ more k ∷ s)
pressed n k l p o h m e s z = takes l p (more k) (level k ∷ more k ∷ []) s (more_row k l p h ∙ ap (operator_row k) e) (omega arith)

not_pressed : (k : ℕ) (l : List Token) (p : ℕ) → k < 10 → operator_of (suc k) (stands l p) ≡ None → (s : List Item) → fault_from l p (more k ∷ s) ≡ fault_from l p s
not_pressed k l p h e s = skips l p (more k) s (more_row k l p h ∙ ap (operator_row k) e) refl

with_push : (fs : List (BinOp × ExprForm)) (o : BinOp) (f : ExprForm) (t : Tail) → with_ops (fs ++ (o, f) ∷ []) t ≡ with_ops fs (and_op o f t)
with_push [] o f t = refl
with_push (g ∷ fs) o f t = ap (and_op g.0 g.1) (with_push fs o f t)

with_none : (fs : List (BinOp × ExprForm)) → with_ops fs (ops no_ops) ≡ ops (ops_of fs)
with_none [] = refl
with_none (f ∷ fs) = ap (and_op f.0 f.1) (with_none fs)

ops_none : (n k : ℕ) (l : List Token) (p : ℕ) → p ≤ length l → OpsSoFar n k l p p []
ops_none n k l p h = record { forth = omega arith; within = h; reads = λ s z. refl; spelled = λ m tail a e. (m, a, e, refl) }

pub level_start : (n k : ℕ) (l : List Token) (p start : ℕ) (e : ExprForm) → Reads (level k) n (SpellsExpr k e) l p start → LevelSoFar n k l p start e []
level_start n k l p start e r = record { start = start; first = r; others = ops_none n k l start r.within }

ops_next : (n k : ℕ) (l : List Token) (start next after : ℕ) (fs : List (BinOp × ExprForm)) (o : BinOp) (f : ExprForm) → k < 10 → n ≤ limit → OpsSoFar n k l start next fs → operator_of (suc k) (stands l next) ≡ Some o → Reads (level k) n (SpellsExpr k f) l (next + 1) after → OpsSoFar n k l start after (fs ++ (o, f) ∷ [])
ops_next n k l start next after fs o f h b m e r =
    let c = m.forth in let d = r.forth in
    let i = kind_operator (suc k) (stands l next) o e in
    let way = r.spelled.2.0 in
    let place = offset_at l next in
    record {
      forth = omega arith;
      within = r.within;
      reads = λ s z. m.reads s z ∙ pressed n k l next o h b e s z ∙ r.reads (more k ∷ s) z;
      spelled = λ q tail aq eq.
          let read : rest l (next + 1) ≡ tokens way ++ rest l after = r.spelled.1 ∙ ap (λ (x : List Mark). x ++ rest l after) (sym r.spelled.2.2) in
          let d : rest l next ≡ bin_mark o place ∷ (tokens way ++ more_tokens q) ++ tail = operator_mark o l next i.0 ∙ ap (λ (x : List Mark). bin_mark o place ∷ x) (read ∙ ap (λ (x : List Mark). tokens way ++ x) eq ∙ sym (append_assoc (tokens way) (more_tokens q) tail)) in
          let w = m.spelled (and_then o place way q) tail (i.1, r.spelled.2.1, aq) d in
          (w.0, w.1, w.2, w.3 ∙ ap (λ (x : ExprForm). with_ops fs (and_op o x (more_trees q))) r.spelled.2.3 ∙ sym (with_push fs o f (more_trees q)));
    }

pub level_next : (n k : ℕ) (l : List Token) (p next after : ℕ) (g : ExprForm) (rest all : List (BinOp × Expr)) (o : BinOp) (e : Expr) → 0 < k → k ≤ 10 → n ≤ limit → LevelSoFar n (k - 1) l p next g (map op_form rest) → operator_of k (stands l next) ≡ Some o → Reads (level (k - 1)) n (SpellsExpr (k - 1) (form e)) l (next + 1) after → all ≡ rest ++ (o, e) ∷ [] → LevelSoFar n (k - 1) l p after g (map op_form all)
level_next n zero l p next after g rest all o e h b c m x r is = absurd (omega arith)
level_next n (suc k) l p next after g rest all o e h b c m x r is =
    let q : suc k - 1 ≡ k = omega arith in
    let k_small : k < 10 = omega arith in
    let m' = subst (λ (y : ℕ). LevelSoFar n y l p next g (map op_form rest)) q m in
    let r' = subst (λ (y : ℕ). Reads (level y) n (SpellsExpr y (form e)) l (next + 1) after) q r in
    let pushed : map op_form all ≡ map op_form rest ++ (o, form e) ∷ [] = ap (map op_form) is ∙ map-append op_form rest ((o, e) ∷ []) in
    let z : LevelSoFar n k l p after g (map op_form all) = record { start = m'.start; first = m'.first; others = rw pushed (ops_next n k l m'.start next after (map op_form rest) o (form e) k_small c m'.others x r') } in
    subst (λ (y : ℕ). LevelSoFar n y l p after g (map op_form all)) (sym q) z

level_fails_at : (n k : ℕ) (l : List Token) (p next : ℕ) (g : ExprForm) (fs : List (BinOp × ExprForm)) (o : BinOp) (f : Fault) → k < 10 → n ≤ limit → LevelSoFar n k l p next g fs → operator_of (suc k) (stands l next) ≡ Some o → FailsBy (level k) n l (next + 1) f → FailsBy (level (suc k)) n l p f
level_fails_at n k l p next g fs o (Unexpected x) h b m e r = record {
  there = λ s z. lower l p k s ∙ m.first.reads (more k ∷ s) z ∙ m.others.reads s z ∙ pressed n k l next o h b e s z ∙ r.there (more k ∷ s) z;
}
level_fails_at n k l p next g fs o (TooNested x) h b m e r = record {
  there = λ s z. lower l p k s ∙ m.first.reads (more k ∷ s) z ∙ m.others.reads s z ∙ pressed n k l next o h b e s z ∙ r.there (more k ∷ s) z;
}
level_fails_at n k l p next g fs o Memory h b m e r = tt

pub level_fails : (n k : ℕ) (l : List Token) (p next : ℕ) (g : ExprForm) (fs : List (BinOp × ExprForm)) (o : BinOp) (f : Fault) → 0 < k → k ≤ 10 → n ≤ limit → LevelSoFar n (k - 1) l p next g fs → operator_of k (stands l next) ≡ Some o → FailsBy (level (k - 1)) n l (next + 1) f → FailsBy (level k) n l p f
level_fails n zero l p next g fs o f h b c m e r = absurd (omega arith)
level_fails n (suc k) l p next g fs o f h b c m e r =
    let q : suc k - 1 ≡ k = omega arith in
    level_fails_at n k l p next g fs o f (omega arith) c (subst (λ (y : ℕ). LevelSoFar n y l p next g fs) q m) e (subst (λ (y : ℕ). FailsBy (level y) n l (next + 1) f) q r)

reads_all : (n k : ℕ) (l : List Token) (p next : ℕ) (g : ExprForm) (fs : List (BinOp × ExprForm)) → k < 10 → LevelSoFar n k l p next g fs → operator_of (suc k) (stands l next) ≡ None → Reads (level (suc k)) n (SpellsExpr (suc k) (joined g (with_ops fs (ops no_ops)))) l p next
reads_all n k l p next g fs h m e =
    let r = m.first in
    let a = r.forth in let b = m.others.forth in
    let way = r.spelled.2.0 in
    let w = m.others.spelled stop (rest l next) tt refl in
    let read : rest l p ≡ tokens way ++ rest l m.start = r.spelled.1 ∙ ap (λ (x : List Mark). x ++ rest l m.start) (sym r.spelled.2.2) in
    record {
      forth = omega arith;
      within = m.others.within;
      reads = λ s z. lower l p k s ∙ r.reads (more k ∷ s) z ∙ m.others.reads s z ∙ not_pressed k l next h e s;
      spelled = (tokens way ++ more_tokens w.0, read ∙ ap (λ (x : List Mark). tokens way ++ x) w.2 ∙ sym (append_assoc (tokens way) (more_tokens w.0) (rest l next)), (level_of way w.0, (r.spelled.2.1, w.1), refl, ap (λ (x : ExprForm). joined x (more_trees w.0)) r.spelled.2.3 ∙ ap (joined g) w.3));
    }

one_at : (n k : ℕ) (l : List Token) (p next : ℕ) (g : ExprForm) (fs : List (BinOp × ExprForm)) → k < 10 → LevelSoFar n k l p next g fs → operator_of (suc k) (stands l next) ≡ None → length fs ≡ 0 → Reads (level (suc k)) n (SpellsExpr (suc k) g) l p next
one_at n k l p next g [] h m e z = reads_all n k l p next g [] h m e
one_at n k l p next g (f ∷ fs) h m e z = absurd (omega arith)

chain_at : (n k : ℕ) (l : List Token) (p next : ℕ) (g : ExprForm) (fs : List (BinOp × ExprForm)) → k < 10 → LevelSoFar n k l p next g fs → operator_of (suc k) (stands l next) ≡ None → (length fs ≡ 0 → ⊥) → Reads (level (suc k)) n (SpellsExpr (suc k) (chain g (ops_of fs))) l p next
chain_at n k l p next g [] h m e z = absurd (z refl)
chain_at n k l p next g (f ∷ fs) h m e z =
    subst (λ (x : Tail). Reads (level (suc k)) n (SpellsExpr (suc k) (joined g x)) l p next) (with_none (f ∷ fs)) (reads_all n k l p next g (f ∷ fs) h m e)

pub level_one : (n k : ℕ) (l : List Token) (p next : ℕ) (e : Expr) (rest : List (BinOp × Expr)) → 0 < k → k ≤ 10 → LevelSoFar n (k - 1) l p next (form e) (map op_form rest) → operator_of k (stands l next) ≡ None → length rest ≡ 0 → Reads (level k) n (SpellsExpr k (form e)) l p next
level_one n zero l p next e rest h b m o z = absurd (omega arith)
level_one n (suc k) l p next e rest h b m o z =
    let q : suc k - 1 ≡ k = omega arith in
    one_at n k l p next (form e) (map op_form rest) (omega arith) (subst (λ (x : ℕ). LevelSoFar n x l p next (form e) (map op_form rest)) q m) o (length-map rest op_form ∙ z)

pub level_chain : (n k : ℕ) (l : List Token) (p next : ℕ) (g : ExprForm) (rest : List (BinOp × Expr)) → 0 < k → k ≤ 10 → LevelSoFar n (k - 1) l p next g (map op_form rest) → operator_of k (stands l next) ≡ None → (length rest ≡ 0 → ⊥) → Reads (level k) n (SpellsExpr k (chain g (op_forms rest))) l p next
level_chain n zero l p next g rest h b m o z = absurd (omega arith)
level_chain n (suc k) l p next g rest h b m o z =
    let q : suc k - 1 ≡ k = omega arith in
    chain_at n k l p next g (map op_form rest) (omega arith) (subst (λ (x : ℕ). LevelSoFar n x l p next g (map op_form rest)) q m) o (λ e. z (sym (length-map rest op_form) ∙ e))

pub op_within : (k : ℕ) (l : List Token) (p : ℕ) (o : BinOp) → operator_of k (stands l p) ≡ Some o → p < length l
op_within k l p o e = operator_inside o l p (kind_operator k (stands l p) o e).0

-- conditionals

asked : (l : List Token) (p : ℕ) (b : Bool) → is_fixed fixed.Question (stands l p) ≡ b → expand (more 10) (stands l p) (ahead l p) ≡ when b choice_row
asked l p b e = ap (λ (x : Bool). when x choice_row) e

pub plain_choice : (n : ℕ) (l : List Token) (p start : ℕ) (e : ExprForm) → Reads (level 10) n (SpellsExpr 10 e) l p start → is_fixed fixed.Question (stands l start) ≡ false → Reads (level top) n (SpellsExpr top e) l p start
plain_choice n l p start e r q =
    let way = r.spelled.2.0 in
    let read : rest l p ≡ tokens way ++ rest l start = r.spelled.1 ∙ ap (λ (x : List Mark). x ++ rest l start) (sym r.spelled.2.2) in
    record {
      forth = r.forth;
      within = r.within;
      reads = λ s z. lower l p 10 s ∙ r.reads (more 10 ∷ s) z ∙ skips l start (more 10) s (asked l start false q) refl;
      spelled = (tokens way ++ [], read ∙ sym (append_assoc (tokens way) [] (rest l start)), (level_of way stop, (r.spelled.2.1, tt), refl, r.spelled.2.3));
    }

pub choice_deep : (n : ℕ) (Is : List Mark → Type 0) (l : List Token) (p start : ℕ) → Reads (level 10) n Is l p start → is_fixed fixed.Question (stands l start) ≡ true → n ≡ limit → FailsBy (level top) n l p (TooNested start)
choice_deep n Is l p start r q h = fails_more n 10 Is l p start (TooNested start) r (deep_here (more 10) choice_row n l start (asked l start true q) (omega arith))

pub choice_fails : (n : ℕ) (Is : List Mark → Type 0) (l : List Token) (p start : ℕ) (f : Fault) → Reads (level 10) n Is l p start → is_fixed fixed.Question (stands l start) ≡ true → n < limit → FailsBy (level top) (n + 1) l (start + 1) f → FailsBy (level top) n l p f
choice_fails n Is l p start f r q h a =
    fails_more n 10 Is l p start f r (row_failed (more 10) choice_row n l start f (asked l start true q) (omega arith) (row_here (level top) (term fixed.Colon ∷ level top ∷ ended ∷ []) n (n + 1) l (start + 1) f (omega arith) a))

pub choice_colon : (n : ℕ) (Is Js : List Mark → Type 0) (l : List Token) (p start colon : ℕ) → Reads (level 10) n Is l p start → is_fixed fixed.Question (stands l start) ≡ true → n < limit → Reads (level top) (n + 1) Js l (start + 1) colon → is_fixed fixed.Colon (stands l colon) ≡ false → FailsBy (level top) n l p (Unexpected colon)
choice_colon n Is Js l p start colon r q h y c =
    fails_more n 10 Is l p start (Unexpected colon) r (row_failed (more 10) choice_row n l start (Unexpected colon) (asked l start true q) (omega arith) (row_later (level top) (term fixed.Colon ∷ level top ∷ ended ∷ []) n (n + 1) l (start + 1) colon (Unexpected colon) (omega arith) y.reads (row_here (term fixed.Colon) (level top ∷ ended ∷ []) n (n + 1) l colon (Unexpected colon) (omega arith) (fails_term fixed.Colon (n + 1) l colon c))))

pub choice_other : (n : ℕ) (Is Js : List Mark → Type 0) (l : List Token) (p start colon : ℕ) (f : Fault) → Reads (level 10) n Is l p start → is_fixed fixed.Question (stands l start) ≡ true → n < limit → Reads (level top) (n + 1) Js l (start + 1) colon → is_fixed fixed.Colon (stands l colon) ≡ true → FailsBy (level top) (n + 1) l (colon + 1) f → FailsBy (level top) n l p f
choice_other n Is Js l p start colon f r q h y c a =
    fails_more n 10 Is l p start f r (row_failed (more 10) choice_row n l start f (asked l start true q) (omega arith) (row_later (level top) (term fixed.Colon ∷ level top ∷ ended ∷ []) n (n + 1) l (start + 1) colon f (omega arith) y.reads (row_later (term fixed.Colon) (level top ∷ ended ∷ []) n (n + 1) l colon (colon + 1) f (omega arith) (read_term fixed.Colon (n + 1) l colon c (omega arith)) (row_here (level top) (ended ∷ []) n (n + 1) l (colon + 1) f (omega arith) a))))

pub full_choice : (n : ℕ) (l : List Token) (p start colon next : ℕ) (e y z : ExprForm) → Reads (level 10) n (SpellsExpr 10 e) l p start → is_fixed fixed.Question (stands l start) ≡ true → n < limit → Reads (level top) (n + 1) (SpellsExpr top y) l (start + 1) colon → is_fixed fixed.Colon (stands l colon) ≡ true → Reads (level top) (n + 1) (SpellsExpr top z) l (colon + 1) next → Reads (level top) n (SpellsExpr top (choice e y z)) l p next
full_choice n l p start colon next e y z r q h u c v =
    let way = r.spelled.2.0 in let way_y = u.spelled.2.0 in let way_z = v.spelled.2.0 in
    let a = r.forth in let b = u.forth in let d = v.forth in
    let o = offset_at l start in let k = offset_at l colon in
    let read : rest l p ≡ tokens way ++ rest l start = r.spelled.1 ∙ ap (λ (x : List Mark). x ++ rest l start) (sym r.spelled.2.2) in
    let read_y : rest l (start + 1) ≡ tokens way_y ++ rest l colon = u.spelled.1 ∙ ap (λ (x : List Mark). x ++ rest l colon) (sym u.spelled.2.2) in
    let read_z : rest l (colon + 1) ≡ tokens way_z ++ rest l next = v.spelled.1 ∙ ap (λ (x : List Mark). x ++ rest l next) (sym v.spelled.2.2) in
    let tail : rest l colon ≡ sign fixed.Colon k ∷ (tokens way_z ++ rest l next) = fixed_mark fixed.Colon l colon c ∙ ap (λ (x : List Mark). sign fixed.Colon k ∷ x) read_z in
    let middle : rest l start ≡ sign fixed.Question o ∷ (tokens way_y ++ (sign fixed.Colon k ∷ (tokens way_z ++ rest l next))) = fixed_mark fixed.Question l start q ∙ ap (λ (x : List Mark). sign fixed.Question o ∷ x) (read_y ∙ ap (λ (x : List Mark). tokens way_y ++ x) tail) in
    let m = if_so o way_y k way_z in
    record {
      forth = omega arith;
      within = v.within;
      reads = λ s t. lower l p 10 s ∙ r.reads (more 10 ∷ s) t ∙ row_read (more 10) choice_row n l start next (asked l start true q) (omega arith) (row_one (level top) (term fixed.Colon ∷ level top ∷ ended ∷ []) n (n + 1) l (start + 1) colon next (omega arith) u.reads (row_one (term fixed.Colon) (level top ∷ ended ∷ []) n (n + 1) l colon (colon + 1) next (omega arith) (read_term fixed.Colon (n + 1) l colon c (omega arith)) (row_one (level top) (ended ∷ []) n (n + 1) l (colon + 1) next next (omega arith) v.reads (row_one ended [] n n l next next next (omega arith) (read_ended n l next) (row_none n l next))))) s t;
      spelled = (tokens way ++ more_tokens m, read ∙ ap (λ (x : List Mark). tokens way ++ x) (middle ∙ ap (λ (x : List Mark). sign fixed.Question o ∷ x) (sym (append_assoc (tokens way_y) (sign fixed.Colon k ∷ tokens way_z) (rest l next)))) ∙ sym (append_assoc (tokens way) (more_tokens m) (rest l next)), (level_of way m, (r.spelled.2.1, (refl, u.spelled.2.1, v.spelled.2.1)), refl, ap (λ (x : ExprForm). choice x (tree way_y) (tree way_z)) r.spelled.2.3 ∙ ap (λ (x : ExprForm). choice e x (tree way_z)) u.spelled.2.3 ∙ ap (λ (x : ExprForm). choice e y x) v.spelled.2.3));
    }

-- operators before an operand

bare_row : (l : List Token) (p : ℕ) → unary_of (stands l p) ≡ None → expand (level 0) (stands l p) (ahead l p) ≡ begin_row (begin_of (stands l p))
bare_row l p e = ap (λ (o : Option UnOp). operand_row (ahead l p) o (begin_of (stands l p))) e

abbrev un_row : Bool → Option (List Item)
un_row b = if b then Some (item.a_number ∷ []) else Some (level 0 ∷ ended ∷ [])

unary_row : (l : List Token) (p : ℕ) (o : UnOp) → unary_of (stands l p) ≡ Some o → expand (level 0) (stands l p) (ahead l p) ≡ un_row (is_neg o && ahead l p)
unary_row l p o e = ap (λ (x : Option UnOp). operand_row (ahead l p) x (begin_of (stands l p))) e

number_is : (k : Kind) (w : ℕ) → negated (number_of k) ≡ Some w → (v : ℕ) × (k ≡ kind.Number v) × (w ≡ (2 ^ 32 - v) % 2 ^ 32)
number_is k w e = go (number_of k) refl e
  where
    go : (o : Option ℕ) → number_of k ≡ o → negated o ≡ Some w → (v : ℕ) × (k ≡ kind.Number v) × (w ≡ (2 ^ 32 - v) % 2 ^ 32)
    go None q x = absurd (cc)
    go (Some v) q x = (v, kind_number k v q, let h : (2 ^ 32 - v) % 2 ^ 32 ≡ w = cc in sym h)

pub reads_negated : (n : ℕ) (l : List Token) (p : ℕ) (o : UnOp) (w : ℕ) → n ≤ limit → unary_of (stands l p) ≡ Some o → negated_in o (stands l (p + 1)) ≡ Some w → Reads (level 0) n (SpellsExpr 0 (number (offset_at l p) w)) l p (p + 2)
reads_negated n l p un.Inv w h e f = absurd (cc)
reads_negated n l p un.Not w h e f = absurd (cc)
reads_negated n l p un.Neg w h e f =
    let v = number_is (stands l (p + 1)) w f in
    let two : p + 1 + 1 ≡ p + 2 = omega arith in
    let inside = numeral_inside l (p + 1) v.0 v.1 in
    let second : rest l (p + 1) ≡ number_mark (offset_at l (p + 1)) v.0 ∷ rest l (p + 2) = numeral_mark l (p + 1) v.0 v.1 ∙ ap (λ (k : ℕ). number_mark (offset_at l (p + 1)) v.0 ∷ rest l k) two in
    let row : expand (level 0) (stands l p) (ahead l p) ≡ Some (item.a_number ∷ []) = unary_row l p un.Neg e ∙ ap (λ (k : Kind). un_row (is_number k)) v.1 in
    let digit : expand item.a_number (stands l (p + 1)) (ahead l (p + 1)) ≡ Some [] = ap (λ (k : Kind). item.number_row (number_of k)) v.1 in
    record {
      forth = omega arith;
      within = omega arith;
      reads = λ s z. row_read (level 0) (item.a_number ∷ []) n l p (p + 1 + 1) row (omega arith) (row_one item.a_number [] n n l (p + 1) (p + 1 + 1) (p + 1 + 1) (omega arith) (one_token item.a_number n l (p + 1) digit h) (row_none n l (p + 1 + 1))) s z ∙ ap (λ (k : ℕ). fault_from l k s) two;
      spelled = (bin_mark bin.Sub (offset_at l p) ∷ number_mark (offset_at l (p + 1)) v.0 ∷ [], operator_mark bin.Sub l p (kind_unary (stands l p) un.Neg e) ∙ ap (λ (x : List Mark). bin_mark bin.Sub (offset_at l p) ∷ x) second, (a_negated (offset_at l p) (offset_at l (p + 1)) v.0, tt, refl, ap (number (offset_at l p)) (sym v.2)));
    }

no_number : (k : Kind) → negated (number_of k) ≡ None → is_number k ≡ false
no_number kind.Name x = refl
no_number (kind.Number w) x = absurd (cc)
no_number (kind.Fixed g) x = refl
no_number kind.Inv x = refl
no_number kind.Not x = refl
no_number (kind.Operator q) x = refl
no_number kind.Forbidden x = refl
no_number kind.End x = refl

-- where the operator makes a node
makes_row : (l : List Token) (p : ℕ) (o : UnOp) → unary_of (stands l p) ≡ Some o → negated_in o (stands l (p + 1)) ≡ None → expand (level 0) (stands l p) (ahead l p) ≡ Some (level 0 ∷ ended ∷ [])
makes_row l p un.Inv e f = unary_row l p un.Inv e
makes_row l p un.Not e f = unary_row l p un.Not e
makes_row l p un.Neg e f = unary_row l p un.Neg e ∙ ap un_row (no_number (stands l (p + 1)) f)

-- an operand whose first token is no number is none
makes_node : (o : UnOp) (l : List Token) (p q : ℕ) (w : Way) → negated_in o (stands l p) ≡ None → rest l p ≡ tokens w ++ rest l q → MakesNode o w
makes_node un.Neg l p q (a_number x w) e f =
    let g : is_number (stands l p) ≡ true = sym (number_ahead l p) ∙ ap number_first f in
    let h : is_number (stands l p) ≡ false = no_number (stands l p) e in
    absurd (cc)
makes_node un.Neg l p q (a_negated x y w) e f = tt
makes_node un.Neg l p q (a_word x m) e f = tt
makes_node un.Neg l p q (a_field x m y z g) e f = tt
makes_node un.Neg l p q (an_index x m y w z) e f = tt
makes_node un.Neg l p q (a_call x m y a z) e f = tt
makes_node un.Neg l p q (in_parens x w y) e f = tt
makes_node un.Neg l p q (operated x o w) e f = tt
makes_node un.Neg l p q (level_of w m) e f = tt
makes_node un.Inv l p q w e f = tt
makes_node un.Not l p q w e f = tt

pub unary_within : (l : List Token) (p : ℕ) (o : UnOp) → unary_of (stands l p) ≡ Some o → p < length l
unary_within l p o e = unary_inside o l p (kind_unary (stands l p) o e)

pub operated_deep : (n : ℕ) (l : List Token) (p : ℕ) (o : UnOp) → unary_of (stands l p) ≡ Some o → negated_in o (stands l (p + 1)) ≡ None → n ≡ limit → FailsBy (level 0) n l p (TooNested p)
operated_deep n l p o e f h = deep_here (level 0) (level 0 ∷ ended ∷ []) n l p (makes_row l p o e f) (omega arith)

pub operated_fails : (n : ℕ) (l : List Token) (p : ℕ) (o : UnOp) (f : Fault) → unary_of (stands l p) ≡ Some o → negated_in o (stands l (p + 1)) ≡ None → n < limit → FailsBy (level 0) (n + 1) l (p + 1) f → FailsBy (level 0) n l p f
operated_fails n l p o f e g h a =
    row_failed (level 0) (level 0 ∷ ended ∷ []) n l p f (makes_row l p o e g) (omega arith) (row_here (level 0) (ended ∷ []) n (n + 1) l (p + 1) f (omega arith) a)

pub reads_operated : (n : ℕ) (l : List Token) (p next : ℕ) (o : UnOp) (e : ExprForm) → unary_of (stands l p) ≡ Some o → negated_in o (stands l (p + 1)) ≡ None → n < limit → Reads (level 0) (n + 1) (SpellsExpr 0 e) l (p + 1) next → Reads (level 0) n (SpellsExpr 0 (un_form (offset_at l p) o e)) l p next
reads_operated n l p next o e u g h r =
    let way = r.spelled.2.0 in
    let a = r.forth in
    let read : rest l (p + 1) ≡ tokens way ++ rest l next = r.spelled.1 ∙ ap (λ (x : List Mark). x ++ rest l next) (sym r.spelled.2.2) in
    record {
      forth = omega arith;
      within = r.within;
      reads = row_read (level 0) (level 0 ∷ ended ∷ []) n l p next (makes_row l p o u g) (omega arith) (row_one (level 0) (ended ∷ []) n (n + 1) l (p + 1) next next (omega arith) r.reads (row_one ended [] n n l next next next (omega arith) (read_ended n l next) (row_none n l next)));
      spelled = (un_mark o (offset_at l p) ∷ tokens way, unary_mark o l p (kind_unary (stands l p) o u) ∙ ap (λ (x : List Mark). un_mark o (offset_at l p) ∷ x) read, (operated (offset_at l p) o way, (makes_node o l (p + 1) next way g read, r.spelled.2.1), refl, ap (λ (x : ExprForm). un_form (offset_at l p) o x) r.spelled.2.3));
    }

-- operands without an operator

begun : (l : List Token) (p : ℕ) (b : Begin) → unary_of (stands l p) ≡ None → begin_of (stands l p) ≡ b → expand (level 0) (stands l p) (ahead l p) ≡ begin_row b
begun l p b e f = bare_row l p e ∙ ap begin_row f

no_unary : (k : Kind) (b : Kind) → k ≡ b → unary_of b ≡ None → unary_of k ≡ None
no_unary k b e f = ap unary_of e ∙ f

pub reads_number : (n : ℕ) (l : List Token) (p w : ℕ) → n ≤ limit → begin_of (stands l p) ≡ begin.Number w → Reads (level 0) n (SpellsExpr 0 (number (offset_at l p) w)) l p (p + 1)
reads_number n l p w h b =
    let k = begin_number (stands l p) w b in
    let inside = numeral_inside l p w k in
    record {
      forth = omega arith;
      within = omega arith;
      reads = one_token (level 0) n l p (begun l p (begin.Number w) (no_unary (stands l p) (kind.Number w) k refl) b) h;
      spelled = (number_mark (offset_at l p) w ∷ [], numeral_mark l p w k, (a_number (offset_at l p) w, tt, refl, refl));
    }

pub fails_other : (n : ℕ) (l : List Token) (p : ℕ) → unary_of (stands l p) ≡ None → begin_of (stands l p) ≡ begin.Other → FailsBy (level 0) n l p (Unexpected p)
fails_other n l p e b = fails_here (level 0) n l p (begun l p begin.Other e b) refl

pub paren_within : (l : List Token) (p : ℕ) → begin_of (stands l p) ≡ begin.Paren → p < length l
paren_within l p b = sign_inside fixed.OpenParen l p (begin_paren (stands l p) b)

pub name_within : (l : List Token) (p : ℕ) → begin_of (stands l p) ≡ begin.Name → p < length l
name_within l p b = word_inside l p (begin_name (stands l p) b)

parens_row : (l : List Token) (p : ℕ) → begin_of (stands l p) ≡ begin.Paren → expand (level 0) (stands l p) (ahead l p) ≡ Some paren_row
parens_row l p b = begun l p begin.Paren (no_unary (stands l p) (kind.Fixed fixed.OpenParen) (begin_paren (stands l p) b) refl) b

pub reads_parens : (n : ℕ) (l : List Token) (p next : ℕ) (e : ExprForm) → begin_of (stands l p) ≡ begin.Paren → ReadsIn fixed.CloseParen n l p next e → Reads (level 0) n (SpellsExpr 0 e) l p next
reads_parens n l p next e b r =
    let way = r.spelled.0 in
    let a = r.forth in
    let o = offset_at l p in
    record {
      forth = omega arith;
      within = r.within;
      reads = r.reads (level 0) (parens_row l p b);
      spelled = (sign fixed.OpenParen o ∷ (tokens way ++ sign fixed.CloseParen r.spelled.2 ∷ []), sign_mark fixed.OpenParen l p (begin_paren (stands l p) b) ∙ ap (λ (x : List Mark). sign fixed.OpenParen o ∷ x) (r.spelled.3 ∙ sym (append_assoc (tokens way) (sign fixed.CloseParen r.spelled.2 ∷ []) (rest l next))), (in_parens o way r.spelled.2, r.spelled.1, refl, r.spelled.4));
    }

pub fails_parens : (n : ℕ) (l : List Token) (p : ℕ) (f : Fault) → begin_of (stands l p) ≡ begin.Paren → FailsIn fixed.CloseParen n l p f → FailsBy (level 0) n l p f
fails_parens n l p f b r = r.there (level 0) (parens_row l p b)

-- a name and what follows it

name_row : (l : List Token) (p : ℕ) → begin_of (stands l p) ≡ begin.Name → expand (level 0) (stands l p) (ahead l p) ≡ Some (name_rest ∷ [])
name_row l p b = begun l p begin.Name (no_unary (stands l p) kind.Name (begin_name (stands l p) b) refl) b

-- what is read after a name is read with it
named : (n : ℕ) (l : List Token) (p q : ℕ) → n ≤ limit → begin_of (stands l p) ≡ begin.Name → Step name_rest n l (p + 1) q → Step (level 0) n l p q
named n l p q h b r = row_read (level 0) (name_rest ∷ []) n l p q (name_row l p b) (omega arith) (row_one name_rest [] n n l (p + 1) q q (omega arith) r (row_none n l q))

fails_named : (n : ℕ) (l : List Token) (p : ℕ) (f : Fault) → n ≤ limit → begin_of (stands l p) ≡ begin.Name → FailsBy name_rest n l (p + 1) f → FailsBy (level 0) n l p f
fails_named n l p f h b a =
    row_failed (level 0) (name_rest ∷ []) n l p f (name_row l p b) (omega arith) (row_here name_rest [] n n l (p + 1) f (omega arith) a)

the_name : (l : List Token) (p : ℕ) → begin_of (stands l p) ≡ begin.Name → rest l p ≡ name_mark (offset_at l p) (text_at l p) ∷ rest l (p + 1)
the_name l p b = word_mark l p (begin_name (stands l p) b)

pub reads_word : (n : ℕ) (l : List Token) (p : ℕ) → n ≤ limit → begin_of (stands l p) ≡ begin.Name → suffix_of (stands l (p + 1)) ≡ suffix.Other → Reads (level 0) n (SpellsExpr 0 (word (offset_at l p) (text_at l p))) l p (p + 1)
reads_word n l p h b x =
    let inside = name_within l p b in
    record {
      forth = omega arith;
      within = omega arith;
      reads = named n l p (p + 1) h b (λ s z. skips l (p + 1) name_rest s (ap suffix_row x) refl);
      spelled = (name_mark (offset_at l p) (text_at l p) ∷ [], the_name l p b, (a_word (offset_at l p) (text_at l p), tt, refl, refl));
    }

pub fails_field : (n : ℕ) (l : List Token) (p : ℕ) → n ≤ limit → begin_of (stands l p) ≡ begin.Name → suffix_of (stands l (p + 1)) ≡ suffix.Dot → is_name (stands l (p + 2)) ≡ false → FailsBy (level 0) n l p (Unexpected (p + 2))
fails_field n l p h b x m =
    let two : p + 2 ≡ p + 1 + 1 = omega arith in
    let missing : FailsBy item.a_name n l (p + 1 + 1) (Unexpected (p + 2)) = subst (λ (k : ℕ). FailsBy item.a_name n l k (Unexpected (p + 2))) two (fails_name n l (p + 2) m) in
    fails_named n l p (Unexpected (p + 2)) h b (row_failed name_rest (item.a_name ∷ []) n l (p + 1) (Unexpected (p + 2)) (ap suffix_row x) (omega arith) (row_here item.a_name [] n n l (p + 1 + 1) (Unexpected (p + 2)) (omega arith) missing))

pub reads_field : (n : ℕ) (l : List Token) (p : ℕ) → n ≤ limit → begin_of (stands l p) ≡ begin.Name → suffix_of (stands l (p + 1)) ≡ suffix.Dot → is_name (stands l (p + 2)) ≡ true → Reads (level 0) n (SpellsExpr 0 (field (offset_at l p) (text_at l p) (offset_at l (p + 2)) (text_at l (p + 2)))) l p (p + 3)
reads_field n l p h b x m =
    let two : p + 2 ≡ p + 1 + 1 = omega arith in
    let three : p + 2 + 1 ≡ p + 3 = omega arith in
    let inside = named_inside l (p + 2) m in
    let third : rest l (p + 2) ≡ name_mark (offset_at l (p + 2)) (text_at l (p + 2)) ∷ rest l (p + 3) = named_mark l (p + 2) m ∙ ap (λ (k : ℕ). name_mark (offset_at l (p + 2)) (text_at l (p + 2)) ∷ rest l k) three in
    let second : rest l (p + 1) ≡ sign fixed.Dot (offset_at l (p + 1)) ∷ rest l (p + 2) = sign_mark fixed.Dot l (p + 1) (suffix_dot (stands l (p + 1)) x) ∙ ap (λ (k : ℕ). sign fixed.Dot (offset_at l (p + 1)) ∷ rest l k) (sym two) in
    let last : Step item.a_name n l (p + 1 + 1) (p + 3) = subst (λ (k : ℕ). Step item.a_name n l k (p + 3)) two (subst (λ (k : ℕ). Step item.a_name n l (p + 2) k) three (read_name n l (p + 2) m h)) in
    record {
      forth = omega arith;
      within = omega arith;
      reads = named n l p (p + 3) h b (row_read name_rest (item.a_name ∷ []) n l (p + 1) (p + 3) (ap suffix_row x) (omega arith) (row_one item.a_name [] n n l (p + 1 + 1) (p + 3) (p + 3) (omega arith) last (row_none n l (p + 3))));
      spelled = (name_mark (offset_at l p) (text_at l p) ∷ sign fixed.Dot (offset_at l (p + 1)) ∷ name_mark (offset_at l (p + 2)) (text_at l (p + 2)) ∷ [], the_name l p b ∙ ap (λ (y : List Mark). name_mark (offset_at l p) (text_at l p) ∷ y) (second ∙ ap (λ (y : List Mark). sign fixed.Dot (offset_at l (p + 1)) ∷ y) third), (a_field (offset_at l p) (text_at l p) (offset_at l (p + 1)) (offset_at l (p + 2)) (text_at l (p + 2)), tt, refl, refl));
    }

pub dot_within : (l : List Token) (p : ℕ) → suffix_of (stands l p) ≡ suffix.Dot → p < length l
dot_within l p x = sign_inside fixed.Dot l p (suffix_dot (stands l p) x)

pub bracket_within : (l : List Token) (p : ℕ) → suffix_of (stands l p) ≡ suffix.Bracket → p < length l
bracket_within l p x = sign_inside fixed.OpenBracket l p (suffix_bracket (stands l p) x)

pub call_within : (l : List Token) (p : ℕ) → suffix_of (stands l p) ≡ suffix.Paren → p < length l
call_within l p x = sign_inside fixed.OpenParen l p (suffix_paren (stands l p) x)

pub reads_index : (n : ℕ) (l : List Token) (p next : ℕ) (e : ExprForm) → n ≤ limit → begin_of (stands l p) ≡ begin.Name → suffix_of (stands l (p + 1)) ≡ suffix.Bracket → ReadsIn fixed.CloseBracket n l (p + 1) next e → Reads (level 0) n (SpellsExpr 0 (index (offset_at l p) (text_at l p) e)) l p next
reads_index n l p next e h b x r =
    let way = r.spelled.0 in
    let a = r.forth in
    let o = offset_at l (p + 1) in
    let second : rest l (p + 1) ≡ sign fixed.OpenBracket o ∷ (tokens way ++ sign fixed.CloseBracket r.spelled.2 ∷ rest l next) = sign_mark fixed.OpenBracket l (p + 1) (suffix_bracket (stands l (p + 1)) x) ∙ ap (λ (y : List Mark). sign fixed.OpenBracket o ∷ y) r.spelled.3 in
    record {
      forth = omega arith;
      within = r.within;
      reads = named n l p next h b (r.reads name_rest (ap suffix_row x));
      spelled = (name_mark (offset_at l p) (text_at l p) ∷ sign fixed.OpenBracket o ∷ (tokens way ++ sign fixed.CloseBracket r.spelled.2 ∷ []), the_name l p b ∙ ap (λ (y : List Mark). name_mark (offset_at l p) (text_at l p) ∷ y) (second ∙ ap (λ (y : List Mark). sign fixed.OpenBracket o ∷ y) (sym (append_assoc (tokens way) (sign fixed.CloseBracket r.spelled.2 ∷ []) (rest l next)))), (an_index (offset_at l p) (text_at l p) o way r.spelled.2, r.spelled.1, refl, ap (λ (y : ExprForm). index (offset_at l p) (text_at l p) y) r.spelled.4));
    }

pub fails_index : (n : ℕ) (l : List Token) (p : ℕ) (f : Fault) → n ≤ limit → begin_of (stands l p) ≡ begin.Name → suffix_of (stands l (p + 1)) ≡ suffix.Bracket → FailsIn fixed.CloseBracket n l (p + 1) f → FailsBy (level 0) n l p f
fails_index n l p f h b x r = fails_named n l p f h b (r.there name_rest (ap suffix_row x))

pub reads_call : (n : ℕ) (l : List Token) (p next : ℕ) (es : ExprForms) → n ≤ limit → begin_of (stands l p) ≡ begin.Name → suffix_of (stands l (p + 1)) ≡ suffix.Paren → ReadsArgs n l (p + 1) next es → Reads (level 0) n (SpellsExpr 0 (call (offset_at l p) (text_at l p) es)) l p next
reads_call n l p next es h b x r =
    let way = r.spelled.0 in
    let a = r.forth in
    let o = offset_at l (p + 1) in
    let second : rest l (p + 1) ≡ sign fixed.OpenParen o ∷ (arg_tokens way ++ sign fixed.CloseParen r.spelled.2 ∷ rest l next) = sign_mark fixed.OpenParen l (p + 1) (suffix_paren (stands l (p + 1)) x) ∙ ap (λ (y : List Mark). sign fixed.OpenParen o ∷ y) r.spelled.3 in
    record {
      forth = omega arith;
      within = r.within;
      reads = named n l p next h b r.reads;
      spelled = (name_mark (offset_at l p) (text_at l p) ∷ sign fixed.OpenParen o ∷ (arg_tokens way ++ sign fixed.CloseParen r.spelled.2 ∷ []), the_name l p b ∙ ap (λ (y : List Mark). name_mark (offset_at l p) (text_at l p) ∷ y) (second ∙ ap (λ (y : List Mark). sign fixed.OpenParen o ∷ y) (sym (append_assoc (arg_tokens way) (sign fixed.CloseParen r.spelled.2 ∷ []) (rest l next)))), (a_call (offset_at l p) (text_at l p) o way r.spelled.2, r.spelled.1, refl, ap (λ (y : ExprForms). call (offset_at l p) (text_at l p) y) r.spelled.4));
    }

pub fails_call : (n : ℕ) (l : List Token) (p : ℕ) (f : Fault) → n ≤ limit → begin_of (stands l p) ≡ begin.Name → FailsBy name_rest n l (p + 1) f → FailsBy (level 0) n l p f
fails_call n l p f h b a = fails_named n l p f h b a

-- brackets

pub in_deep : (f : Fixed) (n : ℕ) (l : List Token) (p : ℕ) → n ≡ limit → FailsIn f n l p (TooNested p)
in_deep f n l p h = record { there = λ i e. deep_here i (level top ∷ close f ∷ []) n l p e (omega arith) }

pub in_fails : (f : Fixed) (n : ℕ) (l : List Token) (p : ℕ) (x : Fault) → n < limit → FailsBy (level top) (n + 1) l (p + 1) x → FailsIn f n l p x
in_fails f n l p x h a = record {
  there = λ i e. row_failed i (level top ∷ close f ∷ []) n l p x e (omega arith) (row_here (level top) (close f ∷ []) n (n + 1) l (p + 1) x (omega arith) a);
}

pub in_open : (f : Fixed) (n : ℕ) (Is : List Mark → Type 0) (l : List Token) (p next : ℕ) → n < limit → Reads (level top) (n + 1) Is l (p + 1) next → is_fixed f (stands l next) ≡ false → FailsIn f n l p (Unexpected next)
in_open f n Is l p next h r c = record {
  there = λ i e. row_failed i (level top ∷ close f ∷ []) n l p (Unexpected next) e (omega arith) (row_later (level top) (close f ∷ []) n (n + 1) l (p + 1) next (Unexpected next) (omega arith) r.reads (row_here (close f) [] n n l next (Unexpected next) (omega arith) (fails_close f n l next c)));
}

pub in_closed : (f : Fixed) (n : ℕ) (l : List Token) (p next : ℕ) (e : ExprForm) → n < limit → Reads (level top) (n + 1) (SpellsExpr top e) l (p + 1) next → is_fixed f (stands l next) ≡ true → ReadsIn f n l p (next + 1) e
in_closed f n l p next e h r c =
    let way = r.spelled.2.0 in
    let a = r.forth in
    let inside = fixed_inside f l next c in
    let read : rest l (p + 1) ≡ tokens way ++ rest l next = r.spelled.1 ∙ ap (λ (x : List Mark). x ++ rest l next) (sym r.spelled.2.2) in
    record {
      forth = omega arith;
      within = omega arith;
      reads = λ i x. row_read i (level top ∷ close f ∷ []) n l p (next + 1) x (omega arith) (row_one (level top) (close f ∷ []) n (n + 1) l (p + 1) next (next + 1) (omega arith) r.reads (row_one (close f) [] n n l next (next + 1) (next + 1) (omega arith) (read_close f n l next c (omega arith)) (row_none n l (next + 1))));
      spelled = (way, r.spelled.2.1, offset_at l next, read ∙ ap (λ (x : List Mark). tokens way ++ x) (fixed_mark f l next c), r.spelled.2.3);
    }

-- arguments

call_row : (l : List Token) (p : ℕ) → suffix_of (stands l p) ≡ suffix.Paren → expand name_rest (stands l p) (ahead l p) ≡ Some (args ∷ [])
call_row l p x = ap suffix_row x

pub args_deep : (n : ℕ) (l : List Token) (p : ℕ) → suffix_of (stands l p) ≡ suffix.Paren → n ≡ limit → FailsBy name_rest n l p (TooNested p)
args_deep n l p x h = deep_here name_rest (args ∷ []) n l p (call_row l p x) (omega arith)

closed_row : (l : List Token) (p : ℕ) (b : Bool) → is_fixed fixed.CloseParen (stands l p) ≡ b → expand args (stands l p) (ahead l p) ≡ (if b then Some (ended ∷ []) else then_row (level_row top (stands l p) (ahead l p)) args_row)
closed_row l p b e = ap (λ (x : Bool). if x then Some (ended ∷ []) else then_row (level_row top (stands l p) (ahead l p)) args_row) e

pub reads_empty : (n : ℕ) (l : List Token) (p : ℕ) → suffix_of (stands l p) ≡ suffix.Paren → n < limit → is_fixed fixed.CloseParen (stands l (p + 1)) ≡ true → ReadsArgs n l p (p + 2) no_exprs
reads_empty n l p x h c =
    let two : p + 1 + 1 ≡ p + 2 = omega arith in
    let inside = fixed_inside fixed.CloseParen l (p + 1) c in
    record {
      forth = omega arith;
      within = omega arith;
      reads = λ s z. takes l p name_rest (args ∷ []) s (call_row l p x) (omega arith) ∙ takes l (p + 1) args (ended ∷ []) s (closed_row l (p + 1) true c) (omega arith) ∙ skips l (p + 1 + 1) ended s refl refl ∙ ap (λ (k : ℕ). fault_from l k s) two;
      spelled = (no_args, tt, offset_at l (p + 1), fixed_mark fixed.CloseParen l (p + 1) c ∙ ap (λ (k : ℕ). sign fixed.CloseParen (offset_at l (p + 1)) ∷ rest l k) two, refl);
    }

-- where no bracket closes at once, an argument comes
first_arg : (n : ℕ) (l : List Token) (p : ℕ) → suffix_of (stands l p) ≡ suffix.Paren → n < limit → is_fixed fixed.CloseParen (stands l (p + 1)) ≡ false → (s : List Item) → held s ≡ n → fault_from l p (name_rest ∷ s) ≡ fault_from l (p + 1) (level top ∷ more_args ∷ close fixed.CloseParen ∷ s)
first_arg n l p x h c s z =
    takes l p name_rest (args ∷ []) s (call_row l p x) (omega arith) ∙ extends l (p + 1) args (level top) args_row s refl refl (closed_row l (p + 1) false c)

pub args_fail : (n : ℕ) (l : List Token) (p : ℕ) (f : Fault) → suffix_of (stands l p) ≡ suffix.Paren → n < limit → is_fixed fixed.CloseParen (stands l (p + 1)) ≡ false → FailsBy (level top) (n + 1) l (p + 1) f → FailsBy name_rest n l p f
args_fail n l p (Unexpected q) x h c a = record { there = λ s z. first_arg n l p x h c s z ∙ a.there (more_args ∷ close fixed.CloseParen ∷ s) (omega arith) }
args_fail n l p (TooNested q) x h c a = record { there = λ s z. first_arg n l p x h c s z ∙ a.there (more_args ∷ close fixed.CloseParen ∷ s) (omega arith) }
args_fail n l p Memory x h c a = tt

pub args_start : (n : ℕ) (l : List Token) (p start : ℕ) (e : ExprForm) → suffix_of (stands l p) ≡ suffix.Paren → n < limit → is_fixed fixed.CloseParen (stands l (p + 1)) ≡ false → Reads (level top) (n + 1) (SpellsExpr top e) l (p + 1) start → ArgsSoFar n l p start (e ∷ [])
args_start n l p start e x h c r =
    let way = r.spelled.2.0 in
    let a = r.forth in
    let read : rest l (p + 1) ≡ tokens way ++ rest l start = r.spelled.1 ∙ ap (λ (y : List Mark). y ++ rest l start) (sym r.spelled.2.2) in
    record {
      forth = omega arith;
      within = r.within;
      reads = λ s z. first_arg n l p x h c s z ∙ r.reads (more_args ∷ close fixed.CloseParen ∷ s) (omega arith);
      spelled = λ m tail aq eq. (some_args way m, (r.spelled.2.1, aq), read ∙ ap (λ (y : List Mark). tokens way ++ y) eq ∙ sym (append_assoc (tokens way) (more_arg_tokens m) tail), ap (λ (y : ExprForm). expr y (more_arg_trees m)) r.spelled.2.3);
    }

comma : (l : List Token) (p : ℕ) (b : Bool) → is_fixed fixed.Comma (stands l p) ≡ b → expand more_args (stands l p) (ahead l p) ≡ when b (level top ∷ more_args ∷ [])
comma l p b e = ap (λ (x : Bool). when x (level top ∷ more_args ∷ [])) e

with_arg : (es : List ExprForm) (e : ExprForm) (t : ExprForms) → with_args (es ++ e ∷ []) t ≡ with_args es (expr e t)
with_arg [] e t = refl
with_arg (x ∷ es) e t = ap (expr x) (with_arg es e t)

with_no_args : (es : List ExprForm) → with_args es no_exprs ≡ exprs_of es
with_no_args [] = refl
with_no_args (x ∷ es) = ap (expr x) (with_no_args es)

pub args_next : (n : ℕ) (l : List Token) (p next after : ℕ) (done all : List Expr) (e : Expr) → n < limit → ArgsSoFar n l p next (map form done) → is_fixed fixed.Comma (stands l next) ≡ true → Reads (level top) (n + 1) (SpellsExpr top (form e)) l (next + 1) after → all ≡ done ++ e ∷ [] → ArgsSoFar n l p after (map form all)
args_next n l p next after done all e h m c r is =
    let a = m.forth in let b = r.forth in
    let way = r.spelled.2.0 in
    let place = offset_at l next in
    let read : rest l (next + 1) ≡ tokens way ++ rest l after = r.spelled.1 ∙ ap (λ (y : List Mark). y ++ rest l after) (sym r.spelled.2.2) in
    let pushed : map form all ≡ map form done ++ form e ∷ [] = ap (map form) is ∙ map-append form done (e ∷ []) in
    let so_far : ArgsSoFar n l p after (map form done ++ form e ∷ []) = record {
      forth = omega arith;
      within = r.within;
      reads = λ s z. m.reads s z ∙ takes l next more_args (level top ∷ more_args ∷ []) (close fixed.CloseParen ∷ s) (comma l next true c) (omega arith) ∙ r.reads (more_args ∷ close fixed.CloseParen ∷ s) (omega arith);
      spelled = λ q tail aq eq.
          let d : rest l next ≡ sign fixed.Comma place ∷ (tokens way ++ more_arg_tokens q) ++ tail = fixed_mark fixed.Comma l next c ∙ ap (λ (y : List Mark). sign fixed.Comma place ∷ y) (read ∙ ap (λ (y : List Mark). tokens way ++ y) eq ∙ sym (append_assoc (tokens way) (more_arg_tokens q) tail)) in
          let w = m.spelled (next_arg place way q) tail (r.spelled.2.1, aq) d in
          (w.0, w.1, w.2, w.3 ∙ ap (λ (y : ExprForm). with_args (map form done) (expr y (more_arg_trees q))) r.spelled.2.3 ∙ sym (with_arg (map form done) (form e) (more_arg_trees q)));
    } in
    subst (λ (y : List ExprForm). ArgsSoFar n l p after y) (sym pushed) so_far

pub args_next_fails : (n : ℕ) (l : List Token) (p next : ℕ) (es : List ExprForm) (f : Fault) → n < limit → ArgsSoFar n l p next es → is_fixed fixed.Comma (stands l next) ≡ true → FailsBy (level top) (n + 1) l (next + 1) f → FailsBy name_rest n l p f
args_next_fails n l p next es (Unexpected q) h m c a = record {
  there = λ s z. m.reads s z ∙ takes l next more_args (level top ∷ more_args ∷ []) (close fixed.CloseParen ∷ s) (comma l next true c) (omega arith) ∙ a.there (more_args ∷ close fixed.CloseParen ∷ s) (omega arith);
}
args_next_fails n l p next es (TooNested q) h m c a = record {
  there = λ s z. m.reads s z ∙ takes l next more_args (level top ∷ more_args ∷ []) (close fixed.CloseParen ∷ s) (comma l next true c) (omega arith) ∙ a.there (more_args ∷ close fixed.CloseParen ∷ s) (omega arith);
}
args_next_fails n l p next es Memory h m c a = tt

pub args_open : (n : ℕ) (l : List Token) (p next : ℕ) (es : List ExprForm) → n < limit → ArgsSoFar n l p next es → is_fixed fixed.Comma (stands l next) ≡ false → is_fixed fixed.CloseParen (stands l next) ≡ false → FailsBy name_rest n l p (Unexpected next)
args_open n l p next es h m c d = record {
  there = λ s z. m.reads s z ∙ skips l next more_args (close fixed.CloseParen ∷ s) (comma l next false c) refl ∙ fails l next (close fixed.CloseParen) s (ap (λ (b : Bool). when b (ended ∷ [])) d) refl;
}

pub args_closed : (n : ℕ) (l : List Token) (p next : ℕ) (es : List Expr) → n < limit → ArgsSoFar n l p next (map form es) → is_fixed fixed.Comma (stands l next) ≡ false → is_fixed fixed.CloseParen (stands l next) ≡ true → ReadsArgs n l p (next + 1) (forms es)
args_closed n l p next es h m c d =
    let a = m.forth in
    let inside = fixed_inside fixed.CloseParen l next d in
    let w = m.spelled last_arg (rest l next) tt refl in
    record {
      forth = omega arith;
      within = omega arith;
      reads = λ s z. m.reads s z ∙ skips l next more_args (close fixed.CloseParen ∷ s) (comma l next false c) refl ∙ read_close fixed.CloseParen n l next d (omega arith) s z;
      spelled = (w.0, w.1, offset_at l next, w.2 ∙ ap (λ (y : List Mark). arg_tokens w.0 ++ y) (fixed_mark fixed.CloseParen l next d), w.3 ∙ with_no_args (map form es));
    }

-- with the trees as the functions build them

pub as_form : (i : Item) (n k : ℕ) (l : List Token) (p q : ℕ) (f g : ExprForm) → f ≡ g → Reads i n (SpellsExpr k g) l p q → Reads i n (SpellsExpr k f) l p q
as_form i n k l p q f g e r = subst (λ (x : ExprForm). Reads i n (SpellsExpr k x) l p q) (sym e) r

pub number_read : (n : ℕ) (l : List Token) (p w x : ℕ) → n ≤ limit → begin_of (stands l p) ≡ begin.Number w → x ≡ offset_at l p → Reads (level 0) n (SpellsExpr 0 (form (Number x w))) l p (p + 1)
number_read n l p w x h b e =
    as_form (level 0) n 0 l p (p + 1) (form (Number x w)) (number (offset_at l p) w) (form_number x w ∙ ap (λ (y : ℕ). number y w) e) (reads_number n l p w h b)

pub negated_read : (n : ℕ) (l : List Token) (p : ℕ) (o : UnOp) (w x : ℕ) → n ≤ limit → unary_of (stands l p) ≡ Some o → negated_in o (stands l (p + 1)) ≡ Some w → x ≡ offset_at l p → Reads (level 0) n (SpellsExpr 0 (form (Number x w))) l p (p + 2)
negated_read n l p o w x h u g e =
    as_form (level 0) n 0 l p (p + 2) (form (Number x w)) (number (offset_at l p) w) (form_number x w ∙ ap (λ (y : ℕ). number y w) e) (reads_negated n l p o w h u g)

pub word_read : (n : ℕ) (l : List Token) (p x : ℕ) (t : List ℕ) → n ≤ limit → begin_of (stands l p) ≡ begin.Name → suffix_of (stands l (p + 1)) ≡ suffix.Other → x ≡ offset_at l p → t ≡ text_at l p → Reads (level 0) n (SpellsExpr 0 (form (Word x t))) l p (p + 1)
word_read n l p x t h b c e f =
    as_form (level 0) n 0 l p (p + 1) (form (Word x t)) (word (offset_at l p) (text_at l p)) (form_word x t ∙ ap (λ (y : ℕ). word y t) e ∙ ap (word (offset_at l p)) f) (reads_word n l p h b c)

pub field_read : (n : ℕ) (l : List Token) (p x y : ℕ) (t u : List ℕ) → n ≤ limit → begin_of (stands l p) ≡ begin.Name → suffix_of (stands l (p + 1)) ≡ suffix.Dot → is_name (stands l (p + 2)) ≡ true → x ≡ offset_at l p → t ≡ text_at l p → y ≡ offset_at l (p + 2) → u ≡ text_at l (p + 2) → Reads (level 0) n (SpellsExpr 0 (form (Field x t y u))) l p (p + 3)
field_read n l p x y t u h b c m e f g k =
    as_form (level 0) n 0 l p (p + 3) (form (Field x t y u)) (field (offset_at l p) (text_at l p) (offset_at l (p + 2)) (text_at l (p + 2))) (form_field x t y u ∙ ap (λ (z : ℕ). field z t y u) e ∙ ap (λ (z : List ℕ). field (offset_at l p) z y u) f ∙ ap (λ (z : ℕ). field (offset_at l p) (text_at l p) z u) g ∙ ap (field (offset_at l p) (text_at l p) (offset_at l (p + 2))) k) (reads_field n l p h b c m)

pub call_read : (n : ℕ) (l : List Token) (p next x : ℕ) (t : List ℕ) (es : List Expr) → n ≤ limit → begin_of (stands l p) ≡ begin.Name → suffix_of (stands l (p + 1)) ≡ suffix.Paren → ReadsArgs n l (p + 1) next (forms es) → x ≡ offset_at l p → t ≡ text_at l p → Reads (level 0) n (SpellsExpr 0 (form (Call x t es))) l p next
call_read n l p next x t es h b c r e f =
    as_form (level 0) n 0 l p next (form (Call x t es)) (call (offset_at l p) (text_at l p) (forms es)) (form_call x t es ∙ ap (λ (z : ℕ). call z t (forms es)) e ∙ ap (λ (z : List ℕ). call (offset_at l p) z (forms es)) f) (reads_call n l p next (forms es) h b c r)

pub operated_read : (n : ℕ) (l : List Token) (p next : ℕ) (o : UnOp) (x : ℕ) (a : Box Expr Global) (e : Expr) → unary_of (stands l p) ≡ Some o → negated_in o (stands l (p + 1)) ≡ None → n < limit → Reads (level 0) (n + 1) (SpellsExpr 0 (form e)) l (p + 1) next → x ≡ offset_at l p → a.value ≡ e → Reads (level 0) n (SpellsExpr 0 (form (Un x o a))) l p next
operated_read n l p next o x a e u g h r f is =
    as_form (level 0) n 0 l p next (form (Un x o a)) (un_form (offset_at l p) o (form e)) (form_un x o a e is ∙ ap (λ (z : ℕ). un_form z o (form e)) f) (reads_operated n l p next o (form e) u g h r)

pub chain_read : (n k : ℕ) (l : List Token) (p next : ℕ) (a : Box Expr Global) (rest : List (BinOp × Expr)) (e : Expr) → 0 < k → k ≤ 10 → LevelSoFar n (k - 1) l p next (form e) (map op_form rest) → operator_of k (stands l next) ≡ None → (length rest ≡ 0 → ⊥) → a.value ≡ e → Reads (level k) n (SpellsExpr k (form (Chain a rest))) l p next
chain_read n k l p next a rest e h b m o z is =
    as_form (level k) n k l p next (form (Chain a rest)) (chain (form e) (op_forms rest)) (form_chain a rest e is) (level_chain n k l p next (form e) rest h b m o z)

pub ruleset exprs = (level_start, fails_lower)

-- The tokens before one that may not stand there are a front of some program.
use Rattle.std.proofs.Common.{◌≡◌, ℕ, zero, suc, ◌+◌, Bool, true, false, List, [], ◌∷◌, ◌++◌, map, take, Option, Some, None, refl, sym, ap, ◌∙◌, subst, arith, append_assoc, if◌then◌else◌}
use Rattle.dom_words.specs.declared.operators.UnOp.{UnOp}
use Rattle.dom_words.specs.declared.operators.UnOp.TheVariants as un
use Rattle.dom_lexer.specs.declared.token.Token.{Token}
use Rattle.dom_parser.specs.declared.kinds.Kind.{Kind}
use Rattle.dom_parser.specs.declared.kinds.Kind.TheVariants as kind
use Rattle.dom_parser.specs.declared.kinds.Begin.{Begin}
use Rattle.dom_parser.specs.declared.kinds.Fixed.TheVariants as fixed
use Rattle.dom_parser.specs.Tokens.{Mark, mark, name_text, token_kind, word_text, number_first}
use Rattle.dom_parser.specs.inner.AtPlace.{is_fixed, unary_of}
use Rattle.dom_parser.specs.Grammar.{top, BeginProgram}
use Rattle.dom_parser.specs.inner.Following as item
use Rattle.dom_parser.specs.inner.Following.{Item, expand, may_skip, resume, step, held, Trace, fine, stuck, count, on_step, trace, then_row, problem, Problem, bad, deep, limit, whole}
use Rattle.dom_parser.proofs.Traces.{counted}
use Rattle.dom_parser.proofs.Kept.{expand_any, at_step, take_map}
use Rattle.dom_parser.proofs.Derived.{AllClean, spelled}
use Rattle.dom_parser.proofs.Finished.{least, finish, Good, finishes, step_good, whole_good, some_row}

-- the token after a minus sign, where the least follows

operand_look : (n : Bool) (o : Option UnOp) (b : Begin) (s row : List Item) → item.operand_row n o b ≡ Some row → item.operand_row (number_first (finish (row ++ s))) o b ≡ Some row
operand_look n None b s row e = e
operand_look n (Some un.Inv) b s row e = e
operand_look n (Some un.Not) b s row e = e
operand_look true (Some un.Neg) b s row e =
    subst (λ (r : List Item). item.operand_row (number_first (finish (r ++ s))) (Some un.Neg) b ≡ Some r) (some_row (item.a_number ∷ []) row e) refl
operand_look false (Some un.Neg) b s row e =
    subst (λ (r : List Item). item.operand_row (number_first (finish (r ++ s))) (Some un.Neg) b ≡ Some r) (some_row (item.level 0 ∷ item.ended ∷ []) row e) refl

then_look : (o u : Option (List Item)) (x row : List Item) → then_row o x ≡ Some row → ((r : List Item) → o ≡ Some r → r ++ x ≡ row → u ≡ Some r) → then_row u x ≡ Some row
then_look None u x row e f = absurd (cc)
then_look (Some r) u x row e f = let g = some_row (r ++ x) row e in ap (λ (y : Option (List Item)). then_row y x) (f r refl g) ∙ e

level_look : (j : ℕ) (k : Kind) (n : Bool) (s row : List Item) → item.level_row j k n ≡ Some row → item.level_row j k (number_first (finish (row ++ s))) ≡ Some row
level_look zero k n s row e = operand_look n (unary_of k) (item.begin_of k) s row e
level_look (suc j) k n s row e =
    then_look (item.level_row j k n) (item.level_row j k (number_first (finish (row ++ s)))) (item.more j ∷ []) row e (λ r f g. subst (λ (y : List Item). item.level_row j k (number_first (finish y)) ≡ Some r) (sym (append_assoc r (item.more j ∷ []) s) ∙ ap (λ (z : List Item). z ++ s) g) (level_look j k n (item.more j ∷ s) r f))

args_look : (b : Bool) (k : Kind) (n : Bool) (s row : List Item) → (if b then Some (item.ended ∷ []) else then_row (item.level_row top k n) item.args_row) ≡ Some row → (if b then Some (item.ended ∷ []) else then_row (item.level_row top k (number_first (finish (row ++ s)))) item.args_row) ≡ Some row
args_look true k n s row e = e
args_look false k n s row e =
    then_look (item.level_row top k n) (item.level_row top k (number_first (finish (row ++ s)))) item.args_row row e (λ r f g. subst (λ (y : List Item). item.level_row top k (number_first (finish y)) ≡ Some r) (sym (append_assoc r item.args_row s) ∙ ap (λ (z : List Item). z ++ s) g) (level_look top k n (item.args_row ++ s) r f))

expand_look : (i : Item) (k : Kind) (n : Bool) (s row : List Item) → expand i k n ≡ Some row → expand i k (number_first (finish (row ++ s))) ≡ Some row
expand_look (item.term f) k n s row e = e
expand_look item.a_name k n s row e = e
expand_look item.a_number k n s row e = e
expand_look (item.close f) k n s row e = e
expand_look item.ended k n s row e = e
expand_look (item.level j) k n s row e = level_look j k n s row e
expand_look (item.more j) k n s row e = e
expand_look item.name_rest k n s row e = e
expand_look item.args k n s row e = args_look (is_fixed fixed.CloseParen k) k n s row e
expand_look item.more_args k n s row e = e
expand_look item.target_rest k n s row e = e
expand_look item.assignment k n s row e = e
expand_look item.stmt k n s row e = e
expand_look item.stmts k n s row e = e
expand_look item.block k n s row e = e
expand_look item.condition k n s row e = e
expand_look item.body k n s row e = e
expand_look item.else_part k n s row e = e
expand_look item.else_rest k n s row e = e
expand_look item.decl k n s row e = e
expand_look item.decls k n s row e = e
expand_look item.constant k n s row e = e
expand_look item.value k n s row e = e
expand_look item.start k n s row e = e
expand_look item.start_part k n s row e = e
expand_look item.size k n s row e = e
expand_look item.size_part k n s row e = e
expand_look item.fields k n s row e = e
expand_look item.field_block k n s row e = e
expand_look item.structure k n s row e = e
expand_look item.header k n s row e = e
expand_look item.guard k n s row e = e
expand_look item.transactions k n s row e = e

look_over : (i : Item) (s next : List Item) (k : Kind) (n : Bool) (o : Option (List Item)) (b : Bool) → expand i k n ≡ o → resume o b (step s k n) s ≡ Some next → (step s k n ≡ Some next → step s k (number_first (finish next)) ≡ Some next) → resume (expand i k (number_first (finish next))) b (step s k (number_first (finish next))) s ≡ Some next
look_over i s next k n (Some row) b e r rec =
    let f = some_row (row ++ s) next r in
    let g : expand i k (number_first (finish next)) ≡ Some row = subst (λ (y : List Item). expand i k (number_first (finish y)) ≡ Some row) f (expand_look i k n s row e) in
    ap (λ (y : Option (List Item)). resume y b (step s k (number_first (finish next))) s) g ∙ ap Some f
look_over i s next k n None true e r rec = ap (λ (y : Option (List Item)). resume y true (step s k (number_first (finish next))) s) (expand_any i k n (number_first (finish next)) e) ∙ rec r
look_over i s next k n None false e r rec = absurd (cc)

pub look : (s next : List Item) (k : Kind) (n : Bool) → step s k n ≡ Some next → step s k (number_first (finish next)) ≡ Some next
look [] next k n e = absurd (cc)
look (i ∷ s) next k n e = look_over i s next k n (expand i k n) (may_skip i) refl e (λ f. look s next k n f)

-- clean tokens

pub both_clean : (a b : List Mark) → AllClean a → AllClean b → AllClean (a ++ b)
both_clean [] b x y = y
both_clean (t ∷ a) b x y = (x.0, both_clean a b x.1 y)

least_clean : (i : Item) → AllClean (least i)
least_clean (item.term f) = (refl, tt)
least_clean item.a_name = (refl, tt)
least_clean item.a_number = (refl, tt)
least_clean (item.close f) = (refl, tt)
least_clean item.ended = tt
least_clean (item.level j) = (refl, tt)
least_clean (item.more j) = tt
least_clean item.name_rest = tt
least_clean item.args = (refl, tt)
least_clean item.more_args = tt
least_clean item.target_rest = tt
least_clean item.assignment = (refl, (refl, (refl, (refl, tt))))
least_clean item.stmt = (refl, (refl, (refl, (refl, tt))))
least_clean item.stmts = tt
least_clean item.block = (refl, (refl, tt))
least_clean item.condition = (refl, (refl, (refl, tt)))
least_clean item.body = (refl, (refl, tt))
least_clean item.else_part = tt
least_clean item.else_rest = (refl, (refl, tt))
least_clean item.decl = (refl, (refl, (refl, (refl, tt))))
least_clean item.decls = tt
least_clean item.constant = (refl, tt)
least_clean item.value = (refl, tt)
least_clean item.start = (refl, tt)
least_clean item.start_part = tt
least_clean item.size = (refl, tt)
least_clean item.size_part = tt
least_clean item.fields = tt
least_clean item.field_block = (refl, (refl, (refl, (refl, (refl, tt)))))
least_clean item.structure = (refl, (refl, (refl, (refl, (refl, (refl, (refl, (refl, tt))))))))
least_clean item.header = (refl, (refl, (refl, (refl, (refl, tt)))))
least_clean item.guard = tt
least_clean item.transactions = tt

pub finish_clean : (s : List Item) → AllClean (finish s)
finish_clean [] = tt
finish_clean (i ∷ s) = both_clean (least i) (finish s) (least_clean i) (finish_clean s)

twice : (k : Kind) (x : List ℕ) → name_text k x ≡ name_text k (name_text k x)
twice kind.Name x = refl
twice (kind.Number w) x = refl
twice (kind.Fixed f) x = refl
twice kind.Inv x = refl
twice kind.Not x = refl
twice (kind.Operator o) x = refl
twice kind.Forbidden x = refl
twice kind.End x = refl

pub marks_clean : (l : List Token) → AllClean (map mark l)
marks_clean [] = tt
marks_clean (t ∷ l) = (twice (token_kind t.kind) (word_text t.kind), marks_clean l)

pub take_clean : (k : ℕ) (l : List Mark) → AllClean l → AllClean (take k l)
take_clean zero l c = tt
take_clean (suc k) [] c = tt
take_clean (suc k) (t ∷ l) c = (c.0, take_clean k l c.1)

-- what comes before can be finished

take_none : (k : ℕ) → take {A = Mark} k [] ≡ []
take_none zero = refl
take_none (suc k) = refl

abbrev Completed : List Item → List Mark → Type 0
Completed s front = (tail : List Mark) × (ns : List ℕ) × AllClean tail × (trace s (front ++ tail) ≡ counted ns fine)

at_once : (s : List Item) → Good s → Completed s []
at_once s g = let f = finishes s g in (finish s, f.0, finish_clean s, f.1)

pub no_end : (b : Bool) (p k : ℕ) → problem p (if b then fine else stuck) ≡ Some (bad (p + suc k)) → ⊥
no_end true p k e = absurd (cc)
no_end false p k e = absurd (let f : p ≡ p + suc k = cc in omega arith)

completed : (l : List Mark) (s : List Item) (p k : ℕ) → Good s → problem p (trace s l) ≡ Some (bad (p + k)) → Completed s (take k l)
completed l s p zero g e = at_once s g
completed [] s p (suc k) g e = absurd (no_end (item.may_end s) p k e)
completed (t ∷ l) s p (suc zero) g e =
    let r = at_step t (step s t.kind (number_first l)) l p (p + 1) e (omega arith) in
    let f = finishes r.0 (step_good s r.0 t.kind (number_first l) g r.1) in
    (finish r.0, held r.0 ∷ f.0, finish_clean r.0, ap (λ (o : Option (List Item)). on_step o (λ s. trace s (finish r.0))) (look s r.0 t.kind (number_first l) r.1) ∙ ap (count (held r.0)) f.1)
completed (t ∷ []) s p (suc (suc k)) g e =
    let r = at_step t (step s t.kind false) [] p (p + suc (suc k)) e (omega arith) in
    let same : p + suc (suc k) ≡ p + 1 + suc k = omega arith in
    absurd (no_end (item.may_end r.0) (p + 1) k (r.2 ∙ ap (λ (q : ℕ). Some (bad q)) same))
completed (t ∷ u ∷ l) s p (suc (suc k)) g e =
    let r = at_step t (step s t.kind (number_first (u ∷ l))) (u ∷ l) p (p + suc (suc k)) e (omega arith) in
    let same : p + suc (suc k) ≡ p + 1 + suc k = omega arith in
    let f = completed (u ∷ l) r.0 (p + 1) (suc k) (step_good s r.0 t.kind (number_first (u ∷ l)) g r.1) (r.2 ∙ ap (λ (q : ℕ). Some (bad q)) same) in
    (f.0, held r.0 ∷ f.1, f.2, ap (λ (o : Option (List Item)). on_step o (λ s. trace s (take (suc k) (u ∷ l) ++ f.0))) r.1 ∙ ap (count (held r.0)) f.3)

pub begins_before : (l : List Token) (p : ℕ) → problem 0 (trace whole (map mark l)) ≡ Some (bad p) → BeginProgram (take p l)
begins_before l p e =
    let none : 0 + p ≡ p = omega arith in
    let f = completed (map mark l) whole 0 p whole_good (e ∙ ap (λ (q : ℕ). Some (bad q)) (sym none)) in
    let w = spelled (take p (map mark l) ++ f.0) f.1 (both_clean (take p (map mark l)) f.0 (take_clean p (map mark l) (marks_clean l)) f.2) f.3 in
    (w.0, w.1, f.0, w.2 ∙ ap (λ (x : List Mark). x ++ f.0) (sym (take_map p l)))

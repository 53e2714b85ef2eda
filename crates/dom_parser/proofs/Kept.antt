-- A token that may not stand at a place may not stand there, whatever comes after it.
use Rattle.std.proofs.Common.{◌≡◌, ℕ, zero, suc, ◌+◌, ◌<◌, ◌≤◌, Bool, true, false, ◌&&◌, List, [], ◌∷◌, ◌++◌, map, take, Option, Some, None, length, refl, sym, ap, ◌∙◌, subst, arith, if◌then◌else◌}
use Rattle.std.specs.Prelude.{nat_le}
use Rattle.std.proofs.lemmas.List.{length-map}
use Rattle.dom_words.specs.declared.operators.UnOp.{UnOp}
use Rattle.dom_lexer.specs.declared.token.Token.{Token}
use Rattle.dom_ast.specs.Form.{ProgramForm}
use Rattle.dom_parser.specs.declared.kinds.Kind.{Kind}
use Rattle.dom_parser.specs.declared.kinds.Begin.{Begin}
use Rattle.dom_parser.specs.declared.kinds.Fixed.TheVariants as fixed
use Rattle.dom_parser.specs.Tokens.{Mark, mark, is_number, number_first}
use Rattle.dom_parser.specs.inner.AtPlace.{is_fixed, unary_of}
use Rattle.dom_parser.specs.Grammar.{top, program_opens, Spells, BeginProgram}
use Rattle.dom_parser.specs.inner.Following as item
use Rattle.dom_parser.specs.inner.Following.{Item, ended, level, more, args, args_row, then_row, begin_of, begin_row, operand_row, level_row, is_neg, expand, may_skip, resume, step, held, Trace, fine, stuck, count, on_step, trace, limit, Problem, bad, deep, problem, whole}
use Rattle.dom_parser.proofs.Traces.{counted}
use Rattle.dom_parser.proofs.Whole.{program_traced}

-- what comes next decides nothing on whether a token may stand
operand_any : (n m : Bool) (o : Option UnOp) (b : Begin) → operand_row n o b ≡ None → operand_row m o b ≡ None
operand_any n m None b e = e
operand_any n m (Some o) b e = go (is_neg o && n) e
  where
    go : (c : Bool) → (if c then Some (item.a_number ∷ []) else Some (level 0 ∷ ended ∷ [])) ≡ None → operand_row m (Some o) b ≡ None
    go true e = absurd (cc)
    go false e = absurd (cc)

then_none : (o : Option (List Item)) (x : List Item) → then_row o x ≡ None → o ≡ None
then_none None x e = refl
then_none (Some r) x e = absurd (cc)

level_any : (j : ℕ) (k : Kind) (n m : Bool) → level_row j k n ≡ None → level_row j k m ≡ None
level_any zero k n m e = operand_any n m (unary_of k) (begin_of k) e
level_any (suc j) k n m e = ap (λ (o : Option (List Item)). then_row o (more j ∷ [])) (level_any j k n m (then_none (level_row j k n) (more j ∷ []) e))

args_any : (c : Bool) (k : Kind) (n m : Bool) → (if c then Some (ended ∷ []) else then_row (level_row top k n) args_row) ≡ None → (if c then Some (ended ∷ []) else then_row (level_row top k m) args_row) ≡ None
args_any true k n m e = absurd (cc)
args_any false k n m e = ap (λ (o : Option (List Item)). then_row o args_row) (level_any top k n m (then_none (level_row top k n) args_row e))

pub expand_any : (i : Item) (k : Kind) (n m : Bool) → expand i k n ≡ None → expand i k m ≡ None
expand_any (item.term f) k n m e = e
expand_any item.a_name k n m e = e
expand_any item.a_number k n m e = e
expand_any (item.close f) k n m e = e
expand_any item.ended k n m e = e
expand_any (item.level j) k n m e = level_any j k n m e
expand_any (item.more j) k n m e = e
expand_any item.name_rest k n m e = e
expand_any item.args k n m e = args_any (is_fixed fixed.CloseParen k) k n m e
expand_any item.more_args k n m e = e
expand_any item.target_rest k n m e = e
expand_any item.assignment k n m e = e
expand_any item.stmt k n m e = e
expand_any item.stmts k n m e = e
expand_any item.block k n m e = e
expand_any item.condition k n m e = e
expand_any item.body k n m e = e
expand_any item.else_part k n m e = e
expand_any item.else_rest k n m e = e
expand_any item.decl k n m e = e
expand_any item.decls k n m e = e
expand_any item.constant k n m e = e
expand_any item.value k n m e = e
expand_any item.start k n m e = e
expand_any item.start_part k n m e = e
expand_any item.size k n m e = e
expand_any item.size_part k n m e = e
expand_any item.fields k n m e = e
expand_any item.field_block k n m e = e
expand_any item.structure k n m e = e
expand_any item.header k n m e = e
expand_any item.guard k n m e = e
expand_any item.transactions k n m e = e

step_over : (i : Item) (s : List Item) (k : Kind) (n m : Bool) (b : Bool) (o : Option (List Item)) → expand i k n ≡ o → (step s k n ≡ None → step s k m ≡ None) → resume o b (step s k n) s ≡ None → resume (expand i k m) b (step s k m) s ≡ None
step_over i s k n m b (Some r) f rec g = absurd (cc)
step_over i s k n m true None f rec g = ap (λ (o : Option (List Item)). resume o true (step s k m) s) (expand_any i k n m f) ∙ rec g
step_over i s k n m false None f rec g = ap (λ (o : Option (List Item)). resume o false (step s k m) s) (expand_any i k n m f)

step_any : (s : List Item) (k : Kind) (n m : Bool) → step s k n ≡ None → step s k m ≡ None
step_any [] k n m e = refl
step_any (i ∷ s) k n m e = step_over i s k n m (may_skip i) (expand i k n) refl (λ h. step_any s k n m h) e

-- a trace that does not end well
abbrev NotFine : Trace → Type 0
NotFine t = (ns : List ℕ) → t ≡ counted ns fine → ⊥

stuck_not_fine : NotFine stuck
stuck_not_fine [] e = absurd (cc)
stuck_not_fine (n ∷ ns) e = absurd (cc)

count_not_fine : (n : ℕ) (t : Trace) → NotFine t → NotFine (count n t)
count_not_fine n t h [] e = absurd (cc)
count_not_fine n t h (m ∷ ns) e = h ns (let f : t ≡ counted ns fine = cc in f)

-- a problem stands at the place where it is looked for or later
later : (t : Trace) (p q : ℕ) → problem p t ≡ Some (bad q) → p ≤ q
later fine p q e = absurd (cc)
later stuck p q e = let h : p ≡ q = cc in omega arith
later (count n t) p q e = go (nat_le n limit) e (λ f. later t (p + 1) q f)
  where
    go : (b : Bool) → (if b then problem (p + 1) t else Some (deep p)) ≡ Some (bad q) → (problem (p + 1) t ≡ Some (bad q) → p + 1 ≤ q) → p ≤ q
    go true f rec = let h = rec f in omega arith
    go false f rec = absurd (cc)

-- one token of it
pub at_step : (t : Mark) (o : Option (List Item)) (l : List Mark) (p q : ℕ) → problem p (on_step o (λ s. trace s l)) ≡ Some (bad q) → p < q → (s : List Item) × (o ≡ Some s) × (problem (p + 1) (trace s l) ≡ Some (bad q))
at_step t None l p q e h = absurd (let f : p ≡ q = cc in omega arith)
at_step t (Some s) l p q e h = go (nat_le (held s) limit) e
  where
    go : (b : Bool) → (if b then problem (p + 1) (trace s l) else Some (deep p)) ≡ Some (bad q) → (r : List Item) × (Some s ≡ Some r) × (problem (p + 1) (trace r l) ≡ Some (bad q))
    go true f = (s, refl, f)
    go false f = absurd (cc)

none_here : (o : Option (List Item)) (l : List Mark) (p : ℕ) → problem p (on_step o (λ s. trace s l)) ≡ Some (bad p) → o ≡ None
none_here None l p e = refl
none_here (Some s) l p e = go (nat_le (held s) limit) e
  where
    go : (b : Bool) → (if b then problem (p + 1) (trace s l) else Some (deep p)) ≡ Some (bad p) → Some s ≡ None
    go true f = absurd (let h = later (trace s l) (p + 1) p f in omega arith)
    go false f = absurd (cc)

-- whatever comes after the token at k, it may not stand there
stays : (l : List Mark) (s : List Item) (p k : ℕ) (tail : List Mark) → problem p (trace s l) ≡ Some (bad (p + k)) → k < length l → NotFine (trace s (take (suc k) l ++ tail))
stays [] s p k tail e h = absurd (omega arith)
stays (t ∷ l) s p zero tail e h =
    let same : p + 0 ≡ p = omega arith in
    let n = none_here (step s t.kind (number_first l)) l p (e ∙ ap (λ (q : ℕ). Some (bad q)) same) in
    let m = step_any s t.kind (number_first l) (number_first tail) n in
    subst NotFine (sym (ap (λ (o : Option (List Item)). on_step o (λ s. trace s tail)) m)) stuck_not_fine
stays (t ∷ []) s p (suc k) tail e h = absurd (omega arith)
stays (t ∷ u ∷ l) s p (suc k) tail e h =
    let r = at_step t (step s t.kind (is_number u.kind)) (u ∷ l) p (p + suc k) e (omega arith) in
    let same : p + suc k ≡ p + 1 + k = omega arith in
    let rec = stays (u ∷ l) r.0 (p + 1) k tail (r.2 ∙ ap (λ (q : ℕ). Some (bad q)) same) (omega arith) in
    subst NotFine (sym (ap (λ (o : Option (List Item)). on_step o (λ s. trace s (take (suc k) (u ∷ l) ++ tail))) r.1)) (count_not_fine (held r.0) (trace r.0 (take (suc k) (u ∷ l) ++ tail)) rec)

-- nor does what has a problem of that kind end well
bad_not_fine : (t : Trace) (p q : ℕ) → problem p t ≡ Some (bad q) → NotFine t
bad_not_fine fine p q e = absurd (cc)
bad_not_fine stuck p q e = stuck_not_fine
bad_not_fine (count n t) p q e = go (nat_le n limit) e (λ f. bad_not_fine t (p + 1) q f)
  where
    go : (b : Bool) → (if b then problem (p + 1) t else Some (deep p)) ≡ Some (bad q) → (problem (p + 1) t ≡ Some (bad q) → NotFine t) → NotFine (count n t)
    go true f rec = count_not_fine n t (rec f)
    go false f rec = absurd (cc)

pub take_map : (k : ℕ) (l : List Token) → map mark (take k l) ≡ take k (map mark l)
take_map zero l = refl
take_map (suc k) [] = refl
take_map (suc k) (t ∷ l) = ap (λ (x : List Mark). mark t ∷ x) (take_map k l)

-- no program begins with the tokens up to and with the one at p
pub begins_none : (l : List Token) (p : ℕ) → problem 0 (trace whole (map mark l)) ≡ Some (bad p) → p < length l → BeginProgram (take (suc p) l) → ⊥
begins_none l p e h v =
    let none : 0 + p ≡ p = omega arith in
    let size = length-map l mark in
    let n = stays (map mark l) whole 0 p v.2 (e ∙ ap (λ (q : ℕ). Some (bad q)) (sym none)) (omega arith) in
    n (program_opens v.0) (ap (trace whole) (ap (λ (x : List Mark). x ++ v.2) (sym (take_map (suc p) l)) ∙ sym v.3) ∙ program_traced v.0 v.1)

-- and no program is spelled by all of them
pub not_spelled : (l : List Token) (p : ℕ) (f : ProgramForm) → problem 0 (trace whole (map mark l)) ≡ Some (bad p) → Spells f l → ⊥
not_spelled l p f e s = bad_not_fine (trace whole (map mark l)) 0 p e (program_opens s.0) (ap (trace whole) (sym s.2) ∙ program_traced s.0 s.1)

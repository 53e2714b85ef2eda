-- What comes up to a token that opens one construct too many can be finished, and 65 are open there however it is finished.
use Rattle.std.proofs.Common.{◌≡◌, ℕ, zero, suc, ◌+◌, ◌<◌, ◌≤◌, Bool, true, false, List, [], ◌∷◌, ◌++◌, map, take, length, Option, Some, None, refl, sym, ap, ◌∙◌, subst, arith, if◌then◌else◌}
use Rattle.std.proofs.lemmas.Bool.{leb-true, leb-false}
use Rattle.std.proofs.lemmas.List.{length-map}
use Rattle.std.specs.Prelude.{nat_le}
use Rattle.dom_lexer.specs.declared.token.Token.{Token}
use Rattle.dom_parser.specs.declared.faults.Fault.{Fault}
use Rattle.dom_parser.specs.declared.faults.Fault.TheVariants as place
use Rattle.dom_parser.specs.declared.faults.ParseFault.{ParseFault}
use Rattle.dom_parser.specs.declared.kinds.Kind.{Kind}
use Rattle.dom_parser.specs.declared.kinds.Kind.TheVariants as kind
use Rattle.dom_parser.specs.Tokens as Tokens
use Rattle.dom_parser.specs.Tokens.{Mark, mark, is_minus, is_number, number_first}
use Rattle.dom_parser.specs.Grammar.{Program, program_opens}
use Rattle.dom_parser.specs.inner.Following as item
use Rattle.dom_parser.specs.inner.Following.{Item, step, held, Trace, fine, stuck, count, on_step, trace, problem, bad, deep, limit, whole}
use Rattle.dom_parser.specs.inner.HeadReads.{FailsWholeBy}
use Rattle.dom_parser.specs.Faults.{located_at, BeginsWith, IsFirstOver, OpensTooMany, Rules, IsFirstFault}
use Rattle.dom_parser.proofs.Traces.{counted}
use Rattle.dom_parser.proofs.Whole.{program_traced}
use Rattle.dom_parser.proofs.Kept.{take_map, begins_none, not_spelled}
use Rattle.dom_parser.proofs.Derived.{AllClean, spelled}
use Rattle.dom_parser.proofs.Finished.{finish, Good, finishes, step_good, whole_good}
use Rattle.dom_parser.proofs.Growth.{one_more, no_more, step_same}
use Rattle.dom_parser.proofs.Viable.{look, both_clean, finish_clean, marks_clean, no_end, take_clean, begins_before}

-- a test of what stands at a place
abbrev at_place : (Kind → Bool) → List Mark → ℕ → Bool
at_place f [] k = f kind.End
at_place f (t ∷ l) zero = f t.kind
at_place f (t ∷ l) (suc k) = at_place f l k

at_stands : (f : Kind → Bool) (l : List Token) (p : ℕ) → at_place f (map mark l) p ≡ f (Tokens.stands l p)
at_stands f [] zero = refl
at_stands f [] (suc p) = refl
at_stands f (t ∷ l) zero = refl
at_stands f (t ∷ l) (suc p) = at_stands f l p

at_first : (l : List Mark) → at_place is_number l zero ≡ number_first l
at_first [] = refl
at_first (t ∷ l) = refl

-- a problem of that kind stands at the place where it is looked for or later
later : (t : Trace) (p q : ℕ) → problem p t ≡ Some (deep q) → p ≤ q
later fine p q e = absurd (cc)
later stuck p q e = absurd (cc)
later (count n t) p q e = go (nat_le n limit) e (λ f. later t (p + 1) q f)
  where
    go : (b : Bool) → (if b then problem (p + 1) t else Some (deep p)) ≡ Some (deep q) → (problem (p + 1) t ≡ Some (deep q) → p + 1 ≤ q) → p ≤ q
    go true f rec = let h = rec f in omega arith
    go false f rec = let h : p ≡ q = cc in omega arith

-- the token at hand may stand there
stands : (o : Option (List Item)) (l : List Mark) (p q : ℕ) → problem p (on_step o (λ s. trace s l)) ≡ Some (deep q) → (s : List Item) × (o ≡ Some s) × (problem p (count (held s) (trace s l)) ≡ Some (deep q))
stands None l p q e = absurd (cc)
stands (Some s) l p q e = (s, refl, e)

-- and opens none too many, where the problem stands later
goes_on : (s : List Item) (l : List Mark) (p q : ℕ) → problem p (count (held s) (trace s l)) ≡ Some (deep q) → p < q → (held s ≤ limit) × (problem (p + 1) (trace s l) ≡ Some (deep q))
goes_on s l p q e h = go (nat_le (held s) limit) refl e
  where
    go : (b : Bool) → nat_le (held s) limit ≡ b → (if b then problem (p + 1) (trace s l) else Some (deep p)) ≡ Some (deep q) → (held s ≤ limit) × (problem (p + 1) (trace s l) ≡ Some (deep q))
    go true x f = (leb-true (held s) limit x, f)
    go false x f = absurd (let k : p ≡ q = cc in omega arith)

-- or one too many, where it stands here
over_here : (s : List Item) (l : List Mark) (p : ℕ) → problem p (count (held s) (trace s l)) ≡ Some (deep (p + 0)) → limit < held s
over_here s l p e = go (nat_le (held s) limit) refl e
  where
    go : (b : Bool) → nat_le (held s) limit ≡ b → (if b then problem (p + 1) (trace s l) else Some (deep p)) ≡ Some (deep (p + 0)) → limit < held s
    go true x f = absurd (let h = later (trace s l) (p + 1) (p + 0) f in omega arith)
    go false x f = leb-false (held s) limit x

-- a "-" that opens one has no number after it
no_number : (s next : List Item) (k : Kind) (n : Bool) → is_minus k ≡ true → step s k n ≡ Some next → held s ≤ limit → limit < held next → n ≡ false
no_number s next k true m e h o = absurd (let f = no_more s next k m e in omega arith)
no_number s next k false m e h o = refl

no_deep_end : (b : Bool) (p q : ℕ) → problem p (if b then fine else stuck) ≡ Some (deep q) → ⊥
no_deep_end true p q e = absurd (cc)
no_deep_end false p q e = absurd (cc)

-- what comes up to it can be finished, with no number next where it is a "-"
abbrev Completed : List Item → List Mark → ℕ → Type 0
Completed s l k = (tail : List Mark) × (ns : List ℕ) × AllClean tail × (trace s (take (suc k) l ++ tail) ≡ counted ns fine) × (at_place is_minus l k ≡ true → number_first tail ≡ false)

completed : (l : List Mark) (s : List Item) (p k : ℕ) → Good s → held s ≤ limit → problem p (trace s l) ≡ Some (deep (p + k)) → Completed s l k
completed [] s p k g h e = absurd (no_deep_end (item.may_end s) p (p + k) e)
completed (t ∷ l) s p zero g h e =
    let r = stands (step s t.kind (number_first l)) l p (p + 0) e in
    let f = finishes r.0 (step_good s r.0 t.kind (number_first l) g r.1) in
    let c = look s r.0 t.kind (number_first l) r.1 in
    (finish r.0, held r.0 ∷ f.0, finish_clean r.0, ap (λ (o : Option (List Item)). on_step o (λ s. trace s (finish r.0))) c ∙ ap (count (held r.0)) f.1, λ m. no_number s r.0 t.kind (number_first (finish r.0)) m c h (over_here r.0 l p r.2))
completed (t ∷ []) s p (suc k) g h e =
    let r = stands (step s t.kind false) [] p (p + suc k) e in
    let n = goes_on r.0 [] p (p + suc k) r.2 (omega arith) in
    absurd (no_deep_end (item.may_end r.0) (p + 1) (p + suc k) n.1)
completed (t ∷ u ∷ l) s p (suc k) g h e =
    let r = stands (step s t.kind (number_first (u ∷ l))) (u ∷ l) p (p + suc k) e in
    let n = goes_on r.0 (u ∷ l) p (p + suc k) r.2 (omega arith) in
    let same : p + suc k ≡ p + 1 + k = omega arith in
    let f = completed (u ∷ l) r.0 (p + 1) k (step_good s r.0 t.kind (number_first (u ∷ l)) g r.1) n.0 (n.1 ∙ ap (λ (q : ℕ). Some (deep q)) same) in
    (f.0, held r.0 ∷ f.1, f.2, ap (λ (o : Option (List Item)). on_step o (λ s. trace s (take (suc k) (u ∷ l) ++ f.0))) r.1 ∙ ap (count (held r.0)) f.3, f.4)

-- however it is finished

same_here : (s next : List Item) (k : Kind) (n m : Bool) → (is_minus k ≡ true → n ≡ m) → step s k n ≡ Some next → step s k m ≡ Some next
same_here s next k n m h e = go (is_minus k) refl
  where
    go : (b : Bool) → is_minus k ≡ b → step s k m ≡ Some next
    go true x = ap (step s k) (sym (h x)) ∙ e
    go false x = step_same s k x m n ∙ e

first_here : (n : ℕ) (t : Trace) (ns : List ℕ) → count n t ≡ counted ns fine → n ≡ 65 → IsFirstOver zero ns
first_here n t [] e h = absurd (cc)
first_here n t (m ∷ ns) e h = let f : n ≡ m = cc in sym f ∙ h

first_later : (k n : ℕ) (t : Trace) (ns : List ℕ) → count n t ≡ counted ns fine → n ≤ 64 → ((ms : List ℕ) → t ≡ counted ms fine → IsFirstOver k ms) → IsFirstOver (suc k) ns
first_later k n t [] e h rec = absurd (cc)
first_later k n t (m ∷ ns) e h rec =
    let f : n ≡ m = cc in let g : t ≡ counted ns fine = cc in (subst (λ (x : ℕ). x ≤ 64) f h, rec ns g)

record Crosses (l : List Mark) (s : List Item) (k : ℕ) : Type 0 where
  there : k < length l
  operator : at_place is_minus l k ≡ true → at_place is_number l (suc k) ≡ false
  every : (rest : List Mark) (ns : List ℕ) → (at_place is_minus l k ≡ true → number_first rest ≡ false) → trace s (take (suc k) l ++ rest) ≡ counted ns fine → IsFirstOver k ns

crosses : (l : List Mark) (s : List Item) (p k : ℕ) → held s ≤ limit → problem p (trace s l) ≡ Some (deep (p + k)) → Crosses l s k
crosses [] s p k h e = absurd (no_deep_end (item.may_end s) p (p + k) e)
crosses (t ∷ l) s p zero h e =
    let r = stands (step s t.kind (number_first l)) l p (p + 0) e in
    let o = over_here r.0 l p r.2 in
    let b = one_more s r.0 t.kind (number_first l) r.1 in
    record {
      there = omega arith;
      operator = λ m. at_first l ∙ no_number s r.0 t.kind (number_first l) m r.1 h o;
      every = λ rest ns x c.
          let n = same_here s r.0 t.kind (number_first l) (number_first rest) (λ m. no_number s r.0 t.kind (number_first l) m r.1 h o ∙ sym (x m)) r.1 in
          first_here (held r.0) (trace r.0 rest) ns (sym (ap (λ (z : Option (List Item)). on_step z (λ s. trace s rest)) n) ∙ c) (omega arith);
    }
crosses (t ∷ []) s p (suc k) h e =
    let r = stands (step s t.kind false) [] p (p + suc k) e in
    let n = goes_on r.0 [] p (p + suc k) r.2 (omega arith) in
    absurd (no_deep_end (item.may_end r.0) (p + 1) (p + suc k) n.1)
crosses (t ∷ u ∷ l) s p (suc k) h e =
    let r = stands (step s t.kind (number_first (u ∷ l))) (u ∷ l) p (p + suc k) e in
    let n = goes_on r.0 (u ∷ l) p (p + suc k) r.2 (omega arith) in
    let same : p + suc k ≡ p + 1 + k = omega arith in
    let f = crosses (u ∷ l) r.0 (p + 1) k n.0 (n.1 ∙ ap (λ (q : ℕ). Some (deep q)) same) in
    let within = f.there in
    record {
      there = omega arith;
      operator = f.operator;
      every = λ rest ns x c. first_later k (held r.0) (trace r.0 (take (suc k) (u ∷ l) ++ rest)) ns (sym (ap (λ (z : Option (List Item)). on_step z (λ s. trace s (take (suc k) (u ∷ l) ++ rest))) r.1) ∙ c) n.0 (λ ms d. f.every rest ms x d);
    }

-- a program that begins so, as it is read
read_so : (l : List Token) (p : ℕ) (way : Program) (b : BeginsWith l p way) → trace whole (take (suc p) (map mark l) ++ b.rest) ≡ counted (program_opens way) fine
read_so l p way b = ap (trace whole) (ap (λ (x : List Mark). x ++ b.rest) (sym (take_map (suc p) l)) ∙ sym b.front) ∙ program_traced way b.is_program

opens : (l : List Token) (p : ℕ) → problem 0 (trace whole (map mark l)) ≡ Some (deep p) → OpensTooMany l p
opens l p e =
    let none : 0 + p ≡ p = omega arith in
    let one : p + 1 ≡ suc p = omega arith in
    let d : problem 0 (trace whole (map mark l)) ≡ Some (deep (0 + p)) = e ∙ ap (λ (q : ℕ). Some (deep q)) (sym none) in
    let f = completed (map mark l) whole 0 p whole_good (omega arith) d in
    let w = spelled (take (suc p) (map mark l) ++ f.0) f.1 (both_clean (take (suc p) (map mark l)) f.0 (take_clean (suc p) (map mark l) (marks_clean l)) f.2) f.3 in
    let c = crosses (map mark l) whole 0 p (omega arith) d in
    let size = length-map l mark in
    let within = c.there in
    let minus = at_stands is_minus l p in
    record {
      there = omega arith;
      operator = λ m. ap (λ (q : ℕ). is_number (Tokens.stands l q)) one ∙ sym (at_stands is_number l (suc p)) ∙ c.operator (minus ∙ m);
      some = (w.0, record { is_program = w.1; rest = f.0; front = w.2 ∙ ap (λ (x : List Mark). x ++ f.0) (sym (take_map (suc p) l)); operator = λ m. f.4 (minus ∙ m) });
      every = λ way b. c.every b.rest (program_opens way) (λ m. b.operator (sym minus ∙ m)) (read_so l p way b);
    }

-- where a token may not stand, none before it opens one too many

stands_before : (o : Option (List Item)) (l : List Mark) (p q : ℕ) → problem p (on_step o (λ s. trace s l)) ≡ Some (bad q) → p < q → (s : List Item) × (o ≡ Some s) × (held s ≤ limit) × (problem (p + 1) (trace s l) ≡ Some (bad q))
stands_before None l p q e h = absurd (let f : p ≡ q = cc in omega arith)
stands_before (Some s) l p q e h = go (nat_le (held s) limit) refl e
  where
    go : (b : Bool) → nat_le (held s) limit ≡ b → (if b then problem (p + 1) (trace s l) else Some (deep p)) ≡ Some (bad q) → (r : List Item) × (Some s ≡ Some r) × (held r ≤ limit) × (problem (p + 1) (trace r l) ≡ Some (bad q))
    go true x f = (s, refl, leb-true (held s) limit x, f)
    go false x f = absurd (cc)

bad_within : (l : List Mark) (s : List Item) (p k : ℕ) → problem p (trace s l) ≡ Some (bad (p + k)) → k ≤ length l
bad_within l s p zero e = omega arith
bad_within [] s p (suc k) e = absurd (no_end (item.may_end s) p k e)
bad_within (t ∷ l) s p (suc k) e =
    let r = stands_before (step s t.kind (number_first l)) l p (p + suc k) e (omega arith) in
    let same : p + suc k ≡ p + 1 + k = omega arith in
    let f = bad_within l r.0 (p + 1) k (r.3 ∙ ap (λ (q : ℕ). Some (bad q)) same) in
    omega arith

not_first : (n : ℕ) (t : Trace) (ns : List ℕ) → count n t ≡ counted ns fine → n ≤ 64 → IsFirstOver zero ns → ⊥
not_first n t [] e h x = x
not_first n t (m ∷ ns) e h x = absurd (let f : n ≡ m = cc in let g : m ≡ 65 = x in omega arith)

not_later : (k n : ℕ) (t : Trace) (ns : List ℕ) → count n t ≡ counted ns fine → ((ms : List ℕ) → t ≡ counted ms fine → IsFirstOver k ms → ⊥) → IsFirstOver (suc k) ns → ⊥
not_later k n t [] e rec x = x
not_later k n t (m ∷ ns) e rec x = let g : t ≡ counted ns fine = cc in rec ns g x.1

not_over : (l : List Mark) (s : List Item) (p k j : ℕ) → problem p (trace s l) ≡ Some (bad (p + j)) → k < j → (rest : List Mark) (ns : List ℕ) → (at_place is_minus l k ≡ true → at_place is_number l (suc k) ≡ number_first rest) → trace s (take (suc k) l ++ rest) ≡ counted ns fine → IsFirstOver k ns → ⊥
not_over l s p k zero e h rest ns x c i = absurd (omega arith)
not_over [] s p k (suc j) e h rest ns x c i = no_end (item.may_end s) p j e
not_over (t ∷ l) s p zero (suc j) e h rest ns x c i =
    let r = stands_before (step s t.kind (number_first l)) l p (p + suc j) e (omega arith) in
    let n = same_here s r.0 t.kind (number_first l) (number_first rest) (λ m. sym (at_first l) ∙ x m) r.1 in
    not_first (held r.0) (trace r.0 rest) ns (sym (ap (λ (z : Option (List Item)). on_step z (λ s. trace s rest)) n) ∙ c) r.2 i
not_over (t ∷ []) s p (suc k) (suc zero) e h rest ns x c i = absurd (omega arith)
not_over (t ∷ []) s p (suc k) (suc (suc j)) e h rest ns x c i =
    let r = stands_before (step s t.kind false) [] p (p + suc (suc j)) e (omega arith) in
    let same : p + suc (suc j) ≡ p + 1 + suc j = omega arith in
    no_end (item.may_end r.0) (p + 1) j (r.3 ∙ ap (λ (q : ℕ). Some (bad q)) same)
not_over (t ∷ u ∷ l) s p (suc k) (suc j) e h rest ns x c i =
    let r = stands_before (step s t.kind (number_first (u ∷ l))) (u ∷ l) p (p + suc j) e (omega arith) in
    let same : p + suc j ≡ p + 1 + j = omega arith in
    not_later k (held r.0) (trace r.0 (take (suc k) (u ∷ l) ++ rest)) ns (sym (ap (λ (z : Option (List Item)). on_step z (λ s. trace s (take (suc k) (u ∷ l) ++ rest))) r.1) ∙ c) (λ ms d y. not_over (u ∷ l) r.0 (p + 1) k j (r.3 ∙ ap (λ (q : ℕ). Some (bad q)) same) (omega arith) rest ms x d y) i

none_before : (l : List Token) (p : ℕ) → problem 0 (trace whole (map mark l)) ≡ Some (bad p) → (q : ℕ) → q < p → OpensTooMany l q → ⊥
none_before l p e q h o =
    let none : 0 + p ≡ p = omega arith in
    let one : q + 1 ≡ suc q = omega arith in
    let way = o.some.0 in let b = o.some.1 in
    let minus = at_stands is_minus l q in
    let ahead : (is_minus (Tokens.stands l q) ≡ true) → is_number (Tokens.stands l (suc q)) ≡ false = λ m. ap (λ (y : ℕ). is_number (Tokens.stands l y)) (sym one) ∙ o.operator m in
    not_over (map mark l) whole 0 q p (e ∙ ap (λ (y : ℕ). Some (bad y)) (sym none)) h b.rest (program_opens way) (λ m. at_stands is_number l (suc q) ∙ ahead (sym minus ∙ m) ∙ sym (b.operator (sym minus ∙ m))) (read_so l q way b) (o.every way b)

there_or_end : (l : List Token) (p : ℕ) → problem 0 (trace whole (map mark l)) ≡ Some (bad p) → p ≤ length l
there_or_end l p e =
    let none : 0 + p ≡ p = omega arith in
    let size = length-map l mark in
    let f = bad_within (map mark l) whole 0 p (e ∙ ap (λ (y : ℕ). Some (bad y)) (sym none)) in
    omega arith

-- each fault of the parser

ruled : (l : List Token) (f : Fault) → FailsWholeBy whole l 0 f → Rules l f
ruled l (place.Unexpected p) a = record { there = there_or_end l p a.there; before = begins_before l p a.there; within = λ q h o. none_before l p a.there q h o; with_it = λ h v. begins_none l p a.there h v; together = λ f s. not_spelled l p f a.there s }
ruled l (place.TooNested p) a = opens l p a.there
ruled l place.Memory a = tt

pub first_fault : (l m : List Token) (end : ℕ) (f : Fault) (g : ParseFault) → m ≡ l → g ≡ located_at l end f → FailsWholeBy whole m 0 f → IsFirstFault l end g
first_fault l m end f g e h a =
    let b : FailsWholeBy whole l 0 f = subst (λ (x : List Token). FailsWholeBy whole x 0 f) e a in
    record { fault = f; located = h; rules = ruled l f b }

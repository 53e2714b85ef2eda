-- Classes: statements that reach one another, and the codelets that they make.
use Rattle.std.proofs.Common.{◌≡◌, ℕ, zero, suc, ◌+◌, ◌<◌, ◌≤◌, Bool, true, false, not, ◌&&◌, nat_lt, List, [], ◌∷◌, Option, Some, None, map, refl, sym, ap, ◌∙◌, subst, arith, ◌⊎◌, inl, inr, if◌then◌else◌}
use Rattle.std.specs.Prelude.{◌||◌, slice_get}
use Rattle.std.specs.List.{list_any, filter}
use Rattle.std.proofs.lemmas.Bool.{eqb-true, and_parts, and_from, or_cases, or_left, or_right, not-true, ltb-true, lt-ltb, cases_lt}
use Rattle.dom_flat.specs.declared.line.Operand.{Operand}
use Rattle.dom_flat.specs.declared.line.Operand.TheVariants.{Const, Value}
use Rattle.dom_flat.specs.declared.line.Line.{Line}
use Rattle.dom_flat.specs.declared.line.Line.TheVariants as line
use Rattle.dom_flat.specs.Lines.{is_flank, is_value, operands_of, uses}
use Rattle.dep_graph.specs.Leads.{are_flanks, leads, leads_by}
use Rattle.dep_graph.proofs.Warshall.{reach_join}
use Rattle.codelets.specs.Lists.{IsIn}
use Rattle.codelets.specs.Linked.{Linked, IsLinked, class_of, count, holds_for, is_first, is_inner, is_so, numbers, together, twins_in, twins_of, with_twin}
use Rattle.codelets.specs.Cut.{cut}
use Rattle.codelets.proofs.Lists.{in_filter, filter_in, in_left, in_right, append_in, any_in, in_any, at_within, within_at, in_map, map_in, in_range, range_in}
use Rattle.codelets.proofs.Given.{in_uses, used_before}

pub is_value_true : (v : ℕ) (o : Operand) → is_value v o ≡ true → o ≡ Value v
is_value_true v (Const w) e = absurd (cc)
is_value_true v (Value u) e = ap Value (sym (eqb-true v u e))

pub uses_in : (v : ℕ) (os : List Operand) → uses v os ≡ true → IsIn (Value v) os
uses_in v os e = let r = in_any (is_value v) os e in subst (λ (o : Operand). IsIn o os) (is_value_true v r.0 r.2) r.1

unflanked : (l m : Line) → is_flank l ≡ false → are_flanks l m ≡ false
unflanked (line.Fetch a i) m e = absurd (cc)
unflanked (line.Store a i v) m e = absurd (cc)
unflanked (line.Un op a) m e = refl
unflanked (line.Bin op a b) m e = refl
unflanked (line.Cond c a b) m e = refl
unflanked (line.Hash unit modulus args) m e = refl

pub so_at : (P : Linked) (f : Line → Bool) (a : ℕ) → is_so P f a ≡ true → (l : Line) × (slice_get P.lines a ≡ Some l) × (f l ≡ true)
so_at P f a e = by_case (slice_get P.lines a) refl e
  where
    by_case : (o : Option Line) → slice_get P.lines a ≡ o → holds_for f o ≡ true → (l : Line) × (slice_get P.lines a ≡ Some l) × (f l ≡ true)
    by_case None q h = absurd (cc)
    by_case (Some l) q h = (l, q, h)

pub at_so : (P : Linked) (f : Line → Bool) (a : ℕ) (l : Line) → slice_get P.lines a ≡ Some l → is_so P f a ≡ f l
at_so P f a l e = ap (holds_for f) e

module _ (P : Linked) where
  -- the ends of a step
  pub leads_ends : (a b : ℕ) → leads P.fields P.lines a b ≡ true → (a < count P) × (b < count P)
  leads_ends a b e = by_case (slice_get P.lines a) (slice_get P.lines b) refl refl e
    where
      by_case : (x y : Option Line) → slice_get P.lines a ≡ x → slice_get P.lines b ≡ y → leads_by (P.fields + a) x y ≡ true → (a < count P) × (b < count P)
      by_case None y p q h = absurd (cc)
      by_case (Some l) None p q h = absurd (cc)
      by_case (Some l) (Some m) p q h = (at_within P.lines a l p, at_within P.lines b m q)

  pub leads_at : (a b : ℕ) (l m : Line) → slice_get P.lines a ≡ Some l → slice_get P.lines b ≡ Some m → leads P.fields P.lines a b ≡ (uses (P.fields + a) (operands_of m) || are_flanks l m)
  leads_at a b l m p q = ap (λ x. leads_by (P.fields + a) x (slice_get P.lines b)) p ∙ ap (λ y. leads_by (P.fields + a) (Some l) y) q

  pub user_leads : (a b : ℕ) (l m : Line) → slice_get P.lines a ≡ Some l → slice_get P.lines b ≡ Some m → IsIn (Value (P.fields + a)) (operands_of m) → leads P.fields P.lines a b ≡ true
  user_leads a b l m p q i = leads_at a b l m p q ∙ or_left (uses (P.fields + a) (operands_of m)) (are_flanks l m) (in_uses (P.fields + a) (operands_of m) i)

  pub flanks_lead : (a b : ℕ) (l m : Line) → slice_get P.lines a ≡ Some l → slice_get P.lines b ≡ Some m → are_flanks l m ≡ true → leads P.fields P.lines a b ≡ true
  flanks_lead a b l m p q e = leads_at a b l m p q ∙ or_right (uses (P.fields + a) (operands_of m)) (are_flanks l m) e

  pub in_class : (a b : ℕ) → b < count P → together P a b ≡ true → IsIn b (class_of P a)
  in_class a b bn e = in_filter (together P a) (numbers P) b (in_range 0 (count P) b (omega arith) (omega arith)) e

  pub class_in : (a b : ℕ) → IsIn b (class_of P a) → (b < count P) × (together P a b ≡ true)
  class_in a b i =
      let r = filter_in (together P a) (numbers P) b i in
      let h = (range_in 0 (count P) b r.0).1 in
      (omega arith, r.1)

  pub twin_or : (a : ℕ) (later : List ℕ) (j : ℕ) → IsIn j (with_twin P a later) → ((j ≡ a) × (is_inner P a ≡ true)) ⊎ IsIn j later
  twin_or a later j i = by_case (is_inner P a) refl _ i
    where
      by_case : (x : Bool) → is_inner P a ≡ x → (y : Bool) → IsIn j (if x && y then a ∷ later else later) → ((j ≡ a) × (is_inner P a ≡ true)) ⊎ IsIn j later
      by_case true e true (inl is) = inl (is, e)
      by_case true e true (inr h) = inr h
      by_case true e false h = inr h
      by_case false e y h = inr h

  pub twins_from : (xs : List ℕ) (j : ℕ) → IsIn j (twins_in P xs) → IsIn j xs × (is_inner P j ≡ true)
  twins_from [] j i = absurd i
  twins_from (a ∷ xs) j i = by_case (twin_or a (twins_in P xs) j i) (twins_from xs j)
    where
      by_case : ((j ≡ a) × (is_inner P a ≡ true)) ⊎ IsIn j (twins_in P xs) → (IsIn j (twins_in P xs) → IsIn j xs × (is_inner P j ≡ true)) → IsIn j (a ∷ xs) × (is_inner P j ≡ true)
      by_case (inl r) rest = (inl r.0, ap (is_inner P) r.0 ∙ r.1)
      by_case (inr h) rest = let r = rest h in (inr r.0, r.1)

  -- only inner values have twins
  pub twin_inner : (j : ℕ) → IsIn j (twins_of P) → (j < count P) × (is_inner P j ≡ true)
  twin_inner j i =
      let r = twins_from (numbers P) j i in
      let h = (range_in 0 (count P) j r.0).1 in
      (omega arith, r.1)

  -- a codelet is a class or a twin
  pub data Shape : List ℕ → Type 0 where
    Class : {c : List ℕ} (a : ℕ) → c ≡ class_of P a → a < count P → is_first P a ≡ true → Shape c
    Twin : {c : List ℕ} (j : ℕ) → c ≡ (count P + j) ∷ [] → IsIn j (twins_of P) → Shape c

  pub shape_of : (c : List ℕ) → IsIn c (cut P).all → Shape c
  shape_of c i = by_case (append_in (map (class_of P) (filter (is_first P) (numbers P))) (map (λ a. (count P + a) ∷ []) (twins_of P)) c i)
    where
      by_case : IsIn c (map (class_of P) (filter (is_first P) (numbers P))) ⊎ IsIn c (map (λ a. (count P + a) ∷ []) (twins_of P)) → Shape c
      by_case (inl h) =
          let r = map_in (class_of P) (filter (is_first P) (numbers P)) c h in
          let s = filter_in (is_first P) (numbers P) r.0 r.1 in
          let less = (range_in 0 (count P) r.0 s.0).1 in
          Class r.0 r.2 (omega arith) s.1
      by_case (inr h) =
          let r = map_in (λ a. (count P + a) ∷ []) (twins_of P) c h in
          Twin r.0 r.2 r.1

  pub first_codelet : (a : ℕ) → a < count P → is_first P a ≡ true → IsIn (class_of P a) (cut P).all
  first_codelet a an e =
      in_left (map (class_of P) (filter (is_first P) (numbers P))) (map (λ a. (count P + a) ∷ []) (twins_of P)) (class_of P a)
      (in_map (class_of P) (filter (is_first P) (numbers P)) a (in_filter (is_first P) (numbers P) a (in_range 0 (count P) a (omega arith) (omega arith)) e))

  pub twin_codelet : (j : ℕ) → IsIn j (twins_of P) → IsIn ((count P + j) ∷ []) (cut P).all
  twin_codelet j i =
      in_right (map (class_of P) (filter (is_first P) (numbers P))) (map (λ a. (count P + a) ∷ []) (twins_of P)) ((count P + j) ∷ [])
      (in_map (λ a. (count P + a) ∷ []) (twins_of P) j i)

module _ (P : Linked) (ok : IsLinked P) where
  pub reach_self : (a : ℕ) → a < count P → P.reach a a ≡ true
  reach_self a an = ok.reaching.reached a a an an ([], refl)

  pub reach_step : (a b : ℕ) → leads P.fields P.lines a b ≡ true → P.reach a b ≡ true
  reach_step a b e = let r = leads_ends P a b e in ok.reaching.reached a b r.0 r.1 (b ∷ [], (e, refl))

  pub reach_joined : (a b c : ℕ) → a < count P → b < count P → c < count P → P.reach a b ≡ true → P.reach b c ≡ true → P.reach a c ≡ true
  reach_joined a b c an bn cn p q = ok.reaching.reached a c an cn (reach_join (leads P.fields P.lines) a b c (ok.reaching.walked a b an bn p) (ok.reaching.walked b c bn cn q))

  pub together_self : (a : ℕ) → a < count P → together P a a ≡ true
  together_self a an = and_from _ _ (reach_self a an) (reach_self a an)

  pub together_back : (a b : ℕ) → together P a b ≡ true → together P b a ≡ true
  together_back a b e = let r = and_parts (P.reach a b) (P.reach b a) e in and_from _ _ r.1 r.0

  pub together_joined : (a b c : ℕ) → a < count P → b < count P → c < count P → together P a b ≡ true → together P b c ≡ true → together P a c ≡ true
  together_joined a b c an bn cn e f =
      let r = and_parts (P.reach a b) (P.reach b a) e in
      let s = and_parts (P.reach b c) (P.reach c b) f in
      and_from _ _ (reach_joined a b c an bn cn r.0 s.0) (reach_joined c b a cn bn an s.1 r.1)

  -- a later statement, unless a flank leads to its array's other flank
  pub leads_later : (a b : ℕ) → leads P.fields P.lines a b ≡ true → is_so P is_flank a ≡ false → a < b
  leads_later a b e plain =
      let ends = leads_ends P a b e in
      let l = within_at P.lines a ends.0 in
      let m = within_at P.lines b ends.1 in
      let free : are_flanks l.0 m.0 ≡ false = unflanked l.0 m.0 (sym (at_so P is_flank a l.0 l.1) ∙ plain) in
      let some : (uses (P.fields + a) (operands_of m.0) || are_flanks l.0 m.0) ≡ true = sym (leads_at P a b l.0 m.0 l.1 m.1) ∙ e in
      let used : uses (P.fields + a) (operands_of m.0) ≡ true = elim (or_cases (uses (P.fields + a) (operands_of m.0)) (are_flanks l.0 m.0) some) [ inl h ↦ h | inr h ↦ absurd (cc (h, free)) ] in
      let low = used_before P ok b (P.fields + a) m.0 m.1 (uses_in (P.fields + a) (operands_of m.0) used) in
      omega arith

  -- each class has a least statement
  first_by : (m a : ℕ) → a < m → a < count P → (x : ℕ) × (x < count P) × (is_first P x ≡ true) × (together P x a ≡ true)
  first_by zero a am an = absurd (omega arith)
  first_by (suc m) a am an = by_case (list_any (λ b. nat_lt b a && together P a b) (numbers P)) refl (λ b bm bn. first_by m b bm bn)
    where
      by_case : (t : Bool) → list_any (λ b. nat_lt b a && together P a b) (numbers P) ≡ t → ((b : ℕ) → b < m → b < count P → (x : ℕ) × (x < count P) × (is_first P x ≡ true) × (together P x b ≡ true))
          → (x : ℕ) × (x < count P) × (is_first P x ≡ true) × (together P x a ≡ true)
      by_case false e rest = (a, an, ap not e, together_self a an)
      by_case true e rest =
          let r = in_any (λ b. nat_lt b a && together P a b) (numbers P) e in
          let s = and_parts (nat_lt r.0 a) (together P a r.0) r.2 in
          let bn : r.0 < count P = let h = (range_in 0 (count P) r.0 r.1).1 in omega arith in
          let lt : r.0 < m = let h = ltb-true r.0 a s.0 in omega arith in
          let f = rest r.0 lt bn in
          (f.0, f.1, f.2, together_joined f.0 r.0 a f.1 bn an f.3 (together_back a r.0 s.1))

  -- each statement is in a codelet, with all of its class
  pub codelet_with : (b : ℕ) → b < count P → (a : ℕ) × (a < count P) × (is_first P a ≡ true) × (together P a b ≡ true)
  codelet_with b bn = first_by (suc b) b (omega arith) bn

  pub first_same : (a b : ℕ) → a < count P → b < count P → is_first P a ≡ true → is_first P b ≡ true → together P a b ≡ true → a ≤ b
  first_same a b an bn e f t = by_case (cases_lt b a)
    where
      by_case : (b < a) ⊎ (a ≤ b) → a ≤ b
      by_case (inr h) = h
      by_case (inl h) =
          let none : list_any (λ x. nat_lt x a && together P a x) (numbers P) ≡ false = not-true _ e in
          let some : list_any (λ x. nat_lt x a && together P a x) (numbers P) ≡ true =
          any_in (λ x. nat_lt x a && together P a x) (numbers P) b (in_range 0 (count P) b (omega arith) (omega arith)) (and_from _ _ (lt-ltb b a h) t) in
          absurd (cc (none, some))

  -- a number is in one codelet alone
  pub one_codelet : (c d : List ℕ) (b : ℕ) → IsIn c (cut P).all → IsIn d (cut P).all → IsIn b c → IsIn b d → c ≡ d
  one_codelet c d b ci di bc bd = by_case (shape_of P c ci) (shape_of P d di)
    where
      by_case : Shape P c → Shape P d → c ≡ d
      by_case (Class x e xn fx) (Class y f yn fy) =
          let p = class_in P x b (subst (λ (z : List ℕ). IsIn b z) e bc) in
          let q = class_in P y b (subst (λ (z : List ℕ). IsIn b z) f bd) in
          let t = together_joined x b y xn p.0 yn p.1 (together_back y b q.1) in
          let le = first_same x y xn yn fx fy t in
          let ge = first_same y x yn xn fy fx (together_back x y t) in
          let is : x ≡ y = omega arith in
          e ∙ ap (class_of P) is ∙ sym f
      by_case (Class x e xn fx) (Twin j f ji) =
          let p = class_in P x b (subst (λ (z : List ℕ). IsIn b z) e bc) in
          let q : IsIn b ((count P + j) ∷ []) = subst (λ (z : List ℕ). IsIn b z) f bd in
          elim q [ inl is ↦ absurd (let less = p.0 in omega arith) | inr h ↦ absurd h ]
      by_case (Twin i e ii) (Class y f yn fy) =
          let q = class_in P y b (subst (λ (z : List ℕ). IsIn b z) f bd) in
          let p : IsIn b ((count P + i) ∷ []) = subst (λ (z : List ℕ). IsIn b z) e bc in
          elim p [ inl is ↦ absurd (let less = q.0 in omega arith) | inr h ↦ absurd h ]
      by_case (Twin i e ii) (Twin j f ji) =
          let p : IsIn b ((count P + i) ∷ []) = subst (λ (z : List ℕ). IsIn b z) e bc in
          let q : IsIn b ((count P + j) ∷ []) = subst (λ (z : List ℕ). IsIn b z) f bd in
          elim p [ inl is ↦ elim q [ inl it ↦ e ∙ ap (λ (z : ℕ). z ∷ []) (sym is ∙ it) ∙ sym f | inr h ↦ absurd h ] | inr h ↦ absurd h ]

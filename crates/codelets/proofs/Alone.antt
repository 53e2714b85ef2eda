-- A class without a flank is one statement.
use Rattle.std.proofs.Common.{◌≡◌, ℕ, zero, suc, ◌+◌, ◌<◌, ◌≤◌, Bool, true, false, not, cond, List, [], ◌∷◌, refl, sym, ap, ◌∙◌, subst, arith, ◌⊎◌, inl, inr, ◌≢◌}
use Rattle.std.specs.List.{list_any, filter, range_with_len}
use Rattle.std.proofs.lemmas.Bool.{and_parts, and_from, not-true, cases_eq}
use Rattle.dom_flat.specs.declared.line.Operand.{Operand}
use Rattle.dom_flat.specs.declared.line.Line.{Line}
use Rattle.dom_flat.specs.declared.line.Line.TheVariants as line
use Rattle.dom_flat.specs.Lines.{is_flank, with_operands}
use Rattle.dep_graph.specs.Leads.{leads}
use Rattle.dep_graph.specs.Walk.{IsWalk, Reaches}
use Rattle.dep_graph.proofs.Warshall.{reach_join}
use Rattle.codelets.specs.Lists.{IsIn}
use Rattle.codelets.specs.Linked.{Linked, IsLinked, class_of, count, is_so, is_stateful, together, twins_of}
use Rattle.codelets.specs.Cut.{cut, has_flank, option_line, outer, seen_by}
use Rattle.codelets.specs.Laws.{IsSingle}
use Rattle.codelets.proofs.Lists.{none_in, in_none, in_has, within_at}
use Rattle.codelets.proofs.Classes.{Shape, Class, Twin, shape_of, in_class, class_in, leads_ends, leads_later, at_so, together_self, together_back, together_joined, twin_inner}
use Rattle.codelets.proofs.Twins.{line_low, line_high}

module _ (P : Linked) (ok : IsLinked P) where
  abbrev steps : ℕ → ℕ → Bool
  steps = leads P.fields P.lines

  walk_within : (rest : List ℕ) (a b : ℕ) → a < count P → IsWalk steps a rest b → b < count P
  walk_within [] a b an w = omega (arith, w)
  walk_within (c ∷ rest) a b an w = walk_within rest c b (leads_ends P a c w.0).1 w.1

  abbrev one_step : (a c : ℕ) → steps a c ≡ true → Reaches steps a c
  one_step a c e = (c ∷ [], (e, refl))

  rises : (rest : List ℕ) (a b : ℕ) → IsWalk steps a rest b → Reaches steps b a → ((d : ℕ) → Reaches steps a d → Reaches steps d a → is_so P is_flank d ≡ false) → a ≤ b
  rises [] a b w back plain = omega (arith, w)
  rises (c ∷ rest) a b w back plain =
      let step : Reaches steps a c = one_step a c w.0 in
      let home : Reaches steps c a = reach_join steps c b a (rest, w.1) back in
      let lt : a < c = leads_later P ok a c w.0 (plain a ([], refl) ([], refl)) in
      let le : c ≤ b = rises rest c b w.1 (reach_join steps b a c back step) (λ d cd dc. plain d (reach_join steps a c d step cd) (reach_join steps d c a dc home)) in
      omega arith

  -- where no statement of a's class is a flank, it has one statement
  alone : (a b : ℕ) → a < count P → b < count P → list_any (is_so P is_flank) (class_of P a) ≡ false → together P a b ≡ true → a ≤ b
  alone a b an bn none t =
      let r = and_parts (P.reach a b) (P.reach b a) t in
      let there : Reaches steps a b = ok.reaching.walked a b an bn r.0 in
      let back : Reaches steps b a = ok.reaching.walked b a bn an r.1 in
      rises there.0 a b there.1 back (λ d ad da.
      let dn : d < count P = walk_within ad.0 a d an ad.1 in
      let with_d : together P a d ≡ true = and_from _ _ (ok.reaching.reached a d an dn ad) (ok.reaching.reached d a dn an da) in
      none_in (is_so P is_flank) (class_of P a) d none (in_class P a d dn with_d))

  none_of_class : (a b : ℕ) → a < count P → b < count P → list_any (is_so P is_flank) (class_of P a) ≡ false → together P a b ≡ true → list_any (is_so P is_flank) (class_of P b) ≡ false
  none_of_class a b an bn none t =
      in_none (is_so P is_flank) (class_of P b) (λ x i.
      let s = class_in P b x i in
      none_in (is_so P is_flank) (class_of P a) x none (in_class P a x s.0 (together_joined P ok a b x an bn s.0 t s.1)))

one_only : (t : ℕ → Bool) (k n a : ℕ) → k ≤ a → a < k + n → t a ≡ true → ((b : ℕ) → k ≤ b → b < k + n → t b ≡ true → b ≡ a) → filter t (range_with_len k n) ≡ a ∷ []
one_only t k zero a ka an e each = absurd (omega arith)
one_only t k (suc n) a ka an e each = by_case (cases_eq a k) (t k) refl (λ up. one_only t (k + 1) n a up (omega arith) e (λ b kb bn h. each b (omega arith) (omega arith) h))
  where
    nothing : (j m : ℕ) → k < j → j + m ≡ k + suc n → a ≡ k → filter t (range_with_len j m) ≡ []
    nothing j zero kj jm is = refl
    nothing j (suc m) kj jm is = none (t j) refl (nothing (j + 1) m (omega arith) (omega arith) is)
      where
        none : (x : Bool) → t j ≡ x → filter t (range_with_len (j + 1) m) ≡ [] → cond x (j ∷ filter t (range_with_len (j + 1) m)) (filter t (range_with_len (j + 1) m)) ≡ []
        none false h rest = rest
        none true h rest = absurd (let q = each j (omega arith) (omega arith) h in omega arith)

    by_case : (a ≡ k) ⊎ (a ≢ k) → (x : Bool) → t k ≡ x → (k + 1 ≤ a → filter t (range_with_len (k + 1) n) ≡ a ∷ []) → cond x (k ∷ filter t (range_with_len (k + 1) n)) (filter t (range_with_len (k + 1) n)) ≡ a ∷ []
    by_case (inl is) true h rest = let tail : filter t (range_with_len (k + 1) n) ≡ [] = nothing (k + 1) n (omega arith) (omega arith) is in cc (is, tail)
    by_case (inl is) false h rest = absurd (let same : t a ≡ t k = ap t is in cc)
    by_case (inr ne) true h rest = absurd (let q = each k (omega arith) (omega arith) h in omega arith)
    by_case (inr ne) false h rest = rest (omega arith)

pub flank_with : (f : Operand → Operand) (l : Line) → is_flank (with_operands f l) ≡ is_flank l
flank_with f (line.Fetch a i) = refl
flank_with f (line.Store a i v) = refl
flank_with f (line.Un op a) = refl
flank_with f (line.Bin op a b) = refl
flank_with f (line.Cond c a b) = refl
flank_with f (line.Hash unit modulus args) = refl

module _ (P : Linked) (ok : IsLinked P) where
  pub class_single : (a : ℕ) → a < count P → list_any (is_so P is_flank) (class_of P a) ≡ false → class_of P a ≡ a ∷ []
  class_single a an none =
      one_only (together P a) 0 (count P) a (omega arith) (omega arith) (together_self P ok a an) (λ b kb upto t.
      let bn : b < count P = omega arith in
      let le : a ≤ b = alone P ok a b an bn none t in
      let ge : b ≤ a = alone P ok b a bn an (none_of_class P ok a b an bn none t) (together_back P ok a b t) in
      omega arith)

  -- each Stateless codelet has exactly one number, whose statement is no flank
  pub stateless_single : (c : List ℕ) → IsIn c (cut P).all → has_flank (cut P) c ≡ false → IsSingle P c
  stateless_single c i none = by_case (shape_of P c i)
    where
      by_case : Shape P c → IsSingle P c
      by_case (Class a is an first) =
          let none' : list_any (is_so P is_flank) (class_of P a) ≡ false = subst (λ (d : List ℕ). list_any (is_so P is_flank) d ≡ false) is none in
          let l = within_at P.lines a an in
          record {
            number = a;
            only = is ∙ class_single a an none';
            its = with_operands (seen_by (cut P) a) l.0;
            there = line_low (cut P) a an ∙ ap (option_line (with_operands (seen_by (cut P) a))) l.1;
            plain = flank_with (seen_by (cut P) a) l.0 ∙ sym (at_so P is_flank a l.0 l.1) ∙ none_in (is_so P is_flank) (class_of P a) a none' (in_class P a a an (together_self P ok a an));
          }
      by_case (Twin j is ji) =
          let t = twin_inner P j ji in
          let l = within_at P.lines j t.0 in
          let parts = and_parts (is_stateful P j) _ t.1 in
          let unflanked : is_so P is_flank j ≡ false = not-true _ (and_parts (not (is_so P is_flank j)) _ parts.1).0 in
          record {
            number = count P + j;
            only = is;
            its = with_operands (outer (cut P)) l.0;
            there = line_high (cut P) j (in_has (twins_of P) j ji) ∙ ap (option_line (with_operands (outer (cut P)))) l.1;
            plain = flank_with (outer (cut P)) l.0 ∙ sym (at_so P is_flank j l.0 l.1) ∙ unflanked;
          }

-- A text is one thing as a plan.
use Rattle.std.proofs.Common.{◌≡◌, ◌≢◌, ℕ, ◌+◌, ◌⊎◌, inl, inr, List, [], ◌∷◌, ◌++◌, length, map, Result, Ok, Err, refl, sym, ap, ◌∙◌, subst, arith, append_assoc}
use Rattle.std.proofs.lemmas.List.{append-nil}
use Rattle.codelets.specs.declared.codelet.Codelet.{Codelet}
use Rattle.codelets.specs.declared.codelet.Kind.{Kind}
use Rattle.stage_plan.specs.declared.place.Place.{Place}
use Rattle.plan_check.specs.PlanText.{IsHandPlan, IsPlanAnswer, IsStageOf, IsWrong, plan_line, plan_text}
use Rattle.plan_check.proofs.Lines.{one_line}

-- nothing is left, or what is left is wrong
abbrev IsEnd : ℕ → List Codelet → List ℕ → Type 0
IsEnd depth after rest = ((after ≡ []) × (rest ≡ [])) ⊎ IsWrong depth after rest

record IsSame (before other after later : List Codelet) (places stands : List Place) (rest left : List ℕ) : Type 0 where
  codelets : before ≡ other
  behind : after ≡ later
  plan : places ≡ stands
  over : rest ≡ left

tail_plan : (depth : ℕ) (c : Codelet) (cs : List Codelet) (p : Place) (places : List Place) → IsHandPlan depth (c ∷ cs) (p ∷ places) → IsHandPlan depth cs places
tail_plan depth c cs p places h = record { word = h.word; kinds = (let e = h.kinds in cc); stages = h.stages.1 }

-- a right line is not wrong
no_end : (depth : ℕ) (c : Codelet) (cs : List Codelet) (p : Place) (rest more : List ℕ) → IsEnd depth (c ∷ cs) rest → IsStageOf depth p → rest ≢ plan_line c.first p.stage ++ more
no_end depth c cs p rest more (inl e) h is = let none : c ∷ cs ≡ [] = e.0 in absurd (cc)
no_end depth c cs p rest more (inr wrong) h is = wrong p.stage more h.0 h.1 is

same_place : (p q : Place) → p.kind ≡ q.kind → p.stage ≡ q.stage → p ≡ q
same_place p q k s = ap (λ (z : Kind). record { kind = z; stage = p.stage }) k ∙ ap (λ (z : ℕ). record { kind = q.kind; stage = z }) s

module _ (depth : ℕ) where
  same : (before other after later : List Codelet) (places stands : List Place) (rest left : List ℕ) → before ++ after ≡ other ++ later → plan_text before places ++ rest ≡ plan_text other stands ++ left
      → IsHandPlan depth before places → IsHandPlan depth other stands → IsEnd depth after rest → IsEnd depth later left → IsSame before other after later places stands rest left
  same [] [] after later [] [] rest left e t h g x y = record { codelets = refl; behind = e; plan = refl; over = t }
  same [] [] after later (p ∷ places) stands rest left e t h g x y = absurd (let k = h.kinds in cc)
  same [] [] after later [] (q ∷ stands) rest left e t h g x y = absurd (let k = g.kinds in cc)
  same [] (d ∷ other) after later places [] rest left e t h g x y = absurd (let k = g.kinds in cc)
  same [] (d ∷ other) after later (p ∷ places) (q ∷ stands) rest left e t h g x y = absurd (let k = h.kinds in cc)
  same [] (d ∷ other) after later [] (q ∷ stands) rest left e t h g x y =
      absurd (no_end depth d (other ++ later) q rest (plan_text other stands ++ left) (subst (λ (l : List Codelet). IsEnd depth l rest) e x) g.stages.0 (t ∙ append_assoc (plan_line d.first q.stage) (plan_text other stands) left))
  same (c ∷ before) [] after later [] stands rest left e t h g x y = absurd (let k = h.kinds in cc)
  same (c ∷ before) [] after later (p ∷ places) (q ∷ stands) rest left e t h g x y = absurd (let k = g.kinds in cc)
  same (c ∷ before) [] after later (p ∷ places) [] rest left e t h g x y =
      absurd (no_end depth c (before ++ after) p left (plan_text before places ++ rest) (subst (λ (l : List Codelet). IsEnd depth l left) (sym e) y) h.stages.0 (sym t ∙ append_assoc (plan_line c.first p.stage) (plan_text before places) rest))
  same (c ∷ before) (d ∷ other) after later [] stands rest left e t h g x y = absurd (let k = h.kinds in cc)
  same (c ∷ before) (d ∷ other) after later (p ∷ places) [] rest left e t h g x y = absurd (let k = g.kinds in cc)
  same (c ∷ before) (d ∷ other) after later (p ∷ places) (q ∷ stands) rest left e t h g x y =
      let first : c ≡ d = cc in
      let tails : before ++ after ≡ other ++ later = cc in
      let range = h.stages.0 in
      let other_range = g.stages.0 in
      let word = h.word in
      let line = one_line c.first p.stage q.stage (plan_text before places ++ rest) (plan_text other stands ++ left) (omega arith) (omega arith) (
      sym (append_assoc (plan_line c.first p.stage) (plan_text before places) rest) ∙ t ∙ append_assoc (plan_line d.first q.stage) (plan_text other stands) left
      ∙ ap (λ (z : Codelet). plan_line z.first q.stage ++ (plan_text other stands ++ left)) (sym first)) in
      let more = same before other after later places stands rest left tails line.1 (tail_plan depth c before p places h) (tail_plan depth d other q stands g) x y in
      let kinds : p.kind ≡ q.kind = head_kind p places c before h.kinds ∙ ap (λ (z : Codelet). z.kind) first ∙ sym (head_kind q stands d other g.kinds) in
      record {
        codelets = ap (λ (z : Codelet). z ∷ before) first ∙ ap (λ (l : List Codelet). d ∷ l) more.codelets;
        behind = more.behind;
        plan = ap (λ (z : Place). z ∷ places) (same_place p q kinds line.0) ∙ ap (λ (l : List Place). q ∷ l) more.plan;
        over = more.over;
      }
    where
      head_kind : (p : Place) (places : List Place) (c : Codelet) (cs : List Codelet) → map (λ (p : Place). p.kind) (p ∷ places) ≡ map (λ (c : Codelet). c.kind) (c ∷ cs) → p.kind ≡ c.kind
      head_kind p places c cs k = cc

pub one_plan : (depth : ℕ) (cs : List Codelet) (text : List ℕ) (a b : Result (List Place) ℕ) → IsPlanAnswer depth cs text a → IsPlanAnswer depth cs text b → a ≡ b
one_plan depth cs text (Ok places) (Ok stands) x y =
    let is = same depth cs cs [] [] places stands [] [] refl (ap (λ (l : List ℕ). l ++ []) (sym x.lines ∙ y.lines)) x.plan y.plan (inl (refl, refl)) (inl (refl, refl)) in
    ap Ok is.plan
one_plan depth cs text (Ok places) (Err n) x y =
    let is = same depth cs y.before [] y.after places y.places [] y.rest (append-nil cs ∙ y.codelets) (append-nil (plan_text cs places) ∙ sym x.lines ∙ y.text_is) x.plan y.plan (inl (refl, refl)) (inr y.wrong) in
    absurd (subst (λ (l : List Codelet). IsWrong depth l y.rest) (sym is.behind) y.wrong (sym is.over))
one_plan depth cs text (Err n) (Ok stands) x y =
    let is = same depth x.before cs x.after [] x.places stands x.rest [] (sym x.codelets ∙ sym (append-nil cs)) (sym x.text_is ∙ y.lines ∙ sym (append-nil (plan_text cs stands))) x.plan y.plan (inr x.wrong) (inl (refl, refl)) in
    absurd (subst (λ (l : List Codelet). IsWrong depth l x.rest) is.behind x.wrong is.over)
one_plan depth cs text (Err n) (Err m) x y =
    let is = same depth x.before y.before x.after y.after x.places y.places x.rest y.rest (sym x.codelets ∙ y.codelets) (sym x.text_is ∙ y.text_is) x.plan y.plan (inr x.wrong) (inr y.wrong) in
    ap Err (x.number ∙ ap (λ (l : List Codelet). length l + 1) is.codelets ∙ sym y.number)

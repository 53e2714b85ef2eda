-- From line to line of the text of a plan.
use Rattle.std.proofs.Common.{◌≡◌, ◌≢◌, Bool, false, ◌==◌, get_or, ℕ, zero, suc, ◌+◌, ◌≤◌, ◌<◌, ◌^◌, List, [], ◌∷◌, ◌++◌, length, map, take, drop, slice_get, Some, refl, sym, ap, ◌∙◌, subst, arith, append_assoc, length-append}
use Rattle.std.specs.List.{AllByRecursion}
use Rattle.std.proofs.lemmas.Bool.{eq-eqb}
use Rattle.std.proofs.lemmas.Option.{slice_get-get_or}
use Rattle.std.proofs.lemmas.List.{append-nil, take-append-drop}
use Rattle.codelets.specs.declared.codelet.Codelet.{Codelet}
use Rattle.codelets.specs.declared.codelet.Kind.{Kind}
use Rattle.stage_plan.specs.declared.place.Place.{Place}
use Rattle.plan_check.specs.PlanText.{IsBadLine, IsHandPlan, IsPlanText, IsStageOf, IsWrong, plan_line, plan_text}
use Rattle.plan_check.specs.Reader.{NumberRest, line_from}
use Rattle.plan_check.proofs.Lines.{line_says}

-- the lines of the first k codelets are right, and the rest is left
pub record IsReadTo (depth : ℕ) (cs : List Codelet) (text : List ℕ) (k : ℕ) (places : List Place) (rest : List ℕ) : Type 0 where
  pub count : length places ≡ k
  pub plan : IsHandPlan depth (take k cs) places
  pub text_is : text ≡ plan_text (take k cs) places ++ rest

-- Lists with one more at the end.

text_more : (cs : List Codelet) (places : List Place) (c : Codelet) (p : Place) → length places ≡ length cs → plan_text (cs ++ c ∷ []) (places ++ p ∷ []) ≡ plan_text cs places ++ plan_line c.first p.stage
text_more [] [] c p e = append-nil (plan_line c.first p.stage)
text_more [] (q ∷ places) c p e = absurd (cc)
text_more (d ∷ cs) [] c p e = absurd (cc)
text_more (d ∷ cs) (q ∷ places) c p e =
    let same : length places ≡ length cs = cc in
    ap (λ (l : List ℕ). plan_line d.first q.stage ++ l) (text_more cs places c p same)
    ∙ sym (append_assoc (plan_line d.first q.stage) (plan_text cs places) (plan_line c.first p.stage))

kinds_more : (cs : List Codelet) (places : List Place) (c : Codelet) (p : Place) → map (λ (p : Place). p.kind) places ≡ map (λ (c : Codelet). c.kind) cs → p.kind ≡ c.kind
    → map (λ (p : Place). p.kind) (places ++ p ∷ []) ≡ map (λ (c : Codelet). c.kind) (cs ++ c ∷ [])
kinds_more [] [] c p e f = ap (λ (k : Kind). k ∷ []) f
kinds_more [] (q ∷ places) c p e f = absurd (cc)
kinds_more (d ∷ cs) [] c p e f = absurd (cc)
kinds_more (d ∷ cs) (q ∷ places) c p e f =
    let head : q.kind ≡ d.kind = cc in
    let tail : map (λ (p : Place). p.kind) places ≡ map (λ (c : Codelet). c.kind) cs = cc in
    ap (λ (k : Kind). k ∷ map (λ (p : Place). p.kind) (places ++ p ∷ [])) head ∙ ap (λ (ks : List Kind). d.kind ∷ ks) (kinds_more cs places c p tail f)

stages_more : (depth : ℕ) (places : List Place) (p : Place) → AllByRecursion (IsStageOf depth) places → IsStageOf depth p → AllByRecursion (IsStageOf depth) (places ++ p ∷ [])
stages_more depth [] p a h = (h, tt)
stages_more depth (q ∷ places) p a h = (a.0, stages_more depth places p a.1 h)

pub take_one : (cs : List Codelet) (k : ℕ) (c : Codelet) → slice_get cs k ≡ Some c → take (suc k) cs ≡ take k cs ++ c ∷ []
take_one [] k c e = absurd (cc)
take_one (d ∷ cs) zero c e = let is : d ≡ c = cc in ap (λ (x : Codelet). x ∷ []) is
take_one (d ∷ cs) (suc k) c e = ap (λ (l : List Codelet). d ∷ l) (take_one cs k c e)

drop_one : (cs : List Codelet) (k : ℕ) (c : Codelet) → slice_get cs k ≡ Some c → drop k cs ≡ c ∷ drop (suc k) cs
drop_one [] k c e = absurd (cc)
drop_one (d ∷ cs) zero c e = let is : d ≡ c = cc in ap (λ (x : Codelet). x ∷ cs) is
drop_one (d ∷ cs) (suc k) c e = drop_one cs k c e

length_kinds : (cs : List Codelet) (places : List Place) → map (λ (p : Place). p.kind) places ≡ map (λ (c : Codelet). c.kind) cs → length places ≡ length cs
length_kinds [] [] e = refl
length_kinds [] (q ∷ places) e = absurd (cc)
length_kinds (d ∷ cs) [] e = absurd (cc)
length_kinds (d ∷ cs) (q ∷ places) e = let tail : map (λ (p : Place). p.kind) places ≡ map (λ (c : Codelet). c.kind) cs = cc in ap suc (length_kinds cs places tail)

module _ (depth : ℕ) (cs : List Codelet) (text : List ℕ) where
  pub at_first : depth < 2 ^ 32 → IsReadTo depth cs text 0 [] text
  at_first small = record { count = refl; plan = record { word = small; kinds = refl; stages = tt }; text_is = refl }

  pub one_more : (k : ℕ) (places : List Place) (rest : List ℕ) (c : Codelet) (r : NumberRest) → slice_get cs k ≡ Some c → IsReadTo depth cs text k places rest → line_from c.first depth rest ≡ Some r
      → IsReadTo depth cs text (k + 1) (places ++ record { kind = c.kind; stage = r.value } ∷ []) r.rest
  one_more k places rest c r item so_far line =
      let is = line_says c.first depth rest r line in
      let p : Place = record { kind = c.kind; stage = r.value } in
      let next : k + 1 ≡ suc k = omega arith in
      let front : take (k + 1) cs ≡ take k cs ++ c ∷ [] = ap (λ (n : ℕ). take n cs) next ∙ take_one cs k c item in
      let same = length_kinds (take k cs) places so_far.plan.kinds in
      record {
        count = length-append places (p ∷ []) ∙ ap (λ (n : ℕ). n + 1) so_far.count;
        plan = subst (λ (front : List Codelet). IsHandPlan depth front (places ++ p ∷ [])) (sym front) (record {
          word = so_far.plan.word;
          kinds = kinds_more (take k cs) places c p so_far.plan.kinds refl;
          stages = stages_more depth places p so_far.plan.stages (is.low, is.high);
        });
        text_is =
            so_far.text_is
            ∙ ap (λ (l : List ℕ). plan_text (take k cs) places ++ l) is.text_is
            ∙ sym (append_assoc (plan_text (take k cs) places) (plan_line c.first r.value) r.rest)
            ∙ ap (λ (l : List ℕ). l ++ r.rest) (sym (text_more (take k cs) places c p same))
            ∙ ap (λ (front : List Codelet). plan_text front (places ++ p ∷ []) ++ r.rest) (sym front);
      }

  pub bad_line : (k n : ℕ) (places : List Place) (rest : List ℕ) → IsReadTo depth cs text k places rest → n ≡ length places + 1 → IsWrong depth (drop k cs) rest → IsBadLine depth cs text n
  bad_line k n places rest so_far number wrong = record {
    before = take k cs;
    after = drop k cs;
    places = places;
    rest = rest;
    codelets = sym (take-append-drop k cs);
    plan = so_far.plan;
    text_is = so_far.text_is;
    number = number ∙ ap (λ (m : ℕ). m + 1) (length_kinds (take k cs) places so_far.plan.kinds);
    wrong = wrong;
  }

  pub wrong_at : (k : ℕ) (rest : List ℕ) (c : Codelet) → slice_get cs k ≡ Some c → ((stage : ℕ) (more : List ℕ) → 1 ≤ stage → stage ≤ depth → rest ≢ plan_line c.first stage ++ more) → IsWrong depth (drop k cs) rest
  wrong_at k rest c item no_line = subst (λ (l : List Codelet). IsWrong depth l rest) (sym (drop_one cs k c item)) no_line

  drop_past : (ds : List Codelet) (k : ℕ) → length ds ≤ k → drop k ds ≡ []
  drop_past [] zero h = refl
  drop_past [] (suc k) h = refl
  drop_past (d ∷ ds) zero h = absurd (omega arith)
  drop_past (d ∷ ds) (suc k) h = drop_past ds k (omega arith)

  pub wrong_end : (k : ℕ) (rest : List ℕ) → length cs ≤ k → rest ≢ [] → IsWrong depth (drop k cs) rest
  wrong_end k rest end some = subst (λ (l : List Codelet). IsWrong depth l rest) (sym (drop_past cs k end)) some

  take_past : (ds : List Codelet) (k : ℕ) → length ds ≤ k → take k ds ≡ ds
  take_past [] zero h = refl
  take_past [] (suc k) h = refl
  take_past (d ∷ ds) zero h = absurd (omega arith)
  take_past (d ∷ ds) (suc k) h = ap (λ (l : List Codelet). d ∷ l) (take_past ds k (omega arith))

  pub whole : (k : ℕ) (places : List Place) (rest : List ℕ) → length cs ≤ k → rest ≡ [] → IsReadTo depth cs text k places rest → IsPlanText depth cs text places
  whole k places rest end none so_far =
      let all = take_past cs k end in
      record {
        plan = subst (λ (l : List Codelet). IsHandPlan depth l places) all so_far.plan;
        lines = so_far.text_is ∙ ap (λ (l : List Codelet). plan_text l places ++ rest) all ∙ ap (λ (l : List ℕ). plan_text cs places ++ l) none ∙ append-nil (plan_text cs places);
      }

-- What the code finds.

some_left : (rest : List ℕ) (b : Bool) → b ≡ (length rest == 0) → b ≡ false → rest ≢ []
some_left rest b e f is = let none : length rest ≡ 0 = ap (length {A = ℕ}) is in let yes_ = eq-eqb (length rest) 0 none in absurd (cc)

pub wrong_left : (depth : ℕ) (cs : List Codelet) (text : List ℕ) (k : ℕ) (rest : List ℕ) (b : Bool) → b ≡ (length rest == 0) → b ≡ false → length cs ≤ k → IsWrong depth (drop k cs) rest
wrong_left depth cs text k rest b e f end = wrong_end depth cs text k rest end (some_left rest b e f)

pub item_at : (cs : List Codelet) (at : ℕ) (c : Codelet) → at < length cs → c ≡ get_or cs at c → slice_get cs at ≡ Some c
item_at cs at c h e = slice_get-get_or cs at c h ∙ ap Some (sym e)

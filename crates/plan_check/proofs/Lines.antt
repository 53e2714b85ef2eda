-- The line of a codelet at the front of a text.
use Rattle.std.specs.Prelude.{IfNone}
use Rattle.std.specs.Option.{option_map}
use Rattle.std.proofs.Common.{◌≡◌, ◌≢◌, ℕ, ◌≤◌, ◌<◌, ◌^◌, Bool, true, false, ◌&&◌, nat_eq, nat_le, if◌then◌else◌, List, [], ◌∷◌, ◌++◌, codes, Option, Some, None, refl, sym, ap, ◌∙◌, arith, append_assoc}
use Rattle.std.specs.Fmt.{decimal}
use Rattle.std.proofs.lemmas.List.{append_cancel_left}
use Rattle.std.proofs.lemmas.Bool.{and_parts, and_from, eqb-true, eq-eqb, leb-true, le-leb}
use Rattle.plan_check.specs.PlanText.{plan_line}
use Rattle.plan_check.specs.Reader.{NumberRest, after, line_end, line_from, number_from, on, stage_after}
use Rattle.plan_check.proofs.Numbers.{number_back, number_says}

after_back : (front rest : List ℕ) → after front (front ++ rest) ≡ Some rest
after_back [] rest = refl
after_back (b ∷ front) rest = ap (λ (t : Bool). if t then after front (front ++ rest) else None) (eq-eqb b b refl) ∙ after_back front rest

after_says : (front text rest : List ℕ) → after front text ≡ Some rest → text ≡ front ++ rest
after_says [] text rest e = cc
after_says (b ∷ front) [] rest e = absurd (cc)
after_says (b ∷ front) (c ∷ text) rest e = by_test (after_says front text rest) (nat_eq b c) refl e
  where
    by_test : (after front text ≡ Some rest → text ≡ front ++ rest) → (t : Bool) → nat_eq b c ≡ t → (if t then after front text else None) ≡ Some rest → c ∷ text ≡ b ∷ (front ++ rest)
    by_test more true t e = ap (λ (k : ℕ). k ∷ text) (sym (eqb-true b c t)) ∙ ap (λ (l : List ℕ). b ∷ l) (more e)
    by_test more false t e = absurd (cc)

-- an option that goes on to some value is one
on_says : {A B C : Type 0} (o : Option A) (go : A → Option B) (y : B) → on o go ≡ Some y → ((a : A) → o ≡ Some a → go a ≡ Some y → C) → C
on_says None go y e next = absurd (cc)
on_says (Some a) go y e next = next a refl e

-- what stands behind a line
pub line_text : (first stage : ℕ) (more : List ℕ) → plan_line first stage ++ more ≡ codes "codelet," ++ (decimal first ++ 44 ∷ (decimal stage ++ 10 ∷ more))
line_text first stage more =
    append_assoc (codes "codelet,") (decimal first ++ 44 ∷ (decimal stage ++ 10 ∷ [])) more
    ∙ ap (λ (l : List ℕ). codes "codelet," ++ l) (append_assoc (decimal first) (44 ∷ (decimal stage ++ 10 ∷ [])) more ∙ ap (λ (l : List ℕ). decimal first ++ 44 ∷ l) (append_assoc (decimal stage) (10 ∷ []) more))

module _ (first depth : ℕ) where
  end_back : (stage : ℕ) (more : List ℕ) → 1 ≤ stage → stage ≤ depth → line_end depth (record { value = stage; rest = 10 ∷ more }) ≡ Some (record { value = stage; rest = more })
  end_back stage more low high =
      ap (λ (t : Bool). if t then on (after (10 ∷ []) (10 ∷ more)) (λ rest. Some (record { value = stage; rest = rest })) else None) (and_from _ _ (le-leb 1 stage low) (le-leb stage depth high))

  stage_back : (stage : ℕ) (more : List ℕ) → depth < 2 ^ 32 → 1 ≤ stage → stage ≤ depth → stage_after first depth (record { value = first; rest = 44 ∷ (decimal stage ++ 10 ∷ more) }) ≡ Some (record { value = stage; rest = more })
  stage_back stage more small low high =
      ap (λ (t : Bool). if t then on (number_from (decimal stage ++ 10 ∷ more)) (line_end depth) else None) (eq-eqb first first refl)
      ∙ ap (λ (o : Option NumberRest). on o (line_end depth)) (number_back stage 10 more (omega arith) refl)
      ∙ end_back stage more low high

  pub line_back : (stage : ℕ) (more : List ℕ) → first < 2 ^ 32 → depth < 2 ^ 32 → 1 ≤ stage → stage ≤ depth → line_from first depth (plan_line first stage ++ more) ≡ Some (record { value = stage; rest = more })
  line_back stage more few small low high =
      ap (line_from first depth) (line_text first stage more)
      ∙ ap (λ (o : Option NumberRest). on o (stage_after first depth)) (number_back first 44 (decimal stage ++ 10 ∷ more) few refl)
      ∙ stage_back stage more small low high

  -- a line, and what stands behind it
  pub record IsLine (text : List ℕ) (r : NumberRest) : Type 0 where
    pub text_is : text ≡ plan_line first r.value ++ r.rest
    pub low : 1 ≤ r.value
    pub high : r.value ≤ depth

  end_says : (n r : NumberRest) → line_end depth n ≡ Some r → (n.rest ≡ 10 ∷ r.rest) × (n.value ≡ r.value) × (1 ≤ r.value) × (r.value ≤ depth)
  end_says n r e = by_test (nat_le 1 n.value && nat_le n.value depth) refl e
    where
      by_test : (t : Bool) → (nat_le 1 n.value && nat_le n.value depth) ≡ t → (if t then on (after (10 ∷ []) n.rest) (λ rest. Some (record { value = n.value; rest = rest })) else None) ≡ Some r → (n.rest ≡ 10 ∷ r.rest) × (n.value ≡ r.value) × (1 ≤ r.value) × (r.value ≤ depth)
      by_test true t e = on_says (after (10 ∷ []) n.rest) (λ rest. Some (record { value = n.value; rest = rest })) r e behind
        where
          behind : (rest : List ℕ) → after (10 ∷ []) n.rest ≡ Some rest → Some (record { value = n.value; rest = rest }) ≡ Some r → (n.rest ≡ 10 ∷ r.rest) × (n.value ≡ r.value) × (1 ≤ r.value) × (r.value ≤ depth)
          behind rest a f =
              let is : record { value = n.value; rest = rest } ≡ r = cc in
              let value : n.value ≡ r.value = ap (λ (q : NumberRest). q.value) is in
              let both = and_parts (nat_le 1 n.value) (nat_le n.value depth) t in
              let low = leb-true 1 n.value both.0 in
              let high = leb-true n.value depth both.1 in
              (after_says (10 ∷ []) n.rest rest a ∙ ap (λ (q : NumberRest). 10 ∷ q.rest) is, value, omega arith, omega arith)
      by_test false t e = absurd (cc)

  stage_says : (n r : NumberRest) → stage_after first depth n ≡ Some r → (n.value ≡ first) × (n.rest ≡ 44 ∷ (decimal r.value ++ 10 ∷ r.rest)) × (1 ≤ r.value) × (r.value ≤ depth)
  stage_says n r e = by_test (nat_eq n.value first) refl e
    where
      by_test : (t : Bool) → nat_eq n.value first ≡ t → (if t then on (after (44 ∷ []) n.rest) (λ text. on (number_from text) (line_end depth)) else None) ≡ Some r → (n.value ≡ first) × (n.rest ≡ 44 ∷ (decimal r.value ++ 10 ∷ r.rest)) × (1 ≤ r.value) × (r.value ≤ depth)
      by_test true t e =
          on_says (after (44 ∷ []) n.rest) (λ text. on (number_from text) (line_end depth)) r e
          (λ text a f. on_says (number_from text) (line_end depth) r f (λ m b g. whole text m a b g))
        where
          whole : (text : List ℕ) (m : NumberRest) → after (44 ∷ []) n.rest ≡ Some text → number_from text ≡ Some m → line_end depth m ≡ Some r → (n.value ≡ first) × (n.rest ≡ 44 ∷ (decimal r.value ++ 10 ∷ r.rest)) × (1 ≤ r.value) × (r.value ≤ depth)
          whole text m a b g =
              let says = end_says m r g in
              let text_is : text ≡ decimal r.value ++ 10 ∷ r.rest =
              number_says text m b ∙ ap (λ (l : List ℕ). decimal m.value ++ l) says.0 ∙ ap (λ (k : ℕ). decimal k ++ 10 ∷ r.rest) says.1 in
              (eqb-true n.value first t, after_says (44 ∷ []) n.rest text a ∙ ap (λ (l : List ℕ). 44 ∷ l) text_is, says.2, says.3)
      by_test false t e = absurd (cc)

  pub line_says : (text : List ℕ) (r : NumberRest) → line_from first depth text ≡ Some r → IsLine text r
  line_says text r e =
      on_says (after (codes "codelet,") text) (λ text. on (number_from text) (stage_after first depth)) r e
      (λ behind a f. on_says (number_from behind) (stage_after first depth) r f (λ n b g. whole behind n a b g))
    where
      whole : (behind : List ℕ) (n : NumberRest) → after (codes "codelet,") text ≡ Some behind → number_from behind ≡ Some n → stage_after first depth n ≡ Some r → IsLine text r
      whole behind n a b g =
          let says = stage_says n r g in
          let behind_is : behind ≡ decimal first ++ 44 ∷ (decimal r.value ++ 10 ∷ r.rest) =
          number_says behind n b ∙ ap (λ (l : List ℕ). decimal n.value ++ l) says.1 ∙ ap (λ (k : ℕ). decimal k ++ 44 ∷ (decimal r.value ++ 10 ∷ r.rest)) says.0 in
          record {
            text_is = after_says (codes "codelet,") text behind a ∙ ap (λ (l : List ℕ). codes "codelet," ++ l) behind_is ∙ sym (line_text first r.value r.rest);
            low = says.2;
            high = says.3;
          }

none_some : (r : NumberRest) → None ≡ Some r → ⊥
none_some r e = absurd (cc)

-- where no line is read, there is none
pub no_line : {A : Type 0} (f : A → NumberRest) (r : Option A) (first depth : ℕ) (text : List ℕ) → first < 2 ^ 32 → depth < 2 ^ 32 → option_map f r ≡ line_from first depth text
    → IfNone r ((stage : ℕ) (more : List ℕ) → 1 ≤ stage → stage ≤ depth → text ≢ plan_line first stage ++ more)
no_line f None first depth text few small e =
    λ stage more low high is. none_some (record { value = stage; rest = more }) (e ∙ ap (line_from first depth) is ∙ line_back first depth stage more few small low high)
no_line f (Some a) first depth text few small e = tt

one_some : (a b : NumberRest) → Some a ≡ Some b → a ≡ b
one_some a b e = cc

one_tail : (k : ℕ) (l : List ℕ) (m : ℕ) (r : List ℕ) → k ∷ l ≡ m ∷ r → l ≡ r
one_tail k l m r e = cc

-- a codelet's line tells its stage and what stands behind it
pub one_line : (first stage other : ℕ) (more rest : List ℕ) → stage < 2 ^ 32 → other < 2 ^ 32 → plan_line first stage ++ more ≡ plan_line first other ++ rest → (stage ≡ other) × (more ≡ rest)
one_line first stage other more rest a b e =
    let same : codes "codelet," ++ (decimal first ++ 44 ∷ (decimal stage ++ 10 ∷ more)) ≡ codes "codelet," ++ (decimal first ++ 44 ∷ (decimal other ++ 10 ∷ rest)) = sym (line_text first stage more) ∙ e ∙ line_text first other rest in
    let behind = append_cancel_left (decimal first) (44 ∷ (decimal stage ++ 10 ∷ more)) (44 ∷ (decimal other ++ 10 ∷ rest)) (append_cancel_left (codes "codelet,") _ _ same) in
    let tails = one_tail 44 (decimal stage ++ 10 ∷ more) 44 (decimal other ++ 10 ∷ rest) behind in
    let numbers = one_some (record { value = stage; rest = 10 ∷ more }) (record { value = other; rest = 10 ∷ rest }) (sym (number_back stage 10 more a refl) ∙ ap number_from tails ∙ number_back other 10 rest b refl) in
    (ap (λ (q : NumberRest). q.value) numbers, one_tail 10 more 10 rest (ap (λ (q : NumberRest). q.rest) numbers))

-- The stages of values of legal parts of version one.
use Rattle.std.proofs.Common.{◌≡◌, ℕ, suc, ◌+◌, ◌<◌, ◌≤◌, ◌≢◌, ◌⊎◌, inl, inr, Bool, true, false, nat_lt, List, [], ◌∷◌, ◌++◌, length, refl, sym, ap, ◌∙◌, subst, arith, if◌then◌else◌}
use Rattle.std.proofs.lemmas.Bool.{cases_lt, cases_Bool, lt-ltb, le-ltb}
use Rattle.std.specs.List.{AllByRecursion as Every}
use Rattle.container_plan.specs.Facts.{IsIn, AreDistinct}
use Rattle.banzai_config.specs.Legal.{has}
use Rattle.banzai_config.specs.Named.{stage_targets}
use Rattle.banzai_config.specs.Parts.{PartsForm, StageForm}
use Rattle.banzai_config.specs.Stages.{stage_reads}
use Rattle.container_plan.specs.Shared.{made_from, last_from, depth, made, outputs_read, last}
use Rattle.container_plan.proofs.Every.{Every-append, Every-right, Every-weaker, distinct_left, distinct_right}
use Rattle.container_plan.proofs.Least.{has_in, in_has, hasnt}
use Rattle.container_plan.proofs.Order.{in_left, in_right}
use Rattle.container_plan.proofs.Rules.{all_targets, AreReadLater, IsLegalOne}

pub every_at : {X : Type 0} (P : X → Type 0) (x : X) (xs : List X) → Every P xs → IsIn x xs → P x
every_at P x [] p i = absurd i
every_at P x (y ∷ xs) p (inl is) = subst P (sym is) p.0
every_at P x (y ∷ xs) p (inr i) = every_at P x xs p.1 i

pub every_from : {X : Type 0} (P : X → Type 0) (xs : List X) → ((x : X) → IsIn x xs → P x) → Every P xs
every_from P [] f = tt
every_from P (x ∷ xs) f = (f x (inl refl), every_from P xs (λ y i. f y (inr i)))

pub in_append : {X : Type 0} (x : X) (xs ys : List X) → IsIn x (xs ++ ys) → IsIn x xs ⊎ IsIn x ys
in_append x [] ys i = inr i
in_append x (y ∷ xs) ys (inl is) = inl (inl is)
in_append x (y ∷ xs) ys (inr i) = elim (in_append x xs ys i) [ inl j ↦ inl (inr j) | inr j ↦ inr j ]

-- what a test on a number chooses
pub choose_yes : {X : Type 0} (b : Bool) (x y : X) → b ≡ true → (if b then x else y) ≡ x
choose_yes b x y e = rw e refl

pub choose_no : {X : Type 0} (b : Bool) (x y : X) → b ≡ false → (if b then x else y) ≡ y
choose_no b x y e = rw e refl

abbrev R : StageForm → List ℕ
R s = stage_reads s

abbrev W : StageForm → List ℕ
W s = stage_targets s

made_from_ge : (k : ℕ) (ss : List StageForm) (v : ℕ) → k ≤ made_from k ss v
made_from_ge k [] v = omega arith
made_from_ge k (s ∷ ss) v = elim (cases_Bool (has v (W s))) [
  | inl e ↦ let h : made_from k (s ∷ ss) v ≡ k = choose_yes (has v (W s)) k (made_from (suc k) ss v) e in omega (arith, h)
  | inr e ↦ let h : made_from k (s ∷ ss) v ≡ made_from (suc k) ss v = choose_no (has v (W s)) k (made_from (suc k) ss v) e in omega (arith, h, made_from_ge (suc k) ss v)
]

made_from_le : (k : ℕ) (ss : List StageForm) (v : ℕ) → IsIn v (all_targets ss) → made_from k ss v < k + length ss
made_from_le k [] v i = absurd i
made_from_le k (s ∷ ss) v i = elim (cases_Bool (has v (W s))) [
  | inl e ↦ let h : made_from k (s ∷ ss) v ≡ k = choose_yes (has v (W s)) k (made_from (suc k) ss v) e in omega (arith, h)
  | inr e ↦
      let h : made_from k (s ∷ ss) v ≡ made_from (suc k) ss v = choose_no (has v (W s)) k (made_from (suc k) ss v) e in
      let j : IsIn v (all_targets ss) = elim (in_append v (W s) (all_targets ss) i) [ inl here ↦ absurd (hasnt (W s) v e here) | inr there ↦ there ] in
      let m : made_from (suc k) ss v < suc k + length ss = made_from_le (suc k) ss v j in
      omega (arith, h, m)
]

made_from_most : (k : ℕ) (ss : List StageForm) (v : ℕ) → made_from k ss v ≤ k + length ss
made_from_most k [] v = omega arith
made_from_most k (s ∷ ss) v = elim (cases_Bool (has v (W s))) [
  | inl e ↦ let h : made_from k (s ∷ ss) v ≡ k = choose_yes (has v (W s)) k (made_from (suc k) ss v) e in omega (arith, h)
  | inr e ↦ let h : made_from k (s ∷ ss) v ≡ made_from (suc k) ss v = choose_no (has v (W s)) k (made_from (suc k) ss v) e in omega (arith, h, made_from_most (suc k) ss v)
]

last_from_ge : (k : ℕ) (ss : List StageForm) (v since : ℕ) → since ≤ k → since ≤ last_from k ss v since
last_from_ge k [] v since h = omega arith
last_from_ge k (s ∷ ss) v since h = elim (cases_Bool (has v (R s))) [
  | inl e ↦
      let is : (if has v (R s) then k else since) ≡ k = choose_yes (has v (R s)) k since e in
      let m : k ≤ last_from (suc k) ss v k = last_from_ge (suc k) ss v k (omega arith) in
      let n : last_from k (s ∷ ss) v since ≡ last_from (suc k) ss v k = ap (λ (z : ℕ). last_from (suc k) ss v z) is in
      omega (arith, m, n)
  | inr e ↦
      let is : (if has v (R s) then k else since) ≡ since = choose_no (has v (R s)) k since e in
      let m : since ≤ last_from (suc k) ss v since = last_from_ge (suc k) ss v since (omega arith) in
      let n : last_from k (s ∷ ss) v since ≡ last_from (suc k) ss v since = ap (λ (z : ℕ). last_from (suc k) ss v z) is in
      omega (arith, m, n)
]

module _ (fields : ℕ) (made last : ℕ → ℕ) where
  -- behind k stages: what a stage reads is made before it, what it writes is made at it, and nothing else is
  abbrev pub AreMade : ℕ → List StageForm → Type 0
  AreMade k [] = Unit {0}
  AreMade k (s ∷ ss) = Every (λ r. made r ≤ k) (R s) × Every (λ w. made w ≡ suc k) (W s) × ((v : ℕ) → made v ≡ suc k → IsIn v (W s)) × AreMade (suc k) ss

  abbrev pub AreLast : ℕ → List StageForm → Type 0
  AreLast k [] = Unit {0}
  AreLast k (s ∷ ss) = Every (λ r. suc k ≤ last r) (R s) × AreLast (suc k) ss

  are_made : (k : ℕ) (written : List ℕ) (ss : List StageForm) → AreReadLater fields written ss → Every (λ c. fields ≤ c) (all_targets ss)
      → AreDistinct (all_targets ss) → Every (λ c. Every (λ d. c ≢ d) (all_targets ss)) written
      → ((v : ℕ) → v < fields → made v ≡ 0) → ((v : ℕ) → IsIn v written → made v ≤ k) → ((v : ℕ) → fields ≤ v → (IsIn v written → ⊥) → made v ≡ made_from (suc k) ss v)
      → AreMade k ss
  are_made k written [] later kept once apart entered seen ahead = tt
  are_made k written (s ∷ ss) later kept once apart entered seen ahead =
      let rest : List ℕ = all_targets ss in
      let here : (v : ℕ) → IsIn v (W s) → made v ≡ suc k = λ v i.
      ahead v (every_at (λ c. fields ≤ c) v (W s ++ rest) kept (in_left v (W s) rest i))
      (λ j. every_at (λ d. v ≢ d) v (W s ++ rest) (every_at (λ c. Every (λ d. c ≢ d) (W s ++ rest)) v written apart j) (in_left v (W s) rest i) refl)
      ∙ choose_yes (has v (W s)) (suc k) (made_from (suc (suc k)) ss v) (in_has (W s) v i) in (
        Every-weaker (λ c. (c < fields) ⊎ IsIn c written) (λ r. made r ≤ k) (λ r h. elim h [ inl f ↦ omega (arith, entered r f) | inr i ↦ seen r i ]) (R s) later.0,
        every_from (λ w. made w ≡ suc k) (W s) here,
        λ v e. elim (cases_lt v fields) [
          | inl f ↦ absurd (omega (arith, entered v f))
          | inr above ↦ elim (cases_Bool (has v written)) [
            | inl w ↦ absurd (let h : made v ≤ k = seen v (has_in written v w) in omega arith)
            | inr w ↦ elim (cases_Bool (has v (W s))) [
              | inl t ↦ has_in (W s) v t
              | inr t ↦ absurd (
                  let h : made v ≡ made_from (suc (suc k)) ss v = ahead v above (hasnt written v w) ∙ choose_no (has v (W s)) (suc k) (made_from (suc (suc k)) ss v) t in
                  let g : suc (suc k) ≤ made_from (suc (suc k)) ss v = made_from_ge (suc (suc k)) ss v in
                  omega arith)
            ]
          ]
        ],
        are_made (suc k) (W s ++ written) ss later.1 (Every-right (λ c. fields ≤ c) (W s) rest kept) (distinct_right (W s) rest once)
            (Every-append (λ c. Every (λ d. c ≢ d) rest) (W s) written (distinct_left (W s) rest once) (Every-weaker (λ c. Every (λ d. c ≢ d) (W s ++ rest)) (λ c. Every (λ d. c ≢ d) rest) (λ c h. Every-right (λ d. c ≢ d) (W s) rest h) written apart))
            entered
            (λ v i. elim (in_append v (W s) written i) [ inl j ↦ omega (arith, here v j) | inr j ↦ omega (arith, seen v j) ])
            (λ v above out.
            ahead v above (λ i. out (in_right v (W s) written i))
            ∙ choose_no (has v (W s)) (suc k) (made_from (suc (suc k)) ss v) (no_has (W s) v (λ i. out (in_left v (W s) written i)))),
      )
    where
      no_has : (cs : List ℕ) (c : ℕ) → (IsIn c cs → ⊥) → has c cs ≡ false
      no_has cs c out = elim (cases_Bool (has c cs)) [ inl e ↦ absurd (out (has_in cs c e)) | inr e ↦ e ]

  -- the last stage is no less than the stage since, where what is read has been made
  short_from : (k : ℕ) (ss : List StageForm) (v since : ℕ) → AreMade k ss → made v ≤ since → made v ≤ last_from (suc k) ss v since
  short_from k [] v since p h = h
  short_from k (s ∷ ss) v since p h = elim (cases_Bool (has v (R s))) [
    | inl e ↦
        let is : (if has v (R s) then suc k else since) ≡ suc k = choose_yes (has v (R s)) (suc k) since e in
        let m : made v ≤ k = every_at (λ r. made r ≤ k) v (R s) p.0 (has_in (R s) v e) in
        let n : made v ≤ last_from (suc (suc k)) ss v (suc k) = short_from (suc k) ss v (suc k) p.3 (omega arith) in
        subst (λ (z : ℕ). made v ≤ last_from (suc (suc k)) ss v z) (sym is) n
    | inr e ↦ subst (λ (z : ℕ). made v ≤ last_from (suc (suc k)) ss v z) (sym (choose_no (has v (R s)) (suc k) since e)) (short_from (suc k) ss v since p.3 h)
  ]

  are_last : (k : ℕ) (ss : List StageForm) → ((v : ℕ) → (suc (k + length ss) ≤ last v) ⊎ ((since : ℕ) × (last v ≡ last_from (suc k) ss v since))) → AreLast k ss
  are_last k [] f = tt
  are_last k (s ∷ ss) f = (every_from (λ r. suc k ≤ last r) (R s) now, are_last (suc k) ss next)
    where
      now : (r : ℕ) → IsIn r (R s) → suc k ≤ last r
      now r i = elim (f r) [
        | inl far ↦ omega arith
        | inr h ↦
            let is : (if has r (R s) then suc k else h.0) ≡ suc k = choose_yes (has r (R s)) (suc k) h.0 (in_has (R s) r i) in
            let m : suc k ≤ last_from (suc (suc k)) ss r (suc k) = last_from_ge (suc (suc k)) ss r (suc k) (omega arith) in
            let n : last r ≡ last_from (suc (suc k)) ss r (suc k) = h.1 ∙ ap (λ (z : ℕ). last_from (suc (suc k)) ss r z) is in
            omega (arith, m, n)
      ]

      next : (v : ℕ) → (suc (suc k + length ss) ≤ last v) ⊎ ((since : ℕ) × (last v ≡ last_from (suc (suc k)) ss v since))
      next v = elim (f v) [ inl far ↦ inl (omega arith) | inr h ↦ inr ((if has v (R s) then suc k else h.0), h.1) ]

-- what the spans of legal parts keep
pub record AreSpans (parts : PartsForm) : Type 0 where
  pub entered : (v : ℕ) → v < (length parts.fields) → made parts v ≡ 0
  pub later : (v : ℕ) → (length parts.fields) ≤ v → 1 ≤ made parts v
  pub value : (v : ℕ) → IsIn v (all_targets parts.stages) → made parts v ≤ depth parts
  pub stages : AreMade (length parts.fields) (made parts) (last parts) 0 parts.stages
  pub used : AreLast (length parts.fields) (made parts) (last parts) 0 parts.stages
  pub short : (v : ℕ) → made parts v ≤ last parts v
  pub shown : (v : ℕ) → IsIn v (outputs_read parts) → last parts v ≡ suc (depth parts)

pub are_spans : (parts : PartsForm) → IsLegalOne parts → AreSpans parts
are_spans parts legal =
    let entered : (v : ℕ) → v < (length parts.fields) → made parts v ≡ 0 = λ v h. choose_yes (nat_lt v (length parts.fields)) 0 (made_from 1 parts.stages v) (lt-ltb v (length parts.fields) h) in
    let above : (v : ℕ) → (length parts.fields) ≤ v → made parts v ≡ made_from 1 parts.stages v = λ v h. choose_no (nat_lt v (length parts.fields)) 0 (made_from 1 parts.stages v) (le-ltb v (length parts.fields) h) in
    let stages : AreMade (length parts.fields) (made parts) (last parts) 0 parts.stages =
    are_made (length parts.fields) (made parts) (last parts) 0 [] parts.stages legal.readable.earlier legal.kept legal.once tt entered (λ v i. absurd i) (λ v h out. above v h) in
    let most : (v : ℕ) → made parts v ≤ suc (depth parts) = λ v. elim (cases_lt v (length parts.fields)) [
      | inl f ↦ omega (arith, entered v f)
      | inr f ↦ omega (arith, above v f, made_from_most 1 parts.stages v)
    ] in
    record {
      entered = entered;
      later = λ v h. omega (arith, above v h, made_from_ge 1 parts.stages v);
      value = λ v i. elim (cases_lt v (length parts.fields)) [
        | inl f ↦ omega (arith, entered v f)
        | inr f ↦ omega (arith, above v f, made_from_le 1 parts.stages v i)
      ];
      stages = stages;
      used = are_last (length parts.fields) (made parts) (last parts) 0 parts.stages (λ v. elim (cases_Bool (has v (outputs_read parts))) [
        | inl e ↦ inl (omega (arith, choose_yes (has v (outputs_read parts)) (suc (depth parts)) (last_from 1 parts.stages v (made parts v)) e))
        | inr e ↦ inr (made parts v, choose_no (has v (outputs_read parts)) (suc (depth parts)) (last_from 1 parts.stages v (made parts v)) e)
      ]);
      short = λ v. elim (cases_Bool (has v (outputs_read parts))) [
        | inl e ↦ omega (arith, most v, choose_yes (has v (outputs_read parts)) (suc (depth parts)) (last_from 1 parts.stages v (made parts v)) e)
        | inr e ↦
            let is : last parts v ≡ last_from 1 parts.stages v (made parts v) =
            choose_no (has v (outputs_read parts)) (suc (depth parts)) (last_from 1 parts.stages v (made parts v)) e in
            let m : made parts v ≤ last_from 1 parts.stages v (made parts v) = short_from (length parts.fields) (made parts) (last parts) 0 parts.stages v (made parts v) stages (omega arith) in
            omega (arith, is, m)
      ];
      shown = λ v i. choose_yes (has v (outputs_read parts)) (suc (depth parts)) (last_from 1 parts.stages v (made parts v)) (in_has (outputs_read parts) v i);
    }

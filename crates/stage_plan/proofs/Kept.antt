-- What the list schedule places is a plan.
use Rattle.std.proofs.Common.{◌≡◌, ℕ, zero, suc, ◌+◌, ◌-◌, ◌≤◌, ◌<◌, inl, inr, List, [], ◌∷◌, ◌++◌, length, map, get_or, Option, Some, None, Result, Ok, Err, IfOk, slice_get, refl, sym, ap, subst, ◌∙◌, arith, length-append}
use Rattle.std.proofs.lemmas.Bool.{ltb-true}
use Rattle.codelets.specs.declared.codelet.Kind.{Kind}
use Rattle.codelets.specs.declared.codelet.Codelet.{Codelet}
use Rattle.codelets.specs.Leveled.{AreLeveled}
use Rattle.codelets.specs.Lists.{IsIn, max_of}
use Rattle.stage_plan.specs.declared.place.Place.{Place}
use Rattle.stage_plan.specs.Schedule.{all_placed, atoms_at, earliest, go_on, has_room, IsPlan, last_used, schedule, stage_at, stages_of, stuck, width}
use Rattle.stage_plan.proofs.Firsts.{first_is}
use Rattle.stage_plan.proofs.Boards.{width_more}
use Rattle.stage_plan.proofs.Levels.{stage_front, stage_seam}

in_all : (P : ℕ → Type 0) (us : List ℕ) (u : ℕ) → ((k d : ℕ) → k < length us → P (get_or us k d)) → IsIn u us → P u
in_all P [] u h i = absurd i
in_all P (v ∷ us) u h (inl e) = subst P (sym e) (h 0 0 (omega arith))
in_all P (v ∷ us) u h (inr j) = in_all P us u (λ k d l. h (suc k) d (omega arith)) j

in_greatest : (f : ℕ → ℕ) (us : List ℕ) (u : ℕ) → IsIn u us → f u ≤ max_of (map f us)
in_greatest f [] u i = absurd i
in_greatest f (v ∷ us) u (inl e) = let g : f u ≡ f v = ap f e in omega arith
in_greatest f (v ∷ us) u (inr j) = let g = in_greatest f us u j in omega arith

stages_more : (P : ℕ → Type 0) (placed : List Place) (p : Place) → ((k s : ℕ) → slice_get (stages_of placed) k ≡ Some s → P s) → P p.stage → (k s : ℕ) → slice_get (stages_of (placed ++ p ∷ [])) k ≡ Some s → P s
stages_more P [] p h g zero s e = let is : p.stage ≡ s = cc in subst P is g
stages_more P [] p h g (suc k) s e = absurd (cc)
stages_more P (q ∷ placed) p h g zero s e = h 0 s e
stages_more P (q ∷ placed) p h g (suc k) s e = stages_more P placed p (λ j t f. h (suc j) t f) g k s e

module _ (depth sl sf : ℕ) where
  abbrev put : List Place → Codelet → ℕ → List Place
  put placed c s = placed ++ record { kind = c.kind; stage = s } ∷ []

  -- what each placing keeps holds at the end
  along : (Q : List Place → Type 0) → ((placed : List Place) (c : Codelet) (s : ℕ) → earliest depth sl sf placed c ≡ Some s → Q placed → Q (put placed c s))
      → (cs : List Codelet) (placed all : List Place) → schedule depth sl sf placed cs ≡ all_placed all → Q placed → Q all
  along Q step [] placed all e q = let is : placed ≡ all = cc in subst Q is q
  along Q step (c ∷ cs) placed all e q = by_case (earliest depth sl sf placed c) refl e (λ s. along Q step cs (put placed c s) all)
    where
      by_case : (o : Option ℕ) → earliest depth sl sf placed c ≡ o → go_on o (stuck placed c) (λ s. schedule depth sl sf (put placed c s) cs) ≡ all_placed all → ((s : ℕ) → schedule depth sl sf (put placed c s) cs ≡ all_placed all → Q (put placed c s) → Q all) → Q all
      by_case None t f next = absurd (cc)
      by_case (Some s) t f next = next s f (step placed c s t q)

  placed_says : (placed : List Place) (c : Codelet) (s : ℕ) → earliest depth sl sf placed c ≡ Some s → (last_used placed c < s) × (s ≤ depth) × (atoms_at placed c.kind s < width sl sf c.kind)
  placed_says placed c s e =
      let f = first_is (has_room sl sf placed c.kind) (last_used placed c + 1) (depth - last_used placed c) s e in
      let low = f.low in let high = f.high in
      (omega arith, omega arith, ltb-true _ _ f.passes)

  bounded : (cs : List Codelet) (all : List Place) → schedule depth sl sf [] cs ≡ all_placed all → (k s : ℕ) → slice_get (stages_of all) k ≡ Some s → (1 ≤ s) × (s ≤ depth)
  bounded cs all e = along (λ placed. (k s : ℕ) → slice_get (stages_of placed) k ≡ Some s → (1 ≤ s) × (s ≤ depth)) step cs [] all e (λ k s f. absurd (none k s f))
    where
      none : (k s : ℕ) → slice_get (stages_of []) k ≡ Some s → ⊥
      none k s f = absurd (cc)

      step : (placed : List Place) (c : Codelet) (s : ℕ) → earliest depth sl sf placed c ≡ Some s → ((k t : ℕ) → slice_get (stages_of placed) k ≡ Some t → (1 ≤ t) × (t ≤ depth)) → (k t : ℕ) → slice_get (stages_of (put placed c s)) k ≡ Some t → (1 ≤ t) × (t ≤ depth)
      step placed c s g h = let says = placed_says placed c s g in let low = says.0 in stages_more (λ t. (1 ≤ t) × (t ≤ depth)) placed (record { kind = c.kind; stage = s }) h (omega arith, says.1)

  wide : (cs : List Codelet) (all : List Place) → schedule depth sl sf [] cs ≡ all_placed all → (kind : Kind) (stage : ℕ) → atoms_at all kind stage ≤ width sl sf kind
  wide cs all e = along (λ placed. (kind : Kind) (stage : ℕ) → atoms_at placed kind stage ≤ width sl sf kind) (λ placed c s g h. width_more sl sf placed c.kind s h (placed_says placed c s g).2) cs [] all e (λ kind stage. omega arith)

  -- codelets keep their stages
  kept : (cs : List Codelet) (placed all : List Place) → schedule depth sl sf placed cs ≡ all_placed all → (u : ℕ) → u < length placed → stage_at all u ≡ stage_at placed u
  kept cs placed all e u h = (along (λ now. (u < length now) × (stage_at now u ≡ stage_at placed u)) step cs placed all e (h, refl)).1
    where
      step : (now : List Place) (c : Codelet) (s : ℕ) → earliest depth sl sf now c ≡ Some s → (u < length now) × (stage_at now u ≡ stage_at placed u) → (u < length (put now c s)) × (stage_at (put now c s) u ≡ stage_at placed u)
      step now c s g (l, f) = ((let n = length-append now (record { kind = c.kind; stage = s } ∷ []) in omega arith), stage_front now (record { kind = c.kind; stage = s }) u l ∙ f)

  later_at : (cs : List Codelet) (placed all : List Place) (k u : ℕ) (c : Codelet) → schedule depth sl sf placed cs ≡ all_placed all → slice_get cs k ≡ Some c → IsIn u c.uses → u < length placed + k → stage_at all u < stage_at all (length placed + k)
  later_at [] placed all k u c e g i w = absurd (cc)
  later_at (d ∷ cs) placed all k u c e g i w = by_case (earliest depth sl sf placed d) refl e k g w (λ s j f h l. later_at cs (put placed d s) all j u c f h i l)
    where
      at_once : (s : ℕ) → earliest depth sl sf placed d ≡ Some s → schedule depth sl sf (put placed d s) cs ≡ all_placed all → d ≡ c → u < length placed + 0 → stage_at all u < stage_at all (length placed + 0)
      at_once s t f same l =
          let p : Place = record { kind = d.kind; stage = s } in
          let n : length (placed ++ p ∷ []) ≡ length placed + 1 = length-append placed (p ∷ []) in
          let before : stage_at all u ≡ stage_at placed u = kept cs (put placed d s) all f u (omega arith) ∙ stage_front placed p u (omega arith) in
          let here : stage_at all (length placed) ≡ s = kept cs (put placed d s) all f (length placed) (omega arith) ∙ stage_seam placed p in
          let low : last_used placed d < s = (placed_says placed d s t).0 in
          let most : stage_at placed u ≤ last_used placed d = in_greatest (stage_at placed) d.uses u (subst (λ (x : Codelet). IsIn u x.uses) (sym same) i) in
          let end : length placed + 0 ≡ length placed = omega arith in
          rw end (omega arith)

      by_case : (o : Option ℕ) → earliest depth sl sf placed d ≡ o → go_on o (stuck placed d) (λ s. schedule depth sl sf (put placed d s) cs) ≡ all_placed all → (k : ℕ) → slice_get (d ∷ cs) k ≡ Some c → u < length placed + k
          → ((s j : ℕ) → schedule depth sl sf (put placed d s) cs ≡ all_placed all → slice_get cs j ≡ Some c → u < length (put placed d s) + j → stage_at all u < stage_at all (length (put placed d s) + j)) → stage_at all u < stage_at all (length placed + k)
      by_case None t f k h l next = absurd (cc)
      by_case (Some s) t f zero h l next = let same : d ≡ c = cc in at_once s t f same l
      by_case (Some s) t f (suc k) h l next =
          let n : length (put placed d s) ≡ length placed + 1 = length-append placed (record { kind = d.kind; stage = s } ∷ []) in
          let at : length (put placed d s) + k ≡ length placed + suc k = omega arith in
          rw at at (next s k f h (omega arith))

  kinds_kept : (cs : List Codelet) (placed all : List Place) → schedule depth sl sf placed cs ≡ all_placed all → map (λ p. p.kind) all ≡ map (λ p. p.kind) placed ++ map (λ c. c.kind) cs
  kinds_kept [] placed all e = let is : placed ≡ all = cc in ap (map (λ (p : Place). p.kind)) (sym is) ∙ sym (end (map (λ (p : Place). p.kind) placed))
    where
      end : (ks : List Kind) → ks ++ [] ≡ ks
      end [] = refl
      end (k ∷ ks) = ap (λ l. k ∷ l) (end ks)
  kinds_kept (c ∷ cs) placed all e = by_case (earliest depth sl sf placed c) refl e (λ s. kinds_kept cs (put placed c s) all)
    where
      moved : (now : List Place) (s : ℕ) (ks : List Kind) → map (λ (p : Place). p.kind) (put now c s) ++ ks ≡ map (λ (p : Place). p.kind) now ++ c.kind ∷ ks
      moved [] s ks = refl
      moved (p ∷ now) s ks = ap (λ l. p.kind ∷ l) (moved now s ks)

      by_case : (o : Option ℕ) → earliest depth sl sf placed c ≡ o → go_on o (stuck placed c) (λ s. schedule depth sl sf (put placed c s) cs) ≡ all_placed all → ((s : ℕ) → schedule depth sl sf (put placed c s) cs ≡ all_placed all → map (λ p. p.kind) all ≡ map (λ p. p.kind) (put placed c s) ++ map (λ c. c.kind) cs) → map (λ p. p.kind) all ≡ map (λ p. p.kind) placed ++ map (λ c. c.kind) (c ∷ cs)
      by_case None t f next = absurd (cc)
      by_case (Some s) t f next = next s f ∙ moved placed s (map (λ c. c.kind) cs)

  pub is_plan : (cs : List Codelet) (all : List Place) → AreLeveled cs → schedule depth sl sf [] cs ≡ all_placed all → IsPlan depth sl sf cs all
  is_plan cs all l e = record {
    kinds = kinds_kept cs [] all e;
    bounds = bounded cs all e;
    later = λ k u c g i. (let early = in_all (λ v. v < k) c.uses u (λ j d h. (l k c g).0 j d h) i in let zero_left : 0 + k ≡ k = omega arith in rw zero_left at (later_at cs [] all k u c e g i (omega arith)));
    widths = wide cs all e;
  }

pub ok_plan : {F : Type 0} (depth sl sf : ℕ) (cs now : List Codelet) (r : Result (List Place) F) → now ≡ cs → AreLeveled cs → IfOk r (λ placed. schedule depth sl sf [] now ≡ all_placed placed) → IfOk r (λ placed. IsPlan depth sl sf cs placed)
ok_plan depth sl sf cs now (Ok placed) same l e = is_plan depth sl sf cs placed l (ap (schedule depth sl sf []) (sym same) ∙ e)
ok_plan depth sl sf cs now (Err f) same l e = tt

-- Longest chains.
use Rattle.std.proofs.Common.{◌≡◌, ℕ, zero, suc, ◌+◌, ◌-◌, ◌≤◌, ◌<◌, ◌⊎◌, inl, inr, Bool, true, false, if◌then◌else◌, List, [], ◌∷◌, ◌++◌, length, map, get_or, take, ◌==◌, Option, Some, None, Result, Ok, Err, IfOk, slice_get, refl, sym, ap, subst, ◌∙◌, arith, max, length-append}
use Rattle.std.proofs.lemmas.List.{get_or_append_left, take_more, take_all}
use Rattle.std.proofs.Math.Seq.{get_or-append_seam}
use Rattle.std.proofs.lemmas.List.Elements.{Contains-push}
use Rattle.std.specs.List.{All, Contains}
use Rattle.std.proofs.lemmas.Bool.{cases_lt, eqb-true, eq-eqb}
use Rattle.codelets.specs.declared.codelet.Codelet.{Codelet}
use Rattle.codelets.specs.Leveled.{level_at, AreLeveled}
use Rattle.codelets.specs.Lists.{max_of}
use Rattle.stage_plan.specs.Chains.{first_at, greatest_level, Chain, only, more, end_of, IsChain, numbers, chain_length, is_before, IsFirstChain}
use Rattle.stage_plan.specs.Best.{IsBest, IsBestIn, IsBestAmong, IsBestBelow, chain_at, chain_of, better, next_best, IsChainTo, AreBest}
use Rattle.stage_plan.proofs.Levels.{level_of, level_low}
use Rattle.stage_plan.proofs.Greatest.{attained, greatest_all}
use Rattle.stage_plan.proofs.Orders.{before_both, before_same, before_trans, before_total, before_end}

get_same : (us : List ℕ) (k d e : ℕ) → k < length us → get_or us k d ≡ get_or us k e
get_same [] k d e h = absurd (omega arith)
get_same (u ∷ us) zero d e h = refl
get_same (u ∷ us) (suc k) d e h = get_same us k d e (omega arith)

get_of_map : (f : ℕ → ℕ) (us : List ℕ) (k : ℕ) → k < length us → get_or (map f us) k 0 ≡ f (get_or us k 0)
get_of_map f [] k h = absurd (omega arith)
get_of_map f (u ∷ us) zero h = refl
get_of_map f (u ∷ us) (suc k) h = get_of_map f us k (omega arith)

contained : (P : ℕ → Type 0) (us : List ℕ) (u : ℕ) → All P us → Contains us u → P u
contained P us u a (k, h, e) = subst P e (a k u h)

greatest_of : (f : ℕ → ℕ) (us : List ℕ) (u : ℕ) → Contains us u → f u ≤ max_of (map f us)
greatest_of f us u (k, h, e) =
    let g = greatest_all (map f us) k in
    let m = get_of_map f us k h in
    let s : get_or us k 0 ≡ u = get_same us k 0 u h ∙ e in
    let t : f (get_or us k 0) ≡ f u = ap f s in
    omega arith

size_low : (w : Chain) → 1 ≤ chain_length w
size_low (only p) = omega arith
size_low (more w p) = let h = size_low w in omega arith

codelet_at : (cs : List Codelet) (p : ℕ) → p < length cs → (c : Codelet) × (slice_get cs p ≡ Some c)
codelet_at [] p h = absurd (omega arith)
codelet_at (c ∷ cs) zero h = (c, refl)
codelet_at (c ∷ cs) (suc p) h = codelet_at cs p (omega arith)

get_within : (cs : List Codelet) (p : ℕ) (c : Codelet) → slice_get cs p ≡ Some c → p < length cs
get_within [] p c e = absurd (cc)
get_within (d ∷ cs) zero c e = omega arith
get_within (d ∷ cs) (suc p) c e = let h = get_within cs p c e in omega arith

-- a chain has no more codelets than the level of its end_of
pub chain_low : (cs : List Codelet) (w : Chain) → AreLeveled cs → IsChain cs w → chain_length w ≤ level_at cs (end_of w)
chain_low cs (only p) l h =
    let (c, g) = codelet_at cs p h in
    let e = level_of cs p c g in
    let f = (l p c g).1 in
    omega arith
chain_low cs (more w p) l (h, (c, (g, u))) =
    let s = chain_low cs w l h in
    let e = level_of cs p c g in
    let f = (l p c g).1 in
    let m = greatest_of (level_at cs) c.uses (end_of w) u in
    omega arith

pub chain_within : (cs : List Codelet) (w : Chain) → IsChain cs w → end_of w < length cs
chain_within cs (only p) h = h
chain_within cs (more w p) (h, (c, (g, u))) = get_within cs p c g

level_at_low : (cs : List Codelet) (p : ℕ) → p < length cs → level_at cs p ≤ greatest_level cs
level_at_low cs p h = let (c, g) = codelet_at cs p h in let a = level_low cs p c g in let b = level_of cs p c g in omega arith

-- no chain has more codelets than the greatest level
pub chain_short : (cs : List Codelet) (w : Chain) → AreLeveled cs → IsChain cs w → chain_length w ≤ greatest_level cs
chain_short cs w l h = let a = chain_low cs w l h in let b = level_at_low cs (end_of w) (chain_within cs w h) in omega arith

-- and some chain has as many
record Reaches (cs : List Codelet) (p : ℕ) : Type 0 where
  chain : Chain
  is_chain : IsChain cs chain
  ends : end_of chain ≡ p
  long : chain_length chain ≡ level_at cs p

reach : (n : ℕ) (cs : List Codelet) (p : ℕ) → AreLeveled cs → p < n → p < length cs → Reaches cs p
reach zero cs p l h w = absurd (omega arith)
reach (suc n) cs p l h w =
    let (c, g) = codelet_at cs p w in
    by_use c g (attained (level_at cs) c.uses) (λ u a b. reach n cs u l a b)
  where
    by_use : (c : Codelet) → slice_get cs p ≡ Some c → (max_of (map (level_at cs) c.uses) ≡ 0) ⊎ ((u : ℕ) × (Contains c.uses u × (max_of (map (level_at cs) c.uses) ≡ level_at cs u))) → ((u : ℕ) → u < n → u < length cs → Reaches cs u) → Reaches cs p
    by_use c g (inl e) below =
        let f = (l p c g).1 in let v = level_of cs p c g in
        record { chain = only p; is_chain = w; ends = refl; long = omega arith }
    by_use c g (inr (u, (k, e))) below =
        let f = (l p c g).1 in let v = level_of cs p c g in
        let low = contained (λ u. u < p) c.uses u (l p c g).0 k in
        let r = below u (omega arith) (omega arith) in
        let long = r.long in
        record { chain = more r.chain p; is_chain = (r.is_chain, (c, (g, subst (λ v. Contains c.uses v) (sym r.ends) k))); ends = refl; long = omega arith }

numbers_length : (cs : List Codelet) (w : Chain) → length (numbers cs w) ≡ chain_length w
numbers_length cs (only p) = refl
numbers_length cs (more w p) = length-append (numbers cs w) (first_at cs p ∷ []) ∙ ap (λ n. n + 1) (numbers_length cs w)

first_of : (cs : List Codelet) (at : ℕ) (c : Codelet) → slice_get cs at ≡ Some c → first_at cs at ≡ c.first
first_of [] at c g = absurd (cc)
first_of (d ∷ cs) zero c g = let e : d ≡ c = cc in ap (λ (x : Codelet). x.first) e
first_of (d ∷ cs) (suc at) c g = first_of cs at c g

-- the best so far
within_more : (us : List ℕ) (u v : ℕ) → Contains (us ++ u ∷ []) v → Contains us v ⊎ (v ≡ u)
within_more [] u v (zero, h, e) = inr (sym e)
within_more [] u v (suc k, h, e) = absurd (omega arith)
within_more (w ∷ us) u v (zero, h, e) = inl (0, omega arith, e)
within_more (w ∷ us) u v (suc k, h, e) = from (within_more us u v (k, omega arith, e))
  where
    from : Contains us v ⊎ (v ≡ u) → Contains (w ∷ us) v ⊎ (v ≡ u)
    from (inl (j, a, b)) = inl (suc j, omega arith, b)
    from (inr q) = inr q

contains_front : (us : List ℕ) (u v : ℕ) → Contains us v → Contains (us ++ u ∷ []) v
contains_front us u v (k, h, e) = (k, (let l = length-append us (u ∷ []) in omega arith), get_or_append_left us (u ∷ []) v k h ∙ e)

contains_seam : (us : List ℕ) (u : ℕ) → Contains (us ++ u ∷ []) u
contains_seam us u = Contains-push us u

module _ (cs : List Codelet) (chains : List (List ℕ)) (P Q : ℕ → Type 0) (u level : ℕ) (to : (v : ℕ) → Q v → P v ⊎ (v ≡ u)) (back : (v : ℕ) → P v → Q v) (here : Q u) where
  best_skip : (best : Option ℕ) → (level_at cs u ≡ level → ⊥) → IsBestIn cs chains P level best → IsBestIn cs chains Q level best
  best_skip None other h = λ v m e. from v e (to v m)
    where
      from : (v : ℕ) → level_at cs v ≡ level → P v ⊎ (v ≡ u) → ⊥
      from v e (inl a) = h v a e
      from v e (inr q) = other (ap (level_at cs) (sym q) ∙ e)
  best_skip (Some b) other (m, (e, h)) = (back b m, (e, λ v n f. from v f (to v n)))
    where
      from : (v : ℕ) → level_at cs v ≡ level → P v ⊎ (v ≡ u) → is_before (chain_at chains b) (chain_at chains v) ≡ true
      from v f (inl a) = h v a f
      from v f (inr q) = absurd (other (ap (level_at cs) (sym q) ∙ f))

  best_step : (best : Option ℕ) → level_at cs u ≡ level → IsBestIn cs chains P level best → IsBestIn cs chains Q level (Some (better chains best u))
  best_step None same h = (here, (same, λ v n f. from v f (to v n)))
    where
      from : (v : ℕ) → level_at cs v ≡ level → P v ⊎ (v ≡ u) → is_before (chain_at chains u) (chain_at chains v) ≡ true
      from v f (inl a) = absurd (h v a f)
      from v f (inr q) = ap (λ w. is_before (chain_at chains u) (chain_at chains w)) q ∙ before_same (chain_at chains u)
  best_step (Some b) same (m, (e, h)) = by_case (is_before (chain_at chains b) (chain_at chains u)) refl
    where
      kept : is_before (chain_at chains b) (chain_at chains u) ≡ true → (v : ℕ) → level_at cs v ≡ level → P v ⊎ (v ≡ u) → is_before (chain_at chains b) (chain_at chains v) ≡ true
      kept t v f (inl a) = h v a f
      kept t v f (inr q) = ap (λ w. is_before (chain_at chains b) (chain_at chains w)) q ∙ t

      new : is_before (chain_at chains b) (chain_at chains u) ≡ false → (v : ℕ) → level_at cs v ≡ level → P v ⊎ (v ≡ u) → is_before (chain_at chains u) (chain_at chains v) ≡ true
      new t v f (inl a) = before_trans (chain_at chains u) (chain_at chains b) (chain_at chains v) (before_total (chain_at chains b) (chain_at chains u) t) (h v a f)
      new t v f (inr q) = ap (λ w. is_before (chain_at chains u) (chain_at chains w)) q ∙ before_same (chain_at chains u)

      by_case : (t : Bool) → is_before (chain_at chains b) (chain_at chains u) ≡ t → IsBestIn cs chains Q level (Some (if t then b else u))
      by_case true t = (back b m, (e, λ v n f. kept t v f (to v n)))
      by_case false t = (here, (same, λ v n f. new t v f (to v n)))

  pub best_more : (best : Option ℕ) → IsBestIn cs chains P level best → IsBestIn cs chains Q level (next_best cs chains level best u)
  best_more best h = by_case (level_at cs u == level) refl
    where
      by_case : (t : Bool) → (level_at cs u == level) ≡ t → IsBestIn cs chains Q level (if t then Some (better chains best u) else best)
      by_case true t = best_step best (eqb-true _ _ t) h
      by_case false t = best_skip best (λ e. absurd (let f = eq-eqb (level_at cs u) level e in cc)) h

pub best_among_more : (cs : List Codelet) (chains : List (List ℕ)) (among : List ℕ) (i level : ℕ) (best new : Option ℕ) → i < length among → new ≡ next_best cs chains level best (get_or among i 0) → IsBestAmong cs chains (take i among) level best → IsBestAmong cs chains (take (i + 1) among) level new
best_among_more cs chains among i level best new w e h =
    let u = get_or among i 0 in
    rw (take_more among i 0 w) (rw e (best_more cs chains (λ v. Contains (take i among) v) (λ v. Contains (take i among ++ u ∷ []) v) u level (within_more (take i among) u) (contains_front (take i among) u) (contains_seam (take i among) u) best h))

pub best_below_more : (cs : List Codelet) (chains : List (List ℕ)) (i level : ℕ) (best new : Option ℕ) → new ≡ next_best cs chains level best i → IsBestBelow cs chains i level best → IsBestBelow cs chains (i + 1) level new
best_below_more cs chains i level best new e h =
    rw e (best_more cs chains (λ v. v < i) (λ v. v < i + 1) i level (λ v a. below v a (cases_lt v i)) (λ v a. omega arith) (omega arith) best h)
  where
    below : (v : ℕ) → v < i + 1 → (v < i) ⊎ (i ≤ v) → (v < i) ⊎ (v ≡ i)
    below v a (inl h) = inl h
    below v a (inr h) = inr (omega arith)

-- a chain of a level's length that ends at a codelet: its uses have the best chains before it
pub best_next : (cs : List Codelet) (at : ℕ) (chains : List (List ℕ)) (c : Codelet) (ns : List ℕ) → AreLeveled cs → slice_get cs at ≡ Some c → AreBest cs chains at → IsChainTo cs chains c ns → IsBest cs at ns
best_next cs at chains c ns l g all (o, (best, spelled)) = by_best o best spelled
  where
    low : (u : ℕ) → Contains c.uses u → (u < at) × (level_at cs u + 1 ≤ c.level)
    low u k =
        let f = (l at c g).1 in
        let m = greatest_of (level_at cs) c.uses u k in
        (contained (λ u. u < at) c.uses u (l at c g).0 k, omega arith)

    same_user : (d : Codelet) (u : ℕ) → slice_get cs at ≡ Some d → Contains d.uses u → Contains c.uses u
    same_user d u q k = let e : d ≡ c = cc in subst (λ (x : Codelet). Contains x.uses u) e k

    by_best : (o : Option ℕ) → IsBestAmong cs chains c.uses (c.level - 1) o → ns ≡ chain_of chains o ++ c.first ∷ [] → IsBest cs at ns
    by_best None none e =
        let f = (l at c g).1 in
        let v = level_of cs at c g in
        let w = get_within cs at c g in
        let one : c.level ≡ 1 = lowest (attained (level_at cs) c.uses) in
        record {
          chain = only at;
          is_chain = w;
          ends = refl;
          long = omega arith;
          spelled = ap (λ n. n ∷ []) (first_of cs at c g) ∙ sym e;
          first = λ other h q s. only_one one other h q s e;
        }
      where
        lowest : (max_of (map (level_at cs) c.uses) ≡ 0) ⊎ ((u : ℕ) × (Contains c.uses u × (max_of (map (level_at cs) c.uses) ≡ level_at cs u))) → c.level ≡ 1
        lowest (inl e) = let f = (l at c g).1 in omega arith
        lowest (inr (u, (k, e))) = absurd (none u k (let f = (l at c g).1 in omega arith))

        only_one : c.level ≡ 1 → (other : Chain) → IsChain cs other → end_of other ≡ at → chain_length other ≡ level_at cs at → ns ≡ [] ++ c.first ∷ [] → is_before ns (numbers cs other) ≡ true
        only_one one (only p) h q s e = rw e (rw q (rw (first_of cs at c g) (before_same (c.first ∷ []))))
        only_one one (more w p) h q s e = absurd (let a = size_low w in let v = level_of cs at c g in omega arith)
    by_best (Some b) (k, (level, first)) e =
        let f = (l at c g).1 in
        let v = level_of cs at c g in
        let r = all.best b (low b k).0 in
        let long = r.long in
        let up = (low b k).1 in
        record {
          chain = more r.chain at;
          is_chain = (r.is_chain, (c, (g, subst (λ v. Contains c.uses v) (sym r.ends) k)));
          ends = refl;
          long = omega arith;
          spelled = ap (λ m. m ++ first_at cs at ∷ []) r.spelled ∙ ap (λ n. chain_at chains b ++ n ∷ []) (first_of cs at c g) ∙ sym e;
          first = λ other h q s. each r other h q s;
        }
      where
        each : IsBest cs b (chain_at chains b) → (other : Chain) → IsChain cs other → end_of other ≡ at → chain_length other ≡ level_at cs at → is_before ns (numbers cs other) ≡ true
        each r (only p) h q s = absurd (let a = size_low r.chain in let long = r.long in let v = level_of cs at c g in let up = (low b k).1 in omega arith)
        each r (more w p) (h, (d, (m, j))) q s =
            let k2 = same_user d (end_of w) (ap (slice_get cs) (sym q) ∙ m) j in
            let up = low (end_of w) k2 in
            let up1 = up.1 in
            let a = chain_low cs w l h in
            let v = level_of cs at c g in
            let f = (l at c g).1 in
            let ub = (low b k).1 in
            let even : level_at cs (end_of w) ≡ c.level - 1 = omega arith in
            let better1 = first (end_of w) k2 even in
            let r2 = all.best (end_of w) up.0 in
            let better2 = r2.first w h refl (omega arith) in
            let order = before_trans (chain_at chains b) (chain_at chains (end_of w)) (numbers cs w) better1 better2 in
            let n1 = numbers_length cs r.chain in
            let n2 = numbers_length cs w in
            let n3 = ap length r.spelled in
            let long = r.long in
            rw e (rw q (rw (first_of cs at c g) (before_end (chain_at chains b) (numbers cs w) (c.first ∷ []) (omega arith) order)))

pub first_chain : (cs : List Codelet) (chains : List (List ℕ)) (p : ℕ) → AreLeveled cs → AreBest cs chains (length cs) → IsBestBelow cs chains (length cs) (greatest_level cs) (Some p) → IsFirstChain cs (chain_at chains p)
first_chain cs chains p l all (within, (level, best)) =
    let r = all.best p within in
    record {
      chain = r.chain;
      is_chain = r.is_chain;
      longest = r.long ∙ level;
      spelled = r.spelled;
      first = λ other h s. first other h s;
    }
  where
    first : (other : Chain) → IsChain cs other → chain_length other ≡ greatest_level cs → is_before (chain_at chains p) (numbers cs other) ≡ true
    first other h s =
        let w = chain_within cs other h in
        let a = chain_low cs other l h in
        let b = level_at_low cs (end_of other) w in
        let even : level_at cs (end_of other) ≡ greatest_level cs = omega arith in
        let r = all.best (end_of other) w in
        before_trans (chain_at chains p) (chain_at chains (end_of other)) (numbers cs other) (best (end_of other) w even) (r.first other h refl (omega arith))

-- some codelet has the greatest level
level_reached : (cs : List Codelet) → (greatest_level cs ≡ 0) ⊎ ((u : ℕ) × ((u < length cs) × (level_at cs u ≡ greatest_level cs)))
level_reached [] = inl refl
level_reached (c ∷ cs) = step (level_reached cs) (cases_lt (greatest_level cs) c.level)
  where
    step : (greatest_level cs ≡ 0) ⊎ ((u : ℕ) × ((u < length cs) × (level_at cs u ≡ greatest_level cs))) → (greatest_level cs < c.level) ⊎ (c.level ≤ greatest_level cs) → (greatest_level (c ∷ cs) ≡ 0) ⊎ ((u : ℕ) × ((u < length (c ∷ cs)) × (level_at (c ∷ cs) u ≡ greatest_level (c ∷ cs))))
    step (inl e) o = inr (0, (omega arith, omega arith))
    step (inr q) (inl h) = inr (0, (omega arith, omega arith))
    step (inr (u, (w, e))) (inr h) = inr (suc u, (omega arith, omega arith))

pub no_best : (cs : List Codelet) (chains : List (List ℕ)) → 1 ≤ greatest_level cs → IsBestBelow cs chains (length cs) (greatest_level cs) None → ⊥
no_best cs chains one h = from (level_reached cs)
  where
    from : (greatest_level cs ≡ 0) ⊎ ((u : ℕ) × ((u < length cs) × (level_at cs u ≡ greatest_level cs))) → ⊥
    from (inl e) = absurd (omega arith)
    from (inr (u, (w, e))) = h u w e

pub all_taken : (cs : List Codelet) (chains : List (List ℕ)) (among : List ℕ) (i level : ℕ) (best : Option ℕ) → length among ≤ i → IsBestAmong cs chains (take i among) level best → IsBestAmong cs chains among level best
all_taken cs chains among i level best h b = subst (λ (us : List ℕ). IsBestAmong cs chains us level best) (take_all i among h) b

pub low_level : (cs : List Codelet) (at : ℕ) (c : Codelet) → AreLeveled cs → slice_get cs at ≡ Some c → 1 ≤ c.level
low_level cs at c l g = let e = (l at c g).1 in omega arith

pub low_uses : (cs : List Codelet) (at n : ℕ) (c : Codelet) → AreLeveled cs → slice_get cs at ≡ Some c → at ≤ n → All (λ u. u < n) c.uses
low_uses cs at n c l g h k d w = let e = (l at c g).0 k d w in omega arith

pub bests_more : (cs : List Codelet) (chains new : List (List ℕ)) (at : ℕ) (c : Codelet) (ns : List ℕ) → AreLeveled cs → slice_get cs at ≡ Some c → AreBest cs chains at → IsChainTo cs chains c ns → new ≡ chains ++ ns ∷ [] → AreBest cs new (at + 1)
bests_more cs chains new at c ns l g all to e = record {
  count = ap length e ∙ length-append chains (ns ∷ []) ∙ ap (λ n. n + 1) all.count;
  best = λ p h. best p h (cases_lt p at);
}
  where
    best : (p : ℕ) → p < at + 1 → (p < at) ⊎ (at ≤ p) → IsBest cs p (chain_at new p)
    best p h (inl a) =
        let n = all.count in
        let same : chain_at new p ≡ chain_at chains p = ap (λ (m : List (List ℕ)). chain_at m p) e ∙ get_or_append_left chains (ns ∷ []) [] p (omega arith) in
        subst (IsBest cs p) (sym same) (all.best p a)
    best p h (inr a) =
        let n = all.count in
        let here : length chains ≡ p = omega arith in
        let there : at ≡ p = omega arith in
        let same : ns ≡ chain_at new p = sym (get_or-append_seam chains ns [] []) ∙ ap (λ (m : List (List ℕ)). chain_at m (length chains)) (sym e) ∙ ap (chain_at new) here in
        subst (IsBest cs p) same (subst (λ k. IsBest cs k ns) there (best_next cs at chains c ns l g all to))

pub ok_first : {F : Type 0} (cs : List Codelet) (chains : List (List ℕ)) (p : ℕ) (r : Result (List ℕ) F) → AreLeveled cs → AreBest cs chains (length cs) → IsBestBelow cs chains (length cs) (greatest_level cs) (Some p) → IfOk r (λ ns. ns ≡ chain_at chains p) → IfOk r (λ ns. IsFirstChain cs ns)
ok_first cs chains p (Ok ns) l all best e = subst (IsFirstChain cs) (sym e) (first_chain cs chains p l all best)
ok_first cs chains p (Err f) l all best e = tt

pub one_as_long : (cs : List Codelet) → AreLeveled cs → 1 ≤ length cs → (w : Chain) × (IsChain cs w × (chain_length w ≡ greatest_level cs))
one_as_long cs l some = from (level_reached cs)
  where
    from : (greatest_level cs ≡ 0) ⊎ ((u : ℕ) × ((u < length cs) × (level_at cs u ≡ greatest_level cs))) → (w : Chain) × (IsChain cs w × (chain_length w ≡ greatest_level cs))
    from (inl e) =
        let (c, g) = codelet_at cs 0 (omega arith) in
        let a = (l 0 c g).1 in
        let b = level_low cs 0 c g in
        absurd (omega arith)
    from (inr (u, (w, e))) = let r = reach (suc u) cs u l (omega arith) w in (r.chain, (r.is_chain, r.long ∙ e))

pub one_first : (cs : List Codelet) (shown other : List ℕ) → IsFirstChain cs shown → IsFirstChain cs other → shown ≡ other
one_first cs shown other a b =
    before_both shown other
    (subst (λ (ns : List ℕ). is_before shown ns ≡ true) b.spelled (a.first b.chain b.is_chain b.longest))
    (subst (λ (ns : List ℕ). is_before other ns ≡ true) a.spelled (b.first a.chain a.is_chain a.longest))

greatest_level_end : (cs : List Codelet) (c : Codelet) → greatest_level (cs ++ c ∷ []) ≡ max (greatest_level cs) c.level
greatest_level_end [] c = omega arith
greatest_level_end (d ∷ cs) c = let e = greatest_level_end cs c in omega arith

pub deepest_more : (cs : List Codelet) (i : ℕ) (c : Codelet) (level new : ℕ) → i < length cs → c ≡ get_or cs i c → level ≡ greatest_level (take i cs) → new ≡ max level c.level → new ≡ greatest_level (take (i + 1) cs)
deepest_more cs i c level new h item e n =
    n ∙ ap (λ m. max m c.level) e ∙ sym (ap greatest_level (take_more cs i c h ∙ ap (λ (d : Codelet). take i cs ++ d ∷ []) (sym item)) ∙ greatest_level_end (take i cs) c)

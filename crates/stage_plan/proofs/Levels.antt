-- Codelets that are placed in order.
use Rattle.std.proofs.Common.{◌≡◌, ℕ, zero, suc, ◌+◌, ◌-◌, ◌≤◌, ◌<◌, ◌⊎◌, inl, inr, false, List, [], ◌∷◌, ◌++◌, length, map, drop, get_or, Option, Some, None, slice_get, refl, sym, ap, subst, ◌∙◌, arith, add-one, length-append}
use Rattle.std.specs.List.{All}
use Rattle.std.proofs.lemmas.Bool.{eq-eqb, ltb-true, lt-ltb, cases_lt}
use Rattle.std.proofs.lemmas.Option.{slice_get-get_or}
use Rattle.codelets.specs.declared.codelet.Kind.{Kind}
use Rattle.codelets.specs.declared.codelet.Codelet.{Codelet}
use Rattle.stage_plan.specs.declared.place.Place.{Place}
use Rattle.stage_plan.specs.declared.fault.PlanFault.{PlanFault}
use Rattle.stage_plan.specs.declared.fault.PlanFault.TheVariants.{TooDeep, Full, Memory}
use Rattle.codelets.specs.Leveled.{level_at, AreLeveled}
use Rattle.codelets.specs.Lists.{max_of}
use Rattle.stage_plan.specs.Schedule.{atoms_at, other_kind, stage_at, first_from, has_room, width, last_used, earliest, schedule, stuck, go_on}
use Rattle.stage_plan.specs.Faults.{full_stage, is_full}
use Rattle.stage_plan.specs.Chains.{greatest_level}
use Rattle.stage_plan.proofs.Greatest.{greatest_all, greatest_same}
use Rattle.stage_plan.specs.Board.{SoFar, HasRoom, IsShowable, IsPlacedBy, IsStuckBy, IsPlaceFault}
use Rattle.stage_plan.proofs.Firsts.{first_is, none_is, first_passes}
use Rattle.stage_plan.proofs.Boards.{atoms_more, kinds, width_more}

-- without a full stage of either kind there is room in each
room_by_kind : (depth sl sf : ℕ) (placed : List Place) (kind : Kind) → ((k : Kind) (s : ℕ) → atoms_at placed k s ≤ width sl sf k) → full_stage depth sl sf placed kind ≡ None → (s : ℕ) → 1 ≤ s → s ≤ depth → atoms_at placed kind s < width sl sf kind
room_by_kind depth sl sf placed kind w e s a b =
    let most = w kind s in
    let f = none_is (is_full sl sf placed kind) 1 depth e s a (omega arith) in
    by_cases (cases_lt (atoms_at placed kind s) (width sl sf kind)) most f
  where
    by_cases : (atoms_at placed kind s < width sl sf kind) ⊎ (width sl sf kind ≤ atoms_at placed kind s) → atoms_at placed kind s ≤ width sl sf kind → is_full sl sf placed kind s ≡ false → atoms_at placed kind s < width sl sf kind
    by_cases (inl h) m f = h
    by_cases (inr h) m f = absurd (let e : atoms_at placed kind s ≡ width sl sf kind = omega arith in let t = eq-eqb _ _ e in cc)

has_room_of : (depth sl sf : ℕ) (placed : List Place) (kind : Kind) → ((k : Kind) (s : ℕ) → atoms_at placed k s ≤ width sl sf k) → full_stage depth sl sf placed kind ≡ None → full_stage depth sl sf placed (other_kind kind) ≡ None → HasRoom depth sl sf placed
has_room_of depth sl sf placed kind w e f k s a b = by_kind (kinds k kind)
  where
    by_kind : (k ≡ kind) ⊎ (k ≡ other_kind kind) → atoms_at placed k s < width sl sf k
    by_kind (inl q) = rw q (room_by_kind depth sl sf placed kind w e s a b)
    by_kind (inr q) = rw q (room_by_kind depth sl sf placed (other_kind kind) w f s a b)

-- a codelet whose used ones stand at their levels
last_is : (depth sl sf : ℕ) (cs : List Codelet) (at : ℕ) (placed : List Place) (c : Codelet) → AreLeveled cs → slice_get cs at ≡ Some c → ((u : ℕ) → u < at → stage_at placed u ≡ level_at cs u) → last_used placed c + 1 ≡ c.level
last_is depth sl sf cs at placed c l g s =
    let here = l at c g in
    let e : last_used placed c ≡ max_of (map (level_at cs) c.uses) = greatest_same (stage_at placed) (level_at cs) c.uses (λ k d h. s (get_or c.uses k d) (here.0 k d h)) in
    let f = here.1 in
    omega arith

pub level_of : (cs : List Codelet) (at : ℕ) (c : Codelet) → slice_get cs at ≡ Some c → level_at cs at ≡ c.level
level_of [] at c g = absurd (cc)
level_of (d ∷ cs) zero c g = let e : d ≡ c = cc in ap (λ (x : Codelet). x.level) e
level_of (d ∷ cs) (suc at) c g = level_of cs at c g

pub level_low : (cs : List Codelet) (at : ℕ) (c : Codelet) → slice_get cs at ≡ Some c → c.level ≤ greatest_level cs
level_low cs at c g = let e = level_of cs at c g in let h = greatest_all (map (λ c. c.level) cs) at in omega arith

-- there it stands_at at its level too
stands_at_level : (depth sl sf : ℕ) (cs : List Codelet) (at : ℕ) (placed : List Place) (c : Codelet) → AreLeveled cs → greatest_level cs ≤ depth → slice_get cs at ≡ Some c → HasRoom depth sl sf placed → ((u : ℕ) → u < at → stage_at placed u ≡ level_at cs u) → earliest depth sl sf placed c ≡ Some c.level
stands_at_level depth sl sf cs at placed c l deep g room s =
    let e = last_is depth sl sf cs at placed c l g s in
    let low = level_low cs at c g in
    let n : depth - last_used placed c ≡ (depth + 1) - c.level = omega arith in
    ap (λ k. first_from (has_room sl sf placed c.kind) k (depth - last_used placed c)) e
    ∙ ap (λ k. first_from (has_room sl sf placed c.kind) c.level k) n
    ∙ first_passes (has_room sl sf placed c.kind) c.level (depth + 1) (omega arith) (lt-ltb _ _ (room c.kind c.level (omega arith) (omega arith)))

pub showable : (depth sl sf : ℕ) (cs : List Codelet) (at : ℕ) (placed : List Place) (c : Codelet) → AreLeveled cs → greatest_level cs ≤ depth → SoFar depth sl sf cs at placed → slice_get cs at ≡ Some c → IsShowable depth sl sf placed c
showable depth sl sf cs at placed c l deep s g none own other =
    let room = has_room_of depth sl sf placed c.kind s.widths own other in
    let some = stands_at_level depth sl sf cs at placed c l deep g room (s.levels room) in
    absurd (cc)

pub uses_within : (depth sl sf : ℕ) (cs : List Codelet) (at : ℕ) (placed : List Place) (c : Codelet) → AreLeveled cs → SoFar depth sl sf cs at placed → slice_get cs at ≡ Some c → All (λ u. u < length placed) c.uses
uses_within depth sl sf cs at placed c l s g k d h = let n = s.count in let b = (l at c g).0 k d h in omega arith

drop_suc : (cs : List Codelet) (at : ℕ) (c : Codelet) → slice_get cs at ≡ Some c → drop at cs ≡ c ∷ drop (suc at) cs
drop_suc [] at c g = absurd (cc)
drop_suc (d ∷ cs) zero c g = let e : d ≡ c = cc in ap (λ x. x ∷ cs) e
drop_suc (d ∷ cs) (suc at) c g = drop_suc cs at c g

drop_get : (cs : List Codelet) (at : ℕ) (c : Codelet) → slice_get cs at ≡ Some c → drop at cs ≡ c ∷ drop (at + 1) cs
drop_get cs at c g = drop_suc cs at c g ∙ ap (λ k. c ∷ drop k cs) (sym (add-one at))

pub fault_at : (depth sl sf : ℕ) (cs : List Codelet) (at : ℕ) (placed : List Place) (c : Codelet) (f : PlanFault) → SoFar depth sl sf cs at placed → slice_get cs at ≡ Some c → IsStuckBy depth sl sf placed c f → IsPlaceFault depth sl sf cs f
fault_at depth sl sf cs at placed c (TooDeep chain) s g h = h
fault_at depth sl sf cs at placed c (Full first kind stage) s g (none, (same, shown)) = record {
  placed = placed;
  codelet = c;
  stops = s.rest ∙ ap (schedule depth sl sf placed) (drop_get cs at c g) ∙ ap (λ o. go_on o (stuck placed c) (λ stage. schedule depth sl sf (placed ++ record { kind = c.kind; stage = stage } ∷ []) (drop (at + 1) cs))) none;
  its = same;
  shown = shown;
}
fault_at depth sl sf cs at placed c Memory s g h = tt

pub stage_front : (placed : List Place) (p : Place) (u : ℕ) → u < length placed → stage_at (placed ++ p ∷ []) u ≡ stage_at placed u
stage_front [] p u h = absurd (omega arith)
stage_front (q ∷ qs) p zero h = refl
stage_front (q ∷ qs) p (suc u) h = stage_front qs p u (omega arith)

pub stage_seam : (placed : List Place) (p : Place) → stage_at (placed ++ p ∷ []) (length placed) ≡ p.stage
stage_seam [] p = refl
stage_seam (q ∷ qs) p = stage_seam qs p

one_more : (depth sl sf : ℕ) (cs : List Codelet) (at : ℕ) (placed new : List Place) (c : Codelet) (stage : ℕ) → AreLeveled cs → greatest_level cs ≤ depth → SoFar depth sl sf cs at placed → slice_get cs at ≡ Some c → earliest depth sl sf placed c ≡ Some stage → new ≡ placed ++ record { kind = c.kind; stage = stage } ∷ [] → SoFar depth sl sf cs (at + 1) new
one_more depth sl sf cs at placed new c stage l deep s g e n =
    let p : Place = record { kind = c.kind; stage = stage } in
    let count = s.count in
    record {
      count = ap length n ∙ length-append placed (p ∷ []) ∙ (omega arith);
      rest = s.rest ∙ ap (schedule depth sl sf placed) (drop_get cs at c g) ∙ ap (λ o. go_on o (stuck placed c) (λ stage. schedule depth sl sf (placed ++ record { kind = c.kind; stage = stage } ∷ []) (drop (at + 1) cs))) e ∙ ap (λ (m : List Place). schedule depth sl sf m (drop (at + 1) cs)) (sym n);
      widths = λ k t. subst (λ (m : List Place). atoms_at m k t ≤ width sl sf k) (sym n) (width_more sl sf placed c.kind stage s.widths (ltb-true _ _ (first_is (has_room sl sf placed c.kind) (last_used placed c + 1) (depth - last_used placed c) stage e).passes) k t);
      levels = λ room u h. levels_by (λ k t a b. (let m = room k t a b in let f = ap (λ (x : List Place). atoms_at x k t) n ∙ atoms_more placed (record { kind = c.kind; stage = stage }) k t in omega arith)) u (cases_lt u at) h;
    }
  where
    levels_by : HasRoom depth sl sf placed → (u : ℕ) → (u < at) ⊎ (at ≤ u) → u < at + 1 → stage_at new u ≡ level_at cs u
    levels_by room u (inl a) h =
        let count = s.count in
        ap (λ (m : List Place). stage_at m u) n ∙ stage_front placed (record { kind = c.kind; stage = stage }) u (omega arith) ∙ s.levels room u a
    levels_by room u (inr a) h =
        let count = s.count in
        let same : u ≡ length placed = omega arith in
        let here : u ≡ at = omega arith in
        let known = stands_at_level depth sl sf cs at placed c l deep g room (s.levels room) in
        let level : stage ≡ c.level = cc in
        ap (stage_at new) same ∙ ap (λ (m : List Place). stage_at m (length placed)) n ∙ stage_seam placed (record { kind = c.kind; stage = stage }) ∙ level ∙ sym (level_of cs at c g) ∙ ap (level_at cs) (sym here)

pub next_so_far : (depth sl sf : ℕ) (cs : List Codelet) (at : ℕ) (placed new : List Place) (c : Codelet) → AreLeveled cs → greatest_level cs ≤ depth → SoFar depth sl sf cs at placed → slice_get cs at ≡ Some c → IsPlacedBy (earliest depth sl sf placed c) placed c new → SoFar depth sl sf cs (at + 1) new
next_so_far depth sl sf cs at placed new c l deep s g h = by_case (earliest depth sl sf placed c) refl h
  where
    by_case : (o : Option ℕ) → earliest depth sl sf placed c ≡ o → IsPlacedBy o placed c new → SoFar depth sl sf cs (at + 1) new
    by_case None e h = absurd h
    by_case (Some stage) e h = one_more depth sl sf cs at placed new c stage l deep s g e h

pub item_at : (cs : List Codelet) (at : ℕ) (c : Codelet) → at < length cs → c ≡ get_or cs at c → slice_get cs at ≡ Some c
item_at cs at c h e = slice_get-get_or cs at c h ∙ ap Some (sym e)

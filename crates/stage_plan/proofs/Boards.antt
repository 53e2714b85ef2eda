-- Counts of places.
use Rattle.std.proofs.Common.{◌≡◌, ℕ, zero, suc, ◌+◌, ◌-◌, ◌≤◌, ◌<◌, ◌⊎◌, inl, inr, Bool, true, false, cond, ◌&&◌, ◌==◌, nat_lt, List, [], ◌∷◌, ◌++◌, length, set, get_or, Option, Some, None, refl, sym, ap, subst, ◌∙◌, arith, IfSome}
use Rattle.std.proofs.lemmas.List.{length-set, get_or-set_same, get_or-set_other}
use Rattle.std.proofs.lemmas.List.Sums.{fold-append}
use Rattle.std.proofs.lemmas.Bool.{eqb-true, eq-eqb, ltb-true, and_parts}
use Rattle.codelets.specs.declared.codelet.Kind.{Kind}
use Rattle.codelets.specs.declared.codelet.Kind.TheVariants.{Stateless, Stateful}
use Rattle.stage_plan.specs.declared.place.Place.{Place}
use Rattle.stage_plan.specs.declared.board.Board.{Board}
use Rattle.stage_plan.specs.Schedule.{atoms_at, stands_at, is_kind, other_kind, stage_at, first_from, has_room, width}
use Rattle.stage_plan.specs.Board.{IsCounted, counts_of}
use Rattle.stage_plan.proofs.Firsts.{first_same, first_is}

plus_zero : (n : ℕ) → n ≡ n + 0
plus_zero n = omega arith

pub atoms_more : (placed : List Place) (p : Place) (k : Kind) (s : ℕ) → atoms_at (placed ++ p ∷ []) k s ≡ atoms_at placed k s + cond (stands_at k s p) 1 0
atoms_more placed p k s = fold-append _ 0 placed (p ∷ [])

pub is_own : (k : Kind) → is_kind k k ≡ true
is_own Stateless = refl
is_own Stateful = refl

is_other : (k : Kind) → is_kind (other_kind k) k ≡ false
is_other Stateless = refl
is_other Stateful = refl

pub kinds : (k kind : Kind) → (k ≡ kind) ⊎ (k ≡ other_kind kind)
kinds Stateless Stateless = inl refl
kinds Stateless Stateful = inr refl
kinds Stateful Stateless = inr refl
kinds Stateful Stateful = inl refl

raised : (l : List ℕ) (stage s h : ℕ) → stage < length l → get_or l s 0 ≡ h → get_or (set l stage (get_or l stage 0 + 1)) s 0 ≡ h + cond (s == stage) 1 0
raised l stage s h w e = by_case (s == stage) refl
  where
    by_case : (t : Bool) → (s == stage) ≡ t → get_or (set l stage (get_or l stage 0 + 1)) s 0 ≡ h + cond t 1 0
    by_case true f =
        let same : s ≡ stage = eqb-true s stage f in
        ap (λ k. get_or (set l stage (get_or l stage 0 + 1)) k 0) same ∙ get_or-set_same l stage (get_or l stage 0 + 1) 0 w ∙ ap (λ k. get_or l k 0 + 1) (sym same) ∙ ap (λ n. n + 1) e
    by_case false f =
        get_or-set_other l stage s (get_or l stage 0 + 1) 0 (λ q. absurd (let t = eq-eqb s stage q in cc)) ∙ e ∙ omega arith

stage_bound : (placed : List Place) (p : Place) (d : ℕ) → ((u : ℕ) → stage_at placed u ≤ d) → p.stage ≤ d → (u : ℕ) → stage_at (placed ++ p ∷ []) u ≤ d
stage_bound [] p d h e zero = e
stage_bound [] p d h e (suc u) = omega arith
stage_bound (q ∷ qs) p d h e zero = h 0
stage_bound (q ∷ qs) p d h e (suc u) = stage_bound qs p d (λ v. h (suc v)) e u

pub counted_more : (old new : Board) (kind : Kind) (stage : ℕ) → new.placed.items ≡ old.placed.items ++ record { kind = kind; stage = stage } ∷ [] → counts_of new kind ≡ set (counts_of old kind) stage (get_or (counts_of old kind) stage 0 + 1) → counts_of new (other_kind kind) ≡ counts_of old (other_kind kind) → new.depth ≡ old.depth → IsCounted old → stage ≤ old.depth → IsCounted new
counted_more old new kind stage placed own other deep c within = record {
  lengths = λ k. lengths_by k (kinds k kind);
  counts = λ k s h. counts_by k s (kinds k kind) (rw deep at h);
  within = λ u. subst (λ (l : List Place). stage_at l u ≤ new.depth) (sym placed) (rw deep (stage_bound old.placed.items (record { kind = kind; stage = stage }) old.depth c.within within u));
  depth = rw deep c.depth;
}
  where
    lengths_by : (k : Kind) → (k ≡ kind) ⊎ (k ≡ other_kind kind) → length (counts_of new k) ≡ new.depth + 1
    lengths_by k (inl e) = rw e (rw own (rw (length-set (counts_of old kind) stage (get_or (counts_of old kind) stage 0 + 1)) (rw deep (c.lengths kind))))
    lengths_by k (inr e) = rw e (rw other (rw deep (c.lengths (other_kind kind))))

    counts_by : (k : Kind) (s : ℕ) → (k ≡ kind) ⊎ (k ≡ other_kind kind) → s ≤ old.depth → get_or (counts_of new k) s 0 ≡ atoms_at new.placed.items k s
    counts_by k s (inl e) h =
        let long = c.lengths kind in
        let p : Place = record { kind = kind; stage = stage } in
        rw e (rw own (raised (counts_of old kind) stage s (atoms_at old.placed.items kind s) (omega arith) (c.counts kind s h))
        ∙ ap (λ t. atoms_at old.placed.items kind s + cond (t && s == stage) 1 0) (sym (is_own kind))
        ∙ sym (atoms_more old.placed.items p kind s)
        ∙ ap (λ (l : List Place). atoms_at l kind s) (sym placed))
    counts_by k s (inr e) h =
        let p : Place = record { kind = kind; stage = stage } in
        rw e (rw other (c.counts (other_kind kind) s h)
        ∙ plus_zero (atoms_at old.placed.items (other_kind kind) s)
        ∙ ap (λ t. atoms_at old.placed.items (other_kind kind) s + cond (t && s == stage) 1 0) (sym (is_other kind))
        ∙ sym (atoms_more old.placed.items p (other_kind kind) s)
        ∙ ap (λ (l : List Place). atoms_at l (other_kind kind) s) (sym placed))

pub found_in : (b : Board) (kind : Kind) (w from : ℕ) (l : List ℕ) → IsCounted b → l ≡ counts_of b kind → from ≤ b.depth → first_from (λ s. nat_lt (get_or l s 0) w) (from + 1) (length l - (from + 1)) ≡ first_from (λ s. nat_lt (atoms_at b.placed.items kind s) w) (from + 1) (b.depth - from)
found_in b kind w from l c e h =
    ap (λ (m : List ℕ). first_from (λ s. nat_lt (get_or m s 0) w) (from + 1) (length m - (from + 1))) e
    ∙ ap (λ n. first_from (λ s. nat_lt (get_or (counts_of b kind) s 0) w) (from + 1) n) (let n = c.lengths kind in let m : length (counts_of b kind) - (from + 1) ≡ b.depth - from = omega arith in m)
    ∙ first_same (λ s. nat_lt (get_or (counts_of b kind) s 0) w) (λ s. nat_lt (atoms_at b.placed.items kind s) w) (from + 1) (b.depth - from) (λ s low high. ap (λ n. nat_lt n w) (c.counts kind s (omega arith)))

pub full_in : (b : Board) (kind : Kind) (w : ℕ) (l : List ℕ) → IsCounted b → l ≡ counts_of b kind → first_from (λ s. get_or l s 0 == w) 1 (length l - 1) ≡ first_from (λ s. atoms_at b.placed.items kind s == w) 1 b.depth
full_in b kind w l c e =
    ap (λ (m : List ℕ). first_from (λ s. get_or m s 0 == w) 1 (length m - 1)) e
    ∙ ap (λ n. first_from (λ s. get_or (counts_of b kind) s 0 == w) 1 n) (let n = c.lengths kind in let m : length (counts_of b kind) - 1 ≡ b.depth = omega arith in m)
    ∙ first_same (λ s. get_or (counts_of b kind) s 0 == w) (λ s. atoms_at b.placed.items kind s == w) 1 b.depth (λ s low high. ap (λ n. n == w) (c.counts kind s (omega arith)))

pub some_room : (sl sf : ℕ) (placed : List Place) (kind : Kind) (at n : ℕ) (o : Option ℕ) → o ≡ first_from (has_room sl sf placed kind) at n → IfSome o (λ s. atoms_at placed kind s < width sl sf kind)
some_room sl sf placed kind at n None e = tt
some_room sl sf placed kind at n (Some s) e = ltb-true _ _ (first_is (has_room sl sf placed kind) at n s (sym e)).passes

kind_same : (k kind : Kind) → is_kind k kind ≡ true → k ≡ kind
kind_same Stateless Stateless e = refl
kind_same Stateless Stateful e = absurd (cc)
kind_same Stateful Stateless e = absurd (cc)
kind_same Stateful Stateful e = refl

-- one more place, where there was room
pub width_more : (sl sf : ℕ) (placed : List Place) (kind : Kind) (stage : ℕ) → ((k : Kind) (s : ℕ) → atoms_at placed k s ≤ width sl sf k) → atoms_at placed kind stage < width sl sf kind → (k : Kind) (s : ℕ) → atoms_at (placed ++ record { kind = kind; stage = stage } ∷ []) k s ≤ width sl sf k
width_more sl sf placed kind stage w room k s =
    let p : Place = record { kind = kind; stage = stage } in
    rw (atoms_more placed p k s) (by_case (stands_at k s p) refl)
  where
    by_case : (t : Bool) → (is_kind k kind && s == stage) ≡ t → atoms_at placed k s + cond t 1 0 ≤ width sl sf k
    by_case true e =
        let both = and_parts (is_kind k kind) (s == stage) e in
        let a : k ≡ kind = kind_same k kind both.0 in
        let b : s ≡ stage = eqb-true s stage both.1 in
        rw (a, b) (omega arith)
    by_case false e = let h = w k s in omega arith

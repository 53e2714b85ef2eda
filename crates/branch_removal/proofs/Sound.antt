-- The steps of statements do what the statements do.
use Rattle.std.proofs.Common.{◌≡◌, ℕ, ◌+◌, Bool, true, false, not, ◌&&◌, List, [], ◌∷◌, ◌++◌, map, refl, sym, ap, ◌∙◌, subst, arith, if◌then◌else◌}
use Rattle.std.specs.Prelude.{slice_set}
use Rattle.std.proofs.lemmas.Bool.{ne_eqb, eq-eqb}
use Rattle.std.proofs.lemmas.List.{set-get_or}
use Rattle.std.proofs.lemmas.List.Sums.{fold-append}
use Rattle.dom_words.specs.Operators.{bin_word, chosen, is_true, un_word}
use Rattle.dom_words.specs.State.{Hash, array_of, element_of, fetched, stored}
use Rattle.dom_ast.specs.declared.part.Goal.{Goal}
use Rattle.dom_ast.specs.declared.part.Goal.TheVariants as goal
use Rattle.dom_ast.specs.Kept.{act_visits, acts_visits, are_within, goal_within, ops_within, part_within, parts_within, resolved_ranges, visit_within}
use Rattle.dom_ast.specs.Meaning.{Env, acted, all_acted, assigned, folded, names_in, place_word, value_in, values}
use Rattle.dom_ast.specs.Resolved.{PartForm, number, field, state, fresh, made, call, un, chain, choice, PartForms, no_parts, part, OpForms, no_ops, op, ActForm, assign, branch, ActForms, no_acts, act}
use Rattle.dom_ast.specs.Straight.{StepForm, all_stepped, stepped}
use Rattle.branch_removal.specs.declared.branch.Branch.{Branch}
use Rattle.branch_removal.specs.declared.branch.Branch.TheVariants.{Then, Else}
use Rattle.branch_removal.specs.Branches.{act_ifs, act_steps, acts_ifs, acts_steps, guarded, guarded_at, moved, step}
use Rattle.branch_removal.proofs.Tests.{both, both_parts, none_below, not_false, not_true}
use Rattle.branch_removal.proofs.Targets.{AreFrom, IsFrom, acts_from, are_from_sooner, guarded_from}

-- the same packet and state; fresh names may differ
pub record Same (a b : Env) : Type 0 where
  pub packet : a.packet ≡ b.packet
  pub arrays : a.arrays ≡ b.arrays

pub same_refl : (e : Env) → Same e e
same_refl e = record { packet = refl; arrays = refl }

pub same_trans : (a b c : Env) → Same a b → Same b c → Same a c
same_trans a b c p q = record { packet = p.packet ∙ q.packet; arrays = p.arrays ∙ q.arrays }

abbrev pub env : List ℕ → List (List ℕ) → (ℕ → ℕ) → Env
env packet arrays names = record { packet = packet; arrays = arrays; fresh = names }

abbrev pub branch_name : Branch → ℕ
branch_name (Then k) = k
branch_name (Else k) = k

abbrev pub is_taken : Branch → Env → Bool
is_taken (Then k) e = is_true (e.fresh k)
is_taken (Else k) e = not (is_true (e.fresh k))

taken_alike : (b : Branch) (d e : Env) → d.fresh (branch_name b) ≡ e.fresh (branch_name b) → is_taken b d ≡ is_taken b e
taken_alike (Then k) d e h = ap is_true h
taken_alike (Else k) d e h = ap (λ w. not (is_true w)) h

module _ (h : Hash) (fields arrays : ℕ) where
  mutual
    value_alike : (p : PartForm) (P : List ℕ) (S : List (List ℕ)) (f g : ℕ → ℕ) → part_within (resolved_ranges fields arrays) p ≡ true → value_in h (env P S f) p ≡ value_in h (env P S g) p
    value_alike (number w) P S f g pl = refl
    value_alike (field k) P S f g pl = refl
    value_alike (state a i) P S f g pl = refl
    value_alike (fresh k) P S f g pl = absurd (none_below k pl)
    value_alike (made k) P S f g pl = refl
    value_alike (call unit ps) P S f g pl = ap (h unit) (values_alike ps P S f g (both _ (parts_within (resolved_ranges fields arrays) ps) pl).1)
    value_alike (un o p) P S f g pl = ap (un_word o) (value_alike p P S f g pl)
    value_alike (chain p os) P S f g pl =
        let parts = both (part_within (resolved_ranges fields arrays) p) (ops_within (resolved_ranges fields arrays) os) pl in
        ap (λ w. folded h (names_in (env P S f)) w os) (value_alike p P S f g parts.0)
        ∙ folded_alike os (value_in h (env P S g) p) P S f g parts.1
    value_alike (choice c p q) P S f g pl =
        let r = resolved_ranges fields arrays in
        let parts = both (part_within r c) (part_within r p && part_within r q) pl in
        let sides = both (part_within r p) (part_within r q) parts.1 in
        ap (λ w. chosen w (value_in h (env P S f) p) (value_in h (env P S f) q)) (value_alike c P S f g parts.0)
        ∙ ap (λ w. chosen (value_in h (env P S g) c) w (value_in h (env P S f) q)) (value_alike p P S f g sides.0)
        ∙ ap (λ w. chosen (value_in h (env P S g) c) (value_in h (env P S g) p) w) (value_alike q P S f g sides.1)

    values_alike : (ps : PartForms) (P : List ℕ) (S : List (List ℕ)) (f g : ℕ → ℕ) → parts_within (resolved_ranges fields arrays) ps ≡ true → values h (names_in (env P S f)) ps ≡ values h (names_in (env P S g)) ps
    values_alike no_parts P S f g pl = refl
    values_alike (part p ps) P S f g pl =
        let parts = both (part_within (resolved_ranges fields arrays) p) (parts_within (resolved_ranges fields arrays) ps) pl in
        ap (λ w. w ∷ values h (names_in (env P S f)) ps) (value_alike p P S f g parts.0)
        ∙ ap (λ ws. value_in h (env P S g) p ∷ ws) (values_alike ps P S f g parts.1)

    folded_alike : (os : OpForms) (w : ℕ) (P : List ℕ) (S : List (List ℕ)) (f g : ℕ → ℕ) → ops_within (resolved_ranges fields arrays) os ≡ true → folded h (names_in (env P S f)) w os ≡ folded h (names_in (env P S g)) w os
    folded_alike no_ops w P S f g pl = refl
    folded_alike (op o p os) w P S f g pl =
        let parts = both (part_within (resolved_ranges fields arrays) p) (ops_within (resolved_ranges fields arrays) os) pl in
        ap (λ v. folded h (names_in (env P S f)) (bin_word o w v) os) (value_alike p P S f g parts.0)
        ∙ folded_alike os (bin_word o w (value_in h (env P S g) p)) P S f g parts.1

  -- an expression of the program has one word in environments that are the same
  pub value_same : (p : PartForm) (a b : Env) → part_within (resolved_ranges fields arrays) p ≡ true → Same a b → value_in h a p ≡ value_in h b p
  value_same p a b pl s =
      value_alike p a.packet a.arrays a.fresh b.fresh pl
      ∙ ap (λ P. value_in h (env P a.arrays b.fresh) p) s.packet
      ∙ ap (λ S. value_in h (env b.packet S b.fresh) p) s.arrays

  assigned_same : (g : Goal) (w : ℕ) (a b : Env) → goal_within (resolved_ranges fields arrays) g ≡ true → Same a b → Same (assigned g w a) (assigned g w b)
  assigned_same (goal.Field f) w a b pl s = record { packet = ap (λ P. slice_set P f w) s.packet; arrays = s.arrays }
  assigned_same (goal.State k i) w a b pl s =
      record {
        packet = s.packet;
        arrays = ap (λ P. stored a.arrays k (place_word i P) w) s.packet ∙ ap (λ S. stored S k (place_word i b.packet) w) s.arrays;
      }
  assigned_same (goal.Fresh k) w a b pl s = absurd (none_below k pl)

  pub run-append : (ss ts : List StepForm) (e : Env) → all_stepped h e (ss ++ ts) ≡ all_stepped h (all_stepped h e ss) ts
  run-append ss ts e = fold-append (stepped h) e ss ts

  -- a fresh name before those that steps give words to stays
  name_stays : (n : ℕ) (g : Goal) (w : ℕ) (e : Env) → IsFrom (n + 1) g → (assigned g w e).fresh n ≡ e.fresh n
  name_stays n (goal.Field f) w e from = refl
  name_stays n (goal.State a i) w e from = refl
  name_stays n (goal.Fresh k) w e from =
      ap (λ (b : Bool). if b then w else e.fresh n) (ne_eqb n k (λ (q : n ≡ k). omega arith))

  pub stays : (n : ℕ) (ss : List StepForm) (e : Env) → AreFrom (n + 1) ss → (all_stepped h e ss).fresh n ≡ e.fresh n
  stays n [] e from = refl
  stays n (s ∷ ss) e from = stays n ss (stepped h e s) from.1 ∙ name_stays n s.target (value_in h e s.value) e from.0

  moved_taken : (b : Branch) (p q : PartForm) (e : Env) → is_taken b e ≡ true → value_in h e (moved b p q) ≡ value_in h e p
  moved_taken (Then k) p q e t = ap (λ (b : Bool). if b then value_in h e p else value_in h e q) t
  moved_taken (Else k) p q e t =
      ap (λ (b : Bool). if b then value_in h e q else value_in h e p) (not_true (is_true (e.fresh k)) t)

  moved_left : (b : Branch) (p q : PartForm) (e : Env) → is_taken b e ≡ false → value_in h e (moved b p q) ≡ value_in h e q
  moved_left (Then k) p q e t = ap (λ (b : Bool). if b then value_in h e p else value_in h e q) t
  moved_left (Else k) p q e t =
      ap (λ (b : Bool). if b then value_in h e q else value_in h e p) (not_false (is_true (e.fresh k)) t)

  -- a step of a branch that is taken does what it did
  guarded_taken : (b : Branch) (g : Goal) (p : PartForm) (e : Env) → is_taken b e ≡ true → stepped h e (guarded_at b g p) ≡ stepped h e (step g p)
  guarded_taken b (goal.Field f) p e t = ap (λ w. assigned (goal.Field f) w e) (moved_taken b p (field f) e t)
  guarded_taken b (goal.State a i) p e t = ap (λ w. assigned (goal.State a i) w e) (moved_taken b p (state a i) e t)
  guarded_taken b (goal.Fresh k) p e t = refl

  pub taken : (b : Branch) (ss : List StepForm) (e : Env) → AreFrom (branch_name b + 1) ss → is_taken b e ≡ true → all_stepped h e (map (guarded b) ss) ≡ all_stepped h e ss
  taken b [] e from t = refl
  taken b (s ∷ ss) e from t =
      let next = stepped h e s in
      ap (λ d. all_stepped h d (map (guarded b) ss)) (guarded_taken b s.target s.value e t)
      ∙ taken b ss next from.1 (taken_alike b next e (name_stays (branch_name b) s.target (value_in h e s.value) e from.0) ∙ t)

  -- an element that is stored where it was fetched from changes nothing
  stored-fetched : (S : List (List ℕ)) (a index : ℕ) → stored S a index (fetched S a index) ≡ S
  stored-fetched S a index =
      ap (slice_set S a) (set-get_or (array_of S a) (element_of (array_of S a) index) 0) ∙ set-get_or S a []

  -- a step of a branch that is not taken changes neither the packet nor the state
  guarded_left : (b : Branch) (g : Goal) (p : PartForm) (e : Env) → is_taken b e ≡ false → Same (stepped h e (guarded_at b g p)) e
  guarded_left b (goal.Field f) p e t =
      record { packet = ap (slice_set e.packet f) (moved_left b p (field f) e t) ∙ set-get_or e.packet f 0; arrays = refl }
  guarded_left b (goal.State a i) p e t =
      record {
        packet = refl;
        arrays = ap (stored e.arrays a (place_word i e.packet)) (moved_left b p (state a i) e t) ∙ stored-fetched e.arrays a (place_word i e.packet);
      }
  guarded_left b (goal.Fresh k) p e t = record { packet = refl; arrays = refl }

  pub left : (b : Branch) (ss : List StepForm) (e : Env) → AreFrom (branch_name b + 1) ss → is_taken b e ≡ false → Same (all_stepped h e (map (guarded b) ss)) e
  left b [] e from t = same_refl e
  left b (s ∷ ss) e from t =
      let next = stepped h e (guarded b s) in
      let kept = stays (branch_name b) (guarded b s ∷ []) e ((guarded_from b (branch_name b + 1) (s ∷ []) (from.0, tt))) in
      same_trans _ next e (left b ss next from.1 (taken_alike b next e kept ∙ t)) (guarded_left b s.target s.value e t)

  -- an `if`, from what its two branches do
  branched : (n : ℕ) (c : PartForm) (ss ts : List StepForm) (x y : Env) (on_true on_false : Env) → part_within (resolved_ranges fields arrays) c ≡ true → AreFrom (n + 1) ss → AreFrom (n + 1) ts → Same x y → ((e : Env) → Same e y → Same (all_stepped h e ss) on_true) → ((e : Env) → Same e y → Same (all_stepped h e ts) on_false) → Same (all_stepped h x (step (goal.Fresh n) c ∷ (map (guarded (Then n)) ss ++ map (guarded (Else n)) ts))) (if is_true (value_in h y c) then on_true else on_false)
  branched n c ss ts x y on_true on_false pl fs ft s runs_s runs_t =
      subst (λ e. Same e (if is_true (value_in h y c) then on_true else on_false)) (sym (run-append (map (guarded (Then n)) ss) (map (guarded (Else n)) ts) start)) (by_case (is_true (value_in h y c)) refl)
    where
      start : Env
      start = stepped h x (step (goal.Fresh n) c)

      start_same : Same start y
      start_same = record { packet = s.packet; arrays = s.arrays }

      test : start.fresh n ≡ value_in h y c
      test = ap (λ (b : Bool). if b then value_in h x c else x.fresh n) (eq-eqb n n refl) ∙ value_same c x y pl s

      after : Env
      after = all_stepped h start (map (guarded (Then n)) ss)

      after_test : after.fresh n ≡ value_in h y c
      after_test = stays n (map (guarded (Then n)) ss) start (guarded_from (Then n) (n + 1) ss fs) ∙ test

      by_case : (t : Bool) → is_true (value_in h y c) ≡ t → Same (all_stepped h after (map (guarded (Else n)) ts)) (if t then on_true else on_false)
      by_case true e =
          same_trans (all_stepped h after (map (guarded (Else n)) ts)) after on_true (left (Else n) ts after ft (ap (λ w. not (is_true w)) after_test ∙ ap not e)) (subst (λ d. Same d on_true) (sym (taken (Then n) ss start fs (ap is_true test ∙ e))) (runs_s start start_same))
      by_case false e =
          subst (λ d. Same d on_false) (sym (taken (Else n) ts after ft (ap (λ w. not (is_true w)) after_test ∙ ap not e))) (runs_t after (same_trans after start y (left (Then n) ss start fs (ap is_true test ∙ e)) start_same))

  mutual
    act_means : (n : ℕ) (a : ActForm) (x y : Env) → are_within (resolved_ranges fields arrays) (act_visits a) ≡ true → Same x y → Same (all_stepped h x (act_steps n a)) (acted h a y)
    act_means n (assign g p) x y pl s =
        let r = resolved_ranges fields arrays in
        let visit = both (part_within r p) (goal_within r g) (both (part_within r p && goal_within r g) true pl).0 in
        subst (λ w. Same (assigned g (value_in h x p) x) (assigned g w y)) (value_same p x y visit.0 s) (assigned_same g (value_in h x p) x y visit.1 s)
    act_means n (branch c a b) x y pl s =
        let r = resolved_ranges fields arrays in
        let parts = both (part_within r c && true) (are_within r (acts_visits a ++ acts_visits b)) pl in
        let sides = both_parts (visit_within r) (acts_visits a) (acts_visits b) parts.1 in
        branched n c (acts_steps (n + 1) a) (acts_steps (n + 1 + acts_ifs a) b) x y (all_acted h a y) (all_acted h b y) (both (part_within r c) true parts.0).0 (acts_from fields arrays (n + 1) a sides.0) (are_from_sooner (n + 1) (n + 1 + acts_ifs a) _ (omega arith) (acts_from fields arrays (n + 1 + acts_ifs a) b sides.1)) s (λ e same. acts_mean (n + 1) a e y sides.0 same) (λ e same. acts_mean (n + 1 + acts_ifs a) b e y sides.1 same)

    pub acts_mean : (n : ℕ) (acts : ActForms) (x y : Env) → are_within (resolved_ranges fields arrays) (acts_visits acts) ≡ true → Same x y → Same (all_stepped h x (acts_steps n acts)) (all_acted h acts y)
    acts_mean n no_acts x y pl s = s
    acts_mean n (act a rest) x y pl s =
        let parts = both_parts (visit_within (resolved_ranges fields arrays)) (act_visits a) (acts_visits rest) pl in
        subst (λ e. Same e (all_acted h rest (acted h a y))) (sym (run-append (act_steps n a) (acts_steps (n + act_ifs a) rest) x)) (acts_mean (n + act_ifs a) rest (all_stepped h x (act_steps n a)) (acted h a y) parts.1 (act_means n a x y parts.0 s))

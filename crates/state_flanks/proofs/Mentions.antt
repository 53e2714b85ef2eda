-- Which arrays are mentioned, and at which index.
use Rattle.std.proofs.Common.{◌≡◌, ◌≢◌, ℕ, Bool, true, false, not, ◌&&◌, ◌||◌, nat_eq, nat_lt, List, [], ◌∷◌, ◌++◌, map, refl, sym, ap, ◌∙◌, if◌then◌else◌}
use Rattle.std.specs.List.{list_all}
use Rattle.std.proofs.lemmas.Bool.{false≢true, eq-eqb, eqb-true}
use Rattle.std.proofs.lemmas.List.Folds.{list_any-append}
use Rattle.dom_ast.specs.declared.part.Goal.{Goal}
use Rattle.dom_ast.specs.declared.part.Goal.TheVariants as goal
use Rattle.dom_ast.specs.declared.part.Place.{Place}
use Rattle.dom_ast.specs.declared.part.Place.TheVariants as place
use Rattle.dom_ast.specs.Kept.{Mention, Ranges, agree, parts_count, goal_mentions, goal_within, have_one_index, is_no_index, is_same_place, mentions_in, ops_mentions, ops_within, part_mentions, part_within, parts_mentions, parts_within, place_within, visit_within}
use Rattle.dom_ast.specs.Resolved.{PartForm, number, field, state, fresh, made, call, un, chain, choice, PartForms, no_parts, part, OpForms, no_ops, op}
use Rattle.dom_ast.specs.Straight.{StepForm, step_visit}
use Rattle.state_flanks.specs.WithFlanks.{is_mentioned, step_mentions}
use Rattle.state_flanks.proofs.Tests.{all_weaker, both, join, join_parts, or_left, or_right}

abbrev pub steps_mentions : List StepForm → List Mention
steps_mentions ss = mentions_in (map step_visit ss)

-- a number is that of the array or not
pub data Equal : ℕ → ℕ → Type 0 where
  same : {a b : ℕ} → a ≡ b → nat_eq a b ≡ true → Equal a b
  other : {a b : ℕ} → a ≢ b → nat_eq a b ≡ false → Equal a b

pub equal : (a b : ℕ) → Equal a b
equal a b = by_test (nat_eq a b) refl
  where
    by_test : (t : Bool) → nat_eq a b ≡ t → Equal a b
    by_test true e = same (eqb-true a b e) e
    by_test false e = other (λ (q : a ≡ b). false≢true (sym e ∙ eq-eqb a b q)) e

pub mentioned_before : (before ms : List Mention) (a : ℕ) → is_mentioned before a ≡ true → is_mentioned (before ++ ms) a ≡ true
mentioned_before before ms a h =
    list_any-append (λ m. nat_eq m.array a) before ms ∙ or_left (is_mentioned before a) (is_mentioned ms a) h

pub mentioned_after : (before ms : List Mention) (a : ℕ) → is_mentioned ms a ≡ true → is_mentioned (before ++ ms) a ≡ true
mentioned_after before ms a h =
    list_any-append (λ m. nat_eq m.array a) before ms ∙ or_right (is_mentioned before a) (is_mentioned ms a) h

-- one more mention
pub mentioned_now : (before : List Mention) (m : Mention) → is_mentioned (before ++ m ∷ []) m.array ≡ true
mentioned_now before m =
    mentioned_after before (m ∷ []) m.array (or_left (nat_eq m.array m.array) false (eq-eqb m.array m.array refl))

pub mentioned_other : (before : List Mention) (m : Mention) (a : ℕ) → nat_eq m.array a ≡ false → is_mentioned (before ++ m ∷ []) a ≡ is_mentioned before a
mentioned_other before m a e =
    list_any-append (λ m. nat_eq m.array a) before (m ∷ []) ∙ ap (λ x. is_mentioned before a || (x || false)) e ∙ or_none (is_mentioned before a)
  where
    or_none : (b : Bool) → (b || false) ≡ b
    or_none true = refl
    or_none false = refl

-- each of these mentions is of an array that is mentioned among those
abbrev pub are_mentioned : List Mention → List Mention → Bool
are_mentioned before ms = list_all (λ m. is_mentioned before m.array) ms

pub mentioned_themselves : (ms : List Mention) → are_mentioned ms ms ≡ true
mentioned_themselves [] = refl
mentioned_themselves (m ∷ ms) =
    join (nat_eq m.array m.array || is_mentioned ms m.array) (are_mentioned (m ∷ ms) ms) (or_left (nat_eq m.array m.array) (is_mentioned ms m.array) (eq-eqb m.array m.array refl)) (all_weaker (λ n. is_mentioned ms n.array) (λ n. is_mentioned (m ∷ ms) n.array) (λ n. or_right (nat_eq m.array n.array) (is_mentioned ms n.array)) ms (mentioned_themselves ms))

pub are_mentioned_after : (before ms : List Mention) → are_mentioned (before ++ ms) ms ≡ true
are_mentioned_after before ms =
    all_weaker (λ n. is_mentioned ms n.array) (λ n. is_mentioned (before ++ ms) n.array) (λ n. mentioned_after before ms n.array) ms (mentioned_themselves ms)

-- mentions of arrays below n
abbrev pub are_below : ℕ → List Mention → Bool
are_below n ms = list_all (λ m. nat_lt m.array n) ms

-- a mention whose numbers are in range
abbrev pub is_in_range : Ranges → Mention → Bool
is_in_range r m = nat_lt m.array r.arrays && place_within r m.index

abbrev pub are_in_range : Ranges → List Mention → Bool
are_in_range r ms = list_all (is_in_range r) ms

module _ (r : Ranges) where
  mutual
    part_in_range : (p : PartForm) → part_within r p ≡ true → are_in_range r (part_mentions p) ≡ true
    part_in_range (number w) h = refl
    part_in_range (field f) h = refl
    part_in_range (state a i) h = join (nat_lt a r.arrays && place_within r i) true h refl
    part_in_range (fresh k) h = refl
    part_in_range (made k) h = refl
    part_in_range (call unit ps) h = parts_in_range ps (both (nat_eq (parts_count ps) unit.args) (parts_within r ps) h).1
    part_in_range (un o p) h = part_in_range p h
    part_in_range (chain p os) h =
        let parts = both (part_within r p) (ops_within r os) h in
        join_parts (is_in_range r) (part_mentions p) (ops_mentions os) (part_in_range p parts.0) (ops_in_range os parts.1)
    part_in_range (choice c p q) h =
        let parts = both (part_within r c) (part_within r p && part_within r q) h in
        let sides = both (part_within r p) (part_within r q) parts.1 in
        join_parts (is_in_range r) (part_mentions c) (part_mentions p ++ part_mentions q) (part_in_range c parts.0) (join_parts (is_in_range r) (part_mentions p) (part_mentions q) (part_in_range p sides.0) (part_in_range q sides.1))

    parts_in_range : (ps : PartForms) → parts_within r ps ≡ true → are_in_range r (parts_mentions ps) ≡ true
    parts_in_range no_parts h = refl
    parts_in_range (part p ps) h =
        let parts = both (part_within r p) (parts_within r ps) h in
        join_parts (is_in_range r) (part_mentions p) (parts_mentions ps) (part_in_range p parts.0) (parts_in_range ps parts.1)

    ops_in_range : (os : OpForms) → ops_within r os ≡ true → are_in_range r (ops_mentions os) ≡ true
    ops_in_range no_ops h = refl
    ops_in_range (op o p os) h =
        let parts = both (part_within r p) (ops_within r os) h in
        join_parts (is_in_range r) (part_mentions p) (ops_mentions os) (part_in_range p parts.0) (ops_in_range os parts.1)

  goal_in_range : (g : Goal) → goal_within r g ≡ true → are_in_range r (goal_mentions g) ≡ true
  goal_in_range (goal.Field f) h = refl
  goal_in_range (goal.State a i) h = join (nat_lt a r.arrays && place_within r i) true h refl
  goal_in_range (goal.Fresh k) h = refl

  pub step_in_range : (s : StepForm) → visit_within r (step_visit s) ≡ true → are_in_range r (step_mentions s) ≡ true
  step_in_range s h =
      let parts = both (part_within r s.value) (goal_within r s.target) h in
      join_parts (is_in_range r) (part_mentions s.value) (goal_mentions s.target) (part_in_range s.value parts.0) (goal_in_range s.target parts.1)

  pub step_below : (s : StepForm) → visit_within r (step_visit s) ≡ true → are_below r.arrays (step_mentions s) ≡ true
  step_below s h =
      all_weaker (is_in_range r) (λ m. nat_lt m.array r.arrays) (λ m fits. (both (nat_lt m.array r.arrays) (place_within r m.index) fits).0) (step_mentions s) (step_in_range s h)

pub place_same : (i j : Place) → is_same_place i j ≡ true → i ≡ j
place_same (place.Word w) (place.Word v) h = ap place.Word (eqb-true w v h)
place_same (place.Word w) (place.Field f) h = absurd (false≢true h)
place_same (place.Field f) (place.Word w) h = absurd (false≢true h)
place_same (place.Field f) (place.Field g) h = ap place.Field (eqb-true f g h)

-- the index of the first of these mentions of an array
abbrev pub first_index : List Mention → ℕ → Place
first_index [] a = place.Word 0
first_index (m ∷ ms) a = if nat_eq m.array a then m.index else first_index ms a

-- each of these mentions has the index of its array
abbrev pub AllAt : (ℕ → Place) → List Mention → Type 0
AllAt index [] = Unit {0}
AllAt index (m ∷ ms) = (m.index ≡ index m.array) × AllAt index ms

pub at_parts : (index : ℕ → Place) (ms ns : List Mention) → AllAt index (ms ++ ns) → AllAt index ms × AllAt index ns
at_parts index [] ns h = (tt, h)
at_parts index (m ∷ ms) ns h = let parts = at_parts index ms ns h.1 in ((h.0, parts.0), parts.1)

pub at_join : (index : ℕ → Place) (ms ns : List Mention) → AllAt index ms → AllAt index ns → AllAt index (ms ++ ns)
at_join index [] ns h k = k
at_join index (m ∷ ms) ns h k = (h.0, at_join index ms ns h.1 k)

found_first : (m : Mention) (ns : List Mention) → list_all (agree m) ns ≡ true → is_mentioned ns m.array ≡ true → m.index ≡ first_index ns m.array
found_first m [] h found = absurd (false≢true found)
found_first m (n ∷ ns) h found = by_number (equal n.array m.array) (λ there. found_first m ns parts.1 there)
  where
    parts : (agree m n ≡ true) × (list_all (agree m) ns ≡ true)
    parts = both (agree m n) (list_all (agree m) ns) h

    by_number : Equal n.array m.array → (is_mentioned ns m.array ≡ true → m.index ≡ first_index ns m.array) → m.index ≡ (if nat_eq n.array m.array then n.index else first_index ns m.array)
    by_number (same q e) rest =
        let here : is_same_place m.index n.index ≡ true = ap (λ x. not x || is_same_place m.index n.index) (sym (eq-eqb m.array n.array (sym q))) ∙ parts.0 in
        place_same m.index n.index here ∙ ap (λ (x : Bool). if x then n.index else first_index ns m.array) (sym e)
    by_number (other q e) rest =
        let later : is_mentioned ns m.array ≡ true = ap (λ x. x || is_mentioned ns m.array) (sym e) ∙ found in
        rest later ∙ ap (λ (x : Bool). if x then n.index else first_index ns m.array) (sym e)

pub at_first : (ms : List Mention) → have_one_index ms ≡ true → AllAt (first_index ms) ms
at_first ms h = walk ms h (mentioned_themselves ms)
  where
    walk : (ns : List Mention) → list_all (λ m. list_all (agree m) ms) ns ≡ true → are_mentioned ms ns ≡ true → AllAt (first_index ms) ns
    walk [] h found = tt
    walk (n ∷ ns) h found =
        let all = both (list_all (agree n) ms) (list_all (λ m. list_all (agree m) ms) ns) h in
        let here = both (is_mentioned ms n.array) (are_mentioned ms ns) found in
        (found_first n ms all.0 here.0, walk ns all.1 here.1)

-- a field that is no index in these mentions is not the index of an array that they mention
pub no_index_at : (index : ℕ → Place) (ms : List Mention) (f a : ℕ) → AllAt index ms → is_no_index ms f ≡ true → is_mentioned ms a ≡ true → not (is_same_place (index a) (place.Field f)) ≡ true
no_index_at index [] f a at h found = absurd (false≢true found)
no_index_at index (m ∷ ms) f a at h found = by_number (equal m.array a) (λ there. no_index_at index ms f a at.1 parts.1 there)
  where
    parts : (not (is_same_place m.index (place.Field f)) ≡ true) × (is_no_index ms f ≡ true)
    parts = both (not (is_same_place m.index (place.Field f))) (is_no_index ms f) h

    by_number : Equal m.array a → (is_mentioned ms a ≡ true → not (is_same_place (index a) (place.Field f)) ≡ true) → not (is_same_place (index a) (place.Field f)) ≡ true
    by_number (same q e) rest = ap (λ i. not (is_same_place i (place.Field f))) (sym (at.0 ∙ ap index q)) ∙ parts.0
    by_number (other q e) rest = rest (ap (λ x. x || is_mentioned ms a) (sym e) ∙ found)

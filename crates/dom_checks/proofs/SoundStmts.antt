-- What holds of statements whose checks hold.
use Rattle.std.proofs.Common.{◌≡◌, ℕ, Bool, true, false, not, ◌&&◌, nat_lt, List, [], ◌∷◌, ◌++◌, length, Option, Some, None, refl, sym, ap, ◌∙◌, subst, append_assoc}
use Rattle.std.proofs.lemmas.Bool.{and_from, and_parts, true≢false}
use Rattle.std.proofs.lemmas.Grind.{flat_map-append}
use Rattle.std.proofs.lemmas.List.{append-nil}
use Rattle.std.proofs.lemmas.List.Folds.{list_all-append}
use Rattle.dom_ast.specs.declared.part.Goal.{Goal}
use Rattle.dom_ast.specs.declared.part.Place.{Place}
use Rattle.dom_ast.specs.declared.part.Place.TheVariants as place
use Rattle.dom_ast.specs.Form.{TargetForm, to_word, to_field, to_index, StmtForm, assign, branch, StmtForms, no_stmts, stmt}
use Rattle.dom_ast.specs.Resolved.{PartForm}
use Rattle.dom_ast.specs.Kept.{Mention, Visit, act_visits, acts_visits, are_within, assignment, changes_none, condition, goal_mentions, goal_within, is_no_index, keep_indexes, mention, mentions_in, part_mentions, part_within, resolved_ranges, visit_mentions, visit_within}
use Rattle.dom_checks.specs.declared.faults.CheckFault.TheVariants as fault
use Rattle.dom_checks.specs.declared.meant.Meant.{Meant}
use Rattle.dom_checks.specs.declared.meant.Meant.TheVariants as meaning
use Rattle.dom_checks.specs.inner.Noted.{AreNumbers, are_settled}
use Rattle.dom_checks.specs.Resolve.{act_of, acts_of, element_goal, element_part, field_number, goal_of, part_of, place_of, word_goal}
use Rattle.dom_checks.specs.Scope.{Scope, meant}
use Rattle.dom_checks.specs.Walk.{check, expr_checks, field_checks, first_fault, is_array, is_declared, is_hash_name, is_target, stmt_checks, stmts_checks, target_checks}
use Rattle.dom_checks.proofs.FirstFaults.{at_check, back_holds, front_holds}
use Rattle.dom_checks.proofs.Sound.{IsSound, IsMeaning, expr_sound, field_inside, index_sound, its_meaning, word_sound}

pub mentions-append : (xs ys : List Visit) → mentions_in (xs ++ ys) ≡ mentions_in xs ++ mentions_in ys
mentions-append xs ys = flat_map-append visit_mentions xs ys

keep-append : (before : List Mention) (xs ys : List Visit) → keep_indexes before xs ≡ true → keep_indexes (before ++ mentions_in xs) ys ≡ true → keep_indexes before (xs ++ ys) ≡ true
keep-append before [] ys h k = subst (λ (ms : List Mention). keep_indexes ms ys ≡ true) (append-nil before) k
keep-append before (v ∷ vs) ys h k =
    let parts : (changes_none (before ++ part_mentions v.value) v.target ≡ true) × (keep_indexes (before ++ visit_mentions v) vs ≡ true) = and_parts (changes_none (before ++ part_mentions v.value) v.target) (keep_indexes (before ++ visit_mentions v) vs) h in
    and_from (changes_none (before ++ part_mentions v.value) v.target) (keep_indexes (before ++ visit_mentions v) (vs ++ ys)) parts.0
    (keep-append (before ++ visit_mentions v) vs ys parts.1 (subst (λ (ms : List Mention). keep_indexes ms ys ≡ true) (sym (append_assoc before (visit_mentions v) (mentions_in vs))) k))

-- what holds of visits after the mentions before them
pub record AreSound (scope : Scope) (before : List Mention) (visits : List Visit) : Type 0 where
  pub inside : are_within (resolved_ranges (length scope.fields) (length scope.arrays)) visits ≡ true
  pub kept : keep_indexes before visits ≡ true
  pub settled : are_settled scope.meanings before ≡ true → are_settled scope.meanings (before ++ mentions_in visits) ≡ true

pub no_visits : (scope : Scope) (before : List Mention) → AreSound scope before []
no_visits scope before = record {
  inside = refl;
  kept = refl;
  settled = λ s. subst (λ (ms : List Mention). are_settled scope.meanings ms ≡ true) (sym (append-nil before)) s;
}

-- visits after one another
pub chained : (scope : Scope) (before : List Mention) (xs ys : List Visit) → AreSound scope before xs → AreSound scope (before ++ mentions_in xs) ys → AreSound scope before (xs ++ ys)
chained scope before xs ys s t = record {
  inside =
      list_all-append (visit_within (resolved_ranges (length scope.fields) (length scope.arrays))) xs ys
      ∙ and_from (are_within (resolved_ranges (length scope.fields) (length scope.arrays)) xs) (are_within (resolved_ranges (length scope.fields) (length scope.arrays)) ys) s.inside t.inside;
  kept = keep-append before xs ys s.kept t.kept;
  settled = λ h. subst (λ (ms : List Mention). are_settled scope.meanings ms ≡ true) (append_assoc before (mentions_in xs) (mentions_in ys) ∙ ap (λ (ms : List Mention). before ++ ms) (sym (mentions-append xs ys))) (t.settled (s.settled h));
}

-- what the visits of a condition and an assignment mention
pub condition_mentions : (p : PartForm) → mentions_in (condition p ∷ []) ≡ part_mentions p
condition_mentions p = append-nil (part_mentions p ++ []) ∙ append-nil (part_mentions p)

pub assignment_mentions : (g : Goal) (p : PartForm) → mentions_in (assignment g p ∷ []) ≡ part_mentions p ++ goal_mentions g
assignment_mentions g p = append-nil (part_mentions p ++ goal_mentions g)

pub condition_sound : (g : Bool) (scope : Scope) (before : List Mention) (p : PartForm) → IsSound g scope before (part_within (resolved_ranges (length scope.fields) (length scope.arrays)) p) (part_mentions p) → AreSound scope before (condition p ∷ [])
condition_sound g scope before p s = record {
  inside = and_from (part_within (resolved_ranges (length scope.fields) (length scope.arrays)) p && true) true (and_from (part_within (resolved_ranges (length scope.fields) (length scope.arrays)) p) true s.inside refl) refl;
  kept = refl;
  settled = λ h. subst (λ (ms : List Mention). are_settled scope.meanings (before ++ ms) ≡ true) (sym (condition_mentions p)) (s.settled h);
}

-- what holds of a target after the mentions before it
pub record IsSoundGoal (scope : Scope) (before : List Mention) (g : Goal) : Type 0 where
  pub inside : goal_within (resolved_ranges (length scope.fields) (length scope.arrays)) g ≡ true
  pub kept : changes_none before (Some g) ≡ true
  pub settled : are_settled scope.meanings before ≡ true → are_settled scope.meanings (before ++ goal_mentions g) ≡ true

assignment_sound : (scope : Scope) (before : List Mention) (g : Goal) (p : PartForm) → IsSound false scope before (part_within (resolved_ranges (length scope.fields) (length scope.arrays)) p) (part_mentions p) → IsSoundGoal scope (before ++ part_mentions p) g → AreSound scope before (assignment g p ∷ [])
assignment_sound scope before g p s t = record {
  inside =
      let both : (part_within (resolved_ranges (length scope.fields) (length scope.arrays)) p && goal_within (resolved_ranges (length scope.fields) (length scope.arrays)) g) ≡ true = and_from _ _ s.inside t.inside in
      and_from _ true both refl;
  kept = and_from (changes_none (before ++ part_mentions p) (Some g)) true t.kept refl;
  settled = λ h.
      subst (λ (ms : List Mention). are_settled scope.meanings ms ≡ true) (append_assoc before (part_mentions p) (goal_mentions g) ∙ ap (λ (ms : List Mention). before ++ ms) (sym (assignment_mentions g p)))
      (t.settled (s.settled h));
}

module _ (scope : Scope) (numbers : AreNumbers (length scope.arrays) scope.meanings) where
  -- a scalar may be a target where it may be a value
  scalar_goal : (before : List Mention) (o : Option Meant) → ((m : Meant) → o ≡ Some m → IsMeaning scope.meanings m) → is_target o ≡ true → Rattle.std.specs.Option.is_some o ≡ true → IsSoundGoal scope before (word_goal o)
  scalar_goal before None is target there = absurd (true≢false (sym there))
  scalar_goal before (Some (meaning.Define w)) is target there = absurd (true≢false (sym target))
  scalar_goal before (Some (meaning.Scalar k)) is target there =
      let s : IsSound false scope before (nat_lt k (length scope.arrays) && true) (mention k (place.Word 0) ∷ []) = word_sound scope numbers false before (Some (meaning.Scalar k)) is refl in
      record { inside = s.inside; kept = refl; settled = s.settled }
  scalar_goal before (Some (meaning.Array k)) is target there = absurd (true≢false (sym target))
  scalar_goal before (Some meaning.Parameter) is target there = absurd (true≢false (sym target))

  -- an array with an index may be a target where it may be a value
  element_target : (before : List Mention) (o : Option Meant) (i : Place) → is_array o ≡ true → IsSound false scope before (part_within (resolved_ranges (length scope.fields) (length scope.arrays)) (element_part o i)) (part_mentions (element_part o i)) → IsSoundGoal scope before (element_goal o i)
  element_target before None i array s = absurd (true≢false (sym array))
  element_target before (Some (meaning.Define w)) i array s = absurd (true≢false (sym array))
  element_target before (Some (meaning.Scalar k)) i array s = absurd (true≢false (sym array))
  element_target before (Some (meaning.Array k)) i array s = record { inside = s.inside; kept = refl; settled = s.settled }
  element_target before (Some meaning.Parameter) i array s = absurd (true≢false (sym array))

  target_sound : (before : List Mention) (p : ℕ) (t : TargetForm) → first_fault (target_checks scope before p t) ≡ None → IsSoundGoal scope before (goal_of scope t)
  target_sound before p (to_word n) holds =
      let first : ((not (is_hash_name n) && is_target (meant scope n)) ≡ true) × (first_fault (check (fault.UnknownName p) (is_declared scope n) ∷ []) ≡ None) = at_check (fault.ShapeOfName p) (not (is_hash_name n) && is_target (meant scope n)) (check (fault.UnknownName p) (is_declared scope n) ∷ []) holds in
      scalar_goal before (meant scope n) (λ m is. its_meaning scope n m is) (and_parts (not (is_hash_name n)) (is_target (meant scope n)) first.0).1 (at_check (fault.UnknownName p) (is_declared scope n) [] first.1).0
  target_sound before p (to_field b q f) holds =
      let last = check (fault.IndexAssignedLater p) (is_no_index before (field_number scope f)) ∷ [] in
      record {
        inside = field_inside scope numbers p b q f (front_holds (field_checks scope p b q f) last holds);
        kept = (at_check (fault.IndexAssignedLater p) (is_no_index before (field_number scope f)) [] (back_holds (field_checks scope p b q f) last holds)).0;
        settled = λ s. subst (λ (ms : List Mention). are_settled scope.meanings ms ≡ true) (sym (append-nil before)) s;
      }
  target_sound before p (to_index n e) holds =
      let s = index_sound scope numbers false before p n e holds in
      element_target before (meant scope n) (place_of scope e) s.0 s.1

  mutual
    pub stmt_sound : (before : List Mention) (s : StmtForm) → first_fault (stmt_checks scope before s) ≡ None → AreSound scope before (act_visits (act_of scope s))
    stmt_sound before (assign p t e) holds =
        let rest = target_checks scope (before ++ part_mentions (part_of scope e)) p t in
        assignment_sound scope before (goal_of scope t) (part_of scope e)
        (expr_sound scope numbers false before e (front_holds (expr_checks false scope before e) rest holds))
        (target_sound (before ++ part_mentions (part_of scope e)) p t (back_holds (expr_checks false scope before e) rest holds))
    stmt_sound before (branch e a b) holds =
        let after = before ++ part_mentions (part_of scope e) in
        let last = stmts_checks scope (after ++ mentions_in (acts_visits (acts_of scope a))) b in
        let rest = stmts_checks scope after a ++ last in
        let others : first_fault rest ≡ None = back_holds (expr_checks false scope before e) rest holds in
        chained scope before (condition (part_of scope e) ∷ []) (acts_visits (acts_of scope a) ++ acts_visits (acts_of scope b))
        (condition_sound false scope before (part_of scope e) (expr_sound scope numbers false before e (front_holds (expr_checks false scope before e) rest holds)))
        (subst (λ (ms : List Mention). AreSound scope (before ++ ms) (acts_visits (acts_of scope a) ++ acts_visits (acts_of scope b))) (sym (condition_mentions (part_of scope e)))
        (chained scope after (acts_visits (acts_of scope a)) (acts_visits (acts_of scope b))
        (stmts_sound after a (front_holds (stmts_checks scope after a) last others))
        (stmts_sound (after ++ mentions_in (acts_visits (acts_of scope a))) b (back_holds (stmts_checks scope after a) last others))))

    pub stmts_sound : (before : List Mention) (ss : StmtForms) → first_fault (stmts_checks scope before ss) ≡ None → AreSound scope before (acts_visits (acts_of scope ss))
    stmts_sound before no_stmts holds = no_visits scope before
    stmts_sound before (stmt s ss) holds =
        let rest = stmts_checks scope (before ++ mentions_in (act_visits (act_of scope s))) ss in
        chained scope before (act_visits (act_of scope s)) (acts_visits (acts_of scope ss))
        (stmt_sound before s (front_holds (stmt_checks scope before s) rest holds))
        (stmts_sound (before ++ mentions_in (act_visits (act_of scope s))) ss (back_holds (stmt_checks scope before s) rest holds))

-- What holds of the guards and bodies of a program whose checks hold.
use Rattle.std.proofs.Common.{◌≡◌, ℕ, true, ◌&&◌, List, [], ◌∷◌, ◌++◌, length, map, Option, Some, None, refl, sym, ap, ◌∙◌, subst}
use Rattle.std.specs.List.{list_all}
use Rattle.std.proofs.lemmas.Bool.{and_from, and_parts}
use Rattle.std.proofs.lemmas.List.{append-nil}
use Rattle.dom_words.specs.Names.{is_same}
use Rattle.dom_ast.specs.Form.{ExprForm, TransactionForm}
use Rattle.dom_ast.specs.Resolved.{BodyForm, PartForm}
use Rattle.dom_ast.specs.Kept.{Mention, Visit, acts_visits, guards_mention_none, bodies_visits, condition, guard_visits, have_one_index, is_empty, guard_mentions_none, mentions_in, part_mentions, part_within, resolved_ranges}
use Rattle.dom_checks.specs.declared.faults.CheckFault.TheVariants as fault
use Rattle.dom_checks.specs.inner.Noted.{AreNumbers, are_settled, is_at_word}
use Rattle.dom_checks.specs.Resolve.{acts_of, body_of, guard_of, part_of}
use Rattle.dom_checks.specs.Scope.{Scope, with_param}
use Rattle.dom_checks.specs.Walk.{first_fault, guard_checks, name_checks, stmts_checks, stmts_mentions, transaction_checks, transactions_checks}
use Rattle.dom_checks.proofs.FirstFaults.{at_check, back_holds, front_holds}
use Rattle.dom_checks.proofs.Sound.{IsSound, expr_sound}
use Rattle.dom_checks.proofs.SoundStmts.{AreSound, chained, condition_mentions, mentions-append, no_visits, stmts_sound}

-- what holds of a guard: it mentions no array
record IsSoundGuard (scope : Scope) (before : List Mention) (guard : Option PartForm) : Type 0 where
  sound : AreSound scope before (guard_visits guard)
  silent : mentions_in (guard_visits guard) ≡ []
  free : guard_mentions_none guard ≡ true

condition_silent : (scope : Scope) (before : List Mention) (p : PartForm) → IsSound true scope before (part_within (resolved_ranges (length scope.fields) (length scope.arrays)) p) (part_mentions p) → IsSoundGuard scope before (Some p)
condition_silent scope before p s =
    let none : part_mentions p ≡ [] = s.free refl in
    let silent : mentions_in (condition p ∷ []) ≡ [] = condition_mentions p ∙ none in
    record {
      sound = record {
        inside = and_from (part_within (resolved_ranges (length scope.fields) (length scope.arrays)) p && true) true (and_from (part_within (resolved_ranges (length scope.fields) (length scope.arrays)) p) true s.inside refl) refl;
        kept = refl;
        settled = λ h. subst (λ (ms : List Mention). are_settled scope.meanings (before ++ ms) ≡ true) (none ∙ sym silent) (s.settled h);
      };
      silent = silent;
      free = ap is_empty none;
    }

guard_sound : (scope : Scope) → AreNumbers (length scope.arrays) scope.meanings → (before : List Mention) (g : Option ExprForm) → first_fault (guard_checks scope before g) ≡ None → IsSoundGuard scope before (guard_of scope g)
guard_sound scope numbers before None holds = record { sound = no_visits scope before; silent = refl; free = refl }
guard_sound scope numbers before (Some e) holds = condition_silent scope before (part_of scope e) (expr_sound scope numbers true before e holds)

-- what holds in a transaction holds outside, where only its parameter is not declared
outside : (scope : Scope) (param : List ℕ) (before : List Mention) (visits : List Visit) → AreSound (with_param scope param) before visits → AreSound scope before visits
outside scope param before visits s = record { inside = s.inside; kept = s.kept; settled = s.settled }

-- what holds of guards and bodies
pub record AreSoundBodies (scope : Scope) (before : List Mention) (bodies : List BodyForm) : Type 0 where
  pub sound : AreSound scope before (bodies_visits bodies)
  pub free : guards_mention_none bodies ≡ true

-- a transaction and those after it
body_sound : (scope : Scope) (before : List Mention) (param : List ℕ) (guard : Option PartForm) (visits : List Visit) (later : List Visit) → IsSoundGuard (with_param scope param) before guard → AreSound (with_param scope param) before visits → AreSound scope (before ++ mentions_in visits) later → AreSound scope before ((guard_visits guard ++ visits) ++ later)
body_sound scope before param guard visits later g s rest =
    let inner = with_param scope param in
    let unmoved : before ++ mentions_in (guard_visits guard) ≡ before = ap (λ (ms : List Mention). before ++ ms) g.silent ∙ append-nil before in
    let second : AreSound inner (before ++ mentions_in (guard_visits guard)) visits = subst (λ (ms : List Mention). AreSound inner ms visits) (sym unmoved) s in
    let own : AreSound scope before (guard_visits guard ++ visits) = outside scope param before (guard_visits guard ++ visits) (chained inner before (guard_visits guard) visits g.sound second) in
    let same : mentions_in (guard_visits guard ++ visits) ≡ mentions_in visits = mentions-append (guard_visits guard) visits ∙ ap (λ (ms : List Mention). ms ++ mentions_in visits) g.silent in
    chained scope before (guard_visits guard ++ visits) later own (subst (λ (ms : List Mention). AreSound scope (before ++ ms) later) (sym same) rest)

pub transactions_sound : (scope : Scope) → AreNumbers (length scope.arrays) scope.meanings → (before : List Mention) (ts : List TransactionForm) → first_fault (transactions_checks scope before ts) ≡ None → AreSoundBodies scope before (map (body_of scope) ts)
transactions_sound scope numbers before [] holds = record { sound = no_visits scope before; free = refl }
transactions_sound scope numbers before (t ∷ ts) holds =
    let inner = with_param scope t.param in
    let after = before ++ stmts_mentions inner t.body in
    let parts = guard_checks inner before t.guard ++ stmts_checks inner before t.body in
    let own : first_fault (transaction_checks scope before t) ≡ None = front_holds (transaction_checks scope before t) (transactions_checks scope after ts) holds in
    let named : first_fault (name_checks scope t.param_at t.param ++ parts) ≡ None = (at_check (fault.UnknownName t.tag_at) (is_same t.tag scope.tag) (name_checks scope t.param_at t.param ++ parts) own).1 in
    let both : first_fault parts ≡ None = back_holds (name_checks scope t.param_at t.param) parts named in
    let guard : IsSoundGuard inner before (guard_of inner t.guard) = guard_sound inner numbers before t.guard (front_holds (guard_checks inner before t.guard) (stmts_checks inner before t.body) both) in
    let acts : AreSound inner before (acts_visits (acts_of inner t.body)) = stmts_sound inner numbers before t.body (back_holds (guard_checks inner before t.guard) (stmts_checks inner before t.body) both) in
    let rest : AreSoundBodies scope after (map (body_of scope) ts) = transactions_sound scope numbers after ts (back_holds (transaction_checks scope before t) (transactions_checks scope after ts) holds) in
    record {
      sound = body_sound scope before t.param (guard_of inner t.guard) (acts_visits (acts_of inner t.body)) (bodies_visits (map (body_of scope) ts)) guard acts rest.sound;
      free = and_from (guard_mentions_none (guard_of inner t.guard)) (guards_mention_none (map (body_of scope) ts)) guard.free rest.free;
    }

-- all mentions of an array have one index
pub one_index : (scope : Scope) (bodies : List BodyForm) → AreSoundBodies scope [] bodies → have_one_index (mentions_in (bodies_visits bodies)) ≡ true
one_index scope bodies s =
    (and_parts (have_one_index (mentions_in (bodies_visits bodies))) (list_all (is_at_word scope.meanings) (mentions_in (bodies_visits bodies))) (s.sound.settled refl)).0

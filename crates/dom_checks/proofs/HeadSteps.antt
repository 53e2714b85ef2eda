-- One head after another.
use Rattle.std.proofs.Common.{◌≡◌, ℕ, suc, ◌+◌, ◌<◌, Bool, nat_lt, List, [], ◌∷◌, ◌++◌, length, get_or, drop, drop-cons, add-one, map, fold, Option, None, Result, Ok, Err, refl, sym, ap, ◌∙◌, subst}
use Rattle.std.specs.Prelude.{IfErr, IsErrAnd}
use Rattle.std.proofs.lemmas.Bool.{lt-ltb}
use Rattle.dom_ast.specs.declared.program.Head.{Head}
use Rattle.dom_ast.specs.declared.program.Head.TheVariants as head
use Rattle.dom_ast.specs.declared.program.Init.{Init}
use Rattle.dom_ast.specs.declared.program.Length.{Length}
use Rattle.dom_checks.specs.declared.faults.CheckFault.{CheckFault}
use Rattle.dom_checks.specs.declared.faults.CheckFault.TheVariants as fault
use Rattle.dom_checks.specs.declared.faults.Limit.TheVariants as limit
use Rattle.dom_checks.specs.Answers.{IsFirst}
use Rattle.dom_checks.specs.Scope.{Scope, declared, heads_scope, nothing, with_global, with_struct}
use Rattle.dom_checks.specs.Walk.{Check, check, first_fault, global_checks, head_checks, heads_checks, name_checks}
use Rattle.dom_checks.proofs.FirstFaults.{both_hold, faults_behind, first_behind, first_front, first_same}

-- item k of a list, and those after it
pub drop_at : {X : Type 0} (xs : List X) (k : ℕ) (x : X) → k < length xs → x ≡ get_or xs k x → drop k xs ≡ x ∷ drop (k + 1) xs
drop_at xs k x under is = rw add-one (drop-cons xs k x under ∙ ap (λ y. y ∷ drop (suc k) xs) (sym is))

-- the struct is declared
pub declares_struct : (scope : Scope) (h : Head) (p : ℕ) (tag name : List ℕ) (fields : List (ℕ × List ℕ)) (names : List (List ℕ)) → h ≡ head.Struct p tag fields → name ≡ tag → names ≡ map (λ f. f.1) fields → with_struct scope name names ≡ declared scope h
declares_struct scope h p tag name fields names is e f = rw (is, e, f) refl

-- a fault that a `?` hands on
pub handed_on : {T E : Type 0} (r : Result T E) (e : E) (P : E → Type 0) → IsErrAnd r (λ y. y ≡ e) → P e → IfErr r P
handed_on (Ok x) e P h p = absurd h
handed_on (Err y) e P h p = subst P (sym h) p

-- at a global: its name, the number of arrays, and the rest
module _ (scope : Scope) (p : ℕ) (name : List ℕ) (l : Option Length) (i : Option Init) where
  abbrev one_check : List Check
  one_check = check (fault.TooLarge limit.Arrays p) (nat_lt (length scope.arrays) 32) ∷ []

  abbrev rest_checks : List Check
  rest_checks = global_checks (with_global scope name l) p l i

  one_holds : length scope.arrays < 32 → first_fault one_check ≡ None
  one_holds room = ap (λ (b : Bool). first_fault (check (fault.TooLarge limit.Arrays p) b ∷ [])) (lt-ltb (length scope.arrays) 32 room)

  pub global_name : (f : CheckFault) → IsFirst f (name_checks scope p name) → IsFirst f (head_checks scope (head.Global p name l i))
  global_name f is = first_front f (name_checks scope p name) (one_check ++ rest_checks) is

  pub global_rest : (f : CheckFault) → first_fault (name_checks scope p name) ≡ None → length scope.arrays < 32 → IsFirst f rest_checks → IsFirst f (head_checks scope (head.Global p name l i))
  global_rest f named room is =
      first_behind f (name_checks scope p name) (one_check ++ rest_checks) named (first_behind f one_check rest_checks (one_holds room) is)

  pub global_holds : first_fault (name_checks scope p name) ≡ None → length scope.arrays < 32 → first_fault rest_checks ≡ None → first_fault (head_checks scope (head.Global p name l i)) ≡ None
  global_holds named room holds = both_hold (name_checks scope p name) (one_check ++ rest_checks) named (both_hold one_check rest_checks (one_holds room) holds)

module _ (hs : List Head) (k : ℕ) (h : Head) (scope : Scope) (next : drop k hs ≡ h ∷ drop (k + 1) hs) where
  -- what is left to declare after a head
  pub left_to_declare : (t : Scope) → t ≡ declared scope h → fold declared scope (drop k hs) ≡ heads_scope hs → fold declared t (drop (k + 1) hs) ≡ heads_scope hs
  left_to_declare t is e = ap (λ s. fold declared s (drop (k + 1) hs)) is ∙ ap (fold declared scope) (sym next) ∙ e

  -- what is left to check after a head that holds
  pub left_to_check : (t : Scope) → t ≡ declared scope h → first_fault (head_checks scope h) ≡ None → first_fault (heads_checks nothing hs) ≡ first_fault (heads_checks scope (drop k hs)) → first_fault (heads_checks nothing hs) ≡ first_fault (heads_checks t (drop (k + 1) hs))
  left_to_check t is holds e =
      e
      ∙ ap (λ l. first_fault (heads_checks scope l)) next
      ∙ faults_behind (head_checks scope h) (heads_checks (declared scope h) (drop (k + 1) hs)) holds
      ∙ ap (λ s. first_fault (heads_checks s (drop (k + 1) hs))) (sym is)

  -- a head that does not hold has the first fault of all
  pub first_of_heads : (f : CheckFault) → IsFirst f (head_checks scope h) → first_fault (heads_checks nothing hs) ≡ first_fault (heads_checks scope (drop k hs)) → IsFirst f (heads_checks nothing hs)
  first_of_heads f is e =
      first_same f (head_checks scope h ++ heads_checks (declared scope h) (drop (k + 1) hs)) (heads_checks nothing hs)
      (sym (e ∙ ap (λ l. first_fault (heads_checks scope l)) next))
      (first_front f (head_checks scope h) (heads_checks (declared scope h) (drop (k + 1) hs)) is)

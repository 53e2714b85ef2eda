-- One transaction after another, and the parts of each.
use Rattle.std.proofs.Common.{◌≡◌, ℕ, Bool, true, List, [], ◌∷◌, ◌++◌, map, None, refl, sym, ap, ◌∙◌, subst, append_assoc}
use Rattle.std.proofs.lemmas.List.{map-append}
use Rattle.dom_words.specs.Names.{is_same}
use Rattle.dom_ast.specs.Form.{ProgramForm, TransactionForm}
use Rattle.dom_ast.specs.Kept.{Mention}
use Rattle.dom_ast.specs.Resolved.{BodyForm}
use Rattle.dom_checks.specs.declared.faults.CheckFault.{CheckFault}
use Rattle.dom_checks.specs.declared.faults.CheckFault.TheVariants as fault
use Rattle.dom_checks.specs.Answers.{IsFirst}
use Rattle.dom_checks.specs.Resolve.{body_of}
use Rattle.dom_checks.specs.Scope.{Scope, heads_scope, nothing, with_param}
use Rattle.dom_checks.specs.Walk.{Check, check, first_fault, guard_checks, heads_checks, name_checks, stmts_checks, stmts_mentions, transaction_checks, transactions_checks, violation}
use Rattle.dom_checks.specs.Verdict.{IsViolation}
use Rattle.dom_checks.proofs.FirstFaults.{both_hold, faults_behind, first_behind, first_front, first_same}

tag_check : Scope → TransactionForm → List Check
tag_check scope t = check (fault.UnknownName t.tag_at) (is_same t.tag scope.tag) ∷ []

tag_holds : (p : ℕ) (b : Bool) → b ≡ true → first_fault (check (fault.UnknownName p) b ∷ []) ≡ None
tag_holds p b e = rw e refl

-- the parts of a transaction, whose parameter is declared in the inner scope
module _ (scope inner : Scope) (before : List Mention) (t : TransactionForm) (is : inner ≡ with_param scope t.param) (tag : is_same t.tag scope.tag ≡ true) (names : first_fault (name_checks scope t.param_at t.param) ≡ None) where
  guards : List Check
  guards = guard_checks (with_param scope t.param) before t.guard

  stmts : List Check
  stmts = stmts_checks (with_param scope t.param) before t.body

  behind_names : (f : CheckFault) → IsFirst f (guards ++ stmts) → IsFirst f (transaction_checks scope before t)
  unfolding guards stmts
  behind_names f first =
      first_behind f (check (fault.UnknownName t.tag_at) (is_same t.tag scope.tag) ∷ []) (name_checks scope t.param_at t.param ++ (guards ++ stmts)) (tag_holds t.tag_at (is_same t.tag scope.tag) tag)
      (first_behind f (name_checks scope t.param_at t.param) (guards ++ stmts) names first)

  guard_holds : first_fault (guard_checks inner before t.guard) ≡ None → first_fault guards ≡ None
  unfolding guards
  guard_holds holds = subst (λ s. first_fault (guard_checks s before t.guard) ≡ None) is holds

  -- the first fault is in the guard
  pub first_in_guard : (f : CheckFault) → IsFirst f (guard_checks inner before t.guard) → IsFirst f (transaction_checks scope before t)
  unfolding guards stmts
  first_in_guard f first = behind_names f (first_front f guards stmts (subst (λ s. IsFirst f (guard_checks s before t.guard)) is first))

  -- the first fault is in the body
  pub first_in_body : (f : CheckFault) → first_fault (guard_checks inner before t.guard) ≡ None → IsFirst f (stmts_checks inner before t.body) → IsFirst f (transaction_checks scope before t)
  unfolding guards stmts
  first_in_body f holds first = behind_names f (first_behind f guards stmts (guard_holds holds) (subst (λ s. IsFirst f (stmts_checks s before t.body)) is first))

  -- all checks hold
  pub transaction_holds : first_fault (guard_checks inner before t.guard) ≡ None → first_fault (stmts_checks inner before t.body) ≡ None → first_fault (transaction_checks scope before t) ≡ None
  unfolding guards stmts
  transaction_holds guard body =
      both_hold (check (fault.UnknownName t.tag_at) (is_same t.tag scope.tag) ∷ []) (name_checks scope t.param_at t.param ++ (guards ++ stmts)) (tag_holds t.tag_at (is_same t.tag scope.tag) tag)
      (both_hold (name_checks scope t.param_at t.param) (guards ++ stmts) names
      (both_hold guards stmts (guard_holds guard) (subst (λ s. first_fault (stmts_checks s before t.body) ≡ None) is body)))

-- a transaction among all, after the mentions before it
module _ (scope : Scope) (all left rest : List TransactionForm) (before : List Mention) (t : TransactionForm) (next : left ≡ t ∷ rest) (checks : first_fault (transactions_checks scope [] all) ≡ first_fault (transactions_checks scope before left)) where
  first_from_here : first_fault (transactions_checks scope [] all) ≡ first_fault (transaction_checks scope before t ++ transactions_checks scope (before ++ stmts_mentions (with_param scope t.param) t.body) rest)
  first_from_here = checks ∙ ap (λ ts. first_fault (transactions_checks scope before ts)) next

  -- a transaction that does not hold has the first fault of all
  pub first_of_transactions : (f : CheckFault) → IsFirst f (transaction_checks scope before t) → IsFirst f (transactions_checks scope [] all)
  first_of_transactions f first =
      let later = transactions_checks scope (before ++ stmts_mentions (with_param scope t.param) t.body) rest in
      first_same f (transaction_checks scope before t ++ later) (transactions_checks scope [] all) (sym first_from_here) (first_front f (transaction_checks scope before t) later first)

  -- what is left to check after a transaction that holds
  pub transactions_left : (after : List Mention) → first_fault (transaction_checks scope before t) ≡ None → after ≡ before ++ stmts_mentions (with_param scope t.param) t.body → first_fault (transactions_checks scope [] all) ≡ first_fault (transactions_checks scope after rest)
  transactions_left after holds seen =
      first_from_here
      ∙ faults_behind (transaction_checks scope before t) (transactions_checks scope (before ++ stmts_mentions (with_param scope t.param) t.body) rest) holds
      ∙ ap (λ ms. first_fault (transactions_checks scope ms rest)) (sym seen)

-- one more body
pub one_more_body : {X : Type 0} (form : X → BodyForm) (scope : Scope) (bodies more : List X) (b : X) (all left rest : List TransactionForm) (t : TransactionForm) → more ≡ bodies ++ b ∷ [] → left ≡ t ∷ rest → form b ≡ body_of scope t → map form bodies ++ map (body_of scope) left ≡ map (body_of scope) all → map form more ++ map (body_of scope) rest ≡ map (body_of scope) all
one_more_body form scope bodies more b all left rest t grown next is e =
    ap (λ bs. map form bs ++ map (body_of scope) rest) grown
    ∙ ap (λ fs. fs ++ map (body_of scope) rest) (map-append form bodies (b ∷ []))
    ∙ append_assoc (map form bodies) (form b ∷ []) (map (body_of scope) rest)
    ∙ ap (λ f. map form bodies ++ f ∷ map (body_of scope) rest) is
    ∙ ap (λ ts. map form bodies ++ map (body_of scope) ts) (sym next)
    ∙ e

-- the first fault of a program is in its heads
pub first_in_heads : (p : ProgramForm) (f : CheckFault) → IsFirst f (heads_checks nothing p.heads) → IsViolation p f
first_in_heads p f first = first_front f (heads_checks nothing p.heads) (transactions_checks (heads_scope p.heads) [] p.transactions) first

-- the first fault of a program is in its transactions
pub first_in_transactions : (p : ProgramForm) (f : CheckFault) → first_fault (heads_checks nothing p.heads) ≡ None → IsFirst f (transactions_checks (heads_scope p.heads) [] p.transactions) → IsViolation p f
first_in_transactions p f holds first = first_behind f (heads_checks nothing p.heads) (transactions_checks (heads_scope p.heads) [] p.transactions) holds first

-- a program with no fault
pub no_violation : (p : ProgramForm) → first_fault (heads_checks nothing p.heads) ≡ None → first_fault (transactions_checks (heads_scope p.heads) [] p.transactions) ≡ None → violation p ≡ None
no_violation p heads transactions = both_hold (heads_checks nothing p.heads) (transactions_checks (heads_scope p.heads) [] p.transactions) heads transactions

-- What holds of a list that is the list of the definition.
use Rattle.std.proofs.Common.{◌≡◌, ℕ, ◌+◌, ◌≤◌, ◌<◌, ◌^◌, true, List, [], map, length, sym, ap, ◌∙◌, subst, arith}
use Rattle.dom_words.specs.State.{Hash}
use Rattle.dom_words.specs.declared.array.Array.{Array}
use Rattle.dom_ast.specs.Kept.{guards_mention_none, are_within, bodies_visits, have_one_index, keep_indexes, mentions_in, resolved_ranges}
use Rattle.dom_ast.specs.Meaning.{one_packet}
use Rattle.dom_ast.specs.PartSize.{bodies_nested, bodies_nodes}
use Rattle.dom_ast.specs.Resolved.{BodyForm}
use Rattle.dom_ast.specs.Straight.{StepForm, step_visit, steps_nodes, straight_outcome, straight_ranges}
use Rattle.branch_removal.specs.Branches.{given_names, guards, ifs, numbers, straight}
use Rattle.branch_removal.proofs.Chosen.{means_one}
use Rattle.branch_removal.proofs.Indexes.{straight_keeps, straight_one_index}
use Rattle.branch_removal.proofs.Numbered.{straight_names}
use Rattle.branch_removal.proofs.Ranges.{straight_within}
use Rattle.branch_removal.proofs.Sizes.{few_names, few_steps}

-- the steps are those of the bodies
pub record Made (steps : List StepForm) (found bodies : List BodyForm) : Type 0 where
  pub list : steps ≡ straight found
  pub same : found ≡ bodies

list_of : (steps : List StepForm) (found bodies : List BodyForm) → Made steps found bodies → steps ≡ straight bodies
list_of steps found bodies made = made.list ∙ ap straight made.same

pub names_fit : (found bodies : List BodyForm) → found ≡ bodies → bodies_nodes bodies ≤ 16384 → guards found + ifs found < 4294967296
names_fit found bodies same size = rw same (omega (arith, few_names bodies))

pub steps_within : (steps : List StepForm) (found bodies : List BodyForm) (fields names : List (List ℕ)) (arrays words : List Array) (fresh : ℕ) → Made steps found bodies → fields ≡ names → arrays ≡ words → fresh ≡ guards found + ifs found → are_within (resolved_ranges (length names) (length words)) (bodies_visits bodies) ≡ true → are_within (straight_ranges (length fields) (length arrays) fresh) (map step_visit steps) ≡ true
steps_within steps found bodies fields names arrays words fresh made f a k h =
    rw (list_of steps found bodies made, f, a, k, made.same) (straight_within (length names) (length words) bodies h)

pub steps_one_index : (steps : List StepForm) (found bodies : List BodyForm) → Made steps found bodies → guards_mention_none bodies ≡ true → have_one_index (mentions_in (bodies_visits bodies)) ≡ true → have_one_index (mentions_in (map step_visit steps)) ≡ true
steps_one_index steps found bodies made free h =
    subst (λ ss. have_one_index (mentions_in (map step_visit ss)) ≡ true) (sym (list_of steps found bodies made)) (straight_one_index bodies free h)

pub steps_keep : (steps : List StepForm) (found bodies : List BodyForm) → Made steps found bodies → guards_mention_none bodies ≡ true → keep_indexes [] (bodies_visits bodies) ≡ true → keep_indexes [] (map step_visit steps) ≡ true
steps_keep steps found bodies made free h =
    subst (λ ss. keep_indexes [] (map step_visit ss) ≡ true) (sym (list_of steps found bodies made)) (straight_keeps bodies free h)

pub steps_mean : (steps : List StepForm) (found bodies : List BodyForm) (fields arrays : ℕ) → Made steps found bodies → are_within (resolved_ranges fields arrays) (bodies_visits bodies) ≡ true → (hash : Hash) (packet : List ℕ) (state : List (List ℕ)) → straight_outcome hash steps packet state ≡ one_packet hash bodies packet state
steps_mean steps found bodies fields arrays made h hash packet state =
    ap (λ ss. straight_outcome hash ss packet state) (list_of steps found bodies made) ∙ means_one hash fields arrays bodies packet state h

pub steps_few : (steps : List StepForm) (found bodies : List BodyForm) → Made steps found bodies → bodies_nodes bodies ≤ 16384 → bodies_nested 64 bodies ≡ true → steps_nodes steps < 4194304
steps_few steps found bodies made size nested =
    let few : steps_nodes (straight bodies) < 2 ^ 22 = few_steps bodies size nested in
    rw (list_of steps found bodies made) few

pub steps_names : (steps : List StepForm) (found bodies : List BodyForm) (fields arrays fresh : ℕ) → Made steps found bodies → fresh ≡ guards found + ifs found → are_within (resolved_ranges fields arrays) (bodies_visits bodies) ≡ true → given_names steps ≡ numbers 0 fresh
steps_names steps found bodies fields arrays fresh made k h =
    rw (list_of steps found bodies made, k, made.same) (straight_names fields arrays bodies h)

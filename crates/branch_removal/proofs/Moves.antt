-- Steps of branches that stand in branches.
use Rattle.std.proofs.Common.{◌≡◌, ℕ, ◌+◌, List, [], ◌∷◌, ◌++◌, map, refl, sym, ap, append_assoc, ◌∙◌}
use Rattle.std.specs.Prelude.{fold, reverse}
use Rattle.std.proofs.lemmas.List.{map-append, reverse-append}
use Rattle.dom_ast.specs.declared.part.Goal.TheVariants as goal
use Rattle.dom_ast.specs.declared.part.Part.{Part}
use Rattle.dom_ast.specs.declared.checked.Act.{Act}
use Rattle.dom_ast.specs.declared.checked.Act.TheVariants.{If, rolls-If}
use Rattle.dom_ast.specs.declared.checked.Act.TheFolds.{fold-roll-Act}
use Rattle.dom_ast.specs.declared.checked.Act.TheOpen.{Act-F}
use Rattle.dom_ast.specs.Resolved.{PartForm, ActForm, ActForms, act_form, act_forms, act_step, branch, form}
use Rattle.dom_ast.specs.declared.steps.Step.{Step}
use Rattle.dom_ast.specs.Straight.{StepForm, step_form}
use Rattle.branch_removal.specs.declared.branch.Branch.{Branch}
use Rattle.branch_removal.specs.declared.branch.Branch.TheVariants.{Then, Else}
use Rattle.branch_removal.specs.Branches.{acts_steps, act_steps, acts_ifs, guarded, step}
use Rattle.branch_removal.specs.inner.Within.{within}

within_inner : (bs : List Branch) (b : Branch) (s : StepForm) → within (bs ++ b ∷ []) s ≡ within bs (guarded b s)
within_inner bs b s = ap (fold (λ s b. guarded b s) s) (reverse-append bs (b ∷ []))

all_within_inner : (bs : List Branch) (b : Branch) (ss : List StepForm) → map (within (bs ++ b ∷ [])) ss ≡ map (within bs) (map (guarded b) ss)
all_within_inner bs b [] = refl
all_within_inner bs b (s ∷ ss) = ap (λ t. t ∷ map (within (bs ++ b ∷ [])) ss) (within_inner bs b s) ∙ ap (λ ts. within bs (guarded b s) ∷ ts) (all_within_inner bs b ss)

fresh_stays : (bs : List Branch) (k : ℕ) (p : PartForm) → fold (λ s b. guarded b s) (step (goal.Fresh k) p) bs ≡ step (goal.Fresh k) p
fresh_stays [] k p = refl
fresh_stays (Then j ∷ bs) k p = fresh_stays bs k p
fresh_stays (Else j ∷ bs) k p = fresh_stays bs k p

-- the steps of an `if` are its condition's and those of its two branches
if_steps : (bs : List Branch) (n : ℕ) (c : PartForm) (a b : ActForms) → map (within bs) (act_steps n (branch c a b)) ≡ step (goal.Fresh n) c ∷ (map (within (bs ++ Then n ∷ [])) (acts_steps (n + 1) a) ++ map (within (bs ++ Else n ∷ [])) (acts_steps (n + 1 + acts_ifs a) b))
if_steps bs n c a b =
    rw (fresh_stays (reverse bs) n c, map-append (within bs) (map (guarded (Then n)) (acts_steps (n + 1) a)) (map (guarded (Else n)) (acts_steps (n + 1 + acts_ifs a) b)), all_within_inner bs (Then n) (acts_steps (n + 1) a), all_within_inner bs (Else n) (acts_steps (n + 1 + acts_ifs a) b))

form_if : (test : Part) (yes_acts no_acts : List Act) → act_form (If test yes_acts no_acts) ≡ branch (form test) (act_forms yes_acts) (act_forms no_acts)
form_if test yes_acts no_acts = ap act_form (sym (rolls-If test yes_acts no_acts)) ∙ fold-roll-Act ActForm act_step (Act-F.If test yes_acts no_acts)

-- an `if` is put by its condition and then its two branches
pub put_if : (a : Act) (test : Part) (us vs xs ys : List Act) (bs cs : List Branch) (n m : ℕ) (before tested first all : List Step) → a ≡ If test us vs → xs ≡ us → ys ≡ vs → map step_form tested ≡ map step_form before ++ step (goal.Fresh n) (form test) ∷ [] → map step_form first ≡ map step_form tested ++ map (within (bs ++ Then n ∷ [])) (acts_steps (n + 1) (act_forms xs)) → m ≡ n + 1 + acts_ifs (act_forms xs) → cs ≡ bs → map step_form all ≡ map step_form first ++ map (within (cs ++ Else n ∷ [])) (acts_steps m (act_forms ys)) → map step_form all ≡ map step_form before ++ map (within bs) (act_steps n (act_form a))
put_if a test us vs xs ys bs cs n m before tested first all is u v t f next same whole =
    let shape : act_form a ≡ branch (form test) (act_forms us) (act_forms vs) = ap act_form is ∙ form_if test us vs in
    rw (whole, f, t, next, same, u, v, shape, if_steps bs n (form test) (act_forms us) (act_forms vs), append_assoc, append_assoc)

pub all_within_none : (ss : List StepForm) → map (within []) ss ≡ ss
all_within_none [] = refl
all_within_none (s ∷ ss) = ap (λ ts. s ∷ ts) (all_within_none ss)

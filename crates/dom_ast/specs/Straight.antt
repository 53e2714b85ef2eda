-- Lists of steps without branches. A step gives a value to a target.
use Rattle.std.specs.Prelude.{ℕ, suc, false, List, fold, map, sum}
use Rattle.dom_words.specs.State.{Hash, Outcome}
use Rattle.dom_ast.specs.declared.part.Goal.{Goal}
use Rattle.dom_ast.specs.declared.steps.Step.{Step}
use Rattle.dom_ast.specs.Resolved.{PartForm, form}
use Rattle.dom_ast.specs.Kept.{Ranges, Visit, assignment}
use Rattle.dom_ast.specs.Meaning.{Env, assigned, entering, outcome_of, value_in}
use Rattle.dom_ast.specs.PartSize.{part_nodes}

-- a step as plain data
pub record StepForm : Type 0 where
  pub target : Goal
  pub value : PartForm

abbrev pub step_form : Step → StepForm
step_form s = record { target = s.target; value = form s.value }

-- the visit of a step: its value, and then its target
abbrev pub step_visit : StepForm → Visit
step_visit s = assignment s.target s.value

-- the numbers that a list of steps may have; it has no made values
abbrev pub straight_ranges : ℕ → ℕ → ℕ → Ranges
straight_ranges fields arrays fresh = record { fields = fields; arrays = arrays; fresh = fresh; is_made = λ k. false }

-- what a step does
abbrev pub stepped : Hash → Env → StepForm → Env
stepped hash env s = assigned s.target (value_in hash env s.value) env

-- the steps one after another
abbrev pub all_stepped : Hash → Env → List StepForm → Env
all_stepped hash env steps = fold (stepped hash) env steps

-- what steps make of a packet and a state
abbrev pub straight_outcome : Hash → List StepForm → List ℕ → List (List ℕ) → Outcome
straight_outcome hash steps packet arrays = outcome_of (all_stepped hash (entering packet arrays) steps)

-- the steps and the expression nodes in them
abbrev pub steps_nodes : List StepForm → ℕ
steps_nodes steps = sum (map (λ s. suc (part_nodes s.value)) steps)

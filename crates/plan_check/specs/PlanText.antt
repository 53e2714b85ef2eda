-- The text of a plan by hand, and the first line that is not right.
use Rattle.std.specs.Prelude.{◌≡◌, ◌≢◌, ℕ, ◌+◌, ◌<◌, ◌≤◌, ◌^◌, List, [], ◌∷◌, ◌++◌, codes, length, map, Result, Ok, Err}
use Rattle.std.specs.Fmt.{decimal}
use Rattle.std.specs.List.{AllByRecursion, flat_map}
use Rattle.codelets.specs.declared.codelet.Codelet.{Codelet}
use Rattle.stage_plan.specs.declared.place.Place.{Place}
use Rattle.plan_check.specs.declared.fault.PlanTextFault.{PlanTextFault}
use Rattle.plan_check.specs.declared.fault.PlanTextFault.TheVariants.{Line, Memory}

-- a codelet's line: `codelet`, its least statement number and its stage, with commas (the byte 44) between them, and the line
-- feed (the byte 10)
abbrev pub plan_line : ℕ → ℕ → List ℕ
plan_line first stage = codes "codelet," ++ (decimal first ++ 44 ∷ (decimal stage ++ 10 ∷ []))

-- a line for each codelet and its place
abbrev pub plan_lines : List Codelet → List Place → List (List ℕ)
plan_lines [] places = []
plan_lines (c ∷ cs) [] = []
plan_lines (c ∷ cs) (p ∷ places) = plan_line c.first p.stage ∷ plan_lines cs places

abbrev pub plan_text : List Codelet → List Place → List ℕ
plan_text cs places = flat_map (λ line. line) (plan_lines cs places)

abbrev pub IsStageOf : ℕ → Place → Type 0
IsStageOf depth p = (1 ≤ p.stage) × (p.stage ≤ depth)

-- a place for each codelet, of its kind, at a stage from 1 to the depth, which is a word of 32 bits
pub record IsHandPlan (depth : ℕ) (cs : List Codelet) (places : List Place) : Type 0 where
  pub word : depth < 2 ^ 32
  pub kinds : map (λ p. p.kind) places ≡ map (λ c. c.kind) cs
  pub stages : AllByRecursion (IsStageOf depth) places

-- the text is that of this plan
pub record IsPlanText (depth : ℕ) (cs : List Codelet) (text : List ℕ) (places : List Place) : Type 0 where
  pub plan : IsHandPlan depth cs places
  pub lines : text ≡ plan_text cs places

-- what is left begins with no right line of the next codelet; where there is none, something is left
abbrev pub IsWrong : ℕ → List Codelet → List ℕ → Type 0
IsWrong depth [] rest = rest ≢ []
IsWrong depth (c ∷ cs) rest = (stage : ℕ) (more : List ℕ) → 1 ≤ stage → stage ≤ depth → rest ≢ plan_line c.first stage ++ more

-- line n is the first that is not right: the lines before it are those of the codelets before, and it is not that of the next
pub record IsBadLine (depth : ℕ) (cs : List Codelet) (text : List ℕ) (n : ℕ) : Type 0 where
  pub before : List Codelet
  pub after : List Codelet
  pub places : List Place
  pub rest : List ℕ
  pub codelets : cs ≡ before ++ after
  pub plan : IsHandPlan depth before places
  pub text_is : text ≡ plan_text before places ++ rest
  pub number : n ≡ length before + 1
  pub wrong : IsWrong depth after rest

-- what a text is for codelets and a depth: a plan, or its first line that is not right
abbrev pub IsPlanAnswer : ℕ → List Codelet → List ℕ → Result (List Place) ℕ → Type 0
IsPlanAnswer depth cs text (Ok places) = IsPlanText depth cs text places
IsPlanAnswer depth cs text (Err n) = IsBadLine depth cs text n

-- a fault tells the line; want of memory needs no cause
abbrev pub IsReadFault : ℕ → List Codelet → List ℕ → PlanTextFault → Type 0
IsReadFault depth cs text (Line n) = IsPlanAnswer depth cs text (Err n)
IsReadFault depth cs text Memory = Unit {0}

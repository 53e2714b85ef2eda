-- A fault of a layer is a fault of the compiler.
use Rattle.std.proofs.Common.{◌≡◌, ℕ, Bool, List, [], ◌∷◌, map, Some, refl, ap}
use Rattle.codelets.specs.declared.answer.Codelets.{Codelets}
use Rattle.stage_plan.specs.declared.fault.PlanFault.{PlanFault}
use Rattle.stage_plan.specs.declared.fault.PlanFault.TheVariants as plan
use Rattle.stage_plan.specs.Faults.{IsPlanFault}
use Rattle.atom_traits.specs.Form.{TreesForm}
use Rattle.atom_match.specs.declared.fault.MatchFault.{MatchFault}
use Rattle.atom_match.specs.declared.fault.MatchFault.TheVariants as match_fault
use Rattle.atom_match.specs.Atoms.{IsMatchFault}
use Rattle.banzai_config.specs.Legal.{Shape}
use Rattle.dom_compile.specs.declared.faults.CompileFault.{CompileFault}
use Rattle.dom_compile.specs.declared.faults.CompileFault.TheVariants as fault
use Rattle.dom_compile.specs.Answer.{IsCompileFault, IsFitted, IsFrontFault}
use Rattle.dom_compile.specs.Compiled.{IsCompiled}
use Rattle.dom_compile.specs.Layers.{of_match, of_plan}

pub match_cause : (fits : TreesForm → Bool) (multiplies : Bool) (text : List ℕ) (c : Codelets) → IsCompiled text c.flat → (f : MatchFault) → IsMatchFault fits multiplies c f → IsFrontFault fits multiplies text (of_match f)
match_cause fits multiplies text c is (match_fault.Outside n) cause = (c, is, cause)
match_cause fits multiplies text c is match_fault.Memory cause = tt

pub whole_cause : (s : Shape) (text : List ℕ) (f : CompileFault) → IsFrontFault s.fits s.multiplies text f → IsCompileFault s text f
whole_cause s text (fault.Lex f) cause = cause
whole_cause s text (fault.Parse f) cause = cause
whole_cause s text (fault.Check f) cause = cause
whole_cause s text (fault.TooManyStatements n) cause = cause
whole_cause s text (fault.Outside n) cause = cause
whole_cause s text (fault.TooDeep chain) cause = absurd cause
whole_cause s text (fault.Full n kind stage) cause = absurd cause
whole_cause s text fault.Memory cause = tt

pub plan_cause : (s : Shape) (text : List ℕ) (c : Codelets) → IsFitted s.fits s.multiplies text c → (f : PlanFault) → IsPlanFault s.depth s.stateless s.stateful c.list f → IsCompileFault s text (of_plan f)
plan_cause s text c fitted (plan.TooDeep chain) cause = (c, fitted, cause)
plan_cause s text c fitted (plan.Full n kind stage) cause = (c, fitted, cause)
plan_cause s text c fitted plan.Memory cause = tt

-- each item has an answer, and these are the answers
pub map_some : {X Y : Type 0} (f : X → Y) (xs : List X) → map Some (map f xs) ≡ map (λ x. Some (f x)) xs
map_some f [] = refl
map_some f (x ∷ xs) = ap (λ ys. Some (f x) ∷ ys) (map_some f xs)

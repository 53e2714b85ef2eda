-- Why codelets have no stages.
use Rattle.std.specs.Prelude.{◌≡◌, ℕ, ◌≤◌, ◌<◌, ◌==◌, Bool, List, [], Option, Some, None}
use Rattle.codelets.specs.declared.codelet.Kind.{Kind}
use Rattle.codelets.specs.declared.codelet.Codelet.{Codelet}
use Rattle.stage_plan.specs.declared.place.Place.{Place}
use Rattle.stage_plan.specs.declared.fault.PlanFault.{PlanFault}
use Rattle.stage_plan.specs.declared.fault.PlanFault.TheVariants.{TooDeep, Full, Memory}
use Rattle.stage_plan.specs.Schedule.{atoms_at, first_from, other_kind, schedule, stuck, width}
use Rattle.stage_plan.specs.Chains.{greatest_level, IsFirstChain}

abbrev pub is_full : ℕ → ℕ → List Place → Kind → ℕ → Bool
is_full sl sf placed kind stage = atoms_at placed kind stage == width sl sf kind

-- the least of all stages that is full of a kind
abbrev pub full_stage : ℕ → ℕ → ℕ → List Place → Kind → Option ℕ
full_stage depth sl sf placed kind = first_from (is_full sl sf placed kind) 1 depth

abbrev pub IsShownBy : Option ℕ → Option ℕ → Kind → Kind → ℕ → Type 0
IsShownBy (Some s) other own kind stage = (kind ≡ own) × (stage ≡ s)
IsShownBy None other own kind stage = (kind ≡ other_kind own) × (other ≡ Some stage)

-- the kind and the stage that are shown: the codelet's own kind and the least stage full of it, else the other kind
abbrev pub IsShown : ℕ → ℕ → ℕ → List Place → Codelet → Kind → ℕ → Type 0
IsShown depth sl sf placed c kind stage = IsShownBy (full_stage depth sl sf placed c.kind) (full_stage depth sl sf placed (other_kind c.kind)) c.kind kind stage

-- the codelet that is shown, by its least statement number, finds no place when those before it have theirs
pub record IsFullAt (depth sl sf : ℕ) (cs : List Codelet) (number : ℕ) (kind : Kind) (stage : ℕ) : Type 0 where
  pub placed : List Place
  pub codelet : Codelet
  pub stops : schedule depth sl sf [] cs ≡ stuck placed codelet
  pub its : number ≡ codelet.first
  pub shown : IsShown depth sl sf placed codelet kind stage

abbrev pub IsPlanFault : ℕ → ℕ → ℕ → List Codelet → PlanFault → Type 0
IsPlanFault depth sl sf cs (TooDeep chain) = (depth < greatest_level cs) × IsFirstChain cs chain
IsPlanFault depth sl sf cs (Full number kind stage) = (greatest_level cs ≤ depth) × IsFullAt depth sl sf cs number kind stage
IsPlanFault depth sl sf cs Memory = Unit {0}

-- The counts that are kept beside the places.
use Rattle.std.specs.Prelude.{◌≡◌, ℕ, ◌+◌, ◌≤◌, ◌<◌, List, [], ◌∷◌, ◌++◌, Option, Some, None, length, drop, slice_index}
use Rattle.codelets.specs.declared.codelet.Kind.{Kind}
use Rattle.codelets.specs.declared.codelet.Kind.TheVariants.{Stateless, Stateful}
use Rattle.codelets.specs.declared.codelet.Codelet.{Codelet}
use Rattle.codelets.specs.Leveled.{level_at}
use Rattle.stage_plan.specs.declared.place.Place.{Place}
use Rattle.stage_plan.specs.declared.board.Board.{Board}
use Rattle.stage_plan.specs.declared.fault.PlanFault.{PlanFault}
use Rattle.stage_plan.specs.declared.fault.PlanFault.TheVariants.{TooDeep, Full, Memory}
use Rattle.stage_plan.specs.Schedule.{atoms_at, earliest, other_kind, schedule, stage_at, width}
use Rattle.stage_plan.specs.Faults.{full_stage, IsFullAt, IsShown}

abbrev pub counts_of : Board → Kind → List ℕ
counts_of b Stateless = b.stateless.items
counts_of b Stateful = b.stateful.items

-- for each kind the counts, by stage; stage 0 is none
pub record IsCounted (b : Board) : Type 0 where
  pub lengths : (k : Kind) → length (counts_of b k) ≡ b.depth + 1
  pub counts : (k : Kind) (s : ℕ) → s ≤ b.depth → slice_index (counts_of b k) s ≡ atoms_at b.placed.items k s
  pub within : (u : ℕ) → stage_at b.placed.items u ≤ b.depth
  pub depth : b.depth ≤ 65535

-- no stage is full
abbrev pub HasRoom : ℕ → ℕ → ℕ → List Place → Type 0
HasRoom depth sl sf placed = (k : Kind) (s : ℕ) → 1 ≤ s → s ≤ depth → atoms_at placed k s < width sl sf k

-- the codelets before a position stand where the schedule puts them
pub record SoFar (depth sl sf : ℕ) (cs : List Codelet) (at : ℕ) (placed : List Place) : Type 0 where
  pub count : length placed ≡ at
  pub rest : schedule depth sl sf [] cs ≡ schedule depth sl sf placed (drop at cs)
  pub widths : (k : Kind) (s : ℕ) → atoms_at placed k s ≤ width sl sf k
  pub levels : HasRoom depth sl sf placed → (u : ℕ) → u < at → stage_at placed u ≡ level_at cs u

-- a codelet without a place leaves a full stage
abbrev pub IsShowable : ℕ → ℕ → ℕ → List Place → Codelet → Type 0
IsShowable depth sl sf placed c = earliest depth sl sf placed c ≡ None → full_stage depth sl sf placed c.kind ≡ None → full_stage depth sl sf placed (other_kind c.kind) ≡ None → ⊥

-- the codelet's place, if it has one
abbrev pub IsPlacedBy : Option ℕ → List Place → Codelet → List Place → Type 0
IsPlacedBy None old c new = ⊥
IsPlacedBy (Some stage) old c new = new ≡ old ++ record { kind = c.kind; stage = stage } ∷ []

-- what is said of a codelet without a place
abbrev pub IsStuckBy : ℕ → ℕ → ℕ → List Place → Codelet → PlanFault → Type 0
IsStuckBy depth sl sf placed c (TooDeep chain) = ⊥
IsStuckBy depth sl sf placed c (Full number kind stage) = (earliest depth sl sf placed c ≡ None) × ((number ≡ c.first) × IsShown depth sl sf placed c kind stage)
IsStuckBy depth sl sf placed c Memory = Unit {0}

abbrev pub IsPlaceFault : ℕ → ℕ → ℕ → List Codelet → PlanFault → Type 0
IsPlaceFault depth sl sf cs (TooDeep chain) = ⊥
IsPlaceFault depth sl sf cs (Full number kind stage) = IsFullAt depth sl sf cs number kind stage
IsPlaceFault depth sl sf cs Memory = Unit {0}

-- The list schedule: in order, each codelet takes the earliest stage after those of the codelets that it uses that still has
-- a free place of its kind.
use Rattle.std.specs.Prelude.{◌≡◌, ℕ, zero, suc, ◌+◌, ◌-◌, ◌<◌, ◌≤◌, Bool, true, false, ◌&&◌, ◌==◌, if◌then◌else◌, nat_lt, List, [], ◌∷◌, ◌++◌, map, Option, Some, None, count_by, slice_get, slice_index}
use Rattle.codelets.specs.declared.codelet.Kind.{Kind}
use Rattle.codelets.specs.declared.codelet.Kind.TheVariants.{Stateless, Stateful}
use Rattle.codelets.specs.declared.codelet.Codelet.{Codelet}
use Rattle.codelets.specs.Lists.{IsIn, max_of}
use Rattle.stage_plan.specs.declared.place.Place.{Place}

abbrev pub is_kind : Kind → Kind → Bool
is_kind Stateless Stateless = true
is_kind Stateless Stateful = false
is_kind Stateful Stateless = false
is_kind Stateful Stateful = true

abbrev pub other_kind : Kind → Kind
other_kind Stateless = Stateful
other_kind Stateful = Stateless

-- how many atoms of a kind a stage may hold
abbrev pub width : ℕ → ℕ → Kind → ℕ
width sl sf Stateless = sl
width sl sf Stateful = sf

abbrev pub stands_at : Kind → ℕ → Place → Bool
stands_at kind stage p = is_kind kind p.kind && stage == p.stage

-- how many atoms of a kind a stage holds
abbrev pub atoms_at : List Place → Kind → ℕ → ℕ
atoms_at placed kind stage = count_by (stands_at kind stage) placed

-- the stages of placed codelets
abbrev pub stages_of : List Place → List ℕ
stages_of placed = map (λ p. p.stage) placed

abbrev pub stage_at : List Place → ℕ → ℕ
stage_at placed u = slice_index (stages_of placed) u

-- the last stage of those that a codelet uses, or 0
abbrev pub last_used : List Place → Codelet → ℕ
last_used placed c = max_of (map (stage_at placed) c.uses)

-- the first of n numbers, counted from `at`, at which p holds
abbrev pub first_from : (ℕ → Bool) → ℕ → ℕ → Option ℕ
first_from p at zero = None
first_from p at (suc n) = if p at then Some at else first_from p (at + 1) n

abbrev pub has_room : ℕ → ℕ → List Place → Kind → ℕ → Bool
has_room sl sf placed kind stage = nat_lt (atoms_at placed kind stage) (width sl sf kind)

-- the earliest stage after those of the codelets that it uses, with a free place of its kind
abbrev pub earliest : ℕ → ℕ → ℕ → List Place → Codelet → Option ℕ
earliest depth sl sf placed c = first_from (has_room sl sf placed c.kind) (last_used placed c + 1) (depth - last_used placed c)

-- all codelets have a place, or one finds none when those before it have theirs
pub data Placement : Type 0 where
  all_placed : List Place → Placement
  stuck : List Place → Codelet → Placement

abbrev pub go_on : Option ℕ → Placement → (ℕ → Placement) → Placement
go_on None no_place next = no_place
go_on (Some stage) no_place next = next stage

-- the rest of the codelets after those that have their places
abbrev pub schedule : ℕ → ℕ → ℕ → List Place → List Codelet → Placement
schedule depth sl sf placed [] = all_placed placed
schedule depth sl sf placed (c ∷ cs) =
    go_on (earliest depth sl sf placed c) (stuck placed c) (λ stage. schedule depth sl sf (placed ++ record { kind = c.kind; stage = stage } ∷ []) cs)

-- what every plan keeps: each codelet has a stage of the pipeline, after the stages of those that it uses, and no stage holds
-- more atoms of a kind than its width
pub record IsPlan (depth sl sf : ℕ) (cs : List Codelet) (placed : List Place) : Type 0 where
  pub kinds : map (λ p. p.kind) placed ≡ map (λ c. c.kind) cs
  pub bounds : (k s : ℕ) → slice_get (stages_of placed) k ≡ Some s → (1 ≤ s) × (s ≤ depth)
  pub later : (k u : ℕ) (c : Codelet) → slice_get cs k ≡ Some c → IsIn u c.uses → stage_at placed u < stage_at placed k
  pub widths : (kind : Kind) (stage : ℕ) → atoms_at placed kind stage ≤ width sl sf kind

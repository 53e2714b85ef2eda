-- Why a plan by hand is not lawful.
use Rattle.std.specs.Prelude.{ℕ, nat_le, nat_lt, List, length, map, slice_get, slice_index, find, Option, Some, None, option_map, if◌then◌else◌}
use Rattle.std.specs.List.{range_with_len}
use Rattle.codelets.specs.declared.codelet.Kind.{Kind}
use Rattle.codelets.specs.declared.codelet.Kind.TheVariants.{Stateless, Stateful}
use Rattle.codelets.specs.declared.codelet.Codelet.{Codelet}
use Rattle.codelets.specs.Lists.{first_some, option_or}
use Rattle.stage_plan.specs.declared.place.Place.{Place}
use Rattle.stage_plan.specs.Schedule.{atoms_at, stage_at, width}
use Rattle.plan_check.specs.declared.fault.HandFault.{HandFault}
use Rattle.plan_check.specs.declared.fault.HandFault.TheVariants.{Early, Wide}

-- the least statement number of the codelet at a position
abbrev pub number_at : List Codelet → ℕ → ℕ
number_at cs k = slice_index (map (λ c. c.first) cs) k

-- the first codelet that the codelet at position k uses and that stands at no earlier stage
abbrev pub first_late : List Place → ℕ → Codelet → Option ℕ
first_late places k c = find (λ u. nat_le (stage_at places k) (stage_at places u)) c.uses

abbrev pub early_if : List Codelet → List Place → ℕ → Option Codelet → Option HandFault
early_if cs places k None = None
early_if cs places k (Some c) = option_map (λ u. Early c.first (number_at cs u)) (first_late places k c)

-- the first codelet in order that is not at a later stage than one that it uses, with the first such used one
abbrev pub first_early : List Codelet → List Place → Option HandFault
first_early cs places = first_some (λ k. early_if cs places k (slice_get cs k)) (range_with_len 0 (length cs))

-- a stage has more atoms of a kind than its width
abbrev pub wide_if : ℕ → ℕ → List Place → ℕ → Kind → Option HandFault
wide_if sl sf places stage kind = if nat_lt (width sl sf kind) (atoms_at places kind stage) then Some (Wide stage kind) else None

abbrev pub wide_at : ℕ → ℕ → List Place → ℕ → Option HandFault
wide_at sl sf places stage = option_or (wide_if sl sf places stage Stateless) (wide_if sl sf places stage Stateful)

-- the least such stage, atoms without state first
abbrev pub first_wide : ℕ → ℕ → ℕ → List Place → Option HandFault
first_wide depth sl sf places = first_some (wide_at sl sf places) (range_with_len 1 depth)

-- why places are no lawful plan for codelets on a pipeline of so many stages, with so many atoms of each kind at most; None
-- where they are one
abbrev pub hand_fault : ℕ → ℕ → ℕ → List Codelet → List Place → Option HandFault
hand_fault depth sl sf cs places = option_or (first_early cs places) (first_wide depth sl sf places)

-- What the code keeps while it goes through the stages.
use Rattle.std.specs.Prelude.{◌≡◌, ℕ, ◌<◌, ◌≤◌, nat_lt, List, [], ◌∷◌, ◌++◌, length, slice_index, slice_set, filter, nat_eq, if◌then◌else◌}
use Rattle.std.specs.List.{range_with_len}
use Rattle.container_plan.specs.Facts.{IsIn}
use Rattle.container_plan.specs.Spans.{Taken, container_in, number_in, held, taken, order}

-- until: for each container the last stage of the last value that took it
abbrev pub occupied : List ℕ → ℕ → ℕ → List ℕ
occupied until c stage = if nat_lt c (length until) then slice_set until c stage else until ++ stage ∷ []

module _ (made last : ℕ → ℕ) where
  -- a container is held at stage k where k is not past its last value's; names: for each value its container
  pub record IsState (names until : List ℕ) (done : List Taken) : Type 0 where
    pub stays : (k c : ℕ) → c < length until → k ≤ slice_index until c → IsIn c (held made last k done)
    pub ends : (k c : ℕ) → IsIn c (held made last k done) → (c < length until) × (k ≤ slice_index until c)
    pub named : (v : ℕ) → v < length names → slice_index names v ≡ container_in done v
    pub number : length until ≡ number_in done

-- the values made at stage k, among the first n
abbrev pub made_at : List ℕ → ℕ → ℕ → List ℕ
made_at made k n = filter (λ v. nat_eq (slice_index made v) k) (range_with_len 0 n)

-- all that is taken at the stages before a bound
abbrev pub taken_before : List ℕ → List ℕ → ℕ → List Taken
taken_before made last stages = taken (slice_index made) (slice_index last) (order (slice_index made) (range_with_len 0 (length made)) stages)

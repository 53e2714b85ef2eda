-- The parts of a configuration whose values share containers.
use Rattle.std.specs.Prelude.{ℕ, suc, ◌&&◌, nat_lt, nat_le, List, [], ◌∷◌, length, map, filter, if◌then◌else◌}
use Rattle.std.specs.List.{flat_map, range_with_len}
use Rattle.banzai_config.specs.declared.parts.Version.{Version}
use Rattle.banzai_config.specs.declared.parts.Version.TheVariants.{One, Two}
use Rattle.banzai_config.specs.Legal.{has}
use Rattle.banzai_config.specs.Named.{port_reads, stage_targets}
use Rattle.banzai_config.specs.Parts.{PartsForm, StageForm}
use Rattle.banzai_config.specs.Stages.{stage_reads}
use Rattle.container_plan.specs.Renamed.{parts_renamed}
use Rattle.container_plan.specs.Spans.{Taken, container_in, is_live, number_in, order, taken}

-- the first of the stages from k on that writes v; past the last where none does
abbrev pub made_from : ℕ → List StageForm → ℕ → ℕ
made_from k [] v = k
made_from k (stage ∷ stages) v = if has v (stage_targets stage) then k else made_from (suc k) stages v

-- the greatest of the stages from k on that reads v, else the stage since
abbrev pub last_from : ℕ → List StageForm → ℕ → ℕ → ℕ
last_from k [] v since = since
last_from k (stage ∷ stages) v since = last_from (suc k) stages v (if has v (stage_reads stage) then k else since)

-- the containers that outputs show
abbrev pub outputs_read : PartsForm → List ℕ
outputs_read p = flat_map port_reads p.outputs

abbrev pub depth : PartsForm → ℕ
depth p = length p.stages

-- the stage at which a value is made: 0 where it is a field's, else the stage that writes it; behind the last stage where it
-- is no value
abbrev pub made : PartsForm → ℕ → ℕ
made p v = if nat_lt v (length p.fields) then 0 else made_from 1 p.stages v

-- its last stage: behind the last one where an output shows it, else the greatest that reads it, else the one that makes it
abbrev pub last : PartsForm → ℕ → ℕ
last p v = if has v (outputs_read p) then suc (depth p) else last_from 1 p.stages v (made p v)

-- the values in the order in which they take containers: by the stage at which they are made, and then by number
abbrev pub values : PartsForm → List ℕ
values p = order (made p) (range_with_len 0 p.containers) (suc (depth p))

abbrev pub all_taken : PartsForm → List Taken
all_taken p = taken (made p) (last p) (values p)

-- the container that a value takes
abbrev pub container_of : PartsForm → ℕ → ℕ
container_of p v = container_in (all_taken p) v

-- the parts with shared containers
abbrev pub shared : PartsForm → PartsForm
shared p = parts_renamed (container_of p) (number_in (all_taken p)) p

-- parts of version two share their containers already
abbrev pub shared_by : Version → PartsForm → PartsForm
shared_by One p = shared p
shared_by Two p = p

-- how many values are live at stage k
abbrev pub live_at : PartsForm → ℕ → ℕ
live_at p k = length (filter (λ v. nat_le (made p v) (depth p) && is_live (made p) (last p) k v) (range_with_len 0 p.containers))

-- the same for each stage, from the entry 0 to the outputs behind the last stage
abbrev pub live_counts : PartsForm → List ℕ
live_counts p = map (live_at p) (range_with_len 0 (suc (suc (depth p))))

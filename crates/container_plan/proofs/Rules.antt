-- What legal parts of version one keep, in words that later proofs use.
use Rattle.std.proofs.Common.{ℕ, ◌<◌, ◌≤◌, ◌≢◌, ◌⊎◌, List, [], ◌∷◌, ◌++◌, length}
use Rattle.std.specs.List.{flat_map, AllByRecursion as Every}
use Rattle.banzai_config.specs.Named.{stage_targets}
use Rattle.banzai_config.specs.Parts.{PartsForm, StageForm}
use Rattle.banzai_config.specs.Stages.{stage_reads}
use Rattle.container_plan.specs.Facts.{IsIn, AreDistinct}
use Rattle.container_plan.specs.Shared.{outputs_read}

abbrev pub all_targets : List StageForm → List ℕ
all_targets ss = flat_map stage_targets ss

-- each stage reads fields, and what stages before it write; written: what earlier stages write
abbrev pub AreReadLater : ℕ → List ℕ → List StageForm → Type 0
AreReadLater fields written [] = Unit {0}
AreReadLater fields written (s ∷ ss) = Every (λ c. (c < fields) ⊎ IsIn c written) (stage_reads s) × AreReadLater fields (stage_targets s ++ written) ss

-- what both versions ask
pub record IsReadable (p : PartsForm) : Type 0 where
  pub entered : length p.fields ≤ p.containers
  pub within : Every (λ c. c < p.containers) (all_targets p.stages)
  pub earlier : AreReadLater (length p.fields) [] p.stages
  pub shown : Every (λ c. (c < length p.fields) ⊎ IsIn c (all_targets p.stages)) (outputs_read p)

-- version one: each value has a container of its own
pub record IsLegalOne (p : PartsForm) : Type 0 where
  pub readable : IsReadable p
  pub kept : Every (λ c. length p.fields ≤ c) (all_targets p.stages)
  pub once : AreDistinct (all_targets p.stages)

-- no atom of a stage writes what an atom of that stage reads, and no two writes of a stage name one container
abbrev pub IsApart : StageForm → Type 0
IsApart s = AreDistinct (stage_targets s) × Every (λ c. Every (λ d. c ≢ d) (stage_targets s)) (stage_reads s)

-- version two
pub record IsLegalTwo (p : PartsForm) : Type 0 where
  pub readable : IsReadable p
  pub apart : Every IsApart p.stages

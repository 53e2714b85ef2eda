-- How deep a machine is, by what its calls tell.
use Rattle.std.proofs.Common.{◌≡◌, ℕ, length, ap, ◌∙◌}
use Rattle.banzai_config.specs.Parts.{PartsForm}
use Rattle.banzai_machine.specs.State.{MachineForm}

-- the number of stages of the configuration that a machine shows is that of the one with which it began
pub depth_of : (depth : ℕ) (shown config : PartsForm) (seen machine : MachineForm) → depth ≡ length shown.stages → shown ≡ seen.config → seen ≡ machine → machine.config ≡ config → depth ≡ length config.stages
depth_of depth shown config seen machine count shown_is seen_is same = count ∙ ap (λ (p : PartsForm). length p.stages) (shown_is ∙ ap (λ (m : MachineForm). m.config) seen_is ∙ same)

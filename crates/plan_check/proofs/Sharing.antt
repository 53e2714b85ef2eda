-- A configuration of version one whose values share containers from now on.
use Rattle.std.proofs.Common.{◌≡◌, ap, ◌∙◌}
use Rattle.banzai_config.specs.declared.parts.Version.{Version}
use Rattle.banzai_config.specs.declared.parts.Version.TheVariants.{One}
use Rattle.banzai_config.specs.Parts.{PartsForm}
use Rattle.container_plan.specs.Shared.{shared, shared_by}

pub shared_of : (config own : PartsForm) → config ≡ own → own.version ≡ One → shared_by config.version config ≡ shared own
shared_of config own is one = ap (λ (p : PartsForm). shared_by p.version p) is ∙ ap (λ (v : Version). shared_by v own) one

-- No two targets have the same name.
use Rattle.std.proofs.Common.{◌≡◌, Some, refl}
use Rattle.banzai_config.specs.declared.target.Geometry.{Geometry}
use Rattle.banzai_config.specs.declared.target.Geometry.TheVariants.{Small, Medium, Large}
use Rattle.banzai_config.specs.declared.target.Target.{Target}
use Rattle.banzai_config.specs.declared.target.Template.{Template}
use Rattle.banzai_config.specs.declared.target.Template.TheVariants as template
use Rattle.banzai_config.specs.Targets.{name_of, target_named}

own_name : (t : Template) (g : Geometry) → target_named (name_of (record { template = t; geometry = g })) ≡ Some (record { template = t; geometry = g })
unfolding target_named
own_name template.Write Small = refl
own_name template.Write Medium = refl
own_name template.Write Large = refl
own_name template.Raw Small = refl
own_name template.Raw Medium = refl
own_name template.Raw Large = refl
own_name template.Praw Small = refl
own_name template.Praw Medium = refl
own_name template.Praw Large = refl
own_name template.IfElse Small = refl
own_name template.IfElse Medium = refl
own_name template.IfElse Large = refl
own_name template.Sub Small = refl
own_name template.Sub Medium = refl
own_name template.Sub Large = refl
own_name template.Nested Small = refl
own_name template.Nested Medium = refl
own_name template.Nested Large = refl
own_name template.Pairs Small = refl
own_name template.Pairs Medium = refl
own_name template.Pairs Large = refl

-- each target is the one that its name names
pub target_by_name : (t : Target) → target_named (name_of t) ≡ Some t
target_by_name t = own_name t.template t.geometry

use Rattle.std.proofs.Common.{nat_eq, not, ap, ◌∙◌}
use Rattle.banzai_config.specs.Checked.{shape_with}
use Rattle.banzai_config.specs.Parts.{parts_form}
use Rattle.config_text.specs.Fronts.{text_of}
use Rattle.dom_finding.specs.Configs.{config_form}
use Rattle.dom_finding.proofs.Stopped.{rule_stops}
use Rattle.dom_shell.proofs.Over.{config_of}
use Rattle.dom_shell.proofs.commands.upgrade.upgraded.Goals as goal

pub returns-in-Err-clause-stop : goal.returns-in-Err-clause-stop
returns-in-Err-clause-stop g c text spelled =
    rule_stops c.args.target (parts_form c.args.parts) text c.in-Err.fault c.config_stop.result c.config_stop.ensures spelled (rw (← c.requires.shape) at c.in-Err.ensures.fault)

pub returns-in_ok-write_config-in-Ok-clause-written : goal.returns-in_ok-write_config-in-Ok-clause-written
returns-in_ok-write_config-in-Ok-clause-written g c text spelled = (
  config_form c.args.target c.in-Ok.config,
  config_of c.args.target (parts_form c.args.parts) c.in-Ok.config c.in-Ok.ensures.parts (shape_with g.T.AtomTemplate.fits g.T.AtomTemplate.CONST_BITS g.row.DEPTH g.row.SL g.row.SF (not (nat_eq g.row.MUL 0))) text c.requires.shape spelled c.in-Ok.ensures.legal,
  c.in_ok-write_config-in-Ok.ensures.text ∙ ap (text_of c.args.target) c.in_ok-config-in-Ok.ensures.parts,
)

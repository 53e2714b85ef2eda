use Rattle.banzai_config.specs.Parts.{parts_form}
use Rattle.config_text.proofs.SmallTexts.{written_legal}
use Rattle.config_text.proofs.Written.{written}
use Rattle.config_text.proofs.writer.write_config.Goals as goal

pub returns-clause-text : goal.returns-clause-text
returns-clause-text g c =
    written c.args.target (parts_form c.in_ok-parts.parts) c.args.config.now c.new-text.result.items c.add_parts.new.text.items c.in_ok-parts.ensures c.new-text.ensures.items c.in_ok-add_parts.ensures.text

pub returns-clause-legal : goal.returns-clause-legal
returns-clause-legal g c =
    written_legal c.args.target (parts_form c.in_ok-parts.parts) c.args.config.now c.add_parts.new.text.items c.in_ok-parts.ensures c.in_ok-add_parts.ensures.small (returns-clause-text g c)

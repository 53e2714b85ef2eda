use Rattle.dom_shell.proofs.CompiledTexts.{compiled_config, compiled_short}
use Rattle.dom_shell.proofs.laws.compiled_text_is_a_configuration.Goals as goal

pub returns-clause-config : goal.returns-clause-config
returns-clause-config c = compiled_config

pub returns-clause-short : goal.returns-clause-short
returns-clause-short c = compiled_short

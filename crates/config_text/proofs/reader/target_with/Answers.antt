use Rattle.config_text.proofs.TargetNames.{no_utf8, none_named, some_named}
use Rattle.config_text.proofs.reader.target_with.Goals as goal

pub returns-in-Ok-clause-some : goal.returns-in-Ok-clause-some
returns-in-Ok-clause-some c = some_named c.named.result c.in-Ok.text.now c.args.name.now c.named.ensures c.in-Ok.ensures.cases.0

pub returns-in-Ok-clause-none : goal.returns-in-Ok-clause-none
returns-in-Ok-clause-none c = none_named c.named.result c.in-Ok.text.now c.args.name.now c.named.ensures c.in-Ok.ensures.cases.0

pub returns-in-Err-clause-none : goal.returns-in-Err-clause-none
returns-in-Err-clause-none c = no_utf8 c.args.name.now c.in-Err.ensures.cases.0

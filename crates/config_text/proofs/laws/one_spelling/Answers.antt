use Rattle.config_text.proofs.TextLines.{one_parts}
use Rattle.config_text.proofs.laws.one_spelling.Goals as goal

pub returns : goal.returns
returns c = one_parts

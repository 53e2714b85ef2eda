use Rattle.config_text.proofs.Sizes as sizes
use Rattle.config_text.proofs.laws.short_text.Goals as goal

pub returns : goal.returns
returns c = sizes.short_text

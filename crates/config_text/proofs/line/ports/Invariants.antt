use Rattle.std.proofs.Common.{◌≡◌, drop}
use Rattle.config_text.specs.Reading.{ports_from}
use Rattle.config_text.proofs.PortWords.{ports_after}
use Rattle.config_text.proofs.line.ports.Given as goal

abbrev pub invariant-words : goal.invariant-words
invariant-words l = ports_after l.ports (drop l.word-index l.words) ≡ ports_from l.words

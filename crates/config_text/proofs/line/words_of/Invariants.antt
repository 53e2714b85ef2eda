use Rattle.std.proofs.Common.{◌≡◌, ◌+◌, ◌-◌, ◌≤◌, ◌++◌, length}
use Rattle.config_text.specs.Reading.{split}
use Rattle.config_text.proofs.Cursors.{words_at}
use Rattle.config_text.proofs.line.words_of.Given as goal

abbrev pub invariant-words : goal.invariant-words
invariant-words l = record {
  whole : split l.line ≡ l.words ++ words_at l.line l.at;
  within : l.at ≤ length l.line + 1;
}

abbrev pub decreases-words : goal.decreases-words
decreases-words l = length l.line + 1 - l.at

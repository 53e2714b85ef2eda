use Rattle.std.proofs.Common.{◌≡◌, drop}
use Rattle.std.specs.List.{find}
use Rattle.dom_words.specs.Names.{is_same}
use Rattle.banzai_config.specs.Targets.{name_of}
use Rattle.banzai_config.proofs.target.first_named.Given as goal

abbrev pub invariant-loop-target : goal.invariant-loop-target
invariant-loop-target l = find (λ t. is_same (name_of t) l.text) l.targets ≡ find (λ t. is_same (name_of t) l.text) (drop l.target-index l.targets)

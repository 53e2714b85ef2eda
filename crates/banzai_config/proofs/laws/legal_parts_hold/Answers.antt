use Rattle.banzai_config.specs.Legal.{rules_of}
use Rattle.banzai_config.proofs.Lawful.{all_hold, legal_arrays}
use Rattle.banzai_config.proofs.laws.legal_parts_hold.Goals as goal

pub returns-clause-rules : goal.returns-clause-rules
returns-clause-rules c = λ s p legal. all_hold (rules_of s p) legal

pub returns-clause-arrays : goal.returns-clause-arrays
returns-clause-arrays c = legal_arrays

use Rattle.dom_finding.proofs.OneFinding.{next_once}
use Rattle.dom_finding.proofs.laws.one_next.Goals as goal

pub returns : goal.returns
returns c = next_once

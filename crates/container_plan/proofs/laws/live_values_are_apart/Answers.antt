use Rattle.container_plan.proofs.Apart.{field_own, names_apart}
use Rattle.container_plan.proofs.Lawful.{legal_one}
use Rattle.container_plan.proofs.laws.live_values_are_apart.Goals as goal

pub returns : goal.returns
returns c = record {
  apart = λ s p legal version. names_apart p (legal_one s p legal version);
  fields = λ s p legal version. field_own p (legal_one s p legal version);
}

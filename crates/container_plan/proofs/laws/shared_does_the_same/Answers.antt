use Rattle.dom_words.specs.State.{started}
use Rattle.container_plan.proofs.Lawful.{legal_one, narrow}
use Rattle.container_plan.proofs.Meaning.{alone_same, one_same}
use Rattle.container_plan.proofs.Legal.{room}
use Rattle.container_plan.proofs.laws.shared_does_the_same.Goals as goal

pub returns : goal.returns
returns c = record {
  outcome = λ s p legal version hash. one_same hash p (legal_one s p legal version) (narrow s p legal) (room s p legal version);
  after = λ s p legal version hash. alone_same hash p (legal_one s p legal version) (narrow s p legal) (room s p legal version);
  alone = λ s p legal version hash packets. alone_same hash p (legal_one s p legal version) (narrow s p legal) (room s p legal version) (started p.arrays) packets;
}

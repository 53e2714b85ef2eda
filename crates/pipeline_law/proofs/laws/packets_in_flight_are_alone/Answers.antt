use Rattle.pipeline_law.proofs.Theorems.{alone_in_flight, unreached}
use Rattle.pipeline_law.proofs.laws.packets_in_flight_are_alone.Goals as goal

pub returns-clause-reached : goal.returns-clause-reached
returns-clause-reached g c = alone_in_flight

pub returns-clause-unreached : goal.returns-clause-unreached
returns-clause-unreached g c = unreached

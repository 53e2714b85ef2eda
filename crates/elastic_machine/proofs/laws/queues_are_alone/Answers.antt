use Rattle.elastic_machine.proofs.Alone.{alone_in_queues}
use Rattle.elastic_machine.proofs.laws.queues_are_alone.Goals as goal

pub returns : goal.returns
returns g c p most events owns = alone_in_queues (g.H.HashUnits.meaning c.args.hash.now) most p owns events

use Rattle.pipeline_law.proofs.Theorems.{in_queues, when_empty, whole_when_empty}
use Rattle.pipeline_law.proofs.laws.queues_are_serial.Goals as goal

pub returns-clause-queues : goal.returns-clause-queues
returns-clause-queues g c = in_queues

pub returns-clause-empty : goal.returns-clause-empty
returns-clause-empty g c = when_empty

pub returns-clause-whole : goal.returns-clause-whole
returns-clause-whole g c p most start events views = whole_when_empty p most start views events

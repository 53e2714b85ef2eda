use Rattle.pipeline_law.proofs.Theorems.{serial, serial_so_far}
use Rattle.pipeline_law.proofs.laws.pipeline_is_serial.Goals as goal

pub returns-clause-serial : goal.returns-clause-serial
returns-clause-serial g c = serial

pub returns-clause-so_far : goal.returns-clause-so_far
returns-clause-so_far g c = serial_so_far

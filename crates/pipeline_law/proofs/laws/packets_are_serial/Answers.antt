use Rattle.pipeline_law.proofs.Theorems.{serial_on_packets}
use Rattle.pipeline_law.proofs.laws.packets_are_serial.Goals as goal

pub returns : goal.returns
returns g c p start entries is_packet = serial_on_packets p start is_packet entries

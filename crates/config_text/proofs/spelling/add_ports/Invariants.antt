use Rattle.std.proofs.Common.{◌≡◌, ◌++◌, true, map, take}
use Rattle.std.specs.List.{list_all}
use Rattle.config_text.specs.Words.{port_fits, port_text}
use Rattle.config_text.specs.Writer.{with_commas}
use Rattle.config_text.proofs.spelling.add_ports.Given as goal

abbrev pub invariant-loop-port : goal.invariant-loop-port
invariant-loop-port l = (l.text.items ≡ l.fn.text.items ++ with_commas (map port_text (take l.port-index l.ports))) × (list_all port_fits (take l.port-index l.ports) ≡ true)

use Rattle.std.proofs.Common.{◌≡◌, ◌++◌, true, take}
use Rattle.std.specs.List.{flat_map, list_all}
use Rattle.config_text.specs.Lines.{out}
use Rattle.config_text.specs.Words.{port_fits}
use Rattle.config_text.specs.Writer.{line_bytes}
use Rattle.config_text.proofs.writer.add_outputs.Given as goal

abbrev pub invariant-loop-port : goal.invariant-loop-port
invariant-loop-port l = (l.text.items ≡ l.fn.text.items ++ flat_map (λ p. line_bytes (out p)) (take l.port-index l.outputs)) × (list_all port_fits (take l.port-index l.outputs) ≡ true)

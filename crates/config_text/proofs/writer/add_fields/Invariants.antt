use Rattle.std.proofs.Common.{◌≡◌, ◌++◌, take}
use Rattle.std.specs.List.{flat_map}
use Rattle.config_text.specs.Lines.{field}
use Rattle.config_text.specs.Writer.{line_bytes}
use Rattle.config_text.proofs.writer.add_fields.Given as goal

abbrev pub invariant-loop-name : goal.invariant-loop-name
invariant-loop-name l = l.text.items ≡ l.fn.text.items ++ flat_map (λ name. line_bytes (field name)) (take l.name-index l.names)

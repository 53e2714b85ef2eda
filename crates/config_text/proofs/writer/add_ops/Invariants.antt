use Rattle.std.proofs.Common.{◌≡◌, ◌++◌, true, take}
use Rattle.std.specs.List.{flat_map, list_all}
use Rattle.config_text.specs.Small.{is_op_small}
use Rattle.config_text.specs.Writer.{op_bytes}
use Rattle.config_text.proofs.writer.add_ops.Given as goal

abbrev pub invariant-loop-item : goal.invariant-loop-item
invariant-loop-item l = (l.text.items ≡ l.fn.text.items ++ flat_map op_bytes (take l.item-index l.atoms)) × (list_all is_op_small (take l.item-index l.atoms) ≡ true)

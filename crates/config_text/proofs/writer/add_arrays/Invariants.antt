use Rattle.std.proofs.Common.{◌≡◌, ◌++◌, true, take}
use Rattle.std.specs.List.{flat_map, list_all}
use Rattle.config_text.specs.Lines.{array}
use Rattle.config_text.specs.Small.{is_array_small}
use Rattle.config_text.specs.Writer.{line_bytes}
use Rattle.config_text.proofs.writer.add_arrays.Given as goal

abbrev pub invariant-loop-item : goal.invariant-loop-item
invariant-loop-item l = (l.text.items ≡ l.fn.text.items ++ flat_map (λ a. line_bytes (array a)) (take l.item-index l.arrays)) × (list_all is_array_small (take l.item-index l.arrays) ≡ true)

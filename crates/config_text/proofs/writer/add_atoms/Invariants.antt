use Rattle.std.proofs.Common.{◌≡◌, ◌++◌, true, map, take}
use Rattle.std.specs.List.{flat_map, list_all}
use Rattle.banzai_config.specs.Parts.{atom_form}
use Rattle.config_text.specs.Writer.{atom_bytes, is_atom_written}
use Rattle.config_text.proofs.writer.add_atoms.Given as goal

abbrev pub invariant-loop-item : goal.invariant-loop-item
invariant-loop-item l = (l.text.items ≡ l.fn.text.items ++ flat_map atom_bytes (map atom_form (take l.item-index l.atoms))) × (list_all is_atom_written (map atom_form (take l.item-index l.atoms)) ≡ true)

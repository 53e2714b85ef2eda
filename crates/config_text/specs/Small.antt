-- Configurations whose numbers are words, as all that stand in memory.
use Rattle.std.specs.Prelude.{Bool, true, ◌&&◌}
use Rattle.std.specs.List.{list_all}
use Rattle.dom_words.specs.declared.array.Array.{Array}
use Rattle.atom_traits.specs.declared.tree.Source.{Source}
use Rattle.atom_traits.specs.declared.tree.Source.TheVariants as source
use Rattle.atom_traits.specs.Operation.{ports_of}
use Rattle.atom_traits.specs.Tests.{trees_pass}
use Rattle.banzai_config.specs.declared.parts.OpAtom.{OpAtom}
use Rattle.banzai_config.specs.declared.parts.PartSlot.{PartSlot}
use Rattle.banzai_config.specs.Parts.{AtomForm, PartsForm, StageForm}
use Rattle.config_text.specs.Words.{is_small, option_fits, port_fits}

abbrev pub is_array_small : Array → Bool
is_array_small a = is_small a.length && is_small a.init

abbrev pub is_source_small : Source → Bool
is_source_small (source.Const n) = is_small n
is_source_small (source.Container n) = is_small n
is_source_small (source.State n) = true

abbrev pub is_op_small : OpAtom → Bool
is_op_small a = is_small a.to && list_all port_fits (ports_of a.op)

abbrev pub is_slot_small : PartSlot → Bool
is_slot_small s = is_small s.array && (port_fits s.index && (option_fits s.old && option_fits s.new))

abbrev pub is_atom_small : AtomForm → Bool
is_atom_small a = list_all is_slot_small a.slots && trees_pass port_fits is_source_small a.trees

abbrev pub is_stage_small : StageForm → Bool
is_stage_small s = list_all is_op_small s.stateless && list_all is_atom_small s.stateful

-- each number of arrays, atoms and outputs is below 2^32
abbrev pub has_small_numbers : PartsForm → Bool
has_small_numbers p = list_all is_array_small p.arrays && (list_all is_stage_small p.stages && list_all port_fits p.outputs)

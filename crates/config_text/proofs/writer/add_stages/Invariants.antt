use Rattle.std.proofs.Common.{◌≡◌, ◌++◌, true, map, take}
use Rattle.std.specs.List.{list_all}
use Rattle.banzai_config.specs.Parts.{stage_form}
use Rattle.config_text.specs.Writer.{is_stage_written, stages_bytes}
use Rattle.config_text.proofs.writer.add_stages.Given as goal

abbrev pub invariant-stages : goal.invariant-stages
invariant-stages l = (l.text.items ≡ l.fn.text.items ++ stages_bytes 1 (map stage_form (take l.k l.stages))) × (list_all is_stage_written (map stage_form (take l.k l.stages)) ≡ true)

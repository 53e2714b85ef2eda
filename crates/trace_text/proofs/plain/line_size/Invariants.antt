use Rattle.std.proofs.Common.{◌≡◌, true, take}
use Rattle.std.specs.List.{list_all}
use Rattle.trace_text.specs.Plain.{is_in_line}
use Rattle.trace_text.proofs.plain.line_size.Given as goal

abbrev pub invariant-loop-count : goal.invariant-loop-count
invariant-loop-count l = list_all is_in_line (take l.count l.text) ≡ true

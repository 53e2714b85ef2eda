use Rattle.std.proofs.Common.{◌≡◌, map, ◌++◌}
use Rattle.std.specs.Prelude.{flat_map}
use Rattle.dom_ast.specs.Flanks.{flank_form}
use Rattle.dom_ast.specs.Straight.{step_form}
use Rattle.state_flanks.specs.inner.Tables.{marks, steps_noted, steps_reads}
use Rattle.state_flanks.specs.WithFlanks.{step_mentions}
use Rattle.state_flanks.proofs.steps.put_steps.Given as goal

abbrev pub invariant-loop-step : goal.invariant-loop-step
invariant-loop-step l = record {
  items : map flank_form l.items ≡ map flank_form l.fn.items ++ steps_reads l.fn.mentioned (map step_form l.yielded);
  mentioned : l.mentioned ≡ marks l.fn.mentioned (flat_map step_mentions (map step_form l.yielded));
  written : l.written ≡ steps_noted l.fn.written (map step_form l.yielded);
}

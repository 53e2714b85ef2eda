use Rattle.std.proofs.Common.{◌≡◌, length, map, drop, true}
use Rattle.dom_ast.specs.Meaning.{entering}
use Rattle.dom_ast.specs.Resolved.{bodies_form}
use Rattle.dom_ast.specs.inner.Runs.{all_run, bodies_within, picked, ranges_over}
use Rattle.dom_ast.proofs.serial.run_picked.Given as goal

abbrev pub invariant-loop-k : goal.invariant-loop-k
invariant-loop-k g l =
    let meaning = g.H.HashUnits.meaning l.hash in
    record {
      rest : all_run meaning (picked (bodies_form (drop l.k l.bodies)) (drop l.k l.answers)) (entering l.words l.state) ≡ all_run meaning (picked (bodies_form l.bodies) l.answers) (entering l.fn.words l.fn.state);
      sizes : map length l.state ≡ map length l.fn.state;
      within : bodies_within (ranges_over l.words l.state) (bodies_form l.bodies) ≡ true;
    }

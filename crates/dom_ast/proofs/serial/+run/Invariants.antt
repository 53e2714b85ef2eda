use Rattle.std.proofs.Common.{◌≡◌, length, map, drop, true}
use Rattle.dom_ast.specs.Meaning.{all_acted, entering}
use Rattle.dom_ast.specs.Resolved.{act_forms}
use Rattle.dom_ast.specs.inner.Runs.{acts_within, ranges_over}
use Rattle.dom_ast.proofs.serial.+run.Given as goal

abbrev pub invariant-run_all-loop-k : goal.invariant-run_all-loop-k
invariant-run_all-loop-k g l =
    let meaning = g.H.HashUnits.meaning l.hash in
    record {
      rest : all_acted meaning (act_forms (drop l.k l.acts)) (entering l.words l.state) ≡ all_acted meaning (act_forms l.acts) (entering l.initial.words l.initial.state);
      sizes : map length l.state ≡ map length l.initial.state;
      within : acts_within (ranges_over l.words l.state) (act_forms l.acts) ≡ true;
    }

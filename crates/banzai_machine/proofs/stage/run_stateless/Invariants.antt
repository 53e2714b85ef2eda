use Rattle.std.proofs.Common.{◌≡◌, length, take}
use Rattle.pipeline_law.specs.Order.{runs}
use Rattle.banzai_machine.specs.InPlace.{op_in_place}
use Rattle.banzai_machine.proofs.stage.run_stateless.Given as goal

abbrev pub invariant-loop-i : goal.invariant-loop-i
invariant-loop-i g l =
    record {
      words : l.words ≡ runs (op_in_place (g.H.HashUnits.meaning l.hash)) (take l.i l.atoms) l.fn.words;
      size : length l.words ≡ length l.fn.words;
    }

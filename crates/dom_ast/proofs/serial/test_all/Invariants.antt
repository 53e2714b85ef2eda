use Rattle.std.proofs.Common.{◌≡◌, map, take}
use Rattle.dom_ast.specs.Meaning.{entering, is_chosen}
use Rattle.dom_ast.specs.Resolved.{bodies_form}
use Rattle.dom_ast.proofs.serial.test_all.Given as goal

abbrev pub invariant-loop-k : goal.invariant-loop-k
invariant-loop-k g l =
    take l.k l.answers ≡ map (is_chosen (g.H.HashUnits.meaning l.hash) (entering l.words l.state)) (bodies_form (take l.k l.bodies))

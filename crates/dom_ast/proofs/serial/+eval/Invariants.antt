use Rattle.std.proofs.Common.{◌≡◌, ◌++◌, drop, take}
use Rattle.dom_ast.specs.Meaning.{entering, folded, names_in, values}
use Rattle.dom_ast.specs.Resolved.{forms}
use Rattle.dom_ast.specs.inner.PartOps.{op_forms}
use Rattle.dom_ast.proofs.serial.+eval.Given as goal

abbrev pub invariant-eval_all-loop-k : goal.invariant-eval_all-loop-k
invariant-eval_all-loop-k g l =
    let names = names_in (entering l.words l.state) in
    let meaning = g.H.HashUnits.meaning l.hash in
    take l.k l.out ++ values meaning names (forms (drop l.k l.parts)) ≡ values meaning names (forms l.parts)

abbrev pub invariant-eval_rest-loop-k : goal.invariant-eval_rest-loop-k
invariant-eval_rest-loop-k g l =
    let names = names_in (entering l.words l.state) in
    let meaning = g.H.HashUnits.meaning l.hash in
    folded meaning names l.word (op_forms (drop l.k l.rest)) ≡ folded meaning names l.first (op_forms l.rest)

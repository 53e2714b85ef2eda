use Rattle.std.proofs.Common.{◌∙◌, ℕ, ap, take}
use Rattle.std.proofs.lemmas.List.{length-map}
use Rattle.dom_ast.specs.Resolved.{bodies_form, body_form}
use Rattle.dom_ast.proofs.Serials.{one_is}
use Rattle.dom_ast.proofs.serial.run_once.Goals as goal

pub returns-clause-env : goal.returns-clause-env
returns-clause-env g c =
    c.run_picked.ensures.env
    ∙ one_is (g.H.HashUnits.meaning c.args.hash.now) (bodies_form c.args.bodies.now) c.test_all.new.answers c.args.words.now c.args.state.now
    (ap (λ (n : ℕ). take n c.test_all.new.answers) (length-map c.args.bodies.now body_form) ∙ c.test_all.ensures)

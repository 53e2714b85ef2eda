use Rattle.dom_flat.specs.Form.{flat_form}
use Rattle.dom_flat.proofs.Consistent.{is_consistent}
use Rattle.dom_flat.proofs.laws.run_is_consistent.Goals as goal

pub returns : goal.returns
returns c =
    let flat = c.args.flat.now in
    is_consistent (flat_form flat) flat.order flat.flanks flat.known_outputs

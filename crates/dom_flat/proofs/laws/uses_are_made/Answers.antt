use Rattle.std.proofs.Common.{length}
use Rattle.dom_flat.proofs.Positions.{output_makes, used_before, used_makes}
use Rattle.dom_flat.proofs.laws.uses_are_made.Goals as goal

pub returns : goal.returns
returns c =
    let flat = c.args.flat.now in
    record {
      before = λ b u l at used. used_before (length flat.fields) flat.lines b u l flat.order at used;
      made = λ a b l at used. used_makes (length flat.fields) flat.lines a b l flat.order at used;
      shown = λ a used. output_makes (length flat.fields) flat.lines a flat.outputs flat.known_outputs used;
    }

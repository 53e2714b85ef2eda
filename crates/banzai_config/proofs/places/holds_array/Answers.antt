use Rattle.banzai_config.proofs.Placed.{holds_by}
use Rattle.banzai_config.proofs.places.holds_array.Goals as goal

pub returns : goal.returns
returns g c = holds_by g.T.AtomTemplate.trees_of c.args.array c.args.stage.now c.as_slice-atoms.result.now c.have_array.result c.have_array.ensures c.as_slice-atoms.ensures

use Rattle.dom_compile.proofs.WellNamed.{is_well_named}
use Rattle.dom_compile.proofs.laws.well_named.Goals as goal

pub returns : goal.returns
returns c = is_well_named

use Rattle.std.proofs.Common.{◌≡◌, ◌+◌, drop, map}
use Rattle.banzai_config.specs.Fitted.{fitted_form}
use Rattle.banzai_config.specs.Places.{place_from, place_of}
use Rattle.banzai_config.proofs.places.first_holder.Given as goal

abbrev pub invariant-loop-k : goal.invariant-loop-k
invariant-loop-k g l =
    place_of (map (fitted_form g.T.AtomTemplate.trees_of) l.stages) l.array ≡ place_from (l.k + 1) (map (fitted_form g.T.AtomTemplate.trees_of) (drop l.k l.stages)) l.array

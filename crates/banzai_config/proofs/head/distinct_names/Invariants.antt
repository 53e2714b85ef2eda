use Rattle.std.proofs.Common.{◌≡◌, drop, take}
use Rattle.std.specs.List.{list_all}
use Rattle.banzai_config.specs.Legal.{are_names, is_fresh_name, standing_after}
use Rattle.banzai_config.proofs.head.distinct_names.Given as goal

abbrev pub invariant-loop-k : goal.invariant-loop-k
invariant-loop-k l = record {
  found : l.found ≡ take l.k l.names;
  rest : are_names l.names ≡ list_all is_fresh_name (standing_after (take l.k l.names) (drop l.k l.names));
}

use Rattle.std.proofs.Common.{◌≡◌, ◌≤◌, ◌++◌, [], length, map, drop}
use Rattle.dom_checks.specs.Walk.{fields_checks, first_fault}
use Rattle.dom_checks.proofs.heads.fields_of.Given as goal

abbrev pub invariant-loop-field : goal.invariant-loop-field
invariant-loop-field l = record {
  names : l.names ++ map (λ f. f.1) (drop l.field-index l.fields) ≡ map (λ f. f.1) l.fields;
  few : length l.names ≤ 64;
  checks : first_fault (fields_checks [] l.fields) ≡ first_fault (fields_checks l.names (drop l.field-index l.fields));
}

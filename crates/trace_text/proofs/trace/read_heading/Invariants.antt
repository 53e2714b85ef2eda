use Rattle.std.proofs.Common.{◌≡◌, ◌+◌, take, drop}
use Rattle.csv.specs.Records.{fields_of}
use Rattle.trace_text.specs.Trace.{heading_refusal, names_refusal}
use Rattle.trace_text.proofs.trace.read_heading.Given as goal

abbrev pub invariant-loop-c : goal.invariant-loop-c
invariant-loop-c l =
    let heading = fields_of l.heading in
    record {
      names : l.names ≡ drop 1 (take l.c heading);
      good : heading_refusal l.fields heading ≡ names_refusal l.fields (drop 1 (take l.c heading)) (l.c + 1) (drop l.c heading);
    }

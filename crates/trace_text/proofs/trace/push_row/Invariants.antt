use Rattle.std.proofs.Common.{◌≡◌, ◌+◌, ◌∷◌, ◌++◌, map, take, drop}
use Rattle.std.specs.Prelude.{unwrap_or}
use Rattle.csv.specs.Records.{fields_of}
use Rattle.dom_words.specs.Number.{word_of_text}
use Rattle.trace_text.specs.Trace.{fields_refusal, gap_of, words_refusal}
use Rattle.trace_text.proofs.trace.push_row.Given as goal

abbrev pub invariant-loop-c : goal.invariant-loop-c
invariant-loop-c l =
    let fields = fields_of l.row in
    record {
      cells : l.cells.items ≡ l.fn.cells.items ++ gap_of fields ∷ map (λ text. unwrap_or (word_of_text text) 0) (drop 1 (take l.c fields));
      good : fields_refusal l.number fields ≡ words_refusal l.number (l.c + 1) (drop l.c fields);
    }

use Rattle.std.proofs.Common.{◌≡◌, ◌+◌, ◌*◌, ◌++◌, length, map}
use Rattle.trace_text.specs.Rows.{IsReading, rows_left}
use Rattle.trace_text.specs.Stored.{numbers_of, stored_packet, stored_packets}
use Rattle.trace_text.specs.Trace.{rows_refusal}
use Rattle.trace_text.proofs.trace.read_rows.Given as goal

abbrev pub invariant-loop-columns : goal.invariant-loop-columns
invariant-loop-columns l =
    let packets = map (λ row. stored_packet l.columns.items (numbers_of row)) in
    record {
      reading : IsReading l.reader;
      good : rows_refusal l.width (l.fn.count + 1) (rows_left l.fn.reader) ≡ rows_refusal l.width (l.count + 1) (rows_left l.reader);
      count : l.count + length (rows_left l.reader) ≡ l.fn.count + length (rows_left l.fn.reader);
      stored : length l.cells.items ≡ l.count * l.width;
      packets : stored_packets l.width l.columns.items l.fn.count l.fn.cells.items ++ packets (rows_left l.fn.reader) ≡ stored_packets l.width l.columns.items l.count l.cells.items ++ packets (rows_left l.reader);
    }

abbrev pub decreases-loop-columns : goal.decreases-loop-columns
decreases-loop-columns l = length (rows_left l.reader)

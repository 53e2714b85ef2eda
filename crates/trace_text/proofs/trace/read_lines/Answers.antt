use Rattle.std.proofs.Common.{ℕ, length, subst}
use Rattle.csv.specs.Records.{fields_of}
use Rattle.trace_text.specs.Plain.{ArePlainRows}
use Rattle.trace_text.proofs.PlainRows.{ok-same, packets-all}
use Rattle.trace_text.proofs.trace.read_lines.Goals as goal

pub returns-clause-packets : goal.returns-clause-packets
returns-clause-packets c =
    let plain = c.in_ok-plain.plain in
    let are = subst (λ (width : ℕ). ArePlainRows width plain.count plain.cells.items c.args.text.now plain.behind.now) c.len.ensures c.in_ok-plain.ensures in
    ok-same c.read_rows.result _ _ c.read_rows.ensures.packets
    (packets-all (length (fields_of c.args.row.now)) plain.count plain.cells.items c.args.text.now plain.behind.now c.args.columns.items _ are c.reader_of-reader.ensures.rows)

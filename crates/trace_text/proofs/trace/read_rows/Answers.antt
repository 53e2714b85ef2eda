use Rattle.std.proofs.Common.{◌≡◌, ◌∙◌, ◌∷◌, ℕ, ◌+◌, ◌<◌, List, ◌++◌, length, map, ap, rules, arith}
use Rattle.csv.specs.Records.{fields_of}
use Rattle.trace_text.specs.Rows.{rows_left}
use Rattle.trace_text.specs.Stored.{numbers_of, stored_packet, stored_packets}
use Rattle.trace_text.specs.Trace.{rows_refusal}
use Rattle.trace_text.proofs.Storing.{next-good, next-packets, next-stored}
use Rattle.trace_text.proofs.trace.read_rows.Goals as goal

pub loop-columns-preserved : goal.loop-columns-preserved
loop-columns-preserved c =
    let inv = c.loop-columns.invariant in
    let width = c.len-width.result in
    let count = c.loop-columns.count in
    let row = fields_of c.next_row.new.row in
    let rest = rows_left c.next_row.new.reader in
    let items = c.in_ok-push_row.ensures.cells in
    let rows : rows_left c.loop-columns.reader ≡ row ∷ rest = rw c.if-branch.true at c.in_ok-next_row.ensures.rows in
    let wide : length row ≡ width = search rules in
    let some : 0 < width = omega arith in
    record {
      reading = c.in_ok-next_row.ensures.reading c.if-branch.true;
      good = inv.good ∙ ap (rows_refusal width (count + 1)) rows ∙ next-good width (count + 1) row rest wide c.in_ok-push_row.ensures.good;
      count = let size = ap length rows in omega (arith, inv.count, size);
      stored = rw items (next-stored width count c.loop-columns.cells.items row inv.stored wide some);
      packets = rw items (inv.packets
          ∙ ap (λ (l : List (List (List ℕ))). stored_packets width c.args.columns.items count c.loop-columns.cells.items ++ map (λ r. stored_packet c.args.columns.items (numbers_of r)) l) rows
          ∙ next-packets width c.args.columns.items count c.loop-columns.cells.items row rest inv.stored wide some);
    }

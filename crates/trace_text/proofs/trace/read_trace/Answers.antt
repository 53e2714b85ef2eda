use Rattle.std.proofs.Common.{◌≡◌, ◌∙◌, ◌∷◌, [], sym, ap, arith, length, Err, refl}
use Rattle.std.proofs.lemmas.List.{length-map}
use Rattle.std.proofs.lemmas.Result.{err_from_is_err_and}
use Rattle.csv.specs.Reading.{default_config, records, strip_bom}
use Rattle.csv.specs.Records.{fields_of}
use Rattle.trace_text.specs.Rows.{rows_left}
use Rattle.trace_text.specs.Trace.{IsTraceOf, no_header}
use Rattle.trace_text.proofs.Whole.{columns-there, good-trace, heading-few, is_trace, packets-seen, refused-cycles, refused-heading, refused-rows, rows-few, told, words-all}
use Rattle.trace_text.proofs.trace.read_trace.Goals as goal

-- the heading and the rows of the text
the_rows : (c : goal.After-row-2-1) → records default_config (strip_bom c.args.text.now) ≡ fields_of c.next_row.new.row ∷ rows_left c.next_row.new.reader
the_rows c = sym c.reader_of-reader.ensures.rows ∙ rw c.if-not-branch.false at c.in_ok-next_row.ensures.rows

pub returns-then-not-branch-clause-refused : goal.returns-then-not-branch-clause-refused
returns-then-not-branch-clause-refused c =
    let none = sym c.reader_of-reader.ensures.rows ∙ rw c.if-not-branch.true at c.in_ok-next_row.ensures.rows in
    is_trace c.args.text.now c.args.fields.now c.args.depth (Err no_header) [] none refl

pub read_heading-requires : goal.read_heading-requires
read_heading-requires c = heading-few c.args.text.now c.args.fields.now c.args.depth (fields_of c.next_row.new.row) (rows_left c.next_row.new.reader) (the_rows c) c.requires

pub returns-in_err-names-clause-refused : goal.returns-in_err-names-clause-refused
returns-in_err-names-clause-refused c =
    let rows = sym c.reader_of-reader.ensures.rows ∙ rw c.if-not-branch.false at c.in_ok-next_row.ensures.rows in
    let p = err_from_is_err_and c.from_residual-in_err-names.result c.from_residual-in_err-names.ensures.1 in
    rw (p.1, p.2) (told (λ r. IsTraceOf c.args.text.now c.args.fields.now c.args.depth (Err r)) _ _ c.in_err-names.ensures.refused
    (refused-heading c.args.text.now c.args.fields.now c.args.depth (fields_of c.next_row.new.row) (rows_left c.next_row.new.reader) rows))

pub read_rows_behind-requires-clause-rows : goal.read_rows_behind-requires-clause-rows
read_rows_behind-requires-clause-rows c =
    let rows = sym c.reader_of-reader.ensures.rows ∙ rw c.if-not-branch.false at c.in_ok-next_row.ensures.rows in
    rows-few c.args.text.now c.args.fields.now c.args.depth (fields_of c.next_row.new.row) (rows_left c.next_row.new.reader) rows c.requires

pub read_rows_behind-requires-clause-few : goal.read_rows_behind-requires-clause-few
read_rows_behind-requires-clause-few c =
    let rows = sym c.reader_of-reader.ensures.rows ∙ rw c.if-not-branch.false at c.in_ok-next_row.ensures.rows in
    heading-few c.args.text.now c.args.fields.now c.args.depth (fields_of c.next_row.new.row) (rows_left c.next_row.new.reader) rows c.requires

pub read_rows_behind-requires-clause-columns : goal.read_rows_behind-requires-clause-columns
read_rows_behind-requires-clause-columns c =
    columns-there (fields_of c.next_row.new.row) c.in_ok-names.names c.args.fields.now c.in_ok-columns.columns.items c.in_ok-names.ensures.some c.in_ok-names.ensures.names c.in_ok-columns.ensures

pub returns-in_err-trace-clause-refused : goal.returns-in_err-trace-clause-refused
returns-in_err-trace-clause-refused c =
    let rows = sym c.reader_of-reader.ensures.rows ∙ rw c.if-not-branch.false at c.in_ok-next_row.ensures.rows in
    let p = err_from_is_err_and c.from_residual-in_err-trace.result c.from_residual-in_err-trace.ensures.1 in
    rw (p.1, p.2) (told (λ r. IsTraceOf c.args.text.now c.args.fields.now c.args.depth (Err r)) _ _ c.in_err-trace.ensures.refused
    (λ r e. refused-rows c.args.text.now c.args.fields.now c.args.depth (fields_of c.next_row.new.row) (rows_left c.next_row.new.reader) rows r c.in_ok-names.ensures.good e))

pub cycles-requires : goal.cycles-requires
cycles-requires c =
    let rows = sym c.reader_of-reader.ensures.rows ∙ rw c.if-not-branch.false at c.in_ok-next_row.ensures.rows in
    let few = rows-few c.args.text.now c.args.fields.now c.args.depth (fields_of c.next_row.new.row) (rows_left c.next_row.new.reader) rows c.requires in
    let seen = packets-seen (fields_of c.next_row.new.row) c.in_ok-names.names c.args.fields.now c.in_ok-columns.columns.items (rows_left c.next_row.new.reader) c.in_ok-trace.trace c.in_ok-names.ensures.names c.in_ok-columns.ensures c.in_ok-trace.ensures.packets in
    let size = ap length seen ∙ length-map (rows_left c.next_row.new.reader) _ in
    omega (arith, size, few)

pub overflow_add-cycles : goal.overflow_add-cycles
overflow_add-cycles c =
    let rows = sym c.reader_of-reader.ensures.rows ∙ rw c.if-not-branch.false at c.in_ok-next_row.ensures.rows in
    let few = rows-few c.args.text.now c.args.fields.now c.args.depth (fields_of c.next_row.new.row) (rows_left c.next_row.new.reader) rows c.requires in
    let seen = packets-seen (fields_of c.next_row.new.row) c.in_ok-names.names c.args.fields.now c.in_ok-columns.columns.items (rows_left c.next_row.new.reader) c.in_ok-trace.trace c.in_ok-names.ensures.names c.in_ok-columns.ensures c.in_ok-trace.ensures.packets in
    let size = ap length seen ∙ length-map (rows_left c.next_row.new.reader) _ in
    omega (arith, size, few, c.cycles.ensures.small, c.from.ensures, c.ranges.depth)

pub returns-then-cycles-gt-MOST_CYCLES-clause-refused :
    goal.returns-then-cycles-gt-MOST_CYCLES-clause-refused
returns-then-cycles-gt-MOST_CYCLES-clause-refused c =
    let rows = sym c.reader_of-reader.ensures.rows ∙ rw c.if-not-branch.false at c.in_ok-next_row.ensures.rows in
    let seen = packets-seen (fields_of c.next_row.new.row) c.in_ok-names.names c.args.fields.now c.in_ok-columns.columns.items (rows_left c.next_row.new.reader) c.in_ok-trace.trace c.in_ok-names.ensures.names c.in_ok-columns.ensures c.in_ok-trace.ensures.packets in
    let many = rw (c.cycles.ensures.value, c.from.ensures) at c.if-cycles-gt-MOST_CYCLES.true in
    rw (c.cycles.ensures.value, c.from.ensures) (refused-cycles c.args.text.now c.args.fields.now c.args.depth (fields_of c.next_row.new.row) (rows_left c.next_row.new.reader) rows c.in_ok-trace.trace c.in_ok-names.ensures.good c.in_ok-trace.ensures.good seen many)

pub returns-clause-packets : goal.returns-clause-packets
returns-clause-packets c =
    let rows = sym c.reader_of-reader.ensures.rows ∙ rw c.if-not-branch.false at c.in_ok-next_row.ensures.rows in
    let seen = packets-seen (fields_of c.next_row.new.row) c.in_ok-names.names c.args.fields.now c.in_ok-columns.columns.items (rows_left c.next_row.new.reader) c.in_ok-trace.trace c.in_ok-names.ensures.names c.in_ok-columns.ensures c.in_ok-trace.ensures.packets in
    good-trace c.args.text.now c.args.fields.now c.args.depth (fields_of c.next_row.new.row) (rows_left c.next_row.new.reader) rows c.in_ok-trace.trace c.in_ok-names.ensures.good c.in_ok-trace.ensures.good seen (rw (c.cycles.ensures.value, c.from.ensures) at c.if-cycles-gt-MOST_CYCLES.false)

pub returns-clause-words : goal.returns-clause-words
returns-clause-words c =
    let seen = packets-seen (fields_of c.next_row.new.row) c.in_ok-names.names c.args.fields.now c.in_ok-columns.columns.items (rows_left c.next_row.new.reader) c.in_ok-trace.trace c.in_ok-names.ensures.names c.in_ok-columns.ensures c.in_ok-trace.ensures.packets in
    words-all (fields_of c.next_row.new.row) c.args.fields.now (rows_left c.next_row.new.reader) c.in_ok-trace.trace seen

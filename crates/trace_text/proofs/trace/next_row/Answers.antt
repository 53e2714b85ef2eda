use Rattle.std.proofs.Common.{inl, inr}
use Rattle.std.proofs.lemmas.Bool.{cases_Bool}
use Rattle.trace_text.proofs.Reading.{read-ended, read-found}
use Rattle.trace_text.proofs.trace.next_row.Goals as goal

pub returns-clause-reading : goal.returns-clause-reading
returns-clause-reading c found =
    let e = c.in-Ok.ensures in
    (read-found c.args.reader.now c.read_byte_record.new.self _ c.requires (e.ready c.requires.untrimmed) (rw found at (e.reads c.requires.untrimmed c.requires.ready))).0

pub returns-clause-rows : goal.returns-clause-rows
returns-clause-rows c =
    let e = c.in-Ok.ensures in
    elim (cases_Bool c.in-Ok.found) [
      | inl found ↦
          rw found (read-found c.args.reader.now c.read_byte_record.new.self _ c.requires (e.ready c.requires.untrimmed) (rw found at (e.reads c.requires.untrimmed c.requires.ready))).1
      | inr ended ↦
          rw ended (read-ended c.args.reader.now c.read_byte_record.new.self _ c.requires (rw ended at (e.reads c.requires.untrimmed c.requires.ready)))
    ]

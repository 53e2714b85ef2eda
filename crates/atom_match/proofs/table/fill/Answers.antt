use Rattle.std.proofs.Common.{length}
use Rattle.atom_match.specs.Classes.{class_of}
use Rattle.atom_match.proofs.Filled.{table_next}
use Rattle.atom_match.proofs.table.fill.Goals as goal

pub loop-number-preserved : goal.loop-number-preserved
loop-number-preserved c =
    rw (c.in_ok-push.ensures.items, c.next-found.ensures, c.deref.ensures.value) (table_next (class_of c.args.codelets.now c.args.codelet.now) c.args.view c.args.facts.now (length c.args.codelets.now.flat.lines) c.requires c.loop-number.number c.loop-number.table.items c.loop-number.invariant)

use Rattle.std.proofs.Common.{◌∙◌}
use Rattle.codelets.specs.Cut.{line_of}
use Rattle.codelets.specs.ByRows.{cut_by}
use Rattle.codelets.proofs.Tables.{map_more}
use Rattle.codelets.proofs.table.numbered_lines.Goals as goal

pub loop-number-preserved : goal.loop-number-preserved
loop-number-preserved c =
    c.in_ok-push.ensures.ok ∙ map_more (line_of (cut_by c.args.flat.now c.args.graph.now)) c.loop-number.number c.loop-number.table c.in_ok-line.line c.loop-number.invariant c.in_ok-line.ensures

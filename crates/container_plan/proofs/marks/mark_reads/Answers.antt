use Rattle.std.proofs.Common.{◌∙◌}
use Rattle.banzai_config.specs.Named.{reads_of}
use Rattle.container_plan.proofs.Marking.{marked_kinds}
use Rattle.container_plan.proofs.marks.mark_reads.Goals as goal

pub returns : goal.returns
returns c =
    c.mark_tree_reads.ensures ∙ rw (c.mark_op_reads.ensures, c.as_slice.ensures, c.as_slice-2.ensures) (marked_kinds reads_of c.args.stage c.args.atoms.now c.args.marks.now)

use Rattle.std.proofs.Common.{◌∙◌, sym}
use Rattle.dom_flat.specs.Lines.{is_flank}
use Rattle.codelets.specs.ByRows.{linked_by}
use Rattle.codelets.specs.Linked.{is_so, numbers, together}
use Rattle.codelets.proofs.Ranges.{any_filter, any_filter_turned}
use Rattle.codelets.proofs.groups.in_state.Goals as goal

pub returns : goal.returns
returns c =
    let P = linked_by c.args.flat.now c.args.graph.now in
    rw (c.any_beside.ensures, c.requires) (any_filter (is_so P is_flank) (together P c.args.a) (numbers P) ∙ sym (any_filter_turned (together P c.args.a) (is_so P is_flank) (numbers P)))

use Rattle.std.proofs.Common.{length, sym, ◌+◌}
use Rattle.codelets.specs.ByRows.{linked_by}
use Rattle.dom_flat.specs.Lines.{stores}
use Rattle.codelets.specs.Linked.{is_so, numbers, together}
use Rattle.codelets.proofs.Ranges.{any_filter_turned}
use Rattle.codelets.proofs.groups.is_stored.Goals as goal

pub returns : goal.returns
returns c =
    let P = linked_by c.args.flat.now c.args.graph.now in
    rw (c.any_store_beside.ensures, c.value_of-value.ensures, c.requires.numbers) (sym (any_filter_turned (together P c.args.a) (is_so P (stores (length c.args.flat.now.fields + c.args.a))) (numbers P)))

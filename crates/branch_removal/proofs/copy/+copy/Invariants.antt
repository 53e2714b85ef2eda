use Rattle.std.proofs.Common.{◌≡◌, map, take}
use Rattle.dom_ast.specs.Resolved.{form}
use Rattle.dom_ast.specs.inner.PartOps.{op_form}
use Rattle.branch_removal.proofs.copy.+copy.Given as goal

abbrev pub invariant-copy-loop-op : goal.invariant-copy-loop-op
invariant-copy-loop-op l = map op_form l.ops ≡ map op_form (take l.op-index l.op-items)

abbrev pub invariant-copy_all-loop-part : goal.invariant-copy_all-loop-part
invariant-copy_all-loop-part l = map form l.all ≡ map form (take l.part-index l.parts)

use Rattle.std.proofs.Common.{◌≡◌, map}
use Rattle.dom_ast.specs.Resolved.{form}
use Rattle.dom_ast.specs.inner.PartOps.{op_form}
use Rattle.ssa_names.specs.Naming.{renamed}
use Rattle.ssa_names.specs.inner.Tables.{current_of, op_renamed}
use Rattle.ssa_names.proofs.renaming.+renamed.Given as goal

abbrev pub invariant-renamed_all-loop-part : goal.invariant-renamed_all-loop-part
invariant-renamed_all-loop-part l = map form l.all ≡ map (renamed (current_of l.tables)) (map form l.yielded)

abbrev pub invariant-renamed_ops-loop-op : goal.invariant-renamed_ops-loop-op
invariant-renamed_ops-loop-op l = map op_form l.all ≡ map (op_renamed (current_of l.tables)) (map op_form l.yielded)

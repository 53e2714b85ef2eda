use Rattle.std.proofs.Common.{ℕ, Some, None, length, subst}
use Rattle.codelets.specs.ByRows.{linked_by}
use Rattle.codelets.specs.Linked.{uses_value}
use Rattle.codelets.specs.Used.{Added}
use Rattle.codelets.proofs.UsedNumbers.{line_added, none_added}
use Rattle.codelets.proofs.used.add_number.Goals as goal

pub returns-in_ok-add_line : goal.returns-in_ok-add_line
returns-in_ok-add_line c =
    line_added (linked_by c.args.flat.now c.args.graph.now) c.args.table.now c.args.number (length c.args.flat.now.fields) (Some c.in-Some.line.now) c.args.numbers.now c.add_line.new.numbers c.requires c.in-Some.ensures
    (subst (λ (f : ℕ). Added f (λ v. uses_value v c.in-Some.line.now) c.args.numbers.now c.add_line.new.numbers) c.len.ensures.number c.in_ok-add_line.ensures)

pub returns-in_default : goal.returns-in_default
returns-in_default c =
    line_added (linked_by c.args.flat.now c.args.graph.now) c.args.table.now c.args.number (length c.args.flat.now.fields) None c.args.numbers.now c.args.numbers.now c.requires c.in_default.ensures
    (none_added (length c.args.flat.now.fields) c.args.numbers.now)

use Rattle.std.proofs.Common.{length, ap, ◌∙◌, List, Option}
use Rattle.atom_match.specs.declared.found.Found.{Found}
use Rattle.atom_match.specs.Classes.{class_of, container_of}
use Rattle.atom_match.specs.Rules.{operand_found}
use Rattle.atom_match.specs.Table.{looked}
use Rattle.atom_match.proofs.Filled.{operand_is}
use Rattle.atom_match.proofs.table.answer_of.Goals as goal

pub returns : goal.returns
returns c =
    ap (λ (f : Found). f.answer) (c.look_operand-found.ensures ∙ ap (λ (t : List (Option Found)). operand_found c.args.view.state c.args.facts.now (λ u. looked (length c.args.codelets.now.flat.fields) (container_of c.args.codelets.now.values) c.args.view c.args.facts.now t u) c.args.operand) c.deref.ensures.value ∙ operand_is (class_of c.args.codelets.now c.args.codelet.now) c.args.view c.args.facts.now (length c.args.codelets.now.flat.lines) c.requires c.in_ok-table.table.items c.in_ok-table.ensures c.args.operand)

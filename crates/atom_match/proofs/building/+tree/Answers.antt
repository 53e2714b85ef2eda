use Rattle.std.proofs.Common.{◌∙◌, ◌∷◌, ◌-◌, false, refl, sym, ap, Some, None, arith}
use Rattle.atom_traits.specs.declared.tree.Tree.{Tree}
use Rattle.atom_traits.specs.Form.{form, form_if}
use Rattle.atom_match.specs.Classes.{class_of}
use Rattle.atom_match.specs.Resolve.{fact, tree_of}
use Rattle.atom_match.proofs.Steps.{fork_done}
use Rattle.atom_match.proofs.building.+tree.Goals as goal

pub returns-in_default : goal.returns-in_default
returns-in_default t c =
    fork_done (class_of c.args.codelets.now c.args.codelet.now) c.args.view c.args.depth c.args.facts.now c.args.operand c.in-Asks.guard c.deref.result.now (fact c.in-Asks.guard false ∷ c.args.facts.now) None (tree_of (class_of c.args.codelets.now c.args.codelet.now) c.args.view (c.args.depth - 1) (fact c.in-Asks.guard false ∷ c.args.facts.now) c.args.operand) (omega (arith, c.if-depth-eq0.false)) (sym c.in-Asks.is ∙ c.in_ok-leaf.ensures) (c.deref.ensures.value ∙ c.in_ok-first-in-Asks.ensures) refl (ap form_if (sym c.in_default.is) ∙ c.in_ok-yes-in-Asks.ensures) refl

pub returns-in_default-2 : goal.returns-in_default-2
returns-in_default-2 t c =
    fork_done (class_of c.args.codelets.now c.args.codelet.now) c.args.view c.args.depth c.args.facts.now c.args.operand c.in-Asks.guard c.deref.result.now c.deref-in-Asks.result.now (Some (form c.in-Some.yes)) None (omega (arith, c.if-depth-eq0.false)) (sym c.in-Asks.is ∙ c.in_ok-leaf.ensures) (c.deref.ensures.value ∙ c.in_ok-first-in-Asks.ensures) (c.deref-in-Asks.ensures.value ∙ c.in_ok-second-in-Asks.ensures) (ap form_if (sym c.in-Some.is) ∙ c.in_ok-yes-in-Asks.ensures) (ap form_if (sym c.in_default-2.is) ∙ c.in_ok-no-in-Asks.ensures)

pub returns-in_ok-no-in-Asks-2 : goal.returns-in_ok-no-in-Asks-2
returns-in_ok-no-in-Asks-2 t c =
    fork_done (class_of c.args.codelets.now c.args.codelet.now) c.args.view c.args.depth c.args.facts.now c.args.operand c.in-Asks.guard c.deref.result.now c.deref-in-Asks.result.now (Some (form c.in_ok-yes-in-Asks-2.yes.value)) (Some (form c.in_ok-no-in-Asks-2.no.value)) (omega (arith, c.if-depth-eq0.false)) (sym c.in-Asks.is ∙ c.in_ok-leaf.ensures) (c.deref.ensures.value ∙ c.in_ok-first-in-Asks.ensures) (c.deref-in-Asks.ensures.value ∙ c.in_ok-second-in-Asks.ensures) (ap (λ (x : Tree). Some (form x)) c.in_ok-yes-in-Asks-2.ensures.ok ∙ ap form_if (sym c.in-Some.is) ∙ c.in_ok-yes-in-Asks.ensures) (ap (λ (x : Tree). Some (form x)) c.in_ok-no-in-Asks-2.ensures.ok ∙ ap form_if (sym c.in-Some-2.is) ∙ c.in_ok-no-in-Asks.ensures)

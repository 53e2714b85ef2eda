use Rattle.std.proofs.Common.{◌≡◌, map, sym, ap, ◌∙◌, rules}
use Rattle.dom_ast.specs.Resolved.{call, chain, form, ops_of, parts_of}
use Rattle.dom_ast.specs.inner.PartOps.{op_form, op_forms}
use Rattle.ssa_names.specs.Naming.{renamed}
use Rattle.ssa_names.specs.inner.Tables.{current_of}
use Rattle.ssa_names.proofs.Forms.{form_call, form_chain}
use Rattle.ssa_names.proofs.Renamed.{all_renamed_of, ops_renamed_of}
use Rattle.ssa_names.proofs.renaming.+renamed.Goals as goal

pub renamed-returns-in_ok-renamed_all-in-Call : goal.renamed-returns-in_ok-renamed_all-in-Call
renamed-returns-in_ok-renamed_all-in-Call t c =
    let now = current_of c.args.tables.now in
    let args = ap parts_of c.in_ok-renamed_all-in-Call.ensures ∙ sym (all_renamed_of now (map form c.in-Call.args)) in
    form_call c.in-Call.unit c.in_ok-renamed_all-in-Call.field-0 ∙ ap (call c.in-Call.unit) args
    ∙ ap (renamed now) (sym (form_call c.in-Call.unit c.in-Call.args)) ∙ ap (λ p. renamed now (form p)) (sym c.in-Call.is)

pub renamed-returns-in_ok-renamed_ops-in-Chain : goal.renamed-returns-in_ok-renamed_ops-in-Chain
renamed-returns-in_ok-renamed_ops-in-Chain t c =
    let now = current_of c.args.tables.now in
    let first : form c.in_ok-boxed-in-Chain.field-0.value ≡ renamed now (form c.in-Chain.first.value) = search rules in
    let rest = ap ops_of c.in_ok-renamed_ops-in-Chain.ensures ∙ sym (ops_renamed_of now (map op_form c.in-Chain.rest)) in
    form_chain c.in_ok-boxed-in-Chain.field-0 c.in_ok-renamed_ops-in-Chain.field-0
    ∙ ap (λ p. chain p (op_forms c.in_ok-renamed_ops-in-Chain.field-0)) first ∙ ap (chain (renamed now (form c.in-Chain.first.value))) rest
    ∙ ap (renamed now) (sym (form_chain c.in-Chain.first c.in-Chain.rest)) ∙ ap (λ p. renamed now (form p)) (sym c.in-Chain.is)

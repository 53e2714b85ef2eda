-- The statement list means what the list with one name for each value means.
use Rattle.std.proofs.Common.{◌≡◌, ℕ, List, length, ap, ◌∙◌}
use Rattle.dom_words.specs.State.{Hash, IsSmallHash}
use Rattle.dom_ast.specs.Named.{NamedForm, named_outcome}
use Rattle.dom_ast.specs.Resolved.{PartForm}
use Rattle.dom_flat.specs.declared.line.Operand.{Operand}
use Rattle.dom_flat.specs.declared.line.Line.{Line}
use Rattle.dom_flat.specs.Meaning.{flat_outcome}
use Rattle.three_address.specs.Statements.{all_statements, statements}
use Rattle.three_address.proofs.Flanks.{whole}
use Rattle.three_address.proofs.KeptMeans.{needed_mean}
use Rattle.three_address.proofs.Means.{all_mean}
use Rattle.three_address.proofs.Passed.{IsList, list_lines, list_operands}

pub list_means : (lines : List Line) (operands : List Operand) (fields arrays : ℕ) (items : List NamedForm) (outputs : List PartForm) (l : IsList lines operands fields arrays items outputs) (hash : Hash) (packet : List ℕ) (state : List (List ℕ)) → IsSmallHash hash → length packet ≡ fields
    → flat_outcome hash lines operands packet state ≡ named_outcome hash items outputs packet state
list_means lines operands fields arrays items outputs l hash packet state small fits =
    let all = all_statements fields items outputs in
    let w = whole fields arrays items outputs l.named l.in_order l.outs in
    ap (λ (ls : List Line). flat_outcome hash ls operands packet state) (list_lines lines operands fields arrays items outputs l)
    ∙ ap (λ (os : List Operand). flat_outcome hash (statements fields items outputs).lines os packet state) (list_operands lines operands fields arrays items outputs l)
    ∙ needed_mean hash fields all.lines all.operands packet state fits w.order w.outputs
    ∙ all_mean hash fields packet state fits small arrays items outputs l.named l.outs

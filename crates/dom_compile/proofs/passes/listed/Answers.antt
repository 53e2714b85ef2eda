use Rattle.std.proofs.Common.{map}
use Rattle.dom_ast.specs.CheckedForm.{checked_form}
use Rattle.dom_ast.specs.Named.{named_form}
use Rattle.dom_ast.specs.Resolved.{form}
use Rattle.dom_compile.specs.Compiled.{IsTooLong}
use Rattle.dom_compile.specs.Layers.{of_flat}
use Rattle.dom_compile.proofs.Listed.{is_listed, renamed_cause, too_long}
use Rattle.dom_compile.proofs.passes.listed.Goals as goal

pub returns-in_err-flatten-clause-refused : goal.returns-in_err-flatten-clause-refused
returns-in_err-flatten-clause-refused c =
    renamed_cause c.from_residual-in_err-flatten.result (λ fault. IsTooLong (checked_form c.args.program.now) fault) (of_flat c.in_err-flatten.field-0.0) c.from_residual-in_err-flatten.ensures.1
    (too_long (checked_form c.args.program.now) c.in_ok-named.named.fields (map named_form c.in_ok-named.named.items) (map form c.in_ok-named.named.outputs)
    c.in_ok-named.ensures.fields c.in_ok-named.ensures.items c.in_ok-named.ensures.outputs c.in_err-flatten.field-0.0 c.in_err-flatten.ensures.refused)

pub returns-clause-list : goal.returns-clause-list
returns-clause-list c =
    is_listed (checked_form c.args.program.now) c.in_ok-named.named.fields (map named_form c.in_ok-named.named.items) (map form c.in_ok-named.named.outputs)
    c.in_ok-named.ensures.fields c.in_ok-named.ensures.items c.in_ok-named.ensures.outputs
    c.in_ok-named.named.arrays c.in_ok-flatten.field-0 c.in_ok-named.ensures.arrays c.in_ok-flatten.ensures.fields c.in_ok-flatten.ensures.arrays
    c.in_ok-flatten.ensures.lines c.in_ok-flatten.ensures.outputs c.in_ok-named.ensures.means c.in_ok-flatten.ensures.means

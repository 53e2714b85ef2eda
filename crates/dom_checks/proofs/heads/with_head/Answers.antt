use Rattle.std.proofs.Common.{ℕ, List, map, ap, ◌∙◌}
use Rattle.dom_checks.proofs.HeadSteps.{declares_struct}
use Rattle.dom_checks.proofs.heads.with_head.Goals as goal

pub returns-in_ok-tag-in-Struct-clause-scope : goal.returns-in_ok-tag-in-Struct-clause-scope
returns-in_ok-tag-in-Struct-clause-scope c =
    let names = c.in_ok-fields-in-Struct.ensures.names ∙ ap (map (λ (f : ℕ × List ℕ). f.1)) c.as_slice.ensures in
    let tag = c.in_ok-tag-in-Struct.ensures ∙ c.as_bytes-in-Struct.ensures in
    c.with_struct.ensures ∙ declares_struct _ _ _ _ _ _ _ c.in-Struct.is tag names

use Rattle.std.proofs.Common.{◌≡◌, ◌≤◌, ◌+◌, ◌*◌, ◌∙◌, ℕ, [], sym, subst, ap}
use Rattle.codelets.specs.Cut.{uses_codelet, longest}
use Rattle.codelets.specs.ByRows.{cut_by}
use Rattle.codelets.specs.Lists.{max_of}
use Rattle.codelets.proofs.Rounds.{settled_levels}
use Rattle.codelets.proofs.leveling.find_levels.Goals as goal

pub returns-then-branch : goal.returns-then-branch
returns-then-branch c =
    let D = cut_by c.args.flat.now c.args.graph.now in
    let both = c.in_ok-are_settled.ensures c.if-branch.true in
    let top : (c.len.result + 1) * (c.len.result + 1) ≡ longest D = ap (λ (m : ℕ). (m + 1) * (m + 1)) c.len.ensures in
    sym c.as_slice.ensures.value
    ∙ settled_levels (uses_codelet D) D.all [] c.as_slice.result.now c.args.lists.now c.requires.lists both.1 (longest D) (subst (λ (m : ℕ). max_of c.as_slice.result.now ≤ m) top both.0)

use Rattle.std.proofs.Common.{◌≡◌, ℕ, List, subst}
use Rattle.std.specs.Prelude.{IfOk}
use Rattle.codelets.specs.Cut.{used_in}
use Rattle.codelets.specs.ByRows.{cut_by}
use Rattle.codelets.proofs.listing.used_list.Goals as goal

pub returns : goal.returns
returns c =
    let D = cut_by c.args.flat.now c.args.graph.now in
    subst (λ (ds : List (List ℕ)). IfOk c.used_places.result (λ ks. ks ≡ used_in D ds c.args.c.now)) c.requires.order c.used_places.ensures

use Rattle.std.proofs.Common.{[]}
use Rattle.dom_flat.proofs.Positions.{one_fetch, one_store, store_fetched}
use Rattle.dom_flat.proofs.laws.flanks_are_paired.Goals as goal

pub returns : goal.returns
returns c =
    let flat = c.args.flat.now in
    record {
      fetched = λ j a i v at. store_fetched flat.lines j a i v flat.flanks at;
      one_fetch = λ j k a i i' p q. one_fetch flat.lines [] [] j k a i i' flat.flanks p q;
      one_store = λ j k a i i' v v' p q. one_store flat.lines [] [] j k a i i' v v' flat.flanks p q;
    }

use Rattle.std.proofs.Common.{length}
use Rattle.dom_flat.proofs.Positions.{args_within, fetch_within, store_within}
use Rattle.dom_flat.proofs.laws.places_are_in_range.Goals as goal

pub returns : goal.returns
returns c =
    let flat = c.args.flat.now in
    record {
      fetched = λ k a i at. fetch_within (length flat.arrays) flat.lines flat.ranges k a i at;
      stored = λ k a i v at. store_within (length flat.arrays) flat.lines flat.ranges k a i v at;
      arguments = λ k modulus unit args at. args_within (length flat.arrays) flat.lines flat.ranges k modulus unit args at;
    }

use Rattle.std.proofs.Common.{◌^◌}
use Rattle.std.proofs.lemmas.Bool.{leb-true, ltb-true}
use Rattle.dom_words.specs.State.{fits_word}
use Rattle.dom_words.specs.declared.array.Array.{Array}
use Rattle.dom_flat.specs.declared.line.Operand.TheVariants.{Const}
use Rattle.dom_flat.specs.declared.line.Line.{Line}
use Rattle.dom_flat.specs.declared.line.Line.TheVariants as line
use Rattle.dom_flat.specs.Kept.{has_small_modulus, has_word, have_words}
use Rattle.dom_flat.specs.Lines.{operands_of}
use Rattle.dom_flat.proofs.Positions.{all_at}
use Rattle.dom_flat.proofs.laws.numbers_are_words.Goals as goal

pub returns : goal.returns
returns c =
    let flat = c.args.flat.now in
    record {
      moduli = λ k modulus unit args at.
          leb-true modulus 2147483647 (all_at has_small_modulus flat.lines k (line.Hash unit modulus args) flat.small_moduli at);
      used = λ k j w l at there.
          ltb-true w (2 ^ 32) (all_at has_word (operands_of l) j (Const w) (all_at (λ (m : Line). have_words (operands_of m)) flat.lines k l flat.constants at) there);
      shown = λ j w there. ltb-true w (2 ^ 32) (all_at has_word flat.outputs j (Const w) flat.output_constants there);
      first = λ a array there.
          ltb-true array.init (2 ^ 32) (all_at (λ (x : Array). fits_word x.init) flat.arrays a array flat.first_words there);
    }

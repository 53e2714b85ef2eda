use Rattle.std.proofs.Common.{◌≡◌, ℕ, suc, ◌<◌, List, [], ◌∷◌, ◌++◌, length, take, set, ◌∙◌, ap, sym, arith, add-one}
use Rattle.std.proofs.lemmas.List.{length-set}
use Rattle.atom_traits.specs.Form.{port_word}
use Rattle.banzai_machine.proofs.Steps.{map_step, take_set}
use Rattle.banzai_machine.proofs.fire.show.Goals as goal

pub loop-i-preserved : goal.loop-i-preserved
loop-i-preserved c =
    let words : List ℕ = c.args.words.now in
    let w : ℕ = port_word c.get.result.now words in
    let less : c.loop-i.i < length c.loop-i.leaving = omega arith in
    let step : set c.loop-i.leaving c.loop-i.i c.port_value.result ≡ set c.loop-i.leaving c.loop-i.i w = ap (λ (v : ℕ). set c.loop-i.leaving c.loop-i.i v) c.port_value.ensures in
    record {
      size = ap length step ∙ length-set c.loop-i.leaving c.loop-i.i w ∙ c.loop-i.invariant.size;
      words = rw add-one
          (ap (λ (z : List ℕ). take (suc c.loop-i.i) z) step
          ∙ take_set c.loop-i.leaving c.loop-i.i w less
          ∙ ap (λ (z : List ℕ). z ++ w ∷ []) c.loop-i.invariant.words
          ∙ sym (map_step (λ port. port_word port words) c.args.outputs.now c.loop-i.i c.get.result.now c.get.ensures.item));
    }

use Rattle.std.proofs.Common.{◌≡◌, ℕ, List, set, ap, sym, ◌∙◌, add-one}
use Rattle.std.proofs.lemmas.List.{length-set}
use Rattle.banzai_machine.specs.InPlace.{op_in_place}
use Rattle.banzai_machine.proofs.Steps.{runs_step}
use Rattle.banzai_machine.proofs.stage.run_stateless.Goals as goal

pub loop-i-preserved : goal.loop-i-preserved
loop-i-preserved g c =
    let prev = c.loop-i.invariant in
    let hash = g.H.HashUnits.meaning c.args.hash.now in
    let atom = c.get-atom.result.now in
    let words : List ℕ = c.loop-i.words in
    let step : set words atom.to c.apply_stateless-word.result ≡ op_in_place hash atom words = ap (λ (w : ℕ). set words atom.to w) c.apply_stateless-word.ensures in
    record {
      words =
          rw add-one
          (step ∙ ap (λ (ws : List ℕ). op_in_place hash atom ws) prev.words
          ∙ sym (runs_step (op_in_place hash) c.args.atoms.now c.loop-i.i atom c.args.words.now c.get-atom.ensures.item));
      size = length-set words atom.to c.apply_stateless-word.result ∙ prev.size;
    }

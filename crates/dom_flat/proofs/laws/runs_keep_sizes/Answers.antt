use Rattle.std.proofs.Common.{◌∙◌}
use Rattle.std.proofs.lemmas.List.{length-map}
use Rattle.dom_flat.specs.Meaning.{flat_entering, operand_word, values_after}
use Rattle.dom_flat.proofs.Run.{run_sizes}
use Rattle.dom_flat.proofs.laws.runs_keep_sizes.Goals as goal

pub returns : goal.returns
returns c =
    let flat = c.args.flat.now in
    record {
      arrays = λ hash packet state. run_sizes hash (flat_entering packet state) flat.lines;
      packet = λ hash packet state.
          length-map flat.outputs (λ o. operand_word o (values_after hash (flat_entering packet state) flat.lines)) ∙ flat.one_output_each;
    }

use Rattle.std.proofs.Common.{◌≡◌, ◌+◌, length, map, take}
use Rattle.std.specs.List.{flat_map}
use Rattle.pipeline_law.specs.Order.{runs}
use Rattle.banzai_config.specs.Parts.{fit_form}
use Rattle.banzai_machine.specs.InPlace.{InPlace, fit_in_place}
use Rattle.banzai_machine.proofs.InPlaceLemmas.{placed}
use Rattle.banzai_machine.proofs.stage.run_stateful.Given as goal

abbrev pub invariant-loop-i : goal.invariant-loop-i
invariant-loop-i g l =
    record {
      ran : ◌≡◌ {A = InPlace} (placed l.words l.arrays l.touches.list) (runs (fit_in_place l.number) (map (fit_form g.T.AtomTemplate.trees_of) (take l.i l.atoms)) (placed l.fn.words l.fn.arrays l.fn.touches.list));
      noted : length l.touches.list ≡ length l.fn.touches.list + length (flat_map (λ atom. atom.slots) (take l.i l.atoms));
      room : l.touches.room ≡ l.fn.touches.room;
      sizes : map length l.arrays ≡ map length l.fn.arrays;
      size : length l.words ≡ length l.fn.words;
    }

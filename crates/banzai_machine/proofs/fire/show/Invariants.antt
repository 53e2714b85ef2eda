use Rattle.std.proofs.Common.{◌≡◌, length, map, take}
use Rattle.atom_traits.specs.Form.{port_word}
use Rattle.banzai_machine.proofs.fire.show.Given as goal

abbrev pub invariant-loop-i : goal.invariant-loop-i
invariant-loop-i l = record {
  size : length l.leaving ≡ length l.fn.leaving;
  words : take l.i l.leaving ≡ map (λ port. port_word port l.words) (take l.i l.outputs);
}

use Rattle.std.proofs.Common.{◌≡◌, ◌++◌, List, drop, length, map, take}
use Rattle.probe_taps.specs.Attached.{AttachedForm, after_cycle, attached_forms}
use Rattle.probe_taps.proofs.show.show_all.Given as goal

abbrev pub invariant-loop-k : goal.invariant-loop-k
invariant-loop-k g l =
    let before : List AttachedForm = attached_forms (λ b. (goal.Tap-dyn g (b.vtable, b.value)).form b.value) l.fn.taps in
    record {
      taps : attached_forms (λ b. (goal.Tap-dyn g (b.vtable, b.value)).form b.value) l.taps ≡ map (after_cycle l.cycle l.machine.row.registers) (take l.k before) ++ drop l.k before;
      size : length l.taps ≡ length l.fn.taps;
    }

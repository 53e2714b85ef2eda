use Rattle.std.proofs.Common.{◌<◌, length, arith, ◌∙◌, add-one}
use Rattle.std.proofs.lemmas.List.{length-set}
use Rattle.probe_taps.specs.Attached.{after_cycle, attached_form}
use Rattle.probe_taps.proofs.Boxes.{step_at}
use Rattle.probe_taps.proofs.show.show_all.Goals as goal

pub loop-k-preserved : goal.loop-k-preserved
loop-k-preserved g c =
    let step = after_cycle c.args.cycle c.args.machine.now.row.registers in
    let less : c.loop-k.k < length c.loop-k.taps = omega arith in
    record {
      taps =
          rw add-one
          (step_at (attached_form (λ b. (goal.Tap-dyn g (b.vtable, b.value)).form b.value)) step c.loop-k.taps c.args.taps.now c.loop-k.k c.show.new.attached c.index-taps-k.result
          less c.loop-k.invariant.size c.loop-k.invariant.taps c.show.ensures);
      size = length-set c.loop-k.taps c.loop-k.k c.show.new.attached ∙ c.loop-k.invariant.size;
    }

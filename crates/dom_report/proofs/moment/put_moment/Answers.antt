use Rattle.std.proofs.Common.{Bor, List, ℕ}
use Rattle.std.specs.Option.{option_map}
use Rattle.dom_report.specs.Clocking.{Cycle}
use Rattle.dom_report.proofs.WatchParts.{clock_stop, filled_stop, moment_put, out_stop}
use Rattle.dom_report.proofs.moment.put_moment.Goals as goal

pub returns-in_default-clause-bytes : goal.returns-in_default-clause-bytes
returns-in_default-clause-bytes g c =
    let cycle : Cycle = record { number = c.args.number; left = option_map (λ (words : Bor (List ℕ)). words.now) c.args.left; machine = c.args.machine.now } in
    clock_stop cycle _ (g.S.Sink.held c.clock.new.sink) c.in_default.ensures.bytes

pub returns-in_default-put_out-clause-bytes : goal.returns-in_default-put_out-clause-bytes
returns-in_default-put_out-clause-bytes g c =
    let cycle : Cycle = record { number = c.args.number; left = option_map (λ (words : Bor (List ℕ)). words.now) c.args.left; machine = c.args.machine.now } in
    out_stop cycle _ (g.S.Sink.held c.clock.new.sink) (g.S.Sink.held c.put_out.new.sink) c.in-Ok.ensures.bytes c.in_default-put_out.ensures.bytes

pub returns-in_default-put_registers-clause-bytes : goal.returns-in_default-put_registers-clause-bytes
returns-in_default-put_registers-clause-bytes g c =
    let cycle : Cycle = record { number = c.args.number; left = option_map (λ (words : Bor (List ℕ)). words.now) c.args.left; machine = c.args.machine.now } in
    filled_stop cycle _ (g.S.Sink.held c.clock.new.sink) (g.S.Sink.held c.put_out.new.sink) (g.S.Sink.held c.put_registers.new.sink) c.in-Ok.ensures.bytes c.in-Ok-put_out.ensures.bytes c.in_default-put_registers.ensures.bytes

pub returns-clause-bytes : goal.returns-clause-bytes
returns-clause-bytes g c =
    let cycle : Cycle = record { number = c.args.number; left = option_map (λ (words : Bor (List ℕ)). words.now) c.args.left; machine = c.args.machine.now } in
    moment_put cycle _ (g.S.Sink.held c.clock.new.sink) (g.S.Sink.held c.put_out.new.sink) (g.S.Sink.held c.put_registers.new.sink) _ c.put_touches.result
    c.in-Ok.ensures.bytes c.in-Ok-put_out.ensures.bytes c.in-Ok-put_registers.ensures.bytes
    (rw (c.touches.ensures.touches, c.in-Ok-put_registers.ensures.same, c.in-Ok-put_out.ensures.same, c.in-Ok.ensures.same, c.requires.arrays) at c.put_touches.ensures.bytes)

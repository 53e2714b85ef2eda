use Rattle.std.proofs.Common.{map}
use Rattle.probe_taps.specs.Attached.{attached_forms}
use Rattle.dom_report.proofs.ProbeEnd.{end_put, places_stop, taps_stop, words_stop}
use Rattle.dom_report.proofs.probe_report.put_end.Goals as goal

pub returns-in_default-clause-bytes : goal.returns-in_default-clause-bytes
returns-in_default-clause-bytes g c =
    words_stop c.args.tapped.now.machine.config c.args.tapped.now.machine.row.state (map (λ a. a.tap.number) (attached_forms (λ b. (goal.Tap-dyn g (b.vtable, b.value)).form b.value) c.args.tapped.now.taps.items))
    c.args.packets c.args.cycles _ (g.S.Sink.held c.put_words.new.sink) (rw (c.machine-machine.ensures, c.requires.arrays) at c.in_default.ensures.bytes)

pub returns-in_default-put_places-clause-bytes : goal.returns-in_default-put_places-clause-bytes
returns-in_default-put_places-clause-bytes g c =
    places_stop c.args.tapped.now.machine.config c.args.tapped.now.machine.row.state (map (λ a. a.tap.number) (attached_forms (λ b. (goal.Tap-dyn g (b.vtable, b.value)).form b.value) c.args.tapped.now.taps.items))
    c.args.packets c.args.cycles _ _ (g.S.Sink.held c.put_places.new.sink) (rw (c.machine-machine.ensures, c.requires.arrays) at c.in-Ok.ensures.bytes)
    (rw (c.machine-machine.ensures, c.in-Ok.ensures.same, c.requires.arrays) at c.in_default-put_places.ensures.bytes)

pub returns-in_default-put_taps-clause-bytes : goal.returns-in_default-put_taps-clause-bytes
returns-in_default-put_taps-clause-bytes g c =
    taps_stop c.args.tapped.now.machine.config c.args.tapped.now.machine.row.state (map (λ a. a.tap.number) (attached_forms (λ b. (goal.Tap-dyn g (b.vtable, b.value)).form b.value) c.args.tapped.now.taps.items))
    c.args.packets c.args.cycles _ _ (g.S.Sink.held c.put_places.new.sink) (g.S.Sink.held c.put_taps.new.sink) (rw (c.machine-machine.ensures, c.requires.arrays) at c.in-Ok.ensures.bytes)
    (rw (c.machine-machine.ensures, c.in-Ok.ensures.same, c.requires.arrays) at c.in-Ok-put_places.ensures.bytes) c.in_default-put_taps.ensures.bytes

pub returns-clause-bytes : goal.returns-clause-bytes
returns-clause-bytes g c =
    end_put c.args.tapped.now.machine.config c.args.tapped.now.machine.row.state (map (λ a. a.tap.number) (attached_forms (λ b. (goal.Tap-dyn g (b.vtable, b.value)).form b.value) c.args.tapped.now.taps.items))
    c.args.packets c.args.cycles _ (g.S.Sink.held c.put_words.new.sink) _ (g.S.Sink.held c.put_taps.new.sink) _ c.done.result (rw (c.machine-machine.ensures, c.requires.arrays) at c.in-Ok.ensures.bytes)
    (rw (c.machine-machine.ensures, c.in-Ok.ensures.same, c.requires.arrays) at c.in-Ok-put_places.ensures.bytes) c.in-Ok-put_taps.ensures.bytes c.done.ensures.bytes

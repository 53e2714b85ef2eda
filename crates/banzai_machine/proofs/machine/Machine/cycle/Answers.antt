use Rattle.std.proofs.Common.{◌≡◌, length, ◌++◌, [], ◌∷◌, ℕ, List, Bor, sym, subst, ◌∙◌, ap}
use Rattle.std.specs.Option.{option_map}
use Rattle.pipeline_law.specs.Pipeline.{Row, leaving}
use Rattle.banzai_config.specs.Action.{Arrays, Entry, acts}
use Rattle.banzai_machine.specs.Alone.{IsMoment}
use Rattle.banzai_machine.specs.Kept.{ring_row}
use Rattle.banzai_machine.specs.Pipe.{clocked, entered}
use Rattle.banzai_machine.specs.Touches.{cycle_touches}
use Rattle.banzai_machine.proofs.AnyOrder.{any_order}
use Rattle.banzai_machine.proofs.Cycle.{fits_most, leaves_size, stands_step}
use Rattle.banzai_machine.proofs.Moments.{moment}
use Rattle.banzai_machine.proofs.Turned.{length-ring}
use Rattle.banzai_machine.proofs.machine.Machine.cycle.Goals as goal

pub turn-requires-clause-fields : goal.turn-requires-clause-fields
turn-requires-clause-fields g c =
    let config = c.self.inside.config in
    let entry : Entry = option_map (λ (fields : Bor (List ℕ)). fields.now) c.args.entering in
    fits_most (length config.fields) config.containers entry (rw (← c.self.view_is) at c.requires.entering) c.self.invariant.1.fields

pub turn-requires-clause-shown : goal.turn-requires-clause-shown
turn-requires-clause-shown g c =
    let config = c.self.inside.config in
    let size : length c.args.leaving.now ≡ length config.fields = rw (← c.self.view_is) at c.requires.leaving in
    size ∙ sym c.self.invariant.1.shown

pub returns-clause-stands : goal.returns-clause-stands
returns-clause-stands g c entries is =
    let m = c.self.inside in
    let entry : Entry = option_map (λ (fields : Bor (List ℕ)). fields.now) c.args.entering in
    stands_step (g.H.HashUnits.meaning c.args.hash.now) m.config
    (ring_row m.config m.position m.filled.items m.words.items m.arrays.items)
    (ring_row m.config c.turn.new.position c.turn.new.filled.items c.turn.new.words.items c.turn.new.arrays.items)
    entries entry c.turn.ensures.row
    (rw (← c.self.view_is) at is)

pub returns-clause-moment : goal.returns-clause-moment
returns-clause-moment g c entries is =
    let hash = g.H.HashUnits.meaning c.args.hash.now in
    let config = c.self.inside.config in
    let entry : Entry = option_map (λ (fields : Bor (List ℕ)). fields.now) c.args.entering in
    subst (λ (r : Row Arrays Entry). IsMoment hash config (entries ++ entry ∷ []) r) (sym (returns-clause-stands g c entries is))
    (moment hash config c.self.invariant.1.arrays (entries ++ entry ∷ []))

pub returns-clause-size : goal.returns-clause-size
returns-clause-size g c =
    let m = c.self.inside in
    let hash = g.H.HashUnits.meaning c.args.hash.now in
    let entry : Entry = option_map (λ (fields : Bor (List ℕ)). fields.now) c.args.entering in
    let size : length c.args.leaving.now ≡ length m.config.fields = rw (← c.self.view_is) at c.requires.leaving in
    leaves_size m.config (leaving (acts hash) clocked m.config.stages (ring_row m.config m.position m.filled.items m.words.items m.arrays.items) (entered m.config entry))
    c.turn.result c.args.leaving.now c.turn.new.leaving c.turn.ensures.left (size ∙ sym c.self.invariant.1.shown)

pub returns-clause-noted : goal.returns-clause-noted
returns-clause-noted g c entries is =
    let config = c.self.inside.config in
    rw (← c.self.view_is)
    (c.turn.ensures.touches ∙ ap (λ (r : Row Arrays Entry). cycle_touches config r.registers r.state) (rw (← c.self.view_is) at is))

pub returns-clause-orders : goal.returns-clause-orders
returns-clause-orders g c =
    let m = c.self.inside in
    let hash = g.H.HashUnits.meaning c.args.hash.now in
    let entry : Entry = option_map (λ (fields : Bor (List ℕ)). fields.now) c.args.entering in
    let row : Row Arrays Entry = ring_row m.config m.position m.filled.items m.words.items m.arrays.items in
    let same : length row.registers ≡ length m.config.stages =
    length-ring m.config.containers m.position m.filled.items m.words.items (length m.config.stages) c.self.invariant.4.flags c.self.invariant.4.position in
    rw (← c.self.view_is) (λ order is. any_order hash m.config row entry order c.self.invariant.1.arrays c.self.invariant.1.writers same is)

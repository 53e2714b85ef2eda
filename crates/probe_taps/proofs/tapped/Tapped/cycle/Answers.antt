use Rattle.std.proofs.Common.{◌≡◌, ◌++◌, Bor, List, ℕ, ap, arith, drop, length, map, take, ◌∙◌}
use Rattle.std.proofs.lemmas.Grind.{common_steps}
use Rattle.std.specs.Option.{option_map}
use Rattle.banzai_config.specs.Action.{Entry}
use Rattle.probe_taps.specs.Attached.{after_cycle, attached_forms}
use Rattle.probe_taps.proofs.Runs.{goes_on}
use Rattle.probe_taps.proofs.tapped.Tapped.cycle.Goals as goal

pub returns-clause-taps : goal.returns-clause-taps
returns-clause-taps g c =
    let tapped = c.args.self.now in
    let same : take tapped.taps.len (c.show_all.new.taps ++ drop (length c.show_all.new.taps) tapped.taps.items) ≡ c.show_all.new.taps = grind (arith, common_steps) in
    ap (λ taps. attached_forms (λ b. (goal.Tap-dyn g (b.vtable, b.value)).form b.value) taps) same
    ∙ c.show_all.ensures
    ∙ ap (λ taps. map (after_cycle tapped.cycle tapped.machine.row.registers) (attached_forms (λ b. (goal.Tap-dyn g (b.vtable, b.value)).form b.value) taps)) c.as_mut_slice.ensures.value

pub returns-clause-run : goal.returns-clause-run
returns-clause-run g c earlier later start was =
    let entry : Entry = option_map (λ (fields : Bor (List ℕ)). fields.now) c.args.entering in
    goes_on (g.H.HashUnits.meaning c.args.hash.now) earlier later entry start _ _ was c.cycle-told.ensures.config c.cycle-told.ensures.stands c.saturating_add-self.ensures
    (returns-clause-taps g c)

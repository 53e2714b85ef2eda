use Rattle.std.proofs.Common.{◌≡◌, ℕ, suc, ◌+◌, ◌≤◌, length, map, take, ap, sym, ◌∙◌, add-one, arith, length-append}
use Rattle.std.proofs.lemmas.List.{length-map}
use Rattle.std.specs.List.{flat_map}
use Rattle.banzai_config.specs.Parts.{fit_form}
use Rattle.banzai_machine.specs.InPlace.{InPlace, fit_in_place}
use Rattle.banzai_machine.specs.Runnable.{FitWithin}
use Rattle.banzai_machine.specs.Touches.{touch_of}
use Rattle.banzai_machine.proofs.Acted.{placed_is}
use Rattle.banzai_machine.proofs.Every.{every_at}
use Rattle.banzai_machine.proofs.InPlaceLemmas.{placed}
use Rattle.banzai_machine.proofs.Steps.{flat_map_step, room_at, runs_map_step}
use Rattle.banzai_machine.proofs.stage.run_stateful.Goals as goal

pub fire-requires-clause-within : goal.fire-requires-clause-within
fire-requires-clause-within g c =
    rw (c.loop-i.invariant.sizes, c.loop-i.invariant.size)
    (every_at (λ atom. FitWithin (map length c.args.arrays.now) (length c.args.words.now) (fit_form g.T.AtomTemplate.trees_of atom)) c.args.atoms.now c.loop-i.i c.get.result.now c.requires.within c.get.ensures.item)

pub fire-requires-clause-room : goal.fire-requires-clause-room
fire-requires-clause-room g c =
    let few : length (flat_map (λ atom. atom.slots) (take c.loop-i.i c.args.atoms.now)) + length c.get.result.now.slots ≤ length (flat_map (λ atom. atom.slots) c.args.atoms.now) =
    room_at (λ atom. atom.slots) c.args.atoms.now c.loop-i.i c.get.result.now c.get.ensures.item in
    omega (arith, few, c.loop-i.invariant.noted, c.loop-i.invariant.room, c.requires.room)

pub loop-i-preserved : goal.loop-i-preserved
loop-i-preserved g c =
    let prev = c.loop-i.invariant in
    let step = fit_in_place c.args.number in
    let form = fit_form g.T.AtomTemplate.trees_of in
    let atom = c.get.result.now in
    let i : ℕ = c.loop-i.i in
    let more : length c.fire.new.touches.list ≡ length c.loop-i.touches.list + length atom.slots =
    ap length c.fire.ensures.touches
    ∙ length-append c.loop-i.touches.list (map (touch_of c.args.number c.loop-i.arrays c.loop-i.words) atom.slots)
    ∙ ap (λ (n : ℕ). length c.loop-i.touches.list + n) (length-map atom.slots (touch_of c.args.number c.loop-i.arrays c.loop-i.words)) in
    let slots : length (flat_map (λ atom. atom.slots) (take (suc i) c.args.atoms.now)) ≡ length (flat_map (λ atom. atom.slots) (take i c.args.atoms.now)) + length atom.slots =
    ap length (flat_map_step (λ atom. atom.slots) c.args.atoms.now i atom c.get.ensures.item)
    ∙ length-append (flat_map (λ atom. atom.slots) (take i c.args.atoms.now)) atom.slots in
    record {
      ran =
          rw add-one
          (placed_is c.fire.ensures.words c.fire.ensures.arrays c.fire.ensures.touches
          ∙ ap (λ (m : InPlace). step (form atom) m) prev.ran
          ∙ sym (runs_map_step step form c.args.atoms.now i atom (placed c.args.words.now c.args.arrays.now c.args.touches.now.list) c.get.ensures.item));
      noted = rw add-one (omega (arith, more, slots, prev.noted));
      room = c.fire.ensures.room ∙ prev.room;
      sizes = c.fire.ensures.sizes ∙ prev.sizes;
      size = c.fire.ensures.size ∙ prev.size;
    }

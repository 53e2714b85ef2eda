use Rattle.std.proofs.Common.{◌≡◌, ℕ, suc, zero, ◌+◌, ◌<◌, ◌≤◌, Some, Bool, List, length, take, get_or, slice_get, refl, ◌∙◌, ap, sym, subst, arith, add-one}
use Rattle.std.proofs.Math.Nat.{mul-le-mul_left}
use Rattle.std.proofs.lemmas.List.{get_or_default, get_or_past}
use Rattle.std.specs.List.{AllByRecursion as Every}
use Rattle.banzai_config.specs.Action.{Arrays, Entry, acts}
use Rattle.banzai_config.specs.Parts.{StageForm}
use Rattle.banzai_machine.specs.Busy.{busy_from}
use Rattle.banzai_machine.specs.Kept.{stage_slots}
use Rattle.banzai_machine.specs.Ring.{IsPlace, places, ring}
use Rattle.banzai_machine.specs.Runnable.{stage_at}
use Rattle.banzai_machine.proofs.Acted.{stage_found}
use Rattle.banzai_machine.proofs.Noted.{room_for, touches_all}
use Rattle.banzai_machine.proofs.Rounds.{turn_all}
use Rattle.banzai_machine.proofs.Skipped.{After, IsQuiet, SoFar, first_busy, next_busy, skip}
use Rattle.banzai_machine.proofs.Sweep.{state_all}
use Rattle.banzai_machine.proofs.Turned.{length-ring, stage_step}
use Rattle.banzai_machine.proofs.ring.advance_all.Goals as goal

pub loop-j-init : goal.loop-j-init
loop-j-init g c =
    let hash = g.H.HashUnits.meaning c.args.hash.now in
    let stages = c.args.config.now.stages in
    let before : List Entry = ring c.args.width c.args.position c.args.filled.now c.args.words.now in
    let same : length before ≡ length stages = length-ring c.args.width c.args.position c.args.filled.now c.args.words.now (length stages) c.requires.filled c.requires.position in
    let n : ℕ = get_or c.args.busy.now 0 (length stages) in
    let is : n ≡ get_or (busy_from 0 stages) 0 (length stages) = ap (λ (z : List ℕ). get_or z 0 (length stages)) c.requires.busy in
    let first = first_busy stages in
    let low : n ≤ length stages = omega (arith, is, first.0) in
    let none : n ≡ zero + n = omega arith in
    let quiet : Every (λ s. IsQuiet s) (take n stages) = subst (λ (q : ℕ). Every (λ s. IsQuiet s) (take q stages)) (sym is) first.1 in
    record {
      so_far =
          skip hash stages before c.args.arrays.now before c.args.arrays.now c.args.touches.now.list zero n n none low same quiet
          (record { stored = refl; passed = refl; touched = c.requires.list });
      room = refl;
      sizes = refl;
      size = refl;
    }

pub place-at-requires-clause-k : goal.place-at-requires-clause-k
place-at-requires-clause-k g c =
    let less : c.loop-j.j < length c.args.busy.now = omega arith in
    omega (arith, (next_busy c.args.config.now.stages c.args.busy.now c.loop-j.j c.requires.busy less).within, c.stages-depth.ensures)

pub advance_at-requires-clause-stage : goal.advance_at-requires-clause-stage
advance_at-requires-clause-stage g c =
    let less : c.loop-j.j < length c.args.busy.now = omega arith in
    (next_busy c.args.config.now.stages c.args.busy.now c.loop-j.j c.requires.busy less).within

pub advance_at-requires-clause-fits : goal.advance_at-requires-clause-fits
advance_at-requires-clause-fits g c =
    let less : c.place-at.result + 1 ≤ length c.args.config.now.stages = omega (arith, c.place-at.ensures.within, c.stages-depth.ensures) in
    omega (arith, mul-le-mul_left c.args.width less, c.loop-j.invariant.size, c.requires.wide)

pub advance_at-requires-clause-room : goal.advance_at-requires-clause-room
advance_at-requires-clause-room g c =
    let hash = g.H.HashUnits.meaning c.args.hash.now in
    let stages = c.args.config.now.stages in
    let less : c.loop-j.j < length c.args.busy.now = omega arith in
    let k : ℕ = get_or c.args.busy.now c.loop-j.j 0 in
    let s : StageForm = stage_at stages k in
    let found : slice_get stages k ≡ Some s = stage_found stages k (next_busy stages c.args.busy.now c.loop-j.j c.requires.busy less).within in
    let before : List Entry = ring c.args.width c.args.position c.args.filled.now c.args.words.now in
    let prev : SoFar hash stages before c.args.arrays.now (ring c.args.width c.args.position c.args.filled.now c.loop-j.words) c.loop-j.arrays c.loop-j.touches.list k =
    subst (λ (i : ℕ). SoFar hash stages before c.args.arrays.now (ring c.args.width c.args.position c.args.filled.now c.loop-j.words) c.loop-j.arrays c.loop-j.touches.list i)
    (get_or_default c.args.busy.now c.loop-j.j (length stages) 0 less) c.loop-j.invariant.so_far in
    let room : length c.loop-j.touches.list + length (stage_slots s) ≤ c.args.touches.now.room =
    room_for stages before c.args.arrays.now k s c.loop-j.touches.list c.args.touches.now.room found prev.touched c.requires.room in
    omega (arith, room, c.loop-j.invariant.room)

pub loop-j-preserved : goal.loop-j-preserved
loop-j-preserved g c =
    let hash = g.H.HashUnits.meaning c.args.hash.now in
    let stages = c.args.config.now.stages in
    let w : ℕ = c.args.width in
    let p : ℕ = c.args.position in
    let flags : List Bool = c.args.filled.now in
    let old : Arrays = c.args.arrays.now in
    let less : c.loop-j.j < length c.args.busy.now = omega arith in
    let k : ℕ = get_or c.args.busy.now c.loop-j.j 0 in
    let n : ℕ = get_or c.args.busy.now (suc c.loop-j.j) (length stages) in
    let before : List Entry = ring w p flags c.args.words.now in
    let here : After stages k n = next_busy stages c.args.busy.now c.loop-j.j c.requires.busy less in
    let s : StageForm = stage_at stages k in
    let found : slice_get stages k ≡ Some s = stage_found stages k here.within in
    let prev : SoFar hash stages before old (ring w p flags c.loop-j.words) c.loop-j.arrays c.loop-j.touches.list k =
    subst (λ (i : ℕ). SoFar hash stages before old (ring w p flags c.loop-j.words) c.loop-j.arrays c.loop-j.touches.list i)
    (get_or_default c.args.busy.now c.loop-j.j (length stages) 0 less) c.loop-j.invariant.so_far in
    let is : IsPlace p k (length stages) c.place-at.result = subst (λ (m : ℕ). IsPlace p k m c.place-at.result) c.stages-depth.ensures c.place-at.ensures in
    let same : length before ≡ length stages = length-ring w p flags c.args.words.now (length stages) c.requires.filled c.requires.position in
    let e = c.advance_at.ensures in
    let next : SoFar hash stages before old (ring w p flags c.advance_at.new.words) c.advance_at.new.arrays c.advance_at.new.touches.list (suc k) =
    stage_step hash stages w p flags c.args.words.now c.loop-j.words c.advance_at.new.words old c.loop-j.arrays c.advance_at.new.arrays c.loop-j.touches.list c.advance_at.new.touches.list
    k c.place-at.result s c.requires.runs.arrays c.requires.position here.within c.requires.filled is found prev e.before e.after e.out e.arrays e.touches in
    record {
      so_far =
          rw add-one
          (skip hash stages before old (ring w p flags c.advance_at.new.words) c.advance_at.new.arrays c.advance_at.new.touches.list (suc k) here.skipped n here.is here.room same here.quiet next);
      room = e.room ∙ c.loop-j.invariant.room;
      sizes = e.sizes ∙ c.loop-j.invariant.sizes;
      size = e.size ∙ c.loop-j.invariant.size;
    }

pub returns-clause-arrays : goal.returns-clause-arrays
returns-clause-arrays g c =
    let stages = c.args.config.now.stages in
    let past : length c.args.busy.now ≤ c.loop-j.j = omega arith in
    let end : get_or c.args.busy.now c.loop-j.j (length stages) ≡ length stages = get_or_past c.args.busy.now c.loop-j.j (length stages) past in
    state_all stages (ring c.args.width c.args.position c.args.filled.now c.args.words.now) c.args.arrays.now c.loop-j.arrays
    (get_or c.args.busy.now c.loop-j.j (length stages)) end c.loop-j.invariant.so_far.stored

pub returns-clause-registers : goal.returns-clause-registers
returns-clause-registers g c =
    let w : ℕ = c.args.width in
    let flags : List Bool = c.args.filled.now in
    let stages = c.args.config.now.stages in
    let past : length c.args.busy.now ≤ c.loop-j.j = omega arith in
    let end : get_or c.args.busy.now c.loop-j.j (length stages) ≡ length stages = get_or_past c.args.busy.now c.loop-j.j (length stages) past in
    let same : length (ring w c.args.position flags c.args.words.now) ≡ length stages = length-ring w c.args.position flags c.args.words.now (length stages) c.requires.filled c.requires.position in
    turn_all (acts (g.H.HashUnits.meaning c.args.hash.now)) stages (ring w c.args.position flags c.args.words.now) (places w flags c.loop-j.words) c.args.arrays.now c.args.position
    (get_or c.args.busy.now c.loop-j.j (length stages)) same end c.loop-j.invariant.so_far.passed

pub returns-clause-touches : goal.returns-clause-touches
returns-clause-touches g c =
    let stages = c.args.config.now.stages in
    let past : length c.args.busy.now ≤ c.loop-j.j = omega arith in
    let end : get_or c.args.busy.now c.loop-j.j (length stages) ≡ length stages = get_or_past c.args.busy.now c.loop-j.j (length stages) past in
    touches_all stages (ring c.args.width c.args.position c.args.filled.now c.args.words.now) c.args.arrays.now c.loop-j.touches.list
    (get_or c.args.busy.now c.loop-j.j (length stages)) end c.loop-j.invariant.so_far.touched

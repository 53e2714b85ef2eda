use Rattle.std.proofs.Common.{◌≡◌, ℕ, ◌+◌, ◌-◌, Some, length, map, slice_get, ◌∙◌, ap, arith}
use Rattle.std.specs.List.{flat_map}
use Rattle.banzai_config.specs.Named.{stage_arrays}
use Rattle.banzai_config.specs.Parts.{StageForm, atoms_of, fit_form}
use Rattle.banzai_machine.specs.InPlace.{InPlace, NoneReads}
use Rattle.banzai_machine.specs.Kept.{stage_slots}
use Rattle.banzai_machine.specs.Runnable.{StageWithin, array_sizes, stage_at}
use Rattle.banzai_machine.proofs.Acted.{fits_there, ops_there, slots_are, stage_found, stage_ran}
use Rattle.banzai_machine.proofs.Every.{every_at}
use Rattle.banzai_machine.proofs.Steps.{distinct_part}
use Rattle.banzai_machine.proofs.stage.run_stage.Goals as goal

pub run_stateless-requires : goal.run_stateless-requires
run_stateless-requires g c =
    let p = c.args.config.now in
    let k : ℕ = c.args.k in
    let s : StageForm = stage_at p.stages k in
    let found : slice_get p.stages k ≡ Some s = stage_found p.stages k c.requires.stage in
    let same : k + 1 - 1 ≡ k = omega arith in
    let ops : c.stateless.result.now ≡ s.stateless = c.stateless.ensures s (ap (λ (i : ℕ). slice_get p.stages i) same ∙ found) in
    let within : StageWithin (array_sizes p) p.containers s = every_at (λ stage. StageWithin (array_sizes p) p.containers stage) p.stages k s c.requires.runs.stages found in
    record { within = rw c.requires.wide (ops_there s c.stateless.result.now (array_sizes p) p.containers ops within) }

pub run_stateful-requires-clause-within : goal.run_stateful-requires-clause-within
run_stateful-requires-clause-within g c =
    let p = c.args.config.now in
    let k : ℕ = c.args.k in
    let s : StageForm = stage_at p.stages k in
    let found : slice_get p.stages k ≡ Some s = stage_found p.stages k c.requires.stage in
    let same : k + 1 - 1 ≡ k = omega arith in
    let fits : map (fit_form g.T.AtomTemplate.trees_of) c.stateful.result.now ≡ s.stateful = c.stateful.ensures s (ap (λ (i : ℕ). slice_get p.stages i) same ∙ found) in
    let within : StageWithin (array_sizes p) p.containers s = every_at (λ stage. StageWithin (array_sizes p) p.containers stage) p.stages k s c.requires.runs.stages found in
    rw (c.requires.sizes, c.run_stateless.ensures.size, c.requires.wide) (fits_there g.T.AtomTemplate.trees_of s c.stateful.result.now fits (array_sizes p) p.containers within)

pub run_stateful-requires-clause-room : goal.run_stateful-requires-clause-room
run_stateful-requires-clause-room g c =
    let p = c.args.config.now in
    let k : ℕ = c.args.k in
    let s : StageForm = stage_at p.stages k in
    let found : slice_get p.stages k ≡ Some s = stage_found p.stages k c.requires.stage in
    let same : k + 1 - 1 ≡ k = omega arith in
    let fits : map (fit_form g.T.AtomTemplate.trees_of) c.stateful.result.now ≡ s.stateful = c.stateful.ensures s (ap (λ (i : ℕ). slice_get p.stages i) same ∙ found) in
    let slots : length (flat_map (λ atom. atom.slots) c.stateful.result.now) ≡ length (stage_slots s) = ap length (slots_are g.T.AtomTemplate.trees_of s c.stateful.result.now fits) in
    omega (arith, slots, c.requires.room)

pub returns-clause-arrays : goal.returns-clause-arrays
returns-clause-arrays g c =
    let p = c.args.config.now in
    let k : ℕ = c.args.k in
    let s : StageForm = stage_at p.stages k in
    let found : slice_get p.stages k ≡ Some s = stage_found p.stages k c.requires.stage in
    let same : k + 1 - 1 ≡ k = omega arith in
    let here : slice_get p.stages (k + 1 - 1) ≡ Some s = ap (λ (i : ℕ). slice_get p.stages i) same ∙ found in
    ap (λ (m : InPlace). m.arrays)
    (stage_ran g.T.AtomTemplate.trees_of s c.stateful.result.now (c.stateful.ensures s here) (g.H.HashUnits.meaning c.args.hash.now) (k + 1) c.stateless.result.now
    c.args.words.now c.run_stateless.new.words c.run_stateful.new.words c.args.arrays.now c.run_stateful.new.arrays c.args.touches.now.list c.run_stateful.new.touches.list
    (c.stateless.ensures s here) c.run_stateless.ensures.words c.run_stateful.ensures.ran
    (every_at (λ stage. NoneReads (atoms_of stage)) p.stages k s c.requires.runs.apart found) (distinct_part stage_arrays p.stages k s c.requires.runs.arrays found))

pub returns-clause-words : goal.returns-clause-words
returns-clause-words g c =
    let p = c.args.config.now in
    let k : ℕ = c.args.k in
    let s : StageForm = stage_at p.stages k in
    let found : slice_get p.stages k ≡ Some s = stage_found p.stages k c.requires.stage in
    let same : k + 1 - 1 ≡ k = omega arith in
    let here : slice_get p.stages (k + 1 - 1) ≡ Some s = ap (λ (i : ℕ). slice_get p.stages i) same ∙ found in
    ap (λ (m : InPlace). m.words)
    (stage_ran g.T.AtomTemplate.trees_of s c.stateful.result.now (c.stateful.ensures s here) (g.H.HashUnits.meaning c.args.hash.now) (k + 1) c.stateless.result.now
    c.args.words.now c.run_stateless.new.words c.run_stateful.new.words c.args.arrays.now c.run_stateful.new.arrays c.args.touches.now.list c.run_stateful.new.touches.list
    (c.stateless.ensures s here) c.run_stateless.ensures.words c.run_stateful.ensures.ran
    (every_at (λ stage. NoneReads (atoms_of stage)) p.stages k s c.requires.runs.apart found) (distinct_part stage_arrays p.stages k s c.requires.runs.arrays found))

pub returns-clause-touches : goal.returns-clause-touches
returns-clause-touches g c =
    let p = c.args.config.now in
    let k : ℕ = c.args.k in
    let s : StageForm = stage_at p.stages k in
    let found : slice_get p.stages k ≡ Some s = stage_found p.stages k c.requires.stage in
    let same : k + 1 - 1 ≡ k = omega arith in
    let here : slice_get p.stages (k + 1 - 1) ≡ Some s = ap (λ (i : ℕ). slice_get p.stages i) same ∙ found in
    ap (λ (m : InPlace). m.touches)
    (stage_ran g.T.AtomTemplate.trees_of s c.stateful.result.now (c.stateful.ensures s here) (g.H.HashUnits.meaning c.args.hash.now) (k + 1) c.stateless.result.now
    c.args.words.now c.run_stateless.new.words c.run_stateful.new.words c.args.arrays.now c.run_stateful.new.arrays c.args.touches.now.list c.run_stateful.new.touches.list
    (c.stateless.ensures s here) c.run_stateless.ensures.words c.run_stateful.ensures.ran
    (every_at (λ stage. NoneReads (atoms_of stage)) p.stages k s c.requires.runs.apart found) (distinct_part stage_arrays p.stages k s c.requires.runs.arrays found))

-- One packet after another through compiled parts.
use Rattle.std.proofs.Common.{◌≡◌, ℕ, List, [], ◌∷◌, length, map, refl, sym, ap, ◌∙◌}
use Rattle.std.specs.List.{AllByRecursion as Every}
use Rattle.std.proofs.lemmas.List.{length-replicate}
use Rattle.dom_words.specs.State.{Hash, IsSmallHash, IsStateOf, Meaning, Outcome, started}
use Rattle.dom_words.specs.declared.array.Array.{Array}
use Rattle.dom_flat.specs.Meaning.{flat_entering, flat_outcome}
use Rattle.dom_flat.proofs.Run.{run_sizes}
use Rattle.codelets.specs.declared.answer.Codelets.{Codelets}
use Rattle.stage_plan.specs.declared.place.Place.{Place}
use Rattle.stage_plan.specs.Schedule.{IsPlan}
use Rattle.atom_match.specs.Atoms.{AtomForm as Does}
use Rattle.banzai_config.specs.Action.{AloneOutcome, Arrays, alone_from, outcome_of}
use Rattle.banzai_config.specs.Parts.{PartsForm}
use Rattle.compile_law.specs.Compiled.{AreAtomsOf, compiled_parts}
use Rattle.compile_law.specs.Runs.{IsMeaningOf, RunsAs, in_turn}
use Rattle.compile_law.proofs.Compiled.{does_as_listed}

-- the initial words have the declared lengths
started_state : (arrays : List Array) → IsStateOf arrays (started arrays)
started_state [] = refl
started_state (a ∷ arrays) =
    ap (λ (n : ℕ). n ∷ map (length {A = ℕ}) (started arrays)) (length-replicate {A = ℕ} a.length a.init)
    ∙ ap (λ (ns : List ℕ). a.length ∷ ns) (started_state arrays)

module _ (cs : Codelets) (depth stateless stateful : ℕ) (atoms : List Does) (places : List Place) (are : AreAtomsOf cs atoms) (plan : IsPlan depth stateless stateful cs.list places) where
  abbrev parts : PartsForm
  parts = compiled_parts cs depth atoms places

  module _ (meant : Meaning) (means : IsMeaningOf cs.flat meant) (hash : Hash) (small : IsSmallHash hash) where
    in_turns : (state : Arrays) (packets : List (List ℕ)) → IsStateOf cs.flat.arrays state → Every (λ p. length p ≡ length cs.flat.fields) packets
        → alone_from hash parts state packets ≡ in_turn (meant hash) state packets
    in_turns state [] fit long = refl
    in_turns state (packet ∷ packets) fit long =
        let flat : outcome_of hash parts state packet ≡ flat_outcome hash cs.flat.lines cs.flat.outputs packet state =
        does_as_listed cs depth stateless stateful atoms places are plan hash state packet long.0 in
        let meaning : flat_outcome hash cs.flat.lines cs.flat.outputs packet state ≡ meant hash packet state = means hash packet state small long.0 fit in
        let now : Outcome = meant hash packet state in
        let stays : IsStateOf cs.flat.arrays now.arrays =
        ap (λ (o : Outcome). map (length {A = ℕ}) o.arrays) (sym meaning) ∙ run_sizes hash (flat_entering packet state) cs.flat.lines ∙ fit in
        let rest : alone_from hash parts now.arrays packets ≡ in_turn (meant hash) now.arrays packets = in_turns now.arrays packets stays long.1 in
        ap (λ (o : Outcome). record { packets = o.packet ∷ (alone_from hash parts o.arrays packets).packets; arrays = (alone_from hash parts o.arrays packets).arrays }) (flat ∙ meaning)
        ∙ ap (λ (r : AloneOutcome). record { packets = now.packet ∷ r.packets; arrays = r.arrays }) rest

  pub runs_as : RunsAs cs.flat parts
  runs_as meant means hash packets small long = in_turns meant means hash small (started cs.flat.arrays) packets (started_state cs.flat.arrays) long

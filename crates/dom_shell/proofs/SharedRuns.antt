-- With shared containers a configuration runs as it does without.
use Rattle.std.proofs.Common.{◌≡◌, ℕ, ◌+◌, Option, Some, None, List, [], ◌∷◌, ◌++◌, length, map, refl, sym, ap, ◌∙◌}
use Rattle.std.specs.Bool.{if◌then◌else◌}
use Rattle.std.specs.List.{flat_map}
use Rattle.std.specs.Prelude.{codes, replicate}
use Rattle.std.proofs.lemmas.List.{length-map}
use Rattle.dom_words.specs.State.{Hash, Outcome, started}
use Rattle.trace_text.specs.Lines.{done_line, head_line, joined}
use Rattle.banzai_config.specs.Action.{Arrays, Entry, outcome_of}
use Rattle.banzai_config.specs.Legal.{LegalFor, Shape, has}
use Rattle.banzai_config.specs.Named.{arrays_of, stage_arrays}
use Rattle.banzai_config.specs.Parts.{Atom, PartsForm, StageForm, atoms_of}
use Rattle.banzai_config.specs.Places.{place_from, place_of}
use Rattle.banzai_config.specs.declared.parts.Version.TheVariants.{One}
use Rattle.banzai_machine.specs.Alone.{entries_alone, packets_of}
use Rattle.banzai_machine.specs.Pipe.{drain, emitted, pipe}
use Rattle.banzai_machine.proofs.LegalOwns.{legal_arrays}
use Rattle.banzai_machine.proofs.Moments.{pipe_alone}
use Rattle.container_plan.specs.Renamed.{stage_renamed}
use Rattle.container_plan.specs.Shared.{container_of, shared}
use Rattle.container_plan.proofs.Lawful.{legal_one, narrow}
use Rattle.container_plan.proofs.Legal.{room}
use Rattle.container_plan.proofs.Meaning.{alone_same, one_same}
use Rattle.container_plan.proofs.Renaming.{arrays_kept, atoms_renamed}
use Rattle.dom_report.specs.Report.{packet_lines}
use Rattle.dom_report.specs.RunReport.{array_names, places_from, run_report, stage_lines}
use Rattle.dom_report.specs.SerialReport.{state_lines}
use Rattle.dom_shell.specs.SharedRuns.{AreWhole, RunsAlike}

-- The stages hold the same arrays.

module _ (name : ℕ → ℕ) where
  arrays_stay : (s : StageForm) → stage_arrays (stage_renamed name s) ≡ stage_arrays s
  arrays_stay s = ap (λ (atoms : List Atom). flat_map arrays_of atoms) (atoms_renamed name s) ∙ arrays_kept name (atoms_of s)

  place_stays : (k : ℕ) (stages : List StageForm) (a : ℕ) → place_from k (map (stage_renamed name) stages) a ≡ place_from k stages a
  place_stays k [] a = refl
  place_stays k (s ∷ stages) a =
      ap (λ (held : List ℕ). if has a held then Some k else place_from (k + 1) (map (stage_renamed name) stages) a) (arrays_stay s)
      ∙ ap (λ (o : Option ℕ). if has a (stage_arrays s) then Some k else o) (place_stays (k + 1) stages a)

  places_stay : (stages : List StageForm) (k : ℕ) (names : List (List ℕ)) → places_from (map (stage_renamed name) stages) k names ≡ places_from stages k names
  places_stay stages k [] = refl
  places_stay stages k (n ∷ names) =
      ap (λ (o : Option ℕ). stage_lines n o ++ places_from (map (stage_renamed name) stages) (k + 1) names) (place_stays 1 stages k)
      ∙ ap (λ (rest : List (List ℕ)). stage_lines n (place_of stages k) ++ rest) (places_stay stages (k + 1) names)

module _ (s : Shape) (p : PartsForm) (legal : LegalFor s p) (still : LegalFor s (shared p)) (version : p.version ≡ One) (hash : Hash) where
  drain_stays : drain (shared p) ≡ drain p
  drain_stays = ap (λ n. replicate n None) (length-map p.stages (stage_renamed (container_of p)))

  -- each packet comes out as it did, behind those before it
  entries_same : (arrays : Arrays) (entries : List Entry) → AreWhole p entries → entries_alone hash (shared p) arrays entries ≡ entries_alone hash p arrays entries
  entries_same arrays [] whole = refl
  entries_same arrays (None ∷ entries) whole = ap (λ (es : List Entry). None ∷ es) (entries_same arrays entries whole)
  entries_same arrays (Some packet ∷ entries) whole =
      let one : Outcome = outcome_of hash p arrays packet in
      ap (λ (o : Outcome). Some o.packet ∷ entries_alone hash (shared p) o.arrays entries) (one_same hash p (legal_one s p legal version) (narrow s p legal) (room s p legal version) arrays packet whole.0)
      ∙ ap (λ (es : List Entry). Some one.packet ∷ es) (entries_same one.arrays entries whole.1)

  module _ (entries : List Entry) (whole : AreWhole p entries) where
    cycles_same : emitted hash (shared p) (entries ++ drain (shared p)) ≡ emitted hash p (entries ++ drain p)
    cycles_same =
        (pipe_alone hash (shared p) (legal_arrays s (shared p) still) entries).cycles
        ∙ ap (λ (d : List Entry). d ++ entries_alone hash (shared p) (started p.arrays) entries) drain_stays
        ∙ ap (λ (es : List Entry). drain p ++ es) (entries_same (started p.arrays) entries whole)
        ∙ sym (pipe_alone hash p (legal_arrays s p legal) entries).cycles

    arrays_same : (pipe hash (shared p) (entries ++ drain (shared p))).state ≡ (pipe hash p (entries ++ drain p)).state
    arrays_same =
        (pipe_alone hash (shared p) (legal_arrays s (shared p) still) entries).arrays
        ∙ ap (λ o. o.arrays) (alone_same hash p (legal_one s p legal version) (narrow s p legal) (room s p legal version) (started p.arrays) (packets_of entries) whole)
        ∙ sym (pipe_alone hash p (legal_arrays s p legal) entries).arrays

    -- the report, where these packets leave and these words stay
    abbrev report_with : List Entry → Arrays → List (List ℕ) → ℕ → List ℕ
    report_with left arrays places cycles =
        head_line (codes "cycle") p.fields
        ++ (packet_lines 0 left ++ joined (state_lines (array_names p) arrays ++ (places ++ done_line (length (packets_of entries)) (Some cycles) ∷ [])))

    report_same : run_report hash (shared p) entries ≡ run_report hash p entries
    report_same =
        let left : List Entry = emitted hash p (entries ++ drain p) in
        let arrays : Arrays = (pipe hash p (entries ++ drain p)).state in
        let others : Arrays = (pipe hash (shared p) (entries ++ drain (shared p))).state in
        let places : List (List ℕ) = places_from p.stages 0 (array_names p) in
        let moved : List (List ℕ) = places_from (shared p).stages 0 (array_names p) in
        let cycles : ℕ = length (entries ++ drain (shared p)) in
        ap (λ (es : List Entry). report_with es others moved cycles) cycles_same
        ∙ ap (λ (words : Arrays). report_with left words moved cycles) arrays_same
        ∙ ap (λ (lines : List (List ℕ)). report_with left arrays lines cycles) (places_stay (container_of p) p.stages 0 (array_names p))
        ∙ ap (λ (d : List Entry). report_with left arrays places (length (entries ++ d))) drain_stays

    pub runs_alike : RunsAlike hash p (shared p) entries
    runs_alike = record { cycles = cycles_same; arrays = arrays_same; report = report_same }

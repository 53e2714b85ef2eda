-- The report of a run: a heading, the packets in order, each with the cycle in which it left, the state words that are not 0
-- by array and index, the stages of the arrays that an atom holds, and the end.
use Rattle.std.specs.Prelude.{ℕ, ◌+◌, Option, Some, None, List, [], ◌∷◌, ◌++◌, length, map, codes}
use Rattle.dom_words.specs.State.{Hash}
use Rattle.trace_text.specs.Lines.{done_line, head_line, joined, place_line}
use Rattle.banzai_config.specs.Action.{Arrays, Entry}
use Rattle.banzai_config.specs.Parts.{PartsForm, StageForm}
use Rattle.banzai_config.specs.Places.{place_of}
use Rattle.banzai_machine.specs.Alone.{packets_of}
use Rattle.banzai_machine.specs.Pipe.{drain, emitted, pipe}
use Rattle.dom_report.specs.Report.{packet_lines}
use Rattle.dom_report.specs.SerialReport.{state_lines}

-- the line of an array's stage, where an atom holds it
abbrev pub stage_lines : List ℕ → Option ℕ → List (List ℕ)
stage_lines name None = []
stage_lines name (Some stage) = place_line name stage ∷ []

-- of all arrays with these names, the first of which is array k
abbrev pub places_from : List StageForm → ℕ → List (List ℕ) → List (List ℕ)
places_from stages k [] = []
places_from stages k (name ∷ names) = stage_lines name (place_of stages k) ++ places_from stages (k + 1) names

abbrev pub array_names : PartsForm → List (List ℕ)
array_names p = map (λ array. array.name) p.arrays

-- the lines behind the packets
abbrev pub run_end : PartsForm → Arrays → ℕ → ℕ → List (List ℕ)
run_end p arrays packets cycles = state_lines (array_names p) arrays ++ (places_from p.stages 0 (array_names p) ++ done_line packets (Some cycles) ∷ [])

-- the report of a configuration that is clocked over these entries and the drain
abbrev pub run_report : Hash → PartsForm → List Entry → List ℕ
run_report hash p entries =
    let all = entries ++ drain p in
    head_line (codes "cycle") p.fields
    ++ (packet_lines 0 (emitted hash p all) ++ joined (run_end p (pipe hash p all).state (length (packets_of entries)) (length all)))

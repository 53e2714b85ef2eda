-- The report of a run under taps: the report of the run, with a line for each tap before the end.
use Rattle.std.specs.Prelude.{◌≡◌, ℕ, ◌+◌, ◌≤◌, All, Some, List, [], ◌∷◌, ◌++◌, codes, length, map}
use Rattle.dom_words.specs.State.{Hash}
use Rattle.trace_text.specs.Lines.{Legend, done_line, head_line, joined, tap_line}
use Rattle.trace_text.specs.Trace.{cycles_of, most_cycles}
use Rattle.banzai_config.specs.Action.{Arrays, Entry}
use Rattle.banzai_config.specs.Parts.{PartsForm}
use Rattle.banzai_machine.specs.Alone.{packets_of}
use Rattle.banzai_machine.specs.Pipe.{drain, emitted, pipe}
use Rattle.banzai_machine.specs.State.{MachineForm, Stands}
use Rattle.probe_taps.specs.Attached.{AttachedForm}
use Rattle.probe_taps.specs.Runs.{folded, stood}
use Rattle.probe_taps.specs.Taps.{TapForm}
use Rattle.dom_report.specs.Report.{packet_lines}
use Rattle.dom_report.specs.RunReport.{array_names, places_from}
use Rattle.dom_report.specs.SerialReport.{state_lines}

-- taps, each of them before this stage
abbrev pub attached_at : ℕ → List TapForm → List AttachedForm
attached_at stage taps = map (λ tap. record { stage = stage; tap = tap }) taps

-- the numbers of taps, once a configuration was clocked over these entries: of each its rule, folded over exactly the packets
-- that stood before its stage, each with its cycle
abbrev pub numbers_over : Hash → PartsForm → List AttachedForm → List Entry → List ℕ
numbers_over hash p taps entries = map (λ a. folded a.tap (stood hash p a.stage [] entries)) taps

-- the lines of numbers, the first of which is that of the tap with this position
abbrev pub tap_lines : ℕ → List ℕ → List (List ℕ)
tap_lines position [] = []
tap_lines position (number ∷ numbers) = tap_line position number ∷ tap_lines (position + 1) numbers

-- the lines behind the packets
abbrev pub probe_end : PartsForm → Arrays → List ℕ → ℕ → ℕ → List (List ℕ)
probe_end p arrays numbers packets cycles =
    state_lines (array_names p) arrays
    ++ (places_from p.stages 0 (array_names p) ++ (tap_lines 1 numbers ++ done_line packets (Some cycles) ∷ []))

-- the report of a configuration that is clocked under taps over these entries and the drain
abbrev pub probe_report : Hash → List AttachedForm → PartsForm → List Entry → List ℕ
probe_report hash taps p entries =
    let all = entries ++ drain p in
    head_line (codes "cycle") p.fields
    ++ (packet_lines 0 (emitted hash p all)
    ++ joined (probe_end p (pipe hash p all).state (numbers_over hash p taps all) (length (packets_of entries)) (length all)))

-- what a run under taps needs: a machine at its beginning, the names and packets for its configuration, and a word for each
-- field of what enters and leaves
pub record IsReady (hash : Hash) (machine : MachineForm) (lines : Legend) (packets : List (ℕ × List ℕ)) (entering leaving : List ℕ) : Type 0 where
  pub start : Stands hash [] machine
  pub fields : lines.fields ≡ machine.config.fields
  pub arrays : lines.arrays ≡ array_names machine.config
  pub words : length machine.config.fields ≤ lines.words
  pub each : All (λ p. length p.1 ≡ length machine.config.fields) packets
  pub cycles : cycles_of packets + length machine.config.stages ≤ most_cycles
  pub entering_is : length entering ≡ length machine.config.fields
  pub leaving_is : length leaving ≡ length machine.config.fields

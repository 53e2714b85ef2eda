-- What has been read and taken before a run of a configuration.
use Rattle.std.specs.Prelude.{◌≡◌, ℕ, ◌+◌, ◌≤◌, Option, Ok, List, length, All}
use Rattle.trace_text.specs.Lines.{Legend}
use Rattle.trace_text.specs.Trace.{IsTraceOf, cycles_of, most_cycles}
use Rattle.banzai_config.specs.Parts.{PartsForm}
use Rattle.banzai_machine.specs.State.{IsNew, MachineForm}
use Rattle.dom_finding.specs.Finding.{Packets, trace_file}
use Rattle.dom_finding.specs.Stops.{IsText}
use Rattle.dom_report.specs.RunReport.{array_names}

-- a machine at its beginning, the names and packets for its configuration, and a word for each field of what enters and leaves
pub record IsRunSetUp (machine : MachineForm) (lines : Legend) (packets : Packets) (entering leaving : List ℕ) : Type 0 where
  pub start : IsNew machine.config machine
  pub fields : lines.fields ≡ machine.config.fields
  pub arrays : lines.arrays ≡ array_names machine.config
  pub words : length machine.config.fields ≤ lines.words
  pub wide : machine.config.containers ≤ lines.words
  pub each : All (λ p. length p.1 ≡ length machine.config.fields) packets
  pub cycles : cycles_of packets + length machine.config.stages ≤ most_cycles
  pub entering_is : length entering ≡ length machine.config.fields
  pub leaving_is : length leaving ≡ length machine.config.fields

-- the packets of a configuration's trace, which the file of this name may hold
abbrev pub IsTraced : (List ℕ → Option (List ℕ)) → List ℕ → PartsForm → Packets → Type 0
IsTraced files name parts packets = (text : List ℕ) × IsText files (trace_file name) text × IsTraceOf text parts.fields (length parts.stages) (Ok packets)

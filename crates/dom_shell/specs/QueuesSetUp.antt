-- What has been read and taken before a run of a configuration with queues.
use Rattle.std.specs.Prelude.{◌≡◌, ℕ, ◌≤◌, ◌⊎◌, Bool, true, Option, Ok, List, length, All}
use Rattle.trace_text.specs.declared.events.Event.{Event}
use Rattle.trace_text.specs.Events.{IsEventsOf}
use Rattle.atom_traits.specs.Form.{TreesForm}
use Rattle.banzai_config.specs.Checked.{shape_with}
use Rattle.banzai_config.specs.Legal.{LegalFor}
use Rattle.banzai_config.specs.Parts.{PartsForm}
use Rattle.dom_finding.specs.Finding.{Packets, events_file}
use Rattle.dom_finding.specs.Refusals.{refused_events}
use Rattle.dom_finding.specs.Stops.{AreKept, FileStop, IsText, TextStop}
use Rattle.dom_finding.specs.declared.reading.Stop.{Stop}

-- a legal configuration of so many stages, and packets of its fields
pub record CanQueue (fits : TreesForm → Bool) (bits depth stateless stateful : ℕ) (config : PartsForm) (packets : Packets) : Type 0 where
  pub some : 1 ≤ depth
  pub few : depth ≤ 65535
  pub stages : length config.stages ≡ depth
  pub legal : LegalFor (shape_with fits bits depth stateless stateful true) config
  pub each : All (λ p. length p.1 ≡ length config.fields) packets

-- the events of a configuration's stages, which the file of this name may hold
abbrev pub AreEvents : (List ℕ → Option (List ℕ)) → List ℕ → PartsForm → List Event → Type 0
AreEvents files name parts events = (text : List ℕ) × IsText files (events_file name) text × IsEventsOf text (length parts.stages) (Ok events)

-- events stop a command: their file gave no text, or the text is none of events
abbrev pub EventsStop : (List ℕ → Option (List ℕ)) → (List ℕ → ℕ) → (List ℕ → ℕ) → List ℕ → PartsForm → Stop → Type 0
EventsStop files before now name parts stop =
    FileStop files before now (events_file name) stop
    ⊎ ((text : List ℕ) × IsText files (events_file name) text × AreKept before now × TextStop (IsEventsOf text (length parts.stages)) refused_events stop)

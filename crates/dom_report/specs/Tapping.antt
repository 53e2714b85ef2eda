-- A machine under taps that is clocked over entries.
use Rattle.std.specs.Prelude.{◌≡◌, ℕ, Option, List, ◌++◌}
use Rattle.dom_io.specs.Held.{appended}
use Rattle.dom_words.specs.State.{Hash}
use Rattle.banzai_config.specs.Action.{Entry}
use Rattle.probe_taps.specs.Attached.{AttachedForm, TappedForm}
use Rattle.probe_taps.specs.Runs.{IsTapped}
use Rattle.dom_report.specs.Clocking.{after_entries, left_over}
use Rattle.dom_report.specs.Report.{packet_lines}

-- before and after these entries: a run that led to the first goes on over them and leads to the second
abbrev pub GoesOn : Hash → List Entry → TappedForm → TappedForm → Type 0
GoesOn hash entries s t =
    (earlier later : List Entry) (taps : List AttachedForm) → IsTapped hash earlier later taps s → IsTapped hash earlier (later ++ entries) taps t

-- it was clocked over these entries, in cycles from this number on, and the line of each packet that left was put
pub record TappedOver (hash : Hash) (s t : TappedForm) (held held' : Option (List ℕ)) (number : ℕ) (entries : List Entry) : Type 0 where
  pub machine_is : t.machine ≡ after_entries hash s.machine entries
  pub run_goes_on : GoesOn hash entries s t
  pub held_is : held' ≡ appended held (packet_lines number (left_over hash s.machine entries))

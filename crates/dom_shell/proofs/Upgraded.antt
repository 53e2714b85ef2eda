-- How `upgrade` ends.
use Rattle.std.proofs.Common.{◌≡◌, ℕ, List, [], ◌∷◌, refl, ap, Option, Result, Ok, Err, MatchResult}
use Rattle.dom_io.specs.Causes.{HasCause}
use Rattle.dom_io.specs.Held.{Puts}
use Rattle.dom_io.specs.declared.sink.SinkFault.{SinkFault}
use Rattle.dom_words.specs.State.{Hash}
use Rattle.probe_taps.specs.Taps.{TapForm}
use Rattle.dom_finding.specs.Command.{upgrade}
use Rattle.dom_finding.specs.Configs.{ConfigForm, IsConfig}
use Rattle.dom_finding.specs.Finding.{config_file, ends, found, upgraded_text, written}
use Rattle.dom_finding.specs.Refusals.{refused_config}
use Rattle.dom_finding.specs.Stops.{AreKept, FileStop, IsText, StopAfter, TextStop}
use Rattle.dom_finding.specs.declared.reading.Stop.{Stop}
use Rattle.dom_finding.proofs.Stopped.{file_stops, read_on, text_stops}
use Rattle.dom_shell.specs.Ends.{AreStopped, IsEndAfter, Sent, call_of}
use Rattle.dom_shell.proofs.Ended.{end_read_on, report_end, stop_end}

module _ (name : List ℕ) (hash : Hash) (taps : List TapForm) (files : List ℕ → Option (List ℕ)) where
  -- the text is no configuration
  stops : (config : List ℕ) (before now : List ℕ → ℕ) (stop : Stop) → AreKept before now → TextStop (IsConfig config) refused_config stop → StopAfter (upgrade name) (config ∷ []) files before now stop
  stops config before now stop kept is =
      text_stops (upgrade name) (config ∷ []) files before now (IsConfig config) refused_config stop kept (λ r has. (Err r, has, refl)) is

  -- the configuration was put, or the sink did not take it
  pub upgraded : (config : List ℕ) (unread : List ℕ → ℕ) (sent : Sent) (c : ConfigForm) (bytes : List ℕ) (result : Result (Unit {0}) SinkFault) → IsConfig config (Ok c)
      → bytes ≡ upgraded_text c → Puts sent.held_before sent.held_after bytes result → HasCause sent.faults_before sent.faults_after result
      → MatchResult result (λ _. sent.answer ≡ 0) (λ _. sent.answer ≡ 5) → IsEndAfter (upgrade name) (config ∷ []) (call_of hash taps files unread unread sent)
  upgraded config unread sent c bytes result says is puts cause status =
      report_end (upgrade name) (config ∷ []) (call_of hash taps files unread unread sent) (written bytes) result
      (ends (Ok c, says, ap (λ (b : List ℕ). found (Ok (written b))) is)) (λ _. refl) puts cause status

  -- it breaks a rule
  pub refused : (config : List ℕ) (unread : List ℕ → ℕ) (sent : Sent) (stop : Stop) → TextStop (IsConfig config) refused_config stop → AreStopped stop sent
      → IsEndAfter (upgrade name) (config ∷ []) (call_of hash taps files unread unread sent)
  refused config unread sent stop is stopped =
      stop_end (upgrade name) (config ∷ []) (call_of hash taps files unread unread sent) stop (stops config unread unread stop (λ _. refl) is) stopped

  -- the configuration could not be read
  pub unread_config : (before now : List ℕ → ℕ) (sent : Sent) (stop : Stop) → FileStop files before now (config_file name) stop → AreStopped stop sent
      → IsEndAfter (upgrade name) [] (call_of hash taps files before now sent)
  unread_config before now sent stop is stopped =
      stop_end (upgrade name) [] (call_of hash taps files before now sent) stop
      (file_stops (upgrade name) [] files before now (config_file name) stop refl is) stopped

  module _ (config : List ℕ) (is_text : IsText files (config_file name) config) where
    -- it is none
    pub no_config : (before now : List ℕ → ℕ) (sent : Sent) (stop : Stop) → AreKept before now → TextStop (IsConfig config) refused_config stop → AreStopped stop sent
        → IsEndAfter (upgrade name) [] (call_of hash taps files before now sent)
    no_config before now sent stop kept is stopped =
        stop_end (upgrade name) [] (call_of hash taps files before now sent) stop
        (read_on (upgrade name) [] files before now (config_file name) config stop refl is_text.0 is_text.1 (stops config before now stop kept is)) stopped

    -- what is behind its read
    pub behind_config : (mid : List ℕ → Option (List ℕ)) (before then now : List ℕ → ℕ) (sent : Sent) → ((n : List ℕ) → mid n ≡ files n) → AreKept before then
        → IsEndAfter (upgrade name) (config ∷ []) (call_of hash taps mid then now sent) → IsEndAfter (upgrade name) [] (call_of hash taps files before now sent)
    behind_config mid before then now sent same kept end =
        end_read_on (upgrade name) [] (config_file name) config hash taps files mid before then now sent refl is_text.0 is_text.1 same kept end

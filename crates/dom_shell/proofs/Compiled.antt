-- How `compile` ends.
use Rattle.std.proofs.Common.{◌≡◌, ℕ, List, [], ◌∷◌, refl, ap, Option, Result, Ok, Err, MatchResult}
use Rattle.dom_io.specs.Causes.{HasCause}
use Rattle.dom_io.specs.Held.{Puts}
use Rattle.dom_io.specs.declared.sink.SinkFault.{SinkFault}
use Rattle.dom_words.specs.State.{Hash}
use Rattle.banzai_config.specs.Parts.{PartsForm}
use Rattle.banzai_config.specs.Targets.{shape_of}
use Rattle.banzai_config.specs.declared.target.Target.{Target}
use Rattle.config_text.specs.Fronts.{text_of}
use Rattle.dom_compile.specs.Answer.{IsCompileAnswer}
use Rattle.probe_taps.specs.Taps.{TapForm}
use Rattle.dom_finding.specs.Command.{compile}
use Rattle.dom_finding.specs.Finding.{ends, found, written}
use Rattle.dom_finding.specs.Refusals.{refused_compile}
use Rattle.dom_finding.specs.Stops.{TextStop}
use Rattle.dom_finding.specs.declared.reading.Stop.{Stop}
use Rattle.dom_finding.proofs.Stopped.{text_stops}
use Rattle.dom_shell.specs.Ends.{AreStopped, IsEndAfter, Sent, call_of}
use Rattle.dom_shell.proofs.Ended.{report_end, stop_end}

module _ (target : Target) (name text : List ℕ) (hash : Hash) (taps : List TapForm) (files : List ℕ → Option (List ℕ)) where
  -- the configuration was put, or the sink did not take it
  pub compiled : (unread : List ℕ → ℕ) (sent : Sent) (parts : PartsForm) (bytes : List ℕ) (result : Result (Unit {0}) SinkFault) → IsCompileAnswer (shape_of target) text (Ok parts)
      → bytes ≡ text_of target parts → Puts sent.held_before sent.held_after bytes result → HasCause sent.faults_before sent.faults_after result
      → MatchResult result (λ _. sent.answer ≡ 0) (λ _. sent.answer ≡ 5) → IsEndAfter (compile target name) (text ∷ []) (call_of hash taps files unread unread sent)
  compiled unread sent parts bytes result answer is puts cause status =
      report_end (compile target name) (text ∷ []) (call_of hash taps files unread unread sent) (written bytes) result
      (ends (Ok parts, answer, ap (λ (b : List ℕ). found (Ok (written b))) is)) (λ _. refl) puts cause status

  -- the program has no configuration
  pub refused : (unread : List ℕ → ℕ) (sent : Sent) (stop : Stop) → TextStop (IsCompileAnswer (shape_of target) text) refused_compile stop → AreStopped stop sent
      → IsEndAfter (compile target name) (text ∷ []) (call_of hash taps files unread unread sent)
  refused unread sent stop is stopped =
      stop_end (compile target name) (text ∷ []) (call_of hash taps files unread unread sent) stop
      (text_stops (compile target name) (text ∷ []) files unread unread (IsCompileAnswer (shape_of target) text) refused_compile stop (λ _. refl) (λ fault has. (Err fault, has, refl)) is) stopped

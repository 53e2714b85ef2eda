-- How `selfrun` ends.
use Rattle.std.proofs.Common.{◌≡◌, ℕ, List, [], refl, subst, Option, Result, Ok, Err, MatchResult}
use Rattle.dom_io.specs.Causes.{HasCause}
use Rattle.dom_io.specs.Held.{Puts}
use Rattle.dom_io.specs.declared.sink.SinkFault.{SinkFault}
use Rattle.dom_words.specs.State.{Hash}
use Rattle.banzai_config.specs.Parts.{PartsForm}
use Rattle.banzai_config.specs.Targets.{shape_of}
use Rattle.banzai_config.specs.declared.target.Target.{Target}
use Rattle.dom_compile.specs.Answer.{CompileRefusal, IsCompileAnswer}
use Rattle.probe_taps.specs.Taps.{TapForm}
use Rattle.dom_finding.specs.Command.{selfrun}
use Rattle.dom_finding.specs.Finding.{drawn, ends}
use Rattle.dom_finding.specs.OwnProgram.{own_program}
use Rattle.dom_finding.specs.Refusals.{refused_compile}
use Rattle.dom_finding.specs.Stops.{TextStop}
use Rattle.dom_finding.specs.declared.reading.Stop.{Stop}
use Rattle.dom_finding.proofs.Stopped.{text_stops}
use Rattle.dom_report.specs.SelfRun.{selfrun_report}
use Rattle.dom_shell.specs.Ends.{AreStopped, IsEndAfter, Sent, call_of}
use Rattle.dom_shell.proofs.Ended.{report_end, stop_end}

module _ (target : Target) (seed count : ℕ) (text : List ℕ) (own : text ≡ own_program target) (hash : Hash) (taps : List TapForm) (files : List ℕ → Option (List ℕ)) where
  answer_of : (r : Result PartsForm CompileRefusal) → IsCompileAnswer (shape_of target) text r → IsCompileAnswer (shape_of target) (own_program target) r
  answer_of r answer = subst (λ (t : List ℕ). IsCompileAnswer (shape_of target) t r) own answer

  -- the summary was put, or the sink did not take it
  pub summed : (unread : List ℕ → ℕ) (sent : Sent) (parts : PartsForm) (bytes : List ℕ) (result : Result (Unit {0}) SinkFault) → IsCompileAnswer (shape_of target) text (Ok parts)
      → bytes ≡ selfrun_report hash target seed count parts → Puts sent.held_before sent.held_after bytes result → HasCause sent.faults_before sent.faults_after result
      → MatchResult result (λ _. sent.answer ≡ 0) (λ _. sent.answer ≡ 5) → IsEndAfter (selfrun target seed count) [] (call_of hash taps files unread unread sent)
  summed unread sent parts bytes result answer is puts cause status =
      report_end (selfrun target seed count) [] (call_of hash taps files unread unread sent) (drawn target seed count parts) result
      (ends (Ok parts, answer_of (Ok parts) answer, refl)) (λ _. refl) (subst (λ (b : List ℕ). Puts sent.held_before sent.held_after b result) is puts) cause status

  -- the program has no configuration
  pub refused : (unread : List ℕ → ℕ) (sent : Sent) (stop : Stop) → TextStop (IsCompileAnswer (shape_of target) text) refused_compile stop → AreStopped stop sent
      → IsEndAfter (selfrun target seed count) [] (call_of hash taps files unread unread sent)
  refused unread sent stop is stopped =
      stop_end (selfrun target seed count) [] (call_of hash taps files unread unread sent) stop
      (text_stops (selfrun target seed count) [] files unread unread (IsCompileAnswer (shape_of target) text) refused_compile stop (λ _. refl) (λ fault has. (Err fault, answer_of (Err fault) has, refl)) is) stopped

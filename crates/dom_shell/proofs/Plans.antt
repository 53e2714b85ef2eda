-- How `codelets` and `planned` end.
use Rattle.std.proofs.Common.{◌≡◌, ℕ, Bool, List, [], ◌∷◌, refl, sym, ap, ◌∙◌, subst, Option, Some, None, Result, Ok, Err, MatchResult}
use Rattle.dom_io.specs.Causes.{HasCause}
use Rattle.dom_io.specs.Held.{Puts}
use Rattle.dom_io.specs.declared.sink.SinkFault.{SinkFault}
use Rattle.dom_words.specs.State.{Hash}
use Rattle.codelets.specs.declared.answer.Codelets.{Codelets}
use Rattle.codelets.specs.declared.codelet.Codelet.{Codelet}
use Rattle.stage_plan.specs.declared.place.Place.{Place}
use Rattle.atom_match.specs.Atoms.{AtomForm}
use Rattle.atom_traits.specs.Form.{TreesForm}
use Rattle.banzai_config.specs.Checked.{shape_with}
use Rattle.banzai_config.specs.Legal.{Shape}
use Rattle.banzai_config.specs.Parts.{PartsForm}
use Rattle.banzai_config.specs.Targets.{shape_of}
use Rattle.banzai_config.specs.declared.target.Target.{Target}
use Rattle.compile_law.specs.Compiled.{AreAtomsOf}
use Rattle.config_text.specs.Fronts.{text_of}
use Rattle.dom_compile.specs.Answer.{CompileRefusal, IsFitted, IsFrontAnswer}
use Rattle.plan_check.specs.HandFaults.{hand_fault}
use Rattle.plan_check.specs.PlanText.{IsPlanAnswer}
use Rattle.plan_check.specs.Placed.{placed}
use Rattle.plan_check.specs.declared.fault.HandFault.{HandFault}
use Rattle.probe_taps.specs.Taps.{TapForm}
use Rattle.dom_finding.specs.Command.{codelets, planned}
use Rattle.dom_finding.specs.Finding.{GivesByPlan, IsFoundAfter, IsFrontFor, IsNext, MayHold, ask, ends, found, plan_file, reads, unless_faulty, written}
use Rattle.dom_finding.specs.Listing.{codelets_text}
use Rattle.dom_finding.specs.Refusals.{refused_compile, refused_hand, refused_plan}
use Rattle.dom_finding.specs.Stops.{AreKept, FileStop, IsText, StopAfter, TextStop}
use Rattle.dom_finding.specs.declared.reading.Stop.{Stop}
use Rattle.dom_finding.specs.declared.reading.Stop.TheVariants.{Memory, Refused, Unread}
use Rattle.dom_finding.proofs.Stopped.{file_stops, read_on, text_stops}
use Rattle.dom_shell.specs.Ends.{AreStopped, IsEndAfter, Sent, call_of}
use Rattle.dom_shell.specs.Planned.{PlanStop}
use Rattle.dom_shell.proofs.Ended.{report_end, stop_end}

-- the target's own test and multipliers
pub front_for : (target : Target) (fits : TreesForm → Bool) (bits depth stateless stateful : ℕ) (multiplies : Bool) (text : List ℕ) (answer : Result (List Codelet) CompileRefusal) → shape_of target ≡ shape_with fits bits depth stateless stateful multiplies
    → IsFrontAnswer fits multiplies text answer → IsFrontFor target text answer
front_for target fits bits depth stateless stateful multiplies text answer same is =
    subst (λ (s : Shape). IsFrontAnswer s.fits s.multiplies text answer) (sym same) is

pub fitted_for : (target : Target) (fits : TreesForm → Bool) (bits depth stateless stateful : ℕ) (multiplies : Bool) (text : List ℕ) (cs : Codelets) → shape_of target ≡ shape_with fits bits depth stateless stateful multiplies
    → IsFitted fits multiplies text cs → IsFitted (shape_of target).fits (shape_of target).multiplies text cs
fitted_for target fits bits depth stateless stateful multiplies text cs same is =
    subst (λ (s : Shape). IsFitted s.fits s.multiplies text cs) (sym same) is

pub front_stop_for : (target : Target) (fits : TreesForm → Bool) (bits depth stateless stateful : ℕ) (multiplies : Bool) (text : List ℕ) (stop : Stop) → shape_of target ≡ shape_with fits bits depth stateless stateful multiplies
    → TextStop (IsFrontAnswer fits multiplies text) refused_compile stop → TextStop (IsFrontFor target text) refused_compile stop
front_stop_for target fits bits depth stateless stateful multiplies text stop same is =
    subst (λ (s : Shape). TextStop (IsFrontAnswer s.fits s.multiplies text) refused_compile stop) (sym same) is

-- `codelets`

module _ (target : Target) (name text : List ℕ) (hash : Hash) (taps : List TapForm) (files : List ℕ → Option (List ℕ)) where
  -- they were put, or the sink did not take them
  pub listed : (unread : List ℕ → ℕ) (sent : Sent) (list : List Codelet) (bytes : List ℕ) (result : Result (Unit {0}) SinkFault) → IsFrontFor target text (Ok list)
      → bytes ≡ codelets_text list → Puts sent.held_before sent.held_after bytes result → HasCause sent.faults_before sent.faults_after result
      → MatchResult result (λ _. sent.answer ≡ 0) (λ _. sent.answer ≡ 5) → IsEndAfter (codelets target name) (text ∷ []) (call_of hash taps files unread unread sent)
  listed unread sent list bytes result answer is puts cause status =
      report_end (codelets target name) (text ∷ []) (call_of hash taps files unread unread sent) (written bytes) result
      (ends (Ok list, answer, ap (λ (b : List ℕ). found (Ok (written b))) is)) (λ _. refl) puts cause status

  -- the program has none
  pub refused : (unread : List ℕ → ℕ) (sent : Sent) (stop : Stop) → TextStop (IsFrontFor target text) refused_compile stop → AreStopped stop sent
      → IsEndAfter (codelets target name) (text ∷ []) (call_of hash taps files unread unread sent)
  refused unread sent stop is stopped =
      stop_end (codelets target name) (text ∷ []) (call_of hash taps files unread unread sent) stop
      (text_stops (codelets target name) (text ∷ []) files unread unread (IsFrontFor target text) refused_compile stop (λ _. refl) (λ fault has. (Err fault, has, refl)) is) stopped

-- `planned`

module _ (target : Target) (name file text : List ℕ) (files : List ℕ → Option (List ℕ)) where
  -- the program has no codelets that fit
  pub front_stop : (before now : List ℕ → ℕ) (stop : Stop) → AreKept before now → TextStop (IsFrontFor target text) refused_compile stop → StopAfter (planned target name file) (text ∷ []) files before now stop
  front_stop before now stop kept is =
      text_stops (planned target name file) (text ∷ []) files before now (IsFrontFor target text) refused_compile stop kept (λ fault has. (Err fault, has, refl)) is

  module _ (cs : Codelets) (fitted : IsFitted (shape_of target).fits (shape_of target).multiplies text cs) where
    wants : IsNext (planned target name file) (text ∷ []) (ask (plan_file file))
    wants = (Ok cs.list, (cs, fitted, refl), refl)

    -- the plan could not be read
    pub no_plan : (before now : List ℕ → ℕ) (stop : Stop) → FileStop files before now (plan_file file) stop → StopAfter (planned target name file) (text ∷ []) files before now stop
    no_plan before now stop is = file_stops (planned target name file) (text ∷ []) files before now (plan_file file) stop wants is

    module _ (atoms : List AtomForm) (are : AreAtomsOf cs atoms) (plan : List ℕ) (is_text : IsText files (plan_file file) plan) where
      -- it gives no configuration
      pub plan_stops : (before now : List ℕ → ℕ) (stop : Stop) → AreKept before now → PlanStop target cs atoms plan stop → StopAfter (planned target name file) (text ∷ []) files before now stop
      plan_stops before now (Refused r) kept is =
          read_on (planned target name file) (text ∷ []) files before now (plan_file file) plan (Refused r) wants is_text.0 is_text.1 (ends (cs, fitted, (atoms, are, is)), kept)
      plan_stops before now Unread kept is = absurd is
      plan_stops before now Memory kept is = kept

      -- it gives one
      pub plan_found : (bytes : List ℕ) → GivesByPlan target cs atoms plan (found (Ok (written bytes))) → IsFoundAfter (MayHold files) (planned target name file) (text ∷ []) (Ok (written bytes))
      plan_found bytes is = reads (plan_file file) plan wants is_text.0 is_text.1 (ends (cs, fitted, (atoms, are, is)))

-- What comes of the text of a plan.

module _ (target : Target) (cs : Codelets) (atoms : List AtomForm) (text : List ℕ) (s : Shape) (same : shape_of target ≡ s) where
  -- it is none
  pub bad_text : (stop : Stop) → TextStop (IsPlanAnswer s.depth cs.list text) refused_plan stop → PlanStop target cs atoms text stop
  bad_text (Refused r) is =
      (Err is.0, subst (λ (z : Shape). IsPlanAnswer z.depth cs.list text (Err is.0)) (sym same) is.1, ap (λ x. found (Err x)) is.2)
  bad_text Unread is = is
  bad_text Memory is = is

  module _ (places : List Place) (says : IsPlanAnswer s.depth cs.list text (Ok places)) where
    here : IsPlanAnswer (shape_of target).depth cs.list text (Ok places)
    here = subst (λ (z : Shape). IsPlanAnswer z.depth cs.list text (Ok places)) (sym same) says

    -- the plan has a fault
    pub faulty : (fault : HandFault) → hand_fault s.depth s.stateless s.stateful cs.list places ≡ Some fault → GivesByPlan target cs atoms text (found (Err (refused_hand fault)))
    faulty fault is =
        let e = ap (λ (z : Shape). hand_fault z.depth z.stateless z.stateful cs.list places) same ∙ is in
        (Ok places, here, ap (λ (o : Option HandFault). unless_faulty o (text_of target (placed cs (shape_of target).depth atoms places))) (sym e))

    -- it has none
    pub lawful : (bytes : List ℕ) (parts : PartsForm) → hand_fault s.depth s.stateless s.stateful cs.list places ≡ None → bytes ≡ text_of target parts → parts ≡ placed cs s.depth atoms places
        → GivesByPlan target cs atoms text (found (Ok (written bytes)))
    lawful bytes parts is text_is parts_are =
        let e = ap (λ (z : Shape). hand_fault z.depth z.stateless z.stateful cs.list places) same ∙ is in
        let t : bytes ≡ text_of target (placed cs (shape_of target).depth atoms places) =
        text_is ∙ ap (text_of target) (parts_are ∙ ap (λ (z : Shape). placed cs z.depth atoms places) (sym same)) in
        (Ok places, here, ap (λ (b : List ℕ). found (Ok (written b))) t ∙ ap (λ (o : Option HandFault). unless_faulty o (text_of target (placed cs (shape_of target).depth atoms places))) (sym e))

-- How the commands over a configuration end.
use Rattle.std.proofs.Common.{◌≡◌, ℕ, ◌≤◌, Bool, true, false, nat_le, List, [], ◌∷◌, length, refl, sym, ap, subst, Option, Some, None, Ok, Err}
use Rattle.dom_words.specs.Names.{has_name}
use Rattle.std.specs.Bool.{if◌then◌else◌}
use Rattle.std.proofs.lemmas.Bool.{leb-true}
use Rattle.trace_text.specs.Trace as told
use Rattle.trace_text.specs.Trace.{IsTraceOf}
use Rattle.dom_words.specs.State.{Hash}
use Rattle.banzai_config.specs.Legal.{LegalFor, Shape}
use Rattle.banzai_config.specs.Parts.{PartsForm}
use Rattle.banzai_config.specs.Targets.{shape_of}
use Rattle.banzai_config.specs.declared.target.Target.{Target}
use Rattle.config_text.specs.Fronts.{TextOf}
use Rattle.probe_taps.specs.Taps.{TapForm}
use Rattle.dom_finding.specs.Command.{ConfigNames}
use Rattle.dom_finding.specs.Configs.{ConfigForm, ConfigRefusal, IsConfig, config_form}
use Rattle.dom_finding.specs.Finding.{IsFoundAfter, IsNext, MayHold, Next, Packets, ask, config_file, ends, found, trace_file}
use Rattle.dom_finding.specs.Refusals.{refused_config, refused_trace}
use Rattle.dom_finding.specs.Stops.{AreKept, FileStop, IsText, StopAfter, TextStop, TraceStop}
use Rattle.dom_finding.specs.declared.reading.Stop.{Stop}
use Rattle.dom_finding.specs.declared.reading.Stop.TheVariants.{Refused}
use Rattle.dom_finding.specs.declared.refusals.Refusal.TheVariants as refusal
use Rattle.dom_finding.proofs.Stopped.{file_stops, read_on, text_stops}
use Rattle.dom_shell.specs.Ends.{AreStopped, IsEndAfter, Sent, call_of}
use Rattle.dom_shell.specs.RunSetUp.{IsTraced}
use Rattle.dom_shell.specs.Tasks.{against, command_over, job_over}
use Rattle.dom_finding.specs.declared.refusals.Refusal.{Refusal}
use Rattle.dom_shell.specs.declared.commands.task.ConfigTask.{ConfigTask}
use Rattle.dom_shell.specs.declared.commands.task.ConfigTask.TheVariants as what
use Rattle.dom_shell.proofs.Clocked.{trace_found, trace_stops}
use Rattle.dom_shell.proofs.Ended.{end_read_on, stop_end}

-- The steps of what is asked for.

first : (w : ConfigTask) (names : ConfigNames) → IsNext (command_over w names) [] (ask (config_file names.config))
first what.Exec names = refl
first what.Watch names = refl
first (what.Probe stage) names = refl
first (what.Schedule ranking) names = refl

refuses : (w : ConfigTask) (names : ConfigNames) (config : List ℕ) (r : ConfigRefusal) → IsConfig config (Err r) → IsNext (command_over w names) (config ∷ []) (found (Err (refused_config r)))
refuses what.Exec names config r is = (Err r, is, refl)
refuses what.Watch names config r is = (Err r, is, refl)
refuses (what.Probe stage) names config r is = (Err r, is, refl)
refuses (what.Schedule ranking) names config r is = (Err r, is, refl)

-- the trace, or a refusal
abbrev trace_if : Bool → ConfigNames → Refusal → Next
trace_if b names refused = if b then ask (trace_file names.trace) else found (Err refused)

abbrev refusal_if : Bool → Refusal → Option Refusal
refusal_if b refused = if b then None else Some refused

none_if : (b : Bool) (refused : Refusal) → refusal_if b refused ≡ None → b ≡ true
none_if true refused e = refl
none_if false refused e = absurd (cc)

asks_if : (b : Bool) (names : ConfigNames) (refused : Refusal) → refusal_if b refused ≡ None → ask (trace_file names.trace) ≡ trace_if b names refused
asks_if b names refused e = ap (λ t. trace_if t names refused) (sym (none_if b refused e))

refused_if : (b : Bool) (names : ConfigNames) (refused r : Refusal) → refusal_if b refused ≡ Some r → found (Err r) ≡ trace_if b names refused
refused_if true names refused r e = absurd (cc)
refused_if false names refused r e = let same : refused ≡ r = cc in ap (λ (x : Refusal). found (Err x)) (sym same)

wants : (w : ConfigTask) (names : ConfigNames) (config : List ℕ) (c : ConfigForm) → IsConfig config (Ok c) → against w c.parts ≡ None
    → IsNext (command_over w names) (config ∷ []) (ask (trace_file names.trace))
wants what.Exec names config c is clear = (Ok c, is, refl)
wants what.Watch names config c is clear = (Ok c, is, refl)
wants (what.Probe stage) names config c is clear = (Ok c, is, asks_if (nat_le stage.number (length c.parts.stages)) names (refusal.Stage (length c.parts.stages)) clear)
wants (what.Schedule ranking) names config c is clear = (Ok c, is, asks_if (has_name c.parts.fields ranking.field.now) names refusal.Rank clear)

refuses_task : (w : ConfigTask) (names : ConfigNames) (config : List ℕ) (c : ConfigForm) → IsConfig config (Ok c) → (r : Refusal) → against w c.parts ≡ Some r
    → IsNext (command_over w names) (config ∷ []) (found (Err r))
refuses_task what.Exec names config c is r some = absurd (cc)
refuses_task what.Watch names config c is r some = absurd (cc)
refuses_task (what.Probe stage) names config c is r some = (Ok c, is, refused_if (nat_le stage.number (length c.parts.stages)) names (refusal.Stage (length c.parts.stages)) r some)
refuses_task (what.Schedule ranking) names config c is r some = (Ok c, is, refused_if (has_name c.parts.fields ranking.field.now) names refusal.Rank r some)

refuses_trace : (w : ConfigTask) (names : ConfigNames) (config : List ℕ) (c : ConfigForm) → IsConfig config (Ok c) → (text : List ℕ) (r : told.Refusal)
    → IsTraceOf text c.parts.fields (length c.parts.stages) (Err r) → IsNext (command_over w names) (text ∷ config ∷ []) (found (Err (refused_trace r)))
refuses_trace what.Exec names config c is text r has = (c, is, (Err r, has, refl))
refuses_trace what.Watch names config c is text r has = (c, is, (Err r, has, refl))
refuses_trace (what.Probe stage) names config c is text r has = (c, is, (Err r, has, refl))
refuses_trace (what.Schedule ranking) names config c is text r has = (c, is, (Err r, has, refl))

gives : (w : ConfigTask) (names : ConfigNames) (config : List ℕ) (c : ConfigForm) → IsConfig config (Ok c) → (packets : Packets) (text : List ℕ)
    → IsTraceOf text c.parts.fields (length c.parts.stages) (Ok packets) → IsNext (command_over w names) (text ∷ config ∷ []) (found (Ok (job_over w c.parts packets)))
gives what.Exec names config c is packets text says = (c, is, (Ok packets, says, refl))
gives what.Watch names config c is packets text says = (c, is, (Ok packets, says, refl))
gives (what.Probe stage) names config c is packets text says = (c, is, (Ok packets, says, refl))
gives (what.Schedule ranking) names config c is packets text says = (c, is, (Ok packets, says, refl))

module _ (w : ConfigTask) (names : ConfigNames) (files : List ℕ → Option (List ℕ)) (config : List ℕ) where
  -- the configuration is none
  pub config_stops : (before now : List ℕ → ℕ) (stop : Stop) → AreKept before now → TextStop (IsConfig config) refused_config stop → StopAfter (command_over w names) (config ∷ []) files before now stop
  config_stops before now stop kept is =
      text_stops (command_over w names) (config ∷ []) files before now (IsConfig config) refused_config stop kept (λ r has. refuses w names config r has) is

  -- something stands against the task
  pub task_stops : (before now : List ℕ → ℕ) (c : ConfigForm) (r : Refusal) → IsConfig config (Ok c) → against w c.parts ≡ Some r → AreKept before now
      → StopAfter (command_over w names) (config ∷ []) files before now (Refused r)
  task_stops before now c r is some kept = (ends (refuses_task w names config c is r some), kept)

  module _ (c : ConfigForm) (is : IsConfig config (Ok c)) (clear : against w c.parts ≡ None) where
    -- its trace stops it
    pub over_stops : (before now : List ℕ → ℕ) (stop : Stop) → TraceStop files before now (trace_file names.trace) c.parts.fields (length c.parts.stages) stop
        → StopAfter (command_over w names) (config ∷ []) files before now stop
    over_stops before now stop stops =
        trace_stops (command_over w names) (config ∷ []) files names.trace (wants w names config c is clear) c.parts.fields (length c.parts.stages) before now (refuses_trace w names config c is) stop stops

    -- a configuration and packets are found
    pub over_found : (packets : Packets) → IsTraced files names.trace c.parts packets → IsFoundAfter (MayHold files) (command_over w names) (config ∷ []) (Ok (job_over w c.parts packets))
    over_found packets traced =
        trace_found (command_over w names) (config ∷ []) files names.trace (wants w names config c is clear) c.parts (job_over w c.parts packets) packets (gives w names config c is packets) traced

-- The parts that were read are those of the machine.

module _ (target : Target) (parts config : PartsForm) (same : config ≡ parts) where
  -- they are legal, and so the text is a configuration
  pub config_of : (s : Shape) (text : List ℕ) → shape_of target ≡ s → TextOf target parts text → LegalFor s parts → IsConfig text (Ok (config_form target config))
  config_of s text shape spelled legal =
      let here : LegalFor (shape_of target) parts = subst (λ (z : Shape). LegalFor z parts) (sym shape) legal in
      subst (λ (p : PartsForm). IsConfig text (Ok (config_form target p))) (sym same) (spelled, here)

  pub legal_of : (s : Shape) → LegalFor s parts → LegalFor s config
  legal_of s legal = subst (λ (p : PartsForm). LegalFor s p) (sym same) legal

-- the same job, by the configuration of the machine
pub found_over : (w : ConfigTask) (names : ConfigNames) (text : List ℕ) (files : List ℕ → Option (List ℕ)) (config own : PartsForm) (packets : Packets) → own ≡ config
    → IsFoundAfter (MayHold files) (command_over w names) (text ∷ []) (Ok (job_over w config packets)) → IsFoundAfter (MayHold files) (command_over w names) (text ∷ []) (Ok (job_over w own packets))
found_over w names text files config own packets same is =
    subst (λ (p : PartsForm). IsFoundAfter (MayHold files) (command_over w names) (text ∷ []) (Ok (job_over w p packets))) (sym same) is

-- The reads.

module _ (w : ConfigTask) (names : ConfigNames) (hash : Hash) (taps : List TapForm) (files : List ℕ → Option (List ℕ)) where
  -- the configuration could not be read
  pub unread_config : (before now : List ℕ → ℕ) (sent : Sent) (stop : Stop) → FileStop files before now (config_file names.config) stop → AreStopped stop sent
      → IsEndAfter (command_over w names) [] (call_of hash taps files before now sent)
  unread_config before now sent stop is stopped =
      stop_end (command_over w names) [] (call_of hash taps files before now sent) stop
      (file_stops (command_over w names) [] files before now (config_file names.config) stop (first w names) is) stopped

  module _ (config : List ℕ) (is_text : IsText files (config_file names.config) config) where
    -- it is none
    pub no_config : (before now : List ℕ → ℕ) (sent : Sent) (stop : Stop) → AreKept before now → TextStop (IsConfig config) refused_config stop → AreStopped stop sent
        → IsEndAfter (command_over w names) [] (call_of hash taps files before now sent)
    no_config before now sent stop kept is stopped =
        stop_end (command_over w names) [] (call_of hash taps files before now sent) stop
        (read_on (command_over w names) [] files before now (config_file names.config) config stop (first w names) is_text.0 is_text.1 (config_stops w names files config before now stop kept is)) stopped

    -- what is behind its read
    pub behind_config : (mid : List ℕ → Option (List ℕ)) (before after now : List ℕ → ℕ) (sent : Sent) → ((n : List ℕ) → mid n ≡ files n) → AreKept before after
        → IsEndAfter (command_over w names) (config ∷ []) (call_of hash taps mid after now sent) → IsEndAfter (command_over w names) [] (call_of hash taps files before now sent)
    behind_config mid before after now sent same kept end =
        end_read_on (command_over w names) [] (config_file names.config) config hash taps files mid before after now sent (first w names) is_text.0 is_text.1 same kept end

-- what a task that nothing stands against may take for granted
pub clear_stage : (stage : ℕ) (c : PartsForm) → refusal_if (nat_le stage (length c.stages)) (refusal.Stage (length c.stages)) ≡ None → stage ≤ length c.stages
clear_stage stage c clear = leb-true stage (length c.stages) (none_if (nat_le stage (length c.stages)) (refusal.Stage (length c.stages)) clear)

pub clear_field : (field : List ℕ) (c : PartsForm) → refusal_if (has_name c.fields field) refusal.Rank ≡ None → has_name c.fields field ≡ true
clear_field field c clear = none_if (has_name c.fields field) refusal.Rank clear

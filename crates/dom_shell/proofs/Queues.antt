-- How `elastic` ends.
use Rattle.std.specs.List.{list_all}
use Rattle.std.proofs.Common.{◌≡◌, ℕ, ◌+◌, ◌*◌, ◌^◌, ◌<◌, ◌≤◌, All, true, arith, mul-le-mul_left, inl, inr, List, [], ◌∷◌, length, refl, ap, sym, ◌∙◌, subst, Option, IfSome, Ok, Err}
use Rattle.trace_text.specs.Lines.{Legend}
use Rattle.trace_text.specs.Events.{IsEventsOf, may_happen}
use Rattle.trace_text.specs.declared.events.Event.{Event}
use Rattle.trace_text.specs.Trace.{IsTraceOf}
use Rattle.dom_words.specs.State.{Hash}
use Rattle.banzai_config.specs.Parts.{PartsForm}
use Rattle.elastic_machine.specs.Elastic.{ElasticForm, IsNew}
use Rattle.probe_taps.specs.Taps.{TapForm}
use Rattle.dom_report.specs.ElasticReport.{IsElasticReady}
use Rattle.dom_report.specs.RunReport.{array_names}
use Rattle.dom_shell.specs.Call.{queue_room}
use Rattle.dom_finding.specs.Command.{ConfigNames, elastic}
use Rattle.dom_finding.specs.Configs.{ConfigForm, IsConfig}
use Rattle.dom_finding.specs.Finding.{IsFoundAfter, IsNext, MayHold, Packets, ask, config_file, ends, events_file, found, queued, reads, trace_file}
use Rattle.dom_finding.specs.Refusals.{refused_config, refused_events, refused_trace}
use Rattle.dom_finding.specs.Stops.{AreKept, FileStop, IsText, StopAfter, TextStop}
use Rattle.dom_finding.specs.declared.reading.Stop.{Stop}
use Rattle.dom_finding.proofs.Stopped.{file_stops, moved, read_on, text_stops}
use Rattle.dom_shell.specs.Ends.{AreStopped, IsEndAfter, Sent, call_of}
use Rattle.dom_shell.specs.QueuesSetUp.{AreEvents, EventsStop}
use Rattle.dom_shell.proofs.Ended.{end_read_on, stop_end}

module _ (names : ConfigNames) (events : List ℕ) (files : List ℕ → Option (List ℕ)) (config : List ℕ) where
  -- the text is no configuration
  pub config_stops : (before now : List ℕ → ℕ) (stop : Stop) → AreKept before now → TextStop (IsConfig config) refused_config stop → StopAfter (elastic names events) (config ∷ []) files before now stop
  config_stops before now stop kept is =
      text_stops (elastic names events) (config ∷ []) files before now (IsConfig config) refused_config stop kept (λ r has. (Err r, has, refl)) is

  module _ (c : ConfigForm) (is : IsConfig config (Ok c)) where
    wants_trace : IsNext (elastic names events) (config ∷ []) (ask (trace_file names.trace))
    wants_trace = (Ok c, is, refl)

    -- the trace could not be read
    pub no_trace : (before now : List ℕ → ℕ) (stop : Stop) → FileStop files before now (trace_file names.trace) stop → StopAfter (elastic names events) (config ∷ []) files before now stop
    no_trace before now stop stops = file_stops (elastic names events) (config ∷ []) files before now (trace_file names.trace) stop wants_trace stops

    module _ (trace : List ℕ) (is_text : IsText files (trace_file names.trace) trace) where
      -- it is none
      pub trace_stops : (before now : List ℕ → ℕ) (stop : Stop) → AreKept before now → TextStop (IsTraceOf trace c.parts.fields 0) refused_trace stop
          → StopAfter (elastic names events) (config ∷ []) files before now stop
      trace_stops before now stop kept stops =
          read_on (elastic names events) (config ∷ []) files before now (trace_file names.trace) trace stop wants_trace is_text.0 is_text.1
          (text_stops (elastic names events) (trace ∷ config ∷ []) files before now (IsTraceOf trace c.parts.fields 0) refused_trace stop kept (λ r has. (c, is, (Err r, has, refl))) stops)

      module _ (packets : Packets) (says : IsTraceOf trace c.parts.fields 0 (Ok packets)) where
        wants_events : IsNext (elastic names events) (trace ∷ config ∷ []) (ask (events_file events))
        wants_events = (c, is, (Ok packets, says, refl))

        -- the events stop it
        pub events_stop : (before now : List ℕ → ℕ) (stop : Stop) → EventsStop files before now events c.parts stop → StopAfter (elastic names events) (config ∷ []) files before now stop
        events_stop before now stop (inl stops) =
            read_on (elastic names events) (config ∷ []) files before now (trace_file names.trace) trace stop wants_trace is_text.0 is_text.1
            (file_stops (elastic names events) (trace ∷ config ∷ []) files before now (events_file events) stop wants_events stops)
        events_stop before now stop (inr stops) =
            read_on (elastic names events) (config ∷ []) files before now (trace_file names.trace) trace stop wants_trace is_text.0 is_text.1
            (read_on (elastic names events) (trace ∷ config ∷ []) files before now (events_file events) stops.0 stop wants_events stops.1.0 stops.1.1
            (text_stops (elastic names events) (stops.0 ∷ trace ∷ config ∷ []) files before now (IsEventsOf stops.0 (length c.parts.stages)) refused_events stop stops.2
            (λ r has. (c, is, (packets, says, (Err r, has, refl)))) stops.3))

        -- all of it is found
        pub queues_found : (list : List Event) → AreEvents files events c.parts list → IsFoundAfter (MayHold files) (elastic names events) (config ∷ []) (Ok (queued c.parts packets list))
        queues_found list are =
            reads (trace_file names.trace) trace wants_trace is_text.0 is_text.1
            (reads (events_file events) are.0 wants_events are.1.0 are.1.1 (ends (c, is, (packets, says, (Ok list, are.2, refl)))))

-- the same job, by the configuration of the machine
pub found_in_queues : (names : ConfigNames) (events text : List ℕ) (files : List ℕ → Option (List ℕ)) (config own : PartsForm) (packets trace : Packets) (list : List Event) → own ≡ config → trace ≡ packets
    → IsFoundAfter (MayHold files) (elastic names events) (text ∷ []) (Ok (queued config packets list)) → IsFoundAfter (MayHold files) (elastic names events) (text ∷ []) (Ok (queued own trace list))
found_in_queues names events text files config own packets trace list same alike is =
    subst (λ (p : PartsForm). IsFoundAfter (MayHold files) (elastic names events) (text ∷ []) (Ok (queued p trace list))) (sym same)
    (subst (λ (q : Packets). IsFoundAfter (MayHold files) (elastic names events) (text ∷ []) (Ok (queued config q list))) (sym alike) is)

-- The events, whose file is read behind another, which moved nothing.
pub events_later : (files mid : List ℕ → Option (List ℕ)) (before then now : List ℕ → ℕ) (name : List ℕ) (parts : PartsForm) (stop : Stop) → ((n : List ℕ) → mid n ≡ files n) → AreKept before then
    → EventsStop mid then now name parts stop → EventsStop files before now name parts stop
events_later files mid before then now name parts stop same kept (inl is) = inl (moved files mid before then now (events_file name) stop same kept is)
events_later files mid before then now name parts stop same kept (inr is) =
    inr (is.0, (subst (λ (o : Option (List ℕ)). IfSome o (λ told. told ≡ is.0)) (same name) is.1.0, is.1.1), (λ n. is.2 n ∙ kept n), is.3)

pub are_later : (files mid : List ℕ → Option (List ℕ)) (name : List ℕ) (parts : PartsForm) (list : List Event) → ((n : List ℕ) → mid n ≡ files n) → AreEvents mid name parts list → AreEvents files name parts list
are_later files mid name parts list same is = (is.0, (subst (λ (o : Option (List ℕ)). IfSome o (λ told. told ≡ is.0)) (same name) is.1.0, is.1.1), is.2)

-- The read of the configuration.

module _ (names : ConfigNames) (events : List ℕ) (hash : Hash) (taps : List TapForm) (files : List ℕ → Option (List ℕ)) where
  -- it could not be read
  pub unread_config : (before now : List ℕ → ℕ) (sent : Sent) (stop : Stop) → FileStop files before now (config_file names.config) stop → AreStopped stop sent
      → IsEndAfter (elastic names events) [] (call_of hash taps files before now sent)
  unread_config before now sent stop is stopped =
      stop_end (elastic names events) [] (call_of hash taps files before now sent) stop
      (file_stops (elastic names events) [] files before now (config_file names.config) stop refl is) stopped

  module _ (config : List ℕ) (is_text : IsText files (config_file names.config) config) where
    -- it is none
    pub no_config : (before now : List ℕ → ℕ) (sent : Sent) (stop : Stop) → AreKept before now → TextStop (IsConfig config) refused_config stop → AreStopped stop sent
        → IsEndAfter (elastic names events) [] (call_of hash taps files before now sent)
    no_config before now sent stop kept is stopped =
        stop_end (elastic names events) [] (call_of hash taps files before now sent) stop
        (read_on (elastic names events) [] files before now (config_file names.config) config stop refl is_text.0 is_text.1 (config_stops names events files config before now stop kept is)) stopped

    -- what is behind its read
    pub behind_config : (mid : List ℕ → Option (List ℕ)) (before then now : List ℕ → ℕ) (sent : Sent) → ((n : List ℕ) → mid n ≡ files n) → AreKept before then
        → IsEndAfter (elastic names events) (config ∷ []) (call_of hash taps mid then now sent) → IsEndAfter (elastic names events) [] (call_of hash taps files before now sent)
    behind_config mid before then now sent same kept end =
        end_read_on (elastic names events) [] (config_file names.config) config hash taps files mid before then now sent refl is_text.0 is_text.1 same kept end

-- What a run with queues needs, for the configuration that its machine has.
pub queues_ready : (depth : ℕ) (parts : PartsForm) (machine : ElasticForm) (lines : Legend) (packets : Packets) (list : List Event) (entering leaving : List ℕ) → IsNew queue_room parts machine → lines.fields ≡ parts.fields
    → lines.arrays ≡ array_names parts → length parts.fields ≤ lines.words → All (λ p. length p.1 ≡ length parts.fields) packets → list_all (may_happen (length parts.stages)) list ≡ true → length parts.stages ≡ depth
    → depth ≤ 65535 → length entering ≡ length parts.fields → length leaving ≡ length parts.fields → IsElasticReady queue_room depth machine lines packets list entering leaving
queues_ready depth parts machine lines packets list entering leaving new fields arrays words each happen deep flat enters leaves =
    let e : parts ≡ machine.config = sym new.config in
    record {
      start = subst (λ (p : PartsForm). IsNew queue_room p machine) e new;
      deep = ap (λ (p : PartsForm). length p.stages) (sym e) ∙ deep;
      some = omega arith;
      few = subst (λ (p : PartsForm). (length p.stages + 1) * queue_room < 2 ^ 32) e (omega arith);
      fields = fields ∙ ap (λ (p : PartsForm). p.fields) e;
      arrays = arrays ∙ ap array_names e;
      words = subst (λ (p : PartsForm). length p.fields ≤ lines.words) e words;
      each = subst (λ (p : PartsForm). All (λ q. length q.1 ≡ length p.fields) packets) e each;
      happen = subst (λ (p : PartsForm). list_all (may_happen (length p.stages)) list ≡ true) e happen;
      entering_is = enters ∙ ap (λ (p : PartsForm). length p.fields) e;
      leaving_is = leaves ∙ ap (λ (p : PartsForm). length p.fields) e;
    }

pub few_places : (depth containers : ℕ) → depth ≤ 65535 → containers ≤ 2048 → (depth + 1) * queue_room * containers < 2 ^ 31
few_places depth containers flat few = let m = mul-le-mul_left ((depth + 1) * queue_room) few in omega arith

-- The report of a configuration with queues between its stages: a heading, a line for each event that was not ready or with
-- which a packet left, the state words that are not 0 by array and index, how many packets are held, and the end.
use Rattle.std.specs.Prelude.{◌≡◌, ℕ, ◌+◌, ◌-◌, ◌*◌, ◌^◌, ◌<◌, ◌≤◌, All, true, Option, Some, None, List, [], ◌∷◌, ◌++◌, codes, length, map, sum_by}
use Rattle.std.specs.List.{list_all}
use Rattle.dom_words.specs.State.{Hash}
use Rattle.pipeline_law.specs.Queues as happening
use Rattle.pipeline_law.specs.Queues.{last_head}
use Rattle.trace_text.specs.declared.events.Event.{Event}
use Rattle.trace_text.specs.declared.events.Event.TheVariants.{Enter, Fire, Leave}
use Rattle.trace_text.specs.Events.{may_happen}
use Rattle.trace_text.specs.Lines.{Legend, done_line, head_line, held_line, joined, packet_line, wait_line}
use Rattle.banzai_config.specs.Action.{Entry}
use Rattle.banzai_config.specs.Parts.{PartsForm}
use Rattle.banzai_machine.specs.Pipe.{shown}
use Rattle.elastic_machine.specs.Elastic.{ElasticForm, IsNew}
use Rattle.elastic_machine.specs.Queued.{left_by, queued}
use Rattle.elastic_machine.specs.Ready.{enter_waits, fire_waits}
use Rattle.elastic_machine.specs.declared.ready.NotReady.{NotReady}
use Rattle.dom_report.specs.RunReport.{array_names}
use Rattle.dom_report.specs.SerialReport.{state_lines}

-- before an event: what has happened to the queues, and the packets of the trace that have not come in
pub record Moment : Type 0 where
  pub happened : List (happening.Event (List ℕ))
  pub waiting : List (List ℕ)

-- what an event tells: nothing, that it was not ready, or the packet that left with it
pub data Telling : Type 0 where
  nothing : Telling
  not_ready : Telling
  leaves : List ℕ → Telling

abbrev pub if_waits : Option NotReady → Telling
if_waits None = nothing
if_waits (Some reason) = not_ready

-- by the head of the last queue, if there is one
abbrev pub if_leaves : List Entry → Telling
if_leaves [] = not_ready
if_leaves (None ∷ entries) = nothing
if_leaves (Some words ∷ entries) = leaves words

-- the packets that have not come in, after an event that brought the first of them: all of them, where it was not ready
abbrev pub still_waiting : Option NotReady → List ℕ → List (List ℕ) → List (List ℕ)
still_waiting None packet packets = packets
still_waiting (Some reason) packet packets = packet ∷ packets

-- most: the packets that a queue holds at most
module _ (hash : Hash) (most : ℕ) (p : PartsForm) where
  -- the queues, and the numbers of packets in them
  abbrev pub queues_at : Moment → List (List Entry)
  queues_at m = (queued hash most p m.happened).queues

  abbrev pub counts_at : Moment → List ℕ
  counts_at m = map length (queues_at m)

  -- an `enter`, by the packets that have not come in: what it tells, and the moment behind it
  abbrev pub enter_told : Moment → List (List ℕ) → Telling
  enter_told m [] = not_ready
  enter_told m (packet ∷ packets) = if_waits (enter_waits most (counts_at m))

  abbrev pub after_enter : Moment → List (List ℕ) → Moment
  after_enter m [] = record { happened = m.happened; waiting = [] }
  after_enter m (packet ∷ packets) = record {
    happened = m.happened ++ happening.Enter packet ∷ [];
    waiting = still_waiting (enter_waits most (counts_at m)) packet packets;
  }

  -- an event: what it tells, and the moment behind it
  abbrev pub told : Moment → Event → Telling
  told m Enter = enter_told m m.waiting
  told m (Fire stage) = if_waits (fire_waits most (stage - 1) (counts_at m))
  told m Leave = if_leaves (map (shown p) (last_head (queues_at m)))

  abbrev pub after_event : Moment → Event → Moment
  after_event m Enter = after_enter m m.waiting
  after_event m (Fire stage) = record { happened = m.happened ++ happening.Fire (stage - 1) ∷ []; waiting = m.waiting }
  after_event m Leave = record { happened = m.happened ++ happening.Leave ∷ []; waiting = m.waiting }

  -- events: what each of them tells, and the moment behind the last
  abbrev pub told_by : Moment → List Event → List Telling
  told_by m [] = []
  told_by m (event ∷ events) = told m event ∷ told_by (after_event m event) events

  abbrev pub after_events : Moment → List Event → Moment
  after_events m [] = m
  after_events m (event ∷ events) = after_events (after_event m event) events

-- the line of what event n tells, and those of events, the first of which is event n
abbrev pub telling_lines : ℕ → Telling → List (List ℕ)
telling_lines n nothing = []
telling_lines n not_ready = wait_line n ∷ []
telling_lines n (leaves words) = packet_line n words ∷ []

abbrev pub told_lines : ℕ → List Telling → List (List ℕ)
told_lines n [] = []
told_lines n (telling ∷ tellings) = telling_lines n telling ++ told_lines (n + 1) tellings

-- before the first event
abbrev pub first_moment : List (List ℕ) → Moment
first_moment packets = record { happened = []; waiting = packets }

module _ (hash : Hash) (most : ℕ) (p : PartsForm) where
  -- the lines behind the events, where there were so many packets in the trace
  abbrev pub elastic_end : ℕ → Moment → List (List ℕ)
  elastic_end packets m =
      state_lines (array_names p) (queued hash most p m.happened).state
      ++ held_line (sum_by length (queues_at hash most p m))
      ∷ done_line (packets - length m.waiting) (Some (length (left_by hash most p m.happened)))
      ∷ []

  -- the report over these packets and events
  abbrev pub elastic_report : List (List ℕ) → List Event → List ℕ
  elastic_report packets events =
      let first = first_moment packets in
      head_line (codes "event") p.fields
      ++ (joined (told_lines 1 (told_by hash most p first events)) ++ joined (elastic_end (length packets) (after_events hash most p first events)))

-- what a run with queues needs: empty queues, the names and packets for the configuration, events of its stages, and a word for
-- each field of what enters and leaves
pub record IsElasticReady (most depth : ℕ) (m : ElasticForm) (lines : Legend) (packets : List (ℕ × List ℕ)) (events : List Event) (entering leaving : List ℕ) : Type 0 where
  pub start : IsNew most m.config m
  pub deep : length m.config.stages ≡ depth
  pub some : 1 ≤ most
  pub few : (length m.config.stages + 1) * most < 2 ^ 32
  pub fields : lines.fields ≡ m.config.fields
  pub arrays : lines.arrays ≡ array_names m.config
  pub words : length m.config.fields ≤ lines.words
  pub each : All (λ p. length p.1 ≡ length m.config.fields) packets
  pub happen : list_all (may_happen (length m.config.stages)) events ≡ true
  pub entering_is : length entering ≡ length m.config.fields
  pub leaving_is : length leaving ≡ length m.config.fields

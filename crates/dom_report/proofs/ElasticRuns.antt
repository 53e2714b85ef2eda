-- A run of a configuration with queues, event by event.
use Rattle.std.proofs.Common.{◌≡◌, ℕ, zero, codes, ◌*◌, mul-le-mul_right, slice_index, sum_by, suc, ◌+◌, ◌-◌, ◌<◌, ◌≤◌, List, [], ◌∷◌, ◌++◌, length, map, take, drop, get_or, refl, sym, ap, ◌∙◌, subst, append_assoc, append-nil, arith, Bool, true, false, nat_lt, Option, Some, None, Result, Ok, Err, MatchResult, OnOk}
use Rattle.std.proofs.Math.Seq.{take-length}
use Rattle.std.specs.List.{AllByRecursion as Every}
use Rattle.std.proofs.lemmas.List.Sums.{sum_by_more}
use Rattle.std.proofs.lemmas.List.{map-append, take-append-drop, take_more, length-take, length-map, length-drop}
use Rattle.dom_io.specs.Held.{IsPart, Puts, appended}
use Rattle.dom_io.specs.declared.sink.SinkFault.{SinkFault}
use Rattle.dom_words.specs.State.{Hash, started}
use Rattle.pipeline_law.specs.Queues as happening
use Rattle.pipeline_law.specs.Queues.{Queues, happened, happens, idle_queues, last_head, taken, takes}
use Rattle.trace_text.specs.declared.events.Event.{Event}
use Rattle.trace_text.specs.Lines.{done_line, head_line, held_line, joined, packet_line, wait_line}
use Rattle.trace_text.specs.Trace.{words_at}
use Rattle.banzai_config.specs.Action.{Arrays, Entry, acts}
use Rattle.banzai_config.specs.Parts.{PartsForm}
use Rattle.banzai_machine.specs.Alone.{packets_of}
use Rattle.banzai_machine.specs.Pipe.{entered, shown}
use Rattle.elastic_machine.specs.Elastic.{ElasticForm, IsNew, Stands}
use Rattle.elastic_machine.specs.Queued.{left_by, placed, queued}
use Rattle.elastic_machine.specs.Ready.{Answers, enter_waits, fire_waits}
use Rattle.elastic_machine.specs.declared.ready.NotReady.{NotReady}
use Rattle.elastic_machine.proofs.Happening.{happened-append}
use Rattle.dom_report.specs.declared.elastic_report.Passed.{Passed}
use Rattle.dom_report.specs.ElasticEvents.{IsAt, StepsTo, end_lines, packets_in}
use Rattle.dom_report.specs.ElasticReport.{Moment, Telling, after_enter, after_event, after_events, counts_at, elastic_end, elastic_report, enter_told, first_moment, if_leaves, if_waits, leaves, not_ready, nothing, queues_at, told, told_by, told_lines, telling_lines}
use Rattle.dom_report.specs.RunReport.{array_names}
use Rattle.dom_report.specs.SerialReport.{state_lines}
use Rattle.dom_report.proofs.InTurn.{joined-append}
use Rattle.dom_report.proofs.Parts.{part_after, part_before, put_then}
use Rattle.dom_report.proofs.Reports.{puts_after}

-- The lines.

nothing_put : (h : Option (List ℕ)) → h ≡ appended h []
nothing_put None = refl
nothing_put (Some h) = ap Some (sym (append-nil h))

-- one line
puts_one : {E : Type 0} (result : Result (Unit {0}) E) (h h' : Option (List ℕ)) (line : List ℕ) → Puts h h' line result → Puts h h' (joined (line ∷ [])) result
puts_one result h h' line put = subst (λ (l : List ℕ). Puts h h' l result) (sym (append-nil line)) put

-- what an event that waits tells, and one that does not
pub told_wait : (result : Result (Unit {0}) SinkFault) (h h' : Option (List ℕ)) (number : ℕ) (waits : Option NotReady) (reason : NotReady) → waits ≡ Some reason → Puts h h' (wait_line number) result
    → Puts h h' (joined (telling_lines number (if_waits waits))) result
told_wait result h h' number waits reason is put = rw is (puts_one result h h' (wait_line number) put)

pub told_nothing : (h : Option (List ℕ)) (number : ℕ) (waits : Option NotReady) → waits ≡ None → h ≡ appended h (joined (telling_lines number (if_waits waits)))
told_nothing h number waits is = rw is (nothing_put h)

-- what a packet that leaves tells, and where none does
pub told_packet : (result : Result (Unit {0}) SinkFault) (h h' : Option (List ℕ)) (number : ℕ) (heads : List Entry) (words : List ℕ) → heads ≡ Some words ∷ [] → Puts h h' (packet_line number words) result
    → Puts h h' (joined (telling_lines number (if_leaves heads))) result
told_packet result h h' number heads words is put = rw is (puts_one result h h' (packet_line number words) put)

pub told_none : (result : Result (Unit {0}) SinkFault) (h h' : Option (List ℕ)) (number : ℕ) (heads : List Entry) → heads ≡ [] → Puts h h' (wait_line number) result
    → Puts h h' (joined (telling_lines number (if_leaves heads))) result
told_none result h h' number heads is put = rw is (puts_one result h h' (wait_line number) put)

-- The packets of the trace.

pub waiting_next : (trace : List (ℕ × List ℕ)) (k : ℕ) → k < length trace → drop k (packets_in trace) ≡ words_at trace k ∷ drop (k + 1) (packets_in trace)
waiting_next [] k inside = absurd (omega (arith, inside))
waiting_next (x ∷ xs) zero inside = refl
waiting_next (x ∷ xs) (suc k) inside =
    let up : suc (k + 1) ≡ suc k + 1 = omega arith in
    waiting_next xs k (omega (arith, inside)) ∙ ap (λ n. words_at xs k ∷ drop n (packets_in (x ∷ xs))) up

pub waiting_none : (trace : List (ℕ × List ℕ)) (k : ℕ) → length trace ≤ k → drop k (packets_in trace) ≡ []
waiting_none [] zero over = refl
waiting_none [] (suc k) over = refl
waiting_none (x ∷ xs) zero over = absurd (omega (arith, over))
waiting_none (x ∷ xs) (suc k) over = waiting_none xs k (omega (arith, over))

-- What has left: only the events with which something leaves change it.

module _ (hash : Hash) (most : ℕ) (p : PartsForm) where
  pub last_event : (events : List (happening.Event (List ℕ))) (e : happening.Event (List ℕ)) → queued hash most p (events ++ e ∷ []) ≡ happens (acts hash) most p.stages (placed p e) (queued hash most p events)
  last_event events e =
      ap (λ (z : List (happening.Event Entry)). happened (acts hash) most p.stages z (idle_queues p.stages (started p.arrays))) (map-append (placed p) events (e ∷ []))
      ∙ happened-append (acts hash) most p.stages (map (placed p) events) (placed p e ∷ []) (idle_queues p.stages (started p.arrays))

  abbrev left_of : Queues Arrays Entry → List (List ℕ)
  left_of w = packets_of (map (shown p) w.left)

  taken_left : (room : Bool) (x : Entry) (q : List Entry) (qs : List (List Entry)) (w : Queues Arrays Entry) → (taken (acts hash) most p.stages room x q qs w).left ≡ w.left
  taken_left true x q qs w = refl
  taken_left false x q qs w = refl

  takes_left : (x : Entry) (qs : List (List Entry)) (w : Queues Arrays Entry) → (takes (acts hash) most p.stages x qs w).left ≡ w.left
  takes_left x [] w = refl
  takes_left x (q ∷ qs) w = taken_left (nat_lt (length q) most) x q qs w

  pub enter_left : (events : List (happening.Event (List ℕ))) (packet : List ℕ) → left_by hash most p (events ++ happening.Enter packet ∷ []) ≡ left_by hash most p events
  enter_left events packet =
      ap (λ (w : Queues Arrays Entry). left_of w) (last_event events (happening.Enter packet))
      ∙ ap (λ (z : List Entry). packets_of (map (shown p) z)) (takes_left (entered p (Some packet)) (queued hash most p events).queues (queued hash most p events))

  pub fire_left : (events : List (happening.Event (List ℕ))) (k : ℕ) → left_by hash most p (events ++ happening.Fire k ∷ []) ≡ left_by hash most p events
  fire_left events k = ap (λ (w : Queues Arrays Entry). left_of w) (last_event events (happening.Fire k))

-- One event.

module _ (hash : Hash) (most : ℕ) (trace : List (ℕ × List ℕ)) (old new : ElasticForm) (same : new.config ≡ old.config) (passed : Passed) (m : Moment) (at_m : IsAt hash most old.config trace old passed m) where
  abbrev pub counts : List ℕ
  counts = map length old.queues

  counts_are : counts ≡ counts_at hash most old.config m
  counts_are = ap (λ (z : List (List Entry)). map length z) at_m.stands.0

  pub enter_is : enter_waits most (counts_at hash most old.config m) ≡ enter_waits most counts
  enter_is = ap (enter_waits most) (sym counts_are)

  pub fire_is : (k : ℕ) → fire_waits most k (counts_at hash most old.config m) ≡ fire_waits most k counts
  fire_is k = ap (fire_waits most k) (sym counts_are)

  pub heads_are : map (shown old.config) (last_head old.queues) ≡ map (shown old.config) (last_head (queues_at hash most old.config m))
  heads_are = ap (λ (z : List (List Entry)). map (shown old.config) (last_head z)) at_m.stands.0

  -- no packet of the trace is left
  pub all_entered : length trace ≤ passed.entered → (IsAt hash most old.config trace old passed (after_event hash most old.config m Event.Enter)) × (told hash most old.config m Event.Enter ≡ not_ready)
  all_entered over =
      let none : m.waiting ≡ [] = at_m.waiting ∙ waiting_none trace passed.entered over in
      rw none (record { config = at_m.config; stands = at_m.stands; waiting = sym (waiting_none trace passed.entered over); within = at_m.within; left = at_m.left }, refl)

  module _ (packet : List ℕ) (inside : passed.entered < length trace) (packet_is : packet ≡ words_at trace passed.entered) where
    next_is : m.waiting ≡ packet ∷ drop (passed.entered + 1) (packets_in trace)
    next_is = at_m.waiting ∙ waiting_next trace passed.entered inside ∙ ap (λ (w : List ℕ). w ∷ drop (passed.entered + 1) (packets_in trace)) (sym packet_is)

    pub enter_told_is : told hash most old.config m Event.Enter ≡ if_waits (enter_waits most counts)
    enter_told_is = ap (enter_told hash most old.config m) next_is ∙ ap if_waits enter_is

    -- the next one comes in
    pub came_in : enter_waits most counts ≡ None → Stands hash most (m.happened ++ happening.Enter packet ∷ []) new
        → IsAt hash most old.config trace new (record { entered = passed.entered + 1; left = passed.left }) (after_event hash most old.config m Event.Enter)
    came_in ready stands =
        rw (next_is, enter_is, ready) (record {
          config = same;
          stands = stands;
          waiting = refl;
          within = omega (arith, inside);
          left = at_m.left ∙ ap length (sym (enter_left hash most old.config m.happened packet));
        })

    -- it waits
    pub waits_still : (reason : NotReady) → enter_waits most counts ≡ Some reason → Stands hash most (m.happened ++ happening.Enter packet ∷ []) new
        → IsAt hash most old.config trace new passed (after_event hash most old.config m Event.Enter)
    waits_still reason waits stands =
        rw (next_is, enter_is, waits) (record {
          config = same;
          stands = stands;
          waiting = sym next_is ∙ at_m.waiting;
          within = at_m.within;
          left = at_m.left ∙ ap length (sym (enter_left hash most old.config m.happened packet));
        })

  -- a stage fires
  pub fired : (stage : ℕ) → Stands hash most (m.happened ++ happening.Fire (stage - 1) ∷ []) new → IsAt hash most old.config trace new passed (after_event hash most old.config m (Event.Fire stage))
  fired stage stands = record {
    config = same;
    stands = stands;
    waiting = at_m.waiting;
    within = at_m.within;
    left = at_m.left ∙ ap length (sym (fire_left hash most old.config m.happened (stage - 1)));
  }

  -- a packet leaves, or none
  pub left_last : (left' : ℕ) → left' ≡ length (left_by hash most old.config (m.happened ++ happening.Leave ∷ [])) → Stands hash most (m.happened ++ happening.Leave ∷ []) new
      → IsAt hash most old.config trace new (record { entered = passed.entered; left = left' }) (after_event hash most old.config m Event.Leave)
  left_last left' left_is stands = record { config = same; stands = stands; waiting = at_m.waiting; within = at_m.within; left = left_is }

-- All events.

module _ (hash : Hash) (most : ℕ) (p : PartsForm) where
  pub after-append : (m : Moment) (es fs : List Event) → after_events hash most p m (es ++ fs) ≡ after_events hash most p (after_events hash most p m es) fs
  after-append m [] fs = refl
  after-append m (e ∷ es) fs = after-append (after_event hash most p m e) es fs

  pub told-append : (m : Moment) (es fs : List Event) → told_by hash most p m (es ++ fs) ≡ told_by hash most p m es ++ told_by hash most p (after_events hash most p m es) fs
  told-append m [] fs = refl
  told-append m (e ∷ es) fs = ap (λ l. told hash most p m e ∷ l) (told-append (after_event hash most p m e) es fs)

  pub length-told : (m : Moment) (es : List Event) → length (told_by hash most p m es) ≡ length es
  length-told m [] = refl
  length-told m (e ∷ es) = ap suc (length-told (after_event hash most p m e) es)

told_lines-append : (n : ℕ) (xs ys : List Telling) → told_lines n (xs ++ ys) ≡ told_lines n xs ++ told_lines (n + length xs) ys
told_lines-append n [] ys = ap (λ m. told_lines m ys) (omega arith)
told_lines-append n (x ∷ xs) ys =
    let later : n + 1 + length xs ≡ n + suc (length xs) = omega arith in
    ap (λ l. telling_lines n x ++ l) (told_lines-append (n + 1) xs ys ∙ ap (λ m. told_lines (n + 1) xs ++ told_lines m ys) later)
    ∙ sym (append_assoc (telling_lines n x) (told_lines (n + 1) xs) (told_lines (n + length (x ∷ xs)) ys))

module _ (hash : Hash) (most : ℕ) (p : PartsForm) (first : Moment) (events : List Event) (k : ℕ) (e d : Event) (inside : k < length events) (e_is : e ≡ get_or events k d) where
  abbrev before : List Event
  before = take k events

  abbrev here : Moment
  here = after_events hash most p first before

  front : take (k + 1) events ≡ before ++ e ∷ []
  front = take_more events k d inside ∙ ap (λ (x : Event). before ++ x ∷ []) (sym e_is)

  -- the moment behind one event more
  pub moment_more : after_event hash most p here e ≡ after_events hash most p first (take (k + 1) events)
  moment_more = sym (ap (after_events hash most p first) front ∙ after-append hash most p first before (e ∷ []))

  abbrev bytes : ℕ → List ℕ
  bytes n = joined (told_lines 1 (told_by hash most p first (take n events)))

  bytes_more : bytes (k + 1) ≡ bytes k ++ joined (telling_lines (k + 1) (told hash most p here e))
  bytes_more =
      let short : 1 + length (told_by hash most p first before) ≡ k + 1 = omega (arith, inside, length-told hash most p first before, length-take k events) in
      ap (λ l. joined (told_lines 1 l)) (ap (told_by hash most p first) front ∙ told-append hash most p first before (e ∷ []))
      ∙ ap joined (told_lines-append 1 (told_by hash most p first before) (told hash most p here e ∷ []))
      ∙ joined-append (told_lines 1 (told_by hash most p first before)) (told_lines (1 + length (told_by hash most p first before)) (told hash most p here e ∷ []))
      ∙ ap (λ n. bytes k ++ joined (told_lines n (told hash most p here e ∷ []))) short
      ∙ ap (λ l. bytes k ++ joined l) (append-nil (telling_lines (k + 1) (told hash most p here e)))

  pub told_more : (h0 h1 h2 : Option (List ℕ)) → h1 ≡ appended h0 (bytes k) → h2 ≡ appended h1 (joined (telling_lines (k + 1) (told hash most p here e))) → h2 ≡ appended h0 (bytes (k + 1))
  told_more h0 h1 h2 first put = put_then h0 h1 h2 (bytes k) (joined (telling_lines (k + 1) (told hash most p here e))) first put ∙ ap (appended h0) (sym bytes_more)

  -- the lines of all events begin with those up to this one
  all_bytes : joined (told_lines 1 (told_by hash most p first events)) ≡ bytes (k + 1) ++ joined (told_lines (1 + length (told_by hash most p first (take (k + 1) events))) (told_by hash most p (after_events hash most p first (take (k + 1) events)) (drop (k + 1) events)))
  all_bytes =
      let one : List Telling = told_by hash most p first (take (k + 1) events) in
      let two : List Telling = told_by hash most p (after_events hash most p first (take (k + 1) events)) (drop (k + 1) events) in
      ap (λ l. joined (told_lines 1 (told_by hash most p first l))) (sym (take-append-drop (k + 1) events))
      ∙ ap (λ l. joined (told_lines 1 l)) (told-append hash most p first (take (k + 1) events) (drop (k + 1) events))
      ∙ ap joined (told_lines-append 1 one two)
      ∙ joined-append (told_lines 1 one) (told_lines (1 + length one) two)

  pub told_stop : (h0 h1 h2 : Option (List ℕ)) → h1 ≡ appended h0 (bytes k) → IsPart h1 h2 (joined (telling_lines (k + 1) (told hash most p here e))) → IsPart h0 h2 (joined (told_lines 1 (told_by hash most p first events)))
  told_stop h0 h1 h2 put part =
      subst (λ (l : List ℕ). IsPart h0 h2 l) (sym all_bytes)
      (part_before h0 h2 (bytes (k + 1)) (joined (told_lines (1 + length (told_by hash most p first (take (k + 1) events))) (told_by hash most p (after_events hash most p first (take (k + 1) events)) (drop (k + 1) events))))
      (subst (λ (l : List ℕ). IsPart h0 h2 l) (sym bytes_more) (part_after h0 h1 h2 (bytes k) (joined (telling_lines (k + 1) (told hash most p here e))) put part)))

-- a fact holds where something succeeds, too
pub and_ok : {T E : Type 0} {P : Type 0} (result : Result T E) → P → OnOk result P
and_ok (Ok x) p = p
and_ok (Err e) p = tt

-- The packets that are held.

count_is : (queues : List (List Entry)) (k : ℕ) → k < length queues → slice_index (map length queues) k ≡ length (get_or queues k [])
count_is [] k inside = absurd (omega (arith, inside))
count_is (q ∷ queues) zero inside = refl
count_is (q ∷ queues) (suc k) inside = count_is queues k (omega (arith, inside))

pub sum_more : (queues : List (List Entry)) (k n : ℕ) → k < length queues → n ≡ slice_index (map length queues) k → sum_by length (take k queues) + n ≡ sum_by length (take (k + 1) queues)
sum_more queues k n inside is = ap (λ (i : ℕ). sum_by length (take k queues) + i) (is ∙ count_is queues k inside) ∙ sym (sum_by_more length queues k [] inside)

pub few_more : (queue stages most held n : ℕ) → queue < stages + 1 → held ≤ queue * most → n ≤ most → (held + n ≤ (queue + 1) * most) × (held + n ≤ (stages + 1) * most)
few_more queue stages most held n inside few one =
    let here : held + n ≤ (queue + 1) * most = omega (arith, few, one) in
    let up : queue + 1 ≤ stages + 1 = omega (arith, inside) in
    (here, omega (arith, here, mul-le-mul_right most up))

pub each_few : (most : ℕ) (queues : List (List Entry)) (k n : ℕ) → k < length queues → n ≡ slice_index (map length queues) k → Every (λ queue. length queue ≤ most) queues → n ≤ most
each_few most [] k n inside is every = absurd (omega (arith, inside))
each_few most (q ∷ queues) zero n inside is every = let here : n ≡ length q = is in omega (arith, here, every.0)
each_few most (q ∷ queues) (suc k) n inside is every = each_few most queues k n (omega (arith, inside)) is every.1

-- A step, of a machine whose configuration is known.

pub step_at : (hash : Hash) (most : ℕ) (trace : List (ℕ × List ℕ)) (old new : ElasticForm) (passed passed' : Passed) (number : ℕ) (e : Event) (h h' : Option (List ℕ)) (result : Result (Unit {0}) SinkFault) (p : PartsForm)
    → old.config ≡ p → StepsTo hash most trace old new passed passed' number e h h' result → (m : Moment) → IsAt hash most p trace old passed m
    → OnOk result (IsAt hash most p trace new passed' (after_event hash most p m e)) × Puts h h' (joined (telling_lines number (told hash most p m e))) result
step_at hash most trace old new passed passed' number e h h' result p config_is steps m =
    subst (λ (q : PartsForm). IsAt hash most q trace old passed m → OnOk result (IsAt hash most q trace new passed' (after_event hash most q m e)) × Puts h h' (joined (telling_lines number (told hash most q m e))) result)
    config_is (steps m)

-- The end.

module _ (hash : Hash) (most : ℕ) (p : PartsForm) (trace : List (ℕ × List ℕ)) (events : List Event) where
  abbrev first : Moment
  first = first_moment (packets_in trace)

  abbrev last : Moment
  last = after_events hash most p first events

  pub begins : (m : ElasticForm) → m.config ≡ p → IsNew most m.config m → IsAt hash most p trace m (record { entered = 0; left = 0 }) first
  begins m config_is start = record { config = config_is; stands = start.stands hash; waiting = refl; within = omega arith; left = refl }

  module _ (elastic : ElasticForm) (passed : Passed) (at_last : IsAt hash most p trace elastic passed last) where
    end_is : end_lines elastic passed ≡ elastic_end hash most p (length (packets_in trace)) last
    end_is =
        let few : length last.waiting ≡ length trace - passed.entered = ap length at_last.waiting ∙ length-drop passed.entered (packets_in trace) ∙ ap (λ n. n - passed.entered) (length-map trace (λ q. q.1)) in
        let in_all : length (packets_in trace) ≡ length trace = length-map trace (λ q. q.1) in
        let entered_is : passed.entered ≡ length (packets_in trace) - length last.waiting = omega (arith, few, in_all, at_last.within) in
        let state_is : elastic.state ≡ (queued hash most p last.happened).state = at_last.stands.1 ∙ ap (λ (q : PartsForm). (queued hash most q last.happened).state) at_last.config in
        let queues_are : elastic.queues ≡ queues_at hash most p last = at_last.stands.0 ∙ ap (λ (q : PartsForm). (queued hash most q last.happened).queues) at_last.config in
        ap (λ (q : PartsForm). state_lines (array_names q) elastic.state ++ held_line (sum_by length elastic.queues) ∷ done_line passed.entered (Some passed.left) ∷ []) at_last.config
        ∙ ap (λ (a : Arrays). state_lines (array_names p) a ++ held_line (sum_by length elastic.queues) ∷ done_line passed.entered (Some passed.left) ∷ []) state_is
        ∙ ap (λ (z : List (List Entry)). state_lines (array_names p) (queued hash most p last.happened).state ++ held_line (sum_by length z) ∷ done_line passed.entered (Some passed.left) ∷ []) queues_are
        ∙ ap (λ (n : ℕ). state_lines (array_names p) (queued hash most p last.happened).state ++ held_line (sum_by length (queues_at hash most p last)) ∷ done_line n (Some passed.left) ∷ []) entered_is
        ∙ ap (λ (n : ℕ). state_lines (array_names p) (queued hash most p last.happened).state ++ held_line (sum_by length (queues_at hash most p last)) ∷ done_line (length (packets_in trace) - length last.waiting) (Some n) ∷ []) at_last.left

    abbrev heading : List ℕ
    heading = head_line (codes "event") p.fields

    abbrev turns : List ℕ
    turns = joined (told_lines 1 (told_by hash most p first events))

    pub report_put : (h0 h1 h2 h3 : Option (List ℕ)) (result : Result (Unit {0}) SinkFault) → h1 ≡ appended h0 heading → h2 ≡ appended h1 turns → Puts h2 h3 (joined (end_lines elastic passed)) result
        → Puts h0 h3 (elastic_report hash most p (packets_in trace) events) result
    report_put h0 h1 h2 h3 result head ran end =
        let tail : List ℕ = joined (elastic_end hash most p (length (packets_in trace)) last) in
        puts_after result h0 h1 h3 heading (turns ++ tail) head
        (puts_after result h1 h2 h3 turns tail ran (subst (λ (l : List (List ℕ)). Puts h2 h3 (joined l) result) end_is end))

  pub heading_stop : (h0 h1 : Option (List ℕ)) → IsPart h0 h1 (head_line (codes "event") p.fields) → IsPart h0 h1 (elastic_report hash most p (packets_in trace) events)
  heading_stop h0 h1 part =
      part_before h0 h1 (head_line (codes "event") p.fields) (joined (told_lines 1 (told_by hash most p first events)) ++ joined (elastic_end hash most p (length (packets_in trace)) last)) part

  pub events_stop : (h0 h1 h2 : Option (List ℕ)) → h1 ≡ appended h0 (head_line (codes "event") p.fields) → IsPart h1 h2 (joined (told_lines 1 (told_by hash most p first events)))
      → IsPart h0 h2 (elastic_report hash most p (packets_in trace) events)
  events_stop h0 h1 h2 head part =
      let turns : List ℕ = joined (told_lines 1 (told_by hash most p first events)) in
      let tail : List ℕ = joined (elastic_end hash most p (length (packets_in trace)) last) in
      part_after h0 h1 h2 (head_line (codes "event") p.fields) (turns ++ tail) head (part_before h1 h2 turns tail part)

-- The lines behind the events.

module _ (elastic : ElasticForm) (passed : Passed) where
  abbrev words : List ℕ
  words = joined (state_lines (array_names elastic.config) elastic.state)

  abbrev held : List ℕ
  held = held_line (sum_by length elastic.queues)

  abbrev done : List ℕ
  done = done_line passed.entered (Some passed.left)

  lines_are : joined (end_lines elastic passed) ≡ words ++ (held ++ done)
  lines_are =
      joined-append (state_lines (array_names elastic.config) elastic.state) (held ∷ done ∷ []) ∙ ap (λ l. words ++ (held ++ l)) (append-nil done)

  pub end_put : (h0 h1 h2 h3 : Option (List ℕ)) (result : Result (Unit {0}) SinkFault) → h1 ≡ appended h0 words → h2 ≡ appended h1 held → Puts h2 h3 done result → Puts h0 h3 (joined (end_lines elastic passed)) result
  end_put h0 h1 h2 h3 result first second third =
      subst (λ (l : List ℕ). Puts h0 h3 l result) (sym lines_are) (puts_after result h0 h1 h3 words (held ++ done) first (puts_after result h1 h2 h3 held done second third))

  pub words_stop : (h0 h1 : Option (List ℕ)) → IsPart h0 h1 words → IsPart h0 h1 (joined (end_lines elastic passed))
  words_stop h0 h1 part = subst (λ (l : List ℕ). IsPart h0 h1 l) (sym lines_are) (part_before h0 h1 words (held ++ done) part)

  pub held_stop : (h0 h1 h2 : Option (List ℕ)) → h1 ≡ appended h0 words → IsPart h1 h2 held → IsPart h0 h2 (joined (end_lines elastic passed))
  held_stop h0 h1 h2 first part = subst (λ (l : List ℕ). IsPart h0 h2 l) (sym lines_are) (part_after h0 h1 h2 words (held ++ done) first (part_before h1 h2 held done part))

-- The packets of the report of `elastic`, by the law of queues.
use Rattle.std.proofs.Common.{◌≡◌, ℕ, zero, suc, ◌+◌, ◌-◌, ◌<◌, ◌≤◌, not, length-append, Bool, true, false, List, [], ◌∷◌, ◌++◌, length, map, take, nat_eq, nat_lt, sum_by, refl, sym, ap, ◌∙◌, subst, append_assoc, append-nil, arith, Option, Some, None}
use Rattle.std.proofs.lemmas.Bool.{eq-eqb, ltb-false, ltb-true, ne_eqb}
use Rattle.std.proofs.lemmas.List.Sums.{sum_by-cons}
use Rattle.std.proofs.lemmas.List.{map-append}
use Rattle.std.proofs.lemmas.List.Elements.{filter_map-append}
use Rattle.std.specs.List.{AllByRecursion as Every}
use Rattle.dom_words.specs.State.{Hash, started}
use Rattle.pipeline_law.specs.Queues as happening
use Rattle.pipeline_law.specs.Queues.{Flow, Queues, flows, goes, happened, happens, heads_of, idle_queues, last_head, last_rest, rest_of, served, taken, takes}
use Rattle.trace_text.specs.declared.events.Event.{Event}
use Rattle.banzai_config.specs.Action.{Arrays, Entry, acts, alone}
use Rattle.banzai_config.specs.Parts.{PartsForm, StageForm}
use Rattle.banzai_machine.specs.Alone.{packets_of}
use Rattle.banzai_machine.specs.Own.{OwnArrays}
use Rattle.banzai_machine.specs.Pipe.{entered, shown}
use Rattle.elastic_machine.specs.Queued.{IsAloneInQueues, admitted, admitted_from, comes_in, left_by, let_in, placed, queued}
use Rattle.elastic_machine.specs.Ready.{enter_waits, fire_waits, full_waits}
use Rattle.elastic_machine.specs.declared.ready.NotReady.{NotReady}
use Rattle.elastic_machine.proofs.Alone.{alone_in_queues}
use Rattle.dom_report.specs.ElasticLaw.{IsOfQueues, packets_told}
use Rattle.dom_report.specs.ElasticReport.{Moment, Telling, after_enter, after_event, after_events, enter_told, first_moment, if_leaves, if_waits, leaves, not_ready, nothing, still_waiting, told, told_by}
use Rattle.dom_report.proofs.ElasticRuns.{enter_left, fire_left, last_event}

-- What is told.

none_told : (waits : Option NotReady) → packets_told (if_waits waits ∷ []) ≡ []
none_told None = refl
none_told (Some reason) = refl

told-cons : (t : Telling) (ts : List Telling) → packets_told (t ∷ ts) ≡ packets_told (t ∷ []) ++ packets_told ts
told-cons nothing ts = refl
told-cons not_ready ts = refl
told-cons (leaves words) ts = refl

module _ (p : PartsForm) where
  head_told : (q : List Entry) → packets_told (if_leaves (map (shown p) (heads_of q)) ∷ []) ≡ packets_of (map (shown p) (heads_of q))
  head_told [] = refl
  head_told (None ∷ q) = refl
  head_told (Some words ∷ q) = refl

  last_told : (qs : List (List Entry)) → packets_told (if_leaves (map (shown p) (last_head qs)) ∷ []) ≡ packets_of (map (shown p) (last_head qs))
  last_told [] = refl
  last_told (q ∷ []) = head_told q
  last_told (q ∷ next ∷ rest) = last_told (next ∷ rest)

module _ (hash : Hash) (most : ℕ) (p : PartsForm) where
  leave_left : (events : List (happening.Event (List ℕ)))
      → left_by hash most p (events ++ happening.Leave ∷ []) ≡ left_by hash most p events ++ packets_of (map (shown p) (last_head (queued hash most p events).queues))
  leave_left events =
      let w : Queues Arrays Entry = queued hash most p events in
      ap (λ (z : Queues Arrays Entry). packets_of (map (shown p) z.left)) (last_event hash most p events happening.Leave)
      ∙ ap (λ (z : List Entry). packets_of z) (map-append (shown p) w.left (last_head w.queues))
      ∙ filter_map-append (λ (entry : Entry). entry) (map (shown p) w.left) (map (shown p) (last_head w.queues))

  enter_step : (m : Moment) (waiting : List (List ℕ)) → left_by hash most p (after_enter hash most p m waiting).happened ≡ left_by hash most p m.happened ++ packets_told (enter_told hash most p m waiting ∷ [])
  enter_step m [] = sym (append-nil (left_by hash most p m.happened))
  enter_step m (packet ∷ packets) =
      let waits : Option NotReady = enter_waits most (map length (queued hash most p m.happened).queues) in
      enter_left hash most p m.happened packet ∙ sym (ap (λ l. left_by hash most p m.happened ++ l) (none_told waits) ∙ append-nil (left_by hash most p m.happened))

  left_step : (m : Moment) (e : Event) → left_by hash most p (after_event hash most p m e).happened ≡ left_by hash most p m.happened ++ packets_told (told hash most p m e ∷ [])
  left_step m Event.Enter = enter_step m m.waiting
  left_step m (Event.Fire stage) =
      let waits : Option NotReady = fire_waits most (stage - 1) (map length (queued hash most p m.happened).queues) in
      fire_left hash most p m.happened (stage - 1) ∙ sym (ap (λ l. left_by hash most p m.happened ++ l) (none_told waits) ∙ append-nil (left_by hash most p m.happened))
  left_step m Event.Leave = leave_left m.happened ∙ ap (λ l. left_by hash most p m.happened ++ l) (sym (last_told p (queued hash most p m.happened).queues))

  left_steps : (m : Moment) (events : List Event) → left_by hash most p (after_events hash most p m events).happened ≡ left_by hash most p m.happened ++ packets_told (told_by hash most p m events)
  left_steps m [] = sym (append-nil (left_by hash most p m.happened))
  left_steps m (e ∷ events) =
      let next : Moment = after_event hash most p m e in
      left_steps next events
      ∙ ap (λ l. l ++ packets_told (told_by hash most p next events)) (left_step m e)
      ∙ append_assoc (left_by hash most p m.happened) (packets_told (told hash most p m e ∷ [])) (packets_told (told_by hash most p next events))
      ∙ ap (λ l. left_by hash most p m.happened ++ l) (sym (told-cons (told hash most p m e) (told_by hash most p next events)))

-- The first queue never holds more than it may.

abbrev Few : ℕ → List (List Entry) → Type 0
Few most [] = ⊥
Few most (q ∷ qs) = length q ≤ most

module _ (hash : Hash) (most : ℕ) where
  few_goes : (room : Bool) (s : StageForm) (x : Entry) (q next : List Entry) (rest : List (List Entry)) (n : ℕ) (ns : List ℕ) (a : Arrays) → length (x ∷ q) ≤ most → Few most (goes (acts hash) room s x q next rest n ns a).queues
  few_goes true s x q next rest n ns a few = omega (arith, few)
  few_goes false s x q next rest n ns a few = few

  few_served : (s : StageForm) (q next : List Entry) (rest : List (List Entry)) (n : ℕ) (ns : List ℕ) (a : Arrays) → length q ≤ most → Few most (served (acts hash) most s q next rest n ns a).queues
  few_served s [] next rest n ns a few = few
  few_served s (x ∷ q) next rest n ns a few = few_goes (nat_lt (length next) most) s x q next rest n ns a few

  few_flows : (k : ℕ) (ss : List StageForm) (qs : List (List Entry)) (ns : List ℕ) (a : Arrays) → Few most qs → Few most (flows (acts hash) most k ss qs ns a).queues
  few_flows k [] qs ns a few = few
  few_flows k (s ∷ ss) [] ns a few = few
  few_flows k (s ∷ ss) (q ∷ []) ns a few = few
  few_flows k (s ∷ ss) (q ∷ next ∷ rest) [] a few = few
  few_flows zero (s ∷ ss) (q ∷ next ∷ rest) (n ∷ ns) a few = few_served s q next rest n ns a few
  few_flows (suc k) (s ∷ ss) (q ∷ next ∷ rest) (n ∷ ns) a few = few

  few_rest : (q : List Entry) → length q ≤ most → length (rest_of q) ≤ most
  few_rest [] few = few
  few_rest (x ∷ q) few = omega (arith, few)

  few_leave : (qs : List (List Entry)) → Few most qs → Few most (last_rest qs)
  few_leave [] few = few
  few_leave (q ∷ []) few = few_rest q few
  few_leave (q ∷ next ∷ rest) few = few

  few_taken : (p : PartsForm) (room : Bool) (x : Entry) (q : List Entry) (qs : List (List Entry)) (w : Queues Arrays Entry) → room ≡ nat_lt (length q) most → Few most w.queues
      → Few most (taken (acts hash) most p.stages room x q qs w).queues
  few_taken p false x q qs w room few = few
  few_taken p true x q qs w room few = let low : length q < most = ltb-true (length q) most (sym room) in omega (arith, low, length-append q (x ∷ []))

  few_takes : (p : PartsForm) (x : Entry) (qs : List (List Entry)) (w : Queues Arrays Entry) → Few most w.queues → Few most (takes (acts hash) most p.stages x qs w).queues
  few_takes p x [] w few = few
  few_takes p x (q ∷ qs) w few = few_taken p (nat_lt (length q) most) x q qs w refl few

  few_happens : (p : PartsForm) (e : happening.Event Entry) (w : Queues Arrays Entry) → Few most w.queues → Few most (happens (acts hash) most p.stages e w).queues
  few_happens p (happening.Enter x) w few = few_takes p x w.queues w few
  few_happens p (happening.Fire k) w few = few_flows k p.stages w.queues w.counts w.state few
  few_happens p happening.Leave w few = few_leave w.queues few

  few_happened : (p : PartsForm) (es : List (happening.Event Entry)) (w : Queues Arrays Entry) → Few most w.queues → Few most (happened (acts hash) most p.stages es w).queues
  few_happened p [] w few = few
  few_happened p (e ∷ es) w few = few_happened p es (happens (acts hash) most p.stages e w) (few_happens p e w few)

  few_queued : (p : PartsForm) (events : List (happening.Event (List ℕ))) → Few most (queued hash most p events).queues
  few_queued p events = few_happened p (map (placed p) events) (idle_queues p.stages (started p.arrays)) (omega arith)

-- What has come in.

eq_lt : (n most : ℕ) (b : Bool) → nat_lt n most ≡ b → n ≤ most → nat_eq n most ≡ not b
eq_lt n most true is few =
    let low : n < most = ltb-true n most is in
    ne_eqb n most (λ e. absurd (omega (arith, low, e)))
eq_lt n most false is few =
    let high : most ≤ n = ltb-false n most is in
    let same : n ≡ most = omega (arith, high, few) in
    eq-eqb n most same

by_room : (room full : Bool) (packet : List ℕ) (packets : List (List ℕ)) → full ≡ not room → let_in room packet ++ still_waiting (full_waits full 0) packet packets ≡ packet ∷ packets
by_room true false packet packets is = refl
by_room false true packet packets is = refl
by_room true true packet packets is = cc
by_room false false packet packets is = cc

in_or_waits : (most : ℕ) (qs : List (List Entry)) (packet : List ℕ) (packets : List (List ℕ)) → Few most qs
    → comes_in most (happening.Enter packet) qs ++ still_waiting (enter_waits most (map length qs)) packet packets ≡ packet ∷ packets
in_or_waits most [] packet packets few = absurd few
in_or_waits most (q ∷ qs) packet packets few = by_room (nat_lt (length q) most) (nat_eq (length q) most) packet packets (eq_lt (length q) most (nat_lt (length q) most) refl few)

module _ (hash : Hash) (most : ℕ) (p : PartsForm) where
  admitted-more : (es : List (happening.Event (List ℕ))) (w : Queues Arrays Entry) (e : happening.Event (List ℕ))
      → admitted_from hash most p (es ++ e ∷ []) w ≡ admitted_from hash most p es w ++ comes_in most e (happened (acts hash) most p.stages (map (placed p) es) w).queues
  admitted-more [] w e = append-nil (comes_in most e w.queues)
  admitted-more (x ∷ es) w e =
      let next : Queues Arrays Entry = happens (acts hash) most p.stages (placed p x) w in
      ap (λ l. comes_in most x w.queues ++ l) (admitted-more es next e)
      ∙ sym (append_assoc (comes_in most x w.queues) (admitted_from hash most p es next) (comes_in most e (happened (acts hash) most p.stages (map (placed p) es) next).queues))

  admitted_step : (es : List (happening.Event (List ℕ))) (e : happening.Event (List ℕ)) → admitted hash most p (es ++ e ∷ []) ≡ admitted hash most p es ++ comes_in most e (queued hash most p es).queues
  admitted_step es e = admitted-more es (idle_queues p.stages (started p.arrays)) e

  enter_in : (m : Moment) (waiting : List (List ℕ)) → admitted hash most p (after_enter hash most p m waiting).happened ++ (after_enter hash most p m waiting).waiting ≡ admitted hash most p m.happened ++ waiting
  enter_in m [] = refl
  enter_in m (packet ∷ packets) =
      let qs : List (List Entry) = (queued hash most p m.happened).queues in
      let still : List (List ℕ) = still_waiting (enter_waits most (map length qs)) packet packets in
      ap (λ l. l ++ still) (admitted_step m.happened (happening.Enter packet))
      ∙ append_assoc (admitted hash most p m.happened) (comes_in most (happening.Enter packet) qs) still
      ∙ ap (λ l. admitted hash most p m.happened ++ l) (in_or_waits most qs packet packets (few_queued hash most p m.happened))

  event_in : (m : Moment) (e : Event) → admitted hash most p (after_event hash most p m e).happened ++ (after_event hash most p m e).waiting ≡ admitted hash most p m.happened ++ m.waiting
  event_in m Event.Enter = enter_in m m.waiting
  event_in m (Event.Fire stage) = ap (λ l. l ++ m.waiting) (admitted_step m.happened (happening.Fire (stage - 1)) ∙ append-nil (admitted hash most p m.happened))
  event_in m Event.Leave = ap (λ l. l ++ m.waiting) (admitted_step m.happened happening.Leave ∙ append-nil (admitted hash most p m.happened))

  events_in : (m : Moment) (events : List Event)
      → admitted hash most p (after_events hash most p m events).happened ++ (after_events hash most p m events).waiting ≡ admitted hash most p m.happened ++ m.waiting
  events_in m [] = refl
  events_in m (e ∷ events) = events_in (after_event hash most p m e) events ∙ event_in m e

-- The law.

empty_all : (qs : List (List Entry)) → sum_by length qs ≡ 0 → Every (λ q. q ≡ []) qs
empty_all [] none = tt
empty_all ([] ∷ qs) none = (refl, empty_all qs (omega (arith, none, sum_by-cons length [] qs)))
empty_all ((x ∷ q) ∷ qs) none = absurd (omega (arith, none, sum_by-cons length (x ∷ q) qs))

pub is_of_queues : (hash : Hash) (most : ℕ) (p : PartsForm) (packets : List (List ℕ)) (events : List Event) → OwnArrays p.stages → IsOfQueues hash most p packets events
is_of_queues hash most p packets events owns =
    let first : Moment = first_moment packets in
    let asked : List (happening.Event (List ℕ)) = (after_events hash most p first events).happened in
    let told_is : packets_told (told_by hash most p first events) ≡ left_by hash most p asked = sym (left_steps hash most p first events) in
    let law = alone_in_queues hash most p owns asked in
    record {
      left = told_is;
      came_in = sym (events_in hash most p first events);
      in_order = subst (λ (l : List (List ℕ)). l ≡ take (length l) (alone hash p (admitted hash most p asked)).packets) (sym told_is) law.left;
      all_left = λ none. told_is ∙ law.all_left (empty_all (queued hash most p asked).queues none);
      all_arrays = λ none. law.all_arrays (empty_all (queued hash most p asked).queues none);
    }

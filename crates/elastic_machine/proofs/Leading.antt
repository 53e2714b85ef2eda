-- From what a move does to the queues to what an event does in the definitions.
use Rattle.std.proofs.Common.{◌≡◌, ℕ, zero, suc, ◌+◌, ◌*◌, ◌<◌, ◌≤◌, ◌≢◌, true, false, Bool, Option, Some, None, List, [], ◌∷◌, ◌++◌, length, map, set, get_or, slice_get, nat_lt, nat_eq, refl, sym, ◌∙◌, ap, subst, arith, take, drop, length-drop, replicate, append-nil}
use Rattle.std.specs.Prelude.{slice_index}
use Rattle.std.specs.List.{AllByRecursion as Every}
use Rattle.std.proofs.lemmas.Bool.{lt-ltb, le-ltb, eqb-true, eqb-false}
use Rattle.std.proofs.lemmas.List.{length-map, length-replicate, map-append}
use Rattle.std.proofs.lemmas.List.Elements.{filter_map-append}
use Rattle.std.proofs.lemmas.Option.{slice_get-get_or}
use Rattle.dom_words.specs.State.{Hash, started}
use Rattle.pipeline_law.specs.Queues.{Event, Enter, Fire, Leave, Queues, happens, happened, heads_of, idle_queues, last_head, last_rest}
use Rattle.pipeline_law.proofs.Happening.{length-happened}
use Rattle.atom_traits.specs.declared.tree.Port.{Port}
use Rattle.banzai_config.specs.Action.{Arrays, Entry, acts}
use Rattle.banzai_config.specs.Parts.{PartsForm, StageForm}
use Rattle.banzai_machine.specs.Alone.{packets_of}
use Rattle.banzai_machine.specs.Pipe.{shown}
use Rattle.banzai_machine.specs.Runnable.{empty_stage, stage_at}
use Rattle.elastic_machine.proofs.Happening.{flow_ready, flow_empty, flow_full, last_at, take_ready, take_full, happened-append}
use Rattle.elastic_machine.specs.declared.mark.Mark.{Mark}
use Rattle.elastic_machine.specs.declared.ready.NotReady.{NotReady}
use Rattle.elastic_machine.specs.Lanes.{MarkWithin, packets, put_last, queue_of, queues_in, queues_over}
use Rattle.elastic_machine.specs.Ready.{full_waits, empty_waits, fire_waits}
use Rattle.elastic_machine.specs.Moves.{Passes, Leaves}
use Rattle.elastic_machine.specs.Kept.{Leads}
use Rattle.elastic_machine.specs.Queued.{left_by, placed, queued}
use Rattle.banzai_machine.proofs.Rounds.{take_some, length-places}
use Rattle.elastic_machine.proofs.Lanes.{length-queue, length-queues}

-- numbers of packets
pub length_at : {X : Type 0} (qs : List (List X)) (j : ℕ) (q : List X) → slice_get qs j ≡ Some q → slice_index (map length qs) j ≡ length q
length_at [] j q e = cc
length_at (p ∷ qs) zero q e =
    let same : p ≡ q = cc in
    ap length same
length_at (p ∷ qs) (suc j) q e = length_at qs j q e

pub full_none : (b : Bool) (j : ℕ) → full_waits b j ≡ None → b ≡ false
full_none true j e = cc
full_none false j e = refl

pub empty_none : (b : Bool) (j : ℕ) (next : Option NotReady) → empty_waits b j next ≡ None → (b ≡ false) × (next ≡ None)
empty_none true j next e = cc
empty_none false j next e = (refl, e)

pub empty_some : (b : Bool) (j : ℕ) (r : NotReady) → empty_waits b j None ≡ Some r → b ≡ true
empty_some true j r e = refl
empty_some false j r e = cc

pub full_some : (b : Bool) (j : ℕ) (r : NotReady) → full_waits b j ≡ Some r → b ≡ true
full_some true j r e = refl
full_some false j r e = cc

none_there : {X : Type 0} (q : List X) → length q ≡ 0 → q ≡ []
none_there [] e = refl
none_there (x ∷ q) e = absurd (omega (arith, e))

-- a last queue without a packet lets nothing leave
pub leave_none : (k : ℕ) (qs : List (List Entry)) → length qs ≡ suc k → slice_index (map length qs) k ≡ 0 → last_head qs ≡ []
leave_none k qs size empty =
    let low : k < length qs = omega (arith, size) in
    let q : List Entry = get_or qs k [] in
    let at : slice_get qs k ≡ Some q = slice_get-get_or qs k [] low in
    let none : q ≡ [] = none_there q (sym (length_at qs k q at) ∙ empty) in
    (last_at k qs q size at).0 ∙ ap (λ (z : List Entry). heads_of z) none

module _ (hash : Hash) (most : ℕ) (c : PartsForm) where
  pub enter_leads : (x : Entry) (qs qs' : List (List Entry)) (a : Arrays) → 0 < length qs → slice_index (map length qs) 0 < most → qs' ≡ put_last 0 x qs → Leads hash most c (Enter x) qs a qs' a
  enter_leads x qs qs' a some room is w wq ws wc =
      let q : List Entry = get_or qs 0 [] in
      let at : slice_get qs 0 ≡ Some q = slice_get-get_or qs 0 [] some in
      let at' : slice_get w.queues 0 ≡ Some q = ap (λ (z : List (List Entry)). slice_get z 0) wq ∙ at in
      let room' : nat_lt (length q) most ≡ true = lt-ltb (length q) most (subst (λ (n : ℕ). n < most) (length_at qs 0 q at) room) in
      let r = take_ready (acts hash) most c.stages x q w.queues w at' room' in
      (r.0 ∙ ap (λ (z : List (List Entry)). set z 0 (q ++ x ∷ [])) wq ∙ sym is, r.1 ∙ ws)

  pub enter_stays : (x : Entry) (qs : List (List Entry)) (a : Arrays) → 0 < length qs → slice_index (map length qs) 0 ≡ most → Leads hash most c (Enter x) qs a qs a
  enter_stays x qs a some full w wq ws wc =
      let q : List Entry = get_or qs 0 [] in
      let at : slice_get qs 0 ≡ Some q = slice_get-get_or qs 0 [] some in
      let at' : slice_get w.queues 0 ≡ Some q = ap (λ (z : List (List Entry)). slice_get z 0) wq ∙ at in
      let long : most ≤ length q = omega (arith, full, length_at qs 0 q at) in
      let room' : nat_lt (length q) most ≡ false = le-ltb (length q) most long in
      let r = take_full (acts hash) most c.stages x q w.queues w at' room' in
      (ap (λ (z : Queues Arrays Entry). z.queues) r ∙ wq, ap (λ (z : Queues Arrays Entry). z.state) r ∙ ws)

  pub fire_leads : (k : ℕ) (s : StageForm) (qs qs' : List (List Entry)) (a a' : Arrays) → slice_get c.stages k ≡ Some s → k + 1 < length qs → slice_index (map length qs) (k + 1) < most
      → Passes hash s k qs qs' a a' → Leads hash most c (Fire k) qs a qs' a'
  fire_leads k s qs qs' a a' at_s both room p w wq ws wc =
      let next : List Entry = get_or qs (k + 1) [] in
      let up : k + 1 ≡ suc k = omega arith in
      let at_n : slice_get qs (k + 1) ≡ Some next = slice_get-get_or qs (k + 1) [] both in
      let at_n' : slice_get w.queues (suc k) ≡ Some next = ap (λ (i : ℕ). slice_get w.queues i) (sym up) ∙ ap (λ (z : List (List Entry)). slice_get z (k + 1)) wq ∙ at_n in
      let at_k' : slice_get w.queues k ≡ Some (p.head ∷ p.rest) = ap (λ (z : List (List Entry)). slice_get z k) wq ∙ p.at in
      let room' : nat_lt (length next) most ≡ true = lt-ltb (length next) most (subst (λ (n : ℕ). n < most) (length_at qs (k + 1) next at_n) room) in
      let r = flow_ready (acts hash) most k c.stages w.queues w.counts w.state s p.head p.rest next at_s at_k' at_n' wc room' in (
        r.0
            ∙ ap (λ (z : List (List Entry)). set (set z (suc k) (next ++ (acts hash s w.state p.head).1 ∷ [])) k p.rest) wq
            ∙ ap (λ (z : Arrays). set (set qs (suc k) (next ++ (acts hash s z p.head).1 ∷ [])) k p.rest) ws
            ∙ ap (λ (i : ℕ). set (set qs i (next ++ (acts hash s a p.head).1 ∷ [])) k p.rest) (sym up)
            ∙ sym p.queues,
        r.1 ∙ ap (λ (z : Arrays). (acts hash s z p.head).0) ws ∙ sym p.state,
      )

  pub fire_empty : (k : ℕ) (qs : List (List Entry)) (a : Arrays) → k < length qs → slice_index (map length qs) k ≡ 0 → Leads hash most c (Fire k) qs a qs a
  fire_empty k qs a low empty w wq ws wc =
      let q : List Entry = get_or qs k [] in
      let at : slice_get qs k ≡ Some q = slice_get-get_or qs k [] low in
      let none : q ≡ [] = none_there q (sym (length_at qs k q at) ∙ empty) in
      let at' : slice_get w.queues k ≡ Some [] = ap (λ (z : List (List Entry)). slice_get z k) wq ∙ at ∙ ap (λ (z : List Entry). Some z) none in
      let r = flow_empty (acts hash) most k c.stages w.queues w.counts w.state at' in
      (r.0 ∙ wq, r.1 ∙ ws)

  pub fire_full : (k : ℕ) (qs : List (List Entry)) (a : Arrays) → k + 1 < length qs → slice_index (map length qs) (k + 1) ≡ most → Leads hash most c (Fire k) qs a qs a
  fire_full k qs a both full w wq ws wc =
      let next : List Entry = get_or qs (k + 1) [] in
      let up : k + 1 ≡ suc k = omega arith in
      let at_n : slice_get qs (k + 1) ≡ Some next = slice_get-get_or qs (k + 1) [] both in
      let at_n' : slice_get w.queues (suc k) ≡ Some next = ap (λ (i : ℕ). slice_get w.queues i) (sym up) ∙ ap (λ (z : List (List Entry)). slice_get z (k + 1)) wq ∙ at_n in
      let long : most ≤ length next = omega (arith, full, length_at qs (k + 1) next at_n) in
      let r = flow_full (acts hash) most k c.stages w.queues w.counts w.state next at_n' (le-ltb (length next) most long) in
      (r.0 ∙ wq, r.1 ∙ ws)

  -- a stage that is not ready
  pub fire_stays : (k : ℕ) (qs : List (List Entry)) (a : Arrays) (r : NotReady) → k + 1 < length qs → fire_waits most k (map length qs) ≡ Some r → Leads hash most c (Fire k) qs a qs a
  fire_stays k qs a r both told = by_empty (nat_eq (slice_index (map length qs) k) 0) (nat_eq (slice_index (map length qs) (k + 1)) most) refl refl told
    where
      by_empty : (empty full : Bool) → nat_eq (slice_index (map length qs) k) 0 ≡ empty → nat_eq (slice_index (map length qs) (k + 1)) most ≡ full
          → empty_waits empty k (full_waits full (k + 1)) ≡ Some r → Leads hash most c (Fire k) qs a qs a
      by_empty true full e f is =
          let low : k < length qs = omega (arith, both) in
          fire_empty k qs a low (eqb-true (slice_index (map length qs) k) 0 e)
      by_empty false true e f is = fire_full k qs a both (eqb-true (slice_index (map length qs) (k + 1)) most f)
      by_empty false false e f is = cc

  pub leave_leads : (k : ℕ) (ports : List Port) (qs qs' : List (List Entry)) (a : Arrays) (leaving : List ℕ) → length qs ≡ suc k → Leaves ports k qs qs' leaving → Leads hash most c Leave qs a qs' a
  leave_leads k ports qs qs' a leaving size l w wq ws wc =
      (ap (λ (z : List (List Entry)). last_rest z) wq ∙ (last_at k qs (Some l.head ∷ l.rest) size l.at).1 ∙ sym l.queues, ws)

  pub leave_empty : (k : ℕ) (qs : List (List Entry)) (a : Arrays) → length qs ≡ suc k → slice_index (map length qs) k ≡ 0 → Leads hash most c Leave qs a qs a
  leave_empty k qs a size empty w wq ws wc =
      let low : k < length qs = omega (arith, size) in
      let q : List Entry = get_or qs k [] in
      let at : slice_get qs k ≡ Some q = slice_get-get_or qs k [] low in
      let none : q ≡ [] = none_there q (sym (length_at qs k q at) ∙ empty) in
      let at' : slice_get qs k ≡ Some [] = at ∙ ap (λ (z : List Entry). Some z) none in
      (ap (λ (z : List (List Entry)). last_rest z) wq ∙ (last_at k qs [] size at').1 ∙ same qs k at', ws)
    where
      same : (ps : List (List Entry)) (j : ℕ) → slice_get ps j ≡ Some [] → set ps j [] ≡ ps
      same [] j e = refl
      same (p ∷ ps) zero e =
          let is : p ≡ [] = cc in
          ap (λ (z : List Entry). z ∷ ps) (sym is)
      same (p ∷ ps) (suc j) e = ap (λ (z : List (List Entry)). p ∷ z) (same ps j e)

  last_event : (events : List (Event (List ℕ))) (e : Event (List ℕ)) → queued hash most c (events ++ e ∷ []) ≡ happens (acts hash) most c.stages (placed c e) (queued hash most c events)
  last_event events e =
      ap (λ (z : List (Event Entry)). happened (acts hash) most c.stages z (idle_queues c.stages (started c.arrays))) (map-append (placed c) events (e ∷ []))
      ∙ happened-append (acts hash) most c.stages (map (placed c) events) (placed c e ∷ []) (idle_queues c.stages (started c.arrays))

  pub stands_step : (e : Event (List ℕ)) (qs qs' : List (List Entry)) (a a' : Arrays) → Leads hash most c (placed c e) qs a qs' a' → (events : List (Event (List ℕ)))
      → (qs ≡ (queued hash most c events).queues) × (a ≡ (queued hash most c events).state)
      → (qs' ≡ (queued hash most c (events ++ e ∷ [])).queues) × (a' ≡ (queued hash most c (events ++ e ∷ [])).state)
  stands_step e qs qs' a a' leads events is =
      let w : Queues Arrays Entry = queued hash most c events in
      let counts : length w.counts ≡ length c.stages = length-happened (acts hash) most c.stages (map (placed c) events) (idle_queues c.stages (started c.arrays)) ∙ length-map c.stages (λ s. 0) in
      let r = leads w (sym is.0) (sym is.1) counts in
      (sym (ap (λ (z : Queues Arrays Entry). z.queues) (last_event events e) ∙ r.0), sym (ap (λ (z : Queues Arrays Entry). z.state) (last_event events e) ∙ r.1))

  left_more : (events : List (Event (List ℕ)))
      → left_by hash most c (events ++ Leave ∷ []) ≡ left_by hash most c events ++ packets_of (map (shown c) (last_head (queued hash most c events).queues))
  left_more events =
      let w : Queues Arrays Entry = queued hash most c events in
      ap (λ (z : Queues Arrays Entry). packets_of (map (shown c) z.left)) (last_event events Leave)
      ∙ ap (λ (z : List Entry). packets_of z) (map-append (shown c) w.left (last_head w.queues))
      ∙ filter_map-append (λ (entry : Entry). entry) (map (shown c) w.left) (map (shown c) (last_head w.queues))

  -- what leaves goes to the end of what has left
  pub left_step : (events : List (Event (List ℕ))) (qs : List (List Entry)) (leaving : List ℕ) → qs ≡ (queued hash most c events).queues → map (shown c) (last_head qs) ≡ Some leaving ∷ []
      → left_by hash most c (events ++ Leave ∷ []) ≡ left_by hash most c events ++ leaving ∷ []
  left_step events qs leaving is shows =
      left_more events
      ∙ ap (λ (z : List (List Entry)). left_by hash most c events ++ packets_of (map (shown c) (last_head z))) (sym is)
      ∙ ap (λ (z : List Entry). left_by hash most c events ++ packets_of z) shows

  -- where nothing leaves, that stays as it is
  pub left_stays : (events : List (Event (List ℕ))) (qs : List (List Entry)) → qs ≡ (queued hash most c events).queues → last_head qs ≡ []
      → left_by hash most c (events ++ Leave ∷ []) ≡ left_by hash most c events
  left_stays events qs is none =
      left_more events
      ∙ ap (λ (z : List (List Entry)). left_by hash most c events ++ packets_of (map (shown c) (last_head z))) (sym is)
      ∙ ap (λ (z : List Entry). left_by hash most c events ++ packets_of (map (shown c) z)) none
      ∙ append-nil (left_by hash most c events)

-- a stage that is there
pub fire_some : (c : PartsForm) (k : ℕ) → k < length c.stages → slice_get c.stages k ≡ Some (stage_at c.stages k)
fire_some c k low = slice_get-get_or c.stages k empty_stage low

-- the numbers of packets are those of the marks
module _ (w cap : ℕ) where
  counts_over : (ms : List Mark) (all : List Entry) → length all ≡ length ms * cap → Every (λ m. MarkWithin cap m) ms → map length (queues_over cap ms all) ≡ map (λ m. m.count) ms
  counts_over [] all size within = refl
  counts_over (m ∷ ms) all size within =
      let long : cap ≤ length all = omega (arith, size) in
      let rest : length (drop cap all) ≡ length ms * cap = omega (arith, size, length-drop cap all) in
      ap (λ (n : ℕ). n ∷ map length (queues_over cap ms (drop cap all))) (length-queue cap m (take cap all) (take_some cap all long) within.0)
      ∙ ap (λ (z : List ℕ). m.count ∷ z) (counts_over ms (drop cap all) rest within.1)

  few_over : (ms : List Mark) (all : List Entry) → length all ≡ length ms * cap → Every (λ m. MarkWithin cap m) ms → Every (λ q. length q ≤ cap) (queues_over cap ms all)
  few_over [] all size within = tt
  few_over (m ∷ ms) all size within =
      let long : cap ≤ length all = omega (arith, size) in
      let rest : length (drop cap all) ≡ length ms * cap = omega (arith, size, length-drop cap all) in
      let here : length (queue_of m (take cap all)) ≡ m.count = length-queue cap m (take cap all) (take_some cap all long) within.0 in
      (omega (arith, here, within.0.count), few_over ms (drop cap all) rest within.1)

  -- no queue holds more than it may
  pub few_in : (ms : List Mark) (ws : List ℕ) → Every (λ m. MarkWithin cap m) ms → Every (λ q. length q ≤ cap) (queues_in w cap ms ws)
  few_in ms ws within =
      few_over ms (packets w (length ms * cap) ws) (length-places w (replicate (length ms * cap) true) ws ∙ length-replicate (length ms * cap) true) within

  pub counts_in : (ms : List Mark) (ws : List ℕ) → Every (λ m. MarkWithin cap m) ms → map length (queues_in w cap ms ws) ≡ map (λ m. m.count) ms
  counts_in ms ws within =
      counts_over ms (packets w (length ms * cap) ws) (length-places w (replicate (length ms * cap) true) ws ∙ length-replicate (length ms * cap) true) within

  pub length-queues_in : (ms : List Mark) (ws : List ℕ) → length (queues_in w cap ms ws) ≡ length ms
  length-queues_in ms ws = length-queues cap ms (packets w (length ms * cap) ws)

-- a queue that does not hold as many as it may has room
pub free_at : (cap : ℕ) (ms : List Mark) (j : ℕ) → j < length ms → Every (λ m. MarkWithin cap m) ms → nat_eq (slice_index (map (λ m. m.count) ms) j) cap ≡ false → slice_index (map (λ m. m.count) ms) j < cap
free_at cap [] j h within e = absurd (omega (arith, h))
free_at cap (m ∷ ms) zero h within e =
    let apart : m.count ≢ cap = eqb-false m.count cap e in
    omega (arith, apart, within.0.count)
free_at cap (m ∷ ms) (suc j) h within e = free_at cap ms j (omega (arith, h)) within.1 e

pub fire_room : (cap k : ℕ) (ms : List Mark) → k + 1 < length ms → Every (λ m. MarkWithin cap m) ms → fire_waits cap k (map (λ m. m.count) ms) ≡ None → slice_index (map (λ m. m.count) ms) (k + 1) < cap
fire_room cap k ms both within told =
    let ns : List ℕ = map (λ m. m.count) ms in
    let some = empty_none (nat_eq (slice_index ns k) 0) k (full_waits (nat_eq (slice_index ns (k + 1)) cap) (k + 1)) told in
    free_at cap ms (k + 1) both within (full_none (nat_eq (slice_index ns (k + 1)) cap) (k + 1) some.1)

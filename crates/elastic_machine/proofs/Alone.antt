-- The law of queues, at the events of an Elastic.
use Rattle.std.proofs.Common.{◌≡◌, ℕ, zero, suc, Bool, true, false, Some, List, [], ◌∷◌, ◌++◌, length, map, take, nat_lt, refl, sym, ◌∙◌, ap, append_assoc, append-nil}
use Rattle.std.proofs.lemmas.List.{map-append}
use Rattle.dom_words.specs.State.{Hash, started}
use Rattle.pipeline_law.specs.Queues.{Event, Enter, Fire, Leave, Queues, taken, takes, happens, happened, idle_queues}
use Rattle.pipeline_law.specs.Stage.{items_alone, state_alone}
use Rattle.pipeline_law.proofs.Theorems.{in_queues, when_empty, whole_when_empty}
use Rattle.banzai_config.specs.Action.{Arrays, Entry, acts, alone, outcome_of}
use Rattle.banzai_config.specs.Parts.{PartsForm}
use Rattle.banzai_machine.specs.Alone.{entries_alone, packets_of}
use Rattle.banzai_machine.specs.Own.{OwnArrays}
use Rattle.banzai_machine.specs.Pipe.{entered, own, pipeline, shown}
use Rattle.banzai_machine.proofs.Apart.{apart, own-agree}
use Rattle.banzai_machine.proofs.Shares.{arrays_shared, views}
use Rattle.banzai_machine.proofs.Through.{items_are, packets_are, state_is}
use Rattle.elastic_machine.specs.Queued.{IsAloneInQueues, admitted, admitted_from, comes_in, left_by, let_in, placed, queued}

take_map : {X Y : Type 0} (f : X → Y) (n : ℕ) (xs : List X) → take n (map f xs) ≡ map f (take n xs)
take_map f zero xs = refl
take_map f (suc n) [] = refl
take_map f (suc n) (x ∷ xs) = ap (λ z. f x ∷ z) (take_map f n xs)

-- a front of a list is as long as it is
front_of : {X : Type 0} (n : ℕ) (ys xs : List X) → ys ≡ take n xs → ys ≡ take (length ys) xs
front_of {X} n ys xs is = is ∙ own_length n xs ∙ ap (λ (z : List X). take (length z) xs) (sym is)
  where
    own_length : (n : ℕ) (xs : List X) → take n xs ≡ take (length (take n xs)) xs
    own_length zero xs = refl
    own_length (suc n) [] = refl
    own_length (suc n) (x ∷ xs) = ap (λ (z : List X). x ∷ z) (own_length n xs)

-- packets as entries of which none is idle
abbrev as_entries : List (List ℕ) → List Entry
as_entries packets = map (λ packet. Some packet) packets

packets_all : (packets : List (List ℕ)) → packets_of (as_entries packets) ≡ packets
packets_all [] = refl
packets_all (x ∷ xs) = ap (λ (z : List (List ℕ)). x ∷ z) (packets_all xs)

module _ (hash : Hash) (p : PartsForm) where
  -- none of them is idle when it leaves
  all_entries : (arrays : Arrays) (packets : List (List ℕ)) → as_entries (packets_of (entries_alone hash p arrays (as_entries packets))) ≡ entries_alone hash p arrays (as_entries packets)
  all_entries arrays [] = refl
  all_entries arrays (x ∷ xs) = ap (λ (z : List Entry). Some (outcome_of hash p arrays x).packet ∷ z) (all_entries (outcome_of hash p arrays x).arrays xs)

  -- what comes out of all stages and the outputs, packet by packet
  out_of_stages : (packets : List (List ℕ)) → map (shown p) (items_alone (acts hash) p.stages (started p.arrays) (map (entered p) (as_entries packets))) ≡ as_entries (alone hash p packets).packets
  out_of_stages packets =
      items_are hash p (started p.arrays) (as_entries packets)
      ∙ sym (all_entries (started p.arrays) packets)
      ∙ ap (λ (z : List (List ℕ)). as_entries z) (packets_are hash p (started p.arrays) (as_entries packets))
      ∙ ap (λ (z : List (List ℕ)). as_entries (alone hash p z).packets) (packets_all packets)

  -- and the arrays behind them
  arrays_behind_all : (packets : List (List ℕ)) → state_alone (acts hash) p.stages (started p.arrays) (map (entered p) (as_entries packets)) ≡ (alone hash p packets).arrays
  arrays_behind_all packets =
      state_is hash p (started p.arrays) (as_entries packets) ∙ ap (λ (z : List (List ℕ)). (alone hash p z).arrays) (packets_all packets)

module _ (hash : Hash) (most : ℕ) (p : PartsForm) where
  taken_in : (room : Bool) (packet : List ℕ) (q : List Entry) (qs : List (List Entry)) (w : Queues Arrays Entry)
      → (taken (acts hash) most p.stages room (entered p (Some packet)) q qs w).entered ≡ w.entered ++ map (entered p) (as_entries (let_in room packet))
  taken_in true packet q qs w = refl
  taken_in false packet q qs w = sym (append-nil w.entered)

  takes_in : (packet : List ℕ) (qs : List (List Entry)) (w : Queues Arrays Entry)
      → (takes (acts hash) most p.stages (entered p (Some packet)) qs w).entered ≡ w.entered ++ map (entered p) (as_entries (comes_in most (Enter packet) qs))
  takes_in packet [] w = sym (append-nil w.entered)
  takes_in packet (q ∷ qs) w = taken_in (nat_lt (length q) most) packet q qs w

  comes : (e : Event (List ℕ)) (w : Queues Arrays Entry) → (happens (acts hash) most p.stages (placed p e) w).entered ≡ w.entered ++ map (entered p) (as_entries (comes_in most e w.queues))
  comes (Enter packet) w = takes_in packet w.queues w
  comes (Fire k) w = sym (append-nil w.entered)
  comes Leave w = sym (append-nil w.entered)

  came_from : (es : List (Event (List ℕ))) (w : Queues Arrays Entry)
      → (happened (acts hash) most p.stages (map (placed p) es) w).entered ≡ w.entered ++ map (entered p) (as_entries (admitted_from hash most p es w))
  came_from [] w = sym (append-nil w.entered)
  came_from (e ∷ es) w =
      let next : Queues Arrays Entry = happens (acts hash) most p.stages (placed p e) w in
      let here : List (List ℕ) = comes_in most e w.queues in
      let later : List (List ℕ) = admitted_from hash most p es next in
      came_from es next
      ∙ ap (λ (z : List Entry). z ++ map (entered p) (as_entries later)) (comes e w)
      ∙ append_assoc w.entered (map (entered p) (as_entries here)) (map (entered p) (as_entries later))
      ∙ ap (λ (z : List Entry). w.entered ++ z)
      (sym (ap (λ (z : List Entry). map (entered p) z) (map-append (λ (packet : List ℕ). Some packet) here later) ∙ map-append (entered p) (as_entries here) (as_entries later)))

  -- the packets that have come in are those that entered the first queue
  came : (events : List (Event (List ℕ))) → (queued hash most p events).entered ≡ map (entered p) (as_entries (admitted hash most p events))
  came events = came_from events (idle_queues p.stages (started p.arrays))

  came_first : (events : List (Event (List ℕ))) (n : ℕ) → take n (queued hash most p events).entered ≡ map (entered p) (as_entries (take n (admitted hash most p events)))
  came_first events n =
      ap (λ (z : List Entry). take n z) (came events)
      ∙ take_map (entered p) n (as_entries (admitted hash most p events))
      ∙ ap (λ (z : List Entry). map (entered p) z) (take_map (λ (packet : List ℕ). Some packet) n (admitted hash most p events))

  left_is : OwnArrays p.stages → (events : List (Event (List ℕ)))
      → left_by hash most p events ≡ take (length (left_by hash most p events)) (alone hash p (admitted hash most p events)).packets
  left_is owns events =
      let w : Queues Arrays Entry = queued hash most p events in
      let n : ℕ = length w.left in
      let packets : List (List ℕ) = (alone hash p (admitted hash most p events)).packets in
      let law = in_queues (pipeline hash p) most (started p.arrays) (map (placed p) events) (apart hash p.stages owns) in
      let shows : map (shown p) w.left ≡ as_entries (take n packets) =
      ap (λ (z : List Entry). map (shown p) z) law.left_first
      ∙ sym (take_map (shown p) n (items_alone (acts hash) p.stages (started p.arrays) w.entered))
      ∙ ap (λ (z : List Entry). take n (map (shown p) (items_alone (acts hash) p.stages (started p.arrays) z))) (came events)
      ∙ ap (λ (z : List Entry). take n z) (out_of_stages hash p (admitted hash most p events))
      ∙ take_map (λ (packet : List ℕ). Some packet) n packets in
      front_of n (left_by hash most p events) packets (ap (λ (z : List Entry). packets_of z) shows ∙ packets_all (take n packets))

  pub alone_in_queues : OwnArrays p.stages → (events : List (Event (List ℕ))) → IsAloneInQueues hash most p events
  alone_in_queues owns events =
      let w : Queues Arrays Entry = queued hash most p events in
      let start : Arrays = started p.arrays in
      let law = in_queues (pipeline hash p) most start (map (placed p) events) (apart hash p.stages owns) in
      record {
        left = left_is owns events;
        arrays = λ k n stage at count.
            own-agree hash stage w.state (alone hash p (take n (admitted hash most p events))).arrays
            (law.parts k n stage at count
            ∙ ap (λ (z : List Entry). own stage (state_alone (acts hash) p.stages start z)) (came_first events n)
            ∙ ap (λ (z : Arrays). own stage z) (arrays_behind_all hash p (take n (admitted hash most p events))));
        all_left = λ none.
            ap (λ (z : List Entry). packets_of (map (shown p) z)) (when_empty (pipeline hash p) most start (map (placed p) events) (apart hash p.stages owns) none).all_left
            ∙ ap (λ (z : List Entry). packets_of (map (shown p) (items_alone (acts hash) p.stages start z))) (came events)
            ∙ ap (λ (z : List Entry). packets_of z) (out_of_stages hash p (admitted hash most p events))
            ∙ packets_all (alone hash p (admitted hash most p events)).packets;
        all_arrays = λ none.
            whole_when_empty (pipeline hash p) most start views (map (placed p) events) (apart hash p.stages owns) (arrays_shared hash p) none
            ∙ ap (λ (z : List Entry). state_alone (acts hash) p.stages start z) (came events)
            ∙ arrays_behind_all hash p (admitted hash most p events);
      }

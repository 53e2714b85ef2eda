-- The laws, each in the words of its clause.
use Rattle.std.proofs.Common.{◌≡◌, ◌<◌, ◌≤◌, ◌⊎◌, inl, inr, ℕ, zero, suc, Bool, Some, List, [], ◌∷◌, ◌++◌, sym, ◌∙◌, ap as eq_of, subst, length, take, filter, slice_get, get_or, arith}
use Rattle.std.proofs.Math.Seq.{take-append_seam}
use Rattle.std.proofs.lemmas.List.{length-map}
use Rattle.std.proofs.lemmas.List.Elements.{filter-append}
use Rattle.std.proofs.lemmas.Option.{slice_get_within, get_or_from_slice_get}
use Rattle.std.specs.List.{AllByRecursion}
use Rattle.pipeline_law.specs.Stage.{AreApart, items_alone, state_alone}
use Rattle.pipeline_law.specs.Pipeline.{IsFeedForward, Midst, Pipeline, Row, acted, drain, drained, moved_on, moved_out, row_after}
use Rattle.pipeline_law.specs.Order.{AllCommute, DoesCycle, IsCycle, IsOrder, copied, runs}
use Rattle.pipeline_law.specs.Queues.{AreEmpty, Event, IsSerialInQueues, IsSerialWhenEmpty, Queues, idle_queues, queues_after}
use Rattle.pipeline_law.specs.Serial.{IsAloneInFlight, IsLeftAlone, IsSerial, IsSerialOnPackets, IsSerialSoFar, IsShared, IsUnreached, Owns, TellsPackets}
use Rattle.pipeline_law.proofs.Drained.{at_each_cycle, at_first, drained_left, drained_own, left_so_far}
use Rattle.pipeline_law.proofs.Happening.{keep_happened, length-happened}
use Rattle.pipeline_law.proofs.Orders.{runs-order}
use Rattle.pipeline_law.proofs.Packets.{filter_idle, packets_alone, state_packets}
use Rattle.pipeline_law.proofs.Shared.{view-alone, view-piped}
use Rattle.pipeline_law.proofs.Waiting.{all_left, items_alone-append, left_first, stage_own}

module _ {A X S V : Type 0} (p : Pipeline A X S V) (start : A) where
  parts_are : (a b : A) → ((k : ℕ) (s : S) → k < length p.stages → p.own (get_or p.stages k s) a ≡ p.own (get_or p.stages k s) b)
      → (k : ℕ) (s : S) → slice_get p.stages k ≡ Some s → p.own s a ≡ p.own s b
  parts_are a b each k s at =
      let is : get_or p.stages k s ≡ s = get_or_from_slice_get p.stages k s s at in
      let both : p.own (get_or p.stages k s) a ≡ p.own (get_or p.stages k s) b = each k s (slice_get_within p.stages k s at) in
      rw is at both

  pub serial : (entries : List X) → IsFeedForward p → IsSerial p start entries
  serial entries law = record {
    items = drained_left p.run p.own p.clock p.stages start p.idle entries law;
    parts = parts_are (row_after p start (drained p entries)).state (state_alone p.run p.stages start entries)
        (λ k s few. drained_own p.run p.own p.clock p.stages start p.idle entries k s law few);
  }

  pub serial_so_far : (entries : List X) → IsFeedForward p → IsSerialSoFar p start entries
  serial_so_far entries law = left_so_far p.run p.own p.clock p.stages start p.idle entries law

  -- some stage of a list that has one
  a_stage : (n : ℕ) (ss : List S) → n < length ss → S
  a_stage n [] few = absurd (omega arith)
  a_stage n (s ∷ ss) few = s

  pub alone_in_flight : (before : List X) (item : X) (after : List X) → IsFeedForward p → length after < length p.stages → IsAloneInFlight p start before item after
  alone_in_flight before item after law few = record {
    register = λ d. (at_each_cycle p.run p.own p.clock p.stages start p.idle before after item d (a_stage (length after) p.stages few) law few).0;
    part = λ s at.
        let is : get_or p.stages (length after) s ≡ s = get_or_from_slice_get p.stages (length after) s s at in
        rw is at (at_each_cycle p.run p.own p.clock p.stages start p.idle before after item item s law few).1;
  }

  pub unreached : (entries : List X) (k : ℕ) → IsFeedForward p → length entries ≤ k → k < length p.stages → IsUnreached p start entries k
  unreached entries k law late few = record {
    register = λ d. (at_first p.run p.own p.clock p.stages start p.idle entries k d (a_stage k p.stages few) law late few).0;
    part = λ s at.
        let is : get_or p.stages k s ≡ s = get_or_from_slice_get p.stages k s s at in
        rw is at (at_first p.run p.own p.clock p.stages start p.idle entries k p.idle s law late few).1;
  }

  pub serial_on_packets : (is_packet : X → Bool) (entries : List X) → IsFeedForward p → TellsPackets p is_packet → IsSerialOnPackets p start is_packet entries
  serial_on_packets is_packet entries law tells =
      let whole = serial entries law in
      record {
        packets =
            eq_of (λ (z : List X). filter is_packet z) whole.items
            ∙ filter-append is_packet (drain p.stages p.idle) (items_alone p.run p.stages start entries)
            ∙ eq_of (λ (z : List X). z ++ filter is_packet (items_alone p.run p.stages start entries)) (filter_idle p.run p.idle is_packet (length p.stages) tells.idle)
            ∙ packets_alone p.run p.idle is_packet p.stages tells.others tells.kept law.skips start entries;
        state = state_packets p.run p.idle is_packet p.stages tells.others tells.kept law.skips start entries;
      }

module _ {A X S V W : Type 0} (p : Pipeline A X S V) (start : A) (views : ℕ → A → W) where
  pub whole_state : (entries : List X) → IsFeedForward p → IsShared p views → (row_after p start (drained p entries)).state ≡ state_alone p.run p.stages start entries
  whole_state entries law shared = shared.whole (row_after p start (drained p entries)).state (state_alone p.run p.stages start entries) (λ i. same i (shared.owners i))
    where
      same : (i : ℕ) → ((k : ℕ) × (s : S) × (slice_get p.stages k ≡ Some s) × Owns p s (views i)) ⊎ IsLeftAlone p (views i)
          → views i (row_after p start (drained p entries)).state ≡ views i (state_alone p.run p.stages start entries)
      same i (inl (k, s, at, owns)) =
          let whole = serial p start entries law in
          owns (row_after p start (drained p entries)).state (state_alone p.run p.stages start entries) (whole.parts k s at)
      same i (inr left) =
          view-piped p.run (views i) p.clock p.stages (record { registers = drain p.stages p.idle; state = start }) (drained p entries) left.by_clock
          ∙ sym (view-alone p.run (views i) p.stages start entries left.by_stages)

module _ {A X S V F : Type 0} (p : Pipeline A X S V) (step : F → Midst A X → Midst A X) where
  pub any_cycle : (all order : List F) (row : Row A X) (entry : X) → AllCommute step all → DoesCycle p step all row → IsOrder order all → IsCycle p step order row entry
  any_cycle all order row entry commute does is =
      let same : runs step order (copied row) ≡ acted p.run p.clock p.stages row = runs-order step order all (copied row) commute is ∙ does in
      record {
        row_is = eq_of (λ (m : Midst A X). moved_on p.stages m entry) same;
        leaves = eq_of (λ (m : Midst A X). moved_out p.stages m entry) same;
      }

module _ {A X S V : Type 0} (p : Pipeline A X S V) (most : ℕ) (start : A) where
  front_of : (left gone rest entered : List X) → entered ≡ gone ++ rest → left ≡ items_alone p.run p.stages start gone
      → left ≡ take (length left) (items_alone p.run p.stages start entered)
  front_of left gone rest entered split is =
      let more : items_alone p.run p.stages start (gone ++ rest) ≡ items_alone p.run p.stages start gone ++ items_alone p.run p.stages (state_alone p.run p.stages start gone) rest = items_alone-append p.run p.own p.stages start most start gone rest in
      let all : items_alone p.run p.stages start entered ≡ left ++ items_alone p.run p.stages (state_alone p.run p.stages start gone) rest =
      eq_of (λ (z : List X). items_alone p.run p.stages start z) split ∙ more ∙ eq_of (λ (z : List X). z ++ items_alone p.run p.stages (state_alone p.run p.stages start gone) rest) (sym is) in
      sym (eq_of (λ (z : List X). take (length left) z) all ∙ take-append_seam left (items_alone p.run p.stages (state_alone p.run p.stages start gone) rest))

  pub in_queues : (events : List (Event X)) → AreApart p.run p.own p.stages → IsSerialInQueues p start (queues_after p most start events)
  in_queues events apart =
      let w : Queues A X = queues_after p most start events in
      let first = left_first p.run p.own p.stages start most events apart in
      record {
        left_first = front_of w.left first.0 first.1 w.entered first.2 first.3;
        counted = length-happened p.run most p.stages events (idle_queues p.stages start) ∙ length-map p.stages (λ s. 0);
        parts = λ k n s at count. stage_own p.run p.own p.stages start most events k s n apart at count;
      }

  each_at : (P : S → Type 0) (ss : List S) (k : ℕ) (s : S) → AllByRecursion P ss → slice_get ss k ≡ Some s → P s
  each_at P [] k s all at = absurd (cc)
  each_at P (t ∷ ss) zero s all at = let is : t ≡ s = cc in subst P is all.0
  each_at P (t ∷ ss) (suc k) s all at = each_at P ss k s all.1 at

  pub when_empty : (events : List (Event X)) → AreApart p.run p.own p.stages → AreEmpty (queues_after p most start events)
      → IsSerialWhenEmpty p start (queues_after p most start events)
  when_empty events apart none =
      let w : Queues A X = queues_after p most start events in
      let both = all_left p.run p.own p.stages start most events apart none in
      record {
        all_left = both.0;
        parts = λ k s at. each_at (λ s. p.own s w.state ≡ p.own s (state_alone p.run p.stages start w.entered)) p.stages k s both.1 at;
      }

module _ {A X S V W : Type 0} (p : Pipeline A X S V) (most : ℕ) (start : A) (views : ℕ → A → W) where
  pub whole_when_empty : (events : List (Event X)) → AreApart p.run p.own p.stages → IsShared p views → AreEmpty (queues_after p most start events)
      → (queues_after p most start events).state ≡ state_alone p.run p.stages start (queues_after p most start events).entered
  whole_when_empty events apart shared none =
      let w : Queues A X = queues_after p most start events in
      shared.whole w.state (state_alone p.run p.stages start w.entered) (λ i. same i (shared.owners i))
    where
      same : (i : ℕ) → ((k : ℕ) × (s : S) × (slice_get p.stages k ≡ Some s) × Owns p s (views i)) ⊎ IsLeftAlone p (views i)
          → views i (queues_after p most start events).state ≡ views i (state_alone p.run p.stages start (queues_after p most start events).entered)
      same i (inl (k, s, at, owns)) =
          let all = when_empty p most start events apart none in
          owns (queues_after p most start events).state (state_alone p.run p.stages start (queues_after p most start events).entered) (all.parts k s at)
      same i (inr left) =
          keep_happened p.run most (views i) p.stages events (idle_queues p.stages start) left.by_stages
          ∙ sym (view-alone p.run (views i) p.stages start (queues_after p most start events).entered left.by_stages)

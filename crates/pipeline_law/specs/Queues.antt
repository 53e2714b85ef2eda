-- The stages of a pipeline with a queue before each of them and one behind the last, on events in any order. A queue
-- holds `most` items at most. An event that is not ready changes nothing.
use Rattle.std.specs.Prelude.{◌≡◌, Bool, true, false, ℕ, zero, suc, Some, List, [], ◌∷◌, ◌++◌, length, map, nat_lt, take, slice_get}
use Rattle.std.specs.List.{AllByRecursion}
use Rattle.pipeline_law.specs.Stage.{items_alone, state_alone}
use Rattle.pipeline_law.specs.Pipeline.{Pipeline}

-- an item comes to the end of the first queue, a stage, counted from 0, takes the head of the queue before it and puts
-- its result at the end of the queue behind it, or the head of the last queue leaves
pub data Event (X : Type 0) : Type 0 where
  Enter : X → Event X
  Fire : (stage : ℕ) → Event X
  Leave : Event X

-- the queues, each with its oldest item first; how often each stage fired; the state of all stages; what has entered and
-- what has left, in order
pub record Queues (A X : Type 0) : Type 0 where
  pub queues : List (List X)
  pub counts : List ℕ
  pub state : A
  pub entered : List X
  pub left : List X

-- the part of it that a stage changes
pub record Flow (A X : Type 0) : Type 0 where
  pub queues : List (List X)
  pub counts : List ℕ
  pub state : A

-- a stage s with x at the head of its queue, where the next queue has room and where it has none
module _ {A X S : Type 0} (run : S → A → X → A × X) where
  abbrev pub goes : (room : Bool) → S → X → List X → List X → List (List X) → ℕ → List ℕ → A → Flow A X
  goes false s x queue next rest n ns a = record { queues = (x ∷ queue) ∷ next ∷ rest; counts = n ∷ ns; state = a }
  goes true s x queue next rest n ns a = record { queues = queue ∷ (next ++ (run s a x).1 ∷ []) ∷ rest; counts = suc n ∷ ns; state = (run s a x).0 }

module _ {A X S : Type 0} (run : S → A → X → A × X) (most : ℕ) where
  -- the head of a queue goes through a stage to the end of the next queue, if there is a head and room
  abbrev pub served : S → List X → List X → List (List X) → ℕ → List ℕ → A → Flow A X
  served s [] next rest n ns a = record { queues = [] ∷ next ∷ rest; counts = n ∷ ns; state = a }
  served s (x ∷ queue) next rest n ns a = goes run (nat_lt (length next) most) s x queue next rest n ns a

  -- stage k fires: the stages, their queues and their counts are gone along together
  abbrev pub flows : ℕ → List S → List (List X) → List ℕ → A → Flow A X
  flows k [] qs ns a = record { queues = qs; counts = ns; state = a }
  flows k (s ∷ ss) [] ns a = record { queues = []; counts = ns; state = a }
  flows k (s ∷ ss) (q ∷ []) ns a = record { queues = q ∷ []; counts = ns; state = a }
  flows k (s ∷ ss) (q ∷ next ∷ rest) [] a = record { queues = q ∷ next ∷ rest; counts = []; state = a }
  flows zero (s ∷ ss) (q ∷ next ∷ rest) (n ∷ ns) a = served s q next rest n ns a
  flows (suc k) (s ∷ ss) (q ∷ next ∷ rest) (n ∷ ns) a = record {
    queues = q ∷ (flows k ss (next ∷ rest) ns a).queues;
    counts = n ∷ (flows k ss (next ∷ rest) ns a).counts;
    state = (flows k ss (next ∷ rest) ns a).state;
  }

-- the head of a queue, if it has one
abbrev pub heads_of : {X : Type 0} → List X → List X
heads_of [] = []
heads_of (x ∷ xs) = x ∷ []

-- the queue without its head
abbrev pub rest_of : {X : Type 0} → List X → List X
rest_of [] = []
rest_of (x ∷ xs) = xs

-- the head of the last queue
abbrev pub last_head : {X : Type 0} → List (List X) → List X
last_head [] = []
last_head (q ∷ []) = heads_of q
last_head (q ∷ next ∷ rest) = last_head (next ∷ rest)

-- the queues without that head
abbrev pub last_rest : {X : Type 0} → List (List X) → List (List X)
last_rest [] = []
last_rest (q ∷ []) = rest_of q ∷ []
last_rest (q ∷ next ∷ rest) = q ∷ last_rest (next ∷ rest)

module _ {A X S : Type 0} (run : S → A → X → A × X) (most : ℕ) (ss : List S) where
  -- an item comes to the first queue, where there is room and where there is none
  abbrev pub taken : (room : Bool) → X → List X → List (List X) → Queues A X → Queues A X
  taken false x q qs w = w
  taken true x q qs w = record { queues = (q ++ x ∷ []) ∷ qs; counts = w.counts; state = w.state; entered = w.entered ++ x ∷ []; left = w.left }

  abbrev pub takes : X → List (List X) → Queues A X → Queues A X
  takes x [] w = w
  takes x (q ∷ qs) w = taken (nat_lt (length q) most) x q qs w

  -- one event
  abbrev pub happens : Event X → Queues A X → Queues A X
  happens (Enter x) w = takes x w.queues w
  happens (Fire k) w = record {
    queues = (flows run most k ss w.queues w.counts w.state).queues;
    counts = (flows run most k ss w.queues w.counts w.state).counts;
    state = (flows run most k ss w.queues w.counts w.state).state;
    entered = w.entered;
    left = w.left;
  }
  happens Leave w = record { queues = last_rest w.queues; counts = w.counts; state = w.state; entered = w.entered; left = w.left ++ last_head w.queues }

  -- one event after another
  abbrev pub happened : List (Event X) → Queues A X → Queues A X
  happened [] w = w
  happened (e ∷ es) w = happened es (happens e w)

-- no item anywhere
abbrev pub idle_queues : {A X S : Type 0} → List S → A → Queues A X
idle_queues ss start = record { queues = [] ∷ map (λ s. []) ss; counts = map (λ s. 0) ss; state = start; entered = []; left = [] }

-- no item is in the queues
abbrev pub AreEmpty : {A X : Type 0} → Queues A X → Type 0
AreEmpty w = AllByRecursion (λ q. q ≡ []) w.queues

module _ {A X S V : Type 0} (p : Pipeline A X S V) (most : ℕ) (start : A) where
  -- the queues after these events, from empty ones
  abbrev pub queues_after : List (Event X) → Queues A X
  queues_after events = happened p.run most p.stages events (idle_queues p.stages start)

module _ {A X S V : Type 0} (p : Pipeline A X S V) (start : A) where
  -- in words of the items that entered, each of which goes through the stages alone
  pub record IsSerialInQueues (w : Queues A X) : Type 0 where
    -- what has left are the first of them, each as it comes out alone
    pub left_first : w.left ≡ take (length w.left) (items_alone p.run p.stages start w.entered)
    pub counted : length w.counts ≡ length p.stages
    -- a stage's part is what the first of them, as many as the stage fired, each alone, leave
    pub parts : (k n : ℕ) (s : S) → slice_get p.stages k ≡ Some s → slice_get w.counts k ≡ Some n
        → p.own s w.state ≡ p.own s (state_alone p.run p.stages start (take n w.entered))

  -- where all queues are empty, all have left, and each stage's part is what all of them leave
  pub record IsSerialWhenEmpty (w : Queues A X) : Type 0 where
    pub all_left : w.left ≡ items_alone p.run p.stages start w.entered
    pub parts : (k : ℕ) (s : S) → slice_get p.stages k ≡ Some s → p.own s w.state ≡ p.own s (state_alone p.run p.stages start w.entered)

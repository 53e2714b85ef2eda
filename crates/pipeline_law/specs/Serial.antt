-- What a feed-forward pipeline does, in words of one entry after another.
-- `left_after` and `row_after` speak of the pipeline, `items_alone` and `state_alone` of entries that go through it alone.
use Rattle.std.specs.Prelude.{◌≡◌, ◌⊎◌, ℕ, Bool, false, Some, List, ◌∷◌, ◌++◌, length, take, filter, slice_get, slice_index_or}
use Rattle.std.specs.List.{AllByRecursion}
use Rattle.pipeline_law.specs.Stage.{items_alone, state_alone, through}
use Rattle.pipeline_law.specs.Pipeline.{Pipeline, drain, drained, left_after, row_after}

module _ {A X S V : Type 0} (p : Pipeline A X S V) (start : A) where
  -- after the entries and a drain
  pub record IsSerial (entries : List X) : Type 0 where
    -- each entry comes out as it does alone, as many cycles after it entered as there are stages
    pub items : left_after p start (drained p entries) ≡ drain p.stages p.idle ++ items_alone p.run p.stages start entries
    -- and each stage's part of the state is what the entries, each alone, leave
    pub parts : (k : ℕ) (s : S) → slice_get p.stages k ≡ Some s
        → p.own s (row_after p start (drained p entries)).state ≡ p.own s (state_alone p.run p.stages start entries)

  -- with no drain: what has left so far is the front part of that
  abbrev pub IsSerialSoFar : List X → Type 0
  IsSerialSoFar entries =
      left_after p start entries ≡ take (length entries) (drain p.stages p.idle ++ items_alone p.run p.stages start entries)

  -- the item that entered with `before` ahead of it and `after` behind it stands before stage `length after` + 1
  pub record IsAloneInFlight (before : List X) (item : X) (after : List X) : Type 0 where
    -- as the stages that it has passed make it, with nothing else in flight
    pub register : (default : X) → slice_index_or (row_after p start (before ++ item ∷ after)).registers (length after) default
        ≡ (through p.run (take (length after) p.stages) (state_alone p.run p.stages start before) item).1
    -- and the part of the stage that it comes to next is what the entries ahead of it, each alone, leave
    pub part : (s : S) → slice_get p.stages (length after) ≡ Some s
        → p.own s (row_after p start (before ++ item ∷ after)).state ≡ p.own s (state_alone p.run p.stages start before)

  -- no entry has come to register k
  pub record IsUnreached (entries : List X) (k : ℕ) : Type 0 where
    pub register : (default : X) → slice_index_or (row_after p start entries).registers k default ≡ p.idle
    pub part : (s : S) → slice_get p.stages k ≡ Some s → p.own s (row_after p start entries).state ≡ p.own s start

  -- of the packets among the entries alone
  pub record IsSerialOnPackets (is_packet : X → Bool) (entries : List X) : Type 0 where
    -- the packets that leave, in order, are those that entered, each as it comes out alone
    pub packets : filter is_packet (left_after p start (drained p entries)) ≡ items_alone p.run p.stages start (filter is_packet entries)
    -- and the idle entries among them leave no trace in the state
    pub state : state_alone p.run p.stages start entries ≡ state_alone p.run p.stages start (filter is_packet entries)

module _ {A X S V : Type 0} (p : Pipeline A X S V) where
  -- is_packet tells the packets from the idle item, and each stage passes a packet on as a packet
  pub record TellsPackets (is_packet : X → Bool) : Type 0 where
    pub others : (x : X) → is_packet x ≡ false → x ≡ p.idle
    pub idle : is_packet p.idle ≡ false
    pub kept : AllByRecursion (λ s. (a : A) (x : X) → is_packet (p.run s a x).1 ≡ is_packet x) p.stages

-- W: what a view shows of the state
module _ {A X S V W : Type 0} (p : Pipeline A X S V) where
  -- what the view shows belongs to the stage's part
  abbrev pub Owns : S → (A → W) → Type 0
  Owns s view = (a b : A) → p.own s a ≡ p.own s b → view a ≡ view b

  -- no stage changes what the view shows, nor does the clock
  pub record IsLeftAlone (view : A → W) : Type 0 where
    pub by_stages : AllByRecursion (λ s. (a : A) (x : X) → view (p.run s a x).0 ≡ view a) p.stages
    pub by_clock : (registers : List X) (a : A) → view (p.clock p.stages registers a) ≡ view a

  -- the numbered views show the whole state, and each of them is owned by a stage or left alone
  pub record IsShared (views : ℕ → A → W) : Type 0 where
    pub whole : (a b : A) → ((i : ℕ) → views i a ≡ views i b) → a ≡ b
    pub owners : (i : ℕ) → ((k : ℕ) × (s : S) × (slice_get p.stages k ≡ Some s) × Owns s (views i)) ⊎ IsLeftAlone (views i)

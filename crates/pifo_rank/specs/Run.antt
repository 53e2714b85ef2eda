-- A queue that serves by rank, over cycles: in each of them first the arrival joins what is held, or is dropped where there
-- is no room; then, if the cycle serves, the first entry with the least rank leaves.
use Rattle.std.specs.Prelude.{ℕ, Bool, if◌then◌else◌, nat_lt, Some, None, List, [], ◌∷◌, ◌++◌, length, slice_index}
use Rattle.std.specs.Option.{option_map}
use Rattle.dom_words.specs.Number.{signed_of}
use Rattle.banzai_config.specs.Action.{Entry}
use Rattle.pifo_rank.specs.Queue.{Held, rest, served as head_of}

-- a packet, ranked by the word of a field
abbrev pub ranked_by : ℕ → List ℕ → Held
ranked_by rank words = record { rank = signed_of (slice_index words rank); words = words }

-- what is held once a packet has arrived or none
abbrev pub joined : ℕ → ℕ → List Held → Entry → List Held
joined room rank held None = held
joined room rank held (Some words) = if nat_lt (length held) room then held ++ ranked_by rank words ∷ [] else held

-- what is dropped of it
abbrev pub dropped_in : ℕ → List Held → Entry → Entry
dropped_in room held None = None
dropped_in room held (Some words) = if nat_lt (length held) room then None else Some words

-- how many packets were taken in then
abbrev pub taken_in : ℕ → List Held → Entry → ℕ
taken_in room held None = 0
taken_in room held (Some words) = if nat_lt (length held) room then 1 else 0

-- what is served of what is held, in a cycle that serves, and what stays
abbrev pub served_in : List Held → Bool → Entry
served_in held serve = if serve then option_map (λ e. e.words) (head_of held) else None

abbrev pub kept_in : List Held → Bool → List Held
kept_in held serve = if serve then rest held else held

-- what a cycle drops, what it serves, and what is held after it
pub record Turn : Type 0 where
  pub dropped : Entry
  pub served : Entry
  pub held : List Held

-- room: how many may be held; rank: the field that ranks
module _ (room rank : ℕ) where
  -- a cycle in which this arrives, and which serves or not
  abbrev pub turn : List Held → Entry → Bool → Turn
  turn held arrival serve = record {
    dropped = dropped_in room held arrival;
    served = served_in (joined room rank held arrival) serve;
    held = kept_in (joined room rank held arrival) serve;
  }

  -- a cycle for each of these arrivals, and whether it serves
  abbrev pub ranked_from : List Held → List Entry → List Bool → List Turn
  ranked_from held [] serving = []
  ranked_from held (arrival ∷ arrivals) [] = []
  ranked_from held (arrival ∷ arrivals) (serve ∷ serving) =
      turn held arrival serve ∷ ranked_from (turn held arrival serve).held arrivals serving

  -- from an empty queue
  abbrev pub ranked : List Entry → List Bool → List Turn
  ranked arrivals serving = ranked_from [] arrivals serving

-- what is held after the last of these cycles
abbrev pub held_after : List Held → List Turn → List Held
held_after held [] = held
held_after held (t ∷ turns) = held_after t.held turns

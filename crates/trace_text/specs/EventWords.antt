-- Lines of events, without their line feeds, as they are read.
use Rattle.std.specs.Prelude.{◌≡◌, ℕ, ◌≤◌, Bool, ◌&&◌, true, not, ◌==◌, nat_le, decimal, List, codes, take, drop, length, ◌++◌, Option, Some, None, option_and_then, option_map, if◌then◌else◌}
use Rattle.std.specs.List.{prefix_len}
use Rattle.dom_words.specs.Names.{is_same}
use Rattle.dom_words.specs.Number.{count_of}
use Rattle.trace_text.specs.declared.events.Event.{Event}
use Rattle.trace_text.specs.declared.events.Event.TheVariants.{Enter, Fire, Leave}
use Rattle.trace_text.specs.Events.{event_line, may_happen}

abbrev pub is_no_feed : ℕ → Bool
is_no_feed b = not (b == 10)

-- how many bytes stand before the first line feed
abbrev pub feed_size : List ℕ → ℕ
feed_size text = prefix_len is_no_feed text

-- a stage, if its decimal is this text: without leading zeros
abbrev pub if_stage : ℕ → List ℕ → ℕ → Option ℕ
if_stage depth text n = if is_same (decimal n) text && (nat_le 1 n && nat_le n depth) then Some n else None

abbrev pub stage_of : ℕ → List ℕ → Option ℕ
stage_of depth text = option_and_then (if_stage depth text) (count_of text)

-- the event of a line
abbrev pub event_of : ℕ → List ℕ → Option Event
event_of depth line =
    if is_same line (codes "enter") then Some Enter
    else (if is_same line (codes "leave") then Some Leave
    else (if is_same (take 5 line) (codes "fire,") then option_map Fire (stage_of depth (drop 5 line))
    else None))

-- a text begins with the line of an event, which has so many bytes
pub record BeginsWith (depth : ℕ) (text : List ℕ) (event : Event) (size : ℕ) : Type 0 where
  pub some : 1 ≤ size
  pub within : size ≤ length text
  pub happens : may_happen depth event ≡ true
  pub whole : text ≡ event_line event ++ drop size text

-- it begins with none
abbrev pub BeginsWithNone : ℕ → List ℕ → Type 0
BeginsWithNone depth text = (event : Event) (behind : List ℕ) → may_happen depth event ≡ true → text ≡ event_line event ++ behind → ⊥

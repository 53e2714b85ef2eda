-- Texts of events of a machine with queues between its stages: a line for each event.
use Rattle.std.specs.Prelude.{◌≡◌, ℕ, ◌+◌, ◌<◌, Bool, true, ◌&&◌, nat_le, List, [], ◌∷◌, ◌++◌, length, codes, Option, Some, None, Result, Ok, Err}
use Rattle.std.specs.List.{flat_map, list_all}
use Rattle.trace_text.specs.declared.events.Event.{Event}
use Rattle.trace_text.specs.declared.events.Event.TheVariants.{Enter, Fire, Leave}
use Rattle.trace_text.specs.declared.events.EventsFault.{EventsFault}
use Rattle.trace_text.specs.declared.events.EventsFault.TheVariants as fault
use Rattle.trace_text.specs.Lines.{count_text, line_of}

-- the line of an event
abbrev pub event_line : Event → List ℕ
event_line Enter = line_of (codes "enter" ∷ [])
event_line Leave = line_of (codes "leave" ∷ [])
event_line (Fire stage) = line_of (codes "fire" ∷ count_text stage ∷ [])

abbrev pub event_lines : List Event → List ℕ
event_lines events = flat_map event_line events

-- an event of a pipeline with so many stages, which are counted from 1
abbrev pub may_happen : ℕ → Event → Bool
may_happen depth Enter = true
may_happen depth Leave = true
may_happen depth (Fire stage) = nat_le 1 stage && nat_le stage depth

-- line n, counted from 1, is the first that is not the line of an event: what stands behind the lines before it is not
-- empty and does not begin with such a line
pub record IsBadLine (text : List ℕ) (depth : ℕ) (n : ℕ) : Type 0 where
  pub before : List Event
  pub rest : List ℕ
  pub whole : text ≡ event_lines before ++ rest
  pub happen : list_all (may_happen depth) before ≡ true
  pub number : n ≡ length before + 1
  pub some : 0 < length rest
  pub none : (event : Event) (behind : List ℕ) → may_happen depth event ≡ true → rest ≡ event_line event ++ behind → ⊥

-- what a text is: events of a pipeline with so many stages, or its first line that is none
abbrev pub IsEventsOf : List ℕ → ℕ → Result (List Event) ℕ → Type 0
IsEventsOf text depth (Ok events) = (text ≡ event_lines events) × (list_all (may_happen depth) events ≡ true)
IsEventsOf text depth (Err n) = IsBadLine text depth n

-- the line that a fault tells; want of memory tells none
abbrev pub line_in : EventsFault → Option ℕ
line_in (fault.Line n) = Some n
line_in fault.Memory = None

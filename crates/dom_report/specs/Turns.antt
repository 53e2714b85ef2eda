-- A part of a serial run: some packets, from some state and some number on, and the bytes that a sink got meanwhile.
use Rattle.std.specs.Prelude.{◌≡◌, ℕ, Option, List}
use Rattle.dom_io.specs.Held.{appended}
use Rattle.dom_words.specs.State.{Hash}
use Rattle.dom_ast.specs.Meaning.{serial_arrays, serial_packets}
use Rattle.dom_ast.specs.Resolved.{BodyForm}
use Rattle.trace_text.specs.Lines.{joined}
use Rattle.dom_report.specs.SerialReport.{numbered}

-- the lines of what packets come out as, the first of which has this number
abbrev pub lines_in_turn : Hash → List BodyForm → List (List ℕ) → ℕ → List (List ℕ) → List ℕ
lines_in_turn hash bodies arrays number packets = joined (numbered number (serial_packets hash bodies arrays packets))

-- the program has run on the packets, and the lines of what they came out as have been put
pub record RanInTurn (hash : Hash) (bodies : List BodyForm) (arrays arrays' : List (List ℕ)) (held held' : Option (List ℕ)) (number : ℕ) (packets : List (List ℕ)) : Type 0 where
  pub arrays_are : arrays' ≡ serial_arrays hash bodies arrays packets
  pub held_is : held' ≡ appended held (lines_in_turn hash bodies arrays number packets)

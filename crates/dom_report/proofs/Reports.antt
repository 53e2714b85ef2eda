-- Bytes, put one part after another.
use Rattle.std.proofs.Common.{◌≡◌, ℕ, List, ◌++◌, Option, Result, Ok, Err}
use Rattle.dom_io.specs.Held.{Puts, appended}
use Rattle.dom_report.proofs.Parts.{part_after, put_then}

-- a put behind bytes all of which were put
pub puts_after : {E : Type 0} (result : Result (Unit {0}) E) (h0 h1 h2 : Option (List ℕ)) (a b : List ℕ) → h1 ≡ appended h0 a → Puts h1 h2 b result → Puts h0 h2 (a ++ b) result
puts_after (Ok x) h0 h1 h2 a b first second = put_then h0 h1 h2 a b first second
puts_after (Err e) h0 h1 h2 a b first second = part_after h0 h1 h2 a b first second

-- The lines of what leaves.
use Rattle.std.specs.Prelude.{ℕ, ◌+◌, None, Some, List, [], ◌∷◌, ◌++◌}
use Rattle.trace_text.specs.Lines.{packet_line}
use Rattle.banzai_config.specs.Action.{Entry}

-- the line of what leaves in a cycle: none where no packet leaves
abbrev pub cycle_line : ℕ → Entry → List ℕ
cycle_line cycle None = []
cycle_line cycle (Some words) = packet_line cycle words

-- the lines of what leaves in one cycle after another, the first of which has this number
abbrev pub packet_lines : ℕ → List Entry → List ℕ
packet_lines cycle [] = []
packet_lines cycle (leaving ∷ rest) = cycle_line cycle leaving ++ packet_lines (cycle + 1) rest

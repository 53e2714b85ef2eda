-- Lines that are made from their ends.
use Rattle.std.proofs.Common.{ℕ, zero, suc, ◌+◌, ◌<◌, ◌≤◌, List, [], ◌∷◌, length, drop, get_or, arith, length-append}
use Rattle.trace_text.specs.Lines.{after_commas}

-- a name and those behind it take no more than all of them
pub names-fit : (names : List (List ℕ)) (k : ℕ) (d : List ℕ) → k < length names
    → length (get_or names k d) + 1 + length (after_commas (drop (suc k) names)) ≤ length (after_commas names)
names-fit [] k d within = absurd (omega arith)
names-fit (name ∷ names) zero d within = omega (arith, length-append (44 ∷ name) (after_commas names))
names-fit (name ∷ names) (suc k) d within = omega (arith, names-fit names k d (omega arith), length-append (44 ∷ name) (after_commas names))

-- The text of codelets: a line for each of them.
use Rattle.std.specs.Prelude.{ℕ, List, [], ◌∷◌, ◌++◌, codes, map}
use Rattle.codelets.specs.declared.codelet.Codelet.{Codelet}
use Rattle.plan_check.specs.HandFaults.{number_at}
use Rattle.trace_text.specs.Lines.{count_text, joined, line_of}
use Rattle.dom_finding.specs.Refusals.{kind_text}

-- a codelet among others: its least statement number, its level, its kind, and the least statement numbers of those that it uses
abbrev pub codelet_line : List Codelet → Codelet → List ℕ
codelet_line cs c =
    line_of (codes "codelet" ∷ count_text c.first ∷ count_text c.level ∷ kind_text c.kind ∷ map (λ u. count_text (number_at cs u)) c.uses)

abbrev pub codelets_text : List Codelet → List ℕ
codelets_text cs = joined (map (codelet_line cs) cs)

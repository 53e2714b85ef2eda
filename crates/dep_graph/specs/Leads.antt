-- Which statement leads to which.
use Rattle.std.specs.Prelude.{ℕ, ◌+◌, Bool, false, ◌||◌, nat_eq, List, Option, Some, None, slice_get}
use Rattle.dom_flat.specs.declared.line.Line.{Line}
use Rattle.dom_flat.specs.Flanks.{Flank, fetch, store, plain, flank_of}
use Rattle.dom_flat.specs.Lines.{operands_of, uses}

-- a read flank and a write flank of one array
abbrev pub are_paired : Flank → Flank → Bool
are_paired (fetch a i) (fetch b j) = false
are_paired (fetch a i) (store b j v) = nat_eq a b
are_paired (fetch a i) plain = false
are_paired (store a i v) (fetch b j) = nat_eq a b
are_paired (store a i v) (store b j w) = false
are_paired (store a i v) plain = false
are_paired plain f = false

abbrev pub are_flanks : Line → Line → Bool
are_flanks l m = are_paired (flank_of l) (flank_of m)

-- the first statement, which makes value v, leads to the second
abbrev pub leads_by : ℕ → Option Line → Option Line → Bool
leads_by v None m = false
leads_by v (Some l) None = false
leads_by v (Some l) (Some m) = uses v (operands_of m) || are_flanks l m

-- statement a leads to statement b, after so many fields: b uses the value of a, or they are the flanks of one array
abbrev pub leads : ℕ → List Line → ℕ → ℕ → Bool
leads fields lines a b = leads_by (fields + a) (slice_get lines a) (slice_get lines b)

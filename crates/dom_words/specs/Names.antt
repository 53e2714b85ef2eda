-- Names in order, each once.
use Rattle.std.specs.Prelude.{ℕ, Bool, Option, List, nat_eq, position}
use Rattle.std.specs.Cmp.Lexicographic.{pointwise}
use Rattle.std.specs.List.{list_any}

-- whether two names have the same bytes
abbrev pub is_same : List ℕ → List ℕ → Bool
is_same = pointwise nat_eq

-- whether a name is among them
abbrev pub has_name : List (List ℕ) → List ℕ → Bool
has_name names text = list_any (is_same text) names

-- where a name stands first, from 0
abbrev pub index_of : List (List ℕ) → List ℕ → Option ℕ
index_of names text = position (is_same text) names

-- Files by name.
use Rattle.std.specs.Prelude.{◌≡◌, ℕ, Bool, true, false, ◌||◌, ◌==◌, List, [], ◌∷◌, Option, None, Some, is_none, nat_eq, if◌then◌else◌, Result, MatchResult}
use Rattle.std.specs.Cmp.Lexicographic.{pointwise}
use Rattle.std.specs.List.{list_any}
use Rattle.std.specs.Option.{unwrap_or}
use Rattle.dom_io.specs.declared.shelf.ShelfFault.{ShelfFault}
use Rattle.dom_io.specs.declared.shelf.ShelfFault.TheVariants.{Failed, Memory}

-- the bytes of the first file of a name
abbrev pub file_of : List (List ℕ × List ℕ) → List ℕ → Option (List ℕ)
file_of [] name = None
file_of (file ∷ files) name = if pointwise nat_eq file.0 name then Some file.1 else file_of files name

-- the bytes under a name where a name that is not there has no bytes
abbrev pub bytes_under : List (List ℕ × List ℕ) → List ℕ → List ℕ
bytes_under files name = unwrap_or (file_of files name) []

-- what a shelf tells that tells nothing
abbrev pub untold : List ℕ → Option (List ℕ)
untold name = None

-- a read fails where its number is among the failing ones, or the name is not there
abbrev pub read_fails : List (List ℕ × List ℕ) → List ℕ → ℕ → List ℕ → Bool
read_fails files failing number name = is_none (file_of files name) || list_any (λ k. k == number) failing

abbrev pub is_failure : ShelfFault → Bool
is_failure Failed = true
is_failure Memory = false

-- a read answers Failed exactly where it fails
abbrev pub ReadAnswer : {T : Type 0} → Bool → Result T ShelfFault → Type 0
ReadAnswer fails result = MatchResult result (λ _. fails ≡ false) (λ fault. fails ≡ is_failure fault)

-- How a trace is stored: the numbers of its rows, row after row, and for each field its column after the first.
use Rattle.std.specs.Prelude.{◌≡◌, ℕ, zero, suc, ◌+◌, ◌*◌, ◌<◌, List, [], ◌∷◌, length, map, take, drop, slice_index_or, Option, None, Some, IfSome, All, unwrap_or}
use Rattle.dom_words.specs.Number.{word_of_text}
use Rattle.trace_text.specs.Trace.{gap_of}

-- the numbers of a row: its gap, and then the words
abbrev pub numbers_of : List (List ℕ) → List ℕ
numbers_of row = gap_of row ∷ map (λ text. unwrap_or (word_of_text text) 0) (drop 1 row)

-- the word in a column after the first; 0 where there is no column
abbrev pub word_at : List ℕ → Option ℕ → ℕ
word_at numbers None = 0
word_at numbers (Some column) = slice_index_or numbers (column + 1) 0

-- the packet that numbers tell, where the fields stand in these columns
abbrev pub stored_packet : List (Option ℕ) → List ℕ → ℕ × List ℕ
stored_packet columns numbers = (slice_index_or numbers 0 0, map (word_at numbers) columns)

-- so many packets, stored in rows of one width
abbrev pub stored_packets : ℕ → List (Option ℕ) → ℕ → List ℕ → List (ℕ × List ℕ)
stored_packets width columns zero cells = []
stored_packets width columns (suc count) cells =
    stored_packet columns (take width cells) ∷ stored_packets width columns count (drop width cells)

-- there are so many rows, and each column is one of theirs
abbrev pub IsStored : ℕ → List (Option ℕ) → ℕ → List ℕ → Type 0
IsStored width columns count cells =
    (0 < width) × (length cells ≡ count * width) × All (λ column. IfSome column (λ c. c + 1 < width)) columns

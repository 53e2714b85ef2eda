-- What a trace of packets says, or why it is refused.
use Rattle.std.specs.Prelude.{◌≡◌, ℕ, ◌+◌, nat_le, ◌==◌, List, [], ◌∷◌, ◌++◌, length, map, flat_map, replicate, sum_by, slice_index_or, drop, codes, not, Option, None, Some, is_some, unwrap_or, IfSome, Result, Ok, Err, if◌then◌else◌}
use Rattle.std.specs.Option.{option_or}
use Rattle.csv.specs.Reading.{AreRecords, default_config, strip_bom}
use Rattle.csv.specs.declared.parser.State.TheVariants as state
use Rattle.dom_words.specs.Names.{has_name, index_of, is_same}
use Rattle.dom_words.specs.Number.{count_of, word_of_text}
use Rattle.trace_text.specs.declared.trace.TraceFault.{TraceFault}
use Rattle.trace_text.specs.declared.trace.TraceFault.TheVariants as fault

-- why a trace is refused; columns are numbered from 1, and so are the rows under the heading
pub data Refusal : Type 0 where
  no_header : Refusal
  unknown_column : ℕ → Refusal
  column_twice : ℕ → Refusal
  row_length : ℕ → Refusal
  bad_value : ℕ → ℕ → Refusal
  too_many_cycles : ℕ → Refusal

-- the most cycles that a trace may take
abbrev pub most_cycles : ℕ
most_cycles = 2000000

-- the heading: the first refusal among the names from column c on, where `before` are the names in the columns from the second to c
abbrev pub names_refusal : List (List ℕ) → List (List ℕ) → ℕ → List (List ℕ) → Option Refusal
names_refusal fields before c [] = None
names_refusal fields before c (name ∷ rest) =
    if not (has_name fields name) then Some (unknown_column c)
    else if has_name before name then Some (column_twice c)
    else names_refusal fields (before ++ name ∷ []) (c + 1) rest

-- the first refusal in the heading, whose first column is `gap`
abbrev pub heading_refusal : List (List ℕ) → List (List ℕ) → Option Refusal
heading_refusal fields [] = Some (unknown_column 1)
heading_refusal fields (first ∷ names) =
    if is_same first (codes "gap") then names_refusal fields [] 2 names else Some (unknown_column 1)

-- row r: the first refusal in its fields from column c on, each of which is a word
abbrev pub words_refusal : ℕ → ℕ → List (List ℕ) → Option Refusal
words_refusal r c [] = None
words_refusal r c (text ∷ rest) = if is_some (word_of_text text) then words_refusal r (c + 1) rest else Some (bad_value r c)

-- row r: the first refusal in its fields, the first of which is a count
abbrev pub fields_refusal : ℕ → List (List ℕ) → Option Refusal
fields_refusal r [] = None
fields_refusal r (gap ∷ words) = if is_some (count_of gap) then words_refusal r 2 words else Some (bad_value r 1)

-- the first refusal in row r, whose length is the heading's
abbrev pub row_refusal : ℕ → ℕ → List (List ℕ) → Option Refusal
row_refusal width r row = if length row == width then fields_refusal r row else Some (row_length r)

-- the first refusal in the rows, the first of which is row r
abbrev pub rows_refusal : ℕ → ℕ → List (List (List ℕ)) → Option Refusal
rows_refusal width r [] = None
rows_refusal width r (row ∷ rest) = option_or (row_refusal width r row) (rows_refusal width (r + 1) rest)

-- a row's gap
abbrev pub gap_of : List (List ℕ) → ℕ
gap_of row = unwrap_or (count_of (slice_index_or row 0 [])) 0

-- a row's word in one of the columns after the first, which are numbered from 0; 0 where there is no column
abbrev pub word_in : List (List ℕ) → Option ℕ → ℕ
word_in row None = 0
word_in row (Some column) = unwrap_or (word_of_text (slice_index_or row (column + 1) [])) 0

-- the packet of a row: its gap, and a word for each field, found in the column with the field's name
abbrev pub packet_of : List (List ℕ) → List (List ℕ) → List (List ℕ) → ℕ × List ℕ
packet_of fields heading row = (gap_of row, map (λ field. word_in row (index_of (drop 1 heading) field)) fields)

-- the cycles that packets with their gaps take to enter
abbrev pub cycles_of : List (ℕ × List ℕ) → ℕ
cycles_of packets = sum_by (λ p. p.0) packets + length packets

-- the refusal of a number of cycles
abbrev pub cycles_refusal : ℕ → Option Refusal
cycles_refusal cycles = if nat_le cycles most_cycles then None else Some (too_many_cycles cycles)

-- the refusal, if there is one, and else the packets
abbrev pub unless_refused : Option Refusal → List (ℕ × List ℕ) → Result (List (ℕ × List ℕ)) Refusal
unless_refused None packets = Ok packets
unless_refused (Some refusal) packets = Err refusal

-- what a text with these records says under these fields and this depth: the first refusal, or the packets, each with its gap
abbrev pub trace_of : List (List (List ℕ)) → List (List ℕ) → ℕ → Result (List (ℕ × List ℕ)) Refusal
trace_of [] fields depth = Err no_header
trace_of (heading ∷ rows) fields depth =
    let packets = map (packet_of fields heading) rows in
    let first = heading_refusal fields heading in
    let second = rows_refusal (length heading) 1 rows in
    let third = cycles_refusal (cycles_of packets + depth) in
    unless_refused (option_or first (option_or second third)) packets

-- the records of a text say this
abbrev pub IsTraceOf : List ℕ → List (List ℕ) → ℕ → Result (List (ℕ × List ℕ)) Refusal → Type 0
IsTraceOf text fields depth answer =
    (records : List (List (List ℕ))) × AreRecords default_config state.StartRecord (strip_bom text) records × (trace_of records fields depth ≡ answer)

-- what enters in each cycle: for each packet its gap of idle cycles, and then the packet
abbrev pub entries : List (ℕ × List ℕ) → List (Option (List ℕ))
entries packets = flat_map (λ p. replicate p.0 None ++ Some p.1 ∷ []) packets

-- the refusal that a fault tells; want of memory tells none
abbrev pub refusal_of : TraceFault → Option Refusal
refusal_of fault.NoHeader = Some no_header
refusal_of (fault.UnknownColumn c) = Some (unknown_column c)
refusal_of (fault.ColumnTwice c) = Some (column_twice c)
refusal_of (fault.RowLength r) = Some (row_length r)
refusal_of (fault.BadValue r c) = Some (bad_value r c)
refusal_of (fault.TooManyCycles cycles) = Some (too_many_cycles cycles)
refusal_of fault.Memory = None

-- a fault that is not want of memory tells this refusal
abbrev pub Tells : TraceFault → Option Refusal → Type 0
Tells fault refusal = IfSome (refusal_of fault) (λ told. refusal ≡ Some told)

-- the gap and the words of packet k, from 0
abbrev pub gap_at : List (ℕ × List ℕ) → ℕ → ℕ
gap_at packets k = (slice_index_or packets k (0, [])).0

abbrev pub words_at : List (ℕ × List ℕ) → ℕ → List ℕ
words_at packets k = (slice_index_or packets k (0, [])).1

-- Plain rows: each of their texts is a number, and no quote stands in them.
use Rattle.std.specs.Prelude.{◌≡◌, ℕ, ◌+◌, ◌*◌, ◌<◌, ◌≤◌, Bool, true, ◌==◌, ◌||◌, ◌&&◌, not, List, [], ◌∷◌, ◌++◌, length, map, Option, None, Some}
use Rattle.csv.specs.Reading.{default_config, records, strip_bom}
use Rattle.trace_text.specs.Stored.{numbers_of, stored_packet, stored_packets}
use Rattle.trace_text.specs.Trace.{fields_refusal, rows_refusal}

-- whether a byte ends a line: a carriage return or a line feed
abbrev pub ends_line : ℕ → Bool
ends_line byte = (byte == 13) || (byte == 10)

-- whether a byte is inside a line, and no quote
abbrev pub is_in_line : ℕ → Bool
is_in_line byte = not (ends_line byte) && not (byte == 34)

-- whether a text begins with the end of a line, or is at its own end
abbrev pub ends_row : List ℕ → Bool
ends_row [] = true
ends_row (byte ∷ rest) = ends_line byte

-- a text begins with a number that reads so, and this stands behind it
pub record LeadsWith (read : List ℕ → Option ℕ) (text : List ℕ) (value : ℕ) (behind : List ℕ) : Type 0 where
  pub number : List ℕ
  pub parts : text ≡ number ++ behind
  pub reads : read number ≡ Some value

-- the first record of a text is a row of so many numbers, which join others, and this stands behind it
pub record IsPlainRow (width : ℕ) (before after text behind : List ℕ) : Type 0 where
  pub row : List (List ℕ)
  pub rows : records default_config text ≡ row ∷ records default_config behind
  pub wide : length row ≡ width
  pub good : (r : ℕ) → fields_refusal r row ≡ None
  pub numbers : after ≡ before ++ numbers_of row
  pub shorter : length behind < length text
  pub unmarked : strip_bom behind ≡ behind

-- the first records of a text are so many rows of numbers, which are stored, and this stands behind them
pub record ArePlainRows (width count : ℕ) (cells text behind : List ℕ) : Type 0 where
  pub good : rows_refusal width 1 (records default_config text) ≡ rows_refusal width (count + 1) (records default_config behind)
  pub packets : (columns : List (Option ℕ)) → map (λ row. stored_packet columns (numbers_of row)) (records default_config text)
      ≡ stored_packets width columns count cells ++ map (λ row. stored_packet columns (numbers_of row)) (records default_config behind)
  pub rows : count + length (records default_config behind) ≡ length (records default_config text)
  pub stored : length cells ≡ count * width
  pub shorter : count + length behind ≤ length text
  pub unmarked : strip_bom behind ≡ behind

-- Words and lines by their places in a text, and what one more line says.
use Rattle.std.specs.Prelude.{ℕ, Bool, not, ◌==◌, List, drop, take, Option, Some, None}
use Rattle.std.specs.List.{prefix_len}
use Rattle.config_text.specs.Lines.{NamedParts}
use Rattle.config_text.specs.Drafts.{Draft, at_start, headed, in_fields, in_arrays, counted, in_stage, in_outputs, finished, step}
use Rattle.config_text.specs.Reading.{on, line_from}

abbrev pub is_no_feed : ℕ → Bool
is_no_feed b = not (b == 10)

abbrev pub is_no_comma : ℕ → Bool
is_no_comma b = not (b == 44)

-- how many bytes stand before the next comma
abbrev pub comma_size : List ℕ → ℕ → ℕ
comma_size line at = prefix_len is_no_comma (drop at line)

abbrev pub word_at : List ℕ → ℕ → List ℕ
word_at line at = take (comma_size line at) (drop at line)

-- how many bytes stand before the next line feed
abbrev pub feed_size : List ℕ → ℕ → ℕ
feed_size text at = prefix_len is_no_feed (drop at text)

abbrev pub line_at : List ℕ → ℕ → List ℕ
line_at text at = take (feed_size text at) (drop at text)

abbrev pub stepped : Draft → List ℕ → Option Draft
stepped d bytes = on (line_from bytes) (λ l. step d l)

-- the configuration of a draft that is finished
abbrev pub ended_named : Draft → Option NamedParts
ended_named (finished n) = Some n
ended_named at_start = None
ended_named (headed v) = None
ended_named (in_fields v t fs) = None
ended_named (in_arrays v t fs arrays) = None
ended_named (counted top) = None
ended_named (in_stage top done s k) = None
ended_named (in_outputs top ss os) = None

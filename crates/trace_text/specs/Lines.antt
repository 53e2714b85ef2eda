-- The lines of a report, as bytes.
use Rattle.std.specs.Prelude.{ℕ, ◌+◌, ◌*◌, ◌≤◌, All, List, [], ◌∷◌, ◌++◌, Option, codes, decimal, drop, length, map, slice_index_or}
use Rattle.std.specs.Fmt.{signed_decimal}
use Rattle.std.specs.List.{flat_map}
use Rattle.std.specs.Option.{option_to_list}
use Rattle.dom_words.specs.Number.{signed_of}

-- parts, each after a comma (the byte 44)
abbrev pub after_commas : List (List ℕ) → List ℕ
after_commas parts = flat_map (λ part. 44 ∷ part) parts

-- parts with a comma between each two
abbrev pub comma_joined : List (List ℕ) → List ℕ
comma_joined [] = []
comma_joined (part ∷ parts) = part ++ after_commas parts

-- a line: its parts with commas between them, and the line feed (the byte 10)
abbrev pub line_of : List (List ℕ) → List ℕ
line_of parts = comma_joined parts ++ 10 ∷ []

-- parts, one after another
abbrev pub joined : List (List ℕ) → List ℕ
joined [] = []
joined (part ∷ parts) = part ++ joined parts

-- a word, in signed decimals
abbrev pub word_text : ℕ → List ℕ
word_text word = signed_decimal (signed_of word)

-- a count, in decimals
abbrev pub count_text : ℕ → List ℕ
count_text count = decimal count

-- name `k`, from 0
abbrev pub name_at : List (List ℕ) → ℕ → List ℕ
name_at names k = slice_index_or names k []

-- the heading: `cycle`, `packet` or `event`, and then each field's name
abbrev pub head_line : List ℕ → List (List ℕ) → List ℕ
head_line word fields = line_of (word ∷ fields)

-- a packet: the cycle in which it left, or its number, and then its words
abbrev pub packet_line : ℕ → List ℕ → List ℕ
packet_line lead words = line_of (count_text lead ∷ map word_text words)

-- a state word: its array's name, its index and the word
abbrev pub state_line : List ℕ → ℕ → ℕ → List ℕ
state_line name index word = line_of (codes "state" ∷ name ∷ count_text index ∷ word_text word ∷ [])

-- the stage in which an array stands
abbrev pub place_line : List ℕ → ℕ → List ℕ
place_line name stage = line_of (codes "place" ∷ name ∷ count_text stage ∷ [])

-- a tap: its number and its value
abbrev pub tap_line : ℕ → ℕ → List ℕ
tap_line number value = line_of (codes "tap" ∷ count_text number ∷ count_text value ∷ [])

-- a cycle begins, counted from 0
abbrev pub clock_line : ℕ → List ℕ
clock_line cycle = line_of (codes "cycle" ∷ count_text cycle ∷ [])

-- a packet leaves, with these words
abbrev pub out_line : List ℕ → List ℕ
out_line words = line_of (codes "out" ∷ map word_text words)

-- register `k` is filled, with these words
abbrev pub reg_line : ℕ → List ℕ → List ℕ
reg_line k words = line_of (codes "reg" ∷ count_text k ∷ map word_text words)

-- a stage touches an element: the stage, the array's name and the element's index
abbrev pub touch_line : ℕ → List ℕ → ℕ → List ℕ
touch_line stage name index = line_of (codes "touch" ∷ count_text stage ∷ name ∷ count_text index ∷ [])

-- an event that was not ready, by its number
abbrev pub wait_line : ℕ → List ℕ
wait_line number = line_of (codes "wait" ∷ count_text number ∷ [])

-- how many packets are held
abbrev pub held_line : ℕ → List ℕ
held_line count = line_of (codes "held" ∷ count_text count ∷ [])

-- a packet is dropped: the cycle, and its words
abbrev pub drop_line : ℕ → List ℕ → List ℕ
drop_line cycle words = line_of (codes "drop" ∷ count_text cycle ∷ map word_text words)

-- the end: how many packets, and in how many cycles where cycles are counted, or how many of them have left
abbrev pub done_line : ℕ → Option ℕ → List ℕ
done_line packets cycles = line_of (codes "done" ∷ count_text packets ∷ map count_text (option_to_list cycles))

-- a line that is made from its end, in a buffer in which it begins here
abbrev pub made : ℕ → List ℕ → List ℕ
made start bytes = drop start bytes

-- what lines are made of: the names of the fields and of the arrays, and the largest number of words of a line
pub record Legend : Type 0 where
  pub fields : List (List ℕ)
  pub arrays : List (List ℕ)
  pub words : ℕ

-- each line of a legend has at most `room` bytes
pub record HasRoom (legend : Legend) (room : ℕ) : Type 0 where
  pub numbers : 64 ≤ room
  pub heading : length (after_commas legend.fields) + 64 ≤ room
  pub names : All (λ name. length name + 64 ≤ room) legend.arrays
  pub words : 12 * legend.words + 64 ≤ room

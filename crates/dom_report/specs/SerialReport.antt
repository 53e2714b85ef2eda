-- The report of a serial run, line by line: a heading, the packets in order with their numbers, the state words that are not
-- 0 by array and index, and the end.
use Rattle.std.specs.Prelude.{ℕ, ◌+◌, ◌==◌, None, List, [], ◌∷◌, ◌++◌, length, map, codes, if◌then◌else◌}
use Rattle.trace_text.specs.Lines.{done_line, head_line, packet_line, state_line}
use Rattle.dom_words.specs.State.{Hash}
use Rattle.dom_ast.specs.Meaning.{serial_run}
use Rattle.dom_ast.specs.Resolved.{CheckedForm}
use Rattle.trace_text.specs.Lines.{joined}

-- the lines of packets, the first of which has this number
abbrev pub numbered : ℕ → List (List ℕ) → List (List ℕ)
numbered n [] = []
numbered n (packet ∷ packets) = packet_line n packet ∷ numbered (n + 1) packets

-- the line of a state word, unless it is 0
abbrev pub word_lines : List ℕ → ℕ → ℕ → List (List ℕ)
word_lines name index word = if word == 0 then [] else state_line name index word ∷ []

-- of the words of an array, the first of which has this index
abbrev pub array_lines : List ℕ → ℕ → List ℕ → List (List ℕ)
array_lines name index [] = []
array_lines name index (word ∷ words) = word_lines name index word ++ array_lines name (index + 1) words

-- of all arrays, with these names
abbrev pub state_lines : List (List ℕ) → List (List ℕ) → List (List ℕ)
state_lines [] arrays = []
state_lines (name ∷ names) [] = []
state_lines (name ∷ names) (words ∷ arrays) = array_lines name 0 words ++ state_lines names arrays

-- the lines behind the packets
abbrev pub end_lines : List (List ℕ) → List (List ℕ) → ℕ → List (List ℕ)
end_lines names arrays packets = state_lines names arrays ++ done_line packets None ∷ []

-- the lines of the serial run over these packets, from the arrays' first words
abbrev pub serial_lines : Hash → CheckedForm → List (List ℕ) → List (List ℕ)
serial_lines hash c packets =
    let run = serial_run hash c packets in
    head_line (codes "packet") c.fields
    ∷ (numbered 1 run.packets ++ end_lines (map (λ array. array.name) c.arrays) run.arrays (length packets))

abbrev pub serial_report : Hash → CheckedForm → List (List ℕ) → List ℕ
serial_report hash c packets = joined (serial_lines hash c packets)

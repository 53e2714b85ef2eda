-- A run that makes its own packets, by a generator of words, and what is told of its end.
use Rattle.std.specs.Prelude.{ℕ, zero, suc, ◌+◌, ◌*◌, ◌/◌, ◌%◌, ◌^◌, List, [], ◌∷◌, ◌++◌, codes, fold, length, replicate, sum, sum_by, take}
use Rattle.std.specs.List.{flat_map}
use Rattle.dom_words.specs.State.{Hash}
use Rattle.trace_text.specs.Lines.{count_text, joined, line_of, word_text}
use Rattle.trace_text.specs.Trace.{entries}
use Rattle.banzai_config.specs.declared.target.Target.{Target}
use Rattle.banzai_config.specs.Action.{Arrays}
use Rattle.banzai_config.specs.Parts.{PartsForm}
use Rattle.banzai_config.specs.Targets.{name_of}
use Rattle.banzai_machine.specs.Alone.{packets_of}
use Rattle.banzai_machine.specs.Pipe.{drain, emitted, pipe}
use Rattle.dom_report.specs.declared.selfrun.Summary.{Summary}

-- the word of the draw behind this word, which is the seed or the word of a draw
abbrev pub next_draw : ℕ → ℕ
next_draw word = (1664525 * word + 1013904223) % 2 ^ 32

-- so many fields of a packet with this key and this value: these two, and behind them zeros
abbrev pub fields_drawn : ℕ → ℕ → ℕ → List ℕ
fields_drawn fields key val = take fields (key ∷ val ∷ replicate fields 0)

-- a packet of three draws: the two highest bits of the first are the idle cycles before it, the six highest of the second are
-- its key, and the sixteen highest of the third are its value
abbrev pub packet_drawn : ℕ → ℕ → ℕ × List ℕ
packet_drawn fields word =
    let gap = next_draw word in
    let key = next_draw gap in
    let val = next_draw key in
    (gap / 2 ^ 30, fields_drawn fields (key / 2 ^ 26) (val / 2 ^ 16))

-- so many packets, one after another, each of which has so many fields
abbrev pub drawn : ℕ → ℕ → ℕ → List (ℕ × List ℕ)
drawn fields word zero = []
drawn fields word (suc count) = packet_drawn fields word ∷ drawn fields (next_draw (next_draw (next_draw word))) count

-- a fold, which starts with 0, with one word more
abbrev pub folded : ℕ → ℕ → ℕ
folded so_far word = (31 * so_far + word) % 2 ^ 32

-- over the words of packets
abbrev pub fold_of : List (List ℕ) → ℕ
fold_of packets = fold folded 0 (flat_map (λ words. words) packets)

-- the sum of all state words
abbrev pub total_of : Arrays → ℕ
total_of arrays = sum_by sum arrays % 2 ^ 32

-- what a configuration comes to that is clocked over packets and the drain
abbrev pub summary_over : Hash → PartsForm → List (ℕ × List ℕ) → Summary
summary_over hash p packets =
    let all = entries packets ++ drain p in
    record {
      packets = length packets;
      cycles = length all;
      fold = fold_of (packets_of (emitted hash p all));
      total = total_of (pipe hash p all).state;
    }

abbrev pub summary_lines : Target → ℕ → ℕ → Summary → List (List ℕ)
summary_lines target seed count summary =
    line_of (codes "selfrun" ∷ name_of target ∷ count_text seed ∷ count_text count ∷ [])
    ∷ line_of (codes "packets" ∷ count_text summary.packets ∷ [])
    ∷ line_of (codes "cycles" ∷ count_text summary.cycles ∷ [])
    ∷ line_of (codes "fold" ∷ word_text summary.fold ∷ [])
    ∷ line_of (codes "total" ∷ word_text summary.total ∷ [])
    ∷ []

-- the report of a configuration that is clocked over the packets drawn from a seed
abbrev pub selfrun_report : Hash → Target → ℕ → ℕ → PartsForm → List ℕ
selfrun_report hash target seed count p = joined (summary_lines target seed count (summary_over hash p (drawn (length p.fields) seed count)))

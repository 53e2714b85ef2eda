-- What a run of drawn packets comes to.
use Rattle.std.proofs.Common.{◌≡◌, ℕ, zero, suc, ◌+◌, ◌*◌, ◌%◌, ◌^◌, ◌<◌, ◌≤◌, List, [], ◌∷◌, ◌++◌, length, take, get_or, refl, sym, ap, ◌∙◌, Some, None, fold, sum, sum_by, arith}
use Rattle.std.specs.List.{flat_map}
use Rattle.std.proofs.Math.Seq.{take-length}
use Rattle.std.proofs.lemmas.List.Sums.{fold-append, sum_by-cons, sum_by_more}
use Rattle.dom_words.specs.State.{Hash, array_of}
use Rattle.trace_text.specs.Trace.{cycles_of, entries}
use Rattle.pipeline_law.specs.Pipeline.{Row}
use Rattle.banzai_config.specs.Parts.{PartsForm}
use Rattle.banzai_config.specs.Action.{Arrays, Entry}
use Rattle.banzai_machine.specs.Alone.{packets_of}
use Rattle.banzai_machine.specs.Pipe.{drain, emitted, leaves_with, pipe}
use Rattle.banzai_machine.specs.State.{MachineForm, Stands}
use Rattle.dom_report.specs.declared.drawing.Folding.{Folding}
use Rattle.dom_report.specs.declared.selfrun.Summary.{Summary}
use Rattle.dom_report.specs.Clocking.{Cycle, after_cycle, after_cycles, after_entries, cycles_from, left_over}
use Rattle.dom_report.specs.Folding.{fold_left}
use Rattle.dom_report.specs.SelfRun.{drawn, fold_of, folded, next_draw, packet_drawn, summary_over, total_of}
use Rattle.dom_report.proofs.Draws.{fields_length}
use Rattle.dom_report.proofs.DrivenLines.{config_after, left_is_emitted, stands_after}

-- The packets.

-- each has so many fields
pub drawn_each : (width word count : ℕ) (k : ℕ) (d : ℕ × List ℕ) → k < length (drawn width word count) → length (get_or (drawn width word count) k d).1 ≡ width
drawn_each width word zero k d inside = absurd (omega (arith, inside))
drawn_each width word (suc count) zero d inside = fields_length width _ _
drawn_each width word (suc count) (suc k) d inside = drawn_each width (next_draw (next_draw (next_draw word))) count k d (omega arith)

-- there are so many
pub drawn_count : (width word count : ℕ) → length (drawn width word count) ≡ count
drawn_count width word zero = refl
drawn_count width word (suc count) = ap suc (drawn_count width (next_draw (next_draw (next_draw word))) count)

-- each takes four cycles at most
pub drawn_cycles : (width word count : ℕ) → cycles_of (drawn width word count) ≤ 4 * count
drawn_cycles width word zero = omega arith
drawn_cycles width word (suc count) =
    let rest : List (ℕ × List ℕ) = drawn width (next_draw (next_draw (next_draw word))) count in
    let gap : (packet_drawn width word).0 ≤ 3 = omega arith in
    let more = sum_by-cons (λ (p : ℕ × List ℕ). p.0) (packet_drawn width word) rest in
    let upto : cycles_of rest ≤ 4 * count = drawn_cycles width (next_draw (next_draw (next_draw word))) count in
    omega (arith, more, upto, gap)

-- The fold.

-- what the fold puts after a cycle, and what becomes of it
abbrev pub no_bytes : Folding → Cycle → List ℕ
no_bytes folding cycle = []

abbrev pub folded_on : Folding → Cycle → Folding
folded_on folding cycle = record { word = fold_left folding.word cycle.left }

abbrev words_of : List Entry → List ℕ
words_of leaving = flat_map (λ words. words) (packets_of leaving)

fold_one : (so_far : ℕ) (out : Entry) (rest : List Entry) → fold folded (fold_left so_far out) (words_of rest) ≡ fold folded so_far (words_of (out ∷ rest))
fold_one so_far None rest = refl
fold_one so_far (Some words) rest = sym (fold-append folded so_far words (words_of rest))

pub fold_over : (hash : Hash) (folding : Folding) (m : MachineForm) (number : ℕ) (entries : List Entry)
    → (after_cycles no_bytes folded_on folding (cycles_from hash m number entries)).word ≡ fold folded folding.word (words_of (left_over hash m entries))
fold_over hash folding m number [] = refl
fold_over hash folding m number (x ∷ xs) =
    let out : Entry = leaves_with hash m.config m.row x in
    fold_over hash (record { word = fold_left folding.word out }) (after_cycle hash m x) (number + 1) xs
    ∙ fold_one folding.word out (left_over hash (after_cycle hash m x) xs)

-- The sum.

sum_mod : (a b t p : ℕ) → t ≡ a % 2 ^ 32 → p ≡ b % 2 ^ 32 → (t + p) % 2 ^ 32 ≡ (a + b) % 2 ^ 32
sum_mod a b t p t_is p_is = omega (arith, t_is, p_is)

-- one array more
pub total_more : (arrays : Arrays) (k total part : ℕ) → k < length arrays → total ≡ sum_by sum (take k arrays) % 2 ^ 32 → part ≡ sum (array_of arrays k) % 2 ^ 32
    → (total + part) % 2 ^ 32 ≡ sum_by sum (take (k + 1) arrays) % 2 ^ 32
total_more arrays k total part inside total_is part_is =
    sum_mod (sum_by sum (take k arrays)) (sum (array_of arrays k)) total part total_is part_is ∙ ap (λ n. n % 2 ^ 32) (sym (sum_by_more sum arrays k [] inside))

pub total_all : (arrays : Arrays) (k total : ℕ) → k ≡ length arrays → total ≡ sum_by sum (take k arrays) % 2 ^ 32 → total ≡ total_of arrays
total_all arrays k total all total_is = total_is ∙ ap (λ l. sum_by sum l % 2 ^ 32) (ap (λ n. take n arrays) all ∙ take-length arrays)

-- one word more; it is a word of 32 bits or none, as its remainder tells
pub sum_more : (words : List ℕ) (k total word : ℕ) → k < length words → total ≡ sum (take k words) % 2 ^ 32 → word ≡ get_or words k 0 → (total + word) % 2 ^ 32 ≡ sum (take (k + 1) words) % 2 ^ 32
sum_more words k total word inside total_is word_is =
    let more = sum_by_more (λ n. n) words k 0 inside in
    omega (arith, total_is, word_is, more)

pub sum_all : (words : List ℕ) (k total : ℕ) → k ≡ length words → total ≡ sum (take k words) % 2 ^ 32 → total ≡ sum words % 2 ^ 32
sum_all words k total all total_is = total_is ∙ ap (λ l. sum l % 2 ^ 32) (ap (λ n. take n words) all ∙ take-length words)

-- The summary.

module _ (hash : Hash) (m m' : MachineForm) (seed count cycles : ℕ) (folding : Folding) (total : ℕ) where
  abbrev all : List Entry
  all = entries (drawn (length m.config.fields) seed count) ++ drain m.config

  pub summary_is : Stands hash [] m → m' ≡ after_entries hash m all → folding ≡ after_cycles no_bytes folded_on (record { word = 0 }) (cycles_from hash m 0 all)
      → cycles ≡ length all → total ≡ total_of m'.row.state
      → ◌≡◌ {A = Summary} (record { packets = count; cycles = cycles; fold = folding.word; total = total }) (summary_over hash m.config (drawn (length m.config.fields) seed count))
  summary_is start machine_is folding_is cycles_are total_is =
      let config_is : m'.config ≡ m.config = ap (λ (k : MachineForm). k.config) machine_is ∙ config_after hash m all in
      let stands : m'.row ≡ pipe hash m'.config all = stands_after hash m start m' all machine_is in
      let state_is : m'.row.state ≡ (pipe hash m.config all).state = ap (λ (r : Row Arrays Entry). r.state) stands ∙ ap (λ (p : PartsForm). (pipe hash p all).state) config_is in
      let fold_is : folding.word ≡ fold_of (packets_of (emitted hash m.config all)) =
      ap (λ (f : Folding). f.word) folding_is ∙ fold_over hash (record { word = 0 }) m 0 all ∙ ap (λ l. fold folded 0 (words_of l)) (left_is_emitted hash m start all) in
      ap (λ n. made n cycles folding.word total) (sym (drawn_count (length m.config.fields) seed count))
      ∙ ap (λ n. made (length (drawn (length m.config.fields) seed count)) n folding.word total) cycles_are
      ∙ ap (λ n. made (length (drawn (length m.config.fields) seed count)) (length all) n total) fold_is
      ∙ ap (λ n. made (length (drawn (length m.config.fields) seed count)) (length all) (fold_of (packets_of (emitted hash m.config all))) n) (total_is ∙ ap total_of state_is)
    where
      made : ℕ → ℕ → ℕ → ℕ → Summary
      made packets cycles fold total = record { packets = packets; cycles = cycles; fold = fold; total = total }

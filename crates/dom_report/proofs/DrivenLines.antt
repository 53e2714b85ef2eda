-- The lines of the packets that leave, cycle by cycle.
use Rattle.std.proofs.Common.{◌≡◌, ℕ, ◌+◌, ◌<◌, List, [], ◌∷◌, ◌++◌, length, map, take, slice_index_or, refl, sym, ap, ◌∙◌, length-append, subst, Option, Some, None, arith}
use Rattle.std.proofs.Math.Seq.{take-append-add, take-append_seam}
use Rattle.pipeline_law.specs.Pipeline.{left, piped}
use Rattle.dom_words.specs.State.{Hash}
use Rattle.dom_io.specs.Held.{IsPart, appended}
use Rattle.trace_text.specs.Lines.{Legend}
use Rattle.banzai_config.specs.Action.{Entry, acts}
use Rattle.banzai_config.specs.Parts.{PartsForm}
use Rattle.banzai_machine.specs.Pipe.{clocked, emitted, entered, leaves_with, pipe, shown}
use Rattle.banzai_machine.specs.State.{MachineForm, Stands}
use Rattle.dom_report.specs.Clocking.{Cycle, StoppedIn, after_cycle, after_cycles, after_entries, bytes_over, cycles_from, left_over}
use Rattle.dom_report.specs.Driving.{StopsAtLine}
use Rattle.dom_report.specs.Report.{cycle_line, packet_lines}
use Rattle.dom_report.proofs.Cycles.{stopped_part}

-- what the lines put after a cycle
abbrev pub line_bytes : Legend → Cycle → List ℕ
line_bytes lines cycle = cycle_line cycle.number cycle.left

abbrev pub same_lines : Legend → Cycle → Legend
same_lines lines cycle = lines

module _ (hash : Hash) where
  pub config_after : (m : MachineForm) (entries : List Entry) → (after_entries hash m entries).config ≡ m.config
  config_after m [] = refl
  config_after m (x ∷ xs) = config_after (after_cycle hash m x) xs

  pub row_after_entries : (m : MachineForm) (entries : List Entry) → (after_entries hash m entries).row ≡ piped (acts hash) clocked m.config.stages m.row (map (entered m.config) entries)
  row_after_entries m [] = refl
  row_after_entries m (x ∷ xs) = row_after_entries (after_cycle hash m x) xs

  lines_over : (lines : Legend) (m : MachineForm) (number : ℕ) (entries : List Entry) → bytes_over line_bytes same_lines lines (cycles_from hash m number entries) ≡ packet_lines number (left_over hash m entries)
  lines_over lines m number [] = refl
  lines_over lines m number (x ∷ xs) = ap (λ l. cycle_line number (leaves_with hash m.config m.row x) ++ l) (lines_over lines (after_cycle hash m x) (number + 1) xs)

  pub lines_kept : (lines : Legend) (cycles : List Cycle) → after_cycles line_bytes same_lines lines cycles ≡ lines
  lines_kept lines [] = refl
  lines_kept lines (cycle ∷ cycles) = lines_kept lines cycles

  -- what leaves in the cycle behind some
  pub left_at : (m : MachineForm) (xs : List Entry) (x : Entry) (ys : List Entry)
      → slice_index_or (left_over hash m (xs ++ x ∷ ys)) (length xs) None ≡ leaves_with hash (after_entries hash m xs).config (after_entries hash m xs).row x
  left_at m [] x ys = refl
  left_at m (z ∷ zs) x ys = left_at (after_cycle hash m z) zs x ys

  module _ (m : MachineForm) (start : Stands hash [] m) where
    pub left_is_emitted : (entries : List Entry) → left_over hash m entries ≡ emitted hash m.config entries
    left_is_emitted entries = ap (λ r. map (shown m.config) (left (acts hash) clocked m.config.stages r (map (entered m.config) entries))) start

    -- from its beginning, the machine stands at the entries
    pub stands_after : (m' : MachineForm) (entries : List Entry) → m' ≡ after_entries hash m entries → Stands hash entries m'
    stands_after m' entries machine_is =
        ap (λ (n : MachineForm). n.row) machine_is ∙ row_after_entries m entries ∙ ap (λ r. piped (acts hash) clocked m.config.stages r (map (entered m.config) entries)) start
        ∙ ap (λ (p : PartsForm). pipe hash p entries) (sym (ap (λ (n : MachineForm). n.config) machine_is ∙ config_after m entries))

    pub lines_from_start : (lines : Legend) (entries : List Entry) → bytes_over line_bytes same_lines lines (cycles_from hash m 0 entries) ≡ packet_lines 0 (emitted hash m.config entries)
    lines_from_start lines entries = lines_over lines m 0 entries ∙ ap (packet_lines 0) (left_is_emitted entries)

    -- where a line failed
    pub line_stop : (m' : MachineForm) (lines : Legend) (h h' : Option (List ℕ)) (entries : List Entry) → StoppedIn line_bytes same_lines hash m m' lines h h' 0 entries → StopsAtLine hash entries m' h h'
    line_stop m' lines h h' entries stop =
        let n : ℕ = length stop.before in
        let out : Entry = leaves_with hash (after_entries hash m stop.before).config (after_entries hash m stop.before).row stop.entry in
        let config_is : m.config ≡ m'.config = sym (ap (λ (k : MachineForm). k.config) stop.machine_is ∙ config_after m (stop.before ++ stop.entry ∷ [])) in
        let upto : stop.before ++ stop.entry ∷ [] ≡ take (n + 1) entries = sym (ap (take (n + 1)) stop.entries_are ∙ take-append-add stop.before (stop.entry ∷ stop.behind) 1) in
        let front : stop.before ≡ take n entries = sym (ap (take n) stop.entries_are ∙ take-append_seam stop.before (stop.entry ∷ stop.behind)) in
        let line_is : stop.last ≡ cycle_line n out = stop.last_is ∙ ap (λ k. cycle_line k out) (let e : 0 + n ≡ n = omega arith in e) in
        let told = some_left n out (subst (λ (l : List ℕ). 0 < length l) line_is stop.some) in
        record {
          before = n;
          within = omega (arith, ap length stop.entries_are, length-append stop.before (stop.entry ∷ stop.behind));
          stands = subst (λ (l : List Entry). Stands hash l m') upto (stands_after m' (stop.before ++ stop.entry ∷ []) stop.machine_is);
          packet = told.0;
          leaves =
              ap (λ (p : PartsForm). slice_index_or (emitted hash p entries) n None) (sym config_is)
              ∙ ap (λ l. slice_index_or l n None) (sym (left_is_emitted entries)) ∙ ap (λ l. slice_index_or (left_over hash m l) n None) stop.entries_are
              ∙ left_at m stop.before stop.entry stop.behind ∙ told.1;
          part =
              subst (λ (l : List ℕ). IsPart (appended h (packet_lines 0 (emitted hash m'.config (take n entries)))) h' l) (line_is ∙ ap (cycle_line n) told.1)
              (subst (λ (k : Option (List ℕ)). IsPart k h' stop.last)
              (ap (appended h) (lines_from_start lines stop.before ∙ ap (λ l. packet_lines 0 (emitted hash m.config l)) front ∙ ap (λ (p : PartsForm). packet_lines 0 (emitted hash p (take n entries))) config_is))
              stop.part);
        }
      where
        some_left : (k : ℕ) (out : Entry) → 0 < length (cycle_line k out) → (packet : List ℕ) × (out ≡ Some packet)
        some_left k None some = absurd (omega (arith, some))
        some_left k (Some packet) some = (packet, refl)

    -- the lines of the cycles before it, and some first bytes of its own, are a part of all lines
    pub part_of_lines : (m' : MachineForm) (lines : Legend) (h h' : Option (List ℕ)) (entries : List Entry) → StoppedIn line_bytes same_lines hash m m' lines h h' 0 entries → IsPart h h' (packet_lines 0 (emitted hash m.config entries))
    part_of_lines m' lines h h' entries stop =
        subst (λ (l : List ℕ). IsPart h h' l) (lines_from_start lines entries) (stopped_part line_bytes same_lines hash m m' lines h h' 0 entries stop)

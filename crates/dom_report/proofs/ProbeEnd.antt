-- What stands behind the packets of a run under taps, and the whole report.
use Rattle.std.proofs.Common.{◌≡◌, ℕ, zero, suc, ◌+◌, List, [], ◌∷◌, ◌++◌, length, map, take, slice_get, refl, sym, ap, ◌∙◌, subst, append-nil, arith, Option, Some, Result, codes}
use Rattle.std.proofs.Math.Seq.{take-length}
use Rattle.std.proofs.lemmas.List.{length-map}
use Rattle.pipeline_law.specs.Pipeline.{Row}
use Rattle.dom_words.specs.State.{Hash}
use Rattle.dom_io.specs.Held.{IsPart, Puts, appended}
use Rattle.dom_io.specs.declared.sink.SinkFault.{SinkFault}
use Rattle.trace_text.specs.Lines.{done_line, head_line, joined, tap_line}
use Rattle.trace_text.specs.Trace.{entries}
use Rattle.banzai_config.specs.Action.{Arrays, Entry}
use Rattle.banzai_config.specs.Parts.{PartsForm}
use Rattle.banzai_machine.specs.Alone.{packets_of}
use Rattle.banzai_machine.specs.Pipe.{drain, emitted, pipe}
use Rattle.banzai_machine.specs.State.{Stands}
use Rattle.probe_taps.specs.Attached.{AttachedForm, TappedForm}
use Rattle.probe_taps.specs.Runs.{IsTapped, after_run}
use Rattle.probe_taps.proofs.Runs.{begins, map_map}
use Rattle.dom_report.specs.Clocking.{left_over}
use Rattle.dom_report.specs.Report.{packet_lines}
use Rattle.dom_report.specs.SerialReport.{state_lines}
use Rattle.dom_report.specs.ProbeReport.{numbers_over, probe_end, probe_report, tap_lines}
use Rattle.dom_report.specs.RunReport.{array_names, places_from}
use Rattle.dom_report.specs.Tapping.{TappedOver}
use Rattle.dom_report.proofs.DrivenLines.{left_is_emitted}
use Rattle.dom_report.proofs.InTurn.{joined-append}
use Rattle.dom_report.proofs.Packets.{packets_of-entries}
use Rattle.dom_report.proofs.Parts.{part_after, part_before, put_then}
use Rattle.dom_report.proofs.Reports.{puts_after}

-- The lines of the taps.

tap_next : (position : ℕ) (numbers : List ℕ) (k number : ℕ) → slice_get numbers k ≡ Some number
    → tap_lines position (take (suc k) numbers) ≡ tap_lines position (take k numbers) ++ tap_line (position + k) number ∷ []
tap_next position [] k number is = absurd (cc)
tap_next position (n ∷ numbers) zero number is =
    let same : n ≡ number = cc in
    let here : position ≡ position + 0 = omega arith in
    ap (λ m. tap_line position m ∷ []) same ∙ ap (λ m. tap_line m number ∷ []) here
tap_next position (n ∷ numbers) (suc k) number is =
    let later : position + 1 + k ≡ position + suc k = omega arith in
    ap (λ l. tap_line position n ∷ l) (tap_next (position + 1) numbers k number is)
    ∙ ap (λ m. tap_lines position (take (suc k) (n ∷ numbers)) ++ tap_line m number ∷ []) later

tap_rest : (position : ℕ) (numbers : List ℕ) (k : ℕ) → (rest : List (List ℕ)) × (tap_lines position numbers ≡ tap_lines position (take k numbers) ++ rest)
tap_rest position numbers zero = (tap_lines position numbers, refl)
tap_rest position [] (suc k) = ([], refl)
tap_rest position (n ∷ numbers) (suc k) = let r = tap_rest (position + 1) numbers k in (r.0, ap (λ l. tap_line position n ∷ l) r.1)

module _ (numbers : List ℕ) (k place number : ℕ) (h0 h1 h2 : Option (List ℕ)) (place_is : place ≡ k + 1) (told : slice_get numbers k ≡ Some number) where
  tap_front : joined (tap_lines 1 (take (k + 1) numbers)) ≡ joined (tap_lines 1 (take k numbers)) ++ tap_line place number
  tap_front =
      let next : k + 1 ≡ suc k = omega arith in
      let at : 1 + k ≡ place = omega (arith, place_is) in
      ap (λ n. joined (tap_lines 1 (take n numbers))) next ∙ ap joined (tap_next 1 numbers k number told)
      ∙ joined-append (tap_lines 1 (take k numbers)) (tap_line (1 + k) number ∷ [])
      ∙ ap (λ l. joined (tap_lines 1 (take k numbers)) ++ l) (append-nil (tap_line (1 + k) number) ∙ ap (λ n. tap_line n number) at)

  pub tap_more : h1 ≡ appended h0 (joined (tap_lines 1 (take k numbers))) → h2 ≡ appended h1 (tap_line place number)
      → h2 ≡ appended h0 (joined (tap_lines 1 (take (k + 1) numbers)))
  tap_more first put = put_then h0 h1 h2 (joined (tap_lines 1 (take k numbers))) (tap_line place number) first put ∙ ap (appended h0) (sym tap_front)

  pub tap_stop : h1 ≡ appended h0 (joined (tap_lines 1 (take k numbers))) → IsPart h1 h2 (tap_line place number) → IsPart h0 h2 (joined (tap_lines 1 numbers))
  tap_stop first part =
      let here : IsPart h0 h2 (joined (tap_lines 1 (take (k + 1) numbers))) =
      subst (λ (l : List ℕ). IsPart h0 h2 l) (sym tap_front)
      (part_after h0 h1 h2 (joined (tap_lines 1 (take k numbers))) (tap_line place number) first part) in
      let rest = tap_rest 1 numbers (k + 1) in
      subst (λ (l : List ℕ). IsPart h0 h2 l) (sym (ap joined rest.1 ∙ joined-append (tap_lines 1 (take (k + 1) numbers)) rest.0))
      (part_before h0 h2 (joined (tap_lines 1 (take (k + 1) numbers))) (joined rest.0) here)

pub taps_all : (numbers : List ℕ) (k : ℕ) (h0 h1 : Option (List ℕ)) → k ≡ length numbers → h1 ≡ appended h0 (joined (tap_lines 1 (take k numbers)))
    → h1 ≡ appended h0 (joined (tap_lines 1 numbers))
taps_all numbers k h0 h1 all put = put ∙ ap (λ l. appended h0 (joined (tap_lines 1 l))) (ap (λ n. take n numbers) all ∙ take-length numbers)

-- The end.

module _ (p : PartsForm) (arrays : Arrays) (numbers : List ℕ) (packets cycles : ℕ) where
  abbrev words : List ℕ
  words = joined (state_lines (array_names p) arrays)

  abbrev places : List ℕ
  places = joined (places_from p.stages 0 (array_names p))

  abbrev told : List ℕ
  told = joined (tap_lines 1 numbers)

  abbrev done : List ℕ
  done = done_line packets (Some cycles)

  end_is : joined (probe_end p arrays numbers packets cycles) ≡ words ++ (places ++ (told ++ done))
  end_is =
      joined-append (state_lines (array_names p) arrays) (places_from p.stages 0 (array_names p) ++ (tap_lines 1 numbers ++ done ∷ []))
      ∙ ap (λ l. words ++ l)
      (joined-append (places_from p.stages 0 (array_names p)) (tap_lines 1 numbers ++ done ∷ [])
      ∙ ap (λ l. places ++ l) (joined-append (tap_lines 1 numbers) (done ∷ []) ∙ ap (λ l. told ++ l) (append-nil done)))

  pub end_put : (h0 h1 h2 h3 h4 : Option (List ℕ)) (result : Result (Unit {0}) SinkFault) → h1 ≡ appended h0 words → h2 ≡ appended h1 places → h3 ≡ appended h2 told → Puts h3 h4 done result
      → Puts h0 h4 (joined (probe_end p arrays numbers packets cycles)) result
  end_put h0 h1 h2 h3 h4 result first second third last =
      subst (λ (l : List ℕ). Puts h0 h4 l result) (sym end_is)
      (puts_after result h0 h1 h4 words (places ++ (told ++ done)) first
      (puts_after result h1 h2 h4 places (told ++ done) second (puts_after result h2 h3 h4 told done third last)))

  pub words_stop : (h0 h1 : Option (List ℕ)) → IsPart h0 h1 words → IsPart h0 h1 (joined (probe_end p arrays numbers packets cycles))
  words_stop h0 h1 part = subst (λ (l : List ℕ). IsPart h0 h1 l) (sym end_is) (part_before h0 h1 words (places ++ (told ++ done)) part)

  pub places_stop : (h0 h1 h2 : Option (List ℕ)) → h1 ≡ appended h0 words → IsPart h1 h2 places → IsPart h0 h2 (joined (probe_end p arrays numbers packets cycles))
  places_stop h0 h1 h2 first part =
      subst (λ (l : List ℕ). IsPart h0 h2 l) (sym end_is)
      (part_after h0 h1 h2 words (places ++ (told ++ done)) first (part_before h1 h2 places (told ++ done) part))

  pub taps_stop : (h0 h1 h2 h3 : Option (List ℕ)) → h1 ≡ appended h0 words → h2 ≡ appended h1 places → IsPart h2 h3 told → IsPart h0 h3 (joined (probe_end p arrays numbers packets cycles))
  taps_stop h0 h1 h2 h3 first second part =
      subst (λ (l : List ℕ). IsPart h0 h3 l) (sym end_is)
      (part_after h0 h1 h3 words (places ++ (told ++ done)) first
      (part_after h1 h2 h3 places (told ++ done) second (part_before h2 h3 told done part)))

-- The report.

module _ (hash : Hash) (s : TappedForm) (start : Stands hash [] s.machine) (ps : List (ℕ × List ℕ)) where
  abbrev p : PartsForm
  p = s.machine.config

  abbrev all : List Entry
  all = entries ps ++ drain p

  abbrev heading : List ℕ
  heading = head_line (codes "cycle") p.fields

  abbrev turns : List ℕ
  turns = packet_lines 0 (emitted hash p all)

  abbrev last : List ℕ
  last = joined (probe_end p (pipe hash p all).state (numbers_over hash p s.taps all) (length (packets_of (entries ps))) (length all))

  lines_are : packet_lines 0 (left_over hash s.machine all) ≡ turns
  lines_are = ap (packet_lines 0) (left_is_emitted hash s.machine start all)

  pub heading_stop : (h0 h1 : Option (List ℕ)) → IsPart h0 h1 heading → IsPart h0 h1 (probe_report hash s.taps p (entries ps))
  heading_stop h0 h1 part = part_before h0 h1 heading (turns ++ last) part

  pub run_stop : (h0 h1 h2 : Option (List ℕ)) → h1 ≡ appended h0 heading → IsPart h1 h2 (packet_lines 0 (left_over hash s.machine all)) → IsPart h0 h2 (probe_report hash s.taps p (entries ps))
  run_stop h0 h1 h2 head part =
      part_after h0 h1 h2 heading (turns ++ last) head (part_before h1 h2 turns last (subst (λ (l : List ℕ). IsPart h1 h2 l) lines_are part))

  module _ (count_from_0 : s.cycle ≡ 0) (t : TappedForm) (h1 h2 : Option (List ℕ)) (run : TappedOver hash s t h1 h2 0 all) where
    -- all taps have seen what stood before their stages
    pub is_tapped : IsTapped hash [] all s.taps t
    is_tapped = run.run_goes_on [] [] s.taps (begins hash [] s start count_from_0)

    pub report_put : (h0 h3 : Option (List ℕ)) (result : Result (Unit {0}) SinkFault) (packets cycles : ℕ) → t.machine.config ≡ p → packets ≡ length ps → cycles ≡ length all → h1 ≡ appended h0 heading
        → Puts h2 h3 (joined (probe_end t.machine.config t.machine.row.state (map (λ a. a.tap.number) t.taps) packets cycles)) result → Puts h0 h3 (probe_report hash s.taps p (entries ps)) result
    report_put h0 h3 result packets cycles config_is packets_are cycles_are head end =
        let state_is : t.machine.row.state ≡ (pipe hash p all).state =
        ap (λ (r : Row Arrays Entry). r.state) is_tapped.machine ∙ ap (λ (q : PartsForm). (pipe hash q all).state) config_is in
        let numbers_are : map (λ a. a.tap.number) t.taps ≡ numbers_over hash p s.taps all =
        ap (λ (l : List AttachedForm). map (λ a. a.tap.number) l) is_tapped.taps
        ∙ map_map (λ (a : AttachedForm). a.tap.number) (after_run hash t.machine.config [] all) (λ a. (after_run hash t.machine.config [] all a).tap.number) (λ _. refl) s.taps
        ∙ ap (λ (q : PartsForm). numbers_over hash q s.taps all) config_is in
        let count : packets ≡ length (packets_of (entries ps)) = packets_are ∙ sym (ap length (packets_of-entries ps) ∙ length-map ps (λ q. q.1)) in
        let same : joined (probe_end t.machine.config t.machine.row.state (map (λ a. a.tap.number) t.taps) packets cycles) ≡ last =
        rw (config_is, state_is, numbers_are, count, cycles_are) refl in
        puts_after result h0 h1 h3 heading (turns ++ last) head
        (puts_after result h1 h2 h3 turns last (run.held_is ∙ ap (appended h1) lines_are) (subst (λ (l : List ℕ). Puts h2 h3 l result) same end))

-- as many taps as before
pub same_length : {X Y : Type 0} (f : X → Y) (g : Y → Y) (xs ys : List X) → map f ys ≡ map g (map f xs) → length ys ≡ length xs
same_length f g xs ys is = sym (length-map ys f) ∙ ap length is ∙ length-map (map f xs) g ∙ length-map xs f

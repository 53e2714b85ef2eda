-- What stands behind the packets of a machine's run, and the whole report.
use Rattle.std.proofs.Common.{◌≡◌, ℕ, zero, suc, ◌+◌, ◌<◌, List, [], ◌∷◌, ◌++◌, length, take, refl, sym, ap, ◌∙◌, subst, append_assoc, append-nil, length-append, arith, Option, None, Some, Result, codes}
use Rattle.std.proofs.Math.Seq.{take-length}
use Rattle.pipeline_law.specs.Pipeline.{Row}
use Rattle.dom_words.specs.State.{Hash}
use Rattle.dom_io.specs.Held.{IsPart, Puts, appended}
use Rattle.dom_io.specs.declared.sink.SinkFault.{SinkFault}
use Rattle.trace_text.specs.Lines.{done_line, head_line, joined, name_at}
use Rattle.trace_text.specs.Trace.{entries}
use Rattle.banzai_config.specs.Action.{Arrays, Entry}
use Rattle.banzai_config.specs.Parts.{PartsForm, StageForm}
use Rattle.banzai_config.specs.Places.{place_of}
use Rattle.banzai_machine.specs.Alone.{packets_of}
use Rattle.banzai_machine.specs.Pipe.{drain, emitted, pipe}
use Rattle.banzai_machine.specs.State.{MachineForm, Stands}
use Rattle.dom_report.specs.Report.{packet_lines}
use Rattle.dom_report.specs.SerialReport.{state_lines}
use Rattle.dom_report.specs.RunReport.{array_names, places_from, run_end, run_report, stage_lines}
use Rattle.dom_report.proofs.InTurn.{joined-append}
use Rattle.dom_report.proofs.Packets.{packets_of-entries}
use Rattle.dom_report.proofs.Parts.{part_after, part_before, put_then}
use Rattle.dom_report.proofs.Reports.{puts_after}
use Rattle.std.proofs.lemmas.List.{length-map, length-replicate}

-- The stages of the arrays.

places_next : (stages : List StageForm) (k : ℕ) (names : List (List ℕ)) (a : ℕ) → a < length names
    → places_from stages k (take (suc a) names) ≡ places_from stages k (take a names) ++ stage_lines (name_at names a) (place_of stages (k + a))
places_next stages k [] a inside = absurd (omega arith)
places_next stages k (name ∷ names) zero inside =
    append-nil (stage_lines name (place_of stages k)) ∙ ap (λ n. stage_lines name (place_of stages n)) (let e : k ≡ k + 0 = omega arith in e)
places_next stages k (name ∷ names) (suc a) inside =
    let later : k + 1 + a ≡ k + suc a = omega arith in
    ap (λ l. stage_lines name (place_of stages k) ++ l) (places_next stages (k + 1) names a (omega (arith, inside)))
    ∙ sym (append_assoc (stage_lines name (place_of stages k)) (places_from stages (k + 1) (take a names)) (stage_lines (name_at names a) (place_of stages (k + 1 + a))))
    ∙ ap (λ n. places_from stages k (take (suc a) (name ∷ names)) ++ stage_lines (name_at names a) (place_of stages n)) later

places_rest : (stages : List StageForm) (k : ℕ) (names : List (List ℕ)) (a : ℕ) → (rest : List (List ℕ)) × (places_from stages k names ≡ places_from stages k (take a names) ++ rest)
places_rest stages k names zero = (places_from stages k names, refl)
places_rest stages k [] (suc a) = ([], refl)
places_rest stages k (name ∷ names) (suc a) =
    let r = places_rest stages (k + 1) names a in
    (r.0, ap (λ l. stage_lines name (place_of stages k) ++ l) r.1 ∙ sym (append_assoc (stage_lines name (place_of stages k)) (places_from stages (k + 1) (take a names)) r.0))

module _ (stages : List StageForm) (names : List (List ℕ)) (a : ℕ) (h0 h1 h2 : Option (List ℕ)) (inside : a < length names) where
  places_front : joined (places_from stages 0 (take (a + 1) names)) ≡ joined (places_from stages 0 (take a names)) ++ joined (stage_lines (name_at names a) (place_of stages a))
  places_front =
      let e : a + 1 ≡ suc a = omega arith in
      let at : 0 + a ≡ a = omega arith in
      ap (λ n. joined (places_from stages 0 (take n names))) e ∙ ap joined (places_next stages 0 names a inside)
      ∙ joined-append (places_from stages 0 (take a names)) (stage_lines (name_at names a) (place_of stages (0 + a)))
      ∙ ap (λ n. joined (places_from stages 0 (take a names)) ++ joined (stage_lines (name_at names a) (place_of stages n))) at

  pub place_more : h1 ≡ appended h0 (joined (places_from stages 0 (take a names))) → h2 ≡ appended h1 (joined (stage_lines (name_at names a) (place_of stages a)))
      → h2 ≡ appended h0 (joined (places_from stages 0 (take (a + 1) names)))
  place_more first put =
      put_then h0 h1 h2 (joined (places_from stages 0 (take a names))) (joined (stage_lines (name_at names a) (place_of stages a))) first put ∙ ap (appended h0) (sym places_front)

  pub place_stop : h1 ≡ appended h0 (joined (places_from stages 0 (take a names))) → IsPart h1 h2 (joined (stage_lines (name_at names a) (place_of stages a)))
      → IsPart h0 h2 (joined (places_from stages 0 names))
  place_stop first part =
      let here : IsPart h0 h2 (joined (places_from stages 0 (take (a + 1) names))) =
      subst (λ (l : List ℕ). IsPart h0 h2 l) (sym places_front)
      (part_after h0 h1 h2 (joined (places_from stages 0 (take a names))) (joined (stage_lines (name_at names a) (place_of stages a))) first part) in
      let rest = places_rest stages 0 names (a + 1) in
      subst (λ (l : List ℕ). IsPart h0 h2 l) (sym (ap joined rest.1 ∙ joined-append (places_from stages 0 (take (a + 1) names)) rest.0))
      (part_before h0 h2 (joined (places_from stages 0 (take (a + 1) names))) (joined rest.0) here)

pub places_all : (stages : List StageForm) (names : List (List ℕ)) (a : ℕ) (h0 h1 : Option (List ℕ)) → a ≡ length names
    → h1 ≡ appended h0 (joined (places_from stages 0 (take a names))) → h1 ≡ appended h0 (joined (places_from stages 0 names))
places_all stages names a h0 h1 all put = put ∙ ap (λ l. appended h0 (joined (places_from stages 0 l))) (ap (λ n. take n names) all ∙ take-length names)

-- The end.

module _ (p : PartsForm) (arrays : Arrays) (packets cycles : ℕ) where
  abbrev words : List ℕ
  words = joined (state_lines (array_names p) arrays)

  abbrev places : List ℕ
  places = joined (places_from p.stages 0 (array_names p))

  end_is : joined (run_end p arrays packets cycles) ≡ words ++ (places ++ done_line packets (Some cycles))
  end_is =
      joined-append (state_lines (array_names p) arrays) (places_from p.stages 0 (array_names p) ++ done_line packets (Some cycles) ∷ [])
      ∙ ap (λ l. words ++ l) (joined-append (places_from p.stages 0 (array_names p)) (done_line packets (Some cycles) ∷ []) ∙ ap (λ l. places ++ l) (append-nil (done_line packets (Some cycles))))

  pub end_put : (h0 h1 h2 h3 : Option (List ℕ)) (result : Result (Unit {0}) SinkFault) → h1 ≡ appended h0 words → h2 ≡ appended h1 places → Puts h2 h3 (done_line packets (Some cycles)) result
      → Puts h0 h3 (joined (run_end p arrays packets cycles)) result
  end_put h0 h1 h2 h3 result first second last =
      subst (λ (l : List ℕ). Puts h0 h3 l result) (sym end_is)
      (puts_after result h0 h1 h3 words (places ++ done_line packets (Some cycles)) first (puts_after result h1 h2 h3 places (done_line packets (Some cycles)) second last))

  pub words_stop : (h0 h1 : Option (List ℕ)) → IsPart h0 h1 words → IsPart h0 h1 (joined (run_end p arrays packets cycles))
  words_stop h0 h1 part = subst (λ (l : List ℕ). IsPart h0 h1 l) (sym end_is) (part_before h0 h1 words (places ++ done_line packets (Some cycles)) part)

  pub places_stop : (h0 h1 h2 : Option (List ℕ)) → h1 ≡ appended h0 words → IsPart h1 h2 places → IsPart h0 h2 (joined (run_end p arrays packets cycles))
  places_stop h0 h1 h2 first part =
      subst (λ (l : List ℕ). IsPart h0 h2 l) (sym end_is)
      (part_after h0 h1 h2 words (places ++ done_line packets (Some cycles)) first (part_before h1 h2 places (done_line packets (Some cycles)) part))

-- The report.

module _ (hash : Hash) (p : PartsForm) (ps : List (ℕ × List ℕ)) where
  abbrev all : List Entry
  all = entries ps ++ drain p

  abbrev heading : List ℕ
  heading = head_line (codes "cycle") p.fields

  abbrev turns : List ℕ
  turns = packet_lines 0 (emitted hash p all)

  abbrev last : List ℕ
  last = joined (run_end p (pipe hash p all).state (length (packets_of (entries ps))) (length all))

  pub run_put : (m : MachineForm) (h0 h1 h2 h3 : Option (List ℕ)) (result : Result (Unit {0}) SinkFault) (packets cycles : ℕ)
      → m.config ≡ p → Stands hash all m → packets ≡ length ps → cycles ≡ length all → h1 ≡ appended h0 heading → h2 ≡ appended h1 turns
      → Puts h2 h3 (joined (run_end p m.row.state packets cycles)) result → Puts h0 h3 (run_report hash p (entries ps)) result
  run_put m h0 h1 h2 h3 result packets cycles config_is stands packets_are cycles_are head ran end =
      let state_is : m.row.state ≡ (pipe hash p all).state = ap (λ (r : Row Arrays Entry). r.state) stands ∙ ap (λ (q : PartsForm). (pipe hash q all).state) config_is in
      let count : packets ≡ length (packets_of (entries ps)) = packets_are ∙ sym (ap length (packets_of-entries ps) ∙ length-map ps (λ q. q.1)) in
      let same : joined (run_end p m.row.state packets cycles) ≡ last =
      ap (λ s. joined (run_end p s packets cycles)) state_is ∙ ap (λ n. joined (run_end p (pipe hash p all).state n cycles)) count
      ∙ ap (λ n. joined (run_end p (pipe hash p all).state (length (packets_of (entries ps))) n)) cycles_are in
      puts_after result h0 h1 h3 heading (turns ++ last) head
      (puts_after result h1 h2 h3 turns last ran (subst (λ (l : List ℕ). Puts h2 h3 l result) same end))

  pub heading_stop : (h0 h1 : Option (List ℕ)) → IsPart h0 h1 heading → IsPart h0 h1 (run_report hash p (entries ps))
  heading_stop h0 h1 part = part_before h0 h1 heading (turns ++ last) part

  pub run_stop : (h0 h1 h2 : Option (List ℕ)) → h1 ≡ appended h0 heading → IsPart h1 h2 turns → IsPart h0 h2 (run_report hash p (entries ps))
  run_stop h0 h1 h2 head part = part_after h0 h1 h2 heading (turns ++ last) head (part_before h1 h2 turns last part)

  -- the entries of the trace and those of the drain
  pub all_cycles : (cycles depth : ℕ) → cycles ≡ length (entries ps) → depth ≡ length p.stages → cycles + depth ≡ length all
  all_cycles cycles depth cycles_are depth_is = omega (arith, cycles_are, depth_is, length-append (entries ps) (drain p), length-replicate {A = Entry} (length p.stages) None)

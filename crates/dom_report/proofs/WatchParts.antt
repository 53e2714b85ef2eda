-- The lines of one cycle, put one after another.
use Rattle.std.proofs.Common.{◌≡◌, ℕ, suc, ◌+◌, ◌<◌, List, [], ◌∷◌, ◌++◌, length, take, drop, get_or, drop-cons, sym, ap, ◌∙◌, subst, append_assoc, append-nil, arith, Option, None, Result}
use Rattle.std.proofs.Math.Seq.{take-length}
use Rattle.std.proofs.lemmas.List.{length-take, map-append, take-append-drop, take_more}
use Rattle.dom_io.specs.Held.{IsPart, Puts, appended}
use Rattle.dom_io.specs.declared.sink.SinkFault.{SinkFault}
use Rattle.trace_text.specs.Lines.{clock_line, joined, name_at, touch_line}
use Rattle.banzai_config.specs.Action.{Entry}
use Rattle.banzai_machine.specs.declared.touch.Touch.{Touch}
use Rattle.dom_report.specs.Clocking.{Cycle}
use Rattle.dom_report.specs.RunReport.{array_names}
use Rattle.dom_report.specs.WatchReport.{filled_lines, moment_lines, out_lines, register_lines, touch_lines}
use Rattle.dom_report.proofs.InTurn.{joined-append}
use Rattle.dom_report.proofs.Parts.{part_after, part_before, put_then}
use Rattle.dom_report.proofs.Reports.{puts_after}

-- Lines behind lines.

pub lines_more : (h0 h1 h2 : Option (List ℕ)) (before here upto : List (List ℕ)) → upto ≡ before ++ here → h1 ≡ appended h0 (joined before) → h2 ≡ appended h1 (joined here) → h2 ≡ appended h0 (joined upto)
lines_more h0 h1 h2 before here upto is first put =
    put_then h0 h1 h2 (joined before) (joined here) first put ∙ ap (appended h0) (sym (joined-append before here) ∙ ap joined (sym is))

pub lines_stop : (h0 h1 h2 : Option (List ℕ)) (before here rest all : List (List ℕ)) → all ≡ before ++ (here ++ rest) → h1 ≡ appended h0 (joined before) → IsPart h1 h2 (joined here) → IsPart h0 h2 (joined all)
lines_stop h0 h1 h2 before here rest all is first part =
    let apart : joined all ≡ joined before ++ (joined here ++ joined rest) =
    ap joined is ∙ joined-append before (here ++ rest) ∙ ap (λ l. joined before ++ l) (joined-append here rest) in
    subst (λ (l : List ℕ). IsPart h0 h2 l) (sym apart)
    (part_after h0 h1 h2 (joined before) (joined here ++ joined rest) first (part_before h1 h2 (joined here) (joined rest) part))

-- The registers.

register_lines-append : (k : ℕ) (xs ys : List Entry) → register_lines k (xs ++ ys) ≡ register_lines k xs ++ register_lines (k + length xs) ys
register_lines-append k [] ys = ap (λ n. register_lines n ys) (omega arith)
register_lines-append k (x ∷ xs) ys =
    let later : k + 1 + length xs ≡ k + suc (length xs) = omega arith in
    ap (λ l. filled_lines k x ++ l) (register_lines-append (k + 1) xs ys ∙ ap (λ n. register_lines (k + 1) xs ++ register_lines n ys) later)
    ∙ sym (append_assoc (filled_lines k x) (register_lines (k + 1) xs) (register_lines (k + length (x ∷ xs)) ys))

module _ (registers : List Entry) (k number : ℕ) (register : Entry) (h0 h1 h2 : Option (List ℕ)) (inside : k < length registers) (number_is : number ≡ k) (register_is : register ≡ get_or registers k None) where
  short : 0 + length (take k registers) ≡ number
  short = omega (arith, inside, number_is, length-take k registers)

  registers_front : register_lines 0 (take (k + 1) registers) ≡ register_lines 0 (take k registers) ++ filled_lines number register
  registers_front =
      ap (register_lines 0) (take_more registers k None inside ∙ ap (λ r. take k registers ++ r ∷ []) (sym register_is))
      ∙ register_lines-append 0 (take k registers) (register ∷ [])
      ∙ ap (λ n. register_lines 0 (take k registers) ++ register_lines n (register ∷ [])) short
      ∙ ap (λ l. register_lines 0 (take k registers) ++ l) (append-nil (filled_lines number register))

  registers_around : register_lines 0 registers ≡ register_lines 0 (take k registers) ++ (filled_lines number register ++ register_lines (number + 1) (drop (suc k) registers))
  registers_around =
      ap (register_lines 0) (sym (take-append-drop k registers) ∙ ap (λ l. take k registers ++ l) (drop-cons registers k None inside ∙ ap (λ r. r ∷ drop (suc k) registers) (sym register_is)))
      ∙ register_lines-append 0 (take k registers) (register ∷ drop (suc k) registers)
      ∙ ap (λ n. register_lines 0 (take k registers) ++ register_lines n (register ∷ drop (suc k) registers)) short

  pub register_more : h1 ≡ appended h0 (joined (register_lines 0 (take k registers))) → h2 ≡ appended h1 (joined (filled_lines number register)) → h2 ≡ appended h0 (joined (register_lines 0 (take (k + 1) registers)))
  register_more first put = lines_more h0 h1 h2 (register_lines 0 (take k registers)) (filled_lines number register) (register_lines 0 (take (k + 1) registers)) registers_front first put

  pub register_stop : h1 ≡ appended h0 (joined (register_lines 0 (take k registers))) → IsPart h1 h2 (joined (filled_lines number register)) → IsPart h0 h2 (joined (register_lines 0 registers))
  register_stop first part =
      lines_stop h0 h1 h2 (register_lines 0 (take k registers)) (filled_lines number register) (register_lines (number + 1) (drop (suc k) registers)) (register_lines 0 registers) registers_around first part

pub registers_all : (registers : List Entry) (k : ℕ) (h0 h1 : Option (List ℕ)) → k ≡ length registers → h1 ≡ appended h0 (joined (register_lines 0 (take k registers))) → h1 ≡ appended h0 (joined (register_lines 0 registers))
registers_all registers k h0 h1 all put = put ∙ ap (λ l. appended h0 (joined (register_lines 0 l))) (ap (λ n. take n registers) all ∙ take-length registers)

-- The touches.

module _ (names : List (List ℕ)) (touches : List Touch) (k : ℕ) (touch d : Touch) (h0 h1 h2 : Option (List ℕ)) (inside : k < length touches) (touch_is : touch ≡ get_or touches k d) where
  touches_front : touch_lines names (take (k + 1) touches) ≡ touch_lines names (take k touches) ++ touch_lines names (touch ∷ [])
  touches_front =
      ap (touch_lines names) (take_more touches k d inside ∙ ap (λ t. take k touches ++ t ∷ []) (sym touch_is))
      ∙ map-append (λ (t : Touch). touch_line t.stage (name_at names t.array) t.index) (take k touches) (touch ∷ [])

  touches_around : touch_lines names touches ≡ touch_lines names (take k touches) ++ (touch_lines names (touch ∷ []) ++ touch_lines names (drop (suc k) touches))
  touches_around =
      ap (touch_lines names) (sym (take-append-drop k touches) ∙ ap (λ l. take k touches ++ l) (drop-cons touches k d inside ∙ ap (λ t. t ∷ drop (suc k) touches) (sym touch_is)))
      ∙ map-append (λ (t : Touch). touch_line t.stage (name_at names t.array) t.index) (take k touches) (touch ∷ drop (suc k) touches)

  one_line : joined (touch_lines names (touch ∷ [])) ≡ touch_line touch.stage (name_at names touch.array) touch.index
  one_line = append-nil (touch_line touch.stage (name_at names touch.array) touch.index)

  pub touch_more : h1 ≡ appended h0 (joined (touch_lines names (take k touches))) → h2 ≡ appended h1 (touch_line touch.stage (name_at names touch.array) touch.index)
      → h2 ≡ appended h0 (joined (touch_lines names (take (k + 1) touches)))
  touch_more first put =
      lines_more h0 h1 h2 (touch_lines names (take k touches)) (touch_lines names (touch ∷ [])) (touch_lines names (take (k + 1) touches)) touches_front first (put ∙ ap (appended h1) (sym one_line))

  pub touch_stop : h1 ≡ appended h0 (joined (touch_lines names (take k touches))) → IsPart h1 h2 (touch_line touch.stage (name_at names touch.array) touch.index) → IsPart h0 h2 (joined (touch_lines names touches))
  touch_stop first part =
      lines_stop h0 h1 h2 (touch_lines names (take k touches)) (touch_lines names (touch ∷ [])) (touch_lines names (drop (suc k) touches)) (touch_lines names touches) touches_around first
      (subst (λ (l : List ℕ). IsPart h1 h2 l) (sym one_line) part)

pub touches_all : (names : List (List ℕ)) (touches : List Touch) (k : ℕ) (h0 h1 : Option (List ℕ)) → k ≡ length touches → h1 ≡ appended h0 (joined (touch_lines names (take k touches))) → h1 ≡ appended h0 (joined (touch_lines names touches))
touches_all names touches k h0 h1 all put = put ∙ ap (λ l. appended h0 (joined (touch_lines names l))) (ap (λ n. take n touches) all ∙ take-length touches)

-- A cycle.

module _ (cycle : Cycle) where
  abbrev clock : List ℕ
  clock = clock_line cycle.number

  abbrev left : List ℕ
  left = joined (out_lines cycle.left)

  abbrev filled : List ℕ
  filled = joined (register_lines 0 cycle.machine.row.registers)

  abbrev touched : List ℕ
  touched = joined (touch_lines (array_names cycle.machine.config) cycle.machine.touches)

  moment_is : joined (moment_lines cycle) ≡ clock ++ (left ++ (filled ++ touched))
  moment_is =
      let registers : List (List ℕ) = register_lines 0 cycle.machine.row.registers in
      let touches : List (List ℕ) = touch_lines (array_names cycle.machine.config) cycle.machine.touches in
      ap (λ l. clock ++ l) (joined-append (out_lines cycle.left) (registers ++ touches) ∙ ap (λ l. left ++ l) (joined-append registers touches))

  pub moment_put : (h0 h1 h2 h3 h4 : Option (List ℕ)) (result : Result (Unit {0}) SinkFault) → h1 ≡ appended h0 clock → h2 ≡ appended h1 left → h3 ≡ appended h2 filled → Puts h3 h4 touched result
      → Puts h0 h4 (joined (moment_lines cycle)) result
  moment_put h0 h1 h2 h3 h4 result first second third last =
      subst (λ (l : List ℕ). Puts h0 h4 l result) (sym moment_is)
      (puts_after result h0 h1 h4 clock (left ++ (filled ++ touched)) first
      (puts_after result h1 h2 h4 left (filled ++ touched) second
      (puts_after result h2 h3 h4 filled touched third last)))

  -- a stop in its first line, in that of the packet that leaves, or in those of the registers
  pub clock_stop : (h0 h1 : Option (List ℕ)) → IsPart h0 h1 clock → IsPart h0 h1 (joined (moment_lines cycle))
  clock_stop h0 h1 part = subst (λ (l : List ℕ). IsPart h0 h1 l) (sym moment_is) (part_before h0 h1 clock (left ++ (filled ++ touched)) part)

  pub out_stop : (h0 h1 h2 : Option (List ℕ)) → h1 ≡ appended h0 clock → IsPart h1 h2 left → IsPart h0 h2 (joined (moment_lines cycle))
  out_stop h0 h1 h2 first part =
      subst (λ (l : List ℕ). IsPart h0 h2 l) (sym moment_is)
      (part_after h0 h1 h2 clock (left ++ (filled ++ touched)) first (part_before h1 h2 left (filled ++ touched) part))

  pub filled_stop : (h0 h1 h2 h3 : Option (List ℕ)) → h1 ≡ appended h0 clock → h2 ≡ appended h1 left → IsPart h2 h3 filled → IsPart h0 h3 (joined (moment_lines cycle))
  filled_stop h0 h1 h2 h3 first second part =
      subst (λ (l : List ℕ). IsPart h0 h3 l) (sym moment_is)
      (part_after h0 h1 h3 clock (left ++ (filled ++ touched)) first
      (part_after h1 h2 h3 left (filled ++ touched) second (part_before h2 h3 filled touched part)))

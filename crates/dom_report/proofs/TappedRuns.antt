-- A machine under taps, clocked over entries behind entries.
use Rattle.std.proofs.Common.{◌≡◌, ℕ, suc, ◌+◌, ◌<◌, ◌-◌, ◌^◌, List, [], ◌∷◌, ◌++◌, length, take, drop, get_or, refl, sym, ap, ◌∙◌, subst, append_assoc, append-nil, length-append, Option, Some, None, Result, Ok, Err, OnErr, arith}
use Rattle.std.proofs.Math.Seq.{take-length}
use Rattle.std.proofs.lemmas.List.{length-replicate, replicate-append-replicate}
use Rattle.dom_io.specs.Held.{IsPart, Puts, appended}
use Rattle.dom_words.specs.State.{Hash}
use Rattle.banzai_config.specs.Action.{Entry}
use Rattle.banzai_config.specs.Parts.{PartsForm}
use Rattle.banzai_machine.specs.Pipe.{drain, leaves_with}
use Rattle.banzai_machine.specs.State.{MachineForm}
use Rattle.probe_taps.specs.Attached.{TappedForm}
use Rattle.probe_taps.specs.Runs.{IsTapped}
use Rattle.trace_text.specs.Lines.{packet_line}
use Rattle.trace_text.specs.Trace.{cycles_of, entries}
use Rattle.dom_report.specs.Clocking.{after_cycle, after_entries, left_over}
use Rattle.dom_report.specs.Report.{packet_lines}
use Rattle.dom_report.specs.Tapping.{TappedOver}
use Rattle.dom_report.proofs.Cycles.{after_entries-append, appended-none, behind_idles}
use Rattle.dom_report.proofs.Packets.{entries_around, entries_more, entries_of_one, length-entries}
use Rattle.dom_report.proofs.Parts.{idles, packet_lines-append, part_after, part_before, put_then}

module _ (hash : Hash) where
  left_over-append : (m : MachineForm) (xs ys : List Entry) → left_over hash m (xs ++ ys) ≡ left_over hash m xs ++ left_over hash (after_entries hash m xs) ys
  left_over-append m [] ys = refl
  left_over-append m (x ∷ xs) ys = ap (λ l. leaves_with hash m.config m.row x ∷ l) (left_over-append (after_cycle hash m x) xs ys)

  length-left_over : (m : MachineForm) (xs : List Entry) → length (left_over hash m xs) ≡ length xs
  length-left_over m [] = refl
  length-left_over m (x ∷ xs) = ap suc (length-left_over (after_cycle hash m x) xs)

  -- the lines of what leaves over entries, in cycles from this number on
  abbrev pub lines_of : MachineForm → ℕ → List Entry → List ℕ
  lines_of m number entries = packet_lines number (left_over hash m entries)

  lines_then : (m0 m1 : MachineForm) (number later : ℕ) (xs ys : List Entry) → later ≡ number + length xs → m1 ≡ after_entries hash m0 xs
      → lines_of m0 number (xs ++ ys) ≡ lines_of m0 number xs ++ lines_of m1 later ys
  lines_then m0 m1 number later xs ys at_later machine_is =
      ap (packet_lines number) (left_over-append m0 xs ys)
      ∙ packet_lines-append number (left_over hash m0 xs) (left_over hash (after_entries hash m0 xs) ys)
      ∙ ap (λ n. lines_of m0 number xs ++ packet_lines n (left_over hash (after_entries hash m0 xs) ys)) (ap (λ n. number + n) (length-left_over m0 xs) ∙ sym at_later)
      ∙ ap (λ (m : MachineForm). lines_of m0 number xs ++ lines_of m later ys) (sym machine_is)

  -- no entries
  pub tapped_none : (s : TappedForm) (h : Option (List ℕ)) (number : ℕ) → TappedOver hash s s h h number []
  tapped_none s h number = record {
    machine_is = refl;
    run_goes_on = λ earlier later taps was. rw (append-nil later) was;
    held_is = sym (appended-none h);
  }

  module _ (s t : TappedForm) (h0 h1 h2 : Option (List ℕ)) (number later : ℕ) (xs ys : List Entry) (at_later : later ≡ number + length xs) where
    -- entries behind entries
    pub tapped_then : (u : TappedForm) → TappedOver hash s t h0 h1 number xs → TappedOver hash t u h1 h2 later ys → TappedOver hash s u h0 h2 number (xs ++ ys)
    tapped_then u first second = record {
      machine_is = second.machine_is ∙ ap (λ (m : MachineForm). after_entries hash m ys) first.machine_is ∙ sym (after_entries-append hash s.machine xs ys);
      run_goes_on =
          λ earlier before taps was.
          subst (λ (l : List Entry). IsTapped hash earlier l taps u) (append_assoc before xs ys)
          (second.run_goes_on earlier (before ++ xs) taps (first.run_goes_on earlier before taps was));
      held_is =
          put_then h0 h1 h2 (lines_of s.machine number xs) (lines_of t.machine later ys) first.held_is second.held_is
          ∙ ap (appended h0) (sym (lines_then s.machine t.machine number later xs ys at_later first.machine_is));
    }

    -- a line that failed behind entries
    pub part_then : TappedOver hash s t h0 h1 number xs → IsPart h1 h2 (lines_of t.machine later ys) → IsPart h0 h2 (lines_of s.machine number (xs ++ ys))
    part_then first part =
        subst (λ (l : List ℕ). IsPart h0 h2 l) (sym (lines_then s.machine t.machine number later xs ys at_later first.machine_is))
        (part_after h0 h1 h2 (lines_of s.machine number xs) (lines_of t.machine later ys) first.held_is part)

  -- a line that failed with entries still to come
  pub part_more : (m : MachineForm) (h0 h1 : Option (List ℕ)) (number : ℕ) (xs ys : List Entry) → IsPart h0 h1 (lines_of m number xs) → IsPart h0 h1 (lines_of m number (xs ++ ys))
  part_more m h0 h1 number xs ys part =
      subst (λ (l : List ℕ). IsPart h0 h1 l) (sym (lines_then m (after_entries hash m xs) number (number + length xs) xs ys refl refl))
      (part_before h0 h1 (lines_of m number xs) (lines_of (after_entries hash m xs) (number + length xs) ys) part)

  -- one idle cycle more
  pub idle_tapped : (s t u : TappedForm) (h0 h1 h2 : Option (List ℕ)) (number later done : ℕ) → later ≡ number + done
      → TappedOver hash s t h0 h1 number (idles done) → TappedOver hash t u h1 h2 later (None ∷ []) → TappedOver hash s u h0 h2 number (idles (done + 1))
  idle_tapped s t u h0 h1 h2 number later done at_later first second =
      let more : idles done ++ idles 1 ≡ idles (done + 1) = replicate-append-replicate done 1 None in
      rw (← more) (tapped_then s t h0 h1 h2 number later (idles done) (idles 1) (behind_idles number later done at_later) u first second)

  -- a line that failed in one of idle cycles
  pub idle_part : (s t : TappedForm) (h0 h1 h2 : Option (List ℕ)) (number later done count : ℕ) → done < count → later ≡ number + done
      → TappedOver hash s t h0 h1 number (idles done) → IsPart h1 h2 (lines_of t.machine later (None ∷ [])) → IsPart h0 h2 (lines_of s.machine number (idles count))
  idle_part s t h0 h1 h2 number later done count inside at_later first part =
      let rest : ℕ = count - (done + 1) in
      let inner : idles 1 ++ idles rest ≡ idles (1 + rest) = replicate-append-replicate 1 rest None in
      let outer : idles done ++ idles (1 + rest) ≡ idles (done + (1 + rest)) = replicate-append-replicate done (1 + rest) None in
      let all : done + (1 + rest) ≡ count = omega arith in
      let whole : idles done ++ (idles 1 ++ idles rest) ≡ idles count = ap (λ l. idles done ++ l) inner ∙ outer ∙ ap idles all in
      rw (← whole)
      (part_then s t h0 h1 h2 number later (idles done) (idles 1 ++ idles rest) (behind_idles number later done at_later) first
      (part_more t.machine h1 h2 later (idles 1) (idles rest) part))

-- Packets with their idle cycles, one after another, and the drain behind them.

module _ (hash : Hash) (s t : TappedForm) (h0 h1 h2 : Option (List ℕ)) (ps : List (ℕ × List ℕ)) (k number : ℕ) (number_is : number ≡ length (entries (take k ps))) (first : TappedOver hash s t h0 h1 0 (entries (take k ps))) where
  at_number : number ≡ 0 + length (entries (take k ps))
  at_number = omega (arith, number_is)

  module _ (gap : ℕ) (words : List ℕ) (d : ℕ × List ℕ) (inside : k < length ps) (gap_is : gap ≡ (get_or ps k d).0) (words_are : words ≡ (get_or ps k d).1) where
    one_is : idles gap ++ Some words ∷ [] ≡ entries_of_one (get_or ps k d)
    one_is = ap (λ n. idles n ++ Some words ∷ []) gap_is ∙ ap (λ w. idles (get_or ps k d).0 ++ Some w ∷ []) words_are

    -- one packet more
    pub packet_tapped : (u : TappedForm) → TappedOver hash t u h1 h2 number (idles gap ++ Some words ∷ []) → TappedOver hash s u h0 h2 0 (entries (take (k + 1) ps))
    packet_tapped u second =
        subst (λ (l : List Entry). TappedOver hash s u h0 h2 0 l) (sym (entries_more ps k d inside))
        (tapped_then hash s t h0 h1 h2 0 number (entries (take k ps)) (entries_of_one (get_or ps k d)) at_number u first
        (subst (λ (l : List Entry). TappedOver hash t u h1 h2 number l) one_is second))

    -- a line that failed in it
    pub packet_part : (p : PartsForm) → IsPart h1 h2 (lines_of hash t.machine number (idles gap ++ Some words ∷ [])) → IsPart h0 h2 (lines_of hash s.machine 0 (entries ps ++ drain p))
    packet_part p part =
        let one : List Entry = entries_of_one (get_or ps k d) in
        let rest : List Entry = entries (drop (suc k) ps) in
        subst (λ (l : List Entry). IsPart h0 h2 (lines_of hash s.machine 0 (l ++ drain p))) (sym (entries_around ps k d inside))
        (part_more hash s.machine h0 h2 0 (entries (take k ps) ++ (one ++ rest)) (drain p)
        (part_then hash s t h0 h1 h2 0 number (entries (take k ps)) (one ++ rest) at_number first
        (part_more hash t.machine h1 h2 number one rest
        (subst (λ (l : List Entry). IsPart h1 h2 (lines_of hash t.machine number l)) one_is part))))

  module _ (all : k ≡ length ps) (p : PartsForm) (depth : ℕ) (depth_is : depth ≡ length p.stages) where
    taken : entries (take k ps) ≡ entries ps
    taken = ap entries (ap (λ n. take n ps) all ∙ take-length ps)

    drain_is : idles depth ≡ drain p
    drain_is = ap idles depth_is

    -- the drain behind all of them
    pub drained : (u : TappedForm) → TappedOver hash t u h1 h2 number (idles depth) → TappedOver hash s u h0 h2 0 (entries ps ++ drain p)
    drained u second =
        subst (λ (l : List Entry). TappedOver hash s u h0 h2 0 (l ++ drain p)) taken
        (tapped_then hash s t h0 h1 h2 0 number (entries (take k ps)) (drain p) at_number u first (subst (λ (l : List Entry). TappedOver hash t u h1 h2 number l) drain_is second))

    -- a line that failed in it
    pub drained_part : IsPart h1 h2 (lines_of hash t.machine number (idles depth)) → IsPart h0 h2 (lines_of hash s.machine 0 (entries ps ++ drain p))
    drained_part part =
        subst (λ (l : List Entry). IsPart h0 h2 (lines_of hash s.machine 0 (l ++ drain p))) taken
        (part_then hash s t h0 h1 h2 0 number (entries (take k ps)) (drain p) at_number first (subst (λ (l : List Entry). IsPart h1 h2 (lines_of hash t.machine number l)) drain_is part))

    -- and the number of cycles
    pub cycles_drained : number + depth ≡ length (entries ps ++ drain p)
    cycles_drained = omega (arith, number_is, ap length taken, depth_is, length-append (entries ps) (drain p), length-replicate {A = Entry} (length p.stages) None)

    pub drain_fits : cycles_of ps + length p.stages < 2 ^ 64 → number + depth < 2 ^ 64
    drain_fits few = omega (arith, few, number_is, ap length taken, length-entries ps, depth_is)

-- a line that failed in the only cycle
pub line_part : {E : Type 0} (out : Entry) (number : ℕ) (words : List ℕ) (h0 h1 : Option (List ℕ)) (result : Result (Unit {0}) E) → Some words ≡ out → Puts h0 h1 (packet_line number words) result
    → OnErr result (IsPart h0 h1 (packet_lines number (out ∷ [])))
line_part out number words h0 h1 (Ok x) is put = tt
line_part out number words h0 h1 (Err e) is put =
    subst (λ (o : Entry). IsPart h0 h1 (packet_lines number (o ∷ []))) is (part_before h0 h1 (packet_line number words) [] put)

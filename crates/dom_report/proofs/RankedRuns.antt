-- A machine with a queue behind it that serves by rank, clocked over entries behind entries.
use Rattle.std.proofs.Common.{◌≡◌, ℕ, zero, suc, ◌+◌, ◌-◌, ◌<◌, ◌≤◌, ◌^◌, Bool, true, false, cond, List, [], ◌∷◌, ◌++◌, codes, length, map, take, drop, get_or, replicate, refl, sym, ap, ◌∙◌, subst, append_assoc, append-nil, length-append, Option, Some, None, Result, Ok, Err, OnOk, OnErr, arith}
use Rattle.std.proofs.Math.Seq.{take-length}
use Rattle.std.proofs.lemmas.List.{length-replicate, map-append, replicate-append-replicate}
use Rattle.std.proofs.lemmas.List.Elements.{filter_map-append}
use Rattle.dom_io.specs.Held.{IsPart, Puts, appended}
use Rattle.dom_io.specs.declared.sink.SinkFault.{SinkFault}
use Rattle.dom_words.specs.State.{Hash}
use Rattle.trace_text.specs.Lines.{done_line, head_line, joined}
use Rattle.trace_text.specs.Trace.{cycles_of, entries}
use Rattle.banzai_config.specs.Action.{Arrays, Entry}
use Rattle.banzai_config.specs.Parts.{PartsForm}
use Rattle.banzai_machine.specs.Alone.{packets_of}
use Rattle.banzai_machine.specs.Pipe.{drain, pipe}
use Rattle.banzai_machine.specs.State.{LeavesAs, MachineForm, Stands}
use Rattle.pifo_rank.specs.Queue.{Held}
use Rattle.pifo_rank.specs.Ranked.{RankedForm, after_cycle, turn_of, turns_from, with_empty_queue}
use Rattle.pifo_rank.specs.Run.{Turn, held_after}
use Rattle.pifo_rank.proofs.Standing.{cycles_are, shown_is}
use Rattle.dom_report.specs.Clocking.{after_entries}
use Rattle.dom_report.specs.declared.ranked_report.Progress.{Progress}
use Rattle.dom_report.specs.RankedCycles.{RankedOver, after_turns, lines_on, turns_on}
use Rattle.dom_report.specs.RankedReport.{cycles_to_serve, dropped_lines, ranked_end, ranked_report, served_in_turns, served_lines, serves, serving_from, turn_lines, turns_over, until_empty}
use Rattle.dom_report.specs.RunReport.{array_names}
use Rattle.dom_report.specs.SerialReport.{state_lines}
use Rattle.dom_report.proofs.DrivenLines.{stands_after}
use Rattle.dom_report.proofs.InTurn.{joined-append}
use Rattle.dom_report.proofs.Packets.{entries_around, entries_more, entries_of_one, length-entries}
use Rattle.dom_report.proofs.Parts.{idles, part_after, part_before, put_then}
use Rattle.dom_report.proofs.Reports.{puts_after}

nothing_put : (h : Option (List ℕ)) → h ≡ appended h []
nothing_put None = refl
nothing_put (Some h) = ap Some (sym (append-nil h))

turn_lines-append : (cycle : ℕ) (ts us : List Turn) → turn_lines cycle (ts ++ us) ≡ turn_lines cycle ts ++ turn_lines (cycle + length ts) us
turn_lines-append cycle [] us = ap (λ n. turn_lines n us) (omega arith)
turn_lines-append cycle (t ∷ ts) us =
    let later : cycle + 1 + length ts ≡ cycle + suc (length ts) = omega arith in
    ap (λ l. dropped_lines cycle t.dropped ++ (served_lines cycle t.served ++ l)) (turn_lines-append (cycle + 1) ts us ∙ ap (λ n. turn_lines (cycle + 1) ts ++ turn_lines n us) later)
    ∙ ap (λ l. dropped_lines cycle t.dropped ++ l) (sym (append_assoc (served_lines cycle t.served) (turn_lines (cycle + 1) ts) (turn_lines (cycle + length (t ∷ ts)) us)))
    ∙ sym (append_assoc (dropped_lines cycle t.dropped) (served_lines cycle t.served ++ turn_lines (cycle + 1) ts) (turn_lines (cycle + length (t ∷ ts)) us))

served-append : (ts us : List Turn) → served_in_turns (ts ++ us) ≡ served_in_turns ts ++ served_in_turns us
served-append ts us =
    ap (λ (z : List Entry). packets_of z) (map-append (λ (t : Turn). t.served) ts us)
    ∙ filter_map-append (λ (entry : Entry). entry) (map (λ t. t.served) ts) (map (λ t. t.served) us)

module _ (hash : Hash) (every : ℕ) where
  after-append : (r : RankedForm) (cycle : ℕ) (xs ys : List Entry) → after_turns hash every r cycle (xs ++ ys) ≡ after_turns hash every (after_turns hash every r cycle xs) (cycle + length xs) ys
  after-append r cycle [] ys = ap (λ n. after_turns hash every r n ys) (omega arith)
  after-append r cycle (x ∷ xs) ys =
      let later : cycle + 1 + length xs ≡ cycle + suc (length xs) = omega arith in
      after-append (after_cycle hash r x (serves every cycle)) (cycle + 1) xs ys
      ∙ ap (λ n. after_turns hash every (after_turns hash every r cycle (x ∷ xs)) n ys) later

  turns-append : (r : RankedForm) (cycle : ℕ) (xs ys : List Entry) → turns_on hash every r cycle (xs ++ ys) ≡ turns_on hash every r cycle xs ++ turns_on hash every (after_turns hash every r cycle xs) (cycle + length xs) ys
  turns-append r cycle [] ys = ap (λ n. turns_on hash every r n ys) (omega arith)
  turns-append r cycle (x ∷ xs) ys =
      let later : cycle + 1 + length xs ≡ cycle + suc (length xs) = omega arith in
      ap (λ l. turn_of hash r x (serves every cycle) ∷ l)
      (turns-append (after_cycle hash r x (serves every cycle)) (cycle + 1) xs ys
      ∙ ap (λ n. turns_on hash every (after_cycle hash r x (serves every cycle)) (cycle + 1) xs ++ turns_on hash every (after_turns hash every r cycle (x ∷ xs)) n ys) later)

  length-turns : (r : RankedForm) (cycle : ℕ) (xs : List Entry) → length (turns_on hash every r cycle xs) ≡ length xs
  length-turns r cycle [] = refl
  length-turns r cycle (x ∷ xs) = ap suc (length-turns (after_cycle hash r x (serves every cycle)) (cycle + 1) xs)

  lines_then : (r s : RankedForm) (cycle later : ℕ) (xs ys : List Entry) → later ≡ cycle + length xs → s ≡ after_turns hash every r cycle xs
      → lines_on hash every r cycle (xs ++ ys) ≡ lines_on hash every r cycle xs ++ lines_on hash every s later ys
  lines_then r s cycle later xs ys at_later is =
      let ts : List Turn = turns_on hash every r cycle xs in
      let us : List Turn = turns_on hash every (after_turns hash every r cycle xs) (cycle + length xs) ys in
      ap (λ l. joined (turn_lines cycle l)) (turns-append r cycle xs ys)
      ∙ ap joined (turn_lines-append cycle ts us)
      ∙ joined-append (turn_lines cycle ts) (turn_lines (cycle + length ts) us)
      ∙ ap (λ n. lines_on hash every r cycle xs ++ joined (turn_lines (cycle + n) us)) (length-turns r cycle xs)
      ∙ ap (λ n. lines_on hash every r cycle xs ++ lines_on hash every (after_turns hash every r cycle xs) n ys) (sym at_later)
      ∙ ap (λ (z : RankedForm). lines_on hash every r cycle xs ++ lines_on hash every z later ys) (sym is)

  -- no entries
  pub over_none : (r : RankedForm) (n : Progress) (h : Option (List ℕ)) → RankedOver hash every r r n n h h []
  over_none r n h = record { ranked_is = refl; cycles_is = omega arith; served_is = omega arith; held_is = nothing_put h }

  module _ (r s : RankedForm) (n0 n1 : Progress) (h0 h1 h2 : Option (List ℕ)) (xs ys : List Entry) (first : RankedOver hash every r s n0 n1 h0 h1 xs) where
    -- entries behind entries
    pub over_then : (t : RankedForm) (n2 : Progress) → RankedOver hash every s t n1 n2 h1 h2 ys → RankedOver hash every r t n0 n2 h0 h2 (xs ++ ys)
    over_then t n2 second =
        let here : RankedForm = after_turns hash every r n0.cycles xs in
        let turns : List Turn = turns_on hash every r n0.cycles xs in
        let more : turns_on hash every s n1.cycles ys ≡ turns_on hash every here (n0.cycles + length xs) ys =
        ap (λ (z : RankedForm). turns_on hash every z n1.cycles ys) first.ranked_is ∙ ap (λ n. turns_on hash every here n ys) first.cycles_is in
        let count : length (served_in_turns (turns_on hash every r n0.cycles (xs ++ ys))) ≡ length (served_in_turns turns) + length (served_in_turns (turns_on hash every s n1.cycles ys)) =
        ap (λ l. length (served_in_turns l)) (turns-append r n0.cycles xs ys ∙ ap (λ l. turns ++ l) (sym more))
        ∙ ap length (served-append turns (turns_on hash every s n1.cycles ys))
        ∙ length-append (served_in_turns turns) (served_in_turns (turns_on hash every s n1.cycles ys)) in
        record {
          ranked_is =
              second.ranked_is ∙ ap (λ (z : RankedForm). after_turns hash every z n1.cycles ys) first.ranked_is ∙ ap (λ n. after_turns hash every here n ys) first.cycles_is
              ∙ sym (after-append r n0.cycles xs ys);
          cycles_is = omega (arith, first.cycles_is, second.cycles_is, length-append xs ys);
          served_is = omega (arith, first.served_is, second.served_is, count);
          held_is =
              put_then h0 h1 h2 (lines_on hash every r n0.cycles xs) (lines_on hash every s n1.cycles ys) first.held_is second.held_is
              ∙ ap (appended h0) (sym (lines_then r s n0.cycles n1.cycles xs ys first.cycles_is first.ranked_is));
        }

    -- lines that failed behind entries
    pub part_then : IsPart h1 h2 (lines_on hash every s n1.cycles ys) → IsPart h0 h2 (lines_on hash every r n0.cycles (xs ++ ys))
    part_then part =
        subst (λ (l : List ℕ). IsPart h0 h2 l) (sym (lines_then r s n0.cycles n1.cycles xs ys first.cycles_is first.ranked_is))
        (part_after h0 h1 h2 (lines_on hash every r n0.cycles xs) (lines_on hash every s n1.cycles ys) first.held_is part)

  -- lines that failed with entries still to come
  pub part_more : (r : RankedForm) (cycle : ℕ) (h0 h1 : Option (List ℕ)) (xs ys : List Entry) → IsPart h0 h1 (lines_on hash every r cycle xs) → IsPart h0 h1 (lines_on hash every r cycle (xs ++ ys))
  part_more r cycle h0 h1 xs ys part =
      subst (λ (l : List ℕ). IsPart h0 h1 l) (sym (lines_then r (after_turns hash every r cycle xs) cycle (cycle + length xs) xs ys refl refl))
      (part_before h0 h1 (lines_on hash every r cycle xs) (lines_on hash every (after_turns hash every r cycle xs) (cycle + length xs) ys) part)

  -- one idle cycle more
  pub idle_over : (r s t : RankedForm) (n0 n1 n2 : Progress) (h0 h1 h2 : Option (List ℕ)) (done : ℕ) → RankedOver hash every r s n0 n1 h0 h1 (idles done) → RankedOver hash every s t n1 n2 h1 h2 (None ∷ [])
      → RankedOver hash every r t n0 n2 h0 h2 (idles (done + 1))
  idle_over r s t n0 n1 n2 h0 h1 h2 done first second =
      let more : idles done ++ idles 1 ≡ idles (done + 1) = replicate-append-replicate done 1 None in
      rw (← more) (over_then r s n0 n1 h0 h1 h2 (idles done) (idles 1) first t n2 second)

  pub idle_part : (r s : RankedForm) (n0 n1 : Progress) (h0 h1 h2 : Option (List ℕ)) (done count : ℕ) → done < count → RankedOver hash every r s n0 n1 h0 h1 (idles done)
      → IsPart h1 h2 (lines_on hash every s n1.cycles (None ∷ [])) → IsPart h0 h2 (lines_on hash every r n0.cycles (idles count))
  idle_part r s n0 n1 h0 h1 h2 done count inside first part =
      let rest : ℕ = count - (done + 1) in
      let inner : idles 1 ++ idles rest ≡ idles (1 + rest) = replicate-append-replicate 1 rest None in
      let outer : idles done ++ idles (1 + rest) ≡ idles (done + (1 + rest)) = replicate-append-replicate done (1 + rest) None in
      let all : done + (1 + rest) ≡ count = omega arith in
      let whole : idles done ++ (idles 1 ++ idles rest) ≡ idles count = ap (λ l. idles done ++ l) inner ∙ outer ∙ ap idles all in
      rw (← whole)
      (part_then r s n0 n1 h0 h1 h2 (idles done) (idles 1 ++ idles rest) first
      (part_more s n1.cycles h1 h2 (idles 1) (idles rest) part))

  -- Packets with their idle cycles, one after another.

  module _ (r s : RankedForm) (n0 n1 : Progress) (h0 h1 h2 : Option (List ℕ)) (ps : List (ℕ × List ℕ)) (k : ℕ) (first : RankedOver hash every r s n0 n1 h0 h1 (entries (take k ps))) where
    module _ (gap : ℕ) (words : List ℕ) (d : ℕ × List ℕ) (inside : k < length ps) (gap_is : gap ≡ (get_or ps k d).0) (words_are : words ≡ (get_or ps k d).1) where
      one_is : idles gap ++ Some words ∷ [] ≡ entries_of_one (get_or ps k d)
      one_is = ap (λ n. idles n ++ Some words ∷ []) gap_is ∙ ap (λ w. idles (get_or ps k d).0 ++ Some w ∷ []) words_are

      -- one packet more
      pub packet_over : (t : RankedForm) (n2 : Progress) → RankedOver hash every s t n1 n2 h1 h2 (idles gap ++ Some words ∷ []) → RankedOver hash every r t n0 n2 h0 h2 (entries (take (k + 1) ps))
      packet_over t n2 second =
          subst (λ (l : List Entry). RankedOver hash every r t n0 n2 h0 h2 l) (sym (entries_more ps k d inside))
          (over_then r s n0 n1 h0 h1 h2 (entries (take k ps)) (entries_of_one (get_or ps k d)) first t n2
          (subst (λ (l : List Entry). RankedOver hash every s t n1 n2 h1 h2 l) one_is second))

      -- lines that failed in it
      pub packet_part : (behind : List Entry) → IsPart h1 h2 (lines_on hash every s n1.cycles (idles gap ++ Some words ∷ [])) → IsPart h0 h2 (lines_on hash every r n0.cycles (entries ps ++ behind))
      packet_part behind part =
          let one : List Entry = entries_of_one (get_or ps k d) in
          let rest : List Entry = entries (drop (suc k) ps) in
          subst (λ (l : List Entry). IsPart h0 h2 (lines_on hash every r n0.cycles (l ++ behind))) (sym (entries_around ps k d inside))
          (part_more r n0.cycles h0 h2 (entries (take k ps) ++ (one ++ rest)) behind
          (part_then r s n0 n1 h0 h1 h2 (entries (take k ps)) (one ++ rest) first
          (part_more s n1.cycles h1 h2 one rest
          (subst (λ (l : List Entry). IsPart h1 h2 (lines_on hash every s n1.cycles l)) one_is part))))

    module _ (all : k ≡ length ps) (depth stages : ℕ) (depth_is : depth ≡ stages) where
      taken : entries (take k ps) ≡ entries ps
      taken = ap entries (ap (λ n. take n ps) all ∙ take-length ps)

      -- the drain behind all of them
      pub drain_over : (t : RankedForm) (n2 : Progress) → RankedOver hash every s t n1 n2 h1 h2 (idles depth) → RankedOver hash every r t n0 n2 h0 h2 (entries ps ++ idles stages)
      drain_over t n2 second =
          subst (λ (l : List Entry). RankedOver hash every r t n0 n2 h0 h2 (l ++ idles stages)) taken
          (over_then r s n0 n1 h0 h1 h2 (entries (take k ps)) (idles stages) first t n2 (subst (λ (n : ℕ). RankedOver hash every s t n1 n2 h1 h2 (idles n)) depth_is second))

      pub drain_part : IsPart h1 h2 (lines_on hash every s n1.cycles (idles depth)) → IsPart h0 h2 (lines_on hash every r n0.cycles (entries ps ++ idles stages))
      drain_part part =
          subst (λ (l : List Entry). IsPart h0 h2 (lines_on hash every r n0.cycles (l ++ idles stages))) taken
          (part_then r s n0 n1 h0 h1 h2 (entries (take k ps)) (idles stages) first (subst (λ (n : ℕ). IsPart h1 h2 (lines_on hash every s n1.cycles (idles n))) depth_is part))

      pub cycles_then : n1.cycles ≡ n0.cycles + cycles_of ps
      cycles_then = first.cycles_is ∙ ap (λ l. n0.cycles + length l) taken ∙ ap (λ n. n0.cycles + n) (length-entries ps)

-- What such a machine and its queue come to.

module _ (hash : Hash) (every : ℕ) where
  config_after : (r : RankedForm) (cycle : ℕ) (xs : List Entry) → (after_turns hash every r cycle xs).machine.config ≡ r.machine.config
  config_after r cycle [] = refl
  config_after r cycle (x ∷ xs) = config_after (after_cycle hash r x (serves every cycle)) (cycle + 1) xs

  room_after : (r : RankedForm) (cycle : ℕ) (xs : List Entry) → (after_turns hash every r cycle xs).queue.room ≡ r.queue.room
  room_after r cycle [] = refl
  room_after r cycle (x ∷ xs) = room_after (after_cycle hash r x (serves every cycle)) (cycle + 1) xs

  machine_after : (r : RankedForm) (cycle : ℕ) (xs : List Entry) → (after_turns hash every r cycle xs).machine ≡ after_entries hash r.machine xs
  machine_after r cycle [] = refl
  machine_after r cycle (x ∷ xs) = machine_after (after_cycle hash r x (serves every cycle)) (cycle + 1) xs

  held_on : (r : RankedForm) (cycle : ℕ) (xs : List Entry) → (after_turns hash every r cycle xs).queue.entries ≡ held_after r.queue.entries (turns_on hash every r cycle xs)
  held_on r cycle [] = refl
  held_on r cycle (x ∷ xs) = held_on (after_cycle hash r x (serves every cycle)) (cycle + 1) xs

  turns_are : (r : RankedForm) (cycle : ℕ) (xs : List Entry) → turns_on hash every r cycle xs ≡ turns_from hash r xs (serving_from every cycle (length xs))
  turns_are r cycle [] = refl
  turns_are r cycle (x ∷ xs) = ap (λ l. turn_of hash r x (serves every cycle) ∷ l) (turns_are (after_cycle hash r x (serves every cycle)) (cycle + 1) xs)

  -- from its beginning, with an empty queue
  module _ (r : RankedForm) (start : Stands hash [] r.machine) (empty : r ≡ with_empty_queue r.machine r.rank r.queue.room) where
    abbrev over : List Entry → List Turn
    over xs = turns_over hash r.machine.config r.rank r.queue.room every xs

    over_is : (xs : List Entry) → turns_on hash every r 0 xs ≡ over xs
    over_is xs =
        turns_are r 0 xs
        ∙ ap (λ (z : RankedForm). turns_from hash z xs (serving_from every 0 (length xs))) empty
        ∙ cycles_are hash r.machine r.rank r.queue.room xs (serving_from every 0 (length xs)) start

    none_held : r.queue.entries ≡ []
    none_held = ap (λ (z : RankedForm). z.queue.entries) empty

    module _ (xs : List Entry) where
      abbrev front : List Entry
      front = xs ++ drain r.machine.config

      abbrev rest : ℕ
      rest = cycles_to_serve every (length front) (length (held_after [] (over front)))

      abbrev heading : List ℕ
      heading = head_line (codes "cycle") r.machine.config.fields

      abbrev last : List ℕ
      last = joined (ranked_end r.machine.config (pipe hash r.machine.config (front ++ idles rest)).state (length (served_in_turns (over (front ++ idles rest)))) (length (front ++ idles rest)))

      report_is : ranked_report hash r.machine.config r.rank r.queue.room every xs ≡ heading ++ (lines_on hash every r 0 (front ++ idles rest) ++ last)
      report_is = ap (λ (l : List Turn). heading ++ (joined (turn_lines 0 l) ++ last)) (sym (over_is (front ++ idles rest)))

      pub heading_stop : (h0 h1 : Option (List ℕ)) → IsPart h0 h1 heading → IsPart h0 h1 (ranked_report hash r.machine.config r.rank r.queue.room every xs)
      heading_stop h0 h1 part = subst (λ (l : List ℕ). IsPart h0 h1 l) (sym report_is) (part_before h0 h1 heading (lines_on hash every r 0 (front ++ idles rest) ++ last) part)

      -- lines that failed before the queue is served empty
      pub front_stop : (h0 h1 h2 : Option (List ℕ)) → h1 ≡ appended h0 heading → IsPart h1 h2 (lines_on hash every r 0 front) → IsPart h0 h2 (ranked_report hash r.machine.config r.rank r.queue.room every xs)
      front_stop h0 h1 h2 head part =
          subst (λ (l : List ℕ). IsPart h0 h2 l) (sym report_is)
          (part_after h0 h1 h2 heading (lines_on hash every r 0 (front ++ idles rest) ++ last) head
          (part_before h1 h2 (lines_on hash every r 0 (front ++ idles rest)) last (part_more hash every r 0 h1 h2 front (idles rest) part)))

      module _ (s : RankedForm) (n1 : Progress) (h0 h1 h2 h3 : Option (List ℕ)) (head : h1 ≡ appended h0 heading) (first : RankedOver hash every r s (record { cycles = 0; served = 0 }) n1 h1 h2 front) where
        -- the cycles to serve what is held then
        pub rest_is : (held more : ℕ) → held ≡ length s.queue.entries → more ≡ cycles_to_serve every n1.cycles held → more ≡ rest
        rest_is held more held_is more_is =
            let cycles : n1.cycles ≡ length front = omega (arith, first.cycles_is) in
            let entries_are : s.queue.entries ≡ held_after [] (over front) =
            ap (λ (z : RankedForm). z.queue.entries) first.ranked_is ∙ held_on r 0 front ∙ ap (λ l. held_after l (turns_on hash every r 0 front)) none_held ∙ ap (held_after []) (over_is front) in
            more_is ∙ ap (λ n. cycles_to_serve every n held) cycles ∙ ap (cycles_to_serve every (length front)) (held_is ∙ ap length entries_are)

        pub room_is : s.queue.room ≡ r.queue.room
        room_is = ap (λ (z : RankedForm). z.queue.room) first.ranked_is ∙ room_after r 0 front

        pub rest_stop : (more : ℕ) → more ≡ rest → IsPart h2 h3 (lines_on hash every s n1.cycles (idles more)) → IsPart h0 h3 (ranked_report hash r.machine.config r.rank r.queue.room every xs)
        rest_stop more more_is part =
            subst (λ (l : List ℕ). IsPart h0 h3 l) (sym report_is)
            (part_after h0 h1 h3 heading (lines_on hash every r 0 (front ++ idles rest) ++ last) head
            (part_before h1 h3 (lines_on hash every r 0 (front ++ idles rest)) last
            (part_then hash every r s (record { cycles = 0; served = 0 }) n1 h1 h2 h3 front (idles rest) first
            (subst (λ (n : ℕ). IsPart h2 h3 (lines_on hash every s n1.cycles (idles n))) more_is part))))

        pub report_put : (t : RankedForm) (n2 : Progress) (h4 : Option (List ℕ)) (result : Result (Unit {0}) SinkFault) (more : ℕ) → more ≡ rest → RankedOver hash every s t n1 n2 h2 h3 (idles more)
            → Puts h3 h4 (joined (ranked_end t.machine.config t.machine.row.state n2.served n2.cycles)) result → Puts h0 h4 (ranked_report hash r.machine.config r.rank r.queue.room every xs) result
        report_put t n2 h4 result more more_is second end =
            let all : List Entry = front ++ idles rest in
            let whole = over_then hash every r s (record { cycles = 0; served = 0 }) n1 h1 h2 h3 front (idles rest) first t n2
            (subst (λ (n : ℕ). RankedOver hash every s t n1 n2 h2 h3 (idles n)) more_is second) in
            let config_is : t.machine.config ≡ r.machine.config = ap (λ (z : RankedForm). z.machine.config) whole.ranked_is ∙ config_after r 0 all in
            let stands : Stands hash all t.machine = stands_after hash r.machine start t.machine all (ap (λ (z : RankedForm). z.machine) whole.ranked_is ∙ machine_after r 0 all) in
            let state_is : t.machine.row.state ≡ (pipe hash r.machine.config all).state = ap (λ z. z.state) stands ∙ ap (λ (p : PartsForm). (pipe hash p all).state) config_is in
            let served_is : n2.served ≡ length (served_in_turns (over all)) = omega (arith, whole.served_is, ap (λ l. length (served_in_turns l)) (over_is all)) in
            let cycles_is : n2.cycles ≡ length all = omega (arith, whole.cycles_is) in
            let end_is : joined (ranked_end t.machine.config t.machine.row.state n2.served n2.cycles) ≡ last =
            ap (λ (p : PartsForm). joined (ranked_end p t.machine.row.state n2.served n2.cycles)) config_is
            ∙ ap (λ (a : Arrays). joined (ranked_end r.machine.config a n2.served n2.cycles)) state_is
            ∙ ap (λ n. joined (ranked_end r.machine.config (pipe hash r.machine.config all).state n n2.cycles)) served_is
            ∙ ap (λ n. joined (ranked_end r.machine.config (pipe hash r.machine.config all).state (length (served_in_turns (over all))) n)) cycles_is in
            subst (λ (l : List ℕ). Puts h0 h4 l result) (sym report_is)
            (puts_after result h0 h1 h4 heading (lines_on hash every r 0 all ++ last) head
            (puts_after result h1 h3 h4 (lines_on hash every r 0 all) last whole.held_is (subst (λ (l : List ℕ). Puts h3 h4 l result) end_is end)))

-- The lines behind the cycles.

module _ (p : PartsForm) (arrays : Arrays) (served cycles : ℕ) where
  abbrev words : List ℕ
  words = joined (state_lines (array_names p) arrays)

  end_is : joined (ranked_end p arrays served cycles) ≡ words ++ done_line served (Some cycles)
  end_is = joined-append (state_lines (array_names p) arrays) (done_line served (Some cycles) ∷ []) ∙ ap (λ l. words ++ l) (append-nil (done_line served (Some cycles)))

  pub end_put : (h0 h1 h2 : Option (List ℕ)) (result : Result (Unit {0}) SinkFault) → h1 ≡ appended h0 words → Puts h1 h2 (done_line served (Some cycles)) result → Puts h0 h2 (joined (ranked_end p arrays served cycles)) result
  end_put h0 h1 h2 result first second = subst (λ (l : List ℕ). Puts h0 h2 l result) (sym end_is) (puts_after result h0 h1 h2 words (done_line served (Some cycles)) first second)

  pub words_stop : (h0 h1 : Option (List ℕ)) → IsPart h0 h1 words → IsPart h0 h1 (joined (ranked_end p arrays served cycles))
  words_stop h0 h1 part = subst (λ (l : List ℕ). IsPart h0 h1 l) (sym end_is) (part_before h0 h1 words (done_line served (Some cycles)) part)

-- The lines of one cycle.

module _ (dropped served : List (List ℕ)) (h0 h1 : Option (List ℕ)) where
  pub turn_stop : IsPart h0 h1 (joined dropped) → IsPart h0 h1 (joined (dropped ++ served))
  turn_stop part = subst (λ (l : List ℕ). IsPart h0 h1 l) (sym (joined-append dropped served)) (part_before h0 h1 (joined dropped) (joined served) part)

  pub turn_put : (h2 : Option (List ℕ)) (result : Result (Unit {0}) SinkFault) → h1 ≡ appended h0 (joined dropped) → Puts h1 h2 (joined served) result → Puts h0 h2 (joined (dropped ++ served)) result
  turn_put h2 result first second = subst (λ (l : List ℕ). Puts h0 h2 l result) (sym (joined-append dropped served)) (puts_after result h0 h1 h2 (joined dropped) (joined served) first second)

failed : (result : Result (Unit {0}) SinkFault) (h0 h1 : Option (List ℕ)) (bytes : List ℕ) → Puts h0 h1 bytes result → OnErr result (IsPart h0 h1 bytes)
failed (Ok x) h0 h1 bytes put = tt
failed (Err e) h0 h1 bytes put = put

-- where they failed
pub once_part : (hash : Hash) (every : ℕ) (r : RankedForm) (cycle : ℕ) (x : Entry) (serve told_dropped told_served : Bool) (dropped dropped' served served' wd ws : List ℕ) (h0 h1 : Option (List ℕ)) (result : Result (Unit {0}) SinkFault)
    → serve ≡ serves every cycle → LeavesAs (turn_of hash r x serve).dropped told_dropped dropped dropped' → LeavesAs (turn_of hash r x serve).served told_served served served' → wd ≡ dropped' → ws ≡ served'
    → Puts h0 h1 (joined (dropped_lines cycle (cond told_dropped (Some wd) None) ++ served_lines cycle (cond told_served (Some ws) None))) result
    → OnErr result (IsPart h0 h1 (lines_on hash every r cycle (x ∷ [])))
once_part hash every r cycle x serve told_dropped told_served dropped dropped' served served' wd ws h0 h1 result serve_is dropped_as served_as wd_is ws_is put =
    let turn : Turn = turn_of hash r x serve in
    let dropped_is : cond told_dropped (Some wd) None ≡ turn.dropped = ap (λ (w : List ℕ). cond told_dropped (Some w) None) wd_is ∙ shown_is turn.dropped told_dropped dropped dropped' dropped_as in
    let served_is : cond told_served (Some ws) None ≡ turn.served = ap (λ (w : List ℕ). cond told_served (Some w) None) ws_is ∙ shown_is turn.served told_served served served' served_as in
    let bytes : joined (dropped_lines cycle (cond told_dropped (Some wd) None) ++ served_lines cycle (cond told_served (Some ws) None)) ≡ lines_on hash every r cycle (x ∷ []) =
    ap (λ (e : Entry). joined (dropped_lines cycle e ++ served_lines cycle (cond told_served (Some ws) None))) dropped_is
    ∙ ap (λ (e : Entry). joined (dropped_lines cycle turn.dropped ++ served_lines cycle e)) served_is
    ∙ ap (λ (l : List (List ℕ)). joined (dropped_lines cycle turn.dropped ++ l)) (sym (append-nil (served_lines cycle turn.served)))
    ∙ ap (λ (b : Bool). joined (turn_lines cycle (turn_of hash r x b ∷ []))) serve_is in
    subst (λ (l : List ℕ). OnErr result (IsPart h0 h1 l)) bytes (failed result h0 h1 (joined (dropped_lines cycle (cond told_dropped (Some wd) None) ++ served_lines cycle (cond told_served (Some ws) None))) put)

-- how many cycles the entries of a trace and the drain take
pub cycles_front : (hash : Hash) (every : ℕ) (r s : RankedForm) (n1 : Progress) (h0 h1 : Option (List ℕ)) (ps : List (ℕ × List ℕ)) (p : PartsForm)
    → RankedOver hash every r s (record { cycles = 0; served = 0 }) n1 h0 h1 (entries ps ++ drain p) → n1.cycles ≡ cycles_of ps + length p.stages
cycles_front hash every r s n1 h0 h1 ps p over =
    omega (arith, over.cycles_is, length-append (entries ps) (drain p), length-entries ps, length-replicate {A = Entry} (length p.stages) None)

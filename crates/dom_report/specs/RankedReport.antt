-- The report of a configuration with a queue behind it that serves by rank: a heading, for each cycle the packet that is dropped
-- in it and the one that is served, the state words that are not 0 by array and index, and the end.
use Rattle.std.specs.Prelude.{◌≡◌, ℕ, zero, suc, ◌+◌, ◌-◌, ◌*◌, ◌%◌, ◌≤◌, All, Bool, nat_eq, Some, None, List, [], ◌∷◌, ◌++◌, codes, length, map, replicate}
use Rattle.dom_words.specs.State.{Hash}
use Rattle.trace_text.specs.Lines.{Legend, done_line, drop_line, head_line, joined, packet_line}
use Rattle.trace_text.specs.Trace.{cycles_of, most_cycles}
use Rattle.banzai_config.specs.Action.{Arrays, Entry}
use Rattle.banzai_config.specs.Parts.{PartsForm}
use Rattle.banzai_machine.specs.Alone.{packets_of}
use Rattle.banzai_machine.specs.Pipe.{drain, emitted, pipe}
use Rattle.banzai_machine.specs.State.{Stands}
use Rattle.pifo_rank.specs.Ranked.{RankedForm, with_empty_queue}
use Rattle.pifo_rank.specs.Run.{Turn, held_after, ranked}
use Rattle.dom_report.specs.RunReport.{array_names}
use Rattle.dom_report.specs.SerialReport.{state_lines}

-- of each so many cycles the last one serves
abbrev pub serves : ℕ → ℕ → Bool
serves every cycle = nat_eq (cycle % every) (every - 1)

-- so many cycles, the first of which has this number: whether each of them serves
abbrev pub serving_from : ℕ → ℕ → ℕ → List Bool
serving_from every cycle zero = []
serving_from every cycle (suc count) = serves every cycle ∷ serving_from every (cycle + 1) count

-- how many cycles it takes from this one on to serve so many packets: it is `every - cycle % every` cycles to the end of the first
-- that serves, and `every` to the end of each further one
abbrev pub cycles_to_serve : ℕ → ℕ → ℕ → ℕ
cycles_to_serve every cycle packets = packets * every - cycle % every

-- the lines of what is dropped and of what is served in a cycle, and of cycles, the first of which has this number
abbrev pub dropped_lines : ℕ → Entry → List (List ℕ)
dropped_lines cycle None = []
dropped_lines cycle (Some words) = drop_line cycle words ∷ []

abbrev pub served_lines : ℕ → Entry → List (List ℕ)
served_lines cycle None = []
served_lines cycle (Some words) = packet_line cycle words ∷ []

abbrev pub turn_lines : ℕ → List Turn → List (List ℕ)
turn_lines cycle [] = []
turn_lines cycle (turn ∷ turns) = dropped_lines cycle turn.dropped ++ (served_lines cycle turn.served ++ turn_lines (cycle + 1) turns)

-- the packets that are served
abbrev pub served_in_turns : List Turn → List (List ℕ)
served_in_turns turns = packets_of (map (λ turn. turn.served) turns)

-- the lines behind the cycles
abbrev pub ranked_end : PartsForm → Arrays → ℕ → ℕ → List (List ℕ)
ranked_end p arrays served cycles = state_lines (array_names p) arrays ++ done_line served (Some cycles) ∷ []

-- rank: the position of the field that ranks; room: how many packets the queue holds at most
module _ (hash : Hash) (p : PartsForm) (rank room every : ℕ) where
  -- what is dropped, served and held in each cycle, over these entries
  abbrev pub turns_over : List Entry → List Turn
  turns_over entries = ranked room rank (emitted hash p entries) (serving_from every 0 (length entries))

  -- the entries, the drain, and the idle cycles in which what is held then is served
  abbrev pub until_empty : List Entry → List Entry
  until_empty entries =
      let first = entries ++ drain p in
      first ++ replicate (cycles_to_serve every (length first) (length (held_after [] (turns_over first)))) None

  -- the report over these entries
  abbrev pub ranked_report : List Entry → List ℕ
  ranked_report entries =
      let all = until_empty entries in
      head_line (codes "cycle") p.fields
      ++ (joined (turn_lines 0 (turns_over all)) ++ joined (ranked_end p (pipe hash p all).state (length (served_in_turns (turns_over all))) (length all)))

-- what a run with such a queue needs: a machine at its beginning and an empty queue, the names and packets for the configuration,
-- and a word for each field of what enters, is served and is dropped
pub record IsRankedReady (hash : Hash) (r : RankedForm) (lines : Legend) (packets : List (ℕ × List ℕ)) (entering served dropped : List ℕ) (every : ℕ) : Type 0 where
  pub start : Stands hash [] r.machine
  pub empty : r ≡ with_empty_queue r.machine r.rank r.queue.room
  pub room : r.queue.room ≤ 65536
  pub some : 1 ≤ every
  pub often : every ≤ 16
  pub fields : lines.fields ≡ r.machine.config.fields
  pub arrays : lines.arrays ≡ array_names r.machine.config
  pub words : length r.machine.config.fields ≤ lines.words
  pub each : All (λ p. length p.1 ≡ length r.machine.config.fields) packets
  pub cycles : cycles_of packets + length r.machine.config.stages ≤ most_cycles
  pub entering_is : length entering ≡ length r.machine.config.fields
  pub served_is : length served ≡ length r.machine.config.fields
  pub dropped_is : length dropped ≡ length r.machine.config.fields

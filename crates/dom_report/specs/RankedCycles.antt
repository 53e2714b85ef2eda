-- A machine with a queue behind it that serves by rank, clocked over entries while its report is put.
use Rattle.std.specs.Prelude.{◌≡◌, ℕ, ◌+◌, ◌-◌, ◌^◌, ◌<◌, ◌≤◌, Option, List, [], ◌∷◌, length}
use Rattle.dom_io.specs.Held.{appended}
use Rattle.dom_words.specs.State.{Hash}
use Rattle.trace_text.specs.Lines.{Legend, joined}
use Rattle.banzai_config.specs.Action.{Entry}
use Rattle.pifo_rank.specs.Ranked.{RankedForm, after_cycle, turn_of}
use Rattle.pifo_rank.specs.Run.{Turn}
use Rattle.dom_report.specs.declared.ranked_report.Progress.{Progress}
use Rattle.dom_report.specs.RankedReport.{served_in_turns, serves, turn_lines}

module _ (hash : Hash) (every : ℕ) where
  -- after these entries, the first of which comes in this cycle, and what was dropped, served and held in each of their cycles
  abbrev pub after_turns : RankedForm → ℕ → List Entry → RankedForm
  after_turns r cycle [] = r
  after_turns r cycle (entry ∷ entries) = after_turns (after_cycle hash r entry (serves every cycle)) (cycle + 1) entries

  abbrev pub turns_on : RankedForm → ℕ → List Entry → List Turn
  turns_on r cycle [] = []
  turns_on r cycle (entry ∷ entries) = turn_of hash r entry (serves every cycle) ∷ turns_on (after_cycle hash r entry (serves every cycle)) (cycle + 1) entries

  -- the lines of these cycles
  abbrev pub lines_on : RankedForm → ℕ → List Entry → List ℕ
  lines_on r cycle entries = joined (turn_lines cycle (turns_on r cycle entries))

  -- it was clocked over these entries, and the lines of what was dropped and served were put
  pub record RankedOver (r s : RankedForm) (before after : Progress) (held held' : Option (List ℕ)) (entries : List Entry) : Type 0 where
    pub ranked_is : s ≡ after_turns r before.cycles entries
    pub cycles_is : after.cycles ≡ before.cycles + length entries
    pub served_is : after.served ≡ before.served + length (served_in_turns (turns_on r before.cycles entries))
    pub held_is : held' ≡ appended held (lines_on r before.cycles entries)

-- what a cycle needs, and still is true after it
pub record CanTurn (every : ℕ) (r : RankedForm) (progress : Progress) (lines : Legend) (served dropped : List ℕ) : Type 0 where
  pub some : 1 ≤ every
  pub words : length r.machine.config.fields ≤ lines.words
  pub served_is : length served ≡ length r.machine.config.fields
  pub dropped_is : length dropped ≡ length r.machine.config.fields
  pub pushes : r.queue.pushes ≤ progress.cycles
  pub few : progress.served ≤ progress.cycles

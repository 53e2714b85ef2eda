-- Packets in flight together, in words of packets that go through the machine one after another.
use Rattle.std.specs.Prelude.{◌≡◌, ℕ, ◌+◌, ◌-◌, ◌<◌, Some, None, List, [], ◌∷◌, ◌++◌, length, reverse, slice_get, slice_index_or, take}
use Rattle.std.specs.List.{AllByRecursion, filter_map}
use Rattle.std.specs.Option.{option_map}
use Rattle.dom_words.specs.State.{Hash, Outcome, array_of, started}
use Rattle.pipeline_law.specs.Pipeline.{Row}
use Rattle.banzai_config.specs.Action.{Arrays, Entry, alone, entering, front, outcome_of}
use Rattle.banzai_config.specs.Named.{stage_arrays}
use Rattle.banzai_config.specs.Parts.{PartsForm, StageForm}
use Rattle.banzai_machine.specs.Pipe.{drain, emitted, pipe}

-- the packets among entries, in order
abbrev pub packets_of : List Entry → List (List ℕ)
packets_of entries = filter_map (λ entry. entry) entries

-- what each entry comes out as, where each packet goes through all stages before the next one enters; an idle entry
-- stays one
abbrev pub entries_alone : Hash → PartsForm → Arrays → List Entry → List Entry
entries_alone hash p arrays [] = []
entries_alone hash p arrays (None ∷ entries) = None ∷ entries_alone hash p arrays entries
entries_alone hash p arrays (Some packet ∷ entries) =
    let one : Outcome = outcome_of hash p arrays packet in
    Some one.packet ∷ entries_alone hash p one.arrays entries

-- over any entries and a drain
pub record IsPipeAlone (hash : Hash) (p : PartsForm) (entries : List Entry) : Type 0 where
  -- an entry leaves as many cycles after it entered as there are stages, and as it does alone
  pub cycles : emitted hash p (entries ++ drain p) ≡ drain p ++ entries_alone hash p (started p.arrays) entries
  -- so the packets that leave are those that entered, one after another
  pub packets : packets_of (emitted hash p (entries ++ drain p)) ≡ (alone hash p (packets_of entries)).packets
  -- and they leave these words in the arrays
  pub arrays : (pipe hash p (entries ++ drain p)).state ≡ (alone hash p (packets_of entries)).arrays

-- the entry that came k cycles before the last one, or none where there was no such cycle
abbrev pub newest : ℕ → List Entry → Entry
newest k entries = slice_index_or (reverse entries) k None

-- the arrays after the packets among all entries but the last k + 1, one after another: these packets are those that have
-- passed stage k + 1
abbrev pub arrays_behind : Hash → PartsForm → ℕ → List Entry → Arrays
arrays_behind hash p k entries = (alone hash p (packets_of (take (length entries - (k + 1)) entries))).arrays

-- what a machine holds after these entries
pub record IsMoment (hash : Hash) (p : PartsForm) (entries : List Entry) (row : Row Arrays Entry) : Type 0 where
  -- register k holds the packet that entered k cycles before the last one, changed by the first k stages alone
  pub registers : (k : ℕ) → k < length p.stages
      → slice_index_or row.registers k None ≡ option_map (λ packet. (front hash p k (arrays_behind hash p k entries) (entering p packet)).words) (newest k entries)
  -- the arrays of stage k + 1 are those that the packets that have passed it leave
  pub arrays : (k : ℕ) (stage : StageForm) → slice_get p.stages k ≡ Some stage
      → AllByRecursion (λ j. array_of row.state j ≡ array_of (arrays_behind hash p k entries) j) (stage_arrays stage)

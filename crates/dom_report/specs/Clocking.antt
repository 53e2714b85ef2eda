-- A machine that is clocked over entries, and what is done after each of its cycles.
use Rattle.std.specs.Prelude.{◌≡◌, ℕ, ◌+◌, ◌<◌, Option, Some, None, List, [], ◌∷◌, ◌++◌, length, map}
use Rattle.dom_io.specs.Held.{IsPart, appended}
use Rattle.dom_words.specs.State.{Hash}
use Rattle.pipeline_law.specs.Pipeline.{left as left_of}
use Rattle.banzai_config.specs.Action.{Entry, acts}
use Rattle.banzai_machine.specs.Pipe.{clocked, cycle_with, entered, leaves_with, shown}
use Rattle.banzai_machine.specs.State.{MachineForm}
use Rattle.banzai_machine.specs.Touches.{cycle_touches}

-- a cycle that is done: its number, what left in it, and the machine after it
pub record Cycle : Type 0 where
  pub number : ℕ
  pub left : Entry
  pub machine : MachineForm

module _ (hash : Hash) where
  -- a machine after one cycle with this entry
  abbrev pub after_cycle : MachineForm → Entry → MachineForm
  after_cycle m entry = record {
    config = m.config;
    row = cycle_with hash m.config m.row entry;
    touches = cycle_touches m.config m.row.registers m.row.state;
  }

  -- and after one with each of these entries
  abbrev pub after_entries : MachineForm → List Entry → MachineForm
  after_entries m [] = m
  after_entries m (entry ∷ rest) = after_entries (after_cycle m entry) rest

  -- what leaves in these cycles
  abbrev pub left_over : MachineForm → List Entry → List Entry
  left_over m entries = map (shown m.config) (left_of (acts hash) clocked m.config.stages m.row (map (entered m.config) entries))

  -- the cycle of an entry
  abbrev pub cycle_of : MachineForm → ℕ → Entry → Cycle
  cycle_of m number entry = record { number = number; left = leaves_with hash m.config m.row entry; machine = after_cycle m entry }

  -- the cycles of entries, the first of which has this number
  abbrev pub cycles_from : MachineForm → ℕ → List Entry → List Cycle
  cycles_from m number [] = []
  cycles_from m number (entry ∷ rest) = cycle_of m number entry ∷ cycles_from (after_cycle m entry) (number + 1) rest

-- what is done after each cycle: the bytes that are put then, and what becomes of the one who does it
module _ {A : Type 0} (bytes : A → Cycle → List ℕ) (after : A → Cycle → A) where
  -- over cycles: the bytes
  abbrev pub bytes_over : A → List Cycle → List ℕ
  bytes_over a [] = []
  bytes_over a (cycle ∷ rest) = bytes a cycle ++ bytes_over (after a cycle) rest

  -- and what becomes of it
  abbrev pub after_cycles : A → List Cycle → A
  after_cycles a [] = a
  after_cycles a (cycle ∷ rest) = after_cycles (after a cycle) rest

  -- the machine was clocked over entries, and what is to be done was done after each cycle
  pub record ClockedOver (hash : Hash) (m m' : MachineForm) (a a' : A) (held held' : Option (List ℕ)) (number : ℕ) (entries : List Entry) : Type 0 where
    pub machine_is : m' ≡ after_entries hash m entries
    pub action_is : a' ≡ after_cycles a (cycles_from hash m number entries)
    pub held_is : held' ≡ appended held (bytes_over a (cycles_from hash m number entries))

  -- it stopped behind the cycle of an entry, where there were bytes to put, of which some first ones were put
  pub record StoppedIn (hash : Hash) (m m' : MachineForm) (a : A) (held held' : Option (List ℕ)) (number : ℕ) (entries : List Entry) : Type 0 where
    pub before : List Entry
    pub entry : Entry
    pub behind : List Entry
    pub entries_are : entries ≡ before ++ entry ∷ behind
    pub machine_is : m' ≡ after_entries hash m (before ++ entry ∷ [])
    pub last : List ℕ
    pub last_is : last ≡ bytes (after_cycles a (cycles_from hash m number before)) (cycle_of hash (after_entries hash m before) (number + length before) entry)
    pub some : 0 < length last
    pub part : IsPart (appended held (bytes_over a (cycles_from hash m number before))) held' last

-- the next of packets, each of which has its idle cycles before it: these cycles and its words, and the packets behind it;
-- none, where none is left
abbrev pub IsNext : List (ℕ × List ℕ) → Option ℕ → List ℕ → List (ℕ × List ℕ) → Type 0
IsNext packets None words behind = packets ≡ []
IsNext packets (Some gap) words behind = packets ≡ (gap, words) ∷ behind

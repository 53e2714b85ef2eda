-- A configuration clocked over entries, one a cycle: a packet, or nothing in an idle cycle.
use Rattle.std.specs.Prelude.{ℕ, Some, None, List, [], ◌∷◌, ◌++◌, map, replicate, length}
use Rattle.dom_words.specs.State.{Hash, array_of, started}
use Rattle.pipeline_law.specs.Pipeline.{Pipeline, Row, cycled, leaving as leaving_of, left_after, row_after}
use Rattle.banzai_config.specs.Action.{Arrays, Entry, Write, acts, entering, leaving, stage_writes, store}
use Rattle.banzai_config.specs.Named.{stage_arrays}
use Rattle.banzai_config.specs.Parts.{PartsForm, StageForm}

-- what a stage stores with this register before it
abbrev pub writes_before : StageForm → Arrays → Entry → List Write
writes_before stage arrays None = []
writes_before stage arrays (Some words) = stage_writes stage arrays words

-- what all stages store in one cycle, each with the register before it, all from the old arrays
abbrev pub cycle_writes : List StageForm → List Entry → Arrays → List Write
cycle_writes [] registers arrays = []
cycle_writes (stage ∷ stages) [] arrays = []
cycle_writes (stage ∷ stages) (register ∷ registers) arrays = writes_before stage arrays register ++ cycle_writes stages registers arrays

-- the arrays after a cycle
abbrev pub clocked : List StageForm → List Entry → Arrays → Arrays
clocked stages registers arrays = store (cycle_writes stages registers arrays) arrays

-- the words of a stage's arrays
abbrev pub own : StageForm → Arrays → List (List ℕ)
own stage arrays = map (λ k. array_of arrays k) (stage_arrays stage)

-- the stages of a configuration, one after another under one clock
abbrev pub pipeline : Hash → PartsForm → Pipeline Arrays Entry StageForm Arrays
pipeline hash p = record { stages = p.stages; run = acts hash; own = own; clock = clocked; idle = None }

-- what an entry puts before stage 1
abbrev pub entered : PartsForm → Entry → Entry
entered p None = None
entered p (Some packet) = Some (entering p packet)

-- what comes out behind the last stage, through the outputs
abbrev pub shown : PartsForm → Entry → Entry
shown p None = None
shown p (Some words) = Some (leaving p words)

module _ (hash : Hash) (p : PartsForm) where
  -- one cycle with this entry, and what leaves in it
  abbrev pub cycle_with : Row Arrays Entry → Entry → Row Arrays Entry
  cycle_with row entry = cycled (acts hash) clocked p.stages row (entered p entry)

  abbrev pub leaves_with : Row Arrays Entry → Entry → Entry
  leaves_with row entry = shown p (leaving_of (acts hash) clocked p.stages row (entered p entry))

  -- registers and arrays after these entries, from empty registers and the words that the arrays start with
  abbrev pub pipe : List Entry → Row Arrays Entry
  pipe entries = row_after (pipeline hash p) (started p.arrays) (map (entered p) entries)

  -- what leaves in each of these cycles
  abbrev pub emitted : List Entry → List Entry
  emitted entries = map (shown p) (left_after (pipeline hash p) (started p.arrays) (map (entered p) entries))

-- as many idle cycles as there are stages
abbrev pub drain : PartsForm → List Entry
drain p = replicate (length p.stages) None

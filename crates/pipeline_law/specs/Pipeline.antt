-- A pipeline: stages in a row, a register before each of them, one clock for all, and one entry a cycle, a packet or the
-- idle item. The letters and `run` are those of the stages.
use Rattle.std.specs.Prelude.{List, [], ◌∷◌, ◌++◌, take, length, replicate, slice_index_or}
use Rattle.pipeline_law.specs.Stage.{AreApart, IsClock, SkipsIdle, results}

-- stages in a row: what they do, what each of them owns, the state after all have acted at once, and the item of a cycle
-- in which no packet enters
pub record Pipeline (A X S V : Type 0) : Type 0 where
  pub stages : List S
  pub run : S → A → X → A × X
  pub own : S → A → V
  pub clock : List S → List X → A → A
  pub idle : X

-- its stages are apart, under one clock, and an idle item leaves them as they are
pub record IsFeedForward {A X S V : Type 0} (p : Pipeline A X S V) : Type 0 where
  pub apart : AreApart p.run p.own p.stages
  pub clocked : IsClock p.run p.own p.clock p.stages
  pub skips : SkipsIdle p.run p.idle p.stages

-- what the pipeline holds between two cycles: register k stands before stage k + 1
pub record Row (A X : Type 0) : Type 0 where
  pub registers : List X
  pub state : A

-- what a cycle has made before anything moves: a copy of each register as its stage passes it on, and the state
pub record Midst (A X : Type 0) : Type 0 where
  pub copies : List X
  pub state : A

-- as many idle cycles as there are stages, after which every packet has left
abbrev pub drain : {S X : Type 0} → List S → X → List X
drain ss idle = replicate (length ss) idle

-- the pipeline at the beginning: nothing in flight
abbrev pub empty_row : {A X S : Type 0} → List S → A → X → Row A X
empty_row ss start idle = record { registers = drain ss idle; state = start }

module _ {A X S : Type 0} where
  -- the end of a cycle: every copy moves on by one stage, and the entry comes into register 0
  abbrev pub moved_on : List S → Midst A X → X → Row A X
  moved_on ss m e = record { registers = take (length ss) (e ∷ m.copies); state = m.state }

  -- what leaves then: the copy behind the last stage
  abbrev pub moved_out : List S → Midst A X → X → X
  moved_out ss m e = slice_index_or (e ∷ m.copies) (length ss) e

-- clock: the state after all stages have acted at once
module _ {A X S : Type 0} (run : S → A → X → A × X) (clock : List S → List X → A → A) where
  -- all stages act at once, each on the register before it, from the old state
  abbrev pub acted : List S → Row A X → Midst A X
  acted ss p = record {
    copies = results run ss p.registers p.state;
    state = clock ss p.registers p.state;
  }

  -- one cycle: all stages act, and everything moves on
  abbrev pub cycled : List S → Row A X → X → Row A X
  cycled ss p e = moved_on ss (acted ss p) e

  -- what leaves in that cycle
  abbrev pub leaving : List S → Row A X → X → X
  leaving ss p e = moved_out ss (acted ss p) e

  -- the pipeline after these entries, one a cycle
  abbrev pub piped : List S → Row A X → List X → Row A X
  piped ss p [] = p
  piped ss p (e ∷ es) = piped ss (cycled ss p e) es

  -- what leaves in each of these cycles
  abbrev pub left : List S → Row A X → List X → List X
  left ss p [] = []
  left ss p (e ∷ es) = leaving ss p e ∷ left ss (cycled ss p e) es

-- a run that begins with nothing in flight and the state `start`
module _ {A X S V : Type 0} (p : Pipeline A X S V) (start : A) where
  -- what the pipeline holds after these entries
  abbrev pub row_after : List X → Row A X
  row_after entries = piped p.run p.clock p.stages (empty_row p.stages start p.idle) entries

  -- what leaves over these entries, an item a cycle
  abbrev pub left_after : List X → List X
  left_after entries = left p.run p.clock p.stages (empty_row p.stages start p.idle) entries

-- the entries, and the drain behind them
abbrev pub drained : {A X S V : Type 0} → Pipeline A X S V → List X → List X
drained p entries = entries ++ drain p.stages p.idle

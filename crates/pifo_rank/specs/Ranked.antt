-- A machine with a queue behind it that serves by a field of the packets.
use Rattle.std.specs.Prelude.{◌≡◌, ℕ, ◌+◌, Bool, List, [], ◌∷◌, length}
use Rattle.dom_words.specs.State.{Hash}
use Rattle.banzai_config.specs.Action.{Entry}
use Rattle.banzai_machine.specs.Pipe.{cycle_with, emitted, leaves_with}
use Rattle.banzai_machine.specs.State.{MachineForm, Stands}
use Rattle.banzai_machine.specs.Touches.{cycle_touches}
use Rattle.pifo_rank.specs.Queue.{Queue}
use Rattle.pifo_rank.specs.Run.{Turn, held_after, ranked, taken_in, turn}

-- rank: the position of the field that ranks
pub record RankedForm : Type 0 where
  pub machine : MachineForm
  pub queue : Queue
  pub rank : ℕ

-- the machine with an empty queue behind it
abbrev pub with_empty_queue : MachineForm → ℕ → ℕ → RankedForm
with_empty_queue machine rank room = record {
  machine = machine;
  queue = record { entries = []; pushes = 0; room = room; width = length machine.config.fields };
  rank = rank;
}

module _ (hash : Hash) where
  -- what the queue does in a cycle with this entry: what leaves the machine arrives
  abbrev pub turn_of : RankedForm → Entry → Bool → Turn
  turn_of r entry serve = turn r.queue.room r.rank r.queue.entries (leaves_with hash r.machine.config r.machine.row entry) serve

  -- the machine and the queue after it
  abbrev pub after_cycle : RankedForm → Entry → Bool → RankedForm
  after_cycle r entry serve = record {
    machine = record {
      config = r.machine.config;
      row = cycle_with hash r.machine.config r.machine.row entry;
      touches = cycle_touches r.machine.config r.machine.row.registers r.machine.row.state;
    };
    queue = record {
      entries = (turn_of r entry serve).held;
      pushes = r.queue.pushes + taken_in r.queue.room r.queue.entries (leaves_with hash r.machine.config r.machine.row entry);
      room = r.queue.room;
      width = r.queue.width;
    };
    rank = r.rank;
  }

  -- a cycle with each of these entries, and whether it serves
  abbrev pub turns_from : RankedForm → List Entry → List Bool → List Turn
  turns_from r [] serving = []
  turns_from r (entry ∷ entries) [] = []
  turns_from r (entry ∷ entries) (serve ∷ serving) = turn_of r entry serve ∷ turns_from (after_cycle r entry serve) entries serving

  -- the machine stands at the entries, and the queue holds what it does after these cycles over the packets that have left
  pub record StandsRanked (entries : List Entry) (serving : List Bool) (r : RankedForm) : Type 0 where
    pub machine : Stands hash entries r.machine
    pub cycles : length serving ≡ length entries
    pub held : r.queue.entries ≡ held_after [] (ranked r.queue.room r.rank (emitted hash r.machine.config entries) serving)

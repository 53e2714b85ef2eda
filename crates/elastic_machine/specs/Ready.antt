-- Which events are ready, by the number of packets in each queue.
use Rattle.std.specs.Prelude.{◌≡◌, ℕ, ◌+◌, Bool, true, false, Option, Some, None, Result, List, nat_eq, slice_index, MatchResult}
use Rattle.elastic_machine.specs.declared.ready.NotReady.{NotReady}
use Rattle.elastic_machine.specs.declared.ready.NotReady.TheVariants.{Empty, Full}

-- what an event waits for that puts a packet into queue j
abbrev pub full_waits : (full : Bool) → ℕ → Option NotReady
full_waits true j = Some (Full j)
full_waits false j = None

-- what one waits for that takes a packet from queue j, and then for `next`
abbrev pub empty_waits : (empty : Bool) → ℕ → Option NotReady → Option NotReady
empty_waits true j next = Some (Empty j)
empty_waits false j next = next

-- most: the packets that a queue holds at most; k: a stage by its number from 0, before which queue k stands
abbrev pub enter_waits : ℕ → List ℕ → Option NotReady
enter_waits most counts = full_waits (nat_eq (slice_index counts 0) most) 0

abbrev pub fire_waits : ℕ → ℕ → List ℕ → Option NotReady
fire_waits most k counts = empty_waits (nat_eq (slice_index counts k) 0) k (full_waits (nat_eq (slice_index counts (k + 1)) most) (k + 1))

abbrev pub leave_waits : ℕ → List ℕ → Option NotReady
leave_waits last counts = empty_waits (nat_eq (slice_index counts last) 0) last None

-- a call answers what its event waits for, if it waits
abbrev pub Answers : {U : Type 0} → Option NotReady → Result U NotReady → Type 0
Answers waits result = MatchResult result (λ _. waits ≡ None) (λ e. waits ≡ Some e)

-- A queue behind a machine holds, serves and drops what it does over the packets that leave the machine.
use Rattle.std.proofs.Common.{◌≡◌, ℕ, ◌+◌, Bool, cond, None, Some, List, [], ◌∷◌, ◌++◌, length, map, refl, sym, ◌∙◌, ap, subst, arith}
use Rattle.std.proofs.lemmas.List.{length-map, length_push}
use Rattle.dom_words.specs.State.{Hash, started}
use Rattle.pipeline_law.specs.Pipeline.{Row, cycled, empty_row, left}
use Rattle.banzai_config.specs.Action.{Arrays, Entry, acts}
use Rattle.banzai_config.specs.Parts.{PartsForm}
use Rattle.banzai_machine.specs.Alone.{entries_alone}
use Rattle.banzai_machine.specs.Own.{OwnArrays}
use Rattle.banzai_machine.specs.Pipe.{clocked, cycle_with, drain, emitted, entered, leaves_with, pipe, shown}
use Rattle.banzai_machine.specs.State.{LeavesAs, MachineForm, Stands}
use Rattle.banzai_machine.specs.Touches.{cycle_touches}
use Rattle.banzai_machine.specs.declared.touch.Touch.{Touch}
use Rattle.banzai_machine.proofs.Cycle.{emitted_more, stands_step}
use Rattle.banzai_machine.proofs.Moments.{pipe_alone}
use Rattle.pifo_rank.specs.Queue.{Held, Queue}
use Rattle.pifo_rank.specs.Ranked.{RankedForm, StandsRanked, after_cycle, turn_of, turns_from, with_empty_queue}
use Rattle.pifo_rank.specs.Run.{Turn, held_after, joined, kept_in, ranked, ranked_from, taken_in, turn}

-- one cycle more
module _ (room rank : ℕ) where
  ranked_more : (held : List Held) (arrivals : List Entry) (serving : List Bool) (arrival : Entry) (serve : Bool) → length serving ≡ length arrivals
      → ranked_from room rank held (arrivals ++ arrival ∷ []) (serving ++ serve ∷ [])
      ≡ ranked_from room rank held arrivals serving ++ turn room rank (held_after held (ranked_from room rank held arrivals serving)) arrival serve ∷ []
  ranked_more held [] [] arrival serve size = refl
  ranked_more held [] (s ∷ serving) arrival serve size = absurd (omega arith)
  ranked_more held (a ∷ arrivals) [] arrival serve size = absurd (omega arith)
  ranked_more held (a ∷ arrivals) (s ∷ serving) arrival serve size =
      let less : length serving ≡ length arrivals = omega arith in
      ap (λ (l : List Turn). turn room rank held a s ∷ l) (ranked_more (turn room rank held a s).held arrivals serving arrival serve less)

held_more : (held : List Held) (turns : List Turn) (t : Turn) → held_after held (turns ++ t ∷ []) ≡ t.held
held_more held [] t = refl
held_more held (first ∷ turns) t = held_more first.held turns t

left_size : {A X S : Type 0} (run : S → A → X → A × X) (clock : List S → List X → A → A) (ss : List S) (p : Row A X) (xs : List X) → length (left run clock ss p xs) ≡ length xs
left_size run clock ss p [] = refl
left_size run clock ss p (x ∷ xs) = omega (arith, left_size run clock ss (cycled run clock ss p x) xs)

emitted_size : (hash : Hash) (c : PartsForm) (entries : List Entry) → length (emitted hash c entries) ≡ length entries
emitted_size hash c entries =
    length-map (left (acts hash) clocked c.stages (empty_row c.stages (started c.arrays) None) (map (entered c) entries)) (shown c)
    ∙ left_size (acts hash) clocked c.stages (empty_row c.stages (started c.arrays) None) (map (entered c) entries)
    ∙ length-map entries (entered c)

module _ (hash : Hash) (entries : List Entry) (serving : List Bool) (r : RankedForm) (is : StandsRanked hash entries serving r) (entry : Entry) (serve : Bool) where
  pub turn_next : ranked r.queue.room r.rank (emitted hash r.machine.config (entries ++ entry ∷ [])) (serving ++ serve ∷ [])
      ≡ ranked r.queue.room r.rank (emitted hash r.machine.config entries) serving ++ turn_of hash r entry serve ∷ []
  turn_next =
      let c : PartsForm = r.machine.config in
      let room : ℕ = r.queue.room in
      let rank : ℕ = r.rank in
      let out : List Entry = emitted hash c entries in
      let size : length serving ≡ length out = is.cycles ∙ sym (emitted_size hash c entries) in
      ap (λ (l : List Entry). ranked room rank l (serving ++ serve ∷ [])) (emitted_more hash c entries entry)
      ∙ ranked_more room rank [] out serving (leaves_with hash c (pipe hash c entries) entry) serve size
      ∙ ap (λ (held : List Held). ranked room rank out serving ++ turn room rank held (leaves_with hash c (pipe hash c entries) entry) serve ∷ []) (sym is.held)
      ∙ ap (λ (row : Row Arrays Entry). ranked room rank out serving ++ turn room rank r.queue.entries (leaves_with hash c row entry) serve ∷ []) (sym is.machine)

  stands_next : StandsRanked hash (entries ++ entry ∷ []) (serving ++ serve ∷ []) (after_cycle hash r entry serve)
  stands_next = record {
    machine = stands_step hash r.machine.config r.machine.row (cycle_with hash r.machine.config r.machine.row entry) entries entry refl is.machine;
    cycles = omega (arith, length_push serving serve, length_push entries entry, is.cycles);
    held =
        sym (ap (λ (turns : List Turn). held_after [] turns) turn_next
        ∙ held_more [] (ranked r.queue.room r.rank (emitted hash r.machine.config entries) serving) (turn_of hash r entry serve));
  }

  pub stands_after : (s : RankedForm) → s ≡ after_cycle hash r entry serve → StandsRanked hash (entries ++ entry ∷ []) (serving ++ serve ∷ []) s
  stands_after s after = subst (λ (z : RankedForm). StandsRanked hash (entries ++ entry ∷ []) (serving ++ serve ∷ []) z) (sym after) stands_next

-- a run from a machine's beginning
module _ (hash : Hash) where
  cycles_rank : (r : RankedForm) (entries : List Entry) (serving : List Bool)
      → turns_from hash r entries serving
      ≡ ranked_from r.queue.room r.rank r.queue.entries (map (shown r.machine.config) (left (acts hash) clocked r.machine.config.stages r.machine.row (map (entered r.machine.config) entries))) serving
  cycles_rank r [] serving = refl
  cycles_rank r (entry ∷ entries) [] = refl
  cycles_rank r (entry ∷ entries) (serve ∷ serving) =
      ap (λ (l : List Turn). turn_of hash r entry serve ∷ l) (cycles_rank (after_cycle hash r entry serve) entries serving)

  pub cycles_are : (m : MachineForm) (rank room : ℕ) (entries : List Entry) (serving : List Bool) → Stands hash [] m
      → turns_from hash (with_empty_queue m rank room) entries serving ≡ ranked room rank (emitted hash m.config entries) serving
  cycles_are m rank room entries serving is =
      cycles_rank (with_empty_queue m rank room) entries serving
      ∙ ap (λ (row : Row Arrays Entry). ranked room rank (map (shown m.config) (left (acts hash) clocked m.config.stages row (map (entered m.config) entries))) serving) is

  pub cycles_alone : (m : MachineForm) (rank room : ℕ) (entries : List Entry) (serving : List Bool) → Stands hash [] m → OwnArrays m.config.stages
      → turns_from hash (with_empty_queue m rank room) (entries ++ drain m.config) serving
      ≡ ranked room rank (drain m.config ++ entries_alone hash m.config (started m.config.arrays) entries) serving
  cycles_alone m rank room entries serving is owns =
      cycles_are m rank room (entries ++ drain m.config) serving is
      ∙ ap (λ (l : List Entry). ranked room rank l serving) (pipe_alone hash m.config owns entries).cycles

pub shown_is : (o : Entry) (told : Bool) (old new : List ℕ) → LeavesAs o told old new → cond told (Some new) None ≡ o
shown_is None told old new h = ap (λ (b : Bool). cond b (Some new) None) h.0
shown_is (Some words) told old new h = ap (λ (b : Bool). cond b (Some new) None) h.0 ∙ ap (λ (w : List ℕ). Some w) h.1

abbrev machine_of : PartsForm → Row Arrays Entry → List Touch → MachineForm
machine_of config row touches = record { config = config; row = row; touches = touches }

-- the parts of a machine, put together
machine_is : (config : PartsForm) (row : Row Arrays Entry) (touches : List Touch) (m : MachineForm) → m.config ≡ config → m.row ≡ row → m.touches ≡ touches
    → m ≡ machine_of config row touches
machine_is config row touches m a b c =
    ap (λ (z : PartsForm). machine_of z m.row m.touches) a
    ∙ ap (λ (z : Row Arrays Entry). machine_of config z m.touches) b
    ∙ ap (λ (z : List Touch). machine_of config row z) c

abbrev pub queue_with : Queue → List Held → ℕ → Queue
queue_with q entries pushes = record { entries = entries; pushes = pushes; room = q.room; width = q.width }

abbrev pub after_arrival : ℕ → Queue → Entry → Queue
after_arrival rank q arrival = queue_with q (joined q.room rank q.entries arrival) (q.pushes + taken_in q.room q.entries arrival)

-- the machine, and then the queue in two steps
pub after_steps : (hash : Hash) (r : RankedForm) (entry : Entry) (serve : Bool) (m : MachineForm) (taken q : Queue) (arrival : Entry)
    → m.config ≡ r.machine.config → m.row ≡ cycle_with hash r.machine.config r.machine.row entry → m.touches ≡ cycle_touches r.machine.config r.machine.row.registers r.machine.row.state
    → arrival ≡ leaves_with hash r.machine.config r.machine.row entry
    → taken ≡ after_arrival r.rank r.queue arrival → q ≡ queue_with taken (kept_in taken.entries serve) taken.pushes
    → ◌≡◌ {A = RankedForm} (record { machine = m; queue = q; rank = r.rank }) (after_cycle hash r entry serve)
after_steps hash r entry serve m taken q arrival config row touches out first second =
    let made : q ≡ queue_with r.queue (kept_in (joined r.queue.room r.rank r.queue.entries arrival) serve) (r.queue.pushes + taken_in r.queue.room r.queue.entries arrival) =
    second ∙ ap (λ (z : Queue). queue_with z (kept_in z.entries serve) z.pushes) first in
    ap (λ (z : MachineForm). ranked_of z q)
    (machine_is r.machine.config (cycle_with hash r.machine.config r.machine.row entry) (cycle_touches r.machine.config r.machine.row.registers r.machine.row.state) m config row touches)
    ∙ ap (λ (z : Queue). ranked_of (after_cycle hash r entry serve).machine z) made
    ∙ ap (λ (a : Entry). ranked_of (after_cycle hash r entry serve).machine (queue_with r.queue (kept_in (joined r.queue.room r.rank r.queue.entries a) serve) (r.queue.pushes + taken_in r.queue.room r.queue.entries a))) out
  where
    ranked_of : MachineForm → Queue → RankedForm
    ranked_of z w = record { machine = z; queue = w; rank = r.rank }

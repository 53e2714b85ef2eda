-- The atoms of one cycle, fired one after another in any order.
use Rattle.std.specs.Prelude.{◌≡◌, ℕ, suc, Some, None, List, [], ◌∷◌, ◌++◌, map, slice_index_or, slice_set}
use Rattle.dom_words.specs.State.{Hash}
use Rattle.pipeline_law.specs.Order.{copied, runs}
use Rattle.pipeline_law.specs.Pipeline.{Midst, Row, moved_on, moved_out}
use Rattle.banzai_config.specs.Action.{Arrays, Entry, Export, atom_exports, atom_writes, put, store}
use Rattle.banzai_config.specs.Parts.{Atom, PartsForm, StageForm, atoms_of}
use Rattle.banzai_machine.specs.Pipe.{cycle_with, entered, leaves_with, shown}

-- an atom of stage `stage` + 1
pub record Firing : Type 0 where
  pub stage : ℕ
  pub atom : Atom

-- all atoms of the stages that have a packet before them; k: the number of the first of these stages, from 0
abbrev pub firings_from : ℕ → List StageForm → List Entry → List Firing
firings_from k [] registers = []
firings_from k (stage ∷ stages) [] = []
firings_from k (stage ∷ stages) (None ∷ registers) = firings_from (suc k) stages registers
firings_from k (stage ∷ stages) (Some words ∷ registers) =
    map (λ atom. record { stage = k; atom = atom }) (atoms_of stage) ++ firings_from (suc k) stages registers

-- exports go into a packet, if there is one
abbrev pub put_into : List Export → Entry → Entry
put_into exports None = None
put_into exports (Some words) = Some (put exports words)

-- an atom reads the register that was before its stage, and its arrays as they are by then; what it exports goes into its
-- stage's one copy of that register
abbrev pub fired_on : Hash → Firing → Midst Arrays Entry → Entry → Midst Arrays Entry
fired_on hash f m None = m
fired_on hash f m (Some words) = record {
  copies = slice_set m.copies f.stage (put_into (atom_exports hash f.atom m.state words) (slice_index_or m.copies f.stage None));
  state = store (atom_writes f.atom m.state words) m.state;
}

abbrev pub fire : Hash → List Entry → Firing → Midst Arrays Entry → Midst Arrays Entry
fire hash registers f m = fired_on hash f m (slice_index_or registers f.stage None)

-- atoms fired in this order
abbrev pub fired : Hash → Row Arrays Entry → List Firing → Midst Arrays Entry
fired hash row order = runs (fire hash row.registers) order (copied row)

-- fired in this order, the atoms do the cycle: then the copies move on, the last leaves and the entry comes in
pub record IsFired (hash : Hash) (p : PartsForm) (row : Row Arrays Entry) (entry : Entry) (order : List Firing) : Type 0 where
  pub row_is : moved_on p.stages (fired hash row order) (entered p entry) ≡ cycle_with hash p row entry
  pub leaves : shown p (moved_out p.stages (fired hash row order) (entered p entry)) ≡ leaves_with hash p row entry

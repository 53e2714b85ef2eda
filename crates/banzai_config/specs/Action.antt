-- What atoms, stages and a whole configuration do to arrays and to a packet's containers.
use Rattle.std.specs.Prelude.{ℕ, ◌-◌, Option, Some, None, List, [], ◌∷◌, ◌++◌, length, map, replicate, slice_set, take}
use Rattle.std.specs.List.{flat_map}
use Rattle.dom_words.specs.State.{Hash, Outcome, array_of, element_of, fetched, started}
use Rattle.atom_traits.specs.Form.{TreesForm, port_word, two_of, words_of}
use Rattle.atom_traits.specs.Operation.{stateless_word}
use Rattle.banzai_config.specs.declared.parts.OpAtom.{OpAtom}
use Rattle.banzai_config.specs.declared.parts.PartSlot.{PartSlot}
use Rattle.banzai_config.specs.Parts.{Atom, Stateless, Stateful, AtomForm, PartsForm, StageForm, atoms_of}

-- the words of all arrays, by number
abbrev pub Arrays : Type 0
Arrays = List (List ℕ)

-- a word for an element of an array, and a word for a container
pub record Write : Type 0 where
  pub array : ℕ
  pub index : ℕ
  pub word : ℕ

pub record Export : Type 0 where
  pub to : ℕ
  pub word : ℕ

abbrev pub store : List Write → Arrays → Arrays
store [] arrays = arrays
store (w ∷ ws) arrays = store ws (slice_set arrays w.array (slice_set (array_of arrays w.array) w.index w.word))

abbrev pub put : List Export → List ℕ → List ℕ
put [] words = words
put (e ∷ es) words = put es (slice_set words e.to e.word)

-- the element that a slot reaches, and the word there
abbrev pub slot_element : PartSlot → Arrays → List ℕ → ℕ
slot_element slot arrays words = element_of (array_of arrays slot.array) (port_word slot.index words)

abbrev pub old_word : PartSlot → Arrays → List ℕ → ℕ
old_word slot arrays words = fetched arrays slot.array (port_word slot.index words)

-- all new words of an atom, from all old words
abbrev pub new_words : AtomForm → Arrays → List ℕ → List ℕ
new_words a arrays words = words_of a.trees (two_of (map (λ slot. old_word slot arrays words) a.slots)) words

-- each slot's new word goes to its element
abbrev pub slot_writes : List PartSlot → List ℕ → Arrays → List ℕ → List Write
slot_writes [] news arrays words = []
slot_writes (slot ∷ slots) [] arrays words = []
slot_writes (slot ∷ slots) (new ∷ news) arrays words =
    record { array = slot.array; index = slot_element slot arrays words; word = new } ∷ slot_writes slots news arrays words

-- a word goes to the container that is named, if one is
abbrev pub export_to : Option ℕ → ℕ → List Export
export_to None word = []
export_to (Some to) word = record { to = to; word = word } ∷ []

-- each slot's old word and new word go to the containers that it names
abbrev pub slot_exports : List PartSlot → List ℕ → Arrays → List ℕ → List Export
slot_exports [] news arrays words = []
slot_exports (slot ∷ slots) [] arrays words = []
slot_exports (slot ∷ slots) (new ∷ news) arrays words =
    export_to slot.old (old_word slot arrays words) ++ (export_to slot.new new ++ slot_exports slots news arrays words)

-- what an atom stores and exports, from the arrays and containers before it
abbrev pub atom_writes : Atom → Arrays → List ℕ → List Write
atom_writes (Stateless a) arrays words = []
atom_writes (Stateful a) arrays words = slot_writes a.slots (new_words a arrays words) arrays words

abbrev pub atom_exports : Hash → Atom → Arrays → List ℕ → List Export
atom_exports hash (Stateless a) arrays words = record { to = a.to; word = stateless_word hash a.op words } ∷ []
atom_exports hash (Stateful a) arrays words = slot_exports a.slots (new_words a arrays words) arrays words

-- all atoms of a stage, on the same arrays and containers
abbrev pub stage_writes : StageForm → Arrays → List ℕ → List Write
stage_writes stage arrays words = flat_map (λ a. atom_writes a arrays words) (atoms_of stage)

abbrev pub stage_exports : Hash → StageForm → Arrays → List ℕ → List Export
stage_exports hash stage arrays words = flat_map (λ a. atom_exports hash a arrays words) (atoms_of stage)

-- a packet's containers, or no packet
abbrev pub Entry : Type 0
Entry = Option (List ℕ)

-- a stage with the packet before it; without a packet nothing changes
abbrev pub acts : Hash → StageForm → Arrays → Entry → Arrays × Entry
acts hash stage arrays None = (arrays, None)
acts hash stage arrays (Some words) = (store (stage_writes stage arrays words) arrays, Some (put (stage_exports hash stage arrays words) words))

-- the containers and the arrays behind a stage
pub record Passed : Type 0 where
  pub arrays : Arrays
  pub words : List ℕ

-- one packet through stages one after another, with nobody else in the machine
abbrev pub through_stages : Hash → List StageForm → Arrays → List ℕ → Passed
through_stages hash [] arrays words = record { arrays = arrays; words = words }
through_stages hash (stage ∷ stages) arrays words =
    through_stages hash stages (store (stage_writes stage arrays words) arrays) (put (stage_exports hash stage arrays words) words)

-- one packet through the stages 1 to k
abbrev pub front : Hash → PartsForm → ℕ → Arrays → List ℕ → Passed
front hash p k arrays words = through_stages hash (take k p.stages) arrays words

-- the containers of an entering packet: the fields, and 0 in all others
abbrev pub entering : PartsForm → List ℕ → List ℕ
entering p packet = packet ++ replicate (p.containers - length packet) 0

-- the field words of a leaving packet, by the outputs
abbrev pub leaving : PartsForm → List ℕ → List ℕ
leaving p words = map (λ o. port_word o words) p.outputs

-- one packet through all stages and the outputs
abbrev pub outcome_of : Hash → PartsForm → Arrays → List ℕ → Outcome
outcome_of hash p arrays packet =
    let end : Passed = through_stages hash p.stages arrays (entering p packet) in
    record { packet = leaving p end.words; arrays = end.arrays }

-- packets one after another, each through all stages before the next one enters
pub record AloneOutcome : Type 0 where
  pub packets : List (List ℕ)
  pub arrays : Arrays

abbrev pub alone_from : Hash → PartsForm → Arrays → List (List ℕ) → AloneOutcome
alone_from hash p arrays [] = record { packets = []; arrays = arrays }
alone_from hash p arrays (packet ∷ packets) =
    let one : Outcome = outcome_of hash p arrays packet in
    let rest : AloneOutcome = alone_from hash p one.arrays packets in
    record { packets = one.packet ∷ rest.packets; arrays = rest.arrays }

-- from the words that the arrays start with
abbrev pub alone : Hash → PartsForm → List (List ℕ) → AloneOutcome
alone hash p packets = alone_from hash p (started p.arrays) packets

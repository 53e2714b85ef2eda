-- The bytes of a text, piece after piece.
use Rattle.std.specs.Prelude.{ℕ, ◌+◌, Bool, true, ◌&&◌, Option, Some, None, List, [], ◌∷◌, ◌++◌, codes, length}
use Rattle.std.specs.Fmt.{decimal}
use Rattle.std.specs.List.{flat_map, list_all}
use Rattle.atom_traits.specs.declared.tree.Guard.{Guard}
use Rattle.atom_traits.specs.Form.{TreeForm, Ends, Asks}
use Rattle.atom_traits.specs.Tests.{tree_passes}
use Rattle.banzai_config.specs.declared.parts.OpAtom.{OpAtom}
use Rattle.banzai_config.specs.declared.parts.PartSlot.{PartSlot}
use Rattle.banzai_config.specs.Parts.{AtomForm, PartsForm, StageForm}
use Rattle.config_text.specs.Lines.{Line, head, target, field, array, containers, stage, op, atom, out, the_end, NamedParts, words_of}
use Rattle.config_text.specs.Small.{is_array_small, is_op_small, is_slot_small, is_source_small}
use Rattle.config_text.specs.Words.{leaf_words, option_text, port_fits, port_text, rel_text, source_text}

-- words, each behind a comma
abbrev pub with_commas : List (List ℕ) → List ℕ
with_commas ws = flat_map (λ w. 44 ∷ w) ws

-- words with commas between them
abbrev pub spelled : List (List ℕ) → List ℕ
spelled [] = []
spelled (w ∷ ws) = w ++ with_commas ws

-- a line and its line feed
abbrev pub line_bytes : Line → List ℕ
line_bytes l = spelled (words_of l) ++ 10 ∷ []

-- a question, each of its words behind a comma
abbrev pub guard_bytes : Guard → List ℕ
guard_bytes g = codes ",if," ++ rel_text g.rel ++ 44 ∷ source_text g.left ++ 44 ∷ source_text g.right

-- a tree, each of its words behind a comma
abbrev pub tree_bytes : TreeForm → List ℕ
tree_bytes (Ends l) = with_commas (leaf_words l)
tree_bytes (Asks g y n) = codes ",if," ++ rel_text g.rel ++ 44 ∷ source_text g.left ++ 44 ∷ source_text g.right ++ tree_bytes y ++ tree_bytes n

abbrev pub slot_bytes : PartSlot → TreeForm → List ℕ
slot_bytes s t =
    (codes "slot," ++ decimal s.array ++ 44 ∷ port_text s.index ++ 44 ∷ option_text s.old ++ 44 ∷ option_text s.new ++ tree_bytes t) ++ 10 ∷ []

abbrev pub second_bytes : List PartSlot → Option TreeForm → List ℕ
second_bytes [] t = []
second_bytes (s ∷ ss) None = []
second_bytes (s ∷ ss) (Some t) = slot_bytes s t

abbrev pub slots_bytes : List PartSlot → TreeForm → Option TreeForm → List ℕ
slots_bytes [] first second = []
slots_bytes (s ∷ ss) first second = slot_bytes s first ++ second_bytes ss second

abbrev pub atom_bytes : AtomForm → List ℕ
atom_bytes a = line_bytes (atom (length a.slots)) ++ slots_bytes a.slots a.trees.first a.trees.second

abbrev pub op_bytes : OpAtom → List ℕ
op_bytes a = line_bytes (op a)

-- a stage with its number
abbrev pub stage_bytes : ℕ → StageForm → List ℕ
stage_bytes k s = line_bytes (stage k) ++ flat_map op_bytes s.stateless ++ flat_map atom_bytes s.stateful

-- stages, the first with number k
abbrev pub stages_bytes : ℕ → List StageForm → List ℕ
stages_bytes k [] = []
stages_bytes k (s ∷ ss) = stage_bytes k s ++ stages_bytes (k + 1) ss

-- the lines before those of the stages
abbrev pub front_bytes : NamedParts → List ℕ
front_bytes n =
    line_bytes (head n.parts.version) ++ line_bytes (target n.target) ++ flat_map (λ name. line_bytes (field name)) n.parts.fields
    ++ flat_map (λ a. line_bytes (array a)) n.parts.arrays ++ line_bytes (containers n.parts.containers)

-- a whole text
abbrev pub whole_bytes : NamedParts → List ℕ
whole_bytes n =
    line_bytes (head n.parts.version) ++ line_bytes (target n.target) ++ flat_map (λ name. line_bytes (field name)) n.parts.fields
    ++ flat_map (λ a. line_bytes (array a)) n.parts.arrays ++ line_bytes (containers n.parts.containers) ++ stages_bytes 1 n.parts.stages
    ++ flat_map (λ p. line_bytes (out p)) n.parts.outputs ++ line_bytes the_end

-- the numbers of a tree are words
abbrev pub is_tree_small : TreeForm → Bool
is_tree_small t = tree_passes port_fits is_source_small t

-- those of a slot with its tree
abbrev pub is_slot_written : PartSlot → TreeForm → Bool
is_slot_written s t = is_slot_small s && is_tree_small t

abbrev pub is_second_written : List PartSlot → Option TreeForm → Bool
is_second_written [] t = true
is_second_written (s ∷ ss) None = true
is_second_written (s ∷ ss) (Some t) = is_slot_written s t

-- those of the slots and trees that have a line
abbrev pub are_slots_written : List PartSlot → TreeForm → Option TreeForm → Bool
are_slots_written [] first second = true
are_slots_written (s ∷ ss) first second = is_slot_written s first && is_second_written ss second

abbrev pub is_atom_written : AtomForm → Bool
is_atom_written a = are_slots_written a.slots a.trees.first a.trees.second

abbrev pub is_stage_written : StageForm → Bool
is_stage_written s = list_all is_op_small s.stateless && list_all is_atom_written s.stateful

-- each number that has a place in the text is a word
abbrev pub are_numbers_written : PartsForm → Bool
are_numbers_written p = list_all is_array_small p.arrays && (list_all is_stage_written p.stages && list_all port_fits p.outputs)

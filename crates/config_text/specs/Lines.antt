-- The lines that spell a configuration.
use Rattle.std.specs.Prelude.{ℕ, ◌+◌, Bool, true, ◌&&◌, Option, Some, None, List, [], ◌∷◌, ◌++◌, codes, length, map, nat_le}
use Rattle.std.specs.Fmt.{decimal}
use Rattle.std.specs.List.{flat_map}
use Rattle.dom_words.specs.declared.array.Array.{Array}
use Rattle.dom_words.specs.Spelling.{is_name}
use Rattle.atom_traits.specs.declared.tree.Port.{Port}
use Rattle.atom_traits.specs.Form.{TreeForm, TreesForm}
use Rattle.banzai_config.specs.declared.parts.OpAtom.{OpAtom}
use Rattle.banzai_config.specs.declared.parts.PartSlot.{PartSlot}
use Rattle.banzai_config.specs.declared.parts.Version.{Version}
use Rattle.banzai_config.specs.Parts.{AtomForm, PartsForm, StageForm}
use Rattle.config_text.specs.Words.{is_small, is_target_word, op_fits, op_words, option_fits, option_text, port_fits, port_text, tree_fits, tree_words, version_text, word_text}

-- a line by its meaning
pub data Line : Type 0 where
  head : Version → Line
  target : List ℕ → Line
  field : List ℕ → Line
  array : Array → Line
  containers : ℕ → Line
  stage : ℕ → Line
  op : OpAtom → Line
  atom : ℕ → Line
  slot : PartSlot → TreeForm → Line
  out : Port → Line
  the_end : Line

abbrev pub words_of : Line → List (List ℕ)
words_of (head v) = codes "banzai" ∷ version_text v ∷ []
words_of (target name) = codes "target" ∷ name ∷ []
words_of (field name) = codes "field" ∷ name ∷ []
words_of (array a) = codes "array" ∷ a.name ∷ decimal a.length ∷ word_text a.init ∷ []
words_of (containers n) = codes "containers" ∷ decimal n ∷ []
words_of (stage k) = codes "stage" ∷ decimal k ∷ []
words_of (op a) = op_words a.to a.op
words_of (atom n) = codes "atom" ∷ decimal n ∷ []
words_of (slot s t) = codes "slot" ∷ decimal s.array ∷ port_text s.index ∷ option_text s.old ∷ option_text s.new ∷ tree_words t
words_of (out p) = codes "out" ∷ port_text p ∷ []
words_of the_end = codes "end" ∷ []

-- words with commas between them
abbrev pub joined : List (List ℕ) → List ℕ
joined [] = []
joined (w ∷ []) = w
joined (w ∷ v ∷ ws) = w ++ 44 ∷ joined (v ∷ ws)

abbrev pub line_text : Line → List ℕ
line_text l = joined (words_of l)

-- which lines there are
abbrev pub line_fits : Line → Bool
line_fits (head v) = true
line_fits (target name) = is_target_word name
line_fits (field name) = is_name name
line_fits (array a) = is_name a.name && (is_small a.length && is_small a.init)
line_fits (containers n) = is_small n
line_fits (stage k) = is_small k
line_fits (op a) = is_small a.to && op_fits a.op
line_fits (atom n) = nat_le 1 n && nat_le n 2
line_fits (slot s t) = is_small s.array && (port_fits s.index && (option_fits s.old && (option_fits s.new && tree_fits 2 t)))
line_fits (out p) = port_fits p
line_fits the_end = true

-- the line of a second slot, with the second tree
abbrev pub second_lines : List PartSlot → Option TreeForm → List Line
second_lines [] t = []
second_lines (s ∷ ss) None = []
second_lines (s ∷ ss) (Some t) = slot s t ∷ []

-- the lines of slots, each with its tree
abbrev pub slot_lines : List PartSlot → TreesForm → List Line
slot_lines [] t = []
slot_lines (s ∷ ss) t = slot s t.first ∷ second_lines ss t.second

abbrev pub atom_lines : AtomForm → List Line
atom_lines a = atom (length a.slots) ∷ slot_lines a.slots a.trees

abbrev pub stage_lines : StageForm → List Line
stage_lines s = map op s.stateless ++ flat_map atom_lines s.stateful

-- stages, the first with number k
abbrev pub stages_from : ℕ → List StageForm → List Line
stages_from k [] = []
stages_from k (s ∷ ss) = stage k ∷ (stage_lines s ++ stages_from (k + 1) ss)

-- a configuration and the name of its target
pub record NamedParts : Type 0 where
  pub target : List ℕ
  pub parts : PartsForm

abbrev pub parts_lines : PartsForm → List Line
parts_lines p = map field p.fields ++ (map array p.arrays ++ containers p.containers ∷ (stages_from 1 p.stages ++ (map out p.outputs ++ the_end ∷ [])))

-- all lines
abbrev pub lines_of : NamedParts → List Line
lines_of n = head n.parts.version ∷ target n.target ∷ parts_lines n.parts

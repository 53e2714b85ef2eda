-- The words of a configuration's text: numbers, ports, operators and trees.
use Rattle.std.specs.Prelude.{ℕ, zero, suc, ◌-◌, Bool, true, false, ◌&&◌, ◌||◌, ◌==◌, if◌then◌else◌, Option, Some, None, List, [], ◌∷◌, ◌++◌, codes, length, map, nat_lt, nat_le}
use Rattle.std.specs.Char.{is_ascii_lowercase}
use Rattle.std.specs.Fmt.{decimal}
use Rattle.std.specs.List.{list_all}
use Rattle.dom_words.specs.declared.operators.UnOp.{UnOp}
use Rattle.dom_words.specs.declared.operators.UnOp.TheVariants as un
use Rattle.dom_words.specs.declared.operators.BinOp.{BinOp}
use Rattle.dom_words.specs.declared.operators.BinOp.TheVariants as bin
use Rattle.dom_words.specs.Units.{unit_text}
use Rattle.atom_traits.specs.declared.operation.StatelessOp.{StatelessOp}
use Rattle.atom_traits.specs.declared.operation.StatelessOp.TheVariants as operation
use Rattle.atom_traits.specs.declared.tree.Leaf.{Leaf}
use Rattle.atom_traits.specs.declared.tree.Leaf.TheVariants as leaf
use Rattle.atom_traits.specs.declared.tree.Port.{Port}
use Rattle.atom_traits.specs.declared.tree.Port.TheVariants as port
use Rattle.atom_traits.specs.declared.tree.Rel.{Rel}
use Rattle.atom_traits.specs.declared.tree.Rel.TheVariants as rel
use Rattle.atom_traits.specs.declared.tree.Source.{Source}
use Rattle.atom_traits.specs.declared.tree.Source.TheVariants as source
use Rattle.atom_traits.specs.Form.{TreeForm, Ends, Asks}
use Rattle.banzai_config.specs.declared.parts.Version.{Version}
use Rattle.banzai_config.specs.declared.parts.Version.TheVariants as version

-- a word as a signed number in decimals; 45 is the minus sign
abbrev pub word_text : ℕ → List ℕ
word_text n = if nat_lt n 2147483648 then decimal n else 45 ∷ decimal (4294967296 - n)

-- a container: the letter c and its number
abbrev pub container_text : ℕ → List ℕ
container_text n = 99 ∷ decimal n

-- a port: `#` (the byte 35) and a word, or a container
abbrev pub port_text : Port → List ℕ
port_text (port.Const n) = 35 ∷ word_text n
port_text (port.Container n) = container_text n

-- what a guard compares: a port, or the letter s and the number of an old word
abbrev pub source_text : Source → List ℕ
source_text (source.Const n) = 35 ∷ word_text n
source_text (source.Container n) = container_text n
source_text (source.State n) = 115 ∷ decimal n

-- a container, or `-` where there is none
abbrev pub option_text : Option ℕ → List ℕ
option_text None = codes "-"
option_text (Some n) = container_text n

abbrev pub un_text : UnOp → List ℕ
un_text un.Neg = codes "neg"
un_text un.Inv = codes "inv"
un_text un.Not = codes "not"

abbrev pub bin_text : BinOp → List ℕ
bin_text bin.Mul = codes "mul"
bin_text bin.Div = codes "div"
bin_text bin.Rem = codes "rem"
bin_text bin.Add = codes "add"
bin_text bin.Sub = codes "sub"
bin_text bin.Shl = codes "shl"
bin_text bin.Shr = codes "shr"
bin_text bin.Lt = codes "lt"
bin_text bin.Le = codes "le"
bin_text bin.Gt = codes "gt"
bin_text bin.Ge = codes "ge"
bin_text bin.Eq = codes "eq"
bin_text bin.Ne = codes "ne"
bin_text bin.BitAnd = codes "and"
bin_text bin.BitXor = codes "xor"
bin_text bin.BitOr = codes "or"
bin_text bin.And = codes "land"
bin_text bin.Or = codes "lor"

abbrev pub rel_text : Rel → List ℕ
rel_text rel.Lt = codes "lt"
rel_text rel.Eq = codes "eq"

abbrev pub version_text : Version → List ℕ
version_text version.One = codes "1"
version_text version.Two = codes "2"

-- an atom without state: its kind, the container that it writes, and its operands
abbrev pub op_words : ℕ → StatelessOp → List (List ℕ)
op_words to (operation.Un op a) = codes "un" ∷ container_text to ∷ un_text op ∷ port_text a ∷ []
op_words to (operation.Bin op a b) = codes "bin" ∷ container_text to ∷ bin_text op ∷ port_text a ∷ port_text b ∷ []
op_words to (operation.Cond c a b) = codes "cond" ∷ container_text to ∷ port_text c ∷ port_text a ∷ port_text b ∷ []
op_words to (operation.Hash unit modulus args) = codes "hash" ∷ container_text to ∷ unit_text unit ∷ decimal modulus ∷ map port_text args

abbrev pub leaf_words : Leaf → List (List ℕ)
leaf_words leaf.Keep = codes "keep" ∷ []
leaf_words (leaf.Put p) = codes "put" ∷ port_text p ∷ []
leaf_words (leaf.Add p) = codes "add" ∷ port_text p ∷ []
leaf_words (leaf.Sub p) = codes "sub" ∷ port_text p ∷ []

-- a tree: a leaf, or a question with the branch for yes first
abbrev pub tree_words : TreeForm → List (List ℕ)
tree_words (Ends l) = leaf_words l
tree_words (Asks g y n) = codes "if" ∷ rel_text g.rel ∷ source_text g.left ∷ source_text g.right ∷ (tree_words y ++ tree_words n)

-- which numbers and names a text may have
abbrev pub is_small : ℕ → Bool
is_small n = nat_lt n 4294967296

abbrev pub port_fits : Port → Bool
port_fits (port.Const n) = is_small n
port_fits (port.Container n) = is_small n

abbrev pub source_fits : Source → Bool
source_fits (source.Const n) = is_small n
source_fits (source.Container n) = is_small n
source_fits (source.State n) = nat_lt n 2

abbrev pub option_fits : Option ℕ → Bool
option_fits None = true
option_fits (Some n) = is_small n

abbrev pub op_fits : StatelessOp → Bool
op_fits (operation.Un op a) = port_fits a
op_fits (operation.Bin op a b) = port_fits a && port_fits b
op_fits (operation.Cond c a b) = port_fits c && (port_fits a && port_fits b)
op_fits (operation.Hash unit modulus args) = nat_le modulus 2147483647 && (length args == unit.args && list_all port_fits args)

abbrev pub leaf_fits : Leaf → Bool
leaf_fits leaf.Keep = true
leaf_fits (leaf.Put p) = port_fits p
leaf_fits (leaf.Add p) = port_fits p
leaf_fits (leaf.Sub p) = port_fits p

-- a tree with at most so many levels of questions
abbrev pub tree_fits : ℕ → TreeForm → Bool
tree_fits levels (Ends l) = leaf_fits l
tree_fits zero (Asks g y n) = false
tree_fits (suc levels) (Asks g y n) = source_fits g.left && (source_fits g.right && (tree_fits levels y && tree_fits levels n))

-- a small letter or `-`
abbrev pub is_target_byte : ℕ → Bool
is_target_byte b = is_ascii_lowercase b || b == 45

abbrev pub is_target_word : List ℕ → Bool
is_target_word [] = false
is_target_word (b ∷ bs) = list_all is_target_byte (b ∷ bs)

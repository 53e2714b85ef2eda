-- A line's words, and the line that they mean.
use Rattle.std.specs.Prelude.{ℕ, zero, suc, ◌+◌, ◌-◌, ◌*◌, Bool, true, false, not, ◌&&◌, ◌||◌, ◌==◌, if◌then◌else◌, fold, List, [], ◌∷◌, length, Option, Some, None, codes, nat_lt, nat_le}
use Rattle.std.specs.Char.{is_ascii_digit}
use Rattle.std.specs.List.{find, list_all}
use Rattle.dom_words.specs.declared.hash.HashName.{HashName}
use Rattle.dom_words.specs.declared.operators.UnOp.{UnOp}
use Rattle.dom_words.specs.declared.operators.UnOp.TheVariants as un
use Rattle.dom_words.specs.declared.operators.BinOp.{BinOp}
use Rattle.dom_words.specs.declared.operators.BinOp.TheVariants as bin
use Rattle.dom_words.specs.Names.{is_same}
use Rattle.dom_words.specs.Spelling.{is_name}
use Rattle.dom_words.specs.Units.{unit_named}
use Rattle.atom_traits.specs.declared.operation.StatelessOp.{StatelessOp}
use Rattle.atom_traits.specs.declared.operation.StatelessOp.TheVariants as operation
use Rattle.atom_traits.specs.declared.tree.Leaf.{Leaf}
use Rattle.atom_traits.specs.declared.tree.Leaf.TheVariants as leaf
use Rattle.atom_traits.specs.declared.tree.Port.{Port}
use Rattle.atom_traits.specs.declared.tree.Port.TheVariants as port
use Rattle.atom_traits.specs.declared.tree.Rel.{Rel}
use Rattle.atom_traits.specs.declared.tree.Rel.TheVariants as rel
use Rattle.atom_traits.specs.declared.tree.Source.{Source}
use Rattle.atom_traits.specs.declared.tree.Source.TheVariants as source
use Rattle.atom_traits.specs.Form.{TreeForm, Ends, Asks}
use Rattle.banzai_config.specs.declared.parts.Version.{Version}
use Rattle.banzai_config.specs.declared.parts.Version.TheVariants as version
use Rattle.config_text.specs.Words.{bin_text, is_small, is_target_word, un_text}
use Rattle.config_text.specs.Lines.{Line, head, target, field, array, containers, stage, op, atom, slot, out, the_end}

-- the words between the commas
abbrev pub split_by : Bool → ℕ → List (List ℕ) → List (List ℕ)
split_by true b ws = [] ∷ ws
split_by false b [] = (b ∷ []) ∷ []
split_by false b (w ∷ ws) = (b ∷ w) ∷ ws

abbrev pub split : List ℕ → List (List ℕ)
split [] = [] ∷ []
split (b ∷ bs) = split_by (b == 44) b (split bs)

abbrev pub all_digits : List ℕ → Bool
all_digits bs = list_all is_ascii_digit bs

-- the number that digits write after those of n
abbrev pub value_after : ℕ → List ℕ → ℕ
value_after n bs = fold (λ n b. n * 10 + (b - 48)) n bs

-- a count: digits without a leading zero
abbrev pub is_nil : List ℕ → Bool
is_nil [] = true
is_nil (b ∷ bs) = false

abbrev pub is_count : List ℕ → Bool
is_count [] = false
is_count (d ∷ ds) = all_digits (d ∷ ds) && (not (d == 48) || is_nil ds)

abbrev pub small_value : Bool → ℕ → Option ℕ
small_value true n = if is_small n then Some n else None
small_value false n = None

abbrev pub count_from : List ℕ → Option ℕ
count_from t = small_value (is_count t) (value_after 0 t)

-- a word: a count below 2^31, or `-` and a count from 1 to 2^31
abbrev pub minus_word : Option ℕ → Option ℕ
minus_word None = None
minus_word (Some n) = if nat_le 1 n && nat_le n 2147483648 then Some (4294967296 - n) else None

abbrev pub plus_word : Option ℕ → Option ℕ
plus_word None = None
plus_word (Some n) = if nat_lt n 2147483648 then Some n else None

abbrev pub word_from : List ℕ → Option ℕ
word_from [] = None
word_from (b ∷ bs) = if b == 45 then minus_word (count_from bs) else plus_word (count_from (b ∷ bs))

abbrev pub on : {A B : Type 0} → Option A → (A → Option B) → Option B
on None go = None
on (Some a) go = go a

abbrev pub container_from : List ℕ → Option ℕ
container_from [] = None
container_from (b ∷ bs) = if b == 99 then count_from bs else None

abbrev pub port_from : List ℕ → Option Port
port_from [] = None
port_from (b ∷ bs) = if b == 35 then on (word_from bs) (λ n. Some (port.Const n)) else (if b == 99 then on (count_from bs) (λ n. Some (port.Container n)) else None)

-- `s0` or `s1`
abbrev pub state_from : List ℕ → Option Source
state_from w = if is_same w (codes "0") then Some (source.State 0) else (if is_same w (codes "1") then Some (source.State 1) else None)

abbrev pub source_from : List ℕ → Option Source
source_from [] = None
source_from (b ∷ bs) =
    if b == 35 then on (word_from bs) (λ n. Some (source.Const n))
    else (if b == 99 then on (count_from bs) (λ n. Some (source.Container n)) else (if b == 115 then state_from bs else None))

abbrev pub option_from : List ℕ → Option (Option ℕ)
option_from w = if is_same w (codes "-") then Some None else on (container_from w) (λ n. Some (Some n))

abbrev pub un_ops : List UnOp
un_ops = un.Neg ∷ un.Inv ∷ un.Not ∷ []

abbrev pub un_from : List ℕ → Option UnOp
un_from w = find (λ o. is_same w (un_text o)) un_ops

abbrev pub bin_ops : List BinOp
bin_ops =
    bin.Mul ∷ bin.Div ∷ bin.Rem ∷ bin.Add ∷ bin.Sub ∷ bin.Shl ∷ bin.Shr ∷ bin.Lt ∷ bin.Le ∷ bin.Gt ∷ bin.Ge ∷ bin.Eq ∷ bin.Ne ∷ bin.BitAnd
    ∷ bin.BitXor ∷ bin.BitOr ∷ bin.And ∷ bin.Or ∷ []

abbrev pub bin_from : List ℕ → Option BinOp
bin_from w = find (λ o. is_same w (bin_text o)) bin_ops

abbrev pub rel_from : List ℕ → Option Rel
rel_from w = if is_same w (codes "lt") then Some rel.Lt else (if is_same w (codes "eq") then Some rel.Eq else None)

abbrev pub version_from : List ℕ → Option Version
version_from w = if is_same w (codes "1") then Some version.One else (if is_same w (codes "2") then Some version.Two else None)

abbrev pub modulus_from : List ℕ → Option ℕ
modulus_from w = on (count_from w) (λ n. if nat_le n 2147483647 then Some n else None)

abbrev pub ports_from : List (List ℕ) → Option (List Port)
ports_from [] = Some []
ports_from (w ∷ ws) = on (port_from w) (λ p. on (ports_from ws) (λ ps. Some (p ∷ ps)))

-- a tree of at most so many levels of questions, and the words after it
pub record TreeRest : Type 0 where
  pub tree : TreeForm
  pub rest : List (List ℕ)

pub data TreeKey : Type 0 where
  key_keep : TreeKey
  key_put : TreeKey
  key_add : TreeKey
  key_sub : TreeKey
  key_if : TreeKey

abbrev pub tree_text : TreeKey → List ℕ
tree_text key_keep = codes "keep"
tree_text key_put = codes "put"
tree_text key_add = codes "add"
tree_text key_sub = codes "sub"
tree_text key_if = codes "if"

abbrev pub tree_keys : List TreeKey
tree_keys = key_keep ∷ key_put ∷ key_add ∷ key_sub ∷ key_if ∷ []

abbrev pub tree_key : List ℕ → Option TreeKey
tree_key w = find (λ k. is_same w (tree_text k)) tree_keys

-- a port, and the words after it
pub record PortRest : Type 0 where
  pub port : Port
  pub rest : List (List ℕ)

abbrev pub port_rest : List (List ℕ) → Option PortRest
port_rest [] = None
port_rest (w ∷ ws) = on (port_from w) (λ p. Some (record { port = p; rest = ws }))

abbrev pub leaf_rest : (Port → Leaf) → List (List ℕ) → Option TreeRest
leaf_rest leaf ws = on (port_rest ws) (λ r. Some (record { tree = Ends (leaf r.port); rest = r.rest }))

-- a relation and two sources
pub record GuardRest : Type 0 where
  pub rel : Rel
  pub left : Source
  pub right : Source
  pub rest : List (List ℕ)

abbrev pub guard_rest : List (List ℕ) → Option GuardRest
guard_rest [] = None
guard_rest (r ∷ []) = None
guard_rest (r ∷ a ∷ []) = None
guard_rest (r ∷ a ∷ b ∷ ws) = on (rel_from r) (λ rel. on (source_from a) (λ left. on (source_from b) (λ right. Some (record { rel = rel; left = left; right = right; rest = ws }))))

abbrev pub asks : GuardRest → TreeForm → TreeForm → TreeForm
asks g y n = Asks (record { rel = g.rel; left = g.left; right = g.right }) y n

abbrev pub fork_rest : (List (List ℕ) → Option TreeRest) → List (List ℕ) → Option TreeRest
fork_rest go ws = on (guard_rest ws) (λ g. on (go g.rest) (λ y. on (go y.rest) (λ n. Some (record { tree = asks g y.tree n.tree; rest = n.rest }))))

abbrev pub tree_by : TreeKey → List (List ℕ) → (List (List ℕ) → Option TreeRest) → Option TreeRest
tree_by key_keep ws go = Some (record { tree = Ends leaf.Keep; rest = ws })
tree_by key_put ws go = leaf_rest leaf.Put ws
tree_by key_add ws go = leaf_rest leaf.Add ws
tree_by key_sub ws go = leaf_rest leaf.Sub ws
tree_by key_if ws go = fork_rest go ws

abbrev pub no_tree : List (List ℕ) → Option TreeRest
no_tree ws = None

abbrev pub tree_from : ℕ → List (List ℕ) → Option TreeRest
tree_from zero [] = None
tree_from zero (w ∷ ws) = on (tree_key w) (λ k. tree_by k ws no_tree)
tree_from (suc n) [] = None
tree_from (suc n) (w ∷ ws) = on (tree_key w) (λ k. tree_by k ws (tree_from n))

abbrev pub whole_by : List (List ℕ) → TreeForm → Option TreeForm
whole_by [] t = Some t
whole_by (w ∷ ws) t = None

abbrev pub whole_tree : List (List ℕ) → Option TreeForm
whole_tree ws = on (tree_from 2 ws) (λ r. whole_by r.rest r.tree)

-- the first word of a line
pub data Key : Type 0 where
  key_head : Key
  key_target : Key
  key_field : Key
  key_array : Key
  key_containers : Key
  key_stage : Key
  key_un : Key
  key_bin : Key
  key_cond : Key
  key_hash : Key
  key_atom : Key
  key_slot : Key
  key_out : Key
  key_end : Key

abbrev pub key_text : Key → List ℕ
key_text key_head = codes "banzai"
key_text key_target = codes "target"
key_text key_field = codes "field"
key_text key_array = codes "array"
key_text key_containers = codes "containers"
key_text key_stage = codes "stage"
key_text key_un = codes "un"
key_text key_bin = codes "bin"
key_text key_cond = codes "cond"
key_text key_hash = codes "hash"
key_text key_atom = codes "atom"
key_text key_slot = codes "slot"
key_text key_out = codes "out"
key_text key_end = codes "end"

abbrev pub keys : List Key
keys =
    key_head ∷ key_target ∷ key_field ∷ key_array ∷ key_containers ∷ key_stage ∷ key_un ∷ key_bin ∷ key_cond ∷ key_hash ∷ key_atom
    ∷ key_slot ∷ key_out ∷ key_end ∷ []

abbrev pub key_of : List ℕ → Option Key
key_of w = find (λ k. is_same w (key_text k)) keys

-- the words after the first, where there are so many
abbrev pub one_word : {A : Type 0} → List (List ℕ) → (List ℕ → Option A) → Option A
one_word [] go = None
one_word (w ∷ []) go = go w
one_word (w ∷ v ∷ ws) go = None

abbrev pub no_word : {A : Type 0} → List (List ℕ) → A → Option A
no_word [] a = Some a
no_word (w ∷ ws) a = None

abbrev pub three_words : {A : Type 0} → List (List ℕ) → (List ℕ → List ℕ → List ℕ → Option A) → Option A
three_words [] go = None
three_words (w ∷ []) go = None
three_words (w ∷ v ∷ []) go = None
three_words (w ∷ v ∷ u ∷ []) go = go w v u
three_words (w ∷ v ∷ u ∷ t ∷ ws) go = None

abbrev pub four_words : {A : Type 0} → List (List ℕ) → (List ℕ → List ℕ → List ℕ → List ℕ → Option A) → Option A
four_words [] go = None
four_words (w ∷ []) go = None
four_words (w ∷ v ∷ []) go = None
four_words (w ∷ v ∷ u ∷ []) go = None
four_words (w ∷ v ∷ u ∷ t ∷ []) go = go w v u t
four_words (w ∷ v ∷ u ∷ t ∷ s ∷ ws) go = None

abbrev pub op_line : ℕ → StatelessOp → Option Line
op_line to o = Some (op (record { to = to; op = o }))

abbrev pub array_line : List ℕ → List ℕ → List ℕ → Option Line
array_line w l i = if is_name w then on (count_from l) (λ length. on (word_from i) (λ init. Some (array (record { name = w; length = length; init = init })))) else None

abbrev pub un_line : List ℕ → List ℕ → List ℕ → Option Line
un_line d o a = on (container_from d) (λ to. on (un_from o) (λ o. on (port_from a) (λ a. op_line to (operation.Un o a))))

abbrev pub bin_line : List ℕ → List ℕ → List ℕ → List ℕ → Option Line
bin_line d o a b = on (container_from d) (λ to. on (bin_from o) (λ o. on (port_from a) (λ a. on (port_from b) (λ b. op_line to (operation.Bin o a b)))))

abbrev pub cond_line : List ℕ → List ℕ → List ℕ → List ℕ → Option Line
cond_line d c a b = on (container_from d) (λ to. on (port_from c) (λ c. on (port_from a) (λ a. on (port_from b) (λ b. op_line to (operation.Cond c a b)))))

abbrev pub hash_by : ℕ → HashName → ℕ → List Port → Option Line
hash_by to unit modulus args = if length args == unit.args then op_line to (operation.Hash unit modulus args) else None

abbrev pub hash_line : List (List ℕ) → Option Line
hash_line [] = None
hash_line (d ∷ []) = None
hash_line (d ∷ h ∷ []) = None
hash_line (d ∷ h ∷ m ∷ ws) = on (container_from d) (λ to. on (unit_named h) (λ unit. on (modulus_from m) (λ modulus. on (ports_from ws) (λ args. hash_by to unit modulus args))))

abbrev pub slot_line : List (List ℕ) → Option Line
slot_line [] = None
slot_line (a ∷ []) = None
slot_line (a ∷ i ∷ []) = None
slot_line (a ∷ i ∷ o ∷ []) = None
slot_line (a ∷ i ∷ o ∷ n ∷ ws) = on (count_from a) (λ a. on (port_from i) (λ i. on (option_from o) (λ o. on (option_from n) (λ n. on (whole_tree ws) (λ t. Some (slot (record { array = a; index = i; old = o; new = n }) t))))))

abbrev pub atom_line : ℕ → Option Line
atom_line n = if nat_le 1 n && nat_le n 2 then Some (atom n) else None

abbrev pub line_by : Key → List (List ℕ) → Option Line
line_by key_head ws = one_word ws (λ w. on (version_from w) (λ v. Some (head v)))
line_by key_target ws = one_word ws (λ w. if is_target_word w then Some (target w) else None)
line_by key_field ws = one_word ws (λ w. if is_name w then Some (field w) else None)
line_by key_array ws = three_words ws array_line
line_by key_containers ws = one_word ws (λ w. on (count_from w) (λ n. Some (containers n)))
line_by key_stage ws = one_word ws (λ w. on (count_from w) (λ n. Some (stage n)))
line_by key_un ws = three_words ws un_line
line_by key_bin ws = four_words ws bin_line
line_by key_cond ws = four_words ws cond_line
line_by key_hash ws = hash_line ws
line_by key_atom ws = one_word ws (λ w. on (count_from w) atom_line)
line_by key_slot ws = slot_line ws
line_by key_out ws = one_word ws (λ w. on (port_from w) (λ p. Some (out p)))
line_by key_end ws = no_word ws the_end

abbrev pub line_of_words : List (List ℕ) → Option Line
line_of_words [] = None
line_of_words (w ∷ ws) = on (key_of w) (λ k. line_by k ws)

abbrev pub line_from : List ℕ → Option Line
line_from bytes = line_of_words (split bytes)

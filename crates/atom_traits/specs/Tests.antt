-- Tests of all that trees name.
use Rattle.std.specs.Prelude.{ℕ, ◌-◌, ◌^◌, ◌&&◌, Bool, true, false, nat_lt, nat_le, nat_eq, pos, neg_ℤ, int_le, int_lt, if◌then◌else◌, List, Option, Some, None}
use Rattle.std.specs.List.{list_all}
use Rattle.dom_words.specs.Number.{signed_of}
use Rattle.atom_traits.specs.declared.tree.Port.{Port}
use Rattle.atom_traits.specs.declared.tree.Port.TheVariants as port
use Rattle.atom_traits.specs.declared.tree.Source.{Source}
use Rattle.atom_traits.specs.declared.tree.Source.TheVariants as source
use Rattle.atom_traits.specs.declared.tree.Guard.{Guard}
use Rattle.atom_traits.specs.declared.tree.Leaf.{Leaf}
use Rattle.atom_traits.specs.declared.tree.Leaf.TheVariants.{Keep, Put, Add, Sub}
use Rattle.atom_traits.specs.Form.{TreeForm, Ends, Asks, TreesForm}

-- p is the test of a port, and q that of a guard's source
module _ (p : Port → Bool) (q : Source → Bool) where
  abbrev pub guard_passes : Guard → Bool
  guard_passes g = q g.left && q g.right

  abbrev pub leaf_passes : Leaf → Bool
  leaf_passes Keep = true
  leaf_passes (Put x) = p x
  leaf_passes (Add x) = p x
  leaf_passes (Sub x) = p x

  abbrev pub tree_passes : TreeForm → Bool
  tree_passes (Ends leaf) = leaf_passes leaf
  tree_passes (Asks g on_yes on_no) = guard_passes g && (tree_passes on_yes && tree_passes on_no)

  abbrev pub second_passes : Option TreeForm → Bool
  second_passes None = true
  second_passes (Some t) = tree_passes t

  abbrev pub trees_pass : TreesForm → Bool
  trees_pass t = tree_passes t.first && second_passes t.second

-- a word, read as a signed number, is at least -2^(bits-1) and less than 2^(bits-1)
abbrev pub is_signed_within : ℕ → ℕ → Bool
is_signed_within bits word =
    int_le (neg_ℤ (pos (2 ^ (bits - 1)))) (signed_of word) && int_lt (signed_of word) (pos (2 ^ (bits - 1)))

-- a constant has so many bits, read as a signed number: none has 0 bits, and from 32 on all have
abbrev pub is_within : ℕ → ℕ → Bool
is_within bits word = if nat_eq bits 0 then false else if nat_le 32 bits then true else is_signed_within bits word

abbrev pub port_within : ℕ → Port → Bool
port_within bits (port.Const word) = is_within bits word
port_within bits (port.Container at) = true

abbrev pub source_within : ℕ → Source → Bool
source_within bits (source.Const word) = is_within bits word
source_within bits (source.Container at) = true
source_within bits (source.State k) = true

abbrev pub leaf_within : ℕ → Leaf → Bool
leaf_within bits leaf = leaf_passes (port_within bits) (source_within bits) leaf

abbrev pub guard_within : ℕ → Guard → Bool
guard_within bits g = guard_passes (port_within bits) (source_within bits) g

abbrev pub tree_within : ℕ → TreeForm → Bool
tree_within bits t = tree_passes (port_within bits) (source_within bits) t

-- all constants of guards and leaves have so many bits
abbrev pub all_within : ℕ → TreesForm → Bool
all_within bits t = trees_pass (port_within bits) (source_within bits) t

-- a test of containers' numbers
abbrev pub port_in : (ℕ → Bool) → Port → Bool
port_in r (port.Const word) = true
port_in r (port.Container at) = r at

abbrev pub source_in : (ℕ → Bool) → Source → Bool
source_in r (source.Const word) = true
source_in r (source.Container at) = r at
source_in r (source.State k) = true

abbrev pub ports_in : (ℕ → Bool) → List Port → Bool
ports_in r xs = list_all (port_in r) xs

-- each container that is named passes
abbrev pub tree_names : (ℕ → Bool) → TreeForm → Bool
tree_names r t = tree_passes (port_in r) (source_in r) t

abbrev pub trees_name : (ℕ → Bool) → TreesForm → Bool
trees_name r t = trees_pass (port_in r) (source_in r) t

-- each container that is named is below n
abbrev pub port_below : ℕ → Port → Bool
port_below n x = port_in (λ c. nat_lt c n) x

abbrev pub ports_below : ℕ → List Port → Bool
ports_below n xs = ports_in (λ c. nat_lt c n) xs

abbrev pub source_below : ℕ → Source → Bool
source_below n x = source_in (λ c. nat_lt c n) x

abbrev pub guard_below : ℕ → Guard → Bool
guard_below n g = guard_passes (port_below n) (source_below n) g

abbrev pub leaf_below : ℕ → Leaf → Bool
leaf_below n leaf = leaf_passes (port_below n) (source_below n) leaf

abbrev pub tree_below : ℕ → TreeForm → Bool
tree_below n t = tree_names (λ c. nat_lt c n) t

abbrev pub trees_below : ℕ → TreesForm → Bool
trees_below n t = trees_name (λ c. nat_lt c n) t

-- guards name old words below n alone
abbrev pub any_port : Port → Bool
any_port x = true

abbrev pub source_states : ℕ → Source → Bool
source_states n (source.Const word) = true
source_states n (source.Container at) = true
source_states n (source.State k) = nat_lt k n

abbrev pub name_states : ℕ → TreesForm → Bool
name_states n t = trees_pass any_port (source_states n) t

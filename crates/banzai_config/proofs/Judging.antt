-- The rules of an atom with state, taken in three parts: its numbers, its trees, and what it names.
use Rattle.std.proofs.Common.{◌≡◌, ℕ, Bool, true, false, ◌&&◌, cond, nat_lt, List, Option, Some, None, length, refl, sym, ap, ◌∙◌}
use Rattle.std.specs.Bool.{if◌then◌else◌}
use Rattle.atom_traits.specs.Tests.{name_states}
use Rattle.banzai_config.specs.declared.fault.ConfigKind.{ConfigKind}
use Rattle.banzai_config.specs.declared.fault.ConfigKind.TheVariants as kind
use Rattle.banzai_config.specs.declared.judge.Frame.{Frame}
use Rattle.banzai_config.specs.declared.named.AtomNames.{AtomNames}
use Rattle.banzai_config.specs.Judged.{broken, name_tests, names_there, pattern_tests, sizes_in}
use Rattle.banzai_config.specs.Legal.{Before, Shape, Sizes, are_below, atom_tests, has_good_numbers, is_there}
use Rattle.banzai_config.specs.Named.{arrays_of, reads_of, targets_of}
use Rattle.banzai_config.specs.Parts.{Atom, Stateful, AtomForm}

pub and_assoc : (p q r : Bool) → ((p && q) && r) ≡ (p && (q && r))
and_assoc true q r = refl
and_assoc false q r = refl

there_by : (containers arrays : ℕ) (good : Bool) (reads targets held rs ts hs : List ℕ) → reads ≡ rs → targets ≡ ts → held ≡ hs
    → (((are_below containers reads && are_below containers targets) && are_below arrays held) && good)
    ≡ ((are_below containers rs && are_below containers ts) && (are_below arrays hs && good))
there_by containers arrays good reads targets held rs ts hs r t h =
    rw (r, t, h) (and_assoc (are_below containers rs && are_below containers ts) (are_below arrays hs) good)

-- what an atom's names tell is that its numbers are there
pub tree_is_there : (f : Frame) (n : AtomNames) (a : AtomForm) → n.reads.items ≡ reads_of (Stateful a) → n.targets.items ≡ targets_of (Stateful a) → n.arrays.items ≡ arrays_of (Stateful a)
    → (names_there f n && name_states (length a.slots) a.trees) ≡ is_there (sizes_in f) (Stateful a)
tree_is_there f n a r t h =
    there_by f.containers f.arrays (name_states (length a.slots) a.trees) n.reads.items n.targets.items n.arrays.items (reads_of (Stateful a)) (targets_of (Stateful a)) (arrays_of (Stateful a)) r t h

some_kept : (x y : Bool) (k : ConfigKind) (rest : Option ConfigKind) → Some k ≡ (if x then (if y then None else Some kind.Pattern) else Some kind.WideConstant)
    → Some k ≡ (if x then (if y then rest else Some kind.Pattern) else Some kind.WideConstant)
some_kept true true k rest e = cc
some_kept true false k rest e = e
some_kept false y k rest e = e

none_gives : (x y : Bool) (rest : Option ConfigKind) → None ≡ (if x then (if y then None else Some kind.Pattern) else Some kind.WideConstant)
    → rest ≡ (if x then (if y then rest else Some kind.Pattern) else Some kind.WideConstant)
none_gives true true rest e = refl
none_gives true false rest e = cc
none_gives false y rest e = cc

module _ (s : Shape) (z : Sizes) (before : Before) (a : AtomForm) (placed : nat_lt before.stateful s.stateful ≡ true) where
  pub numbers_broken : is_there z (Stateful a) ≡ false → Some kind.BadNumber ≡ broken (atom_tests s z before (Stateful a))
  numbers_broken e = rw (placed, e) refl

  pub pattern_broken : is_there z (Stateful a) ≡ true → (k : ConfigKind) → Some k ≡ broken (pattern_tests s.fits s.bits a) → Some k ≡ broken (atom_tests s z before (Stateful a))
  pattern_broken e k p = rw (placed, e) (some_kept _ _ k _ p)

  pub names_decide : is_there z (Stateful a) ≡ true → None ≡ broken (pattern_tests s.fits s.bits a)
      → broken (name_tests z before (arrays_of (Stateful a)) (reads_of (Stateful a)) (targets_of (Stateful a))) ≡ broken (atom_tests s z before (Stateful a))
  names_decide e p = rw (placed, e) (none_gives _ _ _ p)

-- the rules on equal lists
pub names_same : (z : Sizes) (before : Before) (arrays reads targets held read written : List ℕ) → arrays ≡ held → reads ≡ read → targets ≡ written
    → broken (name_tests z before arrays reads targets) ≡ broken (name_tests z before held read written)
names_same z before arrays reads targets held read written a r t =
    ap (λ x. broken (name_tests z before x reads targets)) a
    ∙ ap (λ x. broken (name_tests z before held x targets)) r
    ∙ ap (λ x. broken (name_tests z before held read x)) t

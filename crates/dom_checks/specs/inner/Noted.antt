-- What is noted of the mentions of arrays, and what it rests on.
use Rattle.std.specs.Prelude.{◌≡◌, ℕ, ◌<◌, Bool, true, false, not, ◌&&◌, ◌||◌, nat_eq, List, slice_get, Option, Some}
use Rattle.std.specs.List.{list_all, list_any}
use Rattle.dom_ast.specs.declared.part.Place.{Place}
use Rattle.dom_ast.specs.declared.part.Place.TheVariants as place
use Rattle.dom_ast.specs.Kept.{Mention, have_one_index, is_no_index, is_same_place, mention}
use Rattle.dom_checks.specs.declared.meant.Meant.{Meant}
use Rattle.dom_checks.specs.declared.meant.Meant.TheVariants as meaning
use Rattle.dom_checks.specs.declared.seen.Mention.{Mention as SeenMention}
use Rattle.dom_checks.specs.inner.Kept.{is_numbered}
use Rattle.dom_checks.specs.Walk.{first_index}

-- a mention as it is kept
abbrev pub named : SeenMention → Mention
named m = mention m.array m.index

-- the first index of each array
abbrev pub AreFirsts : List Mention → List (Option Place) → Type 0
AreFirsts mentions firsts = (a : ℕ) → a < 32 → slice_get firsts a ≡ Some (first_index mentions a)

-- whether each field is an index
abbrev pub AreIndexes : List Mention → List Bool → Type 0
AreIndexes mentions indexes = (f : ℕ) → f < 64 → slice_get indexes f ≡ Some (not (is_no_index mentions f))

-- what is kept of the mentions of arrays so far
pub record AreTables (mentions : List Mention) (firsts : List (Option Place)) (indexes : List Bool) : Type 0 where
  pub first : AreFirsts mentions firsts
  pub index : AreIndexes mentions indexes

-- a field that is an index is one of n
abbrev pub IsPlaceBelow : ℕ → Place → Type 0
IsPlaceBelow n (place.Word w) = Unit {0}
IsPlaceBelow n (place.Field f) = f < n

-- whether a number is that of a scalar
abbrev pub is_scalar : ℕ → Meant → Bool
is_scalar k (meaning.Define w) = false
is_scalar k (meaning.Scalar j) = nat_eq j k
is_scalar k (meaning.Array j) = false
is_scalar k meaning.Parameter = false

abbrev pub has_scalar : List Meant → ℕ → Bool
has_scalar meanings k = list_any (is_scalar k) meanings

-- the number of an array with an index is not that of a scalar
abbrev pub is_apart : List Meant → Meant → Bool
is_apart meanings (meaning.Define w) = true
is_apart meanings (meaning.Scalar k) = true
is_apart meanings (meaning.Array k) = not (has_scalar meanings k)
is_apart meanings meaning.Parameter = true

-- every number in the meanings is that of an array, and none is both a scalar's and that of an array with an index
pub record AreNumbers (arrays : ℕ) (meanings : List Meant) : Type 0 where
  pub below : list_all (is_numbered arrays) meanings ≡ true
  pub apart : list_all (is_apart meanings) meanings ≡ true

-- a scalar is mentioned at its one word
abbrev pub is_at_word : List Meant → Mention → Bool
is_at_word meanings m = not (has_scalar meanings m.array) || is_same_place m.index (place.Word 0)

-- all mentions of an array have one index, and scalars are mentioned at their one word
abbrev pub are_settled : List Meant → List Mention → Bool
are_settled meanings mentions = have_one_index mentions && list_all (is_at_word meanings) mentions

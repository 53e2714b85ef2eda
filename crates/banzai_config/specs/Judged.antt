-- How atoms are judged one after another: what is known of the atoms before, as sets.
use Rattle.std.specs.Prelude.{◌≡◌, ℕ, Bool, nat_eq, if◌then◌else◌, Option, Some, None, List, [], ◌∷◌, ◌++◌, ◌&&◌, length}
use Rattle.atom_traits.specs.Form.{TreesForm, count_of}
use Rattle.atom_traits.specs.Tests.{all_within}
use Rattle.banzai_config.specs.declared.fault.ConfigKind.{ConfigKind}
use Rattle.banzai_config.specs.declared.fault.ConfigKind.TheVariants as kind
use Rattle.banzai_config.specs.declared.judge.Frame.{Frame}
use Rattle.banzai_config.specs.declared.judge.Limits.{Limits}
use Rattle.banzai_config.specs.declared.judge.Seen.{Seen}
use Rattle.banzai_config.specs.declared.named.AtomNames.{AtomNames}
use Rattle.banzai_config.specs.Legal.{Before, Shape, Sizes, Test, are_below, are_known, are_new, may_write, test}
use Rattle.banzai_config.specs.Parts.{AtomForm}

abbrev pub sizes_in : Frame → Sizes
sizes_in f = record { version = f.version; fields = f.fields; arrays = f.arrays; containers = f.containers }

abbrev pub shape_in : (TreesForm → Bool) → ℕ → Limits → Shape
shape_in fits bits l = record { fits = fits; bits = bits; depth = l.depth; stateless = l.stateless; stateful = l.stateful; multiplies = l.multiplies }

-- what stands before an atom, where its stage has n atoms of its kind before it
abbrev pub seen_before : ℕ → Seen → Before
seen_before n s = record {
  stateless = n;
  stateful = n;
  held = s.held.numbers;
  known = s.known.numbers;
  written = s.written.numbers;
  read = s.read.numbers;
}

-- the first rule that does not hold
abbrev pub broken : List Test → Option ConfigKind
broken [] = None
broken (t ∷ ts) = if t.holds then broken ts else Some t.kind

-- the sets have room for every array and every container
pub record HasRoom (f : Frame) (s : Seen) : Type 0 where
  pub held : s.held.size ≡ f.arrays
  pub known : s.known.size ≡ f.containers
  pub written : s.written.size ≡ f.containers
  pub read : s.read.size ≡ f.containers

-- the sets with what an atom names
pub record IsNoted (old new : Seen) (arrays reads targets : List ℕ) : Type 0 where
  pub held : new.held.numbers ≡ old.held.numbers ++ arrays
  pub known : new.known.numbers ≡ old.known.numbers
  pub written : new.written.numbers ≡ old.written.numbers ++ targets
  pub read : new.read.numbers ≡ old.read.numbers ++ reads

-- all that an atom names is there
abbrev pub names_there : Frame → AtomNames → Bool
names_there f n =
    (are_below f.containers n.reads.items && are_below f.containers n.targets.items) && are_below f.arrays n.arrays.items

-- the rules on what an atom names
abbrev pub name_tests : Sizes → Before → (arrays reads targets : List ℕ) → List Test
name_tests z before arrays reads targets =
    test kind.ArrayTwice (are_new before.held arrays)
    ∷ test kind.ReadBeforeWrite (are_known z.fields before.known reads)
    ∷ test kind.ContainerTwice (may_write z.version z.fields before.known before.written before.read reads targets)
    ∷ []

-- the rules on what an atom's trees do
abbrev pub pattern_tests : (TreesForm → Bool) → ℕ → AtomForm → List Test
pattern_tests fits bits a =
    test kind.WideConstant (all_within bits a.trees)
    ∷ test kind.Pattern (nat_eq (count_of a.trees) (length a.slots) && fits a.trees)
    ∷ []

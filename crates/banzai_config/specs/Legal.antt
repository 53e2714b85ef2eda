-- The rules of a legal configuration, in the order in which they are asked.
use Rattle.std.specs.Prelude.{◌≡◌, ℕ, ◌+◌, Bool, if◌then◌else◌, true, false, not, ◌&&◌, ◌||◌, nat_eq, nat_le, nat_lt, Option, Some, None, List, [], ◌∷◌, ◌++◌, length, map}
use Rattle.std.specs.List.{flat_map, list_all, list_any}
use Rattle.dom_words.specs.Names.{has_name}
use Rattle.dom_words.specs.Spelling.{is_name}
use Rattle.dom_words.specs.State.{state_words}
use Rattle.dom_words.specs.declared.array.Array.{Array}
use Rattle.atom_traits.specs.declared.operation.StatelessOp.{StatelessOp}
use Rattle.atom_traits.specs.declared.operation.StatelessOp.TheVariants.{Un, Bin, Cond, Hash}
use Rattle.atom_traits.specs.declared.tree.Port.{Port}
use Rattle.atom_traits.specs.Form.{TreesForm, count_of}
use Rattle.atom_traits.specs.Operation.{needs_multiplier, operation_has_args}
use Rattle.atom_traits.specs.Tests.{all_within, name_states}
use Rattle.banzai_config.specs.declared.fault.ConfigKind.{ConfigKind}
use Rattle.banzai_config.specs.declared.fault.ConfigKind.TheVariants as kind
use Rattle.banzai_config.specs.declared.parts.Version.{Version}
use Rattle.banzai_config.specs.declared.parts.Version.TheVariants.{One, Two}
use Rattle.banzai_config.specs.Named.{arrays_of, port_reads, reads_of, stage_arrays, stage_targets, targets_of}
use Rattle.banzai_config.specs.Parts.{Atom, Stateless, Stateful, PartsForm, StageForm, atoms_of}

-- what a target takes: the trees of its template, how many bits their constants have, the number of stages, the atoms of
-- each kind in a stage, and whether it has multipliers
pub record Shape : Type 0 where
  pub fits : TreesForm → Bool
  pub bits : ℕ
  pub depth : ℕ
  pub stateless : ℕ
  pub stateful : ℕ
  pub multiplies : Bool

-- a rule that is broken, and where: stages and the atoms of a stage count from 1
pub record Violation : Type 0 where
  pub kind : ConfigKind
  pub stage : ℕ
  pub atom : ℕ

-- a rule, and whether it holds
pub record Test : Type 0 where
  pub kind : ConfigKind
  pub holds : Bool

-- a rule at a place
pub record Rule : Type 0 where
  pub stage : ℕ
  pub atom : ℕ
  pub test : Test

abbrev pub test : ConfigKind → Bool → Test
test k holds = record { kind = k; holds = holds }

abbrev pub at : ℕ → ℕ → Test → Rule
at stage atom t = record { stage = stage; atom = atom; test = t }

-- the first rule that is broken
abbrev pub first_broken : List Rule → Option Violation
first_broken [] = None
first_broken (r ∷ rules) = if r.test.holds then first_broken rules else Some (record { kind = r.test.kind; stage = r.stage; atom = r.atom })

-- whether a number is in a list
abbrev pub has : ℕ → List ℕ → Bool
has c cs = list_any (nat_eq c) cs

-- none of these numbers is among the earlier ones, and no two are the same
abbrev pub are_new : List ℕ → List ℕ → Bool
are_new earlier [] = true
are_new earlier (c ∷ cs) = not (has c earlier) && are_new (earlier ++ c ∷ []) cs

-- these numbers have none in common
abbrev pub are_apart : List ℕ → List ℕ → Bool
are_apart others cs = list_all (λ c. not (has c others)) cs

abbrev pub are_below : ℕ → List ℕ → Bool
are_below n cs = list_all (λ c. nat_lt c n) cs

-- an item of a list, and the items before it
pub record Standing (A : Type 0) : Type 0 where
  pub before : List A
  pub item : A

-- each item of a list with the items before it
abbrev pub standing_after : {A : Type 0} → List A → List A → List (Standing A)
standing_after before [] = []
standing_after before (x ∷ xs) = record { before = before; item = x } ∷ standing_after (before ++ x ∷ []) xs

abbrev pub standing : {A : Type 0} → List A → List (Standing A)
standing xs = standing_after [] xs

-- names as the language spells them, each once
abbrev pub is_fresh_name : Standing (List ℕ) → Bool
is_fresh_name s = is_name s.item && not (has_name s.before s.item)

abbrev pub are_names : List (List ℕ) → Bool
are_names names = list_all is_fresh_name (standing names)

abbrev pub name_of_array : Array → List ℕ
name_of_array a = a.name

abbrev pub length_of_array : Array → ℕ
length_of_array a = a.length

-- each array has a word, and all together have at most 2^20
abbrev pub have_words : List Array → Bool
have_words arrays = list_all (λ a. nat_le 1 (length_of_array a)) arrays && nat_le (state_words arrays) 1048576

-- how many fields, arrays, words and containers there are
abbrev pub are_counts_right : PartsForm → Bool
are_counts_right p =
    nat_le 1 (length p.fields) && (nat_le (length p.fields) 64 && (nat_le (length p.arrays) 32 && (have_words p.arrays
    && (nat_le (length p.fields) p.containers && nat_le p.containers 2048))))

-- fields, arrays and the number of containers
abbrev pub head_holds : PartsForm → Bool
head_holds p = are_counts_right p && (are_names (map name_of_array p.arrays) && are_names p.fields)

abbrev pub is_stateless : Atom → Bool
is_stateless (Stateless a) = true
is_stateless (Stateful a) = false

abbrev pub is_stateful : Atom → Bool
is_stateful a = not (is_stateless a)

abbrev pub count : (Atom → Bool) → List Atom → ℕ
count test [] = 0
count test (a ∷ atoms) = (if test a then 1 else 0) + count test atoms

-- the numbers of a configuration by which its atoms are judged
pub record Sizes : Type 0 where
  pub version : Version
  pub fields : ℕ
  pub arrays : ℕ
  pub containers : ℕ

abbrev pub sizes_of : PartsForm → Sizes
sizes_of p = record { version = p.version; fields = length p.fields; arrays = length p.arrays; containers = p.containers }

-- what stands before an atom: how many atoms of each kind in its stage; the arrays of all slots; the containers that earlier
-- stages write; and those that earlier atoms of its stage write and read
pub record Before : Type 0 where
  pub stateless : ℕ
  pub stateful : ℕ
  pub held : List ℕ
  pub known : List ℕ
  pub written : List ℕ
  pub read : List ℕ

-- stages: those before its own; atoms: those before it in its stage
abbrev pub before_of : List StageForm → List Atom → Before
before_of stages atoms = record {
  stateless = count is_stateless atoms;
  stateful = count is_stateful atoms;
  held = flat_map stage_arrays stages ++ flat_map arrays_of atoms;
  known = flat_map stage_targets stages;
  written = flat_map targets_of atoms;
  read = flat_map reads_of atoms;
}

-- the atoms before it leave a place of its kind
abbrev pub has_place : Shape → Before → Atom → Bool
has_place s before (Stateless a) = nat_lt before.stateless s.stateless
has_place s before (Stateful a) = nat_lt before.stateful s.stateful

-- a hash's modulus is at most 2^31 - 1
abbrev pub is_modulus_small : StatelessOp → Bool
is_modulus_small (Un op a) = true
is_modulus_small (Bin op a b) = true
is_modulus_small (Cond c a b) = true
is_modulus_small (Hash unit modulus args) = nat_le modulus 2147483647

-- the other numbers of an atom: a hash's arguments and modulus, and the states that guards name
abbrev pub has_good_numbers : Atom → Bool
has_good_numbers (Stateless a) = operation_has_args a.op && is_modulus_small a.op
has_good_numbers (Stateful a) = name_states (length a.slots) a.trees

-- each container and array that an atom names is there
abbrev pub is_there : Sizes → Atom → Bool
is_there z a =
    (are_below z.containers (reads_of a) && are_below z.containers (targets_of a))
    && (are_below z.arrays (arrays_of a) && has_good_numbers a)

abbrev pub has_multiplier : Shape → Atom → Bool
has_multiplier s (Stateless a) = s.multiplies || not (needs_multiplier a.op)
has_multiplier s (Stateful a) = true

abbrev pub has_narrow_constants : Shape → Atom → Bool
has_narrow_constants s (Stateless a) = true
has_narrow_constants s (Stateful a) = all_within s.bits a.trees

-- the trees fit the template, and there are as many as slots
abbrev pub has_pattern : Shape → Atom → Bool
has_pattern s (Stateless a) = true
has_pattern s (Stateful a) = nat_eq (count_of a.trees) (length a.slots) && s.fits a.trees

-- a field's container, or one of those that earlier stages write
abbrev pub is_known : ℕ → List ℕ → ℕ → Bool
is_known fields written c = nat_lt c fields || has c written

abbrev pub are_known : ℕ → List ℕ → List ℕ → Bool
are_known fields written cs = list_all (is_known fields written) cs

-- whether an atom that reads and writes these containers may write them, in a configuration of either version. known: what
-- earlier stages write; written and read: what earlier atoms of its stage write and read
abbrev pub may_write : Version → ℕ → (known written read : List ℕ) → (reads targets : List ℕ) → Bool
may_write One fields known written read reads targets =
    list_all (λ c. not (is_known fields known c)) targets && are_new written targets
may_write Two fields known written read reads targets =
    are_apart written reads && (are_apart (read ++ reads) targets && are_new written targets)

-- the rules of an atom, in order
abbrev pub atom_tests : Shape → Sizes → Before → Atom → List Test
atom_tests s z before a =
    test kind.Width (has_place s before a)
    ∷ test kind.BadNumber (is_there z a)
    ∷ test kind.MulOperator (has_multiplier s a)
    ∷ test kind.WideConstant (has_narrow_constants s a)
    ∷ test kind.Pattern (has_pattern s a)
    ∷ test kind.ArrayTwice (are_new before.held (arrays_of a))
    ∷ test kind.ReadBeforeWrite (are_known z.fields before.known (reads_of a))
    ∷ test kind.ContainerTwice (may_write z.version z.fields before.known before.written before.read (reads_of a) (targets_of a))
    ∷ []

-- the rules of an atom in its place: `stages` are the stages before its own
abbrev pub atom_rules : Shape → Sizes → List StageForm → Standing Atom → List Rule
atom_rules s z stages a = map (at (length stages + 1) (length a.before + 1)) (atom_tests s z (before_of stages a.before) a.item)

abbrev pub stage_rules : Shape → Sizes → Standing StageForm → List Rule
stage_rules s z stage = flat_map (atom_rules s z stage.before) (standing (atoms_of stage.item))

-- the rules of an output. written: the containers that stages write
abbrev pub output_tests : Sizes → List ℕ → Port → List Test
output_tests z written output =
    test kind.BadNumber (are_below z.containers (port_reads output))
    ∷ test kind.ReadBeforeWrite (are_known z.fields written (port_reads output))
    ∷ []

-- an output in its place, behind the last stage
abbrev pub output_rules : Shape → Sizes → List ℕ → Standing Port → List Rule
output_rules s z written output = map (at (s.depth + 1) (length output.before + 1)) (output_tests z written output.item)

-- all rules in order: the head, the depth, the atoms of the stages, and the outputs
abbrev pub rules_of : Shape → PartsForm → List Rule
rules_of s p =
    at 0 0 (test kind.BadNumber (head_holds p))
    ∷ at 0 0 (test kind.Depth (nat_eq (length p.stages) s.depth))
    ∷ (flat_map (stage_rules s (sizes_of p)) (standing p.stages)
    ++ (at (s.depth + 1) 0 (test kind.BadNumber (nat_eq (length p.outputs) (length p.fields)))
    ∷ flat_map (output_rules s (sizes_of p) (flat_map stage_targets p.stages)) (standing p.outputs)))

-- the first rule that a configuration breaks
abbrev pub violation : Shape → PartsForm → Option Violation
violation s p = first_broken (rules_of s p)

-- it breaks none
abbrev pub LegalFor : Shape → PartsForm → Type 0
LegalFor s p = violation s p ≡ None

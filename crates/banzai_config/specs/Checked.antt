-- The first rule that a configuration breaks, as it is found.
use Rattle.std.specs.Prelude.{◌≡◌, ℕ, ◌+◌, Bool, Option, Some, None, List, [], ◌∷◌, ⊤, length, nat_eq, if◌then◌else◌}
use Rattle.std.specs.List.{list_all}
use Rattle.atom_traits.specs.declared.tree.Port.{Port}
use Rattle.atom_traits.specs.Form.{TreesForm}
use Rattle.banzai_config.specs.declared.fault.ConfigFault.{ConfigFault}
use Rattle.banzai_config.specs.declared.fault.ConfigFault.TheVariants as fault
use Rattle.banzai_config.specs.declared.fault.ConfigKind.TheVariants as kind
use Rattle.banzai_config.specs.declared.walk.BrokenAtom.{BrokenAtom}
use Rattle.banzai_config.specs.declared.walk.BrokenPlace.{BrokenPlace}
use Rattle.banzai_config.specs.Judged.{broken}
use Rattle.banzai_config.specs.Legal.{Shape, Sizes, Violation, output_tests, violation}
use Rattle.banzai_config.specs.Parts.{AtomForm, PartsForm, StageForm}
use Rattle.banzai_config.specs.Walked.{at_place}

-- what a target with these numbers takes
abbrev pub shape_with : (TreesForm → Bool) → ℕ → (depth stateless stateful : ℕ) → Bool → Shape
shape_with fits bits depth stateless stateful multiplies = record { fits = fits; bits = bits; depth = depth; stateless = stateless; stateful = stateful; multiplies = multiplies }

-- a refusal is the first rule that is broken; want of memory is free
abbrev pub IsFaultOf : Shape → PartsForm → ConfigFault → Type 0
IsFaultOf s p (fault.Refused kind stage atom) = violation s p ≡ Some (record { kind = kind; stage = stage; atom = atom })
IsFaultOf s p fault.Memory = ⊤

abbrev pub says : BrokenPlace → Violation
says b = record { kind = b.kind; stage = b.stage; atom = b.atom }

abbrev pub says_if : Option BrokenPlace → Option Violation
says_if None = None
says_if (Some b) = Some (says b)

-- the first output that breaks a rule; n is the number of the first of these outputs, from 0
abbrev pub first_output : Sizes → List ℕ → ℕ → List Port → Option BrokenAtom
first_output z written n [] = None
first_output z written n (o ∷ outputs) = at_place (broken (output_tests z written o)) n (first_output z written (n + 1) outputs)

-- all trees of a stage fit
abbrev pub stage_fits : (TreesForm → Bool) → StageForm → Bool
stage_fits fits stage = list_all (λ (a : AtomForm). fits a.trees) stage.stateful

-- an atom of stage n, or an output behind the last stage
abbrev pub atom_says : ℕ → Option BrokenAtom → Option Violation
atom_says n None = None
atom_says n (Some b) = Some (record { kind = b.kind; stage = n; atom = b.atom + 1 })

-- what the outputs break; behind is the number of the stage behind the last one
abbrev pub outputs_say : ℕ → Sizes → List ℕ → List Port → Option Violation
outputs_say behind z written outputs =
    if nat_eq (length outputs) z.fields then atom_says behind (first_output z written 0 outputs) else Some (record { kind = kind.BadNumber; stage = behind; atom = 0 })

-- The text of compiled parts is a configuration's, and within the limit.
use Rattle.std.proofs.Common.{◌≡◌, ℕ, ◌+◌, ◌<◌, ◌≤◌, true, List, [], ◌∷◌, length, map, fold, refl, ap, ◌∙◌, subst, arith, Ok}
use Rattle.std.specs.List.{sum_by}
use Rattle.dom_words.specs.declared.array.Array.{Array}
use Rattle.banzai_config.specs.declared.target.Target.{Target}
use Rattle.banzai_config.specs.Legal.{LegalFor, Shape}
use Rattle.banzai_config.specs.Parts.{PartsForm}
use Rattle.banzai_config.specs.Targets.{shape_of}
use Rattle.compile_law.specs.Compiled.{compiled_parts}
use Rattle.container_plan.specs.Shared.{shared}
use Rattle.config_text.specs.Fronts.{TextOf, text_of}
use Rattle.config_text.specs.Sizes.{array_name_size, name_size, names_size}
use Rattle.config_text.specs.Small.{has_small_numbers}
use Rattle.config_text.proofs.LegalTexts.{legal_text}
use Rattle.config_text.proofs.Sizes.{short_text}
use Rattle.dom_ast.specs.Resolved.{CheckedForm}
use Rattle.dom_compile.specs.Answer.{IsCompileAnswer}
use Rattle.dom_compile.specs.WellNamed.{array_names}
use Rattle.dom_compile.proofs.WellNamed.{is_well_named}
use Rattle.dom_finding.specs.Configs.{IsConfig, config_form}
use Rattle.dom_shell.proofs.SharedSmall.{shared_small}
use Rattle.dom_shell.proofs.SmallNumbers.{parts_small}

-- the numbers of compiled parts are below 2^32
pub compiled_small : (s : Shape) (text : List ℕ) (parts : PartsForm) → IsCompileAnswer s text (Ok parts) → has_small_numbers parts ≡ true
compiled_small s text parts answer =
    let made = answer.2 in
    let own : PartsForm = compiled_parts answer.0 s.depth made.atoms made.places in
    let legal : LegalFor s (shared own) = subst (LegalFor s) made.parts_are made.legal in
    ap has_small_numbers made.parts_are ∙ shared_small s own legal (parts_small answer.0 s.depth made.atoms made.places made.atoms_are)

sizes_from : (n : ℕ) (arrays : List Array) → fold (λ k a. k + array_name_size a) n arrays ≡ fold (λ k (name : List ℕ). k + length name) n (map (λ (a : Array). a.name) arrays)
sizes_from n [] = refl
sizes_from n (a ∷ arrays) = sizes_from (n + length a.name) arrays

-- their names are those of the program
compiled_names : (s : Shape) (text : List ℕ) (parts : PartsForm) → IsCompileAnswer s text (Ok parts) → names_size parts ≤ length text
compiled_names s text parts answer =
    let made = answer.2 in
    let program : CheckedForm = answer.1.listed.program in
    let fields : parts.fields ≡ program.fields = ap (λ (p : PartsForm). p.fields) made.parts_are ∙ answer.1.listed.listed_is.fields in
    let arrays : parts.arrays ≡ program.arrays = ap (λ (p : PartsForm). p.arrays) made.parts_are ∙ answer.1.listed.listed_is.arrays in
    let fit : sum_by (length {A = ℕ}) program.fields + sum_by (length {A = ℕ}) (array_names program) ≤ length text = (is_well_named text program answer.1.listed.program_is).fit in
    let of_fields : sum_by name_size parts.fields ≡ sum_by (length {A = ℕ}) program.fields = ap (sum_by name_size) fields in
    let of_arrays : sum_by array_name_size parts.arrays ≡ sum_by (length {A = ℕ}) (array_names program) = ap (sum_by array_name_size) arrays ∙ sizes_from 0 program.arrays in
    omega (arith, of_fields, of_arrays)

pub compiled_text : (t : Target) (text : List ℕ) (parts : PartsForm) → IsCompileAnswer (shape_of t) text (Ok parts) → TextOf t parts (text_of t parts)
compiled_text t text parts answer = legal_text t parts answer.2.legal (compiled_small (shape_of t) text parts answer)

pub compiled_config : (t : Target) (text : List ℕ) (parts : PartsForm) → IsCompileAnswer (shape_of t) text (Ok parts) → IsConfig (text_of t parts) (Ok (config_form t parts))
compiled_config t text parts answer = (compiled_text t text parts answer, answer.2.legal)

-- a program with a configuration is within its own limit
pub compiled_short : (t : Target) (text : List ℕ) (parts : PartsForm) → IsCompileAnswer (shape_of t) text (Ok parts) → length (text_of t parts) < 1048576
compiled_short t text parts answer =
    let few : length text ≤ 65536 = answer.1.listed.program_is.has_program.has_tokens.small in
    let names : names_size parts ≤ length text = compiled_names (shape_of t) text parts answer in
    short_text t parts (text_of t parts) answer.2.legal (compiled_text t text parts answer) (omega arith)

-- The statement list of a resolved program is that of the program with one name for each value.
use Rattle.std.proofs.Common.{◌≡◌, ℕ, List, length, ap, refl, subst, sym, ◌∙◌, Result, Ok, Err, IfErr}
use Rattle.std.specs.Result.{IsErrAnd}
use Rattle.dom_words.specs.declared.array.Array.{Array}
use Rattle.dom_words.specs.State.{AgreeUnder, IsSmallHash}
use Rattle.dom_ast.specs.Named.{NamedForm, named_outcome}
use Rattle.dom_ast.specs.Resolved.{CheckedForm, PartForm}
use Rattle.dom_flat.specs.declared.flat.Flat.{Flat}
use Rattle.dom_flat.specs.Meaning.{flat_outcome}
use Rattle.ssa_names.specs.Naming.{outputs_of}
use Rattle.three_address.specs.declared.fault.FlatFault.{FlatFault}
use Rattle.three_address.specs.declared.fault.FlatFault.TheVariants as fault
use Rattle.three_address.specs.Statements.{IsRefused, statements}
use Rattle.dom_compile.specs.declared.faults.CompileFault.{CompileFault}
use Rattle.dom_compile.specs.Compiled.{IsListed, IsTooLong, MeansProgram, listed, naming_of}
use Rattle.dom_compile.specs.Layers.{of_flat}

module _ (program : CheckedForm) (fields : List (List ℕ)) (items : List NamedForm) (outputs : List PartForm) (same_fields : fields ≡ program.fields) (same_items : items ≡ (naming_of program).items) (same_outputs : outputs ≡ outputs_of (length program.fields) (naming_of program)) where
  same_list : statements (length fields) items outputs ≡ listed program
  same_list = rw same_fields (rw same_items (rw same_outputs refl))

  pub is_listed : (arrays : List Array) (flat : Flat) → arrays ≡ program.arrays → flat.fields ≡ fields → flat.arrays ≡ arrays
      → flat.lines ≡ (statements (length fields) items outputs).lines → flat.outputs ≡ (statements (length fields) items outputs).operands
      → MeansProgram program (λ hash packet state. named_outcome hash items outputs packet state)
      → AgreeUnder (λ hash packet state. IsSmallHash hash × (length packet ≡ length fields)) (λ hash packet state. flat_outcome hash flat.lines flat.outputs packet state) (λ hash packet state. named_outcome hash items outputs packet state)
      → IsListed program flat
  is_listed arrays flat same_arrays its_fields its_arrays its_lines its_outputs named_means means = record {
    fields = its_fields ∙ same_fields;
    arrays = its_arrays ∙ same_arrays;
    lines = its_lines ∙ ap (λ all. all.lines) same_list;
    outputs = its_outputs ∙ ap (λ all. all.operands) same_list;
    means = λ hash packet state small words declared.
        means hash packet state (small, words ∙ sym (ap length same_fields)) ∙ named_means hash packet state small words declared;
  }

  pub too_long : (f : FlatFault) → IsRefused f (length (statements (length fields) items outputs).lines) → IsTooLong program (of_flat f)
  too_long (fault.TooManyStatements n) refused = (refused.0 ∙ ap (λ all. length all.lines) same_list, refused.1)
  too_long fault.Memory refused = tt

-- an error with a cause has it under an equal name
pub renamed_cause : {T : Type 0} (result : Result T CompileFault) (Cause : CompileFault → Type 0) (f : CompileFault) → IsErrAnd result (λ e. e ≡ f) → Cause f → IfErr result Cause
renamed_cause (Ok value) Cause f is cause = tt
renamed_cause (Err e) Cause f is cause = subst Cause (sym is) cause

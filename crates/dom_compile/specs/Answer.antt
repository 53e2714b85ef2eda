-- What a text compiles to for a target: a configuration, or the first cause why it has none.
use Rattle.std.specs.Prelude.{◌≡◌, ◌<◌, ◌≤◌, ℕ, Bool, List, [], length, None, Result, Ok, Err}
use Rattle.codelets.specs.declared.answer.Codelets.{Codelets}
use Rattle.codelets.specs.declared.codelet.Codelet.{Codelet}
use Rattle.codelets.specs.declared.codelet.Kind.{Kind}
use Rattle.stage_plan.specs.declared.place.Place.{Place}
use Rattle.stage_plan.specs.declared.fault.PlanFault.TheVariants.{Full, TooDeep}
use Rattle.stage_plan.specs.Chains.{greatest_level}
use Rattle.stage_plan.specs.Faults.{IsPlanFault}
use Rattle.stage_plan.specs.Schedule.{all_placed, schedule}
use Rattle.atom_traits.specs.Form.{TreesForm}
use Rattle.atom_match.specs.declared.fault.MatchFault.TheVariants.{Outside}
use Rattle.atom_match.specs.Atoms.{AtomForm, IsMatchFault, first_outside}
use Rattle.banzai_config.specs.Legal.{LegalFor, Shape}
use Rattle.banzai_config.specs.Parts.{PartsForm}
use Rattle.compile_law.specs.Compiled.{AreAtomsOf, compiled_parts}
use Rattle.container_plan.specs.Shared.{shared}
use Rattle.dom_ast.specs.Resolved.{CheckedForm}
use Rattle.dom_compile.specs.declared.faults.CompileFault.{CompileFault}
use Rattle.dom_compile.specs.declared.faults.CompileFault.TheVariants as fault
use Rattle.dom_compile.specs.Compiled.{IsCompiled, listed}
use Rattle.dom_compile.specs.Verdict.{IsProgram, ProgramFault, of_bytes, of_names, of_tokens}

-- why a text has no configuration, in the order in which the causes are looked for: it is no well-formed program; so many
-- statements are too many; the least statement number of a codelet outside the template; the least statement numbers of the
-- codelets of too long a chain; and those of a codelet that finds no place, with a kind and a stage that is full of it
pub data CompileRefusal : Type 0 where
  ill_formed : ProgramFault → CompileRefusal
  too_many : ℕ → CompileRefusal
  outside : ℕ → CompileRefusal
  too_deep : List ℕ → CompileRefusal
  full : ℕ → Kind → ℕ → CompileRefusal

-- the codelets of the text's statement list all fit: the trees a template's test, and the operators a target with or without
-- multipliers
pub record IsFitted (fits : TreesForm → Bool) (multiplies : Bool) (text : List ℕ) (codelets : Codelets) : Type 0 where
  pub listed : IsCompiled text codelets.flat
  pub inside : first_outside fits multiplies codelets ≡ None

-- one of them is outside
abbrev pub IsOutside : (TreesForm → Bool) → Bool → List ℕ → ℕ → Type 0
IsOutside fits multiplies text n = (codelets : Codelets) × IsCompiled text codelets.flat × IsMatchFault fits multiplies codelets (Outside n)

-- the codelets have these parts: their atoms at the stages of the list schedule, with values that share containers; and the
-- target takes them, with shared containers and with one container for each value
pub record IsConfigured (s : Shape) (codelets : Codelets) (parts : PartsForm) : Type 0 where
  pub atoms : List AtomForm
  pub places : List Place
  pub atoms_are : AreAtomsOf codelets atoms
  pub shallow : greatest_level codelets.list ≤ s.depth
  pub placed : schedule s.depth s.stateless s.stateful [] codelets.list ≡ all_placed places
  pub unshared : LegalFor s (compiled_parts codelets s.depth atoms places)
  pub parts_are : parts ≡ shared (compiled_parts codelets s.depth atoms places)
  pub legal : LegalFor s parts

-- what a text is for a target
abbrev pub IsCompileAnswer : Shape → List ℕ → Result PartsForm CompileRefusal → Type 0
IsCompileAnswer s text (Ok parts) = (codelets : Codelets) × IsFitted s.fits s.multiplies text codelets × IsConfigured s codelets parts
IsCompileAnswer s text (Err (ill_formed fault)) = IsProgram text (Err fault)
IsCompileAnswer s text (Err (too_many n)) = (program : CheckedForm) × IsProgram text (Ok program) × (n ≡ length (listed program).lines) × (512 < n)
IsCompileAnswer s text (Err (outside n)) = IsOutside s.fits s.multiplies text n
IsCompileAnswer s text (Err (too_deep chain)) =
    (codelets : Codelets) × IsFitted s.fits s.multiplies text codelets × IsPlanFault s.depth s.stateless s.stateful codelets.list (TooDeep chain)
IsCompileAnswer s text (Err (full n kind stage)) =
    (codelets : Codelets) × IsFitted s.fits s.multiplies text codelets × IsPlanFault s.depth s.stateless s.stateful codelets.list (Full n kind stage)

-- what a text is for a template's test and a target with or without multipliers: codelets that fit, or the first cause why it
-- has none; no stages are asked for
abbrev pub IsFrontAnswer : (TreesForm → Bool) → Bool → List ℕ → Result (List Codelet) CompileRefusal → Type 0
IsFrontAnswer fits multiplies text (Ok list) = (codelets : Codelets) × IsFitted fits multiplies text codelets × (list ≡ codelets.list)
IsFrontAnswer fits multiplies text (Err (ill_formed fault)) = IsProgram text (Err fault)
IsFrontAnswer fits multiplies text (Err (too_many n)) = (program : CheckedForm) × IsProgram text (Ok program) × (n ≡ length (listed program).lines) × (512 < n)
IsFrontAnswer fits multiplies text (Err (outside n)) = IsOutside fits multiplies text n
IsFrontAnswer fits multiplies text (Err (too_deep chain)) = ⊥
IsFrontAnswer fits multiplies text (Err (full n kind stage)) = ⊥

-- a fault is what the text is; want of memory needs no cause
abbrev pub IsFrontFault : (TreesForm → Bool) → Bool → List ℕ → CompileFault → Type 0
IsFrontFault fits multiplies text (fault.Lex f) = IsFrontAnswer fits multiplies text (Err (ill_formed (of_bytes f)))
IsFrontFault fits multiplies text (fault.Parse f) = IsFrontAnswer fits multiplies text (Err (ill_formed (of_tokens f)))
IsFrontFault fits multiplies text (fault.Check f) = IsFrontAnswer fits multiplies text (Err (ill_formed (of_names f)))
IsFrontFault fits multiplies text (fault.TooManyStatements n) = IsFrontAnswer fits multiplies text (Err (too_many n))
IsFrontFault fits multiplies text (fault.Outside n) = IsFrontAnswer fits multiplies text (Err (outside n))
IsFrontFault fits multiplies text (fault.TooDeep chain) = ⊥
IsFrontFault fits multiplies text (fault.Full n kind stage) = ⊥
IsFrontFault fits multiplies text fault.Memory = Unit {0}

-- a fault is what the text is for the target; want of memory needs no cause
abbrev pub IsCompileFault : Shape → List ℕ → CompileFault → Type 0
IsCompileFault s text (fault.Lex f) = IsCompileAnswer s text (Err (ill_formed (of_bytes f)))
IsCompileFault s text (fault.Parse f) = IsCompileAnswer s text (Err (ill_formed (of_tokens f)))
IsCompileFault s text (fault.Check f) = IsCompileAnswer s text (Err (ill_formed (of_names f)))
IsCompileFault s text (fault.TooManyStatements n) = IsCompileAnswer s text (Err (too_many n))
IsCompileFault s text (fault.Outside n) = IsCompileAnswer s text (Err (outside n))
IsCompileFault s text (fault.TooDeep chain) = IsCompileAnswer s text (Err (too_deep chain))
IsCompileFault s text (fault.Full n kind stage) = IsCompileAnswer s text (Err (full n kind stage))
IsCompileFault s text fault.Memory = Unit {0}

-- What a text compiles to, and why it does not.
use Rattle.std.specs.Prelude.{◌≡◌, ◌<◌, ℕ, List, length}
use Rattle.dom_words.specs.State.{Hash, IsSmallHash, IsStateOf, Outcome}
use Rattle.dom_ast.specs.Meaning.{one_packet}
use Rattle.dom_ast.specs.Resolved.{CheckedForm}
use Rattle.branch_removal.specs.Branches.{straight}
use Rattle.state_flanks.specs.WithFlanks.{with_flanks}
use Rattle.ssa_names.specs.Naming.{Naming, named, outputs_of}
use Rattle.three_address.specs.Flattening.{AllFlattened}
use Rattle.three_address.specs.Statements.{statements}
use Rattle.dom_flat.specs.declared.flat.Flat.{Flat}
use Rattle.dom_flat.specs.Meaning.{flat_outcome}
use Rattle.dom_compile.specs.declared.faults.CompileFault.{CompileFault}
use Rattle.dom_compile.specs.declared.faults.CompileFault.TheVariants as fault
use Rattle.dom_compile.specs.Programs.{HasCheckFault, HasLexFault, HasParseFault, IsWellFormed}

-- one name for each value of a resolved program: branches removed, and flanks put in
abbrev pub naming_of : CheckedForm → Naming
naming_of program = named (with_flanks program.arrays (straight program.bodies))

-- the statement list of a resolved program, and its outputs
abbrev pub listed : CheckedForm → AllFlattened
listed program = statements (length program.fields) (naming_of program).items (outputs_of (length program.fields) (naming_of program))

-- a meaning of one packet and one state is that of the transactions, for every hash that answers below 2^31, every packet with
-- a word for each field, and every state of the declared lengths
abbrev pub MeansProgram : CheckedForm → (Hash → List ℕ → List (List ℕ) → Outcome) → Type 0
MeansProgram program outcome =
    (hash : Hash) (packet : List ℕ) (state : List (List ℕ)) → IsSmallHash hash → length packet ≡ length program.fields → IsStateOf program.arrays state
    → outcome hash packet state ≡ one_packet hash program.bodies packet state

-- the statement list of a resolved program does what the program does
pub record IsListed (program : CheckedForm) (flat : Flat) : Type 0 where
  pub fields : flat.fields ≡ program.fields
  pub arrays : flat.arrays ≡ program.arrays
  pub lines : flat.lines ≡ (listed program).lines
  pub outputs : flat.outputs ≡ (listed program).operands
  pub means : MeansProgram program (λ hash packet state. flat_outcome hash flat.lines flat.outputs packet state)

-- the statement list of a text that is a well-formed program
pub record IsCompiled (text : List ℕ) (flat : Flat) : Type 0 where
  pub program : CheckedForm
  pub program_is : IsWellFormed text program
  pub listed_is : IsListed program flat

-- a resolved program has too long a statement list; want of memory needs no cause
abbrev pub IsTooLong : CheckedForm → CompileFault → Type 0
IsTooLong program (fault.TooManyStatements n) = (n ≡ length (listed program).lines) × (512 < n)
IsTooLong program fault.Memory = Unit {0}
IsTooLong program (fault.Lex f) = ⊥
IsTooLong program (fault.Parse f) = ⊥
IsTooLong program (fault.Check f) = ⊥
IsTooLong program (fault.Outside n) = ⊥
IsTooLong program (fault.TooDeep chain) = ⊥
IsTooLong program (fault.Full n kind stage) = ⊥

-- the first cause why a text has no statement list; want of memory needs none
abbrev pub IsCause : List ℕ → CompileFault → Type 0
IsCause text (fault.Lex f) = HasLexFault text f
IsCause text (fault.Parse f) = HasParseFault text f
IsCause text (fault.Check f) = HasCheckFault text f
IsCause text (fault.TooManyStatements n) =
    (program : CheckedForm) × IsWellFormed text program × (n ≡ length (listed program).lines) × (512 < n)
IsCause text fault.Memory = Unit {0}
IsCause text (fault.Outside n) = ⊥
IsCause text (fault.TooDeep chain) = ⊥
IsCause text (fault.Full n kind stage) = ⊥

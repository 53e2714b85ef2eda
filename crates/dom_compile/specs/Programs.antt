-- What a text is as a program: its tokens and the program that they spell, or the first fault of its bytes, its tokens or
-- its names.
use Rattle.std.specs.Prelude.{◌≡◌, ℕ, ◌≤◌, List, length, Some, None}
use Rattle.dom_lexer.specs.declared.token.Token.{Token}
use Rattle.dom_lexer.specs.declared.token.LexFault.{LexFault}
use Rattle.dom_lexer.specs.Text.{IsFault, Lexed, most_tokens}
use Rattle.dom_parser.specs.declared.faults.ParseFault.{ParseFault}
use Rattle.dom_parser.specs.declared.faults.ParseFault.TheVariants as parse
use Rattle.dom_parser.specs.Faults.{IsFirstFault}
use Rattle.dom_parser.specs.Grammar.{SpellsWithin}
use Rattle.dom_ast.specs.Form.{ProgramForm}
use Rattle.dom_ast.specs.Resolved.{CheckedForm}
use Rattle.dom_checks.specs.declared.faults.CheckFault.{CheckFault}
use Rattle.dom_checks.specs.Resolve.{resolved}
use Rattle.dom_checks.specs.Walk.{violation}

-- the most bytes that a program may have
abbrev pub most_program : ℕ
most_program = 65536

-- the text is within the limit, and these are its tokens
pub record HasTokens (text : List ℕ) (tokens : List Token) : Type 0 where
  pub small : length text ≤ most_program
  pub lexed : Lexed text tokens
  pub few : length tokens ≤ most_tokens

-- and they spell this program
pub record HasProgram (text : List ℕ) (program : ProgramForm) : Type 0 where
  pub tokens : List Token
  pub has_tokens : HasTokens text tokens
  pub spelled : SpellsWithin program tokens

-- the first fault of the bytes
pub record HasLexFault (text : List ℕ) (fault : LexFault) : Type 0 where
  pub small : length text ≤ most_program
  pub first : IsFault text fault

-- the first fault of the tokens, which spell no program within the limit on open constructs
pub record HasParseFault (text : List ℕ) (fault : ParseFault) : Type 0 where
  pub tokens : List Token
  pub has_tokens : HasTokens text tokens
  pub first : IsFirstFault tokens (length text) fault
  pub told : fault ≡ parse.Memory → ⊥
  pub none : (program : ProgramForm) → SpellsWithin program tokens → ⊥

-- the first check that does not hold
pub record HasCheckFault (text : List ℕ) (fault : CheckFault) : Type 0 where
  pub program : ProgramForm
  pub has_program : HasProgram text program
  pub first : violation program ≡ Some fault

-- all checks hold, and this is the program with its names resolved
pub record IsWellFormed (text : List ℕ) (c : CheckedForm) : Type 0 where
  pub program : ProgramForm
  pub has_program : HasProgram text program
  pub well : violation program ≡ None
  pub resolved_is : c ≡ resolved program

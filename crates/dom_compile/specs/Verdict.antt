-- What a text is as a program.
use Rattle.std.specs.Prelude.{List, ℕ, Result, Ok, Err}
use Rattle.dom_lexer.specs.declared.token.LexFault.{LexFault}
use Rattle.dom_parser.specs.declared.faults.ParseFault.{ParseFault}
use Rattle.dom_ast.specs.Resolved.{CheckedForm}
use Rattle.dom_checks.specs.declared.faults.CheckFault.{CheckFault}
use Rattle.dom_compile.specs.Programs.{HasCheckFault, HasLexFault, HasParseFault, IsWellFormed}

-- why a text is no well-formed program: the first fault of its bytes, of its tokens or of its names
pub data ProgramFault : Type 0 where
  of_bytes : LexFault → ProgramFault
  of_tokens : ParseFault → ProgramFault
  of_names : CheckFault → ProgramFault

-- a text of at most 65,536 bytes is a well-formed program, or has a first fault
abbrev pub IsProgram : List ℕ → Result CheckedForm ProgramFault → Type 0
IsProgram text (Ok c) = IsWellFormed text c
IsProgram text (Err (of_bytes fault)) = HasLexFault text fault
IsProgram text (Err (of_tokens fault)) = HasParseFault text fault
IsProgram text (Err (of_names fault)) = HasCheckFault text fault

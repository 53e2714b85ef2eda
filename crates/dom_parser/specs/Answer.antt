-- The answer of tokens: the program that they spell, or their first fault.
use Rattle.std.specs.Prelude.{◌≡◌, ◌⊎◌, ℕ, List}
use Rattle.dom_lexer.specs.declared.token.Token.{Token}
use Rattle.dom_ast.specs.Form.{ProgramForm}
use Rattle.dom_parser.specs.declared.faults.ParseFault.{ParseFault}
use Rattle.dom_parser.specs.declared.faults.ParseFault.TheVariants as answer
use Rattle.dom_parser.specs.Faults.{IsFirstFault}
use Rattle.dom_parser.specs.Grammar.{SpellsWithin}

-- in a text of `end` bytes these tokens spell a program within the limit, or have a first fault other than want of memory
abbrev pub HasAnswer : List Token → ℕ → Type 0
HasAnswer tokens end =
    ((program : ProgramForm) × SpellsWithin program tokens)
    ⊎ ((fault : ParseFault) × IsFirstFault tokens end fault × (fault ≡ answer.Memory → ⊥))

-- Where tokens have a fault.
use Rattle.std.specs.Prelude.{◌≡◌, ℕ, zero, suc, ◌<◌, ◌≤◌, true, false, List, [], ◌∷◌, ◌++◌, length, take, map}
use Rattle.dom_lexer.specs.declared.token.Token.{Token}
use Rattle.dom_ast.specs.Form.{ProgramForm}
use Rattle.dom_parser.specs.declared.faults.Fault.{Fault}
use Rattle.dom_parser.specs.declared.faults.Fault.TheVariants as place
use Rattle.dom_parser.specs.declared.faults.ParseFault.{ParseFault}
use Rattle.dom_parser.specs.declared.faults.ParseFault.TheVariants as answer
use Rattle.dom_parser.specs.declared.kinds.Kind.{Kind}
use Rattle.dom_parser.specs.declared.kinds.Kind.TheVariants as kind
use Rattle.dom_parser.specs.Tokens.{Mark, mark, stands, offset_at, ahead, is_minus, number_first}
use Rattle.dom_parser.specs.Grammar.{Program, IsProgram, program_tokens, program_opens, most_open, SpellsWithin, BeginProgram, Spells}

-- the fault at a token of this kind and at this offset, in a text of `end` bytes
abbrev pub unexpected_at : Kind → ℕ → ℕ → ParseFault
unexpected_at kind.Forbidden offset end = answer.Forbidden offset
unexpected_at kind.End offset end = answer.Unexpected end
unexpected_at _ offset end = answer.Unexpected offset

-- a fault with its offset in the place of the token's number
abbrev pub located_at : List Token → ℕ → Fault → ParseFault
located_at l end (place.Unexpected p) = unexpected_at (stands l p) (offset_at l p) end
located_at l end (place.TooNested p) = answer.TooNested (offset_at l p)
located_at l end place.Memory = answer.Memory

-- the program begins with the tokens up to the one at p; where that is a "-", no number comes next in the program
pub record BeginsWith (l : List Token) (p : ℕ) (way : Program) : Type 0 where
  pub is_program : IsProgram way
  pub rest : List Mark
  pub front : program_tokens way ≡ map mark (take (suc p) l) ++ rest
  pub operator : is_minus (stands l p) ≡ true → number_first rest ≡ false

-- of these numbers of open constructs the first that is too great stands at place p, and is one too great
abbrev pub IsFirstOver : ℕ → List ℕ → Type 0
IsFirstOver p [] = ⊥
IsFirstOver zero (n ∷ ns) = n ≡ suc most_open
IsFirstOver (suc p) (n ∷ ns) = (n ≤ most_open) × IsFirstOver p ns

-- The token at p is the first that opens a construct while 64 are open: some program begins with the tokens up to it, and in
-- each that does, 65 constructs are open there and no more than 64 before. A "-" opens one only where no number comes next.
pub record OpensTooMany (l : List Token) (p : ℕ) : Type 0 where
  pub there : p < length l
  pub operator : is_minus (stands l p) ≡ true → ahead l p ≡ false
  pub some : (way : Program) × BeginsWith l p way
  pub every : (way : Program) → BeginsWith l p way → IsFirstOver p (program_opens way)

-- The tokens before p are a front of a program, and none of them opens one construct too many. With the one at p they are no
-- front, and all tokens together spell no program.
pub record RulesOut (l : List Token) (p : ℕ) : Type 0 where
  pub there : p ≤ length l
  pub before : BeginProgram (take p l)
  pub within : (q : ℕ) → q < p → OpensTooMany l q → ⊥
  pub with_it : p < length l → BeginProgram (take (suc p) l) → ⊥
  pub together : (f : ProgramForm) → Spells f l → ⊥

-- what a fault at a token says of the fronts of programs
abbrev pub Rules : List Token → Fault → Type 0
Rules l (place.Unexpected p) = RulesOut l p
Rules l (place.TooNested p) = OpensTooMany l p
Rules l place.Memory = Unit {0}

-- the fault is that of the first token that may not follow, or that opens one construct too many, told with its offset
pub record IsFirstFault (l : List Token) (end : ℕ) (f : ParseFault) : Type 0 where
  pub fault : Fault
  pub located : f ≡ located_at l end fault
  pub rules : Rules l fault

-- the tokens spell no program within the limit, unless memory was wanting
abbrev pub SpellsNone : List Token → ParseFault → Type 0
SpellsNone l answer.Memory = Unit {0}
SpellsNone l (answer.Forbidden p) = (p : ProgramForm) → SpellsWithin p l → ⊥
SpellsNone l (answer.Unexpected p) = (p : ProgramForm) → SpellsWithin p l → ⊥
SpellsNone l (answer.TooNested p) = (p : ProgramForm) → SpellsWithin p l → ⊥

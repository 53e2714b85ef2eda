-- The names of hash units.
use Rattle.std.specs.Prelude.{ℕ, zero, suc, ◌+◌, ◌≤◌, List, [], ◌∷◌, ◌++◌, codes, map, flat_map, Option}
use Rattle.std.specs.List.{find}
use Rattle.std.proofs.Common.{zero-le, suc-le-suc}
use Rattle.dom_words.specs.Names.{is_same}
use Rattle.dom_words.specs.declared.hash.HashName.{HashName}

-- a letter by its number: none for 0, and `a` to `h` for 1 to 8
abbrev pub letter_text : ℕ → List ℕ
letter_text zero = []
letter_text (suc n) = (97 + n) ∷ []

-- the digit of the number of arguments, and the letter
abbrev pub unit_ending : HashName → List ℕ
unit_ending unit = (48 + unit.args) ∷ letter_text unit.letter

-- the name of a unit: `hash`, its digit and its letter
abbrev pub unit_text : HashName → List ℕ
unit_text unit = codes "hash" ++ unit_ending unit

-- a number of arguments, from 1 to 4
pub record Count : Type 0 where
  pub args : ℕ
  pub some : 1 ≤ args
  pub few : args ≤ 4

-- the number of a letter, from 0 to 8
pub record Letter : Type 0 where
  pub letter : ℕ
  pub to_h : letter ≤ 8

-- the unit with these numbers
abbrev pub unit_of : Count → Letter → HashName
unit_of c l = record { args = c.args; letter = l.letter; some_args = c.some; few_args = c.few; letter_to_h = l.to_h }

-- an order that stays when both sides rise by one
abbrev pub up_one : {m n : ℕ} → m ≤ n → suc m ≤ suc n
up_one = suc-le-suc

-- every number of arguments
abbrev pub counts : List Count
counts =
    record { args = 1; some = up_one zero-le; few = up_one zero-le }
    ∷ record { args = 2; some = up_one zero-le; few = up_one (up_one zero-le) }
    ∷ record { args = 3; some = up_one zero-le; few = up_one (up_one (up_one zero-le)) }
    ∷ record { args = 4; some = up_one zero-le; few = up_one (up_one (up_one (up_one zero-le))) }
    ∷ []

-- the number of every letter, and 0 for none
abbrev pub letters : List Letter
letters =
    record { letter = 0; to_h = zero-le }
    ∷ record { letter = 1; to_h = up_one zero-le }
    ∷ record { letter = 2; to_h = up_one (up_one zero-le) }
    ∷ record { letter = 3; to_h = up_one (up_one (up_one zero-le)) }
    ∷ record { letter = 4; to_h = up_one (up_one (up_one (up_one zero-le))) }
    ∷ record { letter = 5; to_h = up_one (up_one (up_one (up_one (up_one zero-le)))) }
    ∷ record { letter = 6; to_h = up_one (up_one (up_one (up_one (up_one (up_one zero-le))))) }
    ∷ record { letter = 7; to_h = up_one (up_one (up_one (up_one (up_one (up_one (up_one zero-le)))))) }
    ∷ record { letter = 8; to_h = up_one (up_one (up_one (up_one (up_one (up_one (up_one (up_one zero-le))))))) }
    ∷ []

-- all 36 units
abbrev pub units : List HashName
units = flat_map (λ c. map (unit_of c) letters) counts

-- the unit whose name is this text, if there is one: the first of all units
unfoldable pub unit_named : List ℕ → Option HashName
unit_named text = find (λ unit. is_same (unit_text unit) text) units

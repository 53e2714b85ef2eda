-- What is read at the front of a text, as lists.
use Rattle.std.specs.Prelude.{ℕ, List}
use Rattle.std.specs.Borrow.{Bor}
use Rattle.plan_check.specs.declared.line.Number.{Number}
use Rattle.plan_check.specs.Reader.{NumberRest}

abbrev pub rest_form : Bor (List ℕ) → List ℕ
rest_form rest = rest.now

abbrev pub number_form : Number → NumberRest
number_form n = record { value = n.value; rest = n.rest.now }

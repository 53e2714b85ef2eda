-- What a hash takes of the operators behind it.
use Rattle.std.specs.Prelude.{ℕ, ◌==◌, if◌then◌else◌}

-- how many operators a hash with this modulus takes
abbrev pub taken_by : ℕ → ℕ
taken_by modulus = if modulus == 0 then 0 else 1

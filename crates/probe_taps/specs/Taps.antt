-- What a tap is, and what it is once it has seen a packet.
use Rattle.std.specs.Prelude.{ℕ, ◌+◌, ◌-◌, ◌^◌, min, List, map}

-- the number that it holds, and its rule: the next number, of that number, a cycle and the containers of a packet
pub record TapForm : Type 0 where
  pub number : ℕ
  pub rule : ℕ → ℕ → List ℕ → ℕ

-- a tap that has seen a packet in this cycle
abbrev pub has_seen : ℕ → List ℕ → TapForm → TapForm
has_seen cycle words tap = record { number = tap.rule tap.number cycle words; rule = tap.rule }

-- one more, up to the greatest number of 64 bits
abbrev pub one_more : ℕ → ℕ
one_more n = min (n + 1) (2 ^ 64 - 1)

-- a tap that has counted so many packets
abbrev pub counting : ℕ → TapForm
counting n = record { number = n; rule = λ number cycle words. one_more number }

-- what boxes of taps are: `tap_forms (λ b. form b) boxes` in a clause over `boxes : List` of `Box<dyn Tap>`
abbrev pub tap_forms : {B : Type 0} → (B → TapForm) → List B → List TapForm
tap_forms form boxes = map form boxes

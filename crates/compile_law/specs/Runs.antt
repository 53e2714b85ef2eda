-- Packets one after another.
use Rattle.std.specs.Prelude.{◌≡◌, ℕ, List, [], ◌∷◌, length}
use Rattle.std.specs.List.{AllByRecursion}
use Rattle.dom_words.specs.State.{Hash, IsSmallHash, IsStateOf, Meaning, Outcome, started}
use Rattle.dom_flat.specs.declared.flat.Flat.{Flat}
use Rattle.dom_flat.specs.Meaning.{flat_outcome}
use Rattle.banzai_config.specs.Action.{AloneOutcome, Arrays, alone}
use Rattle.banzai_config.specs.Parts.{PartsForm}

-- where `one` says what becomes of a packet and a state
abbrev pub in_turn : (List ℕ → Arrays → Outcome) → Arrays → List (List ℕ) → AloneOutcome
in_turn one arrays [] = record { packets = []; arrays = arrays }
in_turn one arrays (packet ∷ packets) =
    let now : Outcome = one packet arrays in
    let rest : AloneOutcome = in_turn one now.arrays packets in
    record { packets = now.packet ∷ rest.packets; arrays = rest.arrays }

-- what the statement list makes of one packet, for every hash that answers below 2^31, every packet with a word for each field,
-- and every state of the declared lengths
abbrev pub IsMeaningOf : Flat → Meaning → Type 0
IsMeaningOf flat meant =
    (hash : Hash) (packet : List ℕ) (state : Arrays) → IsSmallHash hash → length packet ≡ length flat.fields → IsStateOf flat.arrays state
    → flat_outcome hash flat.lines flat.outputs packet state ≡ meant hash packet state

-- parts make of packets with a word for each field the serial run of each meaning of the statement list
abbrev pub RunsAs : Flat → PartsForm → Type 0
RunsAs flat parts =
    (meant : Meaning) → IsMeaningOf flat meant → (hash : Hash) (packets : List (List ℕ)) → IsSmallHash hash → AllByRecursion (λ p. length p ≡ length flat.fields) packets
    → alone hash parts packets ≡ in_turn (meant hash) (started flat.arrays) packets

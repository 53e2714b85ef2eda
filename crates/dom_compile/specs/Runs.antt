-- A configuration that runs as a program.
use Rattle.std.specs.Prelude.{◌≡◌, ℕ, List, length}
use Rattle.std.specs.List.{AllByRecursion}
use Rattle.dom_words.specs.State.{Hash, IsSmallHash}
use Rattle.dom_ast.specs.Meaning.{serial_run}
use Rattle.dom_ast.specs.Resolved.{CheckedForm}
use Rattle.banzai_config.specs.Action.{alone, outcome_of}
use Rattle.banzai_config.specs.Parts.{PartsForm}
use Rattle.dom_compile.specs.Compiled.{MeansProgram}

-- each packet has a word for each field
abbrev pub AreFull : CheckedForm → List (List ℕ) → Type 0
AreFull program packets = AllByRecursion (λ p. length p ≡ length program.fields) packets

-- one packet through all stages and the outputs is what the transactions make of it, on every state
abbrev pub ActsAs : CheckedForm → PartsForm → Type 0
ActsAs program parts = MeansProgram program (λ hash packet state. outcome_of hash parts state packet)

-- one packet after another is the serial run, in packets and in state words
pub record IsSerial (hash : Hash) (program : CheckedForm) (parts : PartsForm) (packets : List (List ℕ)) : Type 0 where
  pub packets_are : (alone hash parts packets).packets ≡ (serial_run hash program packets).packets
  pub arrays_are : (alone hash parts packets).arrays ≡ (serial_run hash program packets).arrays

-- the same for every hash that answers below 2^31 and all packets
abbrev pub RunsAs : CheckedForm → PartsForm → Type 0
RunsAs program parts = (hash : Hash) (packets : List (List ℕ)) → IsSmallHash hash → AreFull program packets → IsSerial hash program parts packets

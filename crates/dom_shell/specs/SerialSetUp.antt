-- What has been read and taken before a serial run.
use Rattle.std.specs.Prelude.{◌≡◌, ℕ, ◌≤◌, List, length, map, All}
use Rattle.trace_text.specs.Lines.{Legend}
use Rattle.dom_words.specs.State.{started}
use Rattle.dom_ast.specs.declared.checked.Checked.{Checked}
use Rattle.dom_ast.specs.declared.serial.SerialRun.{SerialRun}
use Rattle.dom_finding.specs.Finding.{Packets}

-- what a serial run of this program needs
pub record IsSerialSetUp (program : Checked) (run : SerialRun) (lines : Legend) (packets : Packets) (packet : List ℕ) : Type 0 where
  pub program_is : run.program ≡ program
  pub arrays_are : run.arrays ≡ started program.arrays
  pub fields : lines.fields ≡ program.fields
  pub arrays : lines.arrays ≡ map (λ array. array.name) program.arrays
  pub words : length program.fields ≤ lines.words
  pub each : All (λ p. length p.1 ≡ length program.fields) packets
  pub packet_is : length packet ≡ length program.fields

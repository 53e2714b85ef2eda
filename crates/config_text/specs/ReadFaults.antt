-- Why a text is not read.
use Rattle.std.specs.Prelude.{ℕ, List}
use Rattle.config_text.specs.declared.fault.ReadFault.{ReadFault}
use Rattle.config_text.specs.declared.fault.ReadFault.TheVariants.{Line as BadLine, UnknownTarget, Memory}
use Rattle.config_text.specs.Fronts.{HasNoTarget, IsBadLine}

abbrev pub IsReadFault : List ℕ → ReadFault → Type 0
IsReadFault text (BadLine n) = IsBadLine text n
IsReadFault text UnknownTarget = HasNoTarget text
IsReadFault text Memory = Unit {0}

-- the same, where the names of targets are not looked at
abbrev pub IsFormFault : List ℕ → ReadFault → Type 0
IsFormFault text (BadLine n) = IsBadLine text n
IsFormFault text UnknownTarget = ⊥
IsFormFault text Memory = Unit {0}

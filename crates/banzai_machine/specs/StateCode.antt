-- A code of what a machine is seen as. No contract names this.
use Rattle.std.specs.Prelude.{List, refl}
use Rattle.std.specs.Coded.{Coded, code_by, coded_list, coded_option, coded×, coded_ℕ}
use Rattle.banzai_config.specs.Action.{Arrays, Entry}
use Rattle.banzai_config.specs.Parts.{PartsForm}
use Rattle.banzai_config.specs.PartsCode.{parts_code}
use Rattle.banzai_machine.specs.contracts.touch.Touch as touch
use Rattle.banzai_machine.specs.declared.touch.Touch.{Touch}
use Rattle.banzai_machine.specs.State.{MachineForm}

abbrev pub machine_code : Coded MachineForm
machine_code =
    code_by (PartsForm × (List Entry × (Arrays × List Touch)))
    (coded× parts_code (coded× (coded_list (coded_option (coded_list coded_ℕ))) (coded× (coded_list (coded_list coded_ℕ)) (coded_list touch.the_row.coded))))
    (λ m. (m.config, (m.row.registers, (m.row.state, m.touches))))
    (λ p. record { config = p.0; row = record { registers = p.1.0; state = p.1.1.0 }; touches = p.1.1.1 })
    (λ _. refl)

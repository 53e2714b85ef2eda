-- Codes of the forms of parts. No contract names these: they let a configuration be seen as its parts.
use Rattle.std.specs.Prelude.{ℕ, List, refl}
use Rattle.std.specs.Coded.{Coded, code_by, coded_list, coded×, coded_ℕ}
use Rattle.dom_words.specs.contracts.array.Array as array
use Rattle.dom_words.specs.declared.array.Array.{Array}
use Rattle.atom_traits.specs.contracts.tree.Port as port
use Rattle.atom_traits.specs.declared.tree.Port.{Port}
use Rattle.atom_traits.specs.Form.{TreesForm}
use Rattle.atom_traits.specs.FormCode.{forms_code}
use Rattle.banzai_config.specs.contracts.parts.OpAtom as op_atom
use Rattle.banzai_config.specs.contracts.parts.PartSlot as slot
use Rattle.banzai_config.specs.contracts.parts.Version as version
use Rattle.banzai_config.specs.declared.parts.OpAtom.{OpAtom}
use Rattle.banzai_config.specs.declared.parts.PartSlot.{PartSlot}
use Rattle.banzai_config.specs.declared.parts.Version.{Version}
use Rattle.banzai_config.specs.Parts.{AtomForm, PartsForm, StageForm}

abbrev pub atom_code : Coded AtomForm
atom_code =
    code_by (List PartSlot × TreesForm) (coded× (coded_list slot.the_row.coded) forms_code) (λ a. (a.slots, a.trees)) (λ p. record { slots = p.0; trees = p.1 }) (λ _. refl)

abbrev pub stage_code : Coded StageForm
stage_code =
    code_by (List OpAtom × List AtomForm) (coded× (coded_list op_atom.the_row.coded) (coded_list atom_code)) (λ s. (s.stateless, s.stateful)) (λ p. record { stateless = p.0; stateful = p.1 })
    (λ _. refl)

abbrev pub parts_code : Coded PartsForm
parts_code =
    code_by (Version × (List (List ℕ) × (List Array × (ℕ × (List StageForm × List Port)))))
    (coded× version.the_row.coded (coded× (coded_list (coded_list coded_ℕ)) (coded× (coded_list array.the_row.coded) (coded× coded_ℕ (coded× (coded_list stage_code) (coded_list port.the_row.coded))))))
    (λ c. (c.version, (c.fields, (c.arrays, (c.containers, (c.stages, c.outputs))))))
    (λ p. record { version = p.0; fields = p.1.0; arrays = p.1.1.0; containers = p.1.1.1.0; stages = p.1.1.1.1.0; outputs = p.1.1.1.1.1 })
    (λ _. refl)

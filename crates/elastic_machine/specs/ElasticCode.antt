-- A code of what an Elastic is seen as. No contract names this.
use Rattle.std.specs.Prelude.{List, refl}
use Rattle.std.specs.Coded.{Coded, code_by, coded_list, coded_option, coded×, coded_ℕ}
use Rattle.banzai_config.specs.Action.{Arrays, Entry}
use Rattle.banzai_config.specs.Parts.{PartsForm}
use Rattle.banzai_config.specs.PartsCode.{parts_code}
use Rattle.elastic_machine.specs.Elastic.{ElasticForm}

abbrev pub elastic_code : Coded ElasticForm
elastic_code =
    code_by (PartsForm × (List (List Entry) × Arrays))
    (coded× parts_code (coded× (coded_list (coded_list (coded_option (coded_list coded_ℕ)))) (coded_list (coded_list coded_ℕ))))
    (λ m. (m.config, (m.queues, m.state)))
    (λ p. record { config = p.0; queues = p.1.0; state = p.1.1 })
    (λ _. refl)

-- A code of what a machine with a queue is seen as. No contract names this.
use Rattle.std.specs.Prelude.{List, ℕ, ℤ, refl}
use Rattle.std.specs.Coded.{Coded, code_by, coded_list, coded×, coded_ℕ, coded_ℤ}
use Rattle.banzai_machine.specs.State.{MachineForm}
use Rattle.banzai_machine.specs.StateCode.{machine_code}
use Rattle.pifo_rank.specs.Queue.{Held, Queue}
use Rattle.pifo_rank.specs.Ranked.{RankedForm}

abbrev pub held_code : Coded Held
held_code = code_by (ℤ × List ℕ) (coded× coded_ℤ (coded_list coded_ℕ)) (λ e. (e.rank, e.words)) (λ p. record { rank = p.0; words = p.1 }) (λ _. refl)

abbrev pub queue_code : Coded Queue
queue_code =
    code_by (List Held × (ℕ × (ℕ × ℕ)))
    (coded× (coded_list held_code) (coded× coded_ℕ (coded× coded_ℕ coded_ℕ)))
    (λ q. (q.entries, (q.pushes, (q.room, q.width))))
    (λ p. record { entries = p.0; pushes = p.1.0; room = p.1.1.0; width = p.1.1.1 })
    (λ _. refl)

abbrev pub ranked_code : Coded RankedForm
ranked_code =
    code_by (MachineForm × (Queue × ℕ))
    (coded× machine_code (coded× queue_code coded_ℕ))
    (λ r. (r.machine, (r.queue, r.rank)))
    (λ p. record { machine = p.0; queue = p.1.0; rank = p.1.1 })
    (λ _. refl)

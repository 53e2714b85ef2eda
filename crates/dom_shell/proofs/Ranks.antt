-- A queue behind the machine of a run.
use Rattle.std.proofs.Common.{◌≡◌, ℕ, ◌≤◌, List, length, refl, sym, ap, subst, Option, Some}
use Rattle.std.specs.Prelude.{unwrap_or}
use Rattle.trace_text.specs.Lines.{Legend}
use Rattle.dom_words.specs.Names.{index_of}
use Rattle.dom_words.specs.State.{Hash}
use Rattle.banzai_machine.specs.State.{MachineForm}
use Rattle.pifo_rank.specs.Ranked.{RankedForm, with_empty_queue}
use Rattle.dom_finding.specs.Finding.{Packets}
use Rattle.dom_report.specs.RankedReport.{IsRankedReady}
use Rattle.dom_shell.specs.Call.{field_at}
use Rattle.dom_shell.specs.RunSetUp.{IsRunSetUp}

-- what a run with an empty queue needs
pub ranked_ready : (hash : Hash) (machine : MachineForm) (lines : Legend) (packets : Packets) (entering leaving dropped : List ℕ) (rank room every : ℕ) (r : RankedForm)
    → IsRunSetUp machine lines packets entering leaving → r ≡ with_empty_queue machine rank room → length dropped ≡ length machine.config.fields → room ≤ 65536 → 1 ≤ every → every ≤ 16
    → IsRankedReady hash r lines packets entering leaving dropped every
ranked_ready hash machine lines packets entering leaving dropped rank room every r is new drops few some often =
    subst (λ (z : RankedForm). IsRankedReady hash z lines packets entering leaving dropped every) (sym new) (record {
      start = is.start.stands hash;
      empty = refl;
      room = few;
      some = some;
      often = often;
      fields = is.fields;
      arrays = is.arrays;
      words = is.words;
      each = is.each;
      cycles = is.cycles;
      entering_is = is.entering_is;
      served_is = is.leaving_is;
      dropped_is = drops;
    })

-- the position that was found
pub position_is : (fields : List (List ℕ)) (name : List ℕ) (k : ℕ) → index_of fields name ≡ Some k → k ≡ field_at fields name
position_is fields name k is = ap (λ (o : Option ℕ). unwrap_or o 0) (sym is)

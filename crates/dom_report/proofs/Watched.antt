-- The cycles that are watched are those of the pipeline.
use Rattle.std.proofs.Common.{◌≡◌, ℕ, zero, suc, ◌+◌, List, [], ◌∷◌, ◌++◌, length, take, slice_get, slice_index_or, refl, sym, ap, ◌∙◌, Some, None, arith}
use Rattle.std.proofs.Math.Seq.{take-append-add}
use Rattle.dom_words.specs.State.{Hash}
use Rattle.banzai_config.specs.Action.{Entry}
use Rattle.banzai_config.specs.Parts.{PartsForm}
use Rattle.banzai_machine.specs.Pipe.{pipe}
use Rattle.banzai_machine.specs.State.{MachineForm}
use Rattle.dom_report.specs.Clocking.{Cycle, after_cycle, after_entries, cycle_of, cycles_from, left_over}
use Rattle.dom_report.specs.WatchReport.{IsCycleOf, at_beginning}
use Rattle.dom_report.proofs.Cycles.{after_entries-append}
use Rattle.dom_report.proofs.DrivenLines.{config_after, left_at, left_is_emitted, stands_after}

module _ (hash : Hash) where
  pub cycles_count : (m : MachineForm) (number : ℕ) (entries : List Entry) → length (cycles_from hash m number entries) ≡ length entries
  cycles_count m number [] = refl
  cycles_count m number (x ∷ xs) = ap suc (cycles_count (after_cycle hash m x) (number + 1) xs)

  -- a cycle is that of the entry at its place, behind the entries before it
  record IsAt (m : MachineForm) (number : ℕ) (entries : List Entry) (k : ℕ) (cycle : Cycle) : Type 0 where
    before : List Entry
    entry : Entry
    behind : List Entry
    entries_are : entries ≡ before ++ entry ∷ behind
    count : length before ≡ k
    cycle_is : cycle ≡ cycle_of hash (after_entries hash m before) (number + k) entry

  cycle_at : (m : MachineForm) (number : ℕ) (entries : List Entry) (k : ℕ) (cycle : Cycle) → slice_get (cycles_from hash m number entries) k ≡ Some cycle → IsAt m number entries k cycle
  cycle_at m number [] k cycle is = absurd (cc)
  cycle_at m number (x ∷ xs) zero cycle is =
      let same : cycle_of hash m number x ≡ cycle = cc in
      let none : number ≡ number + 0 = omega arith in
      record { before = []; entry = x; behind = xs; entries_are = refl; count = refl; cycle_is = sym same ∙ ap (λ n. cycle_of hash m n x) none }
  cycle_at m number (x ∷ xs) (suc k) cycle is =
      let rest = cycle_at (after_cycle hash m x) (number + 1) xs k cycle is in
      let later : number + 1 + k ≡ number + suc k = omega arith in
      record {
        before = x ∷ rest.before;
        entry = rest.entry;
        behind = rest.behind;
        entries_are = ap (λ l. x ∷ l) rest.entries_are;
        count = ap suc rest.count;
        cycle_is = rest.cycle_is ∙ ap (λ n. cycle_of hash (after_entries hash (after_cycle hash m x) rest.before) n rest.entry) later;
      }

  pub watched : (p : PartsForm) (entries : List Entry) (k : ℕ) (cycle : Cycle) → slice_get (cycles_from hash (at_beginning hash p) 0 entries) k ≡ Some cycle → IsCycleOf hash p entries k cycle
  watched p entries k cycle is =
      let m : MachineForm = at_beginning hash p in
      let at = cycle_at m 0 entries k cycle is in
      let upto : at.before ++ at.entry ∷ [] ≡ take (k + 1) entries =
      sym (ap (take (k + 1)) at.entries_are ∙ ap (λ n. take (n + 1) (at.before ++ at.entry ∷ at.behind)) (sym at.count) ∙ take-append-add at.before (at.entry ∷ at.behind) 1) in
      let machine_is : cycle.machine ≡ after_entries hash m (at.before ++ at.entry ∷ []) = ap (λ (c : Cycle). c.machine) at.cycle_is ∙ sym (after_entries-append hash m at.before (at.entry ∷ [])) in
      let config_is : cycle.machine.config ≡ p = ap (λ (n : MachineForm). n.config) machine_is ∙ config_after hash m (at.before ++ at.entry ∷ []) in
      record {
        number_is = ap (λ (c : Cycle). c.number) at.cycle_is ∙ (let e : 0 + k ≡ k = omega arith in e);
        config_is = config_is;
        row_is = stands_after hash m refl cycle.machine (at.before ++ at.entry ∷ []) machine_is ∙ ap (λ (q : PartsForm). pipe hash q (at.before ++ at.entry ∷ [])) config_is ∙ ap (pipe hash p) upto;
        left_is =
            ap (λ (c : Cycle). c.left) at.cycle_is
            ∙ sym (left_at hash m at.before at.entry at.behind)
            ∙ ap (λ n. slice_index_or (left_over hash m (at.before ++ at.entry ∷ at.behind)) n None) at.count
            ∙ ap (λ l. slice_index_or (left_over hash m l) k None) (sym at.entries_are)
            ∙ ap (λ l. slice_index_or l k None) (left_is_emitted hash m refl entries);
      }

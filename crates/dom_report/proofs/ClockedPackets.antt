-- Packets with their idle cycles, one after another, and the drain behind them.
use Rattle.std.proofs.Common.{◌≡◌, ℕ, suc, ◌+◌, ◌<◌, ◌^◌, List, [], ◌∷◌, ◌++◌, length, sym, ap, ◌∙◌, append_assoc, append-nil, length-append, subst, Option, Some, None, arith, All}
use Rattle.std.proofs.lemmas.List.{length-replicate}
use Rattle.dom_words.specs.State.{Hash}
use Rattle.banzai_config.specs.Action.{Entry}
use Rattle.banzai_config.specs.Parts.{PartsForm}
use Rattle.banzai_machine.specs.Pipe.{drain}
use Rattle.banzai_machine.specs.State.{MachineForm}
use Rattle.trace_text.specs.Trace.{cycles_of, entries}
use Rattle.dom_report.specs.Clocking.{ClockedOver, Cycle, IsNext, StoppedIn}
use Rattle.dom_report.proofs.Cycles.{clocked_then, stopped_before, stopped_then}
use Rattle.dom_report.proofs.Packets.{entries-append, entries_of_one, length-entries, length-entries_of_one}
use Rattle.dom_report.proofs.Parts.{idles}

-- what holds of each of them holds of those behind the next one
pub behind_each : (n : ℕ) (rest behind : List (ℕ × List ℕ)) (next : ℕ × List ℕ) → rest ≡ next ∷ behind → All (λ (p : ℕ × List ℕ). length p.1 ≡ n) rest → All (λ (p : ℕ × List ℕ). length p.1 ≡ n) behind
behind_each n rest behind next is each =
    let shifted = subst (λ (l : List (ℕ × List ℕ)). All (λ (p : ℕ × List ℕ). length p.1 ≡ n) l) is each in
    λ k d inside. shifted (suc k) d (omega arith)

from_zero : {n k : ℕ} → n ≡ k → n ≡ 0 + k
from_zero e = omega (arith, e)

module _ {A : Type 0} (bytes : A → Cycle → List ℕ) (after : A → Cycle → A) where
  -- some packets have been clocked, and others are still to come
  pub record Underway (hash : Hash) (m m' : MachineForm) (a a' : A) (held held' : Option (List ℕ)) (number : ℕ) (all rest : List (ℕ × List ℕ)) : Type 0 where
    pub done : List (ℕ × List ℕ)
    pub split : all ≡ done ++ rest
    pub number_is : number ≡ length (entries done)
    pub clocked : ClockedOver bytes after hash m m' a a' held held' 0 (entries done)

module _ {A : Type 0} (bytes : A → Cycle → List ℕ) (after : A → Cycle → A) (hash : Hash) where
  -- there is room for the next one's number
  pub room_for : (m0 m1 : MachineForm) (a0 a1 : A) (h0 h1 : Option (List ℕ)) (number gap : ℕ) (words : List ℕ) (all rest behind : List (ℕ × List ℕ)) (n : ℕ) → IsNext rest (Some gap) words behind → Underway bytes after hash m0 m1 a0 a1 h0 h1 number all rest → cycles_of all + n < 2 ^ 64 → number + gap + 1 + n < 2 ^ 64
  room_for m0 m1 a0 a1 h0 h1 number gap words all rest behind n next way few =
      let split : entries all ≡ entries way.done ++ entries rest = ap entries way.split ∙ entries-append way.done rest in
      omega (
        arith,
        few,
        way.number_is,
        length-entries all,
        ap length split,
        length-append (entries way.done) (entries rest),
        ap (λ l. length (entries l)) next,
        length-append (entries_of_one (gap, words)) (entries behind),
        length-entries_of_one (gap, words),
      )

  module _ (m0 m1 m2 : MachineForm) (a0 a1 a2 : A) (h0 h1 h2 : Option (List ℕ)) (number gap : ℕ) (words : List ℕ) (all rest behind : List (ℕ × List ℕ)) where
    -- one more
    pub underway_more : IsNext rest (Some gap) words behind → Underway bytes after hash m0 m1 a0 a1 h0 h1 number all rest
        → ClockedOver bytes after hash m1 m2 a1 a2 h1 h2 number (idles gap ++ Some words ∷ []) → Underway bytes after hash m0 m2 a0 a2 h0 h2 (number + (gap + 1)) all behind
    underway_more next way second =
        let whole : entries (way.done ++ (gap, words) ∷ []) ≡ entries way.done ++ entries_of_one (gap, words) =
        entries-append way.done ((gap, words) ∷ []) ∙ ap (λ l. entries way.done ++ l) (append-nil (entries_of_one (gap, words))) in
        record {
          done = way.done ++ (gap, words) ∷ [];
          split = way.split ∙ ap (λ l. way.done ++ l) next ∙ sym (append_assoc way.done ((gap, words) ∷ []) behind);
          number_is = omega (arith, way.number_is, ap length whole, length-append (entries way.done) (entries_of_one (gap, words)), length-entries_of_one (gap, words));
          clocked =
              subst (λ (l : List Entry). ClockedOver bytes after hash m0 m2 a0 a2 h0 h2 0 l) (sym whole)
              (clocked_then bytes after hash m0 m1 m2 a0 a1 a2 h0 h1 h2 0 number (entries way.done) (entries_of_one (gap, words)) (from_zero way.number_is) way.clocked second);
        }

    -- a stop in it, with the drain still to come
    pub underway_stop : (p : PartsForm) → IsNext rest (Some gap) words behind → Underway bytes after hash m0 m1 a0 a1 h0 h1 number all rest
        → StoppedIn bytes after hash m1 m2 a1 h1 h2 number (idles gap ++ Some words ∷ []) → StoppedIn bytes after hash m0 m2 a0 h0 h2 0 (entries all ++ drain p)
    underway_stop p next way stop =
        let split : entries all ≡ entries way.done ++ (entries_of_one (gap, words) ++ entries behind) =
        ap entries way.split ∙ entries-append way.done rest ∙ ap (λ l. entries way.done ++ entries l) next in
        subst (λ (l : List Entry). StoppedIn bytes after hash m0 m2 a0 h0 h2 0 (l ++ drain p)) (sym split)
        (stopped_before bytes after hash m0 m2 a0 h0 h2 0 (entries way.done ++ (entries_of_one (gap, words) ++ entries behind)) (drain p)
        (stopped_then bytes after hash m0 m1 m2 a0 a1 a2 h0 h1 h2 0 number (entries way.done) (entries_of_one (gap, words) ++ entries behind) (from_zero way.number_is) way.clocked
        (stopped_before bytes after hash m1 m2 a1 h1 h2 number (entries_of_one (gap, words)) (entries behind) stop)))

  entries_done : (m0 m1 : MachineForm) (a0 a1 : A) (h0 h1 : Option (List ℕ)) (number : ℕ) (words : List ℕ) (all rest behind : List (ℕ × List ℕ)) → IsNext rest None words behind
      → (way : Underway bytes after hash m0 m1 a0 a1 h0 h1 number all rest) → entries all ≡ entries way.done
  entries_done m0 m1 a0 a1 h0 h1 number words all rest behind none way = ap entries (way.split ∙ ap (λ l. way.done ++ l) none ∙ append-nil way.done)

  module _ (m0 m1 m2 : MachineForm) (a0 a1 a2 : A) (h0 h1 h2 : Option (List ℕ)) (number : ℕ) (words : List ℕ) (all rest behind : List (ℕ × List ℕ)) (p : PartsForm) where
    -- all of them, and the drain
    pub underway_drained : IsNext rest None words behind → Underway bytes after hash m0 m1 a0 a1 h0 h1 number all rest → ClockedOver bytes after hash m1 m2 a1 a2 h1 h2 number (drain p)
        → ClockedOver bytes after hash m0 m2 a0 a2 h0 h2 0 (entries all ++ drain p)
    underway_drained none way second =
        subst (λ (l : List Entry). ClockedOver bytes after hash m0 m2 a0 a2 h0 h2 0 (l ++ drain p)) (sym (entries_done m0 m1 a0 a1 h0 h1 number words all rest behind none way))
        (clocked_then bytes after hash m0 m1 m2 a0 a1 a2 h0 h1 h2 0 number (entries way.done) (drain p) (from_zero way.number_is) way.clocked second)

    -- a stop in the drain
    pub drain_stop : IsNext rest None words behind → Underway bytes after hash m0 m1 a0 a1 h0 h1 number all rest → StoppedIn bytes after hash m1 m2 a1 h1 h2 number (drain p)
        → StoppedIn bytes after hash m0 m2 a0 h0 h2 0 (entries all ++ drain p)
    drain_stop none way stop =
        subst (λ (l : List Entry). StoppedIn bytes after hash m0 m2 a0 h0 h2 0 (l ++ drain p)) (sym (entries_done m0 m1 a0 a1 h0 h1 number words all rest behind none way))
        (stopped_then bytes after hash m0 m1 m2 a0 a1 a2 h0 h1 h2 0 number (entries way.done) (drain p) (from_zero way.number_is) way.clocked stop)

  -- and their number
  pub cycles_drained : (m0 m1 : MachineForm) (a0 a1 : A) (h0 h1 : Option (List ℕ)) (number : ℕ) (words : List ℕ) (all rest behind : List (ℕ × List ℕ)) (p : PartsForm) (depth : ℕ) → depth ≡ length p.stages → IsNext rest None words behind → Underway bytes after hash m0 m1 a0 a1 h0 h1 number all rest → number + depth ≡ length (entries all ++ drain p)
  cycles_drained m0 m1 a0 a1 h0 h1 number words all rest behind p depth depth_is none way =
      omega (arith, way.number_is, ap length (entries_done m0 m1 a0 a1 h0 h1 number words all rest behind none way), length-append (entries all) (drain p), length-replicate {A = Entry} (length p.stages) None, depth_is)

  pub drain_fits : (m0 m1 : MachineForm) (a0 a1 : A) (h0 h1 : Option (List ℕ)) (number : ℕ) (words : List ℕ) (all rest behind : List (ℕ × List ℕ)) (p : PartsForm) (depth : ℕ) → depth ≡ length p.stages → IsNext rest None words behind → Underway bytes after hash m0 m1 a0 a1 h0 h1 number all rest → cycles_of all + length p.stages < 2 ^ 64 → number + depth < 2 ^ 64
  drain_fits m0 m1 a0 a1 h0 h1 number words all rest behind p depth depth_is none way few = omega (arith, few, way.number_is, ap length (entries_done m0 m1 a0 a1 h0 h1 number words all rest behind none way), length-entries all, depth_is)

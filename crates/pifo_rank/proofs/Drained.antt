-- Behind a drain nothing leaves.
use Rattle.std.proofs.Common.{◌≡◌, ℕ, zero, suc, ◌+◌, ◌<◌, take, None, Some, List, [], ◌∷◌, ◌++◌, length, replicate, get_or, refl, sym, ◌∙◌, ap, arith, append_assoc}
use Rattle.std.proofs.Math.Seq.{get_or-append_seam}
use Rattle.std.proofs.lemmas.List.{length_push, replicate-append-replicate}
use Rattle.dom_words.specs.State.{Hash, Outcome, started}
use Rattle.pipeline_law.specs.Pipeline.{Row}
use Rattle.pipeline_law.specs.Stage.{results}
use Rattle.banzai_config.specs.Action.{Arrays, Entry, acts, outcome_of}
use Rattle.banzai_config.specs.Parts.{PartsForm, StageForm}
use Rattle.banzai_machine.specs.Alone.{entries_alone}
use Rattle.banzai_machine.specs.Own.{OwnArrays}
use Rattle.banzai_machine.specs.Pipe.{cycle_with, drain, emitted, leaves_with, pipe, shown}
use Rattle.banzai_machine.proofs.Cycle.{emitted_more}
use Rattle.banzai_machine.proofs.Moments.{pipe_alone}
use Rattle.pifo_rank.specs.Serves.{AreEmpty}

same_last : {X : Type 0} (xs ys : List X) (x y : X) → (xs ++ x ∷ []) ≡ (ys ++ y ∷ []) → x ≡ y
same_last xs ys x y is =
    let size : length xs ≡ length ys = omega (arith, ap length is, length_push xs x, length_push ys y) in
    sym (get_or-append_seam xs x [] x)
    ∙ ap (λ l. get_or l (length xs) x) is
    ∙ ap (λ n. get_or (ys ++ y ∷ []) n x) size
    ∙ get_or-append_seam ys y [] x

taken_idle : (n : ℕ) (xs : List Entry) (j : ℕ) → get_or xs j None ≡ None → get_or (take n xs) j None ≡ None
taken_idle zero xs j none = refl
taken_idle (suc n) [] j none = refl
taken_idle (suc n) (x ∷ xs) zero none = none
taken_idle (suc n) (x ∷ xs) (suc j) none = taken_idle n xs j none

module _ (hash : Hash) (p : PartsForm) where
  alone_idle : (arrays : Arrays) (entries : List Entry) → entries_alone hash p arrays (entries ++ None ∷ []) ≡ entries_alone hash p arrays entries ++ None ∷ []
  alone_idle arrays [] = refl
  alone_idle arrays (None ∷ entries) = ap (λ (l : List Entry). None ∷ l) (alone_idle arrays entries)
  alone_idle arrays (Some packet ∷ entries) =
      let one : Outcome = outcome_of hash p arrays packet in
      ap (λ (l : List Entry). Some one.packet ∷ l) (alone_idle one.arrays entries)

  -- one idle cycle more before the drain is one more behind it
  idle_before : (entries : List Entry) (d k : ℕ)
      → ((entries ++ (replicate {A = Entry} d None ++ replicate k None)) ++ None ∷ []) ≡ (((entries ++ replicate k None) ++ None ∷ []) ++ replicate d None)
  idle_before entries d k =
      let front : (replicate {A = Entry} d None ++ replicate k None) ++ None ∷ [] ≡ replicate (d + k + 1) None =
      ap (λ (l : List Entry). l ++ None ∷ []) (replicate-append-replicate d k None) ∙ replicate-append-replicate (d + k) 1 None in
      let back : (replicate {A = Entry} k None ++ None ∷ []) ++ replicate d None ≡ replicate (k + 1 + d) None =
      ap (λ (l : List Entry). l ++ replicate d None) (replicate-append-replicate k 1 None) ∙ replicate-append-replicate (k + 1) d None in
      let as_many : d + k + 1 ≡ k + 1 + d = omega arith in
      append_assoc entries (replicate d None ++ replicate k None) (None ∷ [])
      ∙ ap (λ (l : List Entry). entries ++ l) (front ∙ ap (λ (n : ℕ). replicate {A = Entry} n None) as_many ∙ sym back)
      ∙ sym (append_assoc entries (replicate k None ++ None ∷ []) (replicate d None))
      ∙ ap (λ (l : List Entry). l ++ replicate d None) (sym (append_assoc entries (replicate k None) (None ∷ [])))

  pub nothing_leaves : OwnArrays p.stages → (entries : List Entry) (more : ℕ)
      → leaves_with hash p (pipe hash p (entries ++ (drain p ++ replicate more None))) None ≡ None
  nothing_leaves owns entries more =
      let all : List Entry = entries ++ (drain p ++ replicate more None) in
      let before : List Entry = entries ++ replicate more None in
      let alone : List Entry = entries_alone hash p (started p.arrays) before in
      same_last (emitted hash p all) (drain p ++ alone) (leaves_with hash p (pipe hash p all) None) None
      (sym (emitted_more hash p all None)
      ∙ ap (λ (l : List Entry). emitted hash p l) (idle_before entries (length p.stages) more)
      ∙ (pipe_alone hash p owns (before ++ None ∷ [])).cycles
      ∙ ap (λ (l : List Entry). drain p ++ l) (alone_idle (started p.arrays) before)
      ∙ sym (append_assoc (drain p) alone (None ∷ [])))

  results_idle : (ss : List StageForm) (rs : List Entry) (arrays : Arrays) (j : ℕ) → get_or rs j None ≡ None → get_or (results (acts hash) ss rs arrays) j None ≡ None
  results_idle [] rs arrays j none = refl
  results_idle (s ∷ ss) [] arrays j none = refl
  results_idle (s ∷ ss) (r ∷ rs) arrays zero none = ap (λ (e : Entry). (acts hash s arrays e).1) none
  results_idle (s ∷ ss) (r ∷ rs) arrays (suc j) none = results_idle ss rs arrays j none

  -- an idle cycle leaves one register more without a packet
  pub empty_step : (row : Row Arrays Entry) (k : ℕ) → AreEmpty k row.registers → AreEmpty (k + 1) (cycle_with hash p row None).registers
  empty_step row k empty zero low = taken_idle (length p.stages) (None ∷ results (acts hash) p.stages row.registers row.state) zero refl
  empty_step row k empty (suc j) low =
      let less : j < k = omega arith in
      taken_idle (length p.stages) (None ∷ results (acts hash) p.stages row.registers row.state) (suc j) (results_idle p.stages row.registers row.state j (empty j less))

  pub empty_leaves : (row : Row Arrays Entry) → AreEmpty (length p.stages) row.registers → leaves_with hash p row None ≡ None
  empty_leaves row empty = ap (λ (e : Entry). shown p e) (behind (length p.stages) empty)
    where
      behind : (n : ℕ) → AreEmpty n row.registers → get_or (None ∷ results (acts hash) p.stages row.registers row.state) n None ≡ None
      behind zero is = refl
      behind (suc n) is =
          let less : n < suc n = omega arith in
          results_idle p.stages row.registers row.state n (is n less)

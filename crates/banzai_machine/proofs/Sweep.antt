-- One more stage of a cycle.
use Rattle.std.proofs.Common.{◌≡◌, ℕ, zero, suc, ◌≤◌, Some, List, [], ◌∷◌, ◌++◌, length, take, slice_get, refl, sym, ◌∙◌, ap, ◌≢◌, arith, append_assoc, append-nil}
use Rattle.std.specs.List.{flat_map, AllByRecursion as Every}
use Rattle.dom_words.specs.State.{Hash, array_of}
use Rattle.banzai_config.specs.Action.{Arrays, Entry, Write, acts, store}
use Rattle.banzai_config.specs.Named.{stage_arrays}
use Rattle.banzai_config.specs.Parts.{StageForm}
use Rattle.banzai_machine.specs.Own.{OwnArrays}
use Rattle.banzai_machine.specs.Pipe.{clocked, cycle_writes, own, writes_before}
use Rattle.banzai_machine.proofs.Apart.{acts-state, local_out, writes_before-same}
use Rattle.banzai_machine.proofs.Every.{Every-flat, Every-weaker, map_same}
use Rattle.banzai_machine.proofs.Shares.{other-cycle}
use Rattle.banzai_machine.proofs.Steps.{distinct_at, take_full}
use Rattle.banzai_machine.proofs.Store.{store-append, store-other}

pub cycle_writes_step : (ss : List StageForm) (rs : List Entry) (a : Arrays) (k : ℕ) (s : StageForm) (r : Entry) → slice_get ss k ≡ Some s → slice_get rs k ≡ Some r
    → cycle_writes (take (suc k) ss) (take (suc k) rs) a ≡ cycle_writes (take k ss) (take k rs) a ++ writes_before s a r
cycle_writes_step [] rs a k s r p q = cc
cycle_writes_step (t ∷ ss) [] a k s r p q = cc
cycle_writes_step (t ∷ ss) (x ∷ rs) a zero s r p q =
    let one : t ≡ s = cc in
    let two : x ≡ r = cc in
    rw (one, two) (append-nil (writes_before s a r))
cycle_writes_step (t ∷ ss) (x ∷ rs) a (suc k) s r p q =
    rw (cycle_writes_step ss rs a k s r p q) (sym (append_assoc (writes_before t a x) (cycle_writes (take k ss) (take k rs) a) (writes_before s a r)))

cycle_writes_all : (ss : List StageForm) (rs : List Entry) (a : Arrays) → cycle_writes ss (take (length ss) rs) a ≡ cycle_writes ss rs a
cycle_writes_all [] rs a = refl
cycle_writes_all (t ∷ ss) [] a = refl
cycle_writes_all (t ∷ ss) (x ∷ rs) a = ap (λ (z : List Write). writes_before t a x ++ z) (cycle_writes_all ss rs a)

pub state_all : (ss : List StageForm) (rs : List Entry) (old now : Arrays) (k : ℕ)
    → k ≡ length ss → now ≡ store (cycle_writes (take k ss) (take k rs) old) old → now ≡ clocked ss rs old
state_all ss rs old now k end is =
    let few : length ss ≤ k = omega arith in
    let cut : cycle_writes (take k ss) (take k rs) old ≡ cycle_writes ss rs old =
    ap (λ (z : List StageForm). cycle_writes z (take k rs) old) (take_full ss k few)
    ∙ ap (λ (j : ℕ). cycle_writes ss (take j rs) old) end
    ∙ cycle_writes_all ss rs old in
    is ∙ ap (λ (ws : List Write). store ws old) cut

module _ (hash : Hash) (ss : List StageForm) (rs : List Entry) (old now : Arrays) (k : ℕ) (s : StageForm) (r : Entry) where
  -- when its turn comes, a stage's arrays are as they were
  pub unchanged : OwnArrays ss → slice_get ss k ≡ Some s → now ≡ store (cycle_writes (take k ss) (take k rs) old) old → own s now ≡ own s old
  unchanged apart at is =
      map_same (λ j. array_of now j) (λ j. array_of old j) (stage_arrays s)
      (Every-weaker (λ j. Every (λ i. i ≢ j) (flat_map stage_arrays (take k ss))) (λ j. array_of now j ≡ array_of old j)
      (λ j h. rw is (store-other (cycle_writes (take k ss) (take k rs) old) old j (other-cycle (take k ss) (take k rs) old j (Every-flat (λ i. i ≢ j) stage_arrays (take k ss) h))))
      (stage_arrays s) (distinct_at stage_arrays ss k s apart at))

  pub step_state : OwnArrays ss → slice_get ss k ≡ Some s → slice_get rs k ≡ Some r → now ≡ store (cycle_writes (take k ss) (take k rs) old) old
      → (acts hash s now r).0 ≡ store (cycle_writes (take (suc k) ss) (take (suc k) rs) old) old
  step_state apart at reg is =
      let same : writes_before s now r ≡ writes_before s old r = writes_before-same hash s now old r (unchanged apart at is) in
      rw (acts-state hash s now r, cycle_writes_step ss rs old k s r at reg, store-append (cycle_writes (take k ss) (take k rs) old) (writes_before s old r) old, same, ← is) refl

  pub step_out : OwnArrays ss → slice_get ss k ≡ Some s → now ≡ store (cycle_writes (take k ss) (take k rs) old) old
      → (acts hash s now r).1 ≡ (acts hash s old r).1
  step_out apart at is = local_out hash s now old r (unchanged apart at is)

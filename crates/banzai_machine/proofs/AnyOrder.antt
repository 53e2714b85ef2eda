-- Every order of a cycle's atoms gives what all atoms give at once.
use Rattle.std.proofs.Common.{◌≡◌, ℕ, zero, suc, ◌≤◌, Some, None, List, [], ◌∷◌, ◌++◌, length, map, get_or, set, refl, sym, ◌∙◌, ap, ◌≢◌, inl, inr, arith, append_assoc, length-append}
use Rattle.std.specs.List.{flat_map, AllByRecursion as Every}
use Rattle.dom_words.specs.State.{Hash, array_of}
use Rattle.pipeline_law.specs.Order.{AllCommute, Commute, DoesCycle, IsOrder, runs}
use Rattle.pipeline_law.specs.Pipeline.{Midst, Row}
use Rattle.pipeline_law.specs.Stage.{results}
use Rattle.pipeline_law.proofs.Theorems.{any_cycle}
use Rattle.banzai_config.specs.Action.{Arrays, Entry, Write, Export, store, put, atom_writes, atom_exports, stage_exports, acts}
use Rattle.banzai_config.specs.Named.{arrays_of, stage_arrays, targets_of}
use Rattle.banzai_config.specs.Parts.{Atom, PartsForm, StageForm, atoms_of}
use Rattle.banzai_machine.specs.Fired.{Firing, IsFired, firings_from, put_into, fired_on, fire}
use Rattle.banzai_machine.specs.Own.{AreDistinct, OwnArrays, OwnContainers}
use Rattle.banzai_machine.specs.Pipe.{cycle_writes, entered, pipeline, shown}
use Rattle.banzai_machine.proofs.Every.{Every-append, Every-left, Every-right, Every-weaker, Every-always, Every-swap, Every-flat, distinct_left, distinct_right}
use Rattle.banzai_machine.proofs.Store.{Agree, store-append, store-other, atom_writes-same, atom_exports-same}
use Rattle.banzai_machine.proofs.Commute.{Disjoint, commute, writes_to}

-- the first part of a list without repetition
pub distinct_first : (xs ys : List ℕ) → AreDistinct (xs ++ ys) → AreDistinct xs
distinct_first [] ys p = tt
distinct_first (x ∷ xs) ys p = (Every-left (λ y. x ≢ y) xs ys p.0, distinct_first xs ys p.1)

pub put-append : (xs ys : List Export) (words : List ℕ) → put (xs ++ ys) words ≡ put ys (put xs words)
put-append [] ys words = refl
put-append (x ∷ xs) ys words = put-append xs ys (set words x.to x.word)

-- a list of numbers and those of many items
disjoint_flat : {X : Type 0} (f : X → List ℕ) (ns : List ℕ) (xs : List X) → Disjoint ns (flat_map f xs) → Every (λ x. Disjoint ns (f x)) xs
disjoint_flat f ns xs p =
    Every-weaker (λ x. Every (λ j. Every (λ i. i ≢ j) ns) (f x)) (λ x. Disjoint ns (f x)) (λ x h. Every-swap (λ j i. i ≢ j) (f x) ns h) xs
    (Every-flat (λ j. Every (λ i. i ≢ j) ns) f xs (Every-swap (λ i j. i ≢ j) ns (flat_map f xs) p))

apart_head : {X : Type 0} (f : X → List ℕ) (x : X) (xs : List X) → AreDistinct (flat_map f (x ∷ xs)) → Every (λ y. Disjoint (f x) (f y)) xs
apart_head f x xs p = disjoint_flat f (f x) xs (distinct_left (f x) (flat_map f xs) p)

Every-map : {X Y : Type 0} (P : Y → Type 0) (f : X → Y) (xs : List X) → Every (λ x. P (f x)) xs → Every P (map f xs)
Every-map P f [] p = tt
Every-map P f (x ∷ xs) p = (p.0, Every-map P f xs p.1)

Every-both : {X : Type 0} (P Q R : X → Type 0) → ((x : X) → P x → Q x → R x) → (xs : List X) → Every P xs → Every Q xs → Every R xs
Every-both P Q R f [] p q = tt
Every-both P Q R f (x ∷ xs) p q = (f x p.0 q.0, Every-both P Q R f xs p.1 q.1)

AllCommute-append : {X M : Type 0} (step : X → M → M) (xs ys : List X) → AllCommute step xs → AllCommute step ys → Every (λ x. Every (λ y. Commute step x y) ys) xs → AllCommute step (xs ++ ys)
AllCommute-append step [] ys p q r = q
AllCommute-append step (x ∷ xs) ys p q r = (Every-append (λ y. Commute step x y) xs ys p.0 r.0, AllCommute-append step xs ys p.1 q r.1)

pub runs-append : {X M : Type 0} (step : X → M → M) (xs ys : List X) (m : M) → runs step (xs ++ ys) m ≡ runs step ys (runs step xs m)
runs-append step [] ys m = refl
runs-append step (x ∷ xs) ys m = runs-append step xs ys (step x m)

set_seam : {X : Type 0} (pre : List X) (x y : X) (rest : List X) (k : ℕ) → length pre ≡ k → set (pre ++ x ∷ rest) k y ≡ pre ++ y ∷ rest
set_seam [] x y rest zero e = refl
set_seam [] x y rest (suc k) e = absurd (omega (arith, e))
set_seam (z ∷ pre) x y rest zero e = absurd (omega (arith, e))
set_seam (z ∷ pre) x y rest (suc k) e =
    let same : length pre ≡ k = omega (arith, e) in
    ap (λ zs. z ∷ zs) (set_seam pre x y rest k same)

get_seam : {X : Type 0} (pre : List X) (x : X) (rest : List X) (d : X) (k : ℕ) → length pre ≡ k → get_or (pre ++ x ∷ rest) k d ≡ x
get_seam [] x rest d zero e = refl
get_seam [] x rest d (suc k) e = absurd (omega (arith, e))
get_seam (z ∷ pre) x rest d zero e = absurd (omega (arith, e))
get_seam (z ∷ pre) x rest d (suc k) e =
    let same : length pre ≡ k = omega (arith, e) in
    get_seam pre x rest d k same

module _ (hash : Hash) (registers : List Entry) where
  abbrev at : ℕ → Atom → Firing
  at k atom = record { stage = k; atom = atom }

  -- the atoms of one stage
  stage_commutes : (k : ℕ) (xs : List (Atom)) → AreDistinct (flat_map arrays_of xs) → AreDistinct (flat_map targets_of xs) → AllCommute (fire hash registers) (map (λ a. at k a) xs)
  stage_commutes k [] p q = tt
  stage_commutes k (x ∷ xs) p q = (
    Every-map (λ f. Commute (fire hash registers) (at k x) f) (λ a. at k a) xs
        (Every-both (λ y. Disjoint (arrays_of x) (arrays_of y)) (λ y. Disjoint (targets_of x) (targets_of y)) (λ y. Commute (fire hash registers) (at k x) (at k y))
        (λ y d e. commute hash registers (at k x) (at k y) (record { owned = d; places = inr e }))
        xs (apart_head arrays_of x xs p) (apart_head targets_of x xs q)),
    stage_commutes k xs (distinct_right (arrays_of x) (flat_map arrays_of xs) p) (distinct_right (targets_of x) (flat_map targets_of xs) q),
  )

  -- what holds of each atom of each later stage
  later : (Q : Firing → Type 0) (k : ℕ) (ss : List StageForm) (rs : List Entry)
      → ((j : ℕ) → k ≤ j → Every (λ s. Every (λ a. Q (at j a)) (atoms_of s)) ss) → Every Q (firings_from k ss rs)
  later Q k [] rs p = tt
  later Q k (s ∷ ss) [] p = tt
  later Q k (s ∷ ss) (None ∷ rs) p = later Q (suc k) ss rs (λ j le. (p j (omega arith)).1)
  later Q k (s ∷ ss) (Some w ∷ rs) p =
      Every-append Q (map (λ a. at k a) (atoms_of s)) (firings_from (suc k) ss rs)
      (Every-map Q (λ a. at k a) (atoms_of s) (p k (omega arith)).0)
      (later Q (suc k) ss rs (λ j le. (p j (omega arith)).1))

  across : (k : ℕ) (s : StageForm) (ss : List StageForm) (rs : List Entry) → Every (λ t. Disjoint (stage_arrays s) (stage_arrays t)) ss
      → Every (λ f. Every (λ h. Commute (fire hash registers) f h) (firings_from (suc k) ss rs)) (map (λ a. at k a) (atoms_of s))
  across k s ss rs p =
      Every-map (λ f. Every (λ h. Commute (fire hash registers) f h) (firings_from (suc k) ss rs)) (λ a. at k a) (atoms_of s)
      (Every-weaker (λ x. Every (λ t. Disjoint (arrays_of x) (stage_arrays t)) ss) (λ x. Every (λ h. Commute (fire hash registers) (at k x) h) (firings_from (suc k) ss rs))
      (λ x d. later (λ h. Commute (fire hash registers) (at k x) h) (suc k) ss rs (λ j le.
      Every-weaker (λ t. Disjoint (arrays_of x) (stage_arrays t)) (λ t. Every (λ a. Commute (fire hash registers) (at k x) (at j a)) (atoms_of t))
      (λ t e. Every-weaker (λ a. Disjoint (arrays_of x) (arrays_of a)) (λ a. Commute (fire hash registers) (at k x) (at j a))
      (λ a q. commute hash registers (at k x) (at j a) (record { owned = q; places = inl (λ is. absurd (omega (arith, is, le))) }))
      (atoms_of t) (disjoint_flat arrays_of (arrays_of x) (atoms_of t) e))
      ss d))
      (atoms_of s)
      (Every-swap (λ t x. Disjoint (arrays_of x) (stage_arrays t)) ss (atoms_of s)
      (Every-weaker (λ t. Disjoint (stage_arrays s) (stage_arrays t)) (λ t. Every (λ x. Disjoint (arrays_of x) (stage_arrays t)) (atoms_of s))
      (λ t e. Every-flat (λ i. Every (λ j. i ≢ j) (stage_arrays t)) arrays_of (atoms_of s) e) ss p)))

  pub all_commute : (k : ℕ) (ss : List StageForm) (rs : List Entry) → AreDistinct (flat_map stage_arrays ss) → OwnContainers ss → AllCommute (fire hash registers) (firings_from k ss rs)
  all_commute k [] rs p q = tt
  all_commute k (s ∷ ss) [] p q = tt
  all_commute k (s ∷ ss) (None ∷ rs) p q = all_commute (suc k) ss rs (distinct_right (stage_arrays s) (flat_map stage_arrays ss) p) q.1
  all_commute k (s ∷ ss) (Some w ∷ rs) p q =
      AllCommute-append (fire hash registers) (map (λ a. at k a) (atoms_of s)) (firings_from (suc k) ss rs)
      (stage_commutes k (atoms_of s) (distinct_first (stage_arrays s) (flat_map stage_arrays ss) p) q.0)
      (all_commute (suc k) ss rs (distinct_right (stage_arrays s) (flat_map stage_arrays ss) p) q.1)
      (across k s ss rs (apart_head stage_arrays s ss p))

  -- the atoms of one stage, one after another; old: the arrays before the cycle
  stage_run : (k : ℕ) (xs : List (Atom)) (words c : List ℕ) (pre rest : List Entry) (old now : Arrays) → get_or registers k None ≡ Some words → length pre ≡ k
      → Agree now old (flat_map arrays_of xs) → AreDistinct (flat_map arrays_of xs)
      → ◌≡◌ {A = Midst Arrays Entry} (runs (fire hash registers) (map (λ a. at k a) xs) (record { copies = pre ++ Some c ∷ rest; state = now }))
      (record { copies = pre ++ Some (put (flat_map (λ a. atom_exports hash a old words) xs) c) ∷ rest; state = store (flat_map (λ a. atom_writes a old words) xs) now })
  stage_run k [] words c pre rest old now reg long same apart = refl
  stage_run k (x ∷ xs) words c pre rest old now reg long same apart =
      let mine : Agree now old (arrays_of x) = Every-left (λ i. array_of now i ≡ array_of old i) (arrays_of x) (flat_map arrays_of xs) same in
      let others : Agree now old (flat_map arrays_of xs) = Every-right (λ i. array_of now i ≡ array_of old i) (arrays_of x) (flat_map arrays_of xs) same in
      let wx : List Write = atom_writes x old words in
      let ex : List Export = atom_exports hash x old words in
      let next : Arrays = store wx now in
      let still : Agree next old (flat_map arrays_of xs) =
      Every-both (λ i. Every (λ j. j ≢ i) (arrays_of x)) (λ i. array_of now i ≡ array_of old i) (λ i. array_of next i ≡ array_of old i)
      (λ i d e. store-other wx now i (writes_to hash x old words (λ j. j ≢ i) d) ∙ e)
      (flat_map arrays_of xs) (Every-swap (λ j i. j ≢ i) (arrays_of x) (flat_map arrays_of xs) (distinct_left (arrays_of x) (flat_map arrays_of xs) apart)) others in
      let step : ◌≡◌ {A = Midst Arrays Entry} (fire hash registers (at k x) (record { copies = pre ++ Some c ∷ rest; state = now })) (record { copies = pre ++ Some (put ex c) ∷ rest; state = next }) =
      ap (λ (r : Entry). fired_on hash (at k x) (record { copies = pre ++ Some c ∷ rest; state = now }) r) reg
      ∙ ap (λ (es : List Export). record { copies = set (pre ++ Some c ∷ rest) k (put_into es (get_or (pre ++ Some c ∷ rest) k None)); state = store (atom_writes x now words) now }) (atom_exports-same hash x now old words mine)
      ∙ ap (λ (ws : List Write). record { copies = set (pre ++ Some c ∷ rest) k (put_into ex (get_or (pre ++ Some c ∷ rest) k None)); state = store ws now }) (atom_writes-same x now old words mine)
      ∙ ap (λ (e : Entry). record { copies = set (pre ++ Some c ∷ rest) k (put_into ex e); state = next }) (get_seam pre (Some c) rest None k long)
      ∙ ap (λ (cs : List Entry). record { copies = cs; state = next }) (set_seam pre (Some c) (Some (put ex c)) rest k long) in
      ap (λ (m : (Midst Arrays Entry)). runs (fire hash registers) (map (λ a. at k a) xs) m) step
      ∙ stage_run k xs words (put ex c) pre rest old next reg long still (distinct_right (arrays_of x) (flat_map arrays_of xs) apart)
      ∙ ap (λ (w : List ℕ). record { copies = pre ++ Some w ∷ rest; state = store (flat_map (λ a. atom_writes a old words) xs) next }) (sym (put-append ex (flat_map (λ a. atom_exports hash a old words) xs) c))
      ∙ ap (λ (b : Arrays). record { copies = pre ++ Some (put (ex ++ flat_map (λ a. atom_exports hash a old words) xs) c) ∷ rest; state = b }) (sym (store-append wx (flat_map (λ a. atom_writes a old words) xs) now))

  writes_flat : (xs : List (Atom)) (a : Arrays) (words : List ℕ) (Q : ℕ → Type 0) → Every Q (flat_map arrays_of xs) → Every (λ (w : Write). Q w.array) (flat_map (λ x. atom_writes x a words) xs)
  writes_flat [] a words Q p = tt
  writes_flat (x ∷ xs) a words Q p =
      Every-append (λ (w : Write). Q w.array) (atom_writes x a words) (flat_map (λ x. atom_writes x a words) xs)
      (writes_to hash x a words Q (Every-left Q (arrays_of x) (flat_map arrays_of xs) p))
      (writes_flat xs a words Q (Every-right Q (arrays_of x) (flat_map arrays_of xs) p))

  -- all atoms, stage by stage
  all_run : (k : ℕ) (ss : List StageForm) (rs pre done : List Entry) (old now : Arrays) → registers ≡ done ++ rs → length done ≡ k → length pre ≡ k → length rs ≡ length ss
      → Agree now old (flat_map stage_arrays ss) → AreDistinct (flat_map stage_arrays ss)
      → ◌≡◌ {A = Midst Arrays Entry} (runs (fire hash registers) (firings_from k ss rs) (record { copies = pre ++ rs; state = now }))
      (record { copies = pre ++ results (acts hash) ss rs old; state = store (cycle_writes ss rs old) now })
  all_run k [] [] pre done old now reg at' long same agree apart = refl
  all_run k [] (r ∷ rs) pre done old now reg at' long same agree apart = absurd (omega (arith, same))
  all_run k (s ∷ ss) [] pre done old now reg at' long same agree apart = absurd (omega (arith, same))
  all_run k (s ∷ ss) (None ∷ rs) pre done old now reg at' long same agree apart =
      let reg' : registers ≡ (done ++ None ∷ []) ++ rs = reg ∙ sym (append_assoc done (None ∷ []) rs) in
      let a : length (done ++ None ∷ []) ≡ suc k = omega (arith, length-append done (None ∷ []), at') in
      let b : length (pre ++ None ∷ []) ≡ suc k = omega (arith, length-append pre (None ∷ []), long) in
      let less : length rs ≡ length ss = omega (arith, same) in
      ap (λ (cs : List Entry). runs (fire hash registers) (firings_from (suc k) ss rs) (record { copies = cs; state = now })) (sym (append_assoc pre (None ∷ []) rs))
      ∙ all_run (suc k) ss rs (pre ++ None ∷ []) (done ++ None ∷ []) old now reg' a b less
      (Every-right (λ i. array_of now i ≡ array_of old i) (stage_arrays s) (flat_map stage_arrays ss) agree) (distinct_right (stage_arrays s) (flat_map stage_arrays ss) apart)
      ∙ ap (λ (cs : List Entry). record { copies = cs; state = store (cycle_writes ss rs old) now }) (append_assoc pre (None ∷ []) (results (acts hash) ss rs old))
  all_run k (s ∷ ss) (Some w ∷ rs) pre done old now reg at' long same agree apart =
      let reg' : registers ≡ (done ++ Some w ∷ []) ++ rs = reg ∙ sym (append_assoc done (Some w ∷ []) rs) in
      let out : List ℕ = put (stage_exports hash s old w) w in
      let a : length (done ++ Some w ∷ []) ≡ suc k = omega (arith, length-append done (Some w ∷ []), at') in
      let b : length (pre ++ Some out ∷ []) ≡ suc k = omega (arith, length-append pre (Some out ∷ []), long) in
      let less : length rs ≡ length ss = omega (arith, same) in
      let mine : Agree now old (stage_arrays s) = Every-left (λ i. array_of now i ≡ array_of old i) (stage_arrays s) (flat_map stage_arrays ss) agree in
      let others : Agree now old (flat_map stage_arrays ss) = Every-right (λ i. array_of now i ≡ array_of old i) (stage_arrays s) (flat_map stage_arrays ss) agree in
      let ws : List Write = flat_map (λ x. atom_writes x old w) (atoms_of s) in
      let next : Arrays = store ws now in
      let still : Agree next old (flat_map stage_arrays ss) =
      Every-both (λ i. Every (λ j. j ≢ i) (stage_arrays s)) (λ i. array_of now i ≡ array_of old i) (λ i. array_of next i ≡ array_of old i)
      (λ i d e. store-other ws now i (writes_flat (atoms_of s) old w (λ j. j ≢ i) d) ∙ e)
      (flat_map stage_arrays ss) (Every-swap (λ j i. j ≢ i) (stage_arrays s) (flat_map stage_arrays ss) (distinct_left (stage_arrays s) (flat_map stage_arrays ss) apart)) others in
      let here : get_or registers k None ≡ Some w = ap (λ (z : List Entry). get_or z k None) reg ∙ get_seam done (Some w) rs None k at' in
      let stage : ◌≡◌ {A = Midst Arrays Entry} (runs (fire hash registers) (map (λ x. at k x) (atoms_of s)) (record { copies = pre ++ Some w ∷ rs; state = now })) (record { copies = (pre ++ Some out ∷ []) ++ rs; state = next }) =
      stage_run k (atoms_of s) w w pre rs old now here long mine (distinct_first (stage_arrays s) (flat_map stage_arrays ss) apart)
      ∙ ap (λ (cs : List Entry). record { copies = cs; state = next }) (sym (append_assoc pre (Some out ∷ []) rs)) in
      runs-append (fire hash registers) (map (λ x. at k x) (atoms_of s)) (firings_from (suc k) ss rs) (record { copies = pre ++ Some w ∷ rs; state = now })
      ∙ ap (λ (m : (Midst Arrays Entry)). runs (fire hash registers) (firings_from (suc k) ss rs) m) stage
      ∙ all_run (suc k) ss rs (pre ++ Some out ∷ []) (done ++ Some w ∷ []) old next reg' a b less still (distinct_right (stage_arrays s) (flat_map stage_arrays ss) apart)
      ∙ ap (λ (cs : List Entry). record { copies = cs; state = store (cycle_writes ss rs old) next }) (append_assoc pre (Some out ∷ []) (results (acts hash) ss rs old))
      ∙ ap (λ (z : Arrays). record { copies = pre ++ Some out ∷ results (acts hash) ss rs old; state = z })
      (sym (store-append ws (cycle_writes ss rs old) now))

module _ (hash : Hash) (p : PartsForm) where
  pub any_order : (row : Row Arrays Entry) (entry : Entry) (order : List Firing) → OwnArrays p.stages → OwnContainers p.stages → length row.registers ≡ length p.stages
      → IsOrder order (firings_from 0 p.stages row.registers) → IsFired hash p row entry order
  any_order row entry order owns targets same is =
      let does : DoesCycle (pipeline hash p) (fire hash row.registers) (firings_from 0 p.stages row.registers) row =
      all_run hash row.registers 0 p.stages row.registers [] [] row.state row.state refl refl refl same (Every-always (λ i. array_of row.state i ≡ array_of row.state i) (λ i. refl) (flat_map stage_arrays p.stages)) owns in
      let cycle = any_cycle (pipeline hash p) (fire hash row.registers) (firings_from 0 p.stages row.registers) order row (entered p entry) (all_commute hash row.registers 0 p.stages row.registers owns targets) does is in
      record { row_is = cycle.row_is; leaves = ap (λ (e : Entry). shown p e) cycle.leaves }

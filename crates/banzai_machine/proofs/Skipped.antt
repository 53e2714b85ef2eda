-- Stages without atoms may be left out of a cycle.
use Rattle.std.proofs.Common.{◌≡◌, ℕ, zero, suc, ◌+◌, ◌<◌, ◌≤◌, Bool, true, false, Some, None, List, [], ◌∷◌, ◌++◌, length, map, take, drop, get_or, slice_get, refl, sym, ◌∙◌, ap, subst, arith, append-nil}
use Rattle.std.proofs.lemmas.Bool.{ltb-false}
use Rattle.std.specs.List.{flat_map, AllByRecursion as Every}
use Rattle.std.specs.Prelude.{nat_lt, ◌||◌}
use Rattle.dom_words.specs.State.{Hash}
use Rattle.pipeline_law.specs.Stage.{results}
use Rattle.banzai_config.specs.declared.parts.OpAtom.{OpAtom}
use Rattle.banzai_config.specs.Action.{Arrays, Entry, Write, acts, atom_exports, atom_writes, put, store}
use Rattle.banzai_config.specs.Parts.{Atom, AtomForm, Stateful, Stateless, StageForm, atoms_of}
use Rattle.banzai_machine.specs.declared.touch.Touch.{Touch}
use Rattle.banzai_machine.specs.Busy.{busy_from, has_atoms, noted}
use Rattle.banzai_machine.specs.Pipe.{cycle_writes, writes_before}
use Rattle.banzai_machine.specs.Touches.{slots_of, touch_of, touches_before, touches_from}
use Rattle.banzai_machine.proofs.Noted.{first_touches_step}
use Rattle.banzai_machine.proofs.Sweep.{cycle_writes_step}

abbrev pub IsQuiet : StageForm → Type 0
IsQuiet stage = has_atoms stage ≡ false

empty_of : {X : Type 0} (xs : List X) → nat_lt 0 (length xs) ≡ false → xs ≡ []
empty_of [] e = refl
empty_of (x ∷ xs) e = absurd (omega (arith, ltb-false 0 (suc (length xs)) e))

no_left : (a b : Bool) → (a || b) ≡ false → a ≡ false
no_left true b e = e
no_left false b e = refl

no_right : (a b : Bool) → (a || b) ≡ false → b ≡ false
no_right true b e = cc
no_right false b e = e

module _ (s : StageForm) (quiet : IsQuiet s) where
  no_ops : s.stateless ≡ []
  no_ops = empty_of s.stateless (no_left (nat_lt 0 (length s.stateless)) (nat_lt 0 (length s.stateful)) quiet)

  no_fits : s.stateful ≡ []
  no_fits = empty_of s.stateful (no_right (nat_lt 0 (length s.stateless)) (nat_lt 0 (length s.stateful)) quiet)

  no_atoms : atoms_of s ≡ []
  no_atoms =
      ap (λ (xs : List OpAtom). map (λ a. Stateless a) xs ++ map (λ a. Stateful a) s.stateful) no_ops
      ∙ ap (λ (xs : List AtomForm). map (λ a. Stateful a) xs) no_fits

  quiet_touches : (n : ℕ) (a : Arrays) (r : Entry) → touches_before n s a r ≡ []
  quiet_touches n a None = refl
  quiet_touches n a (Some words) = ap (λ (xs : List Atom). flat_map (λ atom. map (touch_of n a words) (slots_of atom)) xs) no_atoms

  quiet_writes : (a : Arrays) (r : Entry) → writes_before s a r ≡ []
  quiet_writes a None = refl
  quiet_writes a (Some words) = ap (λ (xs : List Atom). flat_map (λ atom. atom_writes atom a words) xs) no_atoms

  quiet_out : (hash : Hash) (a : Arrays) (r : Entry) → (acts hash s a r).1 ≡ r
  quiet_out hash a None = refl
  quiet_out hash a (Some words) = ap (λ (xs : List Atom). Some (put (flat_map (λ atom. atom_exports hash atom a words) xs) words)) no_atoms

head_at : {X : Type 0} (xs : List X) (k : ℕ) → k < length xs → (x : X) × (slice_get xs k ≡ Some x) × (drop k xs ≡ x ∷ drop (suc k) xs)
head_at [] k h = absurd (omega arith)
head_at (x ∷ xs) zero h = (x, refl, refl)
head_at (x ∷ xs) (suc k) h =
    let less : k < length xs = omega arith in
    head_at xs k less

noted-append : (b : Bool) (n : ℕ) (xs ys : List ℕ) → noted b n (xs ++ ys) ≡ noted b n xs ++ ys
noted-append true n xs ys = refl
noted-append false n xs ys = refl

results_stay : {A X S : Type 0} (run : S → A → X → A × X) (ss : List S) (rs : List X) (a : A) (k : ℕ) (s : S) (r : X) → slice_get ss k ≡ Some s → slice_get rs k ≡ Some r → (run s a r).1 ≡ r
    → take k (results run ss rs a) ++ drop k rs ≡ take (suc k) (results run ss rs a) ++ drop (suc k) rs
results_stay run [] rs a k s r p q e = cc
results_stay run (t ∷ ss) [] a k s r p q e = cc
results_stay run (t ∷ ss) (x ∷ rs) a zero s r p q e =
    let one : t ≡ s = cc in
    let two : x ≡ r = cc in
    rw (one, two) (ap (λ z. z ∷ rs) (sym e))
results_stay run (t ∷ ss) (x ∷ rs) a (suc k) s r p q e = ap (λ z. (run t a x).1 ∷ z) (results_stay run ss rs a k s r p q e)

module _ (hash : Hash) where
  -- where the first k stages have acted: the arrays, the registers and the touches
  pub record SoFar (ss : List StageForm) (before : List Entry) (old : Arrays) (registers : List Entry) (arrays : Arrays) (touches : List Touch) (k : ℕ) : Type 0 where
    pub stored : arrays ≡ store (cycle_writes (take k ss) (take k before) old) old
    pub passed : registers ≡ take k (results (acts hash) ss before old) ++ drop k before
    pub touched : touches ≡ touches_from 1 (take k ss) (take k before) old

  module _ (ss : List StageForm) (before : List Entry) (old : Arrays) (registers : List Entry) (arrays : Arrays) (touches : List Touch) where
    quiet_step : (k : ℕ) (s : StageForm) (r : Entry) → slice_get ss k ≡ Some s → slice_get before k ≡ Some r → IsQuiet s → SoFar ss before old registers arrays touches k → SoFar ss before old registers arrays touches (suc k)
    quiet_step k s r at reg quiet prev = record {
      stored =
          prev.stored
          ∙ ap (λ (ws : List Write). store ws old)
          (sym (cycle_writes_step ss before old k s r at reg
          ∙ ap (λ (z : List Write). cycle_writes (take k ss) (take k before) old ++ z) (quiet_writes s quiet old r)
          ∙ append-nil (cycle_writes (take k ss) (take k before) old)));
      passed = prev.passed ∙ results_stay (acts hash) ss before old k s r at reg (quiet_out s quiet hash old r);
      touched =
          prev.touched
          ∙ sym (first_touches_step ss before old k s r at reg
          ∙ ap (λ (z : List Touch). touches_from 1 (take k ss) (take k before) old ++ z) (quiet_touches s quiet (k + 1) old r)
          ∙ append-nil (touches_from 1 (take k ss) (take k before) old));
    }

    -- q: how many stages are left out
    pub skip : (k q n : ℕ) → n ≡ k + q → n ≤ length ss → length before ≡ length ss → Every (λ s. IsQuiet s) (take q (drop k ss)) → SoFar ss before old registers arrays touches k → SoFar ss before old registers arrays touches n
    skip k zero n e h same quiet prev =
        let is : k ≡ n = omega (arith, e) in
        subst (λ (i : ℕ). SoFar ss before old registers arrays touches i) is prev
    skip k (suc q) n e h same quiet prev =
        let few : k < length ss = omega (arith, e) in
        let few' : k < length before = omega (arith, e) in
        let s = head_at ss k few in
        let r = head_at before k few' in
        let cut : Every (λ s. IsQuiet s) (take (suc q) (s.0 ∷ drop (suc k) ss)) = subst (λ (z : List StageForm). Every (λ s. IsQuiet s) (take (suc q) z)) s.2 quiet in
        let n' : n ≡ suc k + q = omega (arith, e) in
        skip (suc k) q n n' h same cut.1 (quiet_step k s.0 r.0 s.1 r.1 cut.0 prev)

-- how many stages are quiet before the first that is busy
abbrev First : ℕ → List StageForm → List ℕ → Type 0
First n ss busy = (q : ℕ) × (get_or busy 0 (n + length ss) ≡ n + q) × (q ≤ length ss) × Every (λ s. IsQuiet s) (take q ss)

first_case : (n : ℕ) (s : StageForm) (ss : List StageForm) (busy : List ℕ) (b : Bool) → has_atoms s ≡ b → First (suc n) ss busy → First n (s ∷ ss) (noted b n busy)
first_case n s ss busy true e f = (0, omega arith, omega arith, tt)
first_case n s ss busy false e f =
    let same : n + suc (length ss) ≡ suc n + length ss = omega arith in
    let more : suc n + f.0 ≡ n + suc f.0 = omega arith in
    let room : suc f.0 ≤ suc (length ss) = omega (arith, f.2) in
    (suc f.0, ap (λ (d : ℕ). get_or busy 0 d) same ∙ f.1 ∙ more, room, (e, f.3))

first_from : (n : ℕ) (ss : List StageForm) → First n ss (busy_from n ss)
first_from n [] = (0, refl, omega arith, tt)
first_from n (s ∷ ss) = first_case n s ss (busy_from (suc n) ss) (has_atoms s) refl (first_from (suc n) ss)

-- a busy stage by its place in the list, and how many quiet ones follow it
abbrev Next : ℕ → List StageForm → List ℕ → ℕ → Type 0
Next n ss busy j = (i : ℕ) × (get_or busy j 0 ≡ n + i) × (i < length ss) × (q : ℕ) × (get_or busy (suc j) (n + length ss) ≡ n + (suc i + q)) × (suc i + q ≤ length ss) × Every (λ s. IsQuiet s) (take q (drop (suc i) ss))

next_more : (n : ℕ) (s : StageForm) (ss : List StageForm) (busy : List ℕ) (j : ℕ) → Next (suc n) ss busy j → (i : ℕ) × (get_or busy j 0 ≡ n + i) × (i < suc (length ss)) × (q : ℕ) × (get_or busy (suc j) (n + suc (length ss)) ≡ n + (suc i + q)) × (suc i + q ≤ suc (length ss)) × Every (λ s. IsQuiet s) (take q (drop (suc i) (s ∷ ss)))
next_more n s ss busy j f =
    let same : n + suc (length ss) ≡ suc n + length ss = omega arith in
    let a : suc n + f.0 ≡ n + suc f.0 = omega arith in
    let b : f.0 < length ss = f.2 in
    let b' : suc f.0 < suc (length ss) = omega (arith, b) in
    let d : suc n + (suc f.0 + f.3) ≡ n + (suc (suc f.0) + f.3) = omega arith in
    let e : suc f.0 + f.3 ≤ length ss = f.5 in
    let e' : suc (suc f.0) + f.3 ≤ suc (length ss) = omega (arith, e) in
    (suc f.0, f.1 ∙ a, b', f.3, ap (λ (m : ℕ). get_or busy (suc j) m) same ∙ f.4 ∙ d, e', f.6)

next_case : (n : ℕ) (s : StageForm) (ss : List StageForm) (busy : List ℕ) (b : Bool) (j : ℕ) → First (suc n) ss busy → ((i : ℕ) → i < length busy → Next (suc n) ss busy i) → j < length (noted b n busy) → Next n (s ∷ ss) (noted b n busy) j
next_case n s ss busy true zero first f h =
    let same : n + suc (length ss) ≡ suc n + length ss = omega arith in
    let a : n ≡ n + 0 = omega arith in
    let d : suc n + first.0 ≡ n + (suc 0 + first.0) = omega arith in
    let r : suc 0 + first.0 ≤ suc (length ss) = omega (arith, first.2) in
    (0, a, omega arith, first.0, ap (λ (m : ℕ). get_or busy 0 m) same ∙ first.1 ∙ d, r, first.3)
next_case n s ss busy true (suc j) first f h =
    let less : j < length busy = omega arith in
    next_more n s ss busy j (f j less)
next_case n s ss busy false j first f h = next_more n s ss busy j (f j h)

next_from : (n : ℕ) (ss : List StageForm) (j : ℕ) → j < length (busy_from n ss) → Next n ss (busy_from n ss) j
next_from n [] j h = absurd (omega arith)
next_from n (s ∷ ss) j h = next_case n s ss (busy_from (suc n) ss) (has_atoms s) j (first_from (suc n) ss) (λ i l. next_from (suc n) ss i l) h

pub first_busy : (ss : List StageForm) → (get_or (busy_from 0 ss) 0 (length ss) ≤ length ss) × Every (λ s. IsQuiet s) (take (get_or (busy_from 0 ss) 0 (length ss)) ss)
first_busy ss =
    let f : First 0 ss (busy_from 0 ss) = first_from 0 ss in
    let none : length ss ≡ 0 + length ss = omega arith in
    let zero_off : 0 + f.0 ≡ f.0 = omega arith in
    let is : get_or (busy_from 0 ss) 0 (length ss) ≡ f.0 = ap (λ (d : ℕ). get_or (busy_from 0 ss) 0 d) none ∙ f.1 ∙ zero_off in
    (omega (arith, is, f.2), subst (λ (q : ℕ). Every (λ s. IsQuiet s) (take q ss)) (sym is) f.3)

pub record After (ss : List StageForm) (now next : ℕ) : Type 0 where
  pub within : now < length ss
  pub skipped : ℕ
  pub is : next ≡ suc now + skipped
  pub room : next ≤ length ss
  pub quiet : Every (λ s. IsQuiet s) (take skipped (drop (suc now) ss))

pub next_busy : (ss : List StageForm) (busy : List ℕ) (j : ℕ) → busy ≡ busy_from 0 ss → j < length busy → After ss (get_or busy j 0) (get_or busy (suc j) (length ss))
next_busy ss busy j same h =
    let h' : j < length (busy_from 0 ss) = subst (λ (z : List ℕ). j < length z) same h in
    let f : Next 0 ss (busy_from 0 ss) j = next_from 0 ss j h' in
    let off : 0 + f.0 ≡ f.0 = omega arith in
    let now : get_or busy j 0 ≡ f.0 = ap (λ (z : List ℕ). get_or z j 0) same ∙ f.1 ∙ off in
    let none : length ss ≡ 0 + length ss = omega arith in
    let off' : 0 + (suc f.0 + f.3) ≡ suc f.0 + f.3 = omega arith in
    let next : get_or busy (suc j) (length ss) ≡ suc f.0 + f.3 =
    ap (λ (z : List ℕ). get_or z (suc j) (length ss)) same ∙ ap (λ (d : ℕ). get_or (busy_from 0 ss) (suc j) d) none ∙ f.4 ∙ off' in
    record {
      within = omega (arith, now, f.2);
      skipped = f.3;
      is = omega (arith, now, next);
      room = omega (arith, next, f.5);
      quiet = subst (λ (i : ℕ). Every (λ s. IsQuiet s) (take f.3 (drop (suc i) ss))) (sym now) f.6;
    }

-- the list is made stage by stage
pub busy_step : (n : ℕ) (ss : List StageForm) (k : ℕ) (s : StageForm) → slice_get ss k ≡ Some s → busy_from n (take (suc k) ss) ≡ busy_from n (take k ss) ++ noted (has_atoms s) (n + k) []
busy_step n [] k s e = cc
busy_step n (t ∷ ss) zero s e =
    let is : t ≡ s = cc in
    let same : n ≡ n + zero = omega arith in
    ap (λ (z : StageForm). noted (has_atoms z) n []) is ∙ ap (λ (m : ℕ). noted (has_atoms s) m []) same
busy_step n (t ∷ ss) (suc k) s e =
    let same : suc n + k ≡ n + suc k = omega arith in
    ap (λ (z : List ℕ). noted (has_atoms t) n z) (busy_step (suc n) ss k s e ∙ ap (λ (m : ℕ). busy_from (suc n) (take k ss) ++ noted (has_atoms s) m []) same)
    ∙ noted-append (has_atoms t) n (busy_from (suc n) (take k ss)) (noted (has_atoms s) (n + suc k) [])

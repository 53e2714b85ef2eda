-- Idle items change nothing, so the law may be read at any cycle, and after the drain of the whole run.
use Rattle.std.proofs.Common.{◌≡◌, ◌<◌, ◌≤◌, ℕ, zero, suc, ◌+◌, ◌-◌, List, [], ◌∷◌, ◌++◌, refl, sym, ◌∙◌, ap as eq_of, take, length, get_or, replicate, arith, append_assoc, append-nil, length-append}
use Rattle.std.proofs.lemmas.List.{length-replicate, replicate-append-replicate}
use Rattle.std.proofs.Math.Seq.{take-append_seam}
use Rattle.pipeline_law.specs.Stage.{through, state_alone, items_alone, SkipsIdle}
use Rattle.pipeline_law.specs.Pipeline.{IsFeedForward, Pipeline, Row, drain, empty_row, piped, left}
use Rattle.pipeline_law.proofs.History.{onto, onto-append, length-onto, onto-join}
use Rattle.pipeline_law.proofs.InFlight.{Holds}
use Rattle.pipeline_law.proofs.Clocked.{past, past-onto, Stands, piped_stands, left_is, holds_at}

-- an idle item goes through any stages as it is
module _ {A X S : Type 0} (run : S → A → X → A × X) (idle : X) where
  pub through-idle : (ts : List S) (a : A) → SkipsIdle run idle ts → through run ts a idle ≡ (a, idle)
  through-idle [] a h = refl
  through-idle (t ∷ ts) a h = rw h.0 (through-idle ts a h.1)

module _ {A X S V : Type 0} (run : S → A → X → A × X) (own : S → A → V) (clock : List S → List X → A → A) (ss : List S) (start : A) (idle : X) where
  abbrev pub pipeline : Pipeline A X S V
  pipeline = record { stages = ss; run = run; own = own; clock = clock; idle = idle }

  -- the pipeline at the beginning
  abbrev pub empty : Row A X
  empty = empty_row ss start idle

  past-idle : (n : ℕ) → SkipsIdle run idle ss → past run own clock ss start idle (replicate n idle) ≡ start
  past-idle zero h = refl
  past-idle (suc n) h = eq_of (λ (b : A). (through run ss b idle).0) (past-idle n h) ∙ eq_of (λ (r : A × X). r.0) (through-idle run idle ss start h)

  empty_holds : (g : A → X → A × X) (ts : List S) → SkipsIdle run idle ss → SkipsIdle run idle ts → ((a : A) → g a idle ≡ (a, idle))
      → Holds run own (past run own clock ss start idle) g ts (drain ts idle) start (drain ts idle)
  empty_holds g [] all h is = tt
  empty_holds g (t ∷ ts) all h is =
      let before : past run own clock ss start idle (drain ts idle) ≡ start = past-idle (length ts) all in (
        rw (before, is start) refl,
        rw before refl,
        empty_holds (λ a x. run t (g a x).0 (g a x).1) ts all h.1 (λ a. rw (is a) (h.0 a)),
      )

  idle-onto : (n : ℕ) (h : List X) → onto (replicate n idle) h ≡ replicate n idle ++ h
  idle-onto zero h = refl
  idle-onto (suc n) h = rw (idle-onto n (idle ∷ h)) (shift n h)
    where
      shift : (n : ℕ) (h : List X) → replicate n idle ++ idle ∷ h ≡ idle ∷ (replicate n idle ++ h)
      shift zero h = refl
      shift (suc n) h = eq_of (λ z. idle ∷ z) (shift n h)

  empty_stands : SkipsIdle run idle ss → Stands run own clock ss start idle empty (drain ss idle)
  empty_stands h = empty_holds (λ a x. (a, x)) ss h h (λ a. refl)

  state_alone-append : (a : A) (xs ys : List X) → state_alone run ss a (xs ++ ys) ≡ state_alone run ss (state_alone run ss a xs) ys
  state_alone-append a [] ys = refl
  state_alone-append a (x ∷ xs) ys = state_alone-append (through run ss a x).0 xs ys

  state_alone-idle : (n : ℕ) (a : A) → SkipsIdle run idle ss → state_alone run ss a (replicate n idle) ≡ a
  state_alone-idle zero a h = refl
  state_alone-idle (suc n) a h = eq_of (λ (r : A × X). state_alone run ss r.0 (replicate n idle)) (through-idle run idle ss a h) ∙ state_alone-idle n a h

  items_alone-idle : (n : ℕ) (a : A) (xs : List X) → SkipsIdle run idle ss → items_alone run ss a (replicate n idle ++ xs) ≡ replicate n idle ++ items_alone run ss a xs
  items_alone-idle zero a xs h = refl
  items_alone-idle (suc n) a xs h =
      let this : (through run ss a idle).1 ≡ idle = eq_of (λ (r : A × X). r.1) (through-idle run idle ss a h) in
      let then : items_alone run ss (through run ss a idle).0 (replicate n idle ++ xs) ≡ replicate n idle ++ items_alone run ss a xs =
      eq_of (λ (r : A × X). items_alone run ss r.0 (replicate n idle ++ xs)) (through-idle run idle ss a h) ∙ items_alone-idle n a xs h in
      cc

  -- the row after the entries, read at the item that entered k cycles before the last
  pub at_each_cycle : (before after : List X) (x : X) (d : X) (s : S) → IsFeedForward pipeline
      → length after < length ss
      → (get_or (piped run clock ss empty (before ++ x ∷ after)).registers (length after) d ≡ (through run (take (length after) ss) (state_alone run ss start before) x).1)
      × (own (get_or ss (length after) s) (piped run clock ss empty (before ++ x ∷ after)).state ≡ own (get_or ss (length after) s) (state_alone run ss start before))
  at_each_cycle before after x d s law few =
      let p : Row A X = piped run clock ss empty (before ++ x ∷ after) in
      let stands : Stands run own clock ss start idle p (onto (before ++ x ∷ after) (drain ss idle)) =
      piped_stands run own clock ss start idle empty (before ++ x ∷ after) (drain ss idle) law.apart law.clocked (empty_stands law.skips) in
      let history : onto (before ++ x ∷ after) (drain ss idle) ≡ onto after [] ++ x ∷ onto before (drain ss idle) =
      onto-join before (x ∷ after) (drain ss idle) ∙ onto-append after (x ∷ onto before (drain ss idle)) in
      let size : length (onto after []) ≡ length after = omega (arith, length-onto after []) in
      let few' : length (onto after []) < length ss = omega arith in
      let then : past run own clock ss start idle (onto before (drain ss idle)) ≡ state_alone run ss start before =
      past-onto run own clock ss start idle before (drain ss idle) ∙ eq_of (λ (b : A). state_alone run ss b before) (past-idle (length ss) law.skips) in
      rw (← size, ← then) (holds_at run own (past run own clock ss start idle) (λ a z. (a, z)) ss p.registers p.state (onto after []) x (onto before (drain ss idle)) d s few' (rw (← history) stands))

  -- a row that is drained has emitted what each item alone makes, each as many cycles after its entry as there are stages
  pub drained_left : (es : List X) → IsFeedForward pipeline
      → left run clock ss empty (es ++ drain ss idle) ≡ drain ss idle ++ items_alone run ss start es
  drained_left es law =
      let flight : onto (drain ss idle) [] ≡ drain ss idle = idle-onto (length ss) [] ∙ append-nil (drain ss idle) in
      let stands : Stands run own clock ss start idle empty (onto (drain ss idle) []) = rw flight (empty_stands law.skips) in
      let all : left run clock ss empty (es ++ drain ss idle) ≡ items_alone run ss start (take (length (es ++ drain ss idle)) (drain ss idle ++ (es ++ drain ss idle))) =
      left_is run own clock ss start idle empty (es ++ drain ss idle) (drain ss idle) [] law.apart law.clocked stands (length-replicate (length ss) idle) in
      let size : length (es ++ drain ss idle) ≡ length (drain ss idle ++ es) = omega (arith, length-append es (drain ss idle), length-append (drain ss idle) es) in
      let cut : take (length (es ++ drain ss idle)) (drain ss idle ++ (es ++ drain ss idle)) ≡ drain ss idle ++ es =
      rw (size, ← append_assoc (drain ss idle) es (drain ss idle)) (take-append_seam (drain ss idle ++ es) (drain ss idle)) in
      all ∙ eq_of (λ z. items_alone run ss start z) cut ∙ items_alone-idle (length ss) start es law.skips

  drain_split : (n k : ℕ) → k < n → replicate n idle ≡ replicate (n - (k + 1)) idle ++ idle ∷ replicate k idle
  drain_split n k lt =
      let sum : n ≡ (n - (k + 1)) + suc k = omega arith in
      eq_of (λ (j : ℕ). replicate j idle) sum ∙ sym (replicate-append-replicate (n - (k + 1)) (suc k) idle)

  -- and each stage's part is what the items, each alone, leave
  pub drained_own : (es : List X) (k : ℕ) (s : S) → IsFeedForward pipeline → k < length ss
      → own (get_or ss k s) (piped run clock ss empty (es ++ drain ss idle)).state ≡ own (get_or ss k s) (state_alone run ss start es)
  drained_own es k s law few =
      let m : ℕ = length ss - (k + 1) in
      let size : length (replicate k idle) ≡ k = length-replicate k idle in
      let split : (es ++ replicate m idle) ++ idle ∷ replicate k idle ≡ es ++ drain ss idle =
      append_assoc es (replicate m idle) (idle ∷ replicate k idle) ∙ eq_of (λ z. es ++ z) (sym (drain_split (length ss) k few)) in
      let then : state_alone run ss start (es ++ replicate m idle) ≡ state_alone run ss start es =
      state_alone-append start es (replicate m idle) ∙ state_alone-idle m (state_alone run ss start es) law.skips in
      let less : length (replicate k idle) < length ss = omega arith in
      let moment : own (get_or ss (length (replicate k idle)) s) (piped run clock ss empty ((es ++ replicate m idle) ++ idle ∷ replicate k idle)).state ≡ own (get_or ss (length (replicate k idle)) s) (state_alone run ss start (es ++ replicate m idle)) =
      (at_each_cycle (es ++ replicate m idle) (replicate k idle) idle idle s law less).1 in
      rw (← split, ← then) (rw size at moment)

  skips_take : (k : ℕ) (ts : List S) → SkipsIdle run idle ts → SkipsIdle run idle (take k ts)
  skips_take zero ts h = tt
  skips_take (suc k) [] h = tt
  skips_take (suc k) (t ∷ ts) h = (h.0, skips_take k ts h.1)

  -- a register that no entry has reached yet is empty, and the stage behind it has done nothing
  pub at_first : (es : List X) (k : ℕ) (d : X) (s : S) → IsFeedForward pipeline
      → length es ≤ k → k < length ss
      → (get_or (piped run clock ss empty es).registers k d ≡ idle) × (own (get_or ss k s) (piped run clock ss empty es).state ≡ own (get_or ss k s) start)
  at_first es k d s law late few =
      let p : Row A X = piped run clock ss empty es in
      let i : ℕ = k - length es in
      let j : ℕ = length ss - (i + 1) in
      let stands : Stands run own clock ss start idle p (onto es (drain ss idle)) = piped_stands run own clock ss start idle empty es (drain ss idle) law.apart law.clocked (empty_stands law.skips) in
      let less : j < length ss = omega arith in
      let many : length ss - (j + 1) ≡ i = omega arith in
      let split : drain ss idle ≡ replicate i idle ++ idle ∷ replicate j idle =
      drain_split (length ss) j less ∙ eq_of (λ (m : ℕ). replicate m idle ++ idle ∷ replicate j idle) many in
      let front_part : List X = onto es [] ++ replicate i idle in
      let history : onto es (drain ss idle) ≡ front_part ++ idle ∷ replicate j idle =
      onto-append es (drain ss idle) ∙ eq_of (λ (z : List X). onto es [] ++ z) split ∙ sym (append_assoc (onto es []) (replicate i idle) (idle ∷ replicate j idle)) in
      let size : length front_part ≡ k = omega (arith, length-append (onto es []) (replicate i idle), length-onto es [], length-replicate i idle) in
      let few' : length front_part < length ss = omega arith in
      let then : past run own clock ss start idle (replicate j idle) ≡ start = past-idle j law.skips in
      let read : (get_or p.registers (length front_part) d ≡ (through run (take (length front_part) ss) (past run own clock ss start idle (replicate j idle)) idle).1)
      × (own (get_or ss (length front_part) s) p.state ≡ own (get_or ss (length front_part) s) (past run own clock ss start idle (replicate j idle))) =
      holds_at run own (past run own clock ss start idle) (λ a z. (a, z)) ss p.registers p.state front_part idle (replicate j idle) d s few' (rw (← history) stands) in
      let read' = rw (then, size) at read in
      (read'.0 ∙ eq_of (λ (r : A × X). r.1) (through-idle run idle (take k ss) start (skips_take k ss law.skips)), read'.1)

  pub length-items_alone : (a : A) (xs : List X) → length (items_alone run ss a xs) ≡ length xs
  length-items_alone a [] = refl
  length-items_alone a (x ∷ xs) = eq_of suc (length-items_alone (through run ss a x).0 xs)

  items_alone-take : (n : ℕ) (a : A) (xs : List X) → items_alone run ss a (take n xs) ≡ take n (items_alone run ss a xs)
  items_alone-take zero a xs = refl
  items_alone-take (suc n) a [] = refl
  items_alone-take (suc n) a (x ∷ xs) = eq_of (λ (z : List X). (through run ss a x).1 ∷ z) (items_alone-take n (through run ss a x).0 xs)

  -- what has left after some entries, without a drain
  pub left_so_far : (es : List X) → IsFeedForward pipeline → left run clock ss empty es ≡ take (length es) (drain ss idle ++ items_alone run ss start es)
  left_so_far es law =
      let flight : onto (drain ss idle) [] ≡ drain ss idle = idle-onto (length ss) [] ∙ append-nil (drain ss idle) in
      let stands : Stands run own clock ss start idle empty (onto (drain ss idle) []) = rw flight (empty_stands law.skips) in
      left_is run own clock ss start idle empty es (drain ss idle) [] law.apart law.clocked stands (length-replicate (length ss) idle)
      ∙ items_alone-take (length es) start (drain ss idle ++ es)
      ∙ eq_of (λ (z : List X). take (length es) z) (items_alone-idle (length ss) start es law.skips)

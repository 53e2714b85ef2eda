-- Whatever the order of events, each stage has done the first packets in order, and the rest wait before it.
use Rattle.std.proofs.Common.{◌≡◌, ℕ, zero, suc, List, [], ◌∷◌, ◌++◌, Bool, true, false, refl, sym, ◌∙◌, ap as eq_of, length, map, nat_lt, Some, slice_get, take, arith, append_assoc, append-nil, length-append}
use Rattle.std.proofs.Math.Seq.{take-append_seam}
use Rattle.std.specs.List.{AllByRecursion as Every}
use Rattle.pipeline_law.specs.Stage.{through, state_alone, items_alone, Leaves, AreApart}
use Rattle.pipeline_law.specs.Queues.{Event, Enter, Fire, Leave, Queues, goes, flows, last_head, last_rest, taken, takes, happens, happened, idle_queues}
use Rattle.pipeline_law.proofs.InFlight.{own-through, left_by, Spares, spares_more}

module _ {A X S : Type 0} (run : S → A → X → A × X) (all : List S) where
  -- what g makes of items that go alone, one after another
  abbrev pub along : (A → X → A × X) → A → List X → List X
  along g a [] = []
  along g a (x ∷ xs) = (g a x).1 ∷ along g (through run all a x).0 xs

  along-snoc : (g : A → X → A × X) (a : A) (xs : List X) (x : X) → along g a (xs ++ x ∷ []) ≡ along g a xs ++ (g (state_alone run all a xs) x).1 ∷ []
  along-snoc g a [] x = refl
  along-snoc g a (y ∷ xs) x = eq_of (λ z. (g a y).1 ∷ z) (along-snoc g (through run all a y).0 xs x)

  state_alone-append : (a : A) (xs ys : List X) → state_alone run all a (xs ++ ys) ≡ state_alone run all (state_alone run all a xs) ys
  state_alone-append a [] ys = refl
  state_alone-append a (x ∷ xs) ys = state_alone-append (through run all a x).0 xs ys

module _ {A X S V : Type 0} (run : S → A → X → A × X) (own : S → A → V) (all : List S) (start : A) where
  -- seen: what has come to the first queue here; gone: what has left the last one. Behind g
  abbrev pub Waits : (A → X → A × X) → List S → List (List X) → List ℕ → A → List X → List X → Type 0
  Waits g [] [] ns a seen gone = ⊥
  Waits g [] (q ∷ []) ns a seen gone = (waiting : List X) × (seen ≡ gone ++ waiting) × (q ≡ along run all g (state_alone run all start gone) waiting)
  Waits g [] (q ∷ next ∷ rest) ns a seen gone = ⊥
  Waits g (s ∷ ss) [] ns a seen gone = ⊥
  Waits g (s ∷ ss) (q ∷ []) ns a seen gone = ⊥
  Waits g (s ∷ ss) (q ∷ next ∷ rest) [] a seen gone = ⊥
  Waits g (s ∷ ss) (q ∷ next ∷ rest) (n ∷ ns) a seen gone =
      (done : List X) × (waiting : List X) × (seen ≡ done ++ waiting) × (q ≡ along run all g (state_alone run all start done) waiting)
      × (own s a ≡ own s (state_alone run all start done)) × (n ≡ length done) × Waits (λ b y. run s (g b y).0 (g b y).1) ss (next ∷ rest) ns a done gone

  -- a state in which the stages own the same
  waits_kept : (g : A → X → A × X) (ss : List S) (qs : List (List X)) (ns : List ℕ) (a b : A) (seen gone : List X)
      → Every (λ s. own s b ≡ own s a) ss → Waits g ss qs ns a seen gone → Waits g ss qs ns b seen gone
  waits_kept g [] [] ns a b seen gone e p = p
  waits_kept g [] (q ∷ []) ns a b seen gone e p = p
  waits_kept g [] (q ∷ next ∷ rest) ns a b seen gone e p = p
  waits_kept g (s ∷ ss) [] ns a b seen gone e p = p
  waits_kept g (s ∷ ss) (q ∷ []) ns a b seen gone e p = p
  waits_kept g (s ∷ ss) (q ∷ next ∷ rest) [] a b seen gone e p = p
  waits_kept g (s ∷ ss) (q ∷ next ∷ rest) (n ∷ ns) a b seen gone e (done, waiting, x, y, z, m, w) =
      (done, waiting, x, y, e.0 ∙ z, m, waits_kept (λ c v. run s (g c v).0 (g c v).1) ss (next ∷ rest) ns a b done gone e.1 w)

  queue_more : (g : A → X → A × X) (seen done waiting q : List X) (x y : X) → seen ≡ done ++ waiting → q ≡ along run all g (state_alone run all start done) waiting
      → y ≡ (g (state_alone run all start seen) x).1 → q ++ y ∷ [] ≡ along run all g (state_alone run all start done) (waiting ++ x ∷ [])
  queue_more g seen done waiting q x y h k is =
      let state : state_alone run all start seen ≡ state_alone run all (state_alone run all start done) waiting = eq_of (λ z. state_alone run all start z) h ∙ state_alone-append run all start done waiting in
      eq_of (λ z. z ++ y ∷ []) k
      ∙ eq_of (λ z. along run all g (state_alone run all start done) waiting ++ z ∷ []) (is ∙ eq_of (λ b. (g b x).1) state)
      ∙ sym (along-snoc run all g (state_alone run all start done) waiting x)

  -- one more item comes to the first queue
  arrives : (g : A → X → A × X) (ss : List S) (q : List X) (qs : List (List X)) (ns : List ℕ) (a b : A) (seen gone : List X) (x y : X)
      → Every (λ s. own s b ≡ own s a) ss → y ≡ (g (state_alone run all start seen) x).1 → Waits g ss (q ∷ qs) ns a seen gone → Waits g ss ((q ++ y ∷ []) ∷ qs) ns b (seen ++ x ∷ []) gone
  arrives g [] q [] ns a b seen gone x y e is (waiting, h, k) =
      (waiting ++ x ∷ [], eq_of (λ z. z ++ x ∷ []) h ∙ append_assoc gone waiting (x ∷ []), queue_more g seen gone waiting q x y h k is)
  arrives g [] q (next ∷ rest) ns a b seen gone x y e is p = p
  arrives g (s ∷ ss) q [] ns a b seen gone x y e is p = p
  arrives g (s ∷ ss) q (next ∷ rest) [] a b seen gone x y e is p = p
  arrives g (s ∷ ss) q (next ∷ rest) (n ∷ ns) a b seen gone x y e is (done, waiting, h, k, z, m, w) = (
    done,
    waiting ++ x ∷ [],
    eq_of (λ z. z ++ x ∷ []) h ∙ append_assoc done waiting (x ∷ []),
    queue_more g seen done waiting q x y h k is,
    e.0 ∙ z,
    m,
    waits_kept (λ c v. run s (g c v).0 (g c v).1) ss (next ∷ rest) ns a b done gone e.1 w,
  )

  goes_leave : (room : Bool) (s t : S) (x : X) (q next : List X) (rest : List (List X)) (n : ℕ) (ns : List ℕ) (a : A) → Leaves run own t s → own s (goes run room t x q next rest n ns a).state ≡ own s a
  goes_leave true s t x q next rest n ns a p = p a x
  goes_leave false s t x q next rest n ns a p = refl

  -- stages that leave s leave it wherever they are fired
  flows_leave : (most : ℕ) (s : S) (k : ℕ) (ss : List S) (qs : List (List X)) (ns : List ℕ) (a : A) → Every (λ t. Leaves run own t s) ss → own s (flows run most k ss qs ns a).state ≡ own s a
  flows_leave most s k [] qs ns a p = refl
  flows_leave most s k (t ∷ ss) [] ns a p = refl
  flows_leave most s k (t ∷ ss) (q ∷ []) ns a p = refl
  flows_leave most s k (t ∷ ss) (q ∷ next ∷ rest) [] a p = refl
  flows_leave most s zero (t ∷ ss) ([] ∷ next ∷ rest) (n ∷ ns) a p = refl
  flows_leave most s zero (t ∷ ss) ((x ∷ q) ∷ next ∷ rest) (n ∷ ns) a p = goes_leave (nat_lt (length next) most) s t x q next rest n ns a p.0
  flows_leave most s (suc k) (t ∷ ss) (q ∷ next ∷ rest) (n ∷ ns) a p = flows_leave most s k ss (next ∷ rest) ns a p.1

  abbrev pub Passes : (A → X → A × X) → List S → Type 0
  Passes g ss = (b : A) (x : X) → through run all b x ≡ through run ss (g b x).0 (g b x).1

  after_this : (s : S) (ss : List S) (a : A) (x : X) → Every (λ t. Leaves run own s t × Leaves run own t s) ss → Every (λ t. own t (run s a x).0 ≡ own t a) ss
  after_this s [] a x p = tt
  after_this s (t ∷ ss) a x p = (p.0.0 a x, after_this s ss a x p.1)

  -- the head of a queue goes through its stage, where there is room
  fire_head : (room : Bool) (g : A → X → A × X) (s : S) (ss : List S) (y : X) (q next : List X) (rest : List (List X)) (n : ℕ) (ns : List ℕ) (a : A) (seen gone done : List X) (x : X) (waiting : List X)
      → AreApart run own (s ∷ ss) → Spares run own (λ h. start) g (s ∷ ss) → Passes g (s ∷ ss)
      → seen ≡ done ++ x ∷ waiting → y ∷ q ≡ along run all g (state_alone run all start done) (x ∷ waiting) → own s a ≡ own s (state_alone run all start done) → n ≡ length done
      → Waits (λ b v. run s (g b v).0 (g b v).1) ss (next ∷ rest) ns a done gone
      → Waits g (s ∷ ss) (goes run room s y q next rest n ns a).queues (goes run room s y q next rest n ns a).counts (goes run room s y q next rest n ns a).state seen gone
  fire_head false g s ss y q next rest n ns a seen gone done x waiting ap sp pass h k z m w = (done, x ∷ waiting, h, k, z, m, w)
  fire_head true g s ss y q next rest n ns a seen gone done x waiting ap sp pass h k z m w =
      let past : A = state_alone run all start done in
      let g' : A → X → A × X = λ b v. run s (g b v).0 (g b v).1 in
      let head : y ≡ (g past x).1 = cc in
      let tail : q ≡ along run all g (through run all past x).0 waiting = cc in
      let mine : own s a ≡ own s (g past x).0 = z ∙ sym (sp.0 past x) in
      let out : (run s a y).1 ≡ (g' past x).1 = ap.0.out a (g past x).0 y mine ∙ eq_of (λ v. (run s (g past x).0 v).1) head in
      let next_past : state_alone run all start (done ++ x ∷ []) ≡ (through run all past x).0 = state_alone-append run all start done (x ∷ []) in
      let kept : own s (run s a y).0 ≡ own s (state_alone run all start (done ++ x ∷ [])) =
      ap.0.kept a (g past x).0 y mine ∙ eq_of (λ v. own s (run s (g past x).0 v).0) head
      ∙ sym (own-through run own s ss (g' past x).0 (g' past x).1 (left_by run own s ss ap.1))
      ∙ eq_of (own s) (sym (next_past ∙ eq_of (λ (r : A × X). r.0) (pass past x))) in (
        done ++ x ∷ [],
        waiting,
        h ∙ sym (append_assoc done (x ∷ []) waiting),
        tail ∙ eq_of (λ b. along run all g b waiting) (sym next_past),
        kept,
        omega (arith, length-append done (x ∷ []), m),
        arrives g' ss next rest ns a (run s a y).0 done gone x (run s a y).1 (after_this s ss a y ap.1) out w,
      )

  -- one stage more in front
  stage_more : (g : A → X → A × X) (s : S) (ss : List S) (q : List X) (qs : List (List X)) (n : ℕ) (ns : List ℕ) (a : A) (seen gone done waiting : List X)
      → seen ≡ done ++ waiting → q ≡ along run all g (state_alone run all start done) waiting → own s a ≡ own s (state_alone run all start done) → n ≡ length done
      → Waits (λ b v. run s (g b v).0 (g b v).1) ss qs ns a done gone → Waits g (s ∷ ss) (q ∷ qs) (n ∷ ns) a seen gone
  stage_more g s [] q [] n ns a seen gone done waiting h l z m w = w
  stage_more g s (t ∷ ss) q [] n ns a seen gone done waiting h l z m w = w
  stage_more g s ss q (next ∷ rest) n ns a seen gone done waiting h l z m w = (done, waiting, h, l, z, m, w)

  -- a stage that is fired
  fires : (most k : ℕ) (g : A → X → A × X) (ss : List S) (qs : List (List X)) (ns : List ℕ) (a : A) (seen gone : List X)
      → AreApart run own ss → Spares run own (λ h. start) g ss → Passes g ss → Waits g ss qs ns a seen gone
      → Waits g ss (flows run most k ss qs ns a).queues (flows run most k ss qs ns a).counts (flows run most k ss qs ns a).state seen gone
  fires most k g [] qs ns a seen gone ap sp pass p = p
  fires most k g (s ∷ ss) [] ns a seen gone ap sp pass p = absurd p
  fires most k g (s ∷ ss) (q ∷ []) ns a seen gone ap sp pass p = p
  fires most k g (s ∷ ss) (q ∷ next ∷ rest) [] a seen gone ap sp pass p = p
  fires most zero g (s ∷ ss) ([] ∷ next ∷ rest) (n ∷ ns) a seen gone ap sp pass p = p
  fires most zero g (s ∷ ss) ((y ∷ q) ∷ next ∷ rest) (n ∷ ns) a seen gone ap sp pass (done, [], h, k, z, m, w) = cc
  fires most zero g (s ∷ ss) ((y ∷ q) ∷ next ∷ rest) (n ∷ ns) a seen gone ap sp pass (done, x ∷ waiting, h, k, z, m, w) =
      fire_head (nat_lt (length next) most) g s ss y q next rest n ns a seen gone done x waiting ap sp pass h k z m w
  fires most (suc k) g (s ∷ ss) (q ∷ next ∷ rest) (n ∷ ns) a seen gone ap sp pass (done, waiting, h, l, z, m, w) =
      stage_more g s ss q (flows run most k ss (next ∷ rest) ns a).queues n (flows run most k ss (next ∷ rest) ns a).counts (flows run most k ss (next ∷ rest) ns a).state seen gone done waiting h l
      (flows_leave most s k ss (next ∷ rest) ns a (left_by run own s ss ap.1) ∙ z) m
      (fires most k (λ b v. run s (g b v).0 (g b v).1) ss (next ∷ rest) ns a done gone ap.2 (spares_more run own (λ h. start) g s ss sp.1 ap.1) pass w)

  -- the head of the last queue leaves
  departs : (g : A → X → A × X) (ss : List S) (qs : List (List X)) (ns : List ℕ) (a : A) (seen gone : List X) → Passes g ss → Waits g ss qs ns a seen gone
      → (more : List X) × (last_head qs ≡ items_alone run all (state_alone run all start gone) more) × Waits g ss (last_rest qs) ns a seen (gone ++ more)
  departs g [] [] ns a seen gone pass p = absurd p
  departs g [] ([] ∷ []) ns a seen gone pass (waiting, h, k) = ([], refl, rw (append-nil gone) (waiting, h, k))
  departs g [] ((y ∷ q) ∷ []) ns a seen gone pass ([], h, k) = cc
  departs g [] ((y ∷ q) ∷ []) ns a seen gone pass (x ∷ waiting, h, k) =
      let past : A = state_alone run all start gone in
      let head : y ≡ (g past x).1 = cc in
      let tail : q ≡ along run all g (through run all past x).0 waiting = cc in
      let out : y ≡ (through run all past x).1 = head ∙ sym (eq_of (λ (r : A × X). r.1) (pass past x)) in
      let next : state_alone run all start (gone ++ x ∷ []) ≡ (through run all past x).0 = state_alone-append run all start gone (x ∷ []) in (
        x ∷ [],
        eq_of (λ z. z ∷ []) out,
        (waiting, h ∙ sym (append_assoc gone (x ∷ []) waiting), tail ∙ eq_of (λ b. along run all g b waiting) (sym next)),
      )
  departs g [] (q ∷ next ∷ rest) ns a seen gone pass p = absurd p
  departs g (s ∷ ss) [] ns a seen gone pass p = absurd p
  departs g (s ∷ ss) (q ∷ []) ns a seen gone pass p = absurd p
  departs g (s ∷ ss) (q ∷ next ∷ rest) [] a seen gone pass p = absurd p
  departs g (s ∷ ss) (q ∷ next ∷ rest) (n ∷ ns) a seen gone pass (done, waiting, h, l, z, m, w) =
      go (departs (λ b v. run s (g b v).0 (g b v).1) ss (next ∷ rest) ns a done gone pass w)
    where
      go : (more : List X) × (last_head (next ∷ rest) ≡ items_alone run all (state_alone run all start gone) more) × Waits (λ b v. run s (g b v).0 (g b v).1) ss (last_rest (next ∷ rest)) ns a done (gone ++ more)
          → (more : List X) × (last_head (next ∷ rest) ≡ items_alone run all (state_alone run all start gone) more) × Waits g (s ∷ ss) (q ∷ last_rest (next ∷ rest)) (n ∷ ns) a seen (gone ++ more)
      go (more, e, v) = (more, e, stage_more g s ss q (last_rest (next ∷ rest)) n ns a seen (gone ++ more) done waiting h l z m v)

module _ {A X S V : Type 0} (run : S → A → X → A × X) (own : S → A → V) (all : List S) (start : A) where
  idle_waits : (g : A → X → A × X) (ss : List S) → Waits run own all start g ss ([] ∷ map (λ s. []) ss) (map (λ s. 0) ss) start [] []
  idle_waits g [] = ([], refl, refl)
  idle_waits g (s ∷ ss) = ([], [], refl, refl, refl, refl, idle_waits (λ b v. run s (g b v).0 (g b v).1) ss)

  -- what has left came first
  waits_prefix : (g : A → X → A × X) (ss : List S) (qs : List (List X)) (ns : List ℕ) (a : A) (seen gone : List X) → Waits run own all start g ss qs ns a seen gone
      → (rest : List X) × (seen ≡ gone ++ rest)
  waits_prefix g [] [] ns a seen gone p = absurd p
  waits_prefix g [] (q ∷ []) ns a seen gone (waiting, h, k) = (waiting, h)
  waits_prefix g [] (q ∷ next ∷ rest) ns a seen gone p = absurd p
  waits_prefix g (s ∷ ss) [] ns a seen gone p = absurd p
  waits_prefix g (s ∷ ss) (q ∷ []) ns a seen gone p = absurd p
  waits_prefix g (s ∷ ss) (q ∷ next ∷ rest) [] a seen gone p = absurd p
  waits_prefix g (s ∷ ss) (q ∷ next ∷ rest) (n ∷ ns) a seen gone (done, waiting, h, l, z, m, w) =
      longer (waits_prefix (λ b v. run s (g b v).0 (g b v).1) ss (next ∷ rest) ns a done gone w)
    where
      longer : (more : List X) × (done ≡ gone ++ more) → (more : List X) × (seen ≡ gone ++ more)
      longer (more, e) = (more ++ waiting, h ∙ eq_of (λ z. z ++ waiting) e ∙ append_assoc gone more waiting)

  -- a stage's part is that after as many items as it was fired
  waits_own : (g : A → X → A × X) (ss : List S) (qs : List (List X)) (ns : List ℕ) (a : A) (seen gone total more : List X) (k : ℕ) (s : S) (n : ℕ) → Waits run own all start g ss qs ns a seen gone
      → total ≡ seen ++ more → slice_get ss k ≡ Some s → slice_get ns k ≡ Some n → own s a ≡ own s (state_alone run all start (take n total))
  waits_own g [] qs ns a seen gone total more k s n p is at e = cc
  waits_own g (t ∷ ss) [] ns a seen gone total more k s n p is at e = absurd p
  waits_own g (t ∷ ss) (q ∷ []) ns a seen gone total more k s n p is at e = absurd p
  waits_own g (t ∷ ss) (q ∷ next ∷ rest) [] a seen gone total more k s n p is at e = absurd p
  waits_own g (t ∷ ss) (q ∷ next ∷ rest) (n' ∷ ns) a seen gone total more zero s n (done, waiting, h, l, z, m, w) is at e =
      let same : t ≡ s = cc in
      let count : n ≡ length done = cc in
      let whole : total ≡ done ++ (waiting ++ more) = is ∙ eq_of (λ xs. xs ++ more) h ∙ append_assoc done waiting more in
      let cut : take n total ≡ done = eq_of (λ j. take j total) count ∙ eq_of (λ xs. take (length done) xs) whole ∙ take-append_seam done (waiting ++ more) in
      rw (← same, cut) z
  waits_own g (t ∷ ss) (q ∷ next ∷ rest) (n' ∷ ns) a seen gone total more (suc k) s n (done, waiting, h, l, z, m, w) is at e =
      waits_own (λ b v. run t (g b v).0 (g b v).1) ss (next ∷ rest) ns a done gone total (waiting ++ more) k s n w (is ∙ eq_of (λ xs. xs ++ more) h ∙ append_assoc done waiting more) at e

  nothing_along : (g : A → X → A × X) (a : A) (xs : List X) → [] ≡ along run all g a xs → xs ≡ []
  nothing_along g a [] e = refl
  nothing_along g a (x ∷ xs) e = cc

  -- where all queues are empty, all has left
  waits_empty : (g : A → X → A × X) (ss : List S) (qs : List (List X)) (ns : List ℕ) (a : A) (seen gone : List X) → Waits run own all start g ss qs ns a seen gone → Every (λ q. q ≡ []) qs
      → (seen ≡ gone) × Every (λ s. own s a ≡ own s (state_alone run all start gone)) ss
  waits_empty g [] [] ns a seen gone p e = absurd p
  waits_empty g [] (q ∷ []) ns a seen gone (waiting, h, k) e =
      let none : waiting ≡ [] = nothing_along g (state_alone run all start gone) waiting (sym e.0 ∙ k) in
      (h ∙ eq_of (λ z. gone ++ z) none ∙ append-nil gone, tt)
  waits_empty g [] (q ∷ next ∷ rest) ns a seen gone p e = absurd p
  waits_empty g (s ∷ ss) [] ns a seen gone p e = absurd p
  waits_empty g (s ∷ ss) (q ∷ []) ns a seen gone p e = absurd p
  waits_empty g (s ∷ ss) (q ∷ next ∷ rest) [] a seen gone p e = absurd p
  waits_empty g (s ∷ ss) (q ∷ next ∷ rest) (n ∷ ns) a seen gone (done, waiting, h, l, z, m, w) e =
      let none : waiting ≡ [] = nothing_along g (state_alone run all start done) waiting (sym e.0 ∙ l) in
      let below : (done ≡ gone) × Every (λ t. own t a ≡ own t (state_alone run all start gone)) ss = waits_empty (λ b v. run s (g b v).0 (g b v).1) ss (next ∷ rest) ns a done gone w e.1 in
      (h ∙ eq_of (λ z. done ++ z) none ∙ append-nil done ∙ below.0, (z ∙ eq_of (λ xs. own s (state_alone run all start xs)) below.0, below.1))

module _ {A X S V : Type 0} (run : S → A → X → A × X) (own : S → A → V) (ss : List S) (start : A) (most : ℕ) where
  abbrev here : A → X → A × X
  here a x = (a, x)

  -- gone: the items that have left. Each stage has done the first items in order, and the others wait before it
  pub record IsInOrder (w : Queues A X) : Type 0 where
    pub gone : List X
    pub out : w.left ≡ items_alone run ss start gone
    pub waits : Waits run own ss start here ss w.queues w.counts w.state w.entered gone

  pub items_alone-append : (a : A) (xs ys : List X) → items_alone run ss a (xs ++ ys) ≡ items_alone run ss a xs ++ items_alone run ss (state_alone run ss a xs) ys
  items_alone-append a [] ys = refl
  items_alone-append a (x ∷ xs) ys = eq_of (λ z. (through run ss a x).1 ∷ z) (items_alone-append (through run ss a x).0 xs ys)

  spares_here : (ts : List S) → Spares run own (λ h. start) here ts
  spares_here [] = tt
  spares_here (t ∷ ts) = ((λ b y. refl), spares_here ts)

  same_all : (ts : List S) (a : A) → Every (λ s. own s a ≡ own s a) ts
  same_all [] a = tt
  same_all (t ∷ ts) a = (refl, same_all ts a)

  taken_in : (room : Bool) (x : X) (q : List X) (qs : List (List X)) (w : Queues A X) → w.queues ≡ q ∷ qs → IsInOrder w → IsInOrder (taken run most ss room x q qs w)
  taken_in false x q qs w is p = p
  taken_in true x q qs w is p = record {
    gone = p.gone;
    out = p.out;
    waits = arrives run own ss start here ss q qs w.counts w.state w.state w.entered p.gone x x (same_all ss w.state) refl (rw is at p.waits);
  }

  entered_on : (x : X) (qs : List (List X)) (w : Queues A X) → w.queues ≡ qs → IsInOrder w → IsInOrder (takes run most ss x qs w)
  entered_on x [] w is p = p
  entered_on x (q ∷ qs) w is p = taken_in (nat_lt (length q) most) x q qs w is p

  one_event : (e : Event X) (w : Queues A X) → AreApart run own ss → IsInOrder w → IsInOrder (happens run most ss e w)
  one_event (Enter x) w apart p = entered_on x w.queues w refl p
  one_event (Fire k) w apart p = record {
    gone = p.gone;
    out = p.out;
    waits = fires run own ss start most k here ss w.queues w.counts w.state w.entered p.gone apart (spares_here ss) (λ b x. refl) p.waits;
  }
  one_event Leave w apart p = go (departs run own ss start here ss w.queues w.counts w.state w.entered p.gone (λ b x. refl) p.waits)
    where
      go : (more : List X) × (last_head w.queues ≡ items_alone run ss (state_alone run ss start p.gone) more) × Waits run own ss start here ss (last_rest w.queues) w.counts w.state w.entered (p.gone ++ more)
          → IsInOrder (happens run most ss Leave w)
      go (more, e, v) = record {
        gone = p.gone ++ more;
        out = eq_of (λ z. z ++ last_head w.queues) p.out ∙ eq_of (λ z. items_alone run ss start p.gone ++ z) e ∙ sym (items_alone-append start p.gone more);
        waits = v;
      }

  pub in_order : (es : List (Event X)) (w : Queues A X) → AreApart run own ss → IsInOrder w → IsInOrder (happened run most ss es w)
  in_order [] w apart p = p
  in_order (e ∷ es) w apart p = in_order es (happens run most ss e w) apart (one_event e w apart p)

  idle_in_order : IsInOrder (idle_queues ss start)
  idle_in_order = record { gone = []; out = refl; waits = idle_waits run own ss start here ss }

  -- after any events
  pub left_first : (es : List (Event X)) → AreApart run own ss
      → (gone : List X) × (rest : List X) × ((happened run most ss es (idle_queues ss start)).entered ≡ gone ++ rest) × ((happened run most ss es (idle_queues ss start)).left ≡ items_alone run ss start gone)
  left_first es apart =
      let w : Queues A X = happened run most ss es (idle_queues ss start) in
      let p : IsInOrder w = in_order es (idle_queues ss start) apart idle_in_order in
      let before : (rest : List X) × (w.entered ≡ p.gone ++ rest) = waits_prefix run own ss start here ss w.queues w.counts w.state w.entered p.gone p.waits in
      (p.gone, before.0, before.1, p.out)

  pub stage_own : (es : List (Event X)) (k : ℕ) (s : S) (n : ℕ) → AreApart run own ss → slice_get ss k ≡ Some s → slice_get (happened run most ss es (idle_queues ss start)).counts k ≡ Some n
      → own s (happened run most ss es (idle_queues ss start)).state ≡ own s (state_alone run ss start (take n (happened run most ss es (idle_queues ss start)).entered))
  stage_own es k s n apart at count =
      let w : Queues A X = happened run most ss es (idle_queues ss start) in
      let p : IsInOrder w = in_order es (idle_queues ss start) apart idle_in_order in
      waits_own run own ss start here ss w.queues w.counts w.state w.entered p.gone w.entered [] k s n p.waits (sym (append-nil w.entered)) at count

  pub all_left : (es : List (Event X)) → AreApart run own ss → Every (λ q. q ≡ []) (happened run most ss es (idle_queues ss start)).queues
      → ((happened run most ss es (idle_queues ss start)).left ≡ items_alone run ss start (happened run most ss es (idle_queues ss start)).entered)
      × Every (λ s. own s (happened run most ss es (idle_queues ss start)).state ≡ own s (state_alone run ss start (happened run most ss es (idle_queues ss start)).entered)) ss
  all_left es apart none =
      let w : Queues A X = happened run most ss es (idle_queues ss start) in
      let p : IsInOrder w = in_order es (idle_queues ss start) apart idle_in_order in
      let both : (w.entered ≡ p.gone) × Every (λ s. own s w.state ≡ own s (state_alone run ss start p.gone)) ss = waits_empty run own ss start here ss w.queues w.counts w.state w.entered p.gone p.waits none in
      rw both.0 (p.out, both.1)

-- What one event does to the queues: where it is ready, and where it is not.
use Rattle.std.proofs.Common.{◌≡◌, ℕ, zero, suc, List, [], ◌∷◌, ◌++◌, Bool, true, false, refl, ap as eq_of, length, nat_lt, Some, slice_get, set, arith}
use Rattle.pipeline_law.specs.Queues.{Event, Queues, goes, flows, heads_of, rest_of, last_head, last_rest, taken, takes, happens, happened}

module _ {A X S : Type 0} (run : S → A → X → A × X) where
  goes_on : (room : Bool) (s : S) (x : X) (q next : List X) (rest : List (List X)) (n : ℕ) (ns : List ℕ) (a : A) → room ≡ true
      → ((goes run room s x q next rest n ns a).queues ≡ q ∷ (next ++ (run s a x).1 ∷ []) ∷ rest) × ((goes run room s x q next rest n ns a).state ≡ (run s a x).0)
  goes_on true s x q next rest n ns a is = (refl, refl)
  goes_on false s x q next rest n ns a is = cc

  goes_nowhere : (room : Bool) (s : S) (x : X) (q next : List X) (rest : List (List X)) (n : ℕ) (ns : List ℕ) (a : A) → room ≡ false
      → ((goes run room s x q next rest n ns a).queues ≡ (x ∷ q) ∷ next ∷ rest) × ((goes run room s x q next rest n ns a).state ≡ a)
  goes_nowhere true s x q next rest n ns a is = cc
  goes_nowhere false s x q next rest n ns a is = (refl, refl)

module _ {A X S : Type 0} (run : S → A → X → A × X) (most : ℕ) where
  -- a stage that is fired with a packet before it and room behind it
  pub flow_ready : (k : ℕ) (ss : List S) (qs : List (List X)) (ns : List ℕ) (a : A) (s : S) (x : X) (rest next : List X)
      → slice_get ss k ≡ Some s → slice_get qs k ≡ Some (x ∷ rest) → slice_get qs (suc k) ≡ Some next → length ns ≡ length ss → nat_lt (length next) most ≡ true
      → ((flows run most k ss qs ns a).queues ≡ set (set qs (suc k) (next ++ (run s a x).1 ∷ [])) k rest) × ((flows run most k ss qs ns a).state ≡ (run s a x).0)
  flow_ready k [] qs ns a s x rest next ps pq pn e room = cc
  flow_ready k (t ∷ ss) [] ns a s x rest next ps pq pn e room = cc
  flow_ready k (t ∷ ss) (q ∷ []) ns a s x rest next ps pq pn e room = cc
  flow_ready k (t ∷ ss) (q ∷ nx ∷ qs) [] a s x rest next ps pq pn e room = absurd (omega (arith, e))
  flow_ready zero (t ∷ ss) ([] ∷ nx ∷ qs) (n ∷ ns) a s x rest next ps pq pn e room = cc
  flow_ready zero (t ∷ ss) ((y ∷ q) ∷ nx ∷ qs) (n ∷ ns) a s x rest next ps pq pn e room =
      let one : t ≡ s = cc in
      let two : y ≡ x = cc in
      let three : q ≡ rest = cc in
      let four : nx ≡ next = cc in
      rw (one, two, three, four) (goes_on run (nat_lt (length next) most) s x rest next qs n ns a room)
  flow_ready (suc k) (t ∷ ss) (q ∷ nx ∷ qs) (n ∷ ns) a s x rest next ps pq pn e room =
      let same : length ns ≡ length ss = omega (arith, e) in
      let below = flow_ready k ss (nx ∷ qs) ns a s x rest next ps pq pn same room in
      (eq_of (λ (z : List (List X)). q ∷ z) below.0, below.1)

  -- with none before it
  pub flow_empty : (k : ℕ) (ss : List S) (qs : List (List X)) (ns : List ℕ) (a : A) → slice_get qs k ≡ Some []
      → ((flows run most k ss qs ns a).queues ≡ qs) × ((flows run most k ss qs ns a).state ≡ a)
  flow_empty k [] qs ns a p = (refl, refl)
  flow_empty k (t ∷ ss) [] ns a p = (refl, refl)
  flow_empty k (t ∷ ss) (q ∷ []) ns a p = (refl, refl)
  flow_empty k (t ∷ ss) (q ∷ nx ∷ qs) [] a p = (refl, refl)
  flow_empty zero (t ∷ ss) ([] ∷ nx ∷ qs) (n ∷ ns) a p = (refl, refl)
  flow_empty zero (t ∷ ss) ((y ∷ q) ∷ nx ∷ qs) (n ∷ ns) a p = cc
  flow_empty (suc k) (t ∷ ss) (q ∷ nx ∷ qs) (n ∷ ns) a p =
      let below = flow_empty k ss (nx ∷ qs) ns a p in
      (eq_of (λ (z : List (List X)). q ∷ z) below.0, below.1)

  -- with no room behind it
  pub flow_full : (k : ℕ) (ss : List S) (qs : List (List X)) (ns : List ℕ) (a : A) (next : List X) → slice_get qs (suc k) ≡ Some next → nat_lt (length next) most ≡ false
      → ((flows run most k ss qs ns a).queues ≡ qs) × ((flows run most k ss qs ns a).state ≡ a)
  flow_full k [] qs ns a next p full = (refl, refl)
  flow_full k (t ∷ ss) [] ns a next p full = (refl, refl)
  flow_full k (t ∷ ss) (q ∷ []) ns a next p full = (refl, refl)
  flow_full k (t ∷ ss) (q ∷ nx ∷ qs) [] a next p full = (refl, refl)
  flow_full zero (t ∷ ss) ([] ∷ nx ∷ qs) (n ∷ ns) a next p full = (refl, refl)
  flow_full zero (t ∷ ss) ((y ∷ q) ∷ nx ∷ qs) (n ∷ ns) a next p full =
      let same : nx ≡ next = cc in
      rw same (goes_nowhere run (nat_lt (length next) most) t y q next qs n ns a full)
  flow_full (suc k) (t ∷ ss) (q ∷ nx ∷ qs) (n ∷ ns) a next p full =
      let below = flow_full k ss (nx ∷ qs) ns a next p full in
      (eq_of (λ (z : List (List X)). q ∷ z) below.0, below.1)

-- the head of the last queue
pub last_at : {X : Type 0} (k : ℕ) (qs : List (List X)) (q : List X) → length qs ≡ suc k → slice_get qs k ≡ Some q → (last_head qs ≡ heads_of q) × (last_rest qs ≡ set qs k (rest_of q))
last_at k [] q e p = cc
last_at zero (q' ∷ []) q e p =
    let same : q' ≡ q = cc in
    rw same (refl, refl)
last_at (suc k) (q' ∷ []) q e p = cc
last_at zero (q' ∷ next ∷ rest) q e p = absurd (omega (arith, e))
last_at {X} (suc k) (q' ∷ next ∷ rest) q e p =
    let less : suc (length rest) ≡ suc k = omega (arith, e) in
    let below = last_at k (next ∷ rest) q less p in
    (below.0, eq_of (λ (z : List (List X)). q' ∷ z) below.1)

module _ {A X S : Type 0} (run : S → A → X → A × X) (most : ℕ) (ss : List S) where
  taken_on : (room : Bool) (x : X) (q : List X) (qs : List (List X)) (w : Queues A X) → room ≡ true
      → ((taken run most ss room x q qs w).queues ≡ (q ++ x ∷ []) ∷ qs) × ((taken run most ss room x q qs w).state ≡ w.state)
  taken_on true x q qs w is = (refl, refl)
  taken_on false x q qs w is = cc

  taken_not : (room : Bool) (x : X) (q : List X) (qs : List (List X)) (w : Queues A X) → room ≡ false → taken run most ss room x q qs w ≡ w
  taken_not true x q qs w is = cc
  taken_not false x q qs w is = refl

  -- a packet that comes to the first queue
  pub take_ready : (x : X) (q : List X) (qs : List (List X)) (w : Queues A X) → slice_get qs 0 ≡ Some q → nat_lt (length q) most ≡ true
      → ((takes run most ss x qs w).queues ≡ set qs 0 (q ++ x ∷ [])) × ((takes run most ss x qs w).state ≡ w.state)
  take_ready x q [] w p room = cc
  take_ready x q (q' ∷ qs) w p room =
      let same : q' ≡ q = cc in
      rw same (taken_on (nat_lt (length q) most) x q qs w room)

  pub take_full : (x : X) (q : List X) (qs : List (List X)) (w : Queues A X) → slice_get qs 0 ≡ Some q → nat_lt (length q) most ≡ false → takes run most ss x qs w ≡ w
  take_full x q [] w p full = refl
  take_full x q (q' ∷ qs) w p full =
      let same : q' ≡ q = cc in
      rw same (taken_not (nat_lt (length q) most) x q qs w full)

  pub happened-append : (es fs : List (Event X)) (w : Queues A X) → happened run most ss (es ++ fs) w ≡ happened run most ss fs (happened run most ss es w)
  happened-append [] fs w = refl
  happened-append (e ∷ es) fs w = happened-append es fs (happens run most ss e w)

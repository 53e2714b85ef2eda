-- Over any events each stage keeps its count, and what no stage changes stays.
use Rattle.std.proofs.Common.{◌≡◌, ℕ, zero, suc, List, [], ◌∷◌, Bool, true, false, refl, ◌∙◌, ap as eq_of, length, nat_lt}
use Rattle.std.specs.List.{AllByRecursion}
use Rattle.pipeline_law.specs.Queues.{Event, Enter, Fire, Leave, Queues, goes, flows, taken, takes, happens, happened}

module _ {A X S : Type 0} (run : S → A → X → A × X) where
  length-goes : (room : Bool) (s : S) (x : X) (q next : List X) (rest : List (List X)) (n : ℕ) (ns : List ℕ) (a : A) → length (goes run room s x q next rest n ns a).counts ≡ suc (length ns)
  length-goes true s x q next rest n ns a = refl
  length-goes false s x q next rest n ns a = refl

module _ {A X S : Type 0} (run : S → A → X → A × X) (most : ℕ) where
  length-flows : (k : ℕ) (ss : List S) (qs : List (List X)) (ns : List ℕ) (a : A) → length (flows run most k ss qs ns a).counts ≡ length ns
  length-flows k [] qs ns a = refl
  length-flows k (t ∷ ss) [] ns a = refl
  length-flows k (t ∷ ss) (q ∷ []) ns a = refl
  length-flows k (t ∷ ss) (q ∷ nx ∷ qs) [] a = refl
  length-flows zero (t ∷ ss) ([] ∷ nx ∷ qs) (n ∷ ns) a = refl
  length-flows zero (t ∷ ss) ((y ∷ q) ∷ nx ∷ qs) (n ∷ ns) a = length-goes run (nat_lt (length nx) most) t y q nx qs n ns a
  length-flows (suc k) (t ∷ ss) (q ∷ nx ∷ qs) (n ∷ ns) a = eq_of suc (length-flows k ss (nx ∷ qs) ns a)

module _ {A X S : Type 0} (run : S → A → X → A × X) (most : ℕ) (ss : List S) where
  length-taken : (room : Bool) (x : X) (q : List X) (qs : List (List X)) (w : Queues A X) → length (taken run most ss room x q qs w).counts ≡ length w.counts
  length-taken true x q qs w = refl
  length-taken false x q qs w = refl

  length-takes : (x : X) (qs : List (List X)) (w : Queues A X) → length (takes run most ss x qs w).counts ≡ length w.counts
  length-takes x [] w = refl
  length-takes x (q ∷ qs) w = length-taken (nat_lt (length q) most) x q qs w

  length-happens : (e : Event X) (w : Queues A X) → length (happens run most ss e w).counts ≡ length w.counts
  length-happens (Enter x) w = length-takes x w.queues w
  length-happens (Fire k) w = length-flows run most k ss w.queues w.counts w.state
  length-happens Leave w = refl

  -- each stage keeps its count
  pub length-happened : (es : List (Event X)) (w : Queues A X) → length (happened run most ss es w).counts ≡ length w.counts
  length-happened [] w = refl
  length-happened (e ∷ es) w = length-happened es (happens run most ss e w) ∙ length-happens e w

-- what no stage changes stays over any events
module _ {A X S B : Type 0} (run : S → A → X → A × X) (most : ℕ) (f : A → B) where
  keep_goes : (room : Bool) (s : S) (x : X) (q next : List X) (rest : List (List X)) (n : ℕ) (ns : List ℕ) (a : A) → ((b : A) (y : X) → f (run s b y).0 ≡ f b) → f (goes run room s x q next rest n ns a).state ≡ f a
  keep_goes true s x q next rest n ns a p = p a x
  keep_goes false s x q next rest n ns a p = refl

  keep_flows : (k : ℕ) (ss : List S) (qs : List (List X)) (ns : List ℕ) (a : A) → AllByRecursion (λ s. (b : A) (y : X) → f (run s b y).0 ≡ f b) ss → f (flows run most k ss qs ns a).state ≡ f a
  keep_flows k [] qs ns a p = refl
  keep_flows k (t ∷ ss) [] ns a p = refl
  keep_flows k (t ∷ ss) (q ∷ []) ns a p = refl
  keep_flows k (t ∷ ss) (q ∷ nx ∷ qs) [] a p = refl
  keep_flows zero (t ∷ ss) ([] ∷ nx ∷ qs) (n ∷ ns) a p = refl
  keep_flows zero (t ∷ ss) ((y ∷ q) ∷ nx ∷ qs) (n ∷ ns) a p = keep_goes (nat_lt (length nx) most) t y q nx qs n ns a p.0
  keep_flows (suc k) (t ∷ ss) (q ∷ nx ∷ qs) (n ∷ ns) a p = keep_flows k ss (nx ∷ qs) ns a p.1

  module _ (ss : List S) where
    keep_taken : (room : Bool) (x : X) (q : List X) (qs : List (List X)) (w : Queues A X) → f (taken run most ss room x q qs w).state ≡ f w.state
    keep_taken true x q qs w = refl
    keep_taken false x q qs w = refl

    keep_takes : (x : X) (qs : List (List X)) (w : Queues A X) → f (takes run most ss x qs w).state ≡ f w.state
    keep_takes x [] w = refl
    keep_takes x (q ∷ qs) w = keep_taken (nat_lt (length q) most) x q qs w

    keep_happens : (e : Event X) (w : Queues A X) → AllByRecursion (λ s. (b : A) (y : X) → f (run s b y).0 ≡ f b) ss → f (happens run most ss e w).state ≡ f w.state
    keep_happens (Enter x) w p = keep_takes x w.queues w
    keep_happens (Fire k) w p = keep_flows k ss w.queues w.counts w.state p
    keep_happens Leave w p = refl

    pub keep_happened : (es : List (Event X)) (w : Queues A X) → AllByRecursion (λ s. (b : A) (y : X) → f (run s b y).0 ≡ f b) ss → f (happened run most ss es w).state ≡ f w.state
    keep_happened [] w p = refl
    keep_happened (e ∷ es) w p = keep_happened es (happens run most ss e w) p ∙ keep_happens e w p

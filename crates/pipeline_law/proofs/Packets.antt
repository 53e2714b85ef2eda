-- Packets among entries: idle entries come out as idle items, and change nothing.
use Rattle.std.proofs.Common.{◌≡◌, ℕ, zero, suc, Bool, true, false, List, [], ◌∷◌, refl, sym, ◌∙◌, ap as eq_of, replicate, filter}
use Rattle.std.specs.List.{AllByRecursion}
use Rattle.pipeline_law.specs.Stage.{through, state_alone, items_alone, SkipsIdle}
use Rattle.pipeline_law.proofs.Drained.{through-idle}

module _ {A X S : Type 0} (run : S → A → X → A × X) (idle : X) (is_packet : X → Bool) where
  kept_through : (ss : List S) (a : A) (x : X) → AllByRecursion (λ s. (b : A) (y : X) → is_packet (run s b y).1 ≡ is_packet y) ss
      → is_packet (through run ss a x).1 ≡ is_packet x
  kept_through [] a x kept = refl
  kept_through (s ∷ ss) a x kept = kept_through ss (run s a x).0 (run s a x).1 kept.1 ∙ kept.0 a x

  filter_yes : (x : X) (xs : List X) → is_packet x ≡ true → filter is_packet (x ∷ xs) ≡ x ∷ filter is_packet xs
  filter_yes x xs is = rw is refl

  filter_no : (x : X) (xs : List X) → is_packet x ≡ false → filter is_packet (x ∷ xs) ≡ filter is_packet xs
  filter_no x xs is = rw is refl

  pub filter_idle : (n : ℕ) → is_packet idle ≡ false → filter is_packet (replicate n idle) ≡ []
  filter_idle zero none = refl
  filter_idle (suc n) none = filter_no idle (replicate n idle) none ∙ filter_idle n none

  module _ (ss : List S) (others : (x : X) → is_packet x ≡ false → x ≡ idle) (kept : AllByRecursion (λ s. (b : A) (y : X) → is_packet (run s b y).1 ≡ is_packet y) ss) (skips : SkipsIdle run idle ss) where
    same_state : (x : X) (a : A) → is_packet x ≡ false → (through run ss a x).0 ≡ a
    same_state x a idles = eq_of (λ (z : X). (through run ss a z).0) (others x idles) ∙ eq_of (λ (r : A × X). r.0) (through-idle run idle ss a skips)

    packets_step : (b : Bool) (a : A) (x : X) (xs : List X) → is_packet x ≡ b
        → ((c : A) → filter is_packet (items_alone run ss c xs) ≡ items_alone run ss c (filter is_packet xs))
        → filter is_packet (items_alone run ss a (x ∷ xs)) ≡ items_alone run ss a (filter is_packet (x ∷ xs))
    packets_step true a x xs is rest =
        filter_yes (through run ss a x).1 (items_alone run ss (through run ss a x).0 xs) (kept_through ss a x kept ∙ is)
        ∙ eq_of (λ (z : List X). (through run ss a x).1 ∷ z) (rest (through run ss a x).0)
        ∙ eq_of (λ (z : List X). items_alone run ss a z) (sym (filter_yes x xs is))
    packets_step false a x xs is rest =
        filter_no (through run ss a x).1 (items_alone run ss (through run ss a x).0 xs) (kept_through ss a x kept ∙ is)
        ∙ rest (through run ss a x).0
        ∙ eq_of (λ (b : A). items_alone run ss b (filter is_packet xs)) (same_state x a is)
        ∙ eq_of (λ (z : List X). items_alone run ss a z) (sym (filter_no x xs is))

    -- the packets among what comes out are what the packets alone come out as
    pub packets_alone : (a : A) (xs : List X) → filter is_packet (items_alone run ss a xs) ≡ items_alone run ss a (filter is_packet xs)
    packets_alone a [] = refl
    packets_alone a (x ∷ xs) = packets_step (is_packet x) a x xs refl (λ c. packets_alone c xs)

    state_step : (b : Bool) (a : A) (x : X) (xs : List X) → is_packet x ≡ b → ((c : A) → state_alone run ss c xs ≡ state_alone run ss c (filter is_packet xs))
        → state_alone run ss a (x ∷ xs) ≡ state_alone run ss a (filter is_packet (x ∷ xs))
    state_step true a x xs is rest = rest (through run ss a x).0 ∙ eq_of (λ (z : List X). state_alone run ss a z) (sym (filter_yes x xs is))
    state_step false a x xs is rest =
        eq_of (λ (b : A). state_alone run ss b xs) (same_state x a is) ∙ rest a ∙ eq_of (λ (z : List X). state_alone run ss a z) (sym (filter_no x xs is))

    -- and the state is what the packets alone leave
    pub state_packets : (a : A) (xs : List X) → state_alone run ss a xs ≡ state_alone run ss a (filter is_packet xs)
    state_packets a [] = refl
    state_packets a (x ∷ xs) = state_step (is_packet x) a x xs refl (λ c. state_packets c xs)

-- One packet through stages of atoms, and what makes every container and every array right.
-- T: an atom.
use Rattle.std.specs.Prelude.{◌≡◌, ℕ, suc, ◌<◌, List, [], ◌∷◌, length, map, slice_index, ⊤, ◌⊎◌, ◌≢◌}
use Rattle.std.specs.List.{flat_map, AllByRecursion}
use Rattle.dom_words.specs.State.{array_of}
use Rattle.banzai_config.specs.Action.{Arrays, Write, Export, store, put}
use Rattle.codelets.specs.Lists.{IsIn}

module _ {T : Type 0} (writes : T → Arrays → List ℕ → List Write) (exports : T → Arrays → List ℕ → List Export) where
  abbrev pub stage_run : List T → Arrays → List ℕ → Arrays × List ℕ
  stage_run atoms arrays words = (store (flat_map (λ t. writes t arrays words) atoms) arrays, put (flat_map (λ t. exports t arrays words) atoms) words)

  abbrev pub front : List (List T) → Arrays → List ℕ → Arrays × List ℕ
  front [] arrays words = (arrays, words)
  front (s ∷ ss) arrays words = front ss (stage_run s arrays words).0 (stage_run s arrays words).1

abbrev pub owned_by : {T : Type 0} → (T → List ℕ) → List (List T) → List ℕ
owned_by owns ss = flat_map (λ s. flat_map owns s) ss

abbrev pub right_export : (ℕ → ℕ) → ℕ → Export
right_export right c = record { to = c; word = right c }

-- owns: the arrays of an atom's slots; targets: the containers that it writes
-- right k c: the word that container c is to hold behind stage k; before and after: the arrays
-- size: the number of containers; Known k c: container c is asked to be right behind stage k
module _ {T : Type 0} (writes : T → Arrays → List ℕ → List Write) (exports : T → Arrays → List ℕ → List Export) (owns targets : T → List ℕ)
    (right : ℕ → ℕ → ℕ) (before after : Arrays) (size : ℕ) (Known : ℕ → ℕ → Type 0) where
  abbrev pub Holds : ℕ → List ℕ → ℕ → Type 0
  Holds k words c = slice_index words c ≡ right k c

  abbrev pub AreOld : Arrays → List ℕ → Type 0
  AreOld arrays owned = AllByRecursion (λ a. array_of arrays a ≡ array_of before a) owned

  abbrev pub AreNew : Arrays → List ℕ → Type 0
  AreNew arrays owned = AllByRecursion (λ a. array_of arrays a ≡ array_of after a) owned

  -- where the containers that are known before stage k + 1 are right and its own arrays are old, an atom exports right words and leaves its arrays new
  pub record IsRight (k : ℕ) (atom : T) : Type 0 where
    pub shows : (arrays : Arrays) (words : List ℕ) → length words ≡ size → ((c : ℕ) → Known k c → Holds k words c) → AreOld arrays (owns atom)
        → exports atom arrays words ≡ map (right_export (right (suc k))) (targets atom)
    pub leaves : (arrays : Arrays) (words : List ℕ) → length words ≡ size → ((c : ℕ) → Known k c → Holds k words c) → AreOld arrays (owns atom)
        → AreNew (store (writes atom arrays words) arrays) (owns atom)
    pub elsewhere : (arrays : Arrays) (words : List ℕ) (j : ℕ) → AllByRecursion (λ a. a ≢ j) (owns atom) → AllByRecursion (λ (w : Write). w.array ≢ j) (writes atom arrays words)
    pub within : AllByRecursion (λ c. c < size) (targets atom)

  -- k: the number of stages passed
  abbrev pub AreRight : ℕ → List (List T) → Type 0
  AreRight k [] = ⊤
  AreRight k (s ∷ ss) = AllByRecursion (IsRight k) s × ((c : ℕ) → Known (suc k) c → (Known k c × (right k c ≡ right (suc k) c)) ⊎ IsIn c (flat_map targets s)) × AreRight (suc k) ss

-- What writes leave as it was.
use Rattle.std.proofs.Common.{◌≡◌, ℕ, List, [], ◌∷◌, ◌++◌, length, get_or, set, refl, sym, ◌∙◌, ap, ◌≢◌, ◌⊎◌, inl, inr, get_or-set_other}
use Rattle.std.proofs.lemmas.Bool.{cases_eq}
use Rattle.std.proofs.lemmas.List.{length-set}
use Rattle.std.specs.List.{AllByRecursion as Every}
use Rattle.dom_words.specs.State.{array_of}
use Rattle.dom_words.proofs.Stored.{set_here}
use Rattle.banzai_config.specs.Action.{Arrays, Write, store}

pub store-append : (vs ws : List Write) (arrays : Arrays) → store (vs ++ ws) arrays ≡ store ws (store vs arrays)
store-append [] ws arrays = refl
store-append (v ∷ vs) ws arrays = store-append vs ws (set arrays v.array (set (get_or arrays v.array []) v.index v.word))

pub length-store : (ws : List Write) (arrays : Arrays) → length (store ws arrays) ≡ length arrays
length-store [] arrays = refl
length-store (w ∷ ws) arrays =
    length-store ws (set arrays w.array (set (get_or arrays w.array []) w.index w.word)) ∙ length-set arrays w.array (set (get_or arrays w.array []) w.index w.word)

-- writes to other arrays leave an array
pub store-other : (ws : List Write) (arrays : Arrays) (k : ℕ) → Every (λ (w : Write). w.array ≢ k) ws → array_of (store ws arrays) k ≡ array_of arrays k
store-other [] arrays k p = refl
store-other (w ∷ ws) arrays k p =
    let ne : k ≢ w.array = λ e. p.0 (sym e) in
    store-other ws (set arrays w.array (set (get_or arrays w.array []) w.index w.word)) k p.1
    ∙ get_or-set_other arrays w.array k (set (get_or arrays w.array []) w.index w.word) [] ne

-- what writes make of an array depends on that array alone
pub store-same : (ws : List Write) (a b : Arrays) (k : ℕ) → array_of a k ≡ array_of b k → array_of (store ws a) k ≡ array_of (store ws b) k
store-same [] a b k e = e
store-same (w ∷ ws) a b k e =
    store-same ws (set a w.array (set (get_or a w.array []) w.index w.word)) (set b w.array (set (get_or b w.array []) w.index w.word)) k (one (cases_eq k w.array))
  where
    one : (k ≡ w.array) ⊎ (k ≢ w.array) → get_or (set a w.array (set (get_or a w.array []) w.index w.word)) k [] ≡ get_or (set b w.array (set (get_or b w.array []) w.index w.word)) k []
    one (inl is) = rw is (set_here a w.array w.index w.word ∙ ap (λ (xs : List ℕ). set xs w.index w.word) (rw is at e) ∙ sym (set_here b w.array w.index w.word))
    one (inr ne) = get_or-set_other a w.array k (set (get_or a w.array []) w.index w.word) [] ne ∙ e ∙ sym (get_or-set_other b w.array k (set (get_or b w.array []) w.index w.word) [] ne)

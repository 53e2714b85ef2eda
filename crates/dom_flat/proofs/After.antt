-- What the write flanks leave of an array.
use Rattle.std.proofs.Common.{◌≡◌, ℕ, zero, suc, Bool, true, false, nat_eq, List, [], ◌∷◌, Some, length, map, refl, sym, ap, ◌∙◌, subst, get_or-set_other}
use Rattle.std.specs.Prelude.{slice_get}
use Rattle.std.proofs.lemmas.Bool.{eqb-true, eq-eqb}
use Rattle.std.proofs.lemmas.List.{length-set}
use Rattle.dom_words.specs.State.{array_of, stored}
use Rattle.dom_words.proofs.Stored.{sizes-stored, stored-same}
use Rattle.dom_flat.specs.declared.line.Operand.{Operand}
use Rattle.dom_flat.specs.declared.line.Line.{Line}
use Rattle.dom_flat.specs.declared.line.Line.TheVariants as line
use Rattle.dom_flat.specs.Flanks.{Flank, fetch, store, plain, flank_of, writes_array}
use Rattle.dom_flat.specs.Lines.{IsQuiet, stores_to}
use Rattle.dom_flat.specs.Meaning.{operand_word, flank_arrays, line_arrays, arrays_after}
use Rattle.dom_flat.proofs.Order.{StoresAlone, AreStoredOnce}

module _ (val : ℕ → ℕ) where
  quiet_flank : (f : Flank) (arrays : List (List ℕ)) (a : ℕ) → writes_array a f ≡ false → array_of (flank_arrays f arrays val) a ≡ array_of arrays a
  quiet_flank (fetch b i) arrays a q = refl
  quiet_flank (store b i v) arrays a q =
      get_or-set_other arrays b a _ [] (λ e. absurd (let same : nat_eq a b ≡ true = eq-eqb a b e in cc))
  quiet_flank plain arrays a q = refl

  -- an array without a write flank stays
  pub after_quiet : (lines : List Line) (arrays : List (List ℕ)) (a : ℕ) → IsQuiet a lines → array_of (arrays_after lines arrays val) a ≡ array_of arrays a
  after_quiet [] arrays a q = refl
  after_quiet (l ∷ lines) arrays a q = after_quiet lines (line_arrays l arrays val) a q.1 ∙ quiet_flank (flank_of l) arrays a q.0

  length_flank : (f : Flank) (arrays : List (List ℕ)) → length (flank_arrays f arrays val) ≡ length arrays
  length_flank (fetch b i) arrays = refl
  length_flank (store b i v) arrays = length-set arrays b _
  length_flank plain arrays = refl

  -- there are as many arrays as before
  pub length-after : (lines : List Line) (arrays : List (List ℕ)) → length (arrays_after lines arrays val) ≡ length arrays
  length-after [] arrays = refl
  length-after (l ∷ lines) arrays = length-after lines (line_arrays l arrays val) ∙ length_flank (flank_of l) arrays

  -- of the same lengths
  pub sizes-flank : (f : Flank) (arrays : List (List ℕ)) → map (length {A = ℕ}) (flank_arrays f arrays val) ≡ map (length {A = ℕ}) arrays
  sizes-flank (fetch b i) arrays = refl
  sizes-flank (store b i v) arrays = sizes-stored arrays b (operand_word i val) (operand_word v val)
  sizes-flank plain arrays = refl

  quiet_at : (lines : List Line) (a k : ℕ) (l : Line) → IsQuiet a lines → slice_get lines k ≡ Some l → stores_to a l ≡ false
  quiet_at [] a k l q e = absurd (cc)
  quiet_at (m ∷ lines) a zero l q e = let is : m ≡ l = cc in subst (λ (x : Line). stores_to a x ≡ false) is q.0
  quiet_at (m ∷ lines) a (suc k) l q e = quiet_at lines a k l q.1 e

  -- the one write flank of an array decides
  pub after_stored : (lines : List Line) (arrays : List (List ℕ)) (j a : ℕ) (i v : Operand) → AreStoredOnce lines → slice_get lines j ≡ Some (line.Store a i v)
      → array_of (arrays_after lines arrays val) a ≡ array_of (stored arrays a (operand_word i val) (operand_word v val)) a
  after_stored [] arrays j a i v once e = absurd (cc)
  after_stored (l ∷ lines) arrays zero a i v once e =
      let is : l ≡ line.Store a i v = cc in
      let quiet : IsQuiet a lines = subst (λ (x : Line). StoresAlone (flank_of x) lines) is once.0 in
      after_quiet lines (line_arrays l arrays val) a quiet ∙ ap (λ (x : Line). array_of (line_arrays x arrays val) a) is
  after_stored (l ∷ lines) arrays (suc j) a i v once e =
      after_stored lines (line_arrays l arrays val) j a i v once.1 e
      ∙ stored-same (line_arrays l arrays val) arrays a (operand_word i val) (operand_word v val) (quiet_flank (flank_of l) arrays a (apart (flank_of l) once.0))
    where
      apart : (f : Flank) → StoresAlone f lines → writes_array a f ≡ false
      apart (fetch b k) q = refl
      apart (store b k w) q = by_case (nat_eq a b) refl
        where
          by_case : (t : Bool) → nat_eq a b ≡ t → t ≡ false
          by_case false h = refl
          by_case true h = absurd (let is : a ≡ b = eqb-true a b h in let no : nat_eq b a ≡ false = quiet_at lines b j (line.Store a i v) q e in let on : nat_eq b a ≡ true = eq-eqb b a (sym is) in cc)
      apart plain q = refl

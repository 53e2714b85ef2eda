-- What a run of the statements makes holds between its values.
use Rattle.std.proofs.Common.{◌≡◌, ℕ, zero, suc, ◌+◌, ◌-◌, ◌<◌, ◌≤◌, true, List, [], ◌∷◌, ◌++◌, Some, length, map, refl, sym, ap, ◌∙◌, subst, arith, get_or-set_other, ◌⊎◌, inl, inr}
use Rattle.std.specs.Prelude.{slice_get, slice_index}
use Rattle.std.specs.List.{AllByRecursion as Every}
use Rattle.std.proofs.lemmas.Bool.{ltb-true, and_parts, cases_lt}
use Rattle.std.proofs.lemmas.List.{length_push}
use Rattle.dom_words.specs.Operators.{bin_word, chosen, reduced, un_word}
use Rattle.dom_words.specs.State.{Hash, element_of, fetched, stored}
use Rattle.dom_flat.specs.declared.line.Operand.{Operand}
use Rattle.dom_flat.specs.declared.line.Operand.TheVariants.{Const, Value}
use Rattle.dom_flat.specs.declared.line.Line.{Line}
use Rattle.dom_flat.specs.declared.line.Line.TheVariants as line
use Rattle.dom_flat.specs.Flanks.{Flank, fetch, store, plain, flank_of}
use Rattle.dom_flat.specs.Lines.{makes, operands_of, with_operands}
use Rattle.dom_flat.specs.Kept.{is_below, are_below}
use Rattle.dom_flat.specs.Meaning.{operand_word, line_word, flank_arrays, line_arrays, FlatEnv, line_step, run_lines, values_after, flat_entering, arrays_after, HoldTogether}
use Rattle.dom_flat.proofs.Order.{AreEarlier, Clears, AreFetchedFirst}
use Rattle.dom_flat.proofs.After.{sizes-flank}

-- an element of a joined list
pub index_front : (xs ys : List ℕ) (k : ℕ) → k < length xs → slice_index (xs ++ ys) k ≡ slice_index xs k
index_front [] ys k h = absurd (omega arith)
index_front (x ∷ xs) ys zero h = refl
index_front (x ∷ xs) ys (suc k) h = index_front xs ys k (omega arith)

pub index_seam : (xs : List ℕ) (x : ℕ) (ys : List ℕ) → slice_index (xs ++ x ∷ ys) (length xs) ≡ x
index_seam [] x ys = refl
index_seam (y ∷ xs) x ys = index_seam xs x ys

module _ (f : Operand → Operand) where
  pub operands-with : (l : Line) → operands_of (with_operands f l) ≡ map f (operands_of l)
  operands-with (line.Fetch array i) = refl
  operands-with (line.Store array i value) = refl
  operands-with (line.Un op a) = refl
  operands-with (line.Bin op a b) = refl
  operands-with (line.Cond c a b) = refl
  operands-with (line.Hash unit modulus args) = refl

  pub makes-with : (l : Line) → makes (with_operands f l) ≡ makes l
  makes-with (line.Fetch array i) = refl
  makes-with (line.Store array i value) = refl
  makes-with (line.Un op a) = refl
  makes-with (line.Bin op a b) = refl
  makes-with (line.Cond c a b) = refl
  makes-with (line.Hash unit modulus args) = refl

  -- the operands in the place of others have their words
  abbrev pub HaveWords : (ℕ → ℕ) → (ℕ → ℕ) → List Operand → Type 0
  HaveWords new old os = Every (λ o. operand_word (f o) new ≡ operand_word o old) os

  pub words-with : (new old : ℕ → ℕ) (os : List Operand) → HaveWords new old os → map (λ o. operand_word o new) (map f os) ≡ map (λ o. operand_word o old) os
  words-with new old [] p = refl
  words-with new old (o ∷ os) p =
      ap (λ (w : ℕ). w ∷ map (λ u. operand_word u new) (map f os)) p.0 ∙ ap (λ (ws : List ℕ). operand_word o old ∷ ws) (words-with new old os p.1)

  -- then a statement with them makes the same word
  pub line_word-with : (hash : Hash) (l : Line) (arrays : List (List ℕ)) (new old : ℕ → ℕ) → HaveWords new old (operands_of l) → line_word hash (with_operands f l) arrays new ≡ line_word hash l arrays old
  line_word-with hash (line.Fetch array i) arrays new old p = ap (fetched arrays array) p.0
  line_word-with hash (line.Store array i value) arrays new old p = refl
  line_word-with hash (line.Un op a) arrays new old p = ap (un_word op) p.0
  line_word-with hash (line.Bin op a b) arrays new old p =
      ap (λ (x : ℕ). bin_word op x (operand_word (f b) new)) p.0 ∙ ap (bin_word op (operand_word a old)) p.1.0
  line_word-with hash (line.Cond c a b) arrays new old p =
      ap (λ (x : ℕ). chosen x (operand_word (f a) new) (operand_word (f b) new)) p.0
      ∙ ap (λ (x : ℕ). chosen (operand_word c old) x (operand_word (f b) new)) p.1.0
      ∙ ap (chosen (operand_word c old) (operand_word a old)) p.1.1.0
  line_word-with hash (line.Hash unit modulus args) arrays new old p =
      ap (λ (ws : List ℕ). reduced modulus (hash unit ws)) (words-with new old args p)

  -- and leaves the same arrays
  pub line_arrays-with : (l : Line) (arrays : List (List ℕ)) (new old : ℕ → ℕ) → HaveWords new old (operands_of l) → line_arrays (with_operands f l) arrays new ≡ line_arrays l arrays old
  line_arrays-with (line.Fetch array i) arrays new old p = refl
  line_arrays-with (line.Store array i value) arrays new old p =
      ap (λ (x : ℕ). stored arrays array x (operand_word (f value) new)) p.0 ∙ ap (stored arrays array (operand_word i old)) p.1.0
  line_arrays-with (line.Un op a) arrays new old p = refl
  line_arrays-with (line.Bin op a b) arrays new old p = refl
  line_arrays-with (line.Cond c a b) arrays new old p = refl
  line_arrays-with (line.Hash unit modulus args) arrays new old p = refl

same_operands : (os : List Operand) → map (λ o. o) os ≡ os
same_operands [] = refl
same_operands (o ∷ os) = ap (λ (us : List Operand). o ∷ us) (same_operands os)

as_it_is : (l : Line) → with_operands (λ o. o) l ≡ l
as_it_is (line.Fetch array i) = refl
as_it_is (line.Store array i value) = refl
as_it_is (line.Un op a) = refl
as_it_is (line.Bin op a b) = refl
as_it_is (line.Cond c a b) = refl
as_it_is (line.Hash unit modulus args) = ap (line.Hash unit modulus) (same_operands args)

-- two readings of values agree on operands
abbrev pub AgreeOn : (ℕ → ℕ) → (ℕ → ℕ) → List Operand → Type 0
AgreeOn f g os = HaveWords (λ o. o) f g os

pub words_same : (f g : ℕ → ℕ) (os : List Operand) → AgreeOn f g os → map (λ o. operand_word o f) os ≡ map (λ o. operand_word o g) os
words_same f g os p = ap (map (λ o. operand_word o f)) (sym (same_operands os)) ∙ words-with (λ o. o) f g os p

-- a statement's word is the same on values that agree on its operands
pub line_word-same : (hash : Hash) (l : Line) (arrays : List (List ℕ)) (f g : ℕ → ℕ) → AgreeOn f g (operands_of l) → line_word hash l arrays f ≡ line_word hash l arrays g
line_word-same hash l arrays f g p =
    ap (λ (m : Line). line_word hash m arrays f) (sym (as_it_is l)) ∙ line_word-with (λ o. o) hash l arrays f g p

-- and so are the arrays that it leaves
pub line_arrays-same : (l : Line) (arrays : List (List ℕ)) (f g : ℕ → ℕ) → AgreeOn f g (operands_of l) → line_arrays l arrays f ≡ line_arrays l arrays g
line_arrays-same l arrays f g p =
    ap (λ (m : Line). line_arrays m arrays f) (sym (as_it_is l)) ∙ line_arrays-with (λ o. o) l arrays f g p

operand_earlier : (n : ℕ) (f g : ℕ → ℕ) → ((v : ℕ) → v < n → f v ≡ g v) → (o : Operand) → is_below n o ≡ true → operand_word o f ≡ operand_word o g
operand_earlier n f g same (Const w) e = refl
operand_earlier n f g same (Value v) e = same v (ltb-true v n e)

-- readings that agree below n agree on operands below n
pub operands_earlier : (n : ℕ) (f g : ℕ → ℕ) → ((v : ℕ) → v < n → f v ≡ g v) → (os : List Operand) → are_below n os ≡ true → AgreeOn f g os
operands_earlier n f g same [] p = tt
operands_earlier n f g same (o ∷ os) p =
    let h = and_parts (is_below n o) (are_below n os) p in (operand_earlier n f g same o h.0, operands_earlier n f g same os h.1)

-- a later statement that the write flank clears makes the same word of the arrays before and after it
cleared : (hash : Hash) (f : Flank) (m : Line) (arrays : List (List ℕ)) (val g : ℕ → ℕ) → Clears f (flank_of m) → line_word hash m (flank_arrays f arrays val) g ≡ line_word hash m arrays g
cleared hash (store a i v) (line.Fetch b j) arrays val g ne =
    ap (λ (ws : List ℕ). slice_index ws (element_of ws (operand_word j g))) (get_or-set_other arrays a b _ [] ne)
cleared hash (store a i v) (line.Store b j w) arrays val g ne = refl
cleared hash (store a i v) (line.Un op b) arrays val g ne = refl
cleared hash (store a i v) (line.Bin op b c) arrays val g ne = refl
cleared hash (store a i v) (line.Cond b c d) arrays val g ne = refl
cleared hash (store a i v) (line.Hash unit modulus args) arrays val g ne = refl
cleared hash (fetch a i) m arrays val g ne = refl
cleared hash plain m arrays val g ne = refl

-- what holds of all statements holds of each
pub every_at : (P : Line → Type 0) (lines : List Line) (j : ℕ) (l : Line) → slice_get lines j ≡ Some l → Every P lines → P l
every_at P [] j l e p = absurd (cc)
every_at P (m ∷ lines) zero l e p = let is : m ≡ l = cc in subst P is p.0
every_at P (m ∷ lines) (suc j) l e p = every_at P lines j l e p.1

-- a statement that is there
line_at : (lines : List Line) (j : ℕ) → j < length lines → (l : Line) × (slice_get lines j ≡ Some l)
line_at [] j h = absurd (omega arith)
line_at (l ∷ lines) zero h = (l, refl)
line_at (l ∷ lines) (suc j) h = line_at lines j (omega arith)

-- its operands are before it
pub earlier_at : (n : ℕ) (lines : List Line) (j : ℕ) (l : Line) → AreEarlier n lines → slice_get lines j ≡ Some l → are_below (n + j) (operands_of l) ≡ true
earlier_at n [] j l earlier e = absurd (cc)
earlier_at n (m ∷ lines) zero l earlier e =
    let is : m ≡ l = cc in
    let here : n + 0 ≡ n = omega arith in
    ap (λ (k : ℕ). are_below k (operands_of l)) here ∙ subst (λ (x : Line). are_below n (operands_of x) ≡ true) is earlier.0
earlier_at n (m ∷ lines) (suc j) l earlier e =
    let next : n + suc j ≡ suc n + j = omega arith in
    ap (λ (k : ℕ). are_below k (operands_of l)) next ∙ earlier_at (suc n) lines j l earlier.1 e

module _ (hash : Hash) where
  pub longer : (env : FlatEnv) (l : Line) → length (line_step hash env l).values ≡ suc (length env.values)
  longer env l =
      let size = length_push env.values (line_word hash l env.arrays (slice_index env.values)) in omega arith

  -- the values so far stay
  pub run_kept : (env : FlatEnv) (lines : List Line) (v : ℕ) → v < length env.values → values_after hash env lines v ≡ slice_index env.values v
  run_kept env [] v h = refl
  run_kept env (l ∷ lines) v h =
      let size = longer env l in
      run_kept (line_step hash env l) lines v (omega arith) ∙ index_front env.values _ v h

  same_after : (env : FlatEnv) (lines : List Line) (l : Line) → are_below (length env.values) (operands_of l) ≡ true → AgreeOn (slice_index env.values) (values_after hash env lines) (operands_of l)
  same_after env lines l e =
      operands_earlier (length env.values) (slice_index env.values) (values_after hash env lines) (λ v h. sym (run_kept env lines v h)) (operands_of l) e

  -- each statement's word in the end is that of the arrays at the beginning
  pub run_made : (env : FlatEnv) (lines : List Line) → AreEarlier (length env.values) lines → AreFetchedFirst lines
      → (j : ℕ) (l : Line) → slice_get lines j ≡ Some l
      → values_after hash env lines (length env.values + j) ≡ line_word hash l env.arrays (values_after hash env lines)
  run_made env [] earlier first j l e = absurd (cc)
  run_made env (m ∷ lines) earlier first zero l e =
      let size = longer env m in
      let here : length env.values + 0 ≡ length env.values = omega arith in
      let is : m ≡ l = cc in
      ap (values_after hash env (m ∷ lines)) here
      ∙ run_kept (line_step hash env m) lines (length env.values) (omega arith)
      ∙ index_seam env.values _ []
      ∙ line_word-same hash m env.arrays (slice_index env.values) (values_after hash env (m ∷ lines)) (same_after env (m ∷ lines) m earlier.0)
      ∙ ap (λ (k : Line). line_word hash k env.arrays (values_after hash env (m ∷ lines))) is
  run_made env (m ∷ lines) earlier first (suc j) l e =
      let size = longer env m in
      let here : length env.values + suc j ≡ length (line_step hash env m).values + j = omega arith in
      let earlier' = subst (λ (n : ℕ). AreEarlier n lines) (sym size) earlier.1 in
      ap (values_after hash env (m ∷ lines)) here
      ∙ run_made (line_step hash env m) lines earlier' first.1 j l e
      ∙ cleared hash (flank_of m) l env.arrays (slice_index env.values) (values_after hash env (m ∷ lines)) (every_at (λ x. Clears (flank_of m) (flank_of x)) lines j l e first.0)

  -- and the arrays in the end are what the write flanks leave
  pub run_arrays : (env : FlatEnv) (lines : List Line) → AreEarlier (length env.values) lines → (run_lines hash env lines).arrays ≡ arrays_after lines env.arrays (values_after hash env lines)
  run_arrays env [] earlier = refl
  run_arrays env (l ∷ lines) earlier =
      let size = longer env l in
      let earlier' = subst (λ (n : ℕ). AreEarlier n lines) (sym size) earlier.1 in
      run_arrays (line_step hash env l) lines earlier'
      ∙ ap (λ (a : List (List ℕ)). arrays_after lines a (values_after hash env (l ∷ lines))) (line_arrays-same l env.arrays (slice_index env.values) (values_after hash env (l ∷ lines)) (same_after env (l ∷ lines) l earlier.0))

  -- the values of a run hold together
  pub run_makes : (lines : List Line) (packet : List ℕ) (arrays : List (List ℕ)) → AreEarlier (length packet) lines → AreFetchedFirst lines
      → HoldTogether hash lines arrays packet (values_after hash (flat_entering packet arrays) lines)
  run_makes lines packet arrays earlier first = record {
    entering = λ v h. run_kept (flat_entering packet arrays) lines v h;
    made = λ j l e. run_made (flat_entering packet arrays) lines earlier first j l e;
  }

  -- a run makes one value a statement
  pub length_run : (env : FlatEnv) (lines : List Line) → length (run_lines hash env lines).values ≡ length env.values + length lines
  length_run env [] = omega arith
  length_run env (l ∷ lines) =
      let p = longer env l in
      let q = length_run (line_step hash env l) lines in
      omega arith

  -- a run keeps the lengths of the arrays
  pub run_sizes : (env : FlatEnv) (lines : List Line) → map (length {A = ℕ}) (run_lines hash env lines).arrays ≡ map (length {A = ℕ}) env.arrays
  run_sizes env [] = refl
  run_sizes env (l ∷ lines) = run_sizes (line_step hash env l) lines ∙ sizes-flank (slice_index env.values) (flank_of l) env.arrays

  -- values that hold together are the only ones
  pub made_alike : (lines : List Line) (packet : List ℕ) (arrays : List (List ℕ)) (f g : ℕ → ℕ) → AreEarlier (length packet) lines → HoldTogether hash lines arrays packet f → HoldTogether hash lines arrays packet g
      → (n v : ℕ) → v < n → v < length packet + length lines → f v ≡ g v
  made_alike lines packet arrays f g earlier p q zero v h few = absurd (omega arith)
  made_alike lines packet arrays f g earlier p q (suc n) v h few =
      by_case (cases_lt v (length packet)) (λ u low. made_alike lines packet arrays f g earlier p q n u (omega arith) (omega arith))
    where
      by_case : (v < length packet) ⊎ (length packet ≤ v) → ((u : ℕ) → u < v → f u ≡ g u) → f v ≡ g v
      by_case (inl low) before = p.entering v low ∙ sym (q.entering v low)
      by_case (inr high) before =
          let at = line_at lines (v - length packet) (omega arith) in
          let place : v ≡ length packet + (v - length packet) = omega arith in
          let below : are_below v (operands_of at.0) ≡ true = subst (λ (k : ℕ). are_below k (operands_of at.0) ≡ true) (sym place) (earlier_at (length packet) lines (v - length packet) at.0 earlier at.1) in
          let agree : AgreeOn f g (operands_of at.0) = operands_earlier v f g before (operands_of at.0) below in
          ap f place ∙ p.made (v - length packet) at.0 at.1 ∙ line_word-same hash at.0 arrays f g agree ∙ sym (q.made (v - length packet) at.0 at.1) ∙ sym (ap g place)

-- arrays at the end are the same for values that agree
pub arrays_after-same : (f g : ℕ → ℕ) (n : ℕ) (lines : List Line) (arrays : List (List ℕ)) → ((v : ℕ) → v < n + length lines → f v ≡ g v) → AreEarlier n lines → arrays_after lines arrays f ≡ arrays_after lines arrays g
arrays_after-same f g n [] arrays same earlier = refl
arrays_after-same f g n (l ∷ lines) arrays same earlier =
    ap (λ (a : List (List ℕ)). arrays_after lines a f) (line_arrays-same l arrays f g (operands_earlier n f g (λ v h. same v (omega arith)) (operands_of l) earlier.0))
    ∙ arrays_after-same f g (suc n) lines (line_arrays l arrays g) (λ v h. same v (omega arith)) earlier.1

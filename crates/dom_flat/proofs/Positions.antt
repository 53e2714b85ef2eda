-- What the tests of a statement list say of the statement at a place.
use Rattle.std.proofs.Common.{◌≡◌, ℕ, zero, suc, ◌+◌, ◌<◌, ◌≤◌, Bool, true, false, not, ◌&&◌, nat_eq, List, [], ◌∷◌, ◌++◌, Some, length, map, refl, sym, ap, ◌∙◌, subst, arith, ◌⊎◌, inl, inr}
use Rattle.std.specs.Prelude.{slice_get, slice_index_or}
use Rattle.std.specs.List.{list_all}
use Rattle.std.proofs.lemmas.Bool.{eqb-true, eq-eqb, and_parts, or_cases, or_left, not-true, ltb-true, cases_lt}
use Rattle.std.proofs.lemmas.List.{length_push, get_or_push, get_or_append_left, get_or_past, length-replicate}
use Rattle.dom_words.specs.declared.hash.HashName.{HashName}
use Rattle.dom_flat.specs.declared.line.Operand.{Operand}
use Rattle.dom_flat.specs.declared.line.Operand.TheVariants.{Const, Value}
use Rattle.dom_flat.specs.declared.line.Line.{Line}
use Rattle.dom_flat.specs.declared.line.Line.TheVariants as line
use Rattle.dom_flat.specs.Flanks.{flank_of}
use Rattle.dom_flat.specs.Lines.{is_value, makes, operands_of, uses}
use Rattle.dom_words.specs.Order.{Access, is_read, is_read_at, is_written, may_stand, reads_after, writes_after}
use Rattle.dom_flat.specs.Kept.{is_known, are_known, are_after, entered, values_of, is_same, are_flanked, has_array, has_its_args, lines_within, event_of}
use Rattle.dom_flat.specs.Laws.{IsMaker, IsFetchedBefore}
use Rattle.dom_flat.proofs.Facts.{same_operand, still_read, still_written, flanked_first, flanked_rest}

-- what holds of all holds of each
pub all_at : {X : Type 0} (t : X → Bool) (xs : List X) (k : ℕ) (x : X) → list_all t xs ≡ true → slice_get xs k ≡ Some x → t x ≡ true
all_at t [] k x e at = absurd (cc)
all_at t (y ∷ xs) zero x e at = let is : y ≡ x = cc in ap t (sym is) ∙ (and_parts (t y) (list_all t xs) e).0
all_at t (y ∷ xs) (suc k) x e at = all_at t xs k x (and_parts (t y) (list_all t xs) e).1 at

-- a used value is there, where the operands are
known_used : (values : List Bool) (os : List Operand) (u : ℕ) → are_known values os ≡ true → uses u os ≡ true → slice_index_or values u false ≡ true
known_used values [] u e i = absurd (cc)
known_used values (o ∷ os) u e i =
    let p = and_parts (is_known values o) (are_known values os) e in
    elim (or_cases (is_value u o) (uses u os) i) [ inl h ↦ here o p.0 h | inr h ↦ known_used values os u p.1 h ]
  where
    here : (x : Operand) → is_known values x ≡ true → is_value u x ≡ true → slice_index_or values u false ≡ true
    here (Const w) q h = absurd (cc)
    here (Value v) q h = ap (λ (n : ℕ). slice_index_or values n false) (eqb-true u v h) ∙ q

-- what a statement uses is there before it
record IsThere (values : List Bool) (lines : List Line) (b u : ℕ) : Type 0 where
  before : u < length values + b
  known : u < length values → slice_index_or values u false ≡ true
  made : (a : ℕ) → u ≡ length values + a → IsMaker lines a

one_later : (l : Line) (lines : List Line) (a : ℕ) → IsMaker lines a → IsMaker (l ∷ lines) (suc a)
one_later l lines a m = record { statement = m.statement; there = m.there; makes_one = m.makes_one }

is_there : (values : List Bool) (lines : List Line) (b u : ℕ) (l : Line) → are_after values lines ≡ true → slice_get lines b ≡ Some l → uses u (operands_of l) ≡ true → IsThere values lines b u
is_there values [] b u l e at i = absurd (cc)
is_there values (m ∷ lines) zero u l e at i =
    let same : m ≡ l = cc in
    let here = and_parts (are_known values (operands_of m)) (are_after (values ++ makes m ∷ []) lines) e in
    let is : slice_index_or values u false ≡ true = known_used values (operands_of m) u here.0 (ap (λ (x : Line). uses u (operands_of x)) same ∙ i) in
    let low : u < length values = below (cases_lt u (length values)) is in
    record { before = omega arith; known = λ h. is; made = λ a q. absurd (omega arith) }
  where
    below : (u < length values) ⊎ (length values ≤ u) → slice_index_or values u false ≡ true → u < length values
    below (inl h) q = h
    below (inr h) q = absurd (let past : slice_index_or values u false ≡ false = get_or_past values u false h in cc (past, q))
is_there values (m ∷ lines) (suc b) u l e at i =
    let rest = and_parts (are_known values (operands_of m)) (are_after (values ++ makes m ∷ []) lines) e in
    let r = is_there (values ++ makes m ∷ []) lines b u l rest.1 at i in
    let size = length_push values (makes m) in
    record {
      before = let h = r.before in omega arith;
      known = λ h. sym (get_or_append_left values (makes m ∷ []) false u h) ∙ r.known (omega arith);
      made = λ a q. by_case a q r.known r.made;
    }
  where
    by_case : (a : ℕ) → u ≡ length values + a → (u < length (values ++ makes m ∷ []) → slice_index_or (values ++ makes m ∷ []) u false ≡ true)
        → ((k : ℕ) → u ≡ length (values ++ makes m ∷ []) + k → IsMaker lines k) → IsMaker (m ∷ lines) a
    by_case zero q known made =
        let size = length_push values (makes m) in
        let is : length values ≡ u = omega arith in
        record { statement = m; there = refl; makes_one = sym (get_or_push values (makes m) false u is) ∙ known (omega arith) }
    by_case (suc k) q known made =
        let size = length_push values (makes m) in
        one_later m lines k (made k (omega arith))

made_there : (values : List Bool) (lines : List Line) (a : ℕ) → slice_index_or (values ++ map makes lines) (length values + a) false ≡ true → IsMaker lines a
made_there [] lines a e = here lines a (ap (λ (n : ℕ). slice_index_or (map makes lines) n false) (let n : a ≡ 0 + a = omega arith in n) ∙ e)
  where
    here : (ls : List Line) (v : ℕ) → slice_index_or (map makes ls) v false ≡ true → IsMaker ls v
    here [] v q = absurd (cc)
    here (l ∷ ls) zero q = record { statement = l; there = refl; makes_one = q }
    here (l ∷ ls) (suc v) q = one_later l ls v (here ls v q)
made_there (x ∷ values) lines a e =
    made_there values lines a (ap (λ (n : ℕ). slice_index_or (x ∷ values ++ map makes lines) n false) (let n : suc (length values + a) ≡ suc (length values) + a = omega arith in n) ∙ e)

module _ (fields : ℕ) (lines : List Line) where
  -- a statement uses values before its own
  pub used_before : (b u : ℕ) (l : Line) → are_after (entered fields) lines ≡ true → slice_get lines b ≡ Some l → uses u (operands_of l) ≡ true → u < fields + b
  used_before b u l order at i =
      let h : u < length (entered fields) + b = (is_there (entered fields) lines b u l order at i).before in
      let size = length-replicate fields true in
      omega arith

  -- and what it uses beside fields is made
  pub used_makes : (a b : ℕ) (l : Line) → are_after (entered fields) lines ≡ true → slice_get lines b ≡ Some l → uses (fields + a) (operands_of l) ≡ true → IsMaker lines a
  used_makes a b l order at i =
      let size : length (entered fields) ≡ fields = length-replicate fields true in
      (is_there (entered fields) lines b (fields + a) l order at i).made a (omega arith)

  -- so is what outputs use
  pub output_makes : (a : ℕ) (outputs : List Operand) → are_known (values_of fields lines) outputs ≡ true → uses (fields + a) outputs ≡ true → IsMaker lines a
  output_makes a outputs known i =
      let size : length (entered fields) ≡ fields = length-replicate fields true in
      made_there (entered fields) lines a (ap (λ (n : ℕ). slice_index_or (values_of fields lines) (n + a) false) size ∙ known_used (values_of fields lines) outputs (fields + a) known i)

now_read : (a : ℕ) (i : Operand) (l : Line) (reads : List (Access Operand)) → l ≡ line.Fetch a i → is_read (reads_after (event_of (flank_of l)) reads) a ≡ true
now_read a i l reads is =
    subst (λ (m : Line). is_read (reads_after (event_of (flank_of m)) reads) a ≡ true) (sym is) (or_left (nat_eq a a) (is_read reads a) (eq-eqb a a refl))

now_written : (a : ℕ) (i v : Operand) (l : Line) (writes : List ℕ) → l ≡ line.Store a i v → is_written (writes_after (event_of (flank_of l)) writes) a ≡ true
now_written a i v l writes is =
    subst (λ (m : Line). is_written (writes_after (event_of (flank_of m)) writes) a ≡ true) (sym is) (or_left (nat_eq a a) (is_written writes a) (eq-eqb a a refl))

-- what has been read is not read again
no_fetch : (lines : List Line) (reads : List (Access Operand)) (writes : List ℕ) (k a : ℕ) (i : Operand) → are_flanked reads writes lines ≡ true → is_read reads a ≡ true → slice_get lines k ≡ Some (line.Fetch a i) → ⊥
no_fetch [] reads writes k a i e r at = absurd (cc)
no_fetch (l ∷ lines) reads writes zero a i e r at =
    let is : l ≡ line.Fetch a i = cc in
    let here : not (is_read reads a) ≡ true = subst (λ (m : Line). may_stand is_same reads writes (event_of (flank_of m)) ≡ true) is (flanked_first reads writes l lines e) in
    let none : is_read reads a ≡ false = not-true (is_read reads a) here in
    absurd (cc (none, r))
no_fetch (l ∷ lines) reads writes (suc k) a i e r at =
    no_fetch lines (reads_after (event_of (flank_of l)) reads) (writes_after (event_of (flank_of l)) writes) k a i (flanked_rest reads writes l lines e) (still_read (flank_of l) reads a r) at

no_store : (lines : List Line) (reads : List (Access Operand)) (writes : List ℕ) (k a : ℕ) (i v : Operand) → are_flanked reads writes lines ≡ true → is_written writes a ≡ true → slice_get lines k ≡ Some (line.Store a i v) → ⊥
no_store [] reads writes k a i v e r at = absurd (cc)
no_store (l ∷ lines) reads writes zero a i v e r at =
    let is : l ≡ line.Store a i v = cc in
    let here : (is_read_at is_same reads a i && not (is_written writes a)) ≡ true = subst (λ (m : Line). may_stand is_same reads writes (event_of (flank_of m)) ≡ true) is (flanked_first reads writes l lines e) in
    let none : is_written writes a ≡ false = not-true (is_written writes a) (and_parts (is_read_at is_same reads a i) (not (is_written writes a)) here).1 in
    absurd (cc (none, r))
no_store (l ∷ lines) reads writes (suc k) a i v e r at =
    no_store lines (reads_after (event_of (flank_of l)) reads) (writes_after (event_of (flank_of l)) writes) k a i v (flanked_rest reads writes l lines e) (still_written (flank_of l) writes a r) at

-- two read flanks of one array are the same
pub one_fetch : (lines : List Line) (reads : List (Access Operand)) (writes : List ℕ) (j k a : ℕ) (i i' : Operand) → are_flanked reads writes lines ≡ true
    → slice_get lines j ≡ Some (line.Fetch a i) → slice_get lines k ≡ Some (line.Fetch a i') → j ≡ k
one_fetch [] reads writes j k a i i' e p q = absurd (cc)
one_fetch (l ∷ lines) reads writes zero zero a i i' e p q = refl
one_fetch (l ∷ lines) reads writes zero (suc k) a i i' e p q =
    absurd (no_fetch lines (reads_after (event_of (flank_of l)) reads) (writes_after (event_of (flank_of l)) writes) k a i' (flanked_rest reads writes l lines e) (now_read a i l reads (cc)) q)
one_fetch (l ∷ lines) reads writes (suc j) zero a i i' e p q =
    absurd (no_fetch lines (reads_after (event_of (flank_of l)) reads) (writes_after (event_of (flank_of l)) writes) j a i (flanked_rest reads writes l lines e) (now_read a i' l reads (cc)) p)
one_fetch (l ∷ lines) reads writes (suc j) (suc k) a i i' e p q =
    ap suc (one_fetch lines (reads_after (event_of (flank_of l)) reads) (writes_after (event_of (flank_of l)) writes) j k a i i' (flanked_rest reads writes l lines e) p q)

-- two write flanks of one array are the same
pub one_store : (lines : List Line) (reads : List (Access Operand)) (writes : List ℕ) (j k a : ℕ) (i i' v v' : Operand) → are_flanked reads writes lines ≡ true
    → slice_get lines j ≡ Some (line.Store a i v) → slice_get lines k ≡ Some (line.Store a i' v') → j ≡ k
one_store [] reads writes j k a i i' v v' e p q = absurd (cc)
one_store (l ∷ lines) reads writes zero zero a i i' v v' e p q = refl
one_store (l ∷ lines) reads writes zero (suc k) a i i' v v' e p q =
    absurd (no_store lines (reads_after (event_of (flank_of l)) reads) (writes_after (event_of (flank_of l)) writes) k a i' v' (flanked_rest reads writes l lines e) (now_written a i v l writes (cc)) q)
one_store (l ∷ lines) reads writes (suc j) zero a i i' v v' e p q =
    absurd (no_store lines (reads_after (event_of (flank_of l)) reads) (writes_after (event_of (flank_of l)) writes) j a i v (flanked_rest reads writes l lines e) (now_written a i' v' l writes (cc)) p)
one_store (l ∷ lines) reads writes (suc j) (suc k) a i i' v v' e p q =
    ap suc (one_store lines (reads_after (event_of (flank_of l)) reads) (writes_after (event_of (flank_of l)) writes) j k a i i' v v' (flanked_rest reads writes l lines e) p q)

was_read : (l : Line) (lines : List Line) (reads : List (Access Operand)) (a j : ℕ) (i : Operand) → is_read_at is_same (reads_after (event_of (flank_of l)) reads) a i ≡ true → (is_read_at is_same reads a i ≡ true) ⊎ IsFetchedBefore (l ∷ lines) (suc j) a i
was_read (line.Fetch b k) lines reads a j i e =
    elim (or_cases (nat_eq b a && is_same k i) (is_read_at is_same reads a i) e) [ inl h ↦ inr (here (and_parts (nat_eq b a) (is_same k i) h)) | inr h ↦ inl h ]
  where
    here : (nat_eq b a ≡ true) × (is_same k i ≡ true) → IsFetchedBefore (line.Fetch b k ∷ lines) (suc j) a i
    here p = let x = eqb-true b a p.0 in let y = same_operand k i p.1 in record { place = zero; before = omega arith; there = cc }
was_read (line.Store b k v) lines reads a j i e = inl e
was_read (line.Un op b) lines reads a j i e = inl e
was_read (line.Bin op b c) lines reads a j i e = inl e
was_read (line.Cond b c d) lines reads a j i e = inl e
was_read (line.Hash unit modulus args) lines reads a j i e = inl e

store_reads : (lines : List Line) (reads : List (Access Operand)) (writes : List ℕ) (j a : ℕ) (i v : Operand) → are_flanked reads writes lines ≡ true → slice_get lines j ≡ Some (line.Store a i v)
    → (is_read_at is_same reads a i ≡ true) ⊎ IsFetchedBefore lines j a i
store_reads [] reads writes j a i v e at = absurd (cc)
store_reads (l ∷ lines) reads writes zero a i v e at =
    let is : l ≡ line.Store a i v = cc in
    let here : (is_read_at is_same reads a i && not (is_written writes a)) ≡ true = subst (λ (m : Line). may_stand is_same reads writes (event_of (flank_of m)) ≡ true) is (flanked_first reads writes l lines e) in
    inl (and_parts (is_read_at is_same reads a i) (not (is_written writes a)) here).0
store_reads (l ∷ lines) reads writes (suc j) a i v e at =
    by_case (store_reads lines (reads_after (event_of (flank_of l)) reads) (writes_after (event_of (flank_of l)) writes) j a i v (flanked_rest reads writes l lines e) at)
  where
    by_case : (is_read_at is_same (reads_after (event_of (flank_of l)) reads) a i ≡ true) ⊎ IsFetchedBefore lines j a i → (is_read_at is_same reads a i ≡ true) ⊎ IsFetchedBefore (l ∷ lines) (suc j) a i
    by_case (inl h) = was_read l lines reads a j i h
    by_case (inr r) = inr (record { place = suc r.place; before = (let h = r.before in omega arith); there = r.there })

-- an array that is stored is fetched at the same index before
pub store_fetched : (lines : List Line) (j a : ℕ) (i v : Operand) → are_flanked [] [] lines ≡ true → slice_get lines j ≡ Some (line.Store a i v) → IsFetchedBefore lines j a i
store_fetched lines j a i v e at = elim (store_reads lines [] [] j a i v e at) [ inl h ↦ absurd (cc) | inr r ↦ r ]

module _ (arrays : ℕ) (lines : List Line) (ranges : lines_within arrays lines ≡ true) where
  within_at : (k : ℕ) (l : Line) → slice_get lines k ≡ Some l → (has_array arrays l ≡ true) × (has_its_args l ≡ true)
  within_at k l at = and_parts (has_array arrays l) (has_its_args l) (all_at (λ m. has_array arrays m && has_its_args m) lines k l ranges at)

  -- the array of a flank is there
  pub fetch_within : (k a : ℕ) (i : Operand) → slice_get lines k ≡ Some (line.Fetch a i) → a < arrays
  fetch_within k a i at = ltb-true a arrays (within_at k (line.Fetch a i) at).0

  pub store_within : (k a : ℕ) (i v : Operand) → slice_get lines k ≡ Some (line.Store a i v) → a < arrays
  store_within k a i v at = ltb-true a arrays (within_at k (line.Store a i v) at).0

  -- a hash has as many arguments as its unit takes
  pub args_within : (k modulus : ℕ) (unit : HashName) (args : List Operand) → slice_get lines k ≡ Some (line.Hash unit modulus args) → length args ≡ unit.args
  args_within k modulus unit args at = eqb-true (length args) unit.args (within_at k (line.Hash unit modulus args) at).1

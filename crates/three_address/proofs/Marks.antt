-- The marks are those of the statements that are needed.
use Rattle.std.proofs.Common.{◌≡◌, ℕ, zero, suc, ◌+◌, ◌-◌, ◌<◌, ◌≤◌, ◌||◌, ◌&&◌, ◌≢◌, nat_eq, nat_lt, Bool, true, false, List, [], ◌∷◌, length, drop, refl, sym, ap, ◌∙◌, subst, arith, get_or, set, get_or-set_other, drop-cons, add-one, inl, inr, ◌⊎◌, if◌then◌else◌}
use Rattle.std.specs.Prelude.{fold, replicate}
use Rattle.std.specs.List.{AllByRecursion as Every, list_any}
use Rattle.std.proofs.lemmas.Bool.{ltb-true, ltb-false, eq-eqb, ne_eqb, and_parts, cases_eq}
use Rattle.std.proofs.lemmas.List.{drop-set, drop-set-lt, drop_all, get_or-replicate, get_or-set_same, length-replicate, length-set}
use Rattle.dom_flat.specs.declared.line.Operand.{Operand}
use Rattle.dom_flat.specs.declared.line.Operand.TheVariants.{Const, Value}
use Rattle.dom_flat.specs.declared.line.Line.{Line}
use Rattle.dom_flat.specs.declared.line.Line.TheVariants as line
use Rattle.dom_flat.specs.Kept.{are_after, are_below, entered, has_array, has_its_args, is_below, lines_within}
use Rattle.dom_flat.specs.Lines.{is_value, operands_of, stores_to, uses}
use Rattle.dom_flat.proofs.Order.{AreEarlier}
use Rattle.dom_flat.proofs.Facts.{are_earlier}
use Rattle.three_address.specs.inner.Marking.{all_marked, is_marked_flank, marked, store_marked, swept_one}
use Rattle.three_address.specs.Needs.{is_kept_flank, is_stored, is_used, kept, needed}
use Rattle.three_address.proofs.Numbers.{below_more}

-- statements from number k on, the last first
abbrev pub swept : ℕ → List Bool → ℕ → List Line → List Bool → List Bool
swept fields stored k [] marks = marks
swept fields stored k (l ∷ lines) marks = swept_one fields stored k l (swept fields stored (suc k) lines marks)

or_none : (b : Bool) → (b || false) ≡ b
or_none true = refl
or_none false = refl

or_one : (b : Bool) → (b || true) ≡ true
or_one true = refl
or_one false = refl

or_three : (a b c : Bool) → ((a || b) || c) ≡ (a || (b || c))
or_three true b c = refl
or_three false b c = refl

or_turned : (a b c : Bool) → ((a || b) || c) ≡ (a || (c || b))
or_turned true b c = refl
or_turned false true true = refl
or_turned false true false = refl
or_turned false false true = refl
or_turned false false false = refl

or_first_false : (a b : Bool) → (a || b) ≡ false → a ≡ false
or_first_false true b e = e
or_first_false false b e = refl

pub length_marked : (fields : ℕ) (marks : List Bool) (o : Operand) → length (marked fields marks o) ≡ length marks
length_marked fields marks (Const w) = refl
length_marked fields marks (Value v) = by_case (nat_lt v fields)
  where
    by_case : (b : Bool) → length (if b then marks else set marks (v - fields) true) ≡ length marks
    by_case true = refl
    by_case false = length-set marks (v - fields) true

pub length_all_marked : (fields : ℕ) (marks : List Bool) (os : List Operand) → length (all_marked fields marks os) ≡ length marks
length_all_marked fields marks [] = refl
length_all_marked fields marks (o ∷ os) = length_all_marked fields (marked fields marks o) os ∙ length_marked fields marks o

-- a place has a mark if it had one, or if its value is the operand
mark_at : (fields : ℕ) (marks : List Bool) (o : Operand) (i : ℕ) → i < length marks → get_or (marked fields marks o) i false ≡ (get_or marks i false || is_value (fields + i) o)
mark_at fields marks (Const w) i h = sym (or_none (get_or marks i false))
mark_at fields marks (Value v) i h = by_case (nat_lt v fields) refl
  where
    other : fields + i ≢ v → get_or marks i false ≡ (get_or marks i false || nat_eq (fields + i) v)
    other ne = sym (ap (λ (b : Bool). get_or marks i false || b) (ne_eqb (fields + i) v ne) ∙ or_none (get_or marks i false))

    by_place : fields ≤ v → (i ≡ v - fields) ⊎ (i ≢ v - fields) → get_or (set marks (v - fields) true) i false ≡ (get_or marks i false || nat_eq (fields + i) v)
    by_place le (inl is) =
        let there : fields + i ≡ v = omega arith in
        ap (λ (j : ℕ). get_or (set marks j true) i false) (sym is)
        ∙ get_or-set_same marks i true false h
        ∙ sym (ap (λ (b : Bool). get_or marks i false || b) (eq-eqb (fields + i) v there) ∙ or_one (get_or marks i false))
    by_place le (inr ne) =
        get_or-set_other marks (v - fields) i true false ne ∙ other (λ (q : fields + i ≡ v). ne (omega arith))

    by_case : (b : Bool) → nat_lt v fields ≡ b → get_or (if b then marks else set marks (v - fields) true) i false ≡ (get_or marks i false || nat_eq (fields + i) v)
    by_case true e = let below = ltb-true v fields e in other (λ (q : fields + i ≡ v). omega arith)
    by_case false e = by_place (ltb-false v fields e) (cases_eq i (v - fields))

marks_at : (fields : ℕ) (marks : List Bool) (os : List Operand) (i : ℕ) → i < length marks → get_or (all_marked fields marks os) i false ≡ (get_or marks i false || uses (fields + i) os)
marks_at fields marks [] i h = sym (or_none (get_or marks i false))
marks_at fields marks (o ∷ os) i h =
    let size = length_marked fields marks o in
    marks_at fields (marked fields marks o) os i (omega arith)
    ∙ ap (λ (b : Bool). b || uses (fields + i) os) (mark_at fields marks o i h)
    ∙ or_three (get_or marks i false) (is_value (fields + i) o) (uses (fields + i) os)

-- operands of values below v leave the marks from v's place on
marked_after : (fields k v : ℕ) (marks : List Bool) (o : Operand) → v ≡ fields + k → is_below v o ≡ true → drop k (marked fields marks o) ≡ drop k marks
marked_after fields k v marks (Const w) e h = refl
marked_after fields k v marks (Value u) e h = by_case (nat_lt u fields) refl
  where
    by_case : (b : Bool) → nat_lt u fields ≡ b → drop k (if b then marks else set marks (u - fields) true) ≡ drop k marks
    by_case true q = refl
    by_case false q =
        let le = ltb-false u fields q in
        let below = ltb-true u v h in
        drop-set-lt k marks (u - fields) true (omega arith)

all_marked_after : (fields k v : ℕ) (marks : List Bool) (os : List Operand) → v ≡ fields + k → are_below v os ≡ true → drop k (all_marked fields marks os) ≡ drop k marks
all_marked_after fields k v marks [] e h = refl
all_marked_after fields k v marks (o ∷ os) e h =
    let p = and_parts (is_below v o) (are_below v os) h in
    all_marked_after fields k v (marked fields marks o) os e p.1 ∙ marked_after fields k v marks o e p.0

module _ (all : List Line) (outputs : List Operand) (fields : ℕ) (stored : List Bool) (marks : List Bool) where
  -- after the statements from number k on
  record Swept (k : ℕ) (lines : List Line) (found : List Bool) : Type 0 where
    pub size : length found ≡ length marks
    pub later : drop k found ≡ needed all outputs (fields + k) lines
    pub before : (i : ℕ) → i < k → get_or found i false ≡ is_used outputs (kept (drop k found) lines) (fields + i)

  -- one statement more
  sweep_more : (k v : ℕ) (l : Line) (lines : List Line) (found : List Bool) → v ≡ fields + k → length marks ≡ k + suc (length lines) → are_below v (operands_of l) ≡ true → is_marked_flank stored l ≡ is_kept_flank all l
      → Swept (suc k) lines found → Swept k (l ∷ lines) (swept_one fields stored k l found)
  sweep_more k v l lines found e n earlier flank rest = by_case (get_or found k false || is_marked_flank stored l) refl
    where
      later : drop (suc k) found ≡ needed all outputs (suc (fields + k)) lines
      later =
          let m : fields + suc k ≡ suc (fields + k) = omega arith in rest.later ∙ ap (λ (u : ℕ). needed all outputs u lines) m

      within : k < length found
      within = let s = rest.size in omega arith

      mark : Bool
      mark =
          is_used outputs (kept (needed all outputs (suc (fields + k)) lines) lines) (fields + k) || is_kept_flank all l

      test : (get_or found k false || is_marked_flank stored l) ≡ mark
      test =
          ap (λ (b : Bool). b || is_marked_flank stored l) (rest.before k (omega arith) ∙ ap (λ (ms : List Bool). is_used outputs (kept ms lines) (fields + k)) later)
          ∙ ap (λ (b : Bool). is_used outputs (kept (needed all outputs (suc (fields + k)) lines) lines) (fields + k) || b) flank

      by_case : (b : Bool) → (get_or found k false || is_marked_flank stored l) ≡ b
          → Swept k (l ∷ lines) (if b then all_marked fields (set found k true) (operands_of l) else found)
      by_case true q =
          let here : drop k (all_marked fields (set found k true) (operands_of l)) ≡ true ∷ drop (suc k) found =
          all_marked_after fields k v (set found k true) (operands_of l) e earlier ∙ drop-set found k true within ∙ ap (λ (j : ℕ). true ∷ drop j found) (add-one k) in
          let size = length-set found k true in
          let s = rest.size in
          record {
            size = length_all_marked fields (set found k true) (operands_of l) ∙ size ∙ rest.size;
            later = here ∙ ap (λ (ms : List Bool). true ∷ ms) later ∙ ap (λ (b : Bool). b ∷ needed all outputs (suc (fields + k)) lines) (sym q ∙ test);
            before = λ i h.
                marks_at fields (set found k true) (operands_of l) i (omega arith)
                ∙ ap (λ (b : Bool). b || uses (fields + i) (operands_of l)) (get_or-set_other found k i true false (λ (x : i ≡ k). omega arith) ∙ rest.before i (omega arith))
                ∙ or_turned (uses (fields + i) outputs) (list_any (λ m. uses (fields + i) (operands_of m)) (kept (drop (suc k) found) lines)) (uses (fields + i) (operands_of l))
                ∙ sym (ap (λ (ms : List Bool). is_used outputs (kept ms (l ∷ lines)) (fields + i)) here);
          }
      by_case false q =
          let unmarked : get_or found k false ≡ false = or_first_false (get_or found k false) (is_marked_flank stored l) q in
          let here : drop k found ≡ false ∷ drop (suc k) found =
          drop-cons found k false within ∙ ap (λ (b : Bool). b ∷ drop (suc k) found) unmarked in
          record {
            size = rest.size;
            later = here ∙ ap (λ (ms : List Bool). false ∷ ms) later ∙ ap (λ (b : Bool). b ∷ needed all outputs (suc (fields + k)) lines) (sym q ∙ test);
            before = λ i h.
                rest.before i (omega arith) ∙ sym (ap (λ (ms : List Bool). is_used outputs (kept ms (l ∷ lines)) (fields + i)) here);
          }

  module _ (start : (i : ℕ) → i < length marks → get_or marks i false ≡ uses (fields + i) outputs) where
    sweep_all : (k v : ℕ) (lines : List Line) → v ≡ fields + k → length marks ≡ k + length lines → AreEarlier v lines → Every (λ l. is_marked_flank stored l ≡ is_kept_flank all l) lines
        → Swept k lines (swept fields stored k lines marks)
    sweep_all k v [] e n earlier flanks =
        let none : drop k marks ≡ [] = drop_all k marks (omega arith) in
        record {
          size = refl;
          later = none;
          before = λ i h.
              start i (omega arith) ∙ sym (ap (λ (ms : List Bool). is_used outputs (kept ms []) (fields + i)) none ∙ or_none (uses (fields + i) outputs));
        }
    sweep_all k v (l ∷ lines) e n earlier flanks =
        sweep_more k v l lines (swept fields stored (suc k) lines marks) e n earlier.0 flanks.0 (sweep_all (suc k) (suc v) lines (omega arith) (omega arith) earlier.1 flanks.1)

-- the table of arrays with a write flank
store_at : (table : List Bool) (l : Line) (a : ℕ) → a < length table → get_or (store_marked table l) a false ≡ (get_or table a false || stores_to a l)
store_at table (line.Fetch b i) a h = sym (or_none (get_or table a false))
store_at table (line.Store b i v) a h = by_place (cases_eq a b)
  where
    by_place : (a ≡ b) ⊎ (a ≢ b) → get_or (set table b true) a false ≡ (get_or table a false || nat_eq a b)
    by_place (inl is) =
        ap (λ (j : ℕ). get_or (set table j true) a false) (sym is)
        ∙ get_or-set_same table a true false h
        ∙ sym (ap (λ (t : Bool). get_or table a false || t) (eq-eqb a b is) ∙ or_one (get_or table a false))
    by_place (inr ne) =
        get_or-set_other table b a true false ne
        ∙ sym (ap (λ (t : Bool). get_or table a false || t) (ne_eqb a b ne) ∙ or_none (get_or table a false))
store_at table (line.Un o b) a h = sym (or_none (get_or table a false))
store_at table (line.Bin o b c) a h = sym (or_none (get_or table a false))
store_at table (line.Cond b c d) a h = sym (or_none (get_or table a false))
store_at table (line.Hash unit modulus args) a h = sym (or_none (get_or table a false))

pub length_store : (table : List Bool) (l : Line) → length (store_marked table l) ≡ length table
length_store table (line.Fetch b i) = refl
length_store table (line.Store b i v) = length-set table b true
length_store table (line.Un o b) = refl
length_store table (line.Bin o b c) = refl
length_store table (line.Cond b c d) = refl
length_store table (line.Hash unit modulus args) = refl

stores_at : (table : List Bool) (lines : List Line) (a : ℕ) → a < length table → get_or (fold store_marked table lines) a false ≡ (get_or table a false || is_stored lines a)
stores_at table [] a h = sym (or_none (get_or table a false))
stores_at table (l ∷ lines) a h =
    let size = length_store table l in
    stores_at (store_marked table l) lines a (omega arith)
    ∙ ap (λ (b : Bool). b || is_stored lines a) (store_at table l a h)
    ∙ or_three (get_or table a false) (stores_to a l) (is_stored lines a)

flank_found : (arrays : ℕ) (all : List Line) (l : Line) → has_array arrays l ≡ true → is_marked_flank (fold store_marked (replicate arrays false) all) l ≡ is_kept_flank all l
flank_found arrays all (line.Fetch a i) h =
    let size = length-replicate arrays false in
    let within = ltb-true a arrays h in
    stores_at (replicate arrays false) all a (omega arith) ∙ ap (λ (b : Bool). b || is_stored all a) (get_or-replicate arrays a false false within)
flank_found arrays all (line.Store a i v) h = refl
flank_found arrays all (line.Un o a) h = refl
flank_found arrays all (line.Bin o a b) h = refl
flank_found arrays all (line.Cond c a b) h = refl
flank_found arrays all (line.Hash unit modulus args) h = refl

flanks_found : (arrays : ℕ) (all lines : List Line) → lines_within arrays lines ≡ true → Every (λ l. is_marked_flank (fold store_marked (replicate arrays false) all) l ≡ is_kept_flank all l) lines
flanks_found arrays all [] h = tt
flanks_found arrays all (l ∷ lines) h =
    let p = and_parts (has_array arrays l && has_its_args l) (lines_within arrays lines) h in
    (flank_found arrays all l (and_parts (has_array arrays l) (has_its_args l) p.0).0, flanks_found arrays all lines p.1)

-- the marks that are found are those of the needed statements
pub needs_found : (arrays fields : ℕ) (lines : List Line) (outputs : List Operand) → lines_within arrays lines ≡ true → are_after (entered fields) lines ≡ true
    → swept fields (fold store_marked (replicate arrays false) lines) 0 lines (all_marked fields (replicate (length lines) false) outputs) ≡ needed lines outputs fields lines
needs_found arrays fields lines outputs ranges order =
    let none : List Bool = replicate (length lines) false in
    let size = length-replicate (length lines) false in
    let marks = all_marked fields none outputs in
    let sizes = length_all_marked fields none outputs in
    let earlier : AreEarlier fields lines = subst (λ (n : ℕ). AreEarlier n lines) (length-replicate fields true) (are_earlier (entered fields) lines order) in
    let found = sweep_all lines outputs fields (fold store_marked (replicate arrays false) lines) marks (λ i h. marks_at fields none outputs i (omega arith) ∙ ap (λ (b : Bool). b || uses (fields + i) outputs) (get_or-replicate (length lines) i false false (omega arith))) 0 fields lines (omega arith) (omega arith) earlier (flanks_found arrays lines lines ranges) in
    let here : fields + 0 ≡ fields = omega arith in
    found.later ∙ ap (λ (u : ℕ). needed lines outputs u lines) here

-- what the sweep needs to know of a statement
length_stores : (table : List Bool) (lines : List Line) → length (fold store_marked table lines) ≡ length table
length_stores table [] = refl
length_stores table (l ∷ lines) = length_stores (store_marked table l) lines ∙ length_store table l

pub table_length : (arrays : ℕ) (lines : List Line) (table : List Bool) → table ≡ fold store_marked (replicate arrays false) lines → length table ≡ arrays
table_length arrays lines table e =
    ap length e ∙ length_stores (replicate arrays false) lines ∙ length-replicate arrays false

pub array_at : (arrays n : ℕ) (lines : List Line) (k : ℕ) (l : Line) → n ≡ arrays → k < length lines → l ≡ get_or lines k l → lines_within arrays lines ≡ true → has_array n l ≡ true
array_at arrays n [] k l q h e w = absurd (omega arith)
array_at arrays n (m ∷ lines) zero l q h e w =
    let p = and_parts (has_array arrays m && has_its_args m) (lines_within arrays lines) w in
    ap (λ (a : ℕ). has_array a l) q ∙ ap (has_array arrays) e ∙ (and_parts (has_array arrays m) (has_its_args m) p.0).0
array_at arrays n (m ∷ lines) (suc k) l q h e w =
    array_at arrays n lines k l q (omega arith) e (and_parts (has_array arrays m && has_its_args m) (lines_within arrays lines) w).1

below_at : (u n : ℕ) (lines : List Line) (k : ℕ) (l : Line) → u + length lines ≤ n → k < length lines → l ≡ get_or lines k l → AreEarlier u lines → are_below n (operands_of l) ≡ true
below_at u n [] k l le h e w = absurd (omega arith)
below_at u n (m ∷ lines) zero l le h e w =
    ap (λ (x : Line). are_below n (operands_of x)) e ∙ below_more u n (operands_of m) (omega arith) w.0
below_at u n (m ∷ lines) (suc k) l le h e w = below_at (suc u) n lines k l (omega arith) (omega arith) e w.1

pub operands_at : (fields n : ℕ) (lines : List Line) (k : ℕ) (l : Line) → n ≡ length lines → k < length lines → l ≡ get_or lines k l → are_after (entered fields) lines ≡ true → are_below (fields + n) (operands_of l) ≡ true
operands_at fields n lines k l q h e order =
    let earlier : AreEarlier fields lines = subst (λ (m : ℕ). AreEarlier m lines) (length-replicate fields true) (are_earlier (entered fields) lines order) in
    below_at fields (fields + n) lines k l (omega arith) h e earlier

-- the sweep is over
pub needs_swept : (arrays fields k : ℕ) (lines : List Line) (outputs : List Operand) (stored found : List Bool) → k ≤ 0 → stored ≡ fold store_marked (replicate arrays false) lines → found ≡ swept fields stored k (drop k lines) (all_marked fields (replicate (length lines) false) outputs) → lines_within arrays lines ≡ true → are_after (entered fields) lines ≡ true
    → found ≡ needed lines outputs fields lines
needs_swept arrays fields zero lines outputs stored found h s e ranges order =
    e ∙ ap (λ (t : List Bool). swept fields t 0 lines (all_marked fields (replicate (length lines) false) outputs)) s ∙ needs_found arrays fields lines outputs ranges order
needs_swept arrays fields (suc k) lines outputs stored found h s e ranges order = absurd (omega arith)

-- What the tests of a statement list say.
use Rattle.std.proofs.Common.{◌≡◌, ℕ, suc, ◌<◌, ◌≤◌, Bool, true, false, not, ◌&&◌, nat_eq, List, [], ◌∷◌, ◌++◌, length, refl, sym, ap, subst, arith, ⊎_elim}
use Rattle.std.specs.Prelude.{⊤}
use Rattle.std.specs.List.{AllByRecursion as Every}
use Rattle.std.proofs.lemmas.Bool.{lt-ltb, eqb-true, eq-eqb, and_parts, and_from, or_left, or_right, or_cases, not-true, cases_lt}
use Rattle.std.proofs.lemmas.List.{length_push, get_or_past}
use Rattle.dom_flat.specs.declared.line.Operand.{Operand}
use Rattle.dom_flat.specs.declared.line.Operand.TheVariants.{Const, Value}
use Rattle.dom_flat.specs.declared.line.Line.{Line}
use Rattle.dom_flat.specs.Flanks.{Flank, fetch, store, plain, flank_of, writes_array}
use Rattle.dom_flat.specs.Lines.{IsQuiet, makes, operands_of}
use Rattle.dom_words.specs.Order.{Access, is_read, is_read_at, is_written, may_stand, reads_after, writes_after}
use Rattle.dom_flat.specs.Kept.{is_below, are_below, is_known, are_known, are_after, is_same, are_flanked, event_of}
use Rattle.dom_flat.proofs.Order.{AreEarlier, Clears, AreFetchedFirst, StoresAlone, AreStoredOnce}

-- a value that is there has a number below theirs
pub known_below : (values : List Bool) (o : Operand) → is_known values o ≡ true → is_below (length values) o ≡ true
known_below values (Const w) e = refl
known_below values (Value v) e =
    ⊎_elim (λ (h : v < length values). lt-ltb v (length values) h) (λ (h : length values ≤ v). absurd (let past = get_or_past values v false h in cc)) (cases_lt v (length values))

pub all_known_below : (values : List Bool) (os : List Operand) → are_known values os ≡ true → are_below (length values) os ≡ true
all_known_below values [] e = refl
all_known_below values (o ∷ os) e =
    let h = and_parts (is_known values o) (are_known values os) e in and_from _ _ (known_below values o h.0) (all_known_below values os h.1)

-- statements use values before their own
pub are_earlier : (values : List Bool) (lines : List Line) → are_after values lines ≡ true → AreEarlier (length values) lines
are_earlier values [] e = tt
are_earlier values (l ∷ lines) e =
    let h = and_parts (are_known values (operands_of l)) (are_after (values ++ makes l ∷ []) lines) e in
    let size : length (values ++ makes l ∷ []) ≡ suc (length values) = let p = length_push values (makes l) in omega arith in
    (all_known_below values (operands_of l) h.0, subst (λ (n : ℕ). AreEarlier n lines) size (are_earlier (values ++ makes l ∷ []) lines h.1))

pub same_operand : (i j : Operand) → is_same i j ≡ true → i ≡ j
same_operand (Const w) (Const v) e = ap Const (eqb-true w v e)
same_operand (Const w) (Value v) e = absurd (cc)
same_operand (Value v) (Const w) e = absurd (cc)
same_operand (Value v) (Value u) e = ap Value (eqb-true v u e)

-- an array that is read at an index is read
pub read_at_read : (reads : List (Access Operand)) (a : ℕ) (i : Operand) → is_read_at is_same reads a i ≡ true → is_read reads a ≡ true
read_at_read [] a i e = absurd (cc)
read_at_read (r ∷ reads) a i e =
    ⊎_elim (λ (h : (nat_eq r.array a && is_same r.index i) ≡ true). or_left (nat_eq r.array a) (is_read reads a) (and_parts (nat_eq r.array a) (is_same r.index i) h).0) (λ (h : is_read_at is_same reads a i ≡ true). or_right (nat_eq r.array a) (is_read reads a) (read_at_read reads a i h)) (or_cases (nat_eq r.array a && is_same r.index i) (is_read_at is_same reads a i) e)

-- what is read or written stays so
pub still_read : (f : Flank) (reads : List (Access Operand)) (a : ℕ) → is_read reads a ≡ true → is_read (reads_after (event_of f) reads) a ≡ true
still_read (fetch b i) reads a e = or_right (nat_eq b a) (is_read reads a) e
still_read (store b i v) reads a e = e
still_read plain reads a e = e

pub still_written : (f : Flank) (writes : List ℕ) (a : ℕ) → is_written writes a ≡ true → is_written (writes_after (event_of f) writes) a ≡ true
still_written (fetch b i) writes a e = e
still_written (store b i v) writes a e = or_right (nat_eq a b) (is_written writes a) e
still_written plain writes a e = e

module _ (reads : List (Access Operand)) (writes : List ℕ) where
  -- what has been read is not read again
  pub not_read_again : (f : Flank) (a : ℕ) (i v : Operand) → is_read reads a ≡ true → may_stand is_same reads writes (event_of f) ≡ true → Clears (store a i v) f
  not_read_again (fetch b j) a i v r e =
      λ (q : b ≡ a). absurd (let at_b : is_read reads b ≡ true = subst (λ (x : ℕ). is_read reads x ≡ true) (sym q) r in let none = not-true (is_read reads b) e in cc)
  not_read_again (store b j w) a i v r e = tt
  not_read_again plain a i v r e = tt

  -- what has been written is not written again
  pub not_written_again : (f : Flank) (a : ℕ) → is_written writes a ≡ true → may_stand is_same reads writes (event_of f) ≡ true → writes_array a f ≡ false
  not_written_again (fetch b j) a w e = refl
  not_written_again (store b j v) a w e = by_case (nat_eq a b) refl (and_parts (is_read_at is_same reads b j) (not (is_written writes b)) e).1
    where
      by_case : (t : Bool) → nat_eq a b ≡ t → not (is_written writes b) ≡ true → t ≡ false
      by_case false q n = refl
      by_case true q n =
          absurd (let at_b : is_written writes b ≡ true = subst (λ (x : ℕ). is_written writes x ≡ true) (eqb-true a b q) w in let none = not-true (is_written writes b) n in cc)
  not_written_again plain a w e = refl

  -- the first of the statements, and the rest
  pub flanked_first : (l : Line) (lines : List Line) → are_flanked reads writes (l ∷ lines) ≡ true → may_stand is_same reads writes (event_of (flank_of l)) ≡ true
  flanked_first l lines e =
      (and_parts (may_stand is_same reads writes (event_of (flank_of l))) (are_flanked (reads_after (event_of (flank_of l)) reads) (writes_after (event_of (flank_of l)) writes) lines) e).0

  pub flanked_rest : (l : Line) (lines : List Line) → are_flanked reads writes (l ∷ lines) ≡ true → are_flanked (reads_after (event_of (flank_of l)) reads) (writes_after (event_of (flank_of l)) writes) lines ≡ true
  flanked_rest l lines e =
      (and_parts (may_stand is_same reads writes (event_of (flank_of l))) (are_flanked (reads_after (event_of (flank_of l)) reads) (writes_after (event_of (flank_of l)) writes) lines) e).1

clears_rest : (a : ℕ) (i v : Operand) (reads : List (Access Operand)) (writes : List ℕ) (lines : List Line) → is_read reads a ≡ true → are_flanked reads writes lines ≡ true → Every (λ m. Clears (store a i v) (flank_of m)) lines
clears_rest a i v reads writes [] r e = tt
clears_rest a i v reads writes (l ∷ lines) r e =
    (not_read_again reads writes (flank_of l) a i v r (flanked_first reads writes l lines e), clears_rest a i v (reads_after (event_of (flank_of l)) reads) (writes_after (event_of (flank_of l)) writes) lines (still_read (flank_of l) reads a r) (flanked_rest reads writes l lines e))

quiet_rest : (a : ℕ) (reads : List (Access Operand)) (writes : List ℕ) (lines : List Line) → is_written writes a ≡ true → are_flanked reads writes lines ≡ true → IsQuiet a lines
quiet_rest a reads writes [] w e = tt
quiet_rest a reads writes (l ∷ lines) w e =
    (not_written_again reads writes (flank_of l) a w (flanked_first reads writes l lines e), quiet_rest a (reads_after (event_of (flank_of l)) reads) (writes_after (event_of (flank_of l)) writes) lines (still_written (flank_of l) writes a w) (flanked_rest reads writes l lines e))

-- no write flank stands before a read flank of its array
pub fetched_first : (reads : List (Access Operand)) (writes : List ℕ) (lines : List Line) → are_flanked reads writes lines ≡ true → AreFetchedFirst lines
fetched_first reads writes [] e = tt
fetched_first reads writes (l ∷ lines) e =
    (clears (flank_of l) (flanked_first reads writes l lines e) (flanked_rest reads writes l lines e), fetched_first (reads_after (event_of (flank_of l)) reads) (writes_after (event_of (flank_of l)) writes) lines (flanked_rest reads writes l lines e))
  where
    free : (ms : List Line) → Every (λ m. ⊤) ms
    free [] = tt
    free (m ∷ ms) = (tt, free ms)

    clears : (f : Flank) → may_stand is_same reads writes (event_of f) ≡ true → are_flanked (reads_after (event_of f) reads) (writes_after (event_of f) writes) lines ≡ true → Every (λ m. Clears f (flank_of m)) lines
    clears (fetch a i) q k = free lines
    clears (store a i v) q k =
        clears_rest a i v reads (a ∷ writes) lines (read_at_read reads a i (and_parts (is_read_at is_same reads a i) (not (is_written writes a)) q).0) k
    clears plain q k = free lines

-- each array has one write flank at most
pub stored_once : (reads : List (Access Operand)) (writes : List ℕ) (lines : List Line) → are_flanked reads writes lines ≡ true → AreStoredOnce lines
stored_once reads writes [] e = tt
stored_once reads writes (l ∷ lines) e =
    (alone (flank_of l) (flanked_rest reads writes l lines e), stored_once (reads_after (event_of (flank_of l)) reads) (writes_after (event_of (flank_of l)) writes) lines (flanked_rest reads writes l lines e))
  where
    alone : (f : Flank) → are_flanked (reads_after (event_of f) reads) (writes_after (event_of f) writes) lines ≡ true → StoresAlone f lines
    alone (fetch a i) k = tt
    alone (store a i v) k = quiet_rest a reads (a ∷ writes) lines (or_left (nat_eq a a) (is_written writes a) (eq-eqb a a refl)) k
    alone plain k = tt

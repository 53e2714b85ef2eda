-- The constants of codelets are words of 32 bits, and the containers and arrays that they name have numbers below 2^32.
use Rattle.std.proofs.Common.{◌≡◌, ℕ, zero, suc, ◌+◌, ◌-◌, ◌*◌, ◌<◌, ◌≤◌, Bool, true, false, ◌&&◌, nat_eq, List, [], ◌∷◌, length, map, Option, Some, None, refl, sym, ap, ◌∙◌, arith, inl, inr}
use Rattle.std.specs.Bool.{if◌then◌else◌}
use Rattle.std.specs.Prelude.{nat_lt, slice_get, slice_index_or}
use Rattle.std.specs.List.{filter_map, list_all, range_with_len}
use Rattle.std.proofs.lemmas.Bool.{and_from, and_parts, lt-ltb, ltb-true}
use Rattle.dom_words.specs.State.{fits_word}
use Rattle.dom_flat.specs.declared.line.Operand.{Operand}
use Rattle.dom_flat.specs.declared.line.Operand.TheVariants.{Const, Value}
use Rattle.dom_flat.specs.declared.line.Line.{Line}
use Rattle.dom_flat.specs.declared.line.Line.TheVariants as line
use Rattle.dom_flat.specs.Kept.{has_word, have_words}
use Rattle.dom_flat.specs.Lines.{operands_of, with_operands}
use Rattle.codelets.specs.declared.answer.Codelets.{Codelets}
use Rattle.codelets.specs.declared.codelet.Codelet.{Codelet}
use Rattle.codelets.specs.declared.codelet.Slot.{Slot}
use Rattle.codelets.specs.Answer.{codelet_of, line_in, option_place, slot_of}
use Rattle.codelets.specs.Containers.{place}
use Rattle.codelets.specs.Cut.{Cut, in_order, line_of, option_line, outer, seen_by}
use Rattle.codelets.specs.Flat.{cut_of}
use Rattle.codelets.specs.declared.held.Held.{Held}
use Rattle.codelets.specs.Held.{held, held_at, held_by, new_of, if_so, is_shared, written}
use Rattle.codelets.specs.Linked.{count, together}
use Rattle.codelets.specs.Lists.{IsIn, first_some, has, option_or, place_in}
use Rattle.codelets.proofs.Lists.{range_in}

-- what is there passes
abbrev pub if_there : {X : Type 0} → (X → Bool) → Option X → Bool
if_there p None = true
if_there p (Some x) = p x

pub all_mapped : {X Y : Type 0} (p : Y → Bool) (f : X → Y) → ((x : X) → p (f x) ≡ true) → (xs : List X) → list_all p (map f xs) ≡ true
all_mapped p f each [] = refl
all_mapped p f each (x ∷ xs) = and_from (p (f x)) (list_all p (map f xs)) (each x) (all_mapped p f each xs)

pub all_kept : {X Y : Type 0} (p : X → Bool) (q : Y → Bool) (f : X → Y) → ((x : X) → p x ≡ true → q (f x) ≡ true) → (xs : List X) → list_all p xs ≡ true → list_all q (map f xs) ≡ true
all_kept p q f each [] e = refl
all_kept p q f each (x ∷ xs) e =
    let both = and_parts (p x) (list_all p xs) e in
    and_from (q (f x)) (list_all q (map f xs)) (each x both.0) (all_kept p q f each xs both.1)

got : {X : Type 0} (p : X → Bool) (xs : List X) (k : ℕ) → list_all p xs ≡ true → if_there p (slice_get xs k) ≡ true
got p [] k e = refl
got p (x ∷ xs) zero e = (and_parts (p x) (list_all p xs) e).0
got p (x ∷ xs) (suc k) e = got p xs k (and_parts (p x) (list_all p xs) e).1

got_or : {X : Type 0} (p : X → Bool) (xs : List (Option X)) (k : ℕ) → list_all (if_there p) xs ≡ true → if_there p (slice_index_or xs k None) ≡ true
got_or p [] k e = refl
got_or p (x ∷ xs) zero e = (and_parts (if_there p x) (list_all (if_there p) xs) e).0
got_or p (x ∷ xs) (suc k) e = got_or p xs k (and_parts (if_there p x) (list_all (if_there p) xs) e).1

pub first_there : {X Y : Type 0} (p : Y → Bool) (f : X → Option Y) → ((x : X) → if_there p (f x) ≡ true) → (xs : List X) → if_there p (first_some f xs) ≡ true
first_there p f each [] = refl
first_there {X} {Y} p f each (x ∷ xs) = by_case (f x) (each x) (first_there p f each xs)
  where
    by_case : (o : Option Y) → if_there p o ≡ true → if_there p (first_some f xs) ≡ true → if_there p (option_or o (first_some f xs)) ≡ true
    by_case None e rest = rest
    by_case (Some y) e rest = e

chosen_there : {X Y : Type 0} (p : Y → Bool) (f : X → Option Y) (xs : List X) → ((x : X) → IsIn x xs → if_there p (f x) ≡ true) → list_all p (filter_map f xs) ≡ true
chosen_there p f [] each = refl
chosen_there {X} {Y} p f (x ∷ xs) each = by_case (f x) refl (chosen_there p f xs (λ y i. each y (inr i)))
  where
    by_case : (o : Option Y) → f x ≡ o → list_all p (filter_map f xs) ≡ true → list_all p (filter_map f (x ∷ xs)) ≡ true
    by_case None is rest = rw is rest
    by_case (Some y) is rest = rw is (and_from (p y) (list_all p (filter_map f xs)) (sym (ap (if_there p) is) ∙ each x (inl refl)) rest)

-- a statement whose constants are words
abbrev pub has_line_words : Line → Bool
has_line_words l = have_words (operands_of l)

with_words : (f : Operand → Operand) → ((o : Operand) → has_word o ≡ true → has_word (f o) ≡ true) → (l : Line) → has_line_words l ≡ true → has_line_words (with_operands f l) ≡ true
with_words f each (line.Fetch array i) e = all_kept has_word has_word f each (i ∷ []) e
with_words f each (line.Store array i value) e = all_kept has_word has_word f each (i ∷ value ∷ []) e
with_words f each (line.Un op a) e = all_kept has_word has_word f each (a ∷ []) e
with_words f each (line.Bin op a b) e = all_kept has_word has_word f each (a ∷ b ∷ []) e
with_words f each (line.Cond c a b) e = all_kept has_word has_word f each (c ∷ a ∷ b ∷ []) e
with_words f each (line.Hash unit modulus args) e = all_kept has_word has_word f each args e

option_words : (f : Operand → Operand) → ((o : Operand) → has_word o ≡ true → has_word (f o) ≡ true) → (l : Option Line) → if_there has_line_words l ≡ true
    → if_there has_line_words (option_line (with_operands f) l) ≡ true
option_words f each None e = refl
option_words f each (Some l) e = with_words f each l e

pub place_low : (xs : List ℕ) (v : ℕ) → place_in xs v ≤ length xs
place_low [] v = omega arith
place_low (x ∷ xs) v = by_case (nat_eq x v) (place_low xs v)
  where
    by_case : (b : Bool) → place_in xs v ≤ length xs → (if b then 0 else suc (place_in xs v)) ≤ suc (length xs)
    by_case true h = omega arith
    by_case false h = omega arith

module _ (D : Cut) where
  outer_word : (o : Operand) → has_word o ≡ true → has_word (outer D o) ≡ true
  outer_word (Const w) e = e
  outer_word (Value v) e = by_case (nat_lt v D.linked.fields) (has D.twins (v - D.linked.fields))
    where
      by_case : (a b : Bool) → has_word (if a then Value v else (if b then Value (v + count D.linked) else Value v)) ≡ true
      by_case true b = refl
      by_case false true = refl
      by_case false false = refl

  seen_word : (b : ℕ) (o : Operand) → has_word o ≡ true → has_word (seen_by D b o) ≡ true
  seen_word b (Const w) e = e
  seen_word b (Value v) e = by_case (nat_lt v D.linked.fields) (together D.linked (v - D.linked.fields) b)
    where
      by_case : (a c : Bool) → has_word (if a then Value v else (if c then Value v else outer D (Value v))) ≡ true
      by_case true c = refl
      by_case false true = refl
      by_case false false = outer_word (Value v) refl

-- an array whose index is a word or a value, and whose number is below n
abbrev is_held_word : ℕ → Held → Bool
is_held_word n h = nat_lt h.array n && has_word h.index

module _ (D : Cut) (known : list_all has_line_words D.linked.lines ≡ true) where
  line_of_words : (b : ℕ) → if_there has_line_words (line_of D b) ≡ true
  line_of_words b = by_case (nat_lt b (count D.linked)) (has D.twins (b - count D.linked))
    where
      by_case : (x y : Bool) → if_there has_line_words (if x then option_line (with_operands (seen_by D b)) (slice_get D.linked.lines b)
          else (if y then option_line (with_operands (outer D)) (slice_get D.linked.lines (b - count D.linked)) else None)) ≡ true
      by_case true y = option_words (seen_by D b) (seen_word D b) (slice_get D.linked.lines b) (got has_line_words D.linked.lines b known)
      by_case false true = option_words (outer D) (outer_word D) (slice_get D.linked.lines (b - count D.linked)) (got has_line_words D.linked.lines (b - count D.linked) known)
      by_case false false = refl

  held_by_word : (c : List ℕ) (n array b : ℕ) (l : Option Line) → nat_lt array n ≡ true → if_there has_line_words l ≡ true → if_there (is_held_word n) (held_by D c array b l) ≡ true
  held_by_word c n array b None low e = refl
  held_by_word c n array b (Some (line.Fetch a i)) low e = by_case (nat_eq a array)
    where
      by_case : (x : Bool) → if_there (is_held_word n) (if x then Some (record { array = array; index = seen_by D b i; read = D.linked.fields + b; write = written D c array; old = if_so (is_shared D c (D.linked.fields + b)) (D.linked.fields + b); new = new_of D c array (written D c array) }) else None) ≡ true
      by_case true = and_from _ _ low (seen_word D b i (and_parts (has_word i) true e).0)
      by_case false = refl
  held_by_word c n array b (Some (line.Store a i v)) low e = refl
  held_by_word c n array b (Some (line.Un op a)) low e = refl
  held_by_word c n array b (Some (line.Bin op a d)) low e = refl
  held_by_word c n array b (Some (line.Cond a d f)) low e = refl
  held_by_word c n array b (Some (line.Hash unit modulus args)) low e = refl

  held_words : (c : List ℕ) → list_all (is_held_word D.linked.arrays) (held D c) ≡ true
  held_words c = chosen_there (is_held_word D.linked.arrays) (held_at D c) (range_with_len 0 D.linked.arrays) (λ array i.
      let low : array < D.linked.arrays = let r = (range_in 0 D.linked.arrays array i).1 in omega arith in
      first_there (is_held_word D.linked.arrays) (λ b. held_by D c array b (slice_get D.linked.lines b))
      (λ b. held_by_word c D.linked.arrays array b (slice_get D.linked.lines b) (lt-ltb array D.linked.arrays low) (got has_line_words D.linked.lines b known)) c)

-- a slot whose index is a word or a value, and whose other numbers are below 2^32
abbrev pub is_slot_low : Slot → Bool
is_slot_low s = fits_word s.array && (has_word s.index && (if_there fits_word s.old && if_there fits_word s.new))

abbrev pub has_low_slots : Codelet → Bool
has_low_slots c = list_all is_slot_low c.slots

module _ (cs : Codelets) where
  abbrev D : Cut
  D = cut_of cs.flat

  few : length cs.values < 4294967296
  few =
      let a : length cs.values ≤ length cs.flat.fields + length cs.flat.lines = cs.few_values in
      let b : length cs.flat.fields ≤ 64 = cs.flat.few_fields in
      let c : length cs.flat.lines ≤ 512 = cs.flat.few_lines in
      omega arith

  pub place_word : (v : ℕ) → fits_word (place_in cs.values v) ≡ true
  place_word v = lt-ltb (place_in cs.values v) 4294967296 (let a = place_low cs.values v in let b = few in omega arith)

  shown_place : (v : ℕ) → fits_word (place D v) ≡ true
  shown_place v = ap (λ (xs : List ℕ). fits_word (place_in xs v)) (sym cs.is_values) ∙ place_word v

  shown_option : (o : Option ℕ) → if_there fits_word (option_place D o) ≡ true
  shown_option None = refl
  shown_option (Some v) = shown_place v

  -- each statement with a number has words
  pub line_in_words : (b : ℕ) → if_there has_line_words (line_in cs.table b) ≡ true
  line_in_words b =
      got_or has_line_words cs.table b
      (ap (list_all (if_there has_line_words)) cs.is_table ∙ all_mapped (if_there has_line_words) (line_of D) (line_of_words D cs.flat.constants) (range_with_len 0 (2 * count D.linked)))

  low_slot : (h : Held) → is_held_word D.linked.arrays h ≡ true → is_slot_low (slot_of D h) ≡ true
  low_slot h e =
      let both = and_parts (nat_lt h.array D.linked.arrays) (has_word h.index) e in
      let low : h.array < length cs.flat.arrays = ltb-true h.array (length cs.flat.arrays) both.0 in
      let most : length cs.flat.arrays ≤ 32 = cs.flat.few_arrays in
      and_from _ _ (lt-ltb h.array 4294967296 (omega arith)) (and_from _ _ both.1 (and_from _ _ (shown_option h.old) (shown_option h.new)))

  pub slots_are_low : list_all has_low_slots cs.list ≡ true
  slots_are_low =
      ap (list_all has_low_slots) cs.is_list
      ∙ all_mapped has_low_slots (codelet_of D) (λ c. all_kept (is_held_word D.linked.arrays) is_slot_low (slot_of D) low_slot (held D c) (held_words D cs.flat.constants c)) (in_order D)

  pub output_words : have_words cs.outputs ≡ true
  output_words = ap have_words cs.is_outputs ∙ all_kept has_word has_word (outer D) (outer_word D) cs.flat.outputs cs.flat.output_constants

-- Plain rows: what the reader of records gives for them.
use Rattle.std.proofs.Common.{◌≡◌, ◌⊎◌, get_or, ℕ, ◌+◌, ◌<◌, ◌≤◌, Bool, true, false, List, [], ◌∷◌, ◌++◌, length, map, take, drop, Option, Some, None, Result, Ok, Err, refl, sym, ◌∙◌, ap, subst, arith, append_assoc, length-append, inl, inr}
use Rattle.std.specs.Prelude.{◌==◌, IfOk, nat_le, ◌-◌, ◌%◌, ◌^◌, ◌&&◌, ⊤, not, is_some}
use Rattle.std.specs.Char.{is_ascii_digit}
use Rattle.std.specs.List.{list_all}
use Rattle.std.proofs.lemmas.Bool.{and_from, and_parts, cases_Bool, eqb-true, le-leb, leb-true}
use Rattle.std.proofs.lemmas.List.{append-nil, length-drop, length-take-le, map-append, take-append-drop}
use Rattle.std.proofs.Math.Seq.{take-append_seam, take-length}
use Rattle.csv.specs.Machine.{Read, ends_at_end, next_record, step}
use Rattle.csv.specs.Reading.{default_config, is_bom, records, strip_bom}
use Rattle.csv.specs.declared.parser.State.{State}
use Rattle.csv.specs.declared.parser.State.TheVariants as st
use Rattle.csv.specs.declared.parser.Action.TheVariants as act
use Rattle.dom_words.specs.Number.{count_of, digits_value, is_digits, negated, number_up_to, word_of_text}
use Rattle.trace_text.specs.Plain.{ArePlainRows, IsPlainRow, LeadsWith, ends_line, ends_row, is_in_line}
use Rattle.trace_text.specs.Rows.{records_of}
use Rattle.trace_text.specs.Stored.{numbers_of, stored_packet, stored_packets}
use Rattle.trace_text.specs.Trace.{fields_refusal, gap_of, rows_refusal, words_refusal}
use Rattle.trace_text.proofs.Records.{records_of-first, records_of-none}
use Rattle.trace_text.proofs.Storing.{next-good, next-packets, next-stored}

-- all that stands behind the first bytes
pub rest-all : (n : ℕ) (text : List ℕ) → take (length text - n) (drop n text) ≡ drop n text
rest-all n text = rw (← length-drop n text) (take-length (drop n text))

-- Bytes that only join the field at hand.

pub record Inside (c : ℕ) : Type 0 where
  pub comma : (c == 44) ≡ false
  pub quote : (c == 34) ≡ false
  pub return : (c == 13) ≡ false
  pub feed : (c == 10) ≡ false

abbrev pub AllInside : List ℕ → Type 0
AllInside [] = ⊤
AllInside (c ∷ d) = Inside c × AllInside d

-- the states in which a field begins or goes on
abbrev is_open : State → Bool
is_open st.StartRecord = true
is_open st.StartField = true
is_open st.InField = true
is_open st.InQuoted = false
is_open st.AfterQuote = false
is_open st.InEscape = false
is_open st.InComment = false
is_open st.AfterCr = false

joins : (s : State) (c : ℕ) → is_open s ≡ true → Inside c → step default_config s c ≡ (st.InField, act.Copy)
joins st.StartRecord c opens i = rw (i.return, i.feed, i.quote, i.comma) refl
joins st.StartField c opens i = rw (i.quote, i.comma, i.return, i.feed) refl
joins st.InField c opens i = rw (i.comma, i.return, i.feed) refl
joins st.InQuoted c opens i = cc opens
joins st.AfterQuote c opens i = cc opens
joins st.InEscape c opens i = cc opens
joins st.InComment c opens i = cc opens
joins st.AfterCr c opens i = cc opens

joined-first : (s : State) (c : ℕ) (rest : List ℕ) (fields : List (List ℕ)) (field : List ℕ) → is_open s ≡ true → Inside c
    → next_record default_config s fields field (c ∷ rest) ≡ next_record default_config st.InField fields (field ++ c ∷ []) rest
unfolding next_record
joined-first s c rest fields field opens i = rw (joins s c opens i) refl

joined : (d rest : List ℕ) (fields : List (List ℕ)) (field : List ℕ) → AllInside d
    → next_record default_config st.InField fields field (d ++ rest) ≡ next_record default_config st.InField fields (field ++ d) rest
joined [] rest fields field inside = ap (λ (f : List ℕ). next_record default_config st.InField fields f rest) (sym (append-nil field))
joined (c ∷ d) rest fields field inside =
    joined-first st.InField c (d ++ rest) fields field refl inside.0
    ∙ joined d rest fields (field ++ c ∷ []) inside.1
    ∙ ap (λ (f : List ℕ). next_record default_config st.InField fields f rest) (append_assoc field (c ∷ []) d)

-- a field that is not empty
joined-all : (s : State) (c : ℕ) (d rest : List ℕ) (fields : List (List ℕ)) → is_open s ≡ true → AllInside (c ∷ d)
    → next_record default_config s fields [] ((c ∷ d) ++ rest) ≡ next_record default_config st.InField fields (c ∷ d) rest
joined-all s c d rest fields opens inside = joined-first s c (d ++ rest) fields [] opens inside.0 ∙ joined d rest fields (c ∷ []) inside.1

-- Bytes that end lines.

return_or_feed : (c : ℕ) → ends_line c ≡ true → (c ≡ 13) ⊎ (c ≡ 10)
return_or_feed c e = elim (cases_Bool (c == 13)) [
  | inl is ↦ inl (eqb-true c 13 is)
  | inr isnt ↦ let feed : (c == 10) ≡ true = rw isnt at e in inr (eqb-true c 10 feed)
]

after_return : (fields : List (List ℕ)) (field xs : List ℕ)
    → next_record default_config st.AfterCr fields field xs ≡ next_record default_config st.StartRecord fields field xs
unfolding next_record
after_return fields field [] = refl
after_return fields field (c ∷ rest) = elim (cases_Bool (c == 10)) [
  | inl is ↦ rw (eqb-true c 10 is) refl
  | inr isnt ↦ rw isnt refl
]

skipped : (c : ℕ) (xs : List ℕ) → ends_line c ≡ true → next_record default_config st.StartRecord [] [] (c ∷ xs) ≡ next_record default_config st.StartRecord [] [] xs
unfolding next_record
skipped c xs e = rw e refl

all-skipped : (ends xs : List ℕ) → list_all ends_line ends ≡ true → next_record default_config st.StartRecord [] [] (ends ++ xs) ≡ next_record default_config st.StartRecord [] [] xs
all-skipped [] xs h = refl
all-skipped (c ∷ ends) xs h =
    let both = and_parts (ends_line c) (list_all ends_line ends) h in
    skipped c (ends ++ xs) both.0 ∙ all-skipped ends xs both.1

-- where the next record is the same, all are
same-records : (s s2 : State) (xs ys : List ℕ) → ends_at_end s ≡ false → ends_at_end s2 ≡ false
    → next_record default_config s [] [] xs ≡ next_record default_config s2 [] [] ys → records_of s (Some xs) ≡ records_of s2 (Some ys)
same-records s s2 xs ys between between2 same = by_next (next_record default_config s2 [] [] ys) refl
  where
    by_next : (o : Option Read) → next_record default_config s2 [] [] ys ≡ o → records_of s (Some xs) ≡ records_of s2 (Some ys)
    by_next None e = records_of-none s xs between (same ∙ e) ∙ sym (records_of-none s2 ys between2 e)
    by_next (Some p) e = records_of-first s xs p between (same ∙ e) ∙ sym (records_of-first s2 ys p between2 e)

-- at the end of its line a row ends, and the other records follow
pub record RowEnds (fields : List (List ℕ)) (o : Option Read) (rest : List ℕ) : Type 0 where
  pub state : State
  pub left : List ℕ
  pub read : o ≡ Some (fields, state, left)
  pub same : records_of state (Some left) ≡ records default_config rest

row-ends : (s : State) (fields : List (List ℕ)) (field rest : List ℕ) → (s ≡ st.InField) ⊎ (s ≡ st.StartField) → ends_row rest ≡ true
    → RowEnds (fields ++ field ∷ []) (next_record default_config s fields field rest) rest
unfolding next_record
row-ends s fields field [] (inl opens) h = rw opens record { state = st.StartRecord; left = []; read = refl; same = refl }
row-ends s fields field [] (inr opens) h = rw opens record { state = st.StartRecord; left = []; read = refl; same = refl }
row-ends s fields field (c ∷ rest) opens h = elim (return_or_feed c h) [
  | inl is ↦ elim opens [ inl o ↦ rw (is, o) (returned refl) | inr o ↦ rw (is, o) (returned refl) ]
  | inr is ↦ elim opens [ inl o ↦ rw (is, o) (fed refl) | inr o ↦ rw (is, o) (fed refl) ]
]
  where
    returned : {o : Option Read} → o ≡ Some (fields ++ field ∷ [], st.AfterCr, rest) → RowEnds (fields ++ field ∷ []) o (13 ∷ rest)
    returned read = record {
      state = st.AfterCr;
      left = rest;
      read = read;
      same = same-records st.AfterCr st.StartRecord rest (13 ∷ rest) refl refl (after_return [] [] rest ∙ sym (skipped 13 rest refl));
    }

    fed : {o : Option Read} → o ≡ Some (fields ++ field ∷ [], st.StartRecord, rest) → RowEnds (fields ++ field ∷ []) o (10 ∷ rest)
    fed read = record {
      state = st.StartRecord;
      left = rest;
      read = read;
      same = same-records st.StartRecord st.StartRecord rest (10 ∷ rest) refl refl (sym (skipped 10 rest refl));
    }

-- Numbers are inside their fields.

digit-inside : (c : ℕ) → is_ascii_digit c ≡ true → Inside c
digit-inside c h = record { comma = isnt 44 refl; quote = isnt 34 refl; return = isnt 13 refl; feed = isnt 10 refl }
  where
    isnt : (n : ℕ) → is_ascii_digit n ≡ false → (c == n) ≡ false
    isnt n none = elim (cases_Bool (c == n)) [ inl is ↦ cc (rw (eqb-true c n is) at h) | inr other ↦ other ]

digits-inside : (text : List ℕ) → list_all is_ascii_digit text ≡ true → AllInside text
digits-inside [] h = tt
digits-inside (c ∷ text) h = let both = and_parts (is_ascii_digit c) (list_all is_ascii_digit text) h in (digit-inside c both.0, digits-inside text both.1)

-- The heading's line.

-- a line ends, and the other records follow
pub record LineEnds (o : Option Read) (rest : List ℕ) : Type 0 where
  pub read : Read
  pub is : o ≡ Some read
  pub same : records_of read.1 (Some read.2) ≡ records default_config rest

-- a byte within a line, behind which a field begins or goes on
pub record InLine (s : State) (fields : List (List ℕ)) (field : List ℕ) (c : ℕ) (xs : List ℕ) : Type 0 where
  pub state : State
  pub fields_after : List (List ℕ)
  pub field_after : List ℕ
  pub goes_on : (state ≡ st.InField) ⊎ (state ≡ st.StartField)
  pub step_is : next_record default_config s fields field (c ∷ xs) ≡ next_record default_config state fields_after field_after xs

parted : (s : State) (fields : List (List ℕ)) (field xs : List ℕ) → is_open s ≡ true
    → next_record default_config s fields field (44 ∷ xs) ≡ next_record default_config st.StartField (fields ++ field ∷ []) [] xs
unfolding next_record
parted st.StartRecord fields field xs opens = refl
parted st.StartField fields field xs opens = refl
parted st.InField fields field xs opens = refl
parted st.InQuoted fields field xs opens = cc opens
parted st.AfterQuote fields field xs opens = cc opens
parted st.InEscape fields field xs opens = cc opens
parted st.InComment fields field xs opens = cc opens
parted st.AfterCr fields field xs opens = cc opens

not-true : (b : Bool) → not b ≡ true → b ≡ false
not-true true h = cc h
not-true false h = refl

inside-line : (c : ℕ) → (c == 44) ≡ false → is_in_line c ≡ true → Inside c
inside-line c comma h =
    let both = and_parts (not (ends_line c)) (not (c == 34)) h in
    let ends = not-true (ends_line c) both.0 in
    elim (cases_Bool (c == 13)) [
      | inl is ↦ cc (rw is at ends)
      | inr return ↦ record { comma = comma; quote = not-true (c == 34) both.1; return = return; feed = rw return at ends }
    ]

in-line : (s : State) (fields : List (List ℕ)) (field : List ℕ) (c : ℕ) (xs : List ℕ) → is_open s ≡ true → is_in_line c ≡ true → InLine s fields field c xs
in-line s fields field c xs opens h = elim (cases_Bool (c == 44)) [
  | inl is ↦ rw (eqb-true c 44 is) record {
    state = st.StartField;
    fields_after = fields ++ field ∷ [];
    field_after = [];
    goes_on = inr refl;
    step_is = parted s fields field xs opens;
  }
  | inr isnt ↦ record {
    state = st.InField;
    fields_after = fields;
    field_after = field ++ c ∷ [];
    goes_on = inl refl;
    step_is = joined-first s c xs fields field opens (inside-line c isnt h);
  }
]

opens-on : (s : State) → (s ≡ st.InField) ⊎ (s ≡ st.StartField) → is_open s ≡ true
opens-on s (inl is) = rw is refl
opens-on s (inr is) = rw is refl

line-ends : (s : State) (d rest : List ℕ) (fields : List (List ℕ)) (field : List ℕ) → (s ≡ st.InField) ⊎ (s ≡ st.StartField)
    → list_all is_in_line d ≡ true → ends_row rest ≡ true → LineEnds (next_record default_config s fields field (d ++ rest)) rest
line-ends s [] rest fields field goes_on h ended =
    let e = row-ends s fields field rest goes_on ended in
    record { read = (fields ++ field ∷ [], e.state, e.left); is = e.read; same = e.same }
line-ends s (c ∷ d) rest fields field goes_on h ended =
    let both = and_parts (is_in_line c) (list_all is_in_line d) h in
    let i = in-line s fields field c (d ++ rest) (opens-on s goes_on) both.0 in
    let e = line-ends i.state d rest i.fields_after i.field_after i.goes_on both.1 ended in
    record { read = e.read; is = i.step_is ∙ e.is; same = e.same }

first-line : (d rest : List ℕ) → 0 < length d → list_all is_in_line d ≡ true → ends_row rest ≡ true
    → LineEnds (next_record default_config st.StartRecord [] [] (d ++ rest)) rest
first-line [] rest some h ended = absurd (omega arith)
first-line (c ∷ d) rest some h ended =
    let both = and_parts (is_in_line c) (list_all is_in_line d) h in
    let i = in-line st.StartRecord [] [] c (d ++ rest) refl both.0 in
    let e = line-ends i.state d rest i.fields_after i.field_after i.goes_on both.1 ended in
    record { read = e.read; is = i.step_is ∙ e.is; same = e.same }

-- the rows of a text are the records behind its first line
pub behind-heading : (ends d rest : List ℕ) (heading : List (List ℕ)) (rows : List (List (List ℕ))) → list_all ends_line ends ≡ true → 0 < length d
    → list_all is_in_line d ≡ true → ends_row rest ≡ true → records default_config (ends ++ (d ++ rest)) ≡ heading ∷ rows → rows ≡ records default_config rest
behind-heading ends d rest heading rows skip some h ended are =
    let e = first-line d rest some h ended in
    let first = records_of-first st.StartRecord (ends ++ (d ++ rest)) e.read refl (all-skipped ends (d ++ rest) skip ∙ e.is) in
    let both : heading ∷ rows ≡ e.read.0 ∷ records_of e.read.1 (Some e.read.2) = sym are ∙ first in
    ap (drop 1) both ∙ e.same

-- The byte order mark.

pub mark-there : (text : List ℕ) → 3 ≤ length text → is_bom (get_or text 0 0) (get_or text 1 0) (get_or text 2 0) ≡ true → drop 3 text ≡ strip_bom text
unfolding strip_bom
mark-there [] room is = absurd (omega arith)
mark-there (a ∷ []) room is = absurd (omega arith)
mark-there (a ∷ b ∷ []) room is = absurd (omega arith)
mark-there (a ∷ b ∷ c ∷ rest) room is = rw is refl

pub mark-none : (text : List ℕ) → 3 ≤ length text → is_bom (get_or text 0 0) (get_or text 1 0) (get_or text 2 0) ≡ false → text ≡ strip_bom text
unfolding strip_bom
mark-none [] room is = absurd (omega arith)
mark-none (a ∷ []) room is = absurd (omega arith)
mark-none (a ∷ b ∷ []) room is = absurd (omega arith)
mark-none (a ∷ b ∷ c ∷ rest) room is = rw is refl

pub mark-short : (text : List ℕ) → length text < 3 → text ≡ strip_bom text
unfolding strip_bom
mark-short [] room = refl
mark-short (a ∷ []) room = refl
mark-short (a ∷ b ∷ []) room = refl
mark-short (a ∷ b ∷ c ∷ rest) room = absurd (omega arith)

-- the end of a line is no mark
pub unmarked-at-end : (rest : List ℕ) → ends_row rest ≡ true → strip_bom rest ≡ rest
unfolding strip_bom
unmarked-at-end [] h = refl
unmarked-at-end (a ∷ []) h = refl
unmarked-at-end (a ∷ b ∷ []) h = refl
unmarked-at-end (a ∷ b ∷ c ∷ rest) h = elim (return_or_feed a h) [ inl is ↦ rw is refl | inr is ↦ rw is refl ]

-- Numbers at the start of a text.

count-inside : (most : ℕ) (text : List ℕ) (value : ℕ) → number_up_to most text ≡ Some value → (0 < length text) × AllInside text
count-inside most text value reads = elim (cases_Bool (is_digits text)) [
  | inl is ↦
      let both = and_parts (nat_le 1 (length text) && nat_le (length text) 10) (list_all is_ascii_digit text) is in
      (leb-true 1 (length text) (and_parts (nat_le 1 (length text)) (nat_le (length text) 10) both.0).0, digits-inside text both.1)
  | inr isnt ↦ cc (rw isnt at reads)
]

word-inside : (text : List ℕ) (value : ℕ) → word_of_text text ≡ Some value → (0 < length text) × AllInside text
word-inside [] value reads = cc reads
word-inside (c ∷ rest) value reads = elim (cases_Bool (c == 45)) [
  | inl is ↦ minus (eqb-true c 45 is) (rw is at reads)
  | inr isnt ↦ count-inside (2 ^ 32 - 1) (c ∷ rest) value (rw isnt at reads)
]
  where
    some : (o : Option ℕ) → negated o ≡ Some value → (n : ℕ) × (o ≡ Some n)
    some None e = cc e
    some (Some n) e = (n, refl)

    minus : c ≡ 45 → negated (number_up_to (2 ^ 31) rest) ≡ Some value → (0 < length (c ∷ rest)) × AllInside (c ∷ rest)
    minus is reads =
        let n = some (number_up_to (2 ^ 31) rest) reads in
        (omega arith, rw is (record { comma = refl; quote = refl; return = refl; feed = refl }, (count-inside (2 ^ 31) rest n.0 n.1).1))

small-number : (most : ℕ) (text : List ℕ) (value : ℕ) → number_up_to most text ≡ Some value → value ≤ most
small-number most text value reads = elim (cases_Bool (is_digits text && nat_le (digits_value text) most)) [
  | inl is ↦
      let within = leb-true (digits_value text) most (and_parts (is_digits text) (nat_le (digits_value text) most) is).1 in
      let same : Some (digits_value text) ≡ Some value = rw is at reads in
      let value_is : digits_value text ≡ value = cc in
      omega (arith, within, value_is)
  | inr isnt ↦ cc (rw isnt at reads)
]

negated-is : (word size : ℕ) → (word + size) % 4294967296 ≡ 0 → word < 4294967296 → size ≤ 2147483648 → word ≡ (2 ^ 32 - size) % 2 ^ 32
negated-is word size h small fits = omega arith

-- the word of a number behind a minus sign
pub minus-word : (text digits : List ℕ) (value word : ℕ) (behind : List ℕ) → text ≡ 45 ∷ digits → LeadsWith (number_up_to (2 ^ 31)) digits value behind
    → (word + value) % 4294967296 ≡ 0 → word < 4294967296 → LeadsWith word_of_text text word behind
minus-word text digits value word behind parts leads sum fits = record {
  number = 45 ∷ leads.number;
  parts = parts ∙ ap (λ (l : List ℕ). 45 ∷ l) leads.parts;
  reads = ap negated leads.reads ∙ ap Some (sym (negated-is word value sum fits (small-number (2 ^ 31) leads.number value leads.reads)));
}

-- a number at the start of a text
pub leads-with : (most : ℕ) (text : List ℕ) (count value : ℕ) → count ≤ length text → 1 ≤ count → count ≤ 10 → list_all is_ascii_digit (take count text) ≡ true
    → value ≡ digits_value (take count text) → value ≤ most → LeadsWith (number_up_to most) text value (drop count text)
leads-with most text count value within some few digits is small =
    let size = length-take-le count text within in
    let all : is_digits (take count text) ≡ true = rw size (and_from _ _ (and_from _ _ (le-leb 1 count some) (le-leb count 10 few)) digits) in
    record {
      number = take count text;
      parts = sym (take-append-drop count text);
      reads = rw (all, ← is, le-leb value most small) refl;
    }

-- A row while it is read: the fields before the one at hand, that field, and the numbers so far.
pub record AtField (text behind : List ℕ) (width : ℕ) (numbers : List ℕ) : Type 0 where
  pub fields : List (List ℕ)
  pub field : List ℕ
  pub reads : next_record default_config st.StartRecord [] [] text ≡ next_record default_config st.InField fields field behind
  pub wide : length fields + 1 ≡ width
  pub good : (r : ℕ) → fields_refusal r (fields ++ field ∷ []) ≡ None
  pub numbers_are : numbers_of (fields ++ field ∷ []) ≡ numbers
  pub shorter : length behind < length text

some-first : (s : State) (number rest : List ℕ) (fields : List (List ℕ)) → is_open s ≡ true → (0 < length number) × AllInside number
    → next_record default_config s fields [] (number ++ rest) ≡ next_record default_config st.InField fields number rest
some-first s [] rest fields opens inside = absurd (let none = inside.0 in omega arith)
some-first s (c ∷ d) rest fields opens inside = joined-all s c d rest fields opens inside.1

-- the first field of a row, which is a count
pub first-field : (text : List ℕ) (gap : ℕ) (behind : List ℕ) → LeadsWith count_of text gap behind → AtField text behind 1 (gap ∷ [])
first-field text gap behind leads =
    let inside = count-inside (2 ^ 32 - 1) leads.number gap leads.reads in
    let parts = leads.parts in
    let some = inside.0 in
    record {
      fields = [];
      field = leads.number;
      reads = rw parts (some-first st.StartRecord leads.number behind [] refl inside);
      wide = refl;
      good = λ r. rw leads.reads refl;
      numbers_are = rw leads.reads refl;
      shorter = let size = ap length parts in omega (arith, size, length-append leads.number behind);
    }

words-good : (r c : ℕ) (texts : List (List ℕ)) (text : List ℕ) (value : ℕ) → words_refusal r c texts ≡ None → word_of_text text ≡ Some value
    → words_refusal r c (texts ++ text ∷ []) ≡ None
words-good r c [] text value good reads = rw reads refl
words-good r c (t ∷ texts) text value good reads = elim (cases_Bool (is_some (word_of_text t))) [
  | inl is ↦ rw is (words-good r (c + 1) texts text value (rw is at good) reads)
  | inr isnt ↦ cc (rw isnt at good)
]

-- a row with a word more
row-good : (r : ℕ) (fields : List (List ℕ)) (text : List ℕ) (value : ℕ) → 0 < length fields → fields_refusal r fields ≡ None → word_of_text text ≡ Some value
    → fields_refusal r (fields ++ text ∷ []) ≡ None
row-good r [] text value some good reads = absurd (omega arith)
row-good r (gap ∷ texts) text value some good reads = elim (cases_Bool (is_some (count_of gap))) [
  | inl is ↦ rw is (words-good r 2 texts text value (rw is at good) reads)
  | inr isnt ↦ cc (rw isnt at good)
]

row-numbers : (fields : List (List ℕ)) (text : List ℕ) (value : ℕ) → 0 < length fields → word_of_text text ≡ Some value
    → numbers_of (fields ++ text ∷ []) ≡ numbers_of fields ++ value ∷ []
row-numbers [] text value some reads = absurd (omega arith)
row-numbers (gap ∷ texts) text value some reads =
    ap (λ (l : List ℕ). gap_of (gap ∷ []) ∷ l) (map-append _ texts (text ∷ []) ∙ rw reads refl)

-- the next field of a row, which is a word behind a comma
pub next-field : (text rest : List ℕ) (width : ℕ) (numbers : List ℕ) (word : ℕ) (behind : List ℕ) → AtField text (44 ∷ rest) width numbers
    → LeadsWith word_of_text rest word behind → AtField text behind (width + 1) (numbers ++ word ∷ [])
unfolding next_record
next-field text rest width numbers word behind at leads =
    let inside = word-inside leads.number word leads.reads in
    let parts = leads.parts in
    let row = at.fields ++ at.field ∷ [] in
    let some : 0 < length row = omega (arith, length-append at.fields (at.field ∷ [])) in
    let comma : next_record default_config st.InField at.fields at.field (44 ∷ rest) ≡ next_record default_config st.StartField row [] rest = refl in
    record {
      fields = row;
      field = leads.number;
      reads = at.reads ∙ comma ∙ rw parts (some-first st.StartField leads.number behind row refl inside);
      wide = omega (arith, at.wide, length-append at.fields (at.field ∷ []));
      good = λ r. row-good r row leads.number word some (at.good r) leads.reads;
      numbers_are = row-numbers row leads.number word some leads.reads ∙ ap (λ (l : List ℕ). l ++ word ∷ []) at.numbers_are;
      shorter = let size = ap length parts in omega (arith, size, at.shorter, inside.0, length-append leads.number behind);
    }

-- what stood before is still there
pub kept-front : (before added after : List ℕ) → after ≡ before ++ added → take (length before) after ≡ before
kept-front before added after is = rw is (take-append_seam before added)

-- a row at the end of its line
pub whole-row : (text behind : List ℕ) (width : ℕ) (before numbers : List ℕ) → AtField text behind width numbers → ends_row behind ≡ true
    → IsPlainRow width before (before ++ numbers) text behind
whole-row text behind width before numbers at ended =
    let row = at.fields ++ at.field ∷ [] in
    let ends = row-ends st.InField at.fields at.field behind (inl refl) ended in
    let first = at.reads ∙ ends.read in
    record {
      row = row;
      rows = records_of-first st.StartRecord text (row, ends.state, ends.left) refl first ∙ ap (λ (rows : List (List (List ℕ))). row ∷ rows) ends.same;
      wide = omega (arith, at.wide, length-append at.fields (at.field ∷ []));
      good = at.good;
      numbers = ap (λ (l : List ℕ). before ++ l) (sym at.numbers_are);
      shorter = at.shorter;
      unmarked = unmarked-at-end behind ended;
    }

-- the same behind bytes that end lines
pub row-behind : (ends text behind : List ℕ) (width : ℕ) (before after : List ℕ) → list_all ends_line ends ≡ true → IsPlainRow width before after text behind
    → IsPlainRow width before after (ends ++ text) behind
row-behind ends text behind width before after h row = record {
  row = row.row;
  rows = same-records st.StartRecord st.StartRecord (ends ++ text) text refl refl (all-skipped ends text h) ∙ row.rows;
  wide = row.wide;
  good = row.good;
  numbers = row.numbers;
  shorter = omega (arith, row.shorter, length-append ends text);
  unmarked = row.unmarked;
}

-- so many plain rows, and one more
pub rows-more : (width count : ℕ) (cells after text behind rest : List ℕ) → 0 < width → ArePlainRows width count cells text behind
    → IsPlainRow width cells after behind rest → ArePlainRows width (count + 1) after text rest
rows-more width count cells after text behind rest some are row = record {
  good = are.good ∙ ap (rows_refusal width (count + 1)) row.rows ∙ next-good width (count + 1) row.row (records default_config rest) row.wide (row.good (count + 1));
  packets = λ columns. rw row.numbers (are.packets columns
      ∙ ap (λ (l : List (List (List ℕ))). stored_packets width columns count cells ++ map (λ r. stored_packet columns (numbers_of r)) l) row.rows
      ∙ next-packets width columns count cells row.row (records default_config rest) are.stored row.wide some);
  rows = let size = ap length row.rows in omega (arith, are.rows, size);
  stored = rw row.numbers (next-stored width count cells row.row are.stored row.wide some);
  shorter = omega (arith, are.shorter, row.shorter);
  unmarked = row.unmarked;
}

-- The text behind the heading.

pub shorter-unmarked : (text : List ℕ) → length (strip_bom text) ≤ length text
unfolding strip_bom
shorter-unmarked [] = omega arith
shorter-unmarked (a ∷ []) = omega arith
shorter-unmarked (a ∷ b ∷ []) = omega arith
shorter-unmarked (a ∷ b ∷ c ∷ rest) = elim (cases_Bool (is_bom a b c)) [ inl is ↦ rw is (omega arith) | inr isnt ↦ rw isnt (omega arith) ]

pub rows-behind : (text line rows : List ℕ) (count size : ℕ) → line ≡ drop count text → rows ≡ drop size line → list_all ends_line (take count text) ≡ true
    → list_all is_in_line (take size line) ≡ true → 0 < size → size ≤ length line → ends_row rows ≡ true
    → (heading : List (List ℕ)) (rest : List (List (List ℕ))) → records default_config text ≡ heading ∷ rest → rest ≡ records default_config rows
rows-behind text line rows count size line_is rows_is skip inside some within ended heading rest are =
    let parts : text ≡ take count text ++ (take size line ++ rows) =
    sym (take-append-drop count text) ∙ ap (λ (l : List ℕ). take count text ++ l) (sym line_is ∙ sym (take-append-drop size line) ∙ ap (λ (l : List ℕ). take size line ++ l) (sym rows_is)) in
    let some_of : 0 < length (take size line) = rw (length-take-le size line within) some in
    behind-heading (take count text) (take size line) rows heading rest skip some_of inside ended (ap (records default_config) (sym parts) ∙ are)

-- the next row, behind the ends of lines
pub row-in : (text line behind : List ℕ) (count width : ℕ) (before after : List ℕ) → line ≡ drop count text → list_all ends_line (take count text) ≡ true
    → IsPlainRow width before after line behind → IsPlainRow width before after text behind
row-in text line behind count width before after line_is skip row =
    let parts = ap (λ (l : List ℕ). take count text ++ l) line_is ∙ take-append-drop count text in
    subst (λ (l : List ℕ). IsPlainRow width before after l behind) parts (row-behind (take count text) line behind width before after skip row)

-- a result that is one list is any list that equals it
pub ok-same : {E : Type 0} (result : Result (List (ℕ × List ℕ)) E) (a b : List (ℕ × List ℕ)) → IfOk result (λ packets. packets ≡ a) → a ≡ b
    → IfOk result (λ packets. packets ≡ b)
ok-same (Ok packets) a b h same = h ∙ same
ok-same (Err e) a b h same = tt

-- the packets of plain rows and of those that a reader has left
pub packets-all : (width count : ℕ) (cells text behind : List ℕ) (columns : List (Option ℕ)) (left : List (List (List ℕ))) → ArePlainRows width count cells text behind
    → left ≡ records default_config (strip_bom behind)
    → stored_packets width columns count cells ++ map (λ r. stored_packet columns (numbers_of r)) left ≡ map (λ r. stored_packet columns (numbers_of r)) (records default_config text)
packets-all width count cells text behind columns left are is =
    ap (λ (l : List (List (List ℕ))). stored_packets width columns count cells ++ map (λ r. stored_packet columns (numbers_of r)) l) (is ∙ ap (records default_config) are.unmarked)
    ∙ sym (are.packets columns)

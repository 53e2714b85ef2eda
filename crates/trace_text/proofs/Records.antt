-- The records of a text: how many bytes they take, that they are there, and that a text has one list of them.
use Rattle.std.proofs.Common.{◌≡◌, ℕ, zero, suc, ◌+◌, ◌<◌, ◌≤◌, Bool, true, false, cond, List, [], ◌∷◌, ◌++◌, length, get_or, Option, Some, None, refl, sym, ◌∙◌, ap, subst, arith, inl, inr}
use Rattle.std.specs.Prelude.{◌==◌}
use Rattle.std.proofs.lemmas.List.{length-append}
use Rattle.std.proofs.lemmas.Bool.{cases_Bool}
use Rattle.csv.specs.Machine.{Read, ends_at_end, field_after, fields_after, in_field, is_end, next_record, start_field, start_record, step}
use Rattle.csv.specs.Records.{field_at}
use Rattle.csv.specs.Reading.{AreRecords, Reached, default_config, is_bom, records_from, strip_bom}
use Rattle.csv.specs.declared.parser.Config.{Config}
use Rattle.csv.specs.declared.parser.State.{State}
use Rattle.csv.specs.declared.parser.State.TheVariants as st
use Rattle.csv.specs.declared.parser.Action.{Action}
use Rattle.csv.specs.declared.parser.Action.TheVariants as act
use Rattle.trace_text.specs.Rows.{records_of}

-- after a byte that ends a record, the end of the text ends no other
skip_or : (b : Bool) (s : State) (p : State × Action) → (is_end p.1 ≡ true → ends_at_end p.0 ≡ false)
    → is_end (cond b (s, act.Skip) p).1 ≡ true → ends_at_end (cond b (s, act.Skip) p).0 ≡ false
skip_or true s p more e = cc e
skip_or false s p more e = more e

copy_or : (b : Bool) (s : State) (p : State × Action) → (is_end p.1 ≡ true → ends_at_end p.0 ≡ false)
    → is_end (cond b (s, act.Copy) p).1 ≡ true → ends_at_end (cond b (s, act.Copy) p).0 ≡ false
copy_or true s p more e = cc e
copy_or false s p more e = more e

in_field-between : (c : ℕ) → is_end (in_field default_config c).1 ≡ true → ends_at_end (in_field default_config c).0 ≡ false
in_field-between c e = elim (cases_Bool (c == 44)) [
  | inl is ↦ cc (rw is at e)
  | inr isnt ↦ elim (cases_Bool (c == 13)) [
    | inl cr ↦ rw (isnt, cr) refl
    | inr nocr ↦ elim (cases_Bool (c == 10)) [
      | inl lf ↦ rw (isnt, nocr, lf) refl
      | inr other ↦ cc (rw (isnt, nocr, other) at e)
    ]
  ]
]

start_field-between : (c : ℕ) → is_end (start_field default_config c).1 ≡ true → ends_at_end (start_field default_config c).0 ≡ false
start_field-between c e = skip_or _ _ (in_field default_config c) (in_field-between c) e

start_record-between : (c : ℕ) → is_end (start_record default_config c).1 ≡ true → ends_at_end (start_record default_config c).0 ≡ false
start_record-between c e = skip_or _ _ (start_field default_config c) (start_field-between c) e

step-between : (s : State) (c : ℕ) → is_end (step default_config s c).1 ≡ true → ends_at_end (step default_config s c).0 ≡ false
step-between st.StartRecord c e = start_record-between c e
step-between st.StartField c e = start_field-between c e
step-between st.InField c e = in_field-between c e
step-between st.InQuoted c e = elim (cases_Bool (c == 34)) [ inl is ↦ cc (rw is at e) | inr isnt ↦ cc (rw isnt at e) ]
step-between st.InEscape c e = cc e
step-between st.AfterQuote c e = copy_or _ _ (in_field default_config c) (in_field-between c) e
step-between st.InComment c e = elim (cases_Bool (c == 10)) [ inl is ↦ cc (rw is at e) | inr isnt ↦ cc (rw isnt at e) ]
step-between st.AfterCr c e = skip_or _ _ (start_record default_config c) (start_record-between c) e

-- what a record takes: at least a byte, unless the end of the text alone ends it, and a byte or that end for each field
pub record Takes (s : State) (fields : List (List ℕ)) (xs : List ℕ) (p : Read) : Type 0 where
  pub between : ends_at_end p.1 ≡ false
  pub shorter : ends_at_end s ≡ false → length p.2 < length xs
  pub no_longer : length p.2 ≤ length xs
  pub few : length p.0 + length p.2 ≤ length fields + 1 + length xs

fields-grow : (a : Action) (fields : List (List ℕ)) (field : List ℕ) → length (fields_after a fields field) ≤ length fields + 1
fields-grow act.EndField fields field = omega (arith, length-append fields (field ∷ []))
fields-grow act.Skip fields field = omega arith
fields-grow act.Copy fields field = omega arith
fields-grow act.EndRecord fields field = omega (arith, length-append fields (field ∷ []))

pub takes : (s : State) (fields : List (List ℕ)) (field xs : List ℕ) (p : Read) → next_record default_config s fields field xs ≡ Some p → Takes s fields xs p
unfolding next_record
takes s fields field [] p e = at_end (ends_at_end s) refl e
  where
    at_end : (b : Bool) → ends_at_end s ≡ b → next_record default_config s fields field [] ≡ Some p → Takes s fields [] p
    at_end true is f =
        let g : p ≡ (fields ++ (field ∷ []), st.StartRecord, []) = cc (rw is at f) in
        rw g record {
          between = refl;
          shorter = λ isnt. cc (is, isnt);
          no_longer = omega arith;
          few = omega (arith, length-append fields (field ∷ []));
        }
    at_end false is f = cc (rw is at f)
takes s fields field (c ∷ rest) p e = at_byte (is_end (step default_config s c).1) refl e (takes (step default_config s c).0 (fields_after (step default_config s c).1 fields field) (field_after (step default_config s c).1 c field) rest p)
  where
    at_byte : (b : Bool) → is_end (step default_config s c).1 ≡ b → next_record default_config s fields field (c ∷ rest) ≡ Some p
        → (next_record default_config (step default_config s c).0 (fields_after (step default_config s c).1 fields field) (field_after (step default_config s c).1 c field) rest ≡ Some p
        → Takes (step default_config s c).0 (fields_after (step default_config s c).1 fields field) rest p)
        → Takes s fields (c ∷ rest) p
    at_byte true is f more =
        let g : p ≡ (fields_after (step default_config s c).1 fields field, (step default_config s c).0, rest) = cc (rw is at f) in
        let grow = fields-grow (step default_config s c).1 fields field in
        rw g record {
          between = step-between s c is;
          shorter = λ _. omega arith;
          no_longer = omega arith;
          few = omega arith;
        }
    at_byte false is f more =
        let t = more (rw is at f) in
        let grow = fields-grow (step default_config s c).1 fields field in
        record {
          between = t.between;
          shorter = λ _. omega (arith, t.no_longer);
          no_longer = omega (arith, t.no_longer);
          few = omega (arith, t.few);
        }

-- the text in a column
pub text-there : (fields : List (List ℕ)) (c : ℕ) (text : List ℕ) → field_at fields c ≡ Some text → get_or fields c [] ≡ text
unfolding field_at
text-there [] c text e = cc e
text-there (f ∷ fs) zero text e = cc e
text-there (f ∷ fs) (suc c) text e = text-there fs c text e

pub text-missing : (fields : List (List ℕ)) (c : ℕ) → c < length fields → field_at fields c ≡ None → ⊥
unfolding field_at
text-missing [] c h e = omega arith
text-missing (f ∷ fs) zero h e = cc e
text-missing (f ∷ fs) (suc c) h e = text-missing fs c (omega arith) e

-- the records from a state between two of them, by the first
pub records_from-first : (n : ℕ) (s : State) (xs : List ℕ) (p : Read) → next_record default_config s [] [] xs ≡ Some p
    → records_from default_config (suc n) s xs ≡ p.0 ∷ records_from default_config n p.1 p.2
unfolding records_from
records_from-first n s xs p e = rw e refl

pub records_from-none : (n : ℕ) (s : State) (xs : List ℕ) → next_record default_config s [] [] xs ≡ None → records_from default_config n s xs ≡ []
unfolding records_from
records_from-none zero s xs e = refl
records_from-none (suc n) s xs e = rw e refl

-- a record more before the others
pub records-first : (s : State) (xs : List ℕ) (p : Read) (rows : List (List (List ℕ))) → next_record default_config s [] [] xs ≡ Some p
    → AreRecords default_config p.1 p.2 rows → AreRecords default_config s xs (p.0 ∷ rows)
unfolding Reached
records-first s xs p rows e all = (all.0, all.1, (p, e, refl, all.2), all.3)

-- with so many records for all shorter texts there are those of this one
are_records-from : (n : ℕ) (s : State) (xs : List ℕ) → ends_at_end s ≡ false → length xs ≤ suc n
    → ((s2 : State) (ys : List ℕ) → ends_at_end s2 ≡ false → length ys ≤ n → AreRecords default_config s2 ys (records_from default_config n s2 ys))
    → (o : Option Read) → next_record default_config s [] [] xs ≡ o → AreRecords default_config s xs (records_from default_config (suc n) s xs)
unfolding Reached
are_records-from n s xs between h more None e = rw (records_from-none (suc n) s xs e) (s, xs, (refl, refl), e)
are_records-from n s xs between h more (Some p) e =
    let t = takes s [] [] xs p e in
    let less = t.shorter between in
    let fits : length p.2 ≤ n = omega arith in
    rw (records_from-first n s xs p e) (records-first s xs p _ e (more p.1 p.2 t.between fits))

-- no record without bytes
are_records-none : (s : State) (xs : List ℕ) → ends_at_end s ≡ false → length xs ≤ 0 → AreRecords default_config s xs []
unfolding Reached next_record
are_records-none s [] between h = (s, [], (refl, refl), rw between refl)
are_records-none s (x ∷ xs) between h = absurd (omega arith)

-- a text has records, and these are they
pub are_records : (n : ℕ) (s : State) (xs : List ℕ) → ends_at_end s ≡ false → length xs ≤ n
    → AreRecords default_config s xs (records_from default_config n s xs)
unfolding records_from
are_records zero s xs between h = are_records-none s xs between h
are_records (suc n) s xs between h = are_records-from n s xs between h (are_records n) (next_record default_config s [] [] xs) refl

-- a text has one list of records
pub one_list : (cfg : Config) (s : State) (xs : List ℕ) (a b : List (List (List ℕ))) → AreRecords cfg s xs a → AreRecords cfg s xs b → a ≡ b
unfolding Reached
one_list cfg s xs [] [] ra rb = refl
one_list cfg s xs [] (r ∷ rs) ra rb = let e = rb.2.1 in let none = ra.3 in let same = ra.2 in cc
one_list cfg s xs (q ∷ qs) [] ra rb = let e = ra.2.1 in let none = rb.3 in let same = rb.2 in cc
one_list cfg s xs (q ∷ qs) (r ∷ rs) ra rb =
    let e = ra.2.1 in
    let f = rb.2.1 in
    let same : ra.2.0 ≡ rb.2.0 = cc in
    let rest = subst (λ (p : Read). AreRecords cfg p.1 p.2 rs) (sym same) (rb.0, rb.1, rb.2.3, rb.3) in
    let head = ra.2.2 ∙ ap (λ (p : Read). p.0) same ∙ sym rb.2.2 in
    let tail = one_list cfg ra.2.0.1 ra.2.0.2 qs rs (ra.0, ra.1, ra.2.3, ra.3) rest in
    cc

-- the records of some bytes, by the first of them
pub records_of-first : (s : State) (xs : List ℕ) (p : Read) → ends_at_end s ≡ false → next_record default_config s [] [] xs ≡ Some p
    → records_of s (Some xs) ≡ p.0 ∷ records_of p.1 (Some p.2)
records_of-first s xs p between e =
    let t = takes s [] [] xs p e in
    let all = are_records (length xs + 1) s xs between (omega arith) in
    let rest = are_records (length p.2 + 1) p.1 p.2 t.between (omega arith) in
    one_list default_config s xs _ _ all (records-first s xs p _ e rest)

pub records_of-none : (s : State) (xs : List ℕ) → ends_at_end s ≡ false → next_record default_config s [] [] xs ≡ None → records_of s (Some xs) ≡ []
unfolding Reached
records_of-none s xs between e =
    one_list default_config s xs _ _ (are_records (length xs + 1) s xs between (omega arith)) (s, xs, (refl, refl), e)

-- a text has no more records than bytes
pub records-few : (s : State) (xs : List ℕ) (rows : List (List (List ℕ))) → ends_at_end s ≡ false → AreRecords default_config s xs rows
    → length rows ≤ length xs
unfolding Reached
records-few s xs [] between all = omega arith
records-few s xs (row ∷ rows) between all =
    let p = all.2.0 in
    let t = takes s [] [] xs p all.2.1 in
    let less = t.shorter between in
    let rest = records-few p.1 p.2 rows t.between (all.0, all.1, all.2.3, all.3) in
    omega arith

-- the first record of a text has at most a field more than the text has bytes
pub fields-few : (s : State) (xs : List ℕ) (row : List (List ℕ)) (rows : List (List (List ℕ))) → AreRecords default_config s xs (row ∷ rows)
    → length row ≤ length xs + 1
unfolding Reached
fields-few s xs row rows all =
    let t = takes s [] [] xs all.2.0 all.2.1 in
    let few = t.few in
    let size = ap length all.2.2 in
    omega arith

-- a text without its byte order mark is no longer
pub strip_bom-shorter : (xs : List ℕ) → length (strip_bom xs) ≤ length xs
unfolding strip_bom
strip_bom-shorter [] = omega arith
strip_bom-shorter (a ∷ []) = omega arith
strip_bom-shorter (a ∷ b ∷ []) = omega arith
strip_bom-shorter (a ∷ b ∷ c ∷ rest) = elim (cases_Bool (is_bom a b c)) [ inl is ↦ rw is (omega arith) | inr isnt ↦ rw isnt (omega arith) ]

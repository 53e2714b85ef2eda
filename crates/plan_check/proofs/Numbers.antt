-- Numbers at the front of a text.
use Rattle.std.proofs.Common.{◌≡◌, ℕ, ◌+◌, ◌-◌, ◌*◌, ◌≤◌, ◌<◌, ◌^◌, Bool, true, false, not, cond, ◌&&◌, ◌||◌, ◌==◌, if◌then◌else◌, nat_le, List, [], ◌∷◌, ◌++◌, length, take, drop, get_or, fold, Option, Some, None, refl, sym, ap, ◌∙◌, arith, rules, ◌⊎◌, inl, inr}
use Rattle.std.specs.Fmt.{decimal}
use Rattle.std.specs.Char.{is_ascii_digit}
use Rattle.std.specs.List.{list_all}
use Rattle.std.proofs.Math.Seq.{drop-append_seam, take-append_seam}
use Rattle.std.proofs.lemmas.List.{take-append-drop}
use Rattle.std.proofs.lemmas.List.Sums.{prefix_len-le-length}
use Rattle.std.proofs.lemmas.Str.Parse.{IsNumeralModel, numerals_by_fold}
use Rattle.std.proofs.lemmas.Fmt.{decimal_nonempty, first_decimal, digits_decimal, digits_value-decimal, decimal-digits_value, decimal_digit, length-decimal-le}
use Rattle.std.proofs.lemmas.Bool.{and_parts, and_from, eqb-true, eq-eqb, leb-true, le-leb, cases_lt}
use Rattle.dom_words.specs.Number.{count_of, digits_value, is_digits}
use Rattle.plan_check.specs.Reader.{NumberRest, digits_of, has_no_zero, number_from, numbered, size_of_digits}

pub size_within : (text : List ℕ) → size_of_digits text ≤ length text
size_within text = prefix_len-le-length is_ascii_digit text

pub ruleset sizes = size_within

-- Digits and their value.

value_after : ℕ → List ℕ → ℕ
value_after n ds = fold (λ n b. n * 10 + (b - 48)) n ds

own : IsNumeralModel (λ ds. list_all is_ascii_digit ds ≡ true) (value_after 0)
unfolding value_after
own = numerals_by_fold (λ ds. list_all is_ascii_digit ds ≡ true) (search rules) value_after (search rules)

abbrev NoZero : List ℕ → Type 0
NoZero ds = get_or ds 0 0 ≡ 48 → length ds ≡ 1

zero_by : (ds : List ℕ) → has_no_zero ds ≡ true → NoZero ds
zero_by [] h e = absurd (cc)
zero_by (d ∷ []) h e = refl
zero_by (d ∷ c ∷ ds) h e = absurd (let t = eq-eqb d 48 e in let g = rw t at h in cc)

by_zero : (ds : List ℕ) → 0 < length ds → NoZero ds → has_no_zero ds ≡ true
by_zero [] l h = absurd (omega arith)
by_zero (d ∷ []) l h = or_true (not (d == 48))
  where
    or_true : (b : Bool) → (b || true) ≡ true
    or_true true = refl
    or_true false = refl
by_zero (d ∷ c ∷ ds) l h = from (d == 48) refl
  where
    from : (t : Bool) → (d == 48) ≡ t → (not t || false) ≡ true
    from true e = absurd (let l = h (eqb-true d 48 e) in omega arith)
    from false e = refl

zero_of : (n : ℕ) → n < 2 ^ 64 → NoZero (decimal n)
zero_of n h e = from (cases_lt 0 n)
  where
    from : (0 < n) ⊎ (n ≤ 0) → length (decimal n) ≡ 1
    from (inl p) = absurd (let f = first_decimal n p h in omega arith)
    from (inr z) = let q : n ≡ 0 = omega arith in ap (λ m. length (decimal m)) q ∙ ap length (decimal_digit 0 (omega arith))

all_digits : (n : ℕ) → n < 2 ^ 32 → list_all is_ascii_digit (decimal n) ≡ true
all_digits n h = digits_decimal own n (omega arith)

count_back : (n : ℕ) → n < 2 ^ 32 → count_of (decimal n) ≡ Some n
unfolding value_after
count_back n h =
    let value : digits_value (decimal n) ≡ n = digits_value-decimal own n (omega arith) in
    let some = decimal_nonempty n (omega arith) in
    let few = length-decimal-le 10 n (omega arith) (omega arith) (omega arith) in
    let digits : is_digits (decimal n) ≡ true = and_from _ _ (and_from _ _ (le-leb 1 (length (decimal n)) (omega arith)) (le-leb (length (decimal n)) 10 few)) (all_digits n h) in
    let small : nat_le (digits_value (decimal n)) (2 ^ 32 - 1) ≡ true = le-leb (digits_value (decimal n)) (2 ^ 32 - 1) (omega arith) in
    ap (λ (b : Bool). if b then Some (digits_value (decimal n)) else None) (and_from _ _ digits small) ∙ ap Some value

count_says : (ds : List ℕ) (n : ℕ) → has_no_zero ds ≡ true → count_of ds ≡ Some n → decimal n ≡ ds
unfolding value_after
count_says ds n lead e = by_test (is_digits ds && nat_le (digits_value ds) (2 ^ 32 - 1)) refl e
  where
    by_test : (t : Bool) → (is_digits ds && nat_le (digits_value ds) (2 ^ 32 - 1)) ≡ t → (if t then Some (digits_value ds) else None) ≡ Some n → decimal n ≡ ds
    by_test true t e =
        let both = and_parts (is_digits ds) (nat_le (digits_value ds) (2 ^ 32 - 1)) t in
        let parts = and_parts (nat_le 1 (length ds) && nat_le (length ds) 10) (list_all is_ascii_digit ds) both.0 in
        let some = leb-true 1 (length ds) (and_parts (nat_le 1 (length ds)) (nat_le (length ds) 10) parts.0).0 in
        let small = leb-true (digits_value ds) (2 ^ 32 - 1) both.1 in
        let same : digits_value ds ≡ n = cc in
        ap decimal (sym same) ∙ decimal-digits_value own ds parts.1 (omega arith) (zero_by ds lead) (omega arith)
    by_test false t e = absurd (cc)

-- At the front.

front_size : (ds : List ℕ) (b : ℕ) (rest : List ℕ) → list_all is_ascii_digit ds ≡ true → is_ascii_digit b ≡ false → size_of_digits (ds ++ b ∷ rest) ≡ length ds
front_size [] b rest h e = ap (λ (t : Bool). cond t (1 + size_of_digits rest) 0) e
front_size (d ∷ ds) b rest h e =
    let both = and_parts (is_ascii_digit d) (list_all is_ascii_digit ds) h in
    ap (λ (t : Bool). cond t (1 + size_of_digits (ds ++ b ∷ rest)) 0) both.0 ∙ (let more = front_size ds b rest both.1 e in omega arith)

pub number_back : (n b : ℕ) (rest : List ℕ) → n < 2 ^ 32 → is_ascii_digit b ≡ false → number_from (decimal n ++ b ∷ rest) ≡ Some (record { value = n; rest = b ∷ rest })
number_back n b rest h e =
    let size = front_size (decimal n) b rest (all_digits n h) e in
    let front : digits_of (decimal n ++ b ∷ rest) ≡ decimal n = ap (λ (k : ℕ). take k (decimal n ++ b ∷ rest)) size ∙ take-append_seam (decimal n) (b ∷ rest) in
    let behind : drop (size_of_digits (decimal n ++ b ∷ rest)) (decimal n ++ b ∷ rest) ≡ b ∷ rest = ap (λ (k : ℕ). drop k (decimal n ++ b ∷ rest)) size ∙ drop-append_seam (decimal n) (b ∷ rest) in
    let lead = by_zero (decimal n) (decimal_nonempty n (omega arith)) (zero_of n (omega arith)) in
    ap (λ (ds : List ℕ). numbered (has_no_zero ds) (count_of ds) (drop (size_of_digits (decimal n ++ b ∷ rest)) (decimal n ++ b ∷ rest))) front
    ∙ ap (λ (r : List ℕ). numbered (has_no_zero (decimal n)) (count_of (decimal n)) r) behind
    ∙ ap (λ (t : Bool). numbered t (count_of (decimal n)) (b ∷ rest)) lead
    ∙ ap (λ (o : Option ℕ). numbered true o (b ∷ rest)) (count_back n h)

pub number_says : (text : List ℕ) (r : NumberRest) → number_from text ≡ Some r → text ≡ decimal r.value ++ r.rest
number_says text r e = by_lead (has_no_zero (digits_of text)) refl (count_of (digits_of text)) refl e
  where
    by_lead : (t : Bool) → has_no_zero (digits_of text) ≡ t → (o : Option ℕ) → count_of (digits_of text) ≡ o → numbered t o (drop (size_of_digits text) text) ≡ Some r → text ≡ decimal r.value ++ r.rest
    by_lead false t o c e = absurd (cc)
    by_lead true t None c e = absurd (cc)
    by_lead true t (Some n) c e =
        let is : record { value = n; rest = drop (size_of_digits text) text } ≡ r = cc in
        sym (take-append-drop (size_of_digits text) text)
        ∙ ap (λ (ds : List ℕ). ds ++ drop (size_of_digits text) text) (sym (count_says (digits_of text) n t c))
        ∙ ap (λ (q : NumberRest). decimal q.value ++ q.rest) is

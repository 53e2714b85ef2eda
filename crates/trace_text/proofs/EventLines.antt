-- Lines of events: what is read is what is written, and a text is one list of events or has one first bad line.
use Rattle.std.proofs.Common.{◌≡◌, ℕ, suc, ◌+◌, ◌-◌, ◌≤◌, ◌<◌, ◌^◌, Bool, true, false, not, ◌&&◌, ◌==◌, nat_le, if◌then◌else◌, List, [], ◌∷◌, ◌++◌, codes, length, drop, take, Option, Some, None, option_and_then, Result, Ok, Err, refl, sym, ap, ◌∙◌, arith, rules, append_assoc, length-append, length-drop, ◌*◌, fold}
use Rattle.std.specs.Fmt.{decimal}
use Rattle.std.specs.Char.{is_ascii_digit}
use Rattle.std.specs.List.{list_all}
use Rattle.std.specs.Option.{option_map}
use Rattle.std.proofs.lemmas.List.{append-nil, drop-drop, drop_all, take-append-drop}
use Rattle.std.proofs.lemmas.Slice.Eq.{bytes_eq-Decides}
use Rattle.std.proofs.lemmas.List.Folds.{list_all-append}
use Rattle.std.proofs.lemmas.Bool.{and_parts, and_from, eqb-true, eq-eqb, leb-true, le-leb}
use Rattle.std.proofs.lemmas.Fmt.{decimal_nonempty, digits_decimal, digits_value-decimal, length-decimal-le}
use Rattle.std.proofs.lemmas.Str.Parse.{IsNumeralModel, numerals_by_fold}
use Rattle.dom_words.specs.Names.{is_same}
use Rattle.dom_words.specs.Number.{count_of, digits_value, is_digits}
use Rattle.trace_text.specs.declared.events.Event.{Event}
use Rattle.trace_text.specs.declared.events.Event.TheVariants.{Enter, Fire, Leave}
use Rattle.trace_text.specs.Events.{IsBadLine, IsEventsOf, event_line, event_lines, may_happen}
use Rattle.trace_text.specs.EventWords.{BeginsWith, BeginsWithNone, event_of, feed_size, if_stage, is_no_feed, stage_of}

-- Bytes before a line feed.

abbrev has_no_feed : List ℕ → Bool
has_no_feed bytes = list_all is_no_feed bytes

feed_is : (w behind : List ℕ) → has_no_feed w ≡ true → feed_size (w ++ 10 ∷ behind) ≡ length w
feed_is [] behind h = refl
feed_is (b ∷ w) behind h =
    let both = and_parts (is_no_feed b) (has_no_feed w) h in
    let more = feed_is w behind both.1 in
    ap (λ (t : Bool). if t then 1 + feed_size (w ++ 10 ∷ behind) else 0) both.0 ∙ omega arith

take_length : (w behind : List ℕ) → take (length w) (w ++ behind) ≡ w
take_length [] behind = refl
take_length (b ∷ w) behind = ap (λ l. b ∷ l) (take_length w behind)

first_line_is : (w behind : List ℕ) → has_no_feed w ≡ true → take (feed_size (w ++ 10 ∷ behind)) (w ++ 10 ∷ behind) ≡ w
first_line_is w behind h = ap (λ n. take n (w ++ 10 ∷ behind)) (feed_is w behind h) ∙ take_length w (10 ∷ behind)

cut_behind : (n b : ℕ) (bs : List ℕ) → bs ≡ take n bs ++ 10 ∷ drop (n + 1) bs → (k j : ℕ) → suc n ≡ k → suc (n + 1) ≡ j → b ∷ bs ≡ take k (b ∷ bs) ++ 10 ∷ drop j (b ∷ bs)
cut_behind n b bs more k j k_is j_is =
    ap (λ l. b ∷ l) more ∙ ap (λ m. take m (b ∷ bs) ++ 10 ∷ drop (suc (n + 1)) (b ∷ bs)) k_is ∙ ap (λ m. take k (b ∷ bs) ++ 10 ∷ drop m (b ∷ bs)) j_is

cut_by : (t : Bool) (b : ℕ) (bs : List ℕ) → is_no_feed b ≡ t
    → (feed_size bs < length bs → bs ≡ take (feed_size bs) bs ++ 10 ∷ drop (feed_size bs + 1) bs)
    → (if t then 1 + feed_size bs else 0) < length (b ∷ bs)
    → b ∷ bs ≡ take (if t then 1 + feed_size bs else 0) (b ∷ bs) ++ 10 ∷ drop ((if t then 1 + feed_size bs else 0) + 1) (b ∷ bs)
cut_by true b bs is more within = cut_behind (feed_size bs) b bs (more (omega arith)) (1 + feed_size bs) (1 + feed_size bs + 1) (omega arith) (omega arith)
cut_by false b bs is more within = ap (λ x. x ∷ bs) (feed b is)
  where
    feed : (b : ℕ) → is_no_feed b ≡ false → b ≡ 10
    feed b is = from (b == 10) refl
      where
        from : (t : Bool) → (b == 10) ≡ t → b ≡ 10
        from true e = eqb-true b 10 e
        from false e = absurd (let g = rw e at is in cc)

-- a text is cut at its first line feed
cut : (text : List ℕ) → feed_size text < length text → text ≡ take (feed_size text) text ++ 10 ∷ drop (feed_size text + 1) text
cut [] within = absurd (omega arith)
cut (b ∷ bs) within = cut_by (is_no_feed b) b bs refl (cut bs) within

pub record SameLine (x y r s : List ℕ) : Type 0 where
  pub line : x ≡ y
  pub behind : r ≡ s

first_one : (x y r s : List ℕ) → has_no_feed x ≡ true → has_no_feed y ≡ true → x ++ 10 ∷ r ≡ y ++ 10 ∷ s → SameLine x y r s
first_one [] [] r s hx hy e = record { line = refl; behind = cc }
first_one [] (b ∷ y) r s hx hy e = absurd (let q : b ≡ 10 = cc in let t = eq-eqb b 10 q in let f = (and_parts (not (b == 10)) _ hy).0 in let g = rw t at f in cc)
first_one (a ∷ x) [] r s hx hy e = absurd (let q : a ≡ 10 = cc in let t = eq-eqb a 10 q in let f = (and_parts (not (a == 10)) _ hx).0 in let g = rw t at f in cc)
first_one (a ∷ x) (b ∷ y) r s hx hy e =
    let q : a ≡ b = cc in
    let t : x ++ 10 ∷ r ≡ y ++ 10 ∷ s = cc in
    let more = first_one x y r s (and_parts (not (a == 10)) (has_no_feed x) hx).1 (and_parts (not (b == 10)) (has_no_feed y) hy).1 t in
    record { line = ap (λ k. k ∷ x) q ∙ ap (λ l. b ∷ l) more.line; behind = more.behind }

-- The line of an event.

abbrev bytes_of : Event → List ℕ
bytes_of Enter = codes "enter"
bytes_of Leave = codes "leave"
bytes_of (Fire stage) = codes "fire," ++ decimal stage

line_is : (event : Event) → event_line event ≡ bytes_of event ++ 10 ∷ []
line_is Enter = refl
line_is Leave = refl
line_is (Fire stage) = ap (λ l. (codes "fire," ++ l) ++ 10 ∷ []) (append-nil (decimal stage))

line_behind : (event : Event) (behind : List ℕ) → event_line event ++ behind ≡ bytes_of event ++ 10 ∷ behind
line_behind event behind = ap (λ l. l ++ behind) (line_is event) ∙ append_assoc (bytes_of event) (10 ∷ []) behind

-- Numbers of stages.

abbrev after_digits : ℕ → List ℕ → ℕ
after_digits n [] = n
after_digits n (byte ∷ bytes) = after_digits (n * 10 + (byte - 48)) bytes

after_is : (n : ℕ) (bytes : List ℕ) → fold (λ n byte. n * 10 + (byte - 48)) n bytes ≡ after_digits n bytes
after_is n [] = refl
after_is n (byte ∷ bytes) = after_is (n * 10 + (byte - 48)) bytes

own : IsNumeralModel (λ ds. list_all is_ascii_digit ds ≡ true) (after_digits 0)
own = numerals_by_fold (λ ds. list_all is_ascii_digit ds ≡ true) (search rules) after_digits (search rules)

same_is : (v w : List ℕ) → is_same v w ≡ true → v ≡ w
same_is v w = (bytes_eq-Decides v w).0

same_self : (v : List ℕ) → is_same v v ≡ true
same_self v = (bytes_eq-Decides v v).1 refl

value_is : (n : ℕ) → n < 2 ^ 64 → digits_value (decimal n) ≡ n
value_is n small = after_is 0 (decimal n) ∙ digits_value-decimal own n small

count_back : (n : ℕ) → n ≤ 65535 → count_of (decimal n) ≡ Some n
count_back n few =
    let small : n < 2 ^ 64 = omega arith in
    let value = value_is n small in
    let some : 0 < length (decimal n) = decimal_nonempty n small in
    let ten : length (decimal n) ≤ 10 = length-decimal-le 10 n (omega arith) (omega arith) small in
    let digits : is_digits (decimal n) ≡ true = and_from _ _ (and_from _ _ (le-leb 1 (length (decimal n)) some) (le-leb (length (decimal n)) 10 ten)) (digits_decimal own n small) in
    let within : nat_le (digits_value (decimal n)) (2 ^ 32 - 1) ≡ true = le-leb (digits_value (decimal n)) (2 ^ 32 - 1) (omega arith) in
    ap (λ (b : Bool). if b then Some (digits_value (decimal n)) else None) (and_from _ _ digits within) ∙ ap Some value

stage_back : (depth n : ℕ) → depth ≤ 65535 → (nat_le 1 n && nat_le n depth) ≡ true → stage_of depth (decimal n) ≡ Some n
stage_back depth n few is =
    let high = leb-true n depth (and_parts (nat_le 1 n) (nat_le n depth) is).1 in
    ap (option_and_then (if_stage depth (decimal n))) (count_back n (omega arith))
    ∙ ap (λ (b : Bool). if b then Some n else None) (and_from _ _ (same_self (decimal n)) is)

stage_says : (depth : ℕ) (text : List ℕ) (n : ℕ) → stage_of depth text ≡ Some n → (decimal n ≡ text) × ((nat_le 1 n && nat_le n depth) ≡ true)
stage_says depth text n e = by_count (count_of text) refl e
  where
    by_test : (m : ℕ) (t : Bool) → (is_same (decimal m) text && (nat_le 1 m && nat_le m depth)) ≡ t → (if t then Some m else None) ≡ Some n → (decimal n ≡ text) × ((nat_le 1 n && nat_le n depth) ≡ true)
    by_test m true is e =
        let same : m ≡ n = cc in
        let both = and_parts (is_same (decimal m) text) (nat_le 1 m && nat_le m depth) is in
        (ap decimal (sym same) ∙ same_is (decimal m) text both.0, ap (λ k. nat_le 1 k && nat_le k depth) (sym same) ∙ both.1)
    by_test m false is e = absurd (cc)

    by_count : (o : Option ℕ) → count_of text ≡ o → option_and_then (if_stage depth text) o ≡ Some n → (decimal n ≡ text) × ((nat_le 1 n && nat_le n depth) ≡ true)
    by_count None is e = absurd (cc)
    by_count (Some m) is e = by_test m (is_same (decimal m) text && (nat_le 1 m && nat_le m depth)) refl e

-- What is written is read, and what is read was written.

event_back : (depth : ℕ) (event : Event) → depth ≤ 65535 → may_happen depth event ≡ true → event_of depth (bytes_of event) ≡ Some event
event_back depth Enter few is = refl
event_back depth Leave few is = refl
event_back depth (Fire stage) few is = ap (option_map Fire) (stage_back depth stage few is)

fire_says : (depth : ℕ) (line : List ℕ) (event : Event) → is_same (take 5 line) (codes "fire,") ≡ true → option_map Fire (stage_of depth (drop 5 line)) ≡ Some event
    → (line ≡ bytes_of event) × (may_happen depth event ≡ true)
fire_says depth line event front e = by_stage (stage_of depth (drop 5 line)) refl e
  where
    by_stage : (o : Option ℕ) → stage_of depth (drop 5 line) ≡ o → option_map Fire o ≡ Some event → (line ≡ bytes_of event) × (may_happen depth event ≡ true)
    by_stage None is e = absurd (cc)
    by_stage (Some n) is e =
        let same : Fire n ≡ event = cc in
        let says = stage_says depth (drop 5 line) n is in
        let whole : line ≡ codes "fire," ++ decimal n = sym (take-append-drop 5 line) ∙ ap (λ l. l ++ drop 5 line) (same_is (take 5 line) (codes "fire,") front) ∙ ap (λ l. codes "fire," ++ l) (sym says.0) in
        (whole ∙ ap bytes_of same, ap (may_happen depth) (sym same) ∙ says.1)

event_says : (depth : ℕ) (line : List ℕ) (event : Event) → event_of depth line ≡ Some event → (line ≡ bytes_of event) × (may_happen depth event ≡ true)
event_says depth line event e = by_word (is_same line (codes "enter")) refl (is_same line (codes "leave")) refl (is_same (take 5 line) (codes "fire,")) refl e
  where
    by_word : (a : Bool) → is_same line (codes "enter") ≡ a → (b : Bool) → is_same line (codes "leave") ≡ b → (c : Bool) → is_same (take 5 line) (codes "fire,") ≡ c
        → (if a then Some Enter else (if b then Some Leave else (if c then option_map Fire (stage_of depth (drop 5 line)) else None))) ≡ Some event → (line ≡ bytes_of event) × (may_happen depth event ≡ true)
    by_word true is b bs c cs e = let same : Enter ≡ event = cc in (same_is line (codes "enter") is ∙ ap bytes_of same, ap (may_happen depth) (sym same))
    by_word false is true bs c cs e = let same : Leave ≡ event = cc in (same_is line (codes "leave") bs ∙ ap bytes_of same, ap (may_happen depth) (sym same))
    by_word false is false bs true cs e = fire_says depth line event cs e
    by_word false is false bs false cs e = absurd (cc)

digit_no_feed : (b : ℕ) → is_ascii_digit b ≡ true → is_no_feed b ≡ true
digit_no_feed b is = let low : 48 ≤ b = (grind (arith, is)) in from (b == 10) refl
  where
    from : (t : Bool) → (b == 10) ≡ t → not t ≡ true
    from true e = absurd (let q = eqb-true b 10 e in let low : 48 ≤ b = (grind (arith, is)) in omega arith)
    from false e = refl

digits_no_feed : (w : List ℕ) → list_all is_ascii_digit w ≡ true → has_no_feed w ≡ true
digits_no_feed [] is = refl
digits_no_feed (b ∷ w) is = let both = and_parts (is_ascii_digit b) (list_all is_ascii_digit w) is in and_from _ _ (digit_no_feed b both.0) (digits_no_feed w both.1)

event_no_feed : (depth : ℕ) (event : Event) → depth ≤ 65535 → may_happen depth event ≡ true → has_no_feed (bytes_of event) ≡ true
event_no_feed depth Enter few is = refl
event_no_feed depth Leave few is = refl
event_no_feed depth (Fire stage) few is =
    let high = leb-true stage depth (and_parts (nat_le 1 stage) (nat_le stage depth) is).1 in
    digits_no_feed (decimal stage) (digits_decimal own stage (omega arith))

-- The first line of a text.

module _ (depth : ℕ) (few : depth ≤ 65535) (text : List ℕ) where
  -- where it is the line of an event
  pub begins : (event : Event) → feed_size text < length text → event_of depth (take (feed_size text) text) ≡ Some event → BeginsWith depth text event (feed_size text + 1)
  begins event within e =
      let says = event_says depth (take (feed_size text) text) event e in
      record {
        some = omega arith;
        within = omega arith;
        happens = says.1;
        whole = cut text within ∙ ap (λ l. l ++ 10 ∷ drop (feed_size text + 1) text) says.0 ∙ sym (line_behind event (drop (feed_size text + 1) text));
      }

  -- the first line of a text that begins with one
  first_is : (event : Event) (behind : List ℕ) → may_happen depth event ≡ true → text ≡ event_line event ++ behind
      → (feed_size text < length text) × (event_of depth (take (feed_size text) text) ≡ Some event)
  first_is event behind is whole =
      let t : text ≡ bytes_of event ++ 10 ∷ behind = whole ∙ line_behind event behind in
      let no = event_no_feed depth event few is in
      let size : feed_size text ≡ length (bytes_of event) = ap feed_size t ∙ feed_is (bytes_of event) behind no in
      let all : length text ≡ length (bytes_of event) + length (10 ∷ behind) = ap length t ∙ length-append (bytes_of event) (10 ∷ behind) in
      (omega arith, ap (λ l. event_of depth (take (feed_size l) l)) t ∙ ap (event_of depth) (first_line_is (bytes_of event) behind no) ∙ event_back depth event few is)

  -- where it has no line feed
  pub no_feed : feed_size text ≡ length text → BeginsWithNone depth text
  no_feed all event behind is whole = let f = first_is event behind is whole in omega (arith, f.0)

  -- where the bytes before it are no event's
  pub no_event : event_of depth (take (feed_size text) text) ≡ None → BeginsWithNone depth text
  no_event none event behind is whole = let f = first_is event behind is whole in let e = f.1 in absurd (cc)

-- A text is one thing.

module _ (depth : ℕ) (few : depth ≤ 65535) where
  same_event : (a b : Event) (r s : List ℕ) → may_happen depth a ≡ true → may_happen depth b ≡ true → event_line a ++ r ≡ event_line b ++ s → (a ≡ b) × (r ≡ s)
  same_event a b r s is_a is_b e =
      let f = first_one (bytes_of a) (bytes_of b) r s (event_no_feed depth a few is_a) (event_no_feed depth b few is_b) (sym (line_behind a r) ∙ e ∙ line_behind b s) in
      let x = event_back depth a few is_a in
      let y = event_back depth b few is_b in
      let z = ap (event_of depth) f.line in
      ((cc), f.behind)

  some_line : (a : Event) (r : List ℕ) → 0 < length (event_line a ++ r)
  some_line a r = let e = ap length (line_behind a r) ∙ length-append (bytes_of a) (10 ∷ r) in omega arith

  -- lines before rests that begin with none, where an empty one may stand at the end
  pub record Parted (text : List ℕ) (before : List Event) (rest : List ℕ) : Type 0 where
    pub whole : text ≡ event_lines before ++ rest
    pub happen : list_all (may_happen depth) before ≡ true
    pub none : BeginsWithNone depth rest

  one_part : (before other : List Event) (rest more : List ℕ) → list_all (may_happen depth) before ≡ true → list_all (may_happen depth) other ≡ true
      → BeginsWithNone depth rest → BeginsWithNone depth more → event_lines before ++ rest ≡ event_lines other ++ more → (before ≡ other) × (rest ≡ more)
  one_part [] [] rest more x y m n e = (refl, e)
  one_part [] (b ∷ other) rest more x y m n e =
      let both = and_parts (may_happen depth b) (list_all (may_happen depth) other) y in
      absurd (m b (event_lines other ++ more) both.0 (e ∙ append_assoc (event_line b) (event_lines other) more))
  one_part (a ∷ before) [] rest more x y m n e =
      let both = and_parts (may_happen depth a) (list_all (may_happen depth) before) x in
      absurd (n a (event_lines before ++ rest) both.0 (sym e ∙ append_assoc (event_line a) (event_lines before) rest))
  one_part (a ∷ before) (b ∷ other) rest more x y m n e =
      let p = and_parts (may_happen depth a) (list_all (may_happen depth) before) x in
      let q = and_parts (may_happen depth b) (list_all (may_happen depth) other) y in
      let s = same_event a b (event_lines before ++ rest) (event_lines other ++ more) p.0 q.0 (sym (append_assoc (event_line a) (event_lines before) rest) ∙ e ∙ append_assoc (event_line b) (event_lines other) more) in
      let r = one_part before other rest more p.1 q.1 m n s.1 in
      (ap (λ k. k ∷ before) s.0 ∙ ap (λ l. b ∷ l) r.0, r.1)

  -- an empty rest begins with no line
  none_left : BeginsWithNone depth []
  none_left event behind is e = let l = some_line event behind in let z = ap length e in omega arith

  parted : (text : List ℕ) (a b : List Event) (r s : List ℕ) → Parted text a r → Parted text b s → (a ≡ b) × (r ≡ s)
  parted text a b r s x y = one_part a b r s x.happen y.happen x.none y.none (sym x.whole ∙ y.whole)

  of_events : (text : List ℕ) (events : List Event) → IsEventsOf text depth (Ok events) → Parted text events []
  of_events text events is = record { whole = is.0 ∙ sym (append-nil (event_lines events)); happen = is.1; none = none_left }

  of_bad : (text : List ℕ) (n : ℕ) (is : IsBadLine text depth n) → Parted text is.before is.rest
  of_bad text n is = record { whole = is.whole; happen = is.happen; none = is.none }

  pub one_reading : (text : List ℕ) (a b : Result (List Event) ℕ) → IsEventsOf text depth a → IsEventsOf text depth b → a ≡ b
  one_reading text (Ok a) (Ok b) x y = ap Ok (parted text a b [] [] (of_events text a x) (of_events text b y)).0
  one_reading text (Ok a) (Err n) x y = absurd (let e = ap length (parted text a y.before [] y.rest (of_events text a x) (of_bad text n y)).1 in let s = y.some in omega arith)
  one_reading text (Err m) (Ok b) x y = absurd (let e = ap length (parted text x.before b x.rest [] (of_bad text m x) (of_events text b y)).1 in let s = x.some in omega arith)
  one_reading text (Err m) (Err n) x y =
      let e = ap length (parted text x.before y.before x.rest y.rest (of_bad text m x) (of_bad text n y)).0 in
      ap Err (let a = x.number in let b = y.number in omega arith)

-- The loop that reads.

-- the lines before a place
pub record ReadTo (depth : ℕ) (text : List ℕ) (events : List Event) (at number : ℕ) : Type 0 where
  pub whole : text ≡ event_lines events ++ drop at text
  pub happen : list_all (may_happen depth) events ≡ true
  pub count : number ≡ length events + 1
  pub within : at ≤ length text
  pub few : number ≤ at + 1

lines_append : (xs : List Event) (y : Event) → event_lines (xs ++ y ∷ []) ≡ event_lines xs ++ event_line y
lines_append [] y = append-nil (event_line y)
lines_append (x ∷ xs) y = ap (λ l. event_line x ++ l) (lines_append xs y) ∙ sym (append_assoc (event_line x) (event_lines xs) (event_line y))

module _ (depth : ℕ) (text : List ℕ) (events : List Event) (at number : ℕ) (so_far : ReadTo depth text events at number) where
  pub read_one : (event : Event) (size : ℕ) → BeginsWith depth (drop at text) event size → ReadTo depth text (events ++ event ∷ []) (at + size) (number + 1)
  read_one event size is =
      let on : drop size (drop at text) ≡ drop (at + size) text = drop-drop size at text in
      let l = length-drop at text in
      record {
        whole = so_far.whole ∙ ap (λ r. event_lines events ++ r) (is.whole ∙ ap (λ r. event_line event ++ r) on)
            ∙ sym (append_assoc (event_lines events) (event_line event) (drop (at + size) text)) ∙ ap (λ r. r ++ drop (at + size) text) (sym (lines_append events event));
        happen = list_all-append (may_happen depth) events (event ∷ []) ∙ and_from _ _ so_far.happen (and_from _ _ is.happens refl);
        count = let c = so_far.count in let a = length-append events (event ∷ []) in omega arith;
        within = let w = so_far.within in let s = is.within in omega arith;
        few = let f = so_far.few in let s = is.some in omega arith;
      }

  pub bad : at < length text → BeginsWithNone depth (drop at text) → IsEventsOf text depth (Err number)
  bad more none = record {
    before = events;
    rest = drop at text;
    whole = so_far.whole;
    happen = so_far.happen;
    number = so_far.count;
    some = let l = length-drop at text in omega arith;
    none = none;
  }

  pub all_read : length text ≤ at → IsEventsOf text depth (Ok events)
  all_read end = (so_far.whole ∙ ap (λ r. event_lines events ++ r) (drop_all at text end) ∙ append-nil (event_lines events), so_far.happen)

pub read_none : (depth : ℕ) (text : List ℕ) → ReadTo depth text [] 0 1
read_none depth text = record { whole = refl; happen = refl; count = refl; within = omega arith; few = omega arith }

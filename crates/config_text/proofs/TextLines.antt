-- From line to line of a text.
use Rattle.std.proofs.Common.{◌≡◌, ℕ, suc, ◌+◌, ◌≤◌, ◌<◌, inl, inr, Bool, true, false, not, cond, ◌==◌, List, [], ◌∷◌, ◌++◌, map, length, drop, take, Option, Some, None, refl, sym, ap, subst, ◌∙◌, arith, append_assoc, length-append, length-drop}
use Rattle.std.specs.List.{list_all, prefix_len}
use Rattle.std.proofs.lemmas.List.{append-nil, map-append, drop-drop, drop_all, take_all}
use Rattle.std.proofs.lemmas.List.Folds.{list_all-append}
use Rattle.std.proofs.lemmas.List.Sums.{prefix_len-le-length}
use Rattle.std.proofs.lemmas.Bool.{and_parts, and_from, eqb-true, eq-eqb}
use Rattle.config_text.specs.Lines.{NamedParts}
use Rattle.config_text.specs.Lines.{Line, lines_of, line_text, line_fits}
use Rattle.config_text.specs.Fronts.{ended, has_no_feed, whole_text, Spells, IsFront, IsBadLine}
use Rattle.config_text.specs.Drafts.{Draft, at_start, headed, in_fields, in_arrays, counted, in_stage, in_outputs, finished, steps, step, on_draft, when}
use Rattle.config_text.specs.Reading.{on, line_from}
use Rattle.config_text.specs.Reader.{is_no_feed, feed_size, line_at, stepped, ended_named}
use Rattle.config_text.proofs.Says.{steps-append}
use Rattle.config_text.proofs.Whole.{whole_run, whole_of, front_of}
use Rattle.config_text.proofs.Split.{line_feed_free}
use Rattle.config_text.proofs.Meant.{line_back, line_says}

abbrev pub after_line : List ℕ → ℕ → ℕ
after_line text at = at + feed_size text at + 1

-- the lines before a place
pub record SoFar (text : List ℕ) (at number : ℕ) (d : Draft) : Type 0 where
  pub lines : List Line
  pub run : steps at_start lines ≡ Some d
  pub fit : list_all line_fits lines ≡ true
  pub whole : text ≡ ended (map line_text lines) ++ drop at text
  pub count : number ≡ length lines + 1
  pub within : at ≤ length text
  pub few : number ≤ at + 1

pub feed_within : (text : List ℕ) (at : ℕ) → at ≤ length text → at + feed_size text at ≤ length text
feed_within text at h = let a = prefix_len-le-length is_no_feed (drop at text) in let l = length-drop at text in omega arith

pub ruleset feeds = feed_within

-- ended lines
ended-append : (xs ys : List (List ℕ)) → ended (xs ++ ys) ≡ ended xs ++ ended ys
ended-append [] ys = refl
ended-append (x ∷ xs) ys = ap (λ l. (x ++ 10 ∷ []) ++ l) (ended-append xs ys) ∙ sym (append_assoc (x ++ 10 ∷ []) (ended xs) (ended ys))

-- a text has one first line
pub record SameFirst (x y r s : List ℕ) : Type 0 where
  pub line : x ≡ y
  pub rest : r ≡ s

pub first_one : (x y r s : List ℕ) → has_no_feed x ≡ true → has_no_feed y ≡ true → x ++ 10 ∷ r ≡ y ++ 10 ∷ s → SameFirst x y r s
first_one [] [] r s hx hy e = record { line = refl; rest = cc }
first_one [] (b ∷ y) r s hx hy e = absurd (let q : b ≡ 10 = cc in let t = eq-eqb b 10 q in let f = (and_parts (not (b == 10)) _ hy).0 in let g = rw t at f in cc)
first_one (a ∷ x) [] r s hx hy e = absurd (let q : a ≡ 10 = cc in let t = eq-eqb a 10 q in let f = (and_parts (not (a == 10)) _ hx).0 in let g = rw t at f in cc)
first_one (a ∷ x) (b ∷ y) r s hx hy e =
    let q : a ≡ b = cc in
    let t : x ++ 10 ∷ r ≡ y ++ 10 ∷ s = cc in
    let more = first_one x y r s (and_parts (not (a == 10)) (has_no_feed x) hx).1 (and_parts (not (b == 10)) (has_no_feed y) hy).1 t in
    record { line = ap (λ k. k ∷ x) q ∙ ap (λ l. b ∷ l) more.line; rest = more.rest }

-- a line feed stands in no text without one
pub no_line : (x r s : List ℕ) → has_no_feed s ≡ true → x ++ 10 ∷ r ≡ s → ⊥
no_line [] r [] h e = absurd (cc)
no_line [] r (b ∷ s) h e = absurd (let q : b ≡ 10 = cc in let t = eq-eqb b 10 q in let f = (and_parts (not (b == 10)) _ h).0 in let g = rw t at f in cc)
no_line (a ∷ x) r [] h e = absurd (cc)
no_line (a ∷ x) r (b ∷ s) h e = no_line x r s (and_parts (not (b == 10)) (has_no_feed s) h).1 (let t : x ++ 10 ∷ r ≡ s = cc in t)

-- the lines of a text and its rest are determined
ended_one : (xs ys : List (List ℕ)) (r s : List ℕ) → list_all has_no_feed xs ≡ true → list_all has_no_feed ys ≡ true → has_no_feed r ≡ true → has_no_feed s ≡ true → ended xs ++ r ≡ ended ys ++ s → (xs ≡ ys) × (r ≡ s)
ended_one [] [] r s hx hy hr hs e = (refl, e)
ended_one [] (y ∷ ys) r s hx hy hr hs e = absurd (no_line y (ended ys ++ s) r hr (sym (e ∙ append_assoc (y ++ 10 ∷ []) (ended ys) s ∙ append_assoc y (10 ∷ []) (ended ys ++ s))))
ended_one (x ∷ xs) [] r s hx hy hr hs e = absurd (no_line x (ended xs ++ r) s hs (sym (append_assoc (x ++ 10 ∷ []) (ended xs) r ∙ append_assoc x (10 ∷ []) (ended xs ++ r)) ∙ e))
ended_one (x ∷ xs) (y ∷ ys) r s hx hy hr hs e =
    let a = and_parts (has_no_feed x) (list_all has_no_feed xs) hx in
    let b = and_parts (has_no_feed y) (list_all has_no_feed ys) hy in
    let f = first_one x y (ended xs ++ r) (ended ys ++ s) a.0 b.0 (sym (append_assoc (x ++ 10 ∷ []) (ended xs) r ∙ append_assoc x (10 ∷ []) (ended xs ++ r)) ∙ e ∙ (append_assoc (y ++ 10 ∷ []) (ended ys) s ∙ append_assoc y (10 ∷ []) (ended ys ++ s))) in
    let m = ended_one xs ys r s a.1 b.1 hr hs f.rest in
    (ap (λ l. l ∷ xs) f.line ∙ ap (λ l. y ∷ l) m.0, m.1)

-- lines are read back
read_all : (ls : List Line) → list_all line_fits ls ≡ true → map line_from (map line_text ls) ≡ map Some ls
read_all [] h = refl
read_all (l ∷ ls) h = let both = and_parts (line_fits l) (list_all line_fits ls) h in ap (λ o. o ∷ map line_from (map line_text ls)) (line_back l both.0) ∙ ap (λ m. Some l ∷ m) (read_all ls both.1)

pub texts_clear : (ls : List Line) → list_all line_fits ls ≡ true → list_all has_no_feed (map line_text ls) ≡ true
texts_clear [] h = refl
texts_clear (l ∷ ls) h = let both = and_parts (line_fits l) (list_all line_fits ls) h in and_from _ _ (line_feed_free l both.0) (texts_clear ls both.1)

record NextLine (xs ls : List Line) (o : Option Line) : Type 0 where
  line : Line
  more : List Line
  whole : xs ≡ ls ++ line ∷ more
  is : o ≡ Some line

next_line : (xs ls : List Line) (o : Option Line) (os : List (Option Line)) → map Some xs ≡ (map Some ls ++ o ∷ []) ++ os → NextLine xs ls o
next_line [] [] o os e = absurd (cc)
next_line (x ∷ xs) [] o os e = record { line = x; more = xs; whole = refl; is = cc }
next_line [] (l ∷ ls) o os e = absurd (cc)
next_line (x ∷ xs) (l ∷ ls) o os e =
    let q : x ≡ l = cc in
    let t : map Some xs ≡ (map Some ls ++ o ∷ []) ++ os = cc in
    let n = next_line xs ls o os t in
    record { line = n.line; more = n.more; whole = ap (λ k. k ∷ xs) q ∙ ap (λ k. l ∷ k) n.whole; is = n.is }

-- a line that says nothing more stands in no front
pub not_front : (ls : List Line) (d : Draft) (bytes : List ℕ) → steps at_start ls ≡ Some d → list_all line_fits ls ≡ true → stepped d bytes ≡ None → IsFront (map line_text ls ++ bytes ∷ []) → ⊥
not_front ls d bytes run fit none (p, (has, (more, e))) =
    let texts : map Some (lines_of p) ≡ (map Some ls ++ line_from bytes ∷ []) ++ map line_from more =
    sym (read_all (lines_of p) has.lines) ∙ ap (map line_from) e ∙ map-append line_from (map line_text ls ++ bytes ∷ []) more
    ∙ ap (λ k. k ++ map line_from more) (map-append line_from (map line_text ls) (bytes ∷ []) ∙ ap (λ k. k ++ line_from bytes ∷ []) (read_all ls fit)) in
    let n = next_line (lines_of p) ls (line_from bytes) (map line_from more) texts in
    let whole = whole_run p has in
    let split : on_draft (step d n.line) (λ e. steps e n.more) ≡ Some (finished p) =
    sym (ap (λ o. on_draft o (λ e. steps e (n.line ∷ n.more))) run) ∙ sym (steps-append at_start ls (n.line ∷ n.more)) ∙ ap (steps at_start) (sym n.whole) ∙ whole in
    let stop : step d n.line ≡ None = ap (λ o. on o (λ l. step d l)) (sym n.is) ∙ none in
    absurd (let z = ap (λ o. on_draft o (λ e. steps e n.more)) stop in cc)

somes : (xs ys : List Line) → map Some xs ≡ map Some ys → xs ≡ ys
somes [] [] e = refl
somes [] (y ∷ ys) e = absurd (cc)
somes (x ∷ xs) [] e = absurd (cc)
somes (x ∷ xs) (y ∷ ys) e =
    let q : x ≡ y = cc in
    let t : map Some xs ≡ map Some ys = cc in
    ap (λ k. k ∷ xs) q ∙ ap (λ k. y ∷ k) (somes xs ys t)

-- a text whose lines do not finish, or with a rest, spells no parts
pub not_whole : (ls : List Line) (d : Draft) (rest text : List ℕ) → steps at_start ls ≡ Some d → list_all line_fits ls ≡ true → has_no_feed rest ≡ true → text ≡ ended (map line_text ls) ++ rest → ((p : NamedParts) → d ≡ finished p → rest ≡ [] → ⊥) → (p : NamedParts) → Spells p text → ⊥
not_whole ls d rest text run fit clear whole never p (has, e) =
    let same = ended_one (map line_text ls) (map line_text (lines_of p)) rest [] (texts_clear ls fit) (texts_clear (lines_of p) has.lines) clear refl (sym whole ∙ e ∙ sym (append-nil (whole_text p))) in
    let lines : map Some ls ≡ map Some (lines_of p) = sym (read_all ls fit) ∙ ap (map line_from) same.0 ∙ read_all (lines_of p) has.lines in
    let equal : ls ≡ lines_of p = somes ls (lines_of p) lines in
    let end = whole_run p has in
    let last : Some d ≡ Some (finished p) = sym run ∙ ap (steps at_start) equal ∙ end in
    never p (cc) same.1

one_more : (n : ℕ) → 1 + n ≡ suc n
one_more n = omega arith

-- the bytes before the first line feed
passes : (bytes : List ℕ) → has_no_feed (take (prefix_len is_no_feed bytes) bytes) ≡ true
passes [] = refl
passes (b ∷ bs) = by_case (passes bs) (is_no_feed b) refl
  where
    by_case : has_no_feed (take (prefix_len is_no_feed bs) bs) ≡ true → (t : Bool) → is_no_feed b ≡ t → has_no_feed (take (cond t (1 + prefix_len is_no_feed bs) 0) (b ∷ bs)) ≡ true
    by_case more true e = rw (one_more (prefix_len is_no_feed bs)) (and_from _ _ e more)
    by_case more false e = refl

is_feed : (b : ℕ) → is_no_feed b ≡ false → b ≡ 10
is_feed b h = from (b == 10) refl h
  where
    from : (t : Bool) → (b == 10) ≡ t → not t ≡ false → b ≡ 10
    from true e h = eqb-true b 10 e
    from false e h = absurd (cc)

cut : (bytes : List ℕ) → prefix_len is_no_feed bytes < length bytes → bytes ≡ take (prefix_len is_no_feed bytes) bytes ++ 10 ∷ drop (suc (prefix_len is_no_feed bytes)) bytes
cut [] h = absurd (omega arith)
cut (b ∷ bs) h = by_case (λ g. cut bs g) (is_no_feed b) refl h
  where
    by_case : (prefix_len is_no_feed bs < length bs → bs ≡ take (prefix_len is_no_feed bs) bs ++ 10 ∷ drop (suc (prefix_len is_no_feed bs)) bs) → (t : Bool) → is_no_feed b ≡ t → cond t (1 + prefix_len is_no_feed bs) 0 < suc (length bs) → b ∷ bs ≡ take (cond t (1 + prefix_len is_no_feed bs) 0) (b ∷ bs) ++ 10 ∷ drop (suc (cond t (1 + prefix_len is_no_feed bs) 0)) (b ∷ bs)
    by_case more true e g = rw (one_more (prefix_len is_no_feed bs)) (ap (λ l. b ∷ l) (more (omega arith)))
    by_case more false e g = ap (λ k. k ∷ bs) (is_feed b e)

no_feed_left : (bytes : List ℕ) → length bytes ≤ prefix_len is_no_feed bytes → has_no_feed bytes ≡ true
no_feed_left bytes h = subst (λ (l : List ℕ). has_no_feed l ≡ true) (take_all (prefix_len is_no_feed bytes) bytes h) (passes bytes)

-- the rest of a text from a place on, when there is a line feed
here : (text : List ℕ) (at : ℕ) → at + feed_size text at < length text → drop at text ≡ line_at text at ++ 10 ∷ drop (after_line text at) text
here text at h =
    let l = length-drop at text in
    cut (drop at text) (omega arith)
    ∙ ap (λ r. line_at text at ++ 10 ∷ r) (drop-drop (suc (feed_size text at)) at text ∙ ap (λ k. drop k text) (let e : at + suc (feed_size text at) ≡ after_line text at = omega arith in e))

on_some : (o : Option Line) (d e : Draft) → on o (λ l. step d l) ≡ Some e → (l : Line) × ((o ≡ Some l) × (step d l ≡ Some e))
on_some None d e h = absurd (cc)
on_some (Some l) d e h = (l, (refl, h))

pub line_more : (text : List ℕ) (at number : ℕ) (d e : Draft) → SoFar text at number d → at + feed_size text at < length text → stepped d (line_at text at) ≡ Some e → SoFar text (after_line text at) (number + 1) e
line_more text at number d e s h q =
    let (l, (f, g)) = on_some (line_from (line_at text at)) d e q in
    let says = line_says (line_at text at) l f in
    let count = s.count in
    let few = s.few in
    let rest : drop at text ≡ (line_text l ++ 10 ∷ []) ++ drop (after_line text at) text =
    here text at h ∙ ap (λ w. w ++ 10 ∷ drop (after_line text at) text) (sym says.0) ∙ sym (append_assoc (line_text l) (10 ∷ []) (drop (after_line text at) text)) in
    let more : ended (map line_text (s.lines ++ l ∷ [])) ≡ ended (map line_text s.lines) ++ (line_text l ++ 10 ∷ []) =
    ap ended (map-append line_text s.lines (l ∷ [])) ∙ ended-append (map line_text s.lines) (line_text l ∷ []) ∙ ap (λ k. ended (map line_text s.lines) ++ k) (append-nil (line_text l ++ 10 ∷ [])) in
    record {
      lines = s.lines ++ l ∷ [];
      run = steps-append at_start s.lines (l ∷ []) ∙ ap (λ o. on_draft o (λ e. steps e (l ∷ []))) s.run ∙ ap (λ o. on_draft o (λ e. steps e [])) g;
      fit = list_all-append line_fits s.lines (l ∷ []) ∙ and_from _ _ s.fit (and_from _ _ says.1 refl);
      whole = s.whole ∙ ap (λ r. ended (map line_text s.lines) ++ r) rest ∙ sym (append_assoc (ended (map line_text s.lines)) (line_text l ++ 10 ∷ []) (drop (after_line text at) text)) ∙ ap (λ k. k ++ drop (after_line text at) text) (sym more);
      count = ap (λ n. n + 1) count ∙ ap (λ n. n + 1) (sym (length-append s.lines (l ∷ [])));
      within = omega arith;
      few = omega arith;
    }

texts_length : (ls : List Line) → length (map line_text ls) ≡ length ls
texts_length [] = refl
texts_length (l ∷ ls) = ap suc (texts_length ls)

pub bad_line : (text : List ℕ) (at number : ℕ) (d : Draft) → SoFar text at number d → at + feed_size text at < length text → stepped d (line_at text at) ≡ None → IsBadLine text number
bad_line text at number d s h q = record {
  before = map line_text s.lines;
  rest = drop at text;
  whole = s.whole;
  clear = texts_clear s.lines s.fit;
  number = s.count ∙ ap (λ n. n + 1) (sym (texts_length s.lines));
  front = front_of s.lines d s.run s.fit;
  bad = inl (line_at text at, drop (after_line text at) text, (here text at h, (passes (drop at text), not_front s.lines d (line_at text at) s.run s.fit q)));
}

pub bad_end : (text : List ℕ) (at number : ℕ) (d : Draft) → SoFar text at number d → length text ≤ at + feed_size text at → ((p : NamedParts) → d ≡ finished p → drop at text ≡ [] → ⊥) → IsBadLine text number
bad_end text at number d s h never =
    let clear = no_feed_left (drop at text) (let l = length-drop at text in omega arith) in
    record {
      before = map line_text s.lines;
      rest = drop at text;
      whole = s.whole;
      clear = texts_clear s.lines s.fit;
      number = s.count ∙ ap (λ n. n + 1) (sym (texts_length s.lines));
      front = front_of s.lines d s.run s.fit;
      bad = inr (clear, not_whole s.lines d (drop at text) text s.run s.fit clear s.whole never);
    }

-- a rest without a line feed
pub bad_rest : (text : List ℕ) (at number : ℕ) (d : Draft) → SoFar text at number d → length text ≤ at + feed_size text at → at < length text → IsBadLine text number
bad_rest text at number d s h r = bad_end text at number d s h (λ p e f. absurd (let l = length-drop at text in let z = ap length f in omega arith))

-- a text that ends too early
pub bad_stop : (text : List ℕ) (at number : ℕ) (d : Draft) → SoFar text at number d → length text ≤ at + feed_size text at → ended_named d ≡ None → IsBadLine text number
bad_stop text at number d s h none = bad_end text at number d s h (λ p e f. absurd (let z = ap ended_named e in cc))

ended_is : (d : Draft) (p : NamedParts) → ended_named d ≡ Some p → d ≡ finished p
ended_is (finished q) p e = ap finished (cc)
ended_is at_start p e = absurd (cc)
ended_is (headed v) p e = absurd (cc)
ended_is (in_fields v t fs) p e = absurd (cc)
ended_is (in_arrays v t fs arrays) p e = absurd (cc)
ended_is (counted top) p e = absurd (cc)
ended_is (in_stage top done s k) p e = absurd (cc)
ended_is (in_outputs top ss os) p e = absurd (cc)

pub good_text : (text : List ℕ) (at number : ℕ) (d : Draft) (p : NamedParts) → SoFar text at number d → length text ≤ at → ended_named d ≡ Some p → Spells p text
good_text text at number d p s h e =
    let w = whole_of s.lines p (s.run ∙ ap Some (ended_is d p e)) s.fit in
    (w.0, s.whole ∙ ap (λ r. ended (map line_text s.lines) ++ r) (drop_all at text h) ∙ append-nil (ended (map line_text s.lines)) ∙ ap (λ ls. ended (map line_text ls)) (sym w.1))

-- a text spells one list of parts
pub one_parts : (p q : NamedParts) (text : List ℕ) → Spells p text → Spells q text → p ≡ q
one_parts p q text (hp, ep) (hq, eq) =
    let same = ended_one (map line_text (lines_of p)) (map line_text (lines_of q)) [] [] (texts_clear (lines_of p) hp.lines) (texts_clear (lines_of q) hq.lines) refl refl (append-nil (whole_text p) ∙ sym ep ∙ eq ∙ sym (append-nil (whole_text q))) in
    let lines : map Some (lines_of p) ≡ map Some (lines_of q) = sym (read_all (lines_of p) hp.lines) ∙ ap (map line_from) same.0 ∙ read_all (lines_of q) hq.lines in
    let equal : lines_of p ≡ lines_of q = somes (lines_of p) (lines_of q) lines in
    let ends : Some (finished p) ≡ Some (finished q) = sym (whole_run p hp) ∙ ap (steps at_start) equal ∙ whole_run q hq in
    cc

-- one line more: it may stand, or it may not
pub line_step : (text : List ℕ) (at size number : ℕ) (d e : Draft) (bytes : List ℕ) (stands : Bool) → SoFar text at number d → at + feed_size text at < length text → size ≡ feed_size text at → bytes ≡ line_at text at → stepped d bytes ≡ when stands e → stands ≡ true → SoFar text (at + (size + 1)) (number + 1) e
line_step text at size number d e bytes stands s h z b q r =
    subst (λ k. SoFar text k (number + 1) e) (let p : after_line text at ≡ at + (size + 1) = omega arith in p) (line_more text at number d e s h (sym (ap (stepped d) b) ∙ q ∙ ap (λ (t : Bool). when t e) r))

pub line_stop : (text : List ℕ) (at number : ℕ) (d e : Draft) (bytes : List ℕ) (stands : Bool) → SoFar text at number d → at + feed_size text at < length text → bytes ≡ line_at text at → stepped d bytes ≡ when stands e → stands ≡ false → IsBadLine text number
line_stop text at number d e bytes stands s h b q r = bad_line text at number d s h (sym (ap (stepped d) b) ∙ q ∙ ap (λ (t : Bool). when t e) r)

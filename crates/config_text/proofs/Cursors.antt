-- A word of a line, and the words after it.
use Rattle.std.proofs.Common.{◌≡◌, ℕ, suc, ◌+◌, ◌≤◌, ◌<◌, Bool, true, false, not, cond, ◌==◌, if◌then◌else◌, nat_le, nat_lt, List, [], ◌∷◌, ◌++◌, length, drop, take, refl, sym, ap, ◌∙◌, arith, length-drop, append_assoc, ◌⊎◌, inl, inr}
use Rattle.std.specs.List.{prefix_len}
use Rattle.std.proofs.lemmas.List.{append-nil, drop-drop}
use Rattle.std.proofs.lemmas.List.Sums.{prefix_len-le-length}
use Rattle.std.proofs.lemmas.Bool.{le-leb, leb-true, lt-ltb, cases_lt, le-ltb}
use Rattle.config_text.specs.Reading.{split, split_by}
use Rattle.config_text.specs.Reader.{comma_size, is_no_comma, word_at}

-- the words from a place on
abbrev pub words_at : List ℕ → ℕ → List (List ℕ)
words_at line at = if nat_le at (length line) then split (drop at line) else []

abbrev pub next_at : List ℕ → ℕ → ℕ
next_at line at = at + comma_size line at + 1

abbrev after_first : List ℕ → ℕ → List (List ℕ)
after_first bytes n = if nat_lt n (length bytes) then split (drop (suc n) bytes) else []

one_more : (n : ℕ) → 1 + n ≡ suc n
one_more n = omega arith

suc_test : (n m : ℕ) → nat_lt (suc n) (suc m) ≡ nat_lt n m
suc_test n m = from (cases_lt n m)
  where
    from : (n < m) ⊎ (m ≤ n) → nat_lt (suc n) (suc m) ≡ nat_lt n m
    from (inl h) = lt-ltb _ _ (omega arith) ∙ sym (lt-ltb n m h)
    from (inr h) = le-ltb _ _ (omega arith) ∙ sym (le-ltb n m h)

pub split_one : (bytes : List ℕ) → split bytes ≡ take (prefix_len is_no_comma bytes) bytes ∷ after_first bytes (prefix_len is_no_comma bytes)
split_one [] = refl
split_one (b ∷ bs) = from (split_one bs) (b == 44) refl
  where
    from : split bs ≡ take (prefix_len is_no_comma bs) bs ∷ after_first bs (prefix_len is_no_comma bs) → (t : Bool) → (b == 44) ≡ t → split_by t b (split bs) ≡ take (cond (not t) (1 + prefix_len is_no_comma bs) 0) (b ∷ bs) ∷ after_first (b ∷ bs) (cond (not t) (1 + prefix_len is_no_comma bs) 0)
    from more true e = ap (λ l. [] ∷ l) (sym (ap (λ (t : Bool). if t then split bs else []) (lt-ltb 0 (suc (length bs)) (omega arith))))
    from more false e =
        let n = prefix_len is_no_comma bs in
        ap (split_by false b) more
        ∙ ap (λ l. (b ∷ take n bs) ∷ l) (ap (λ (t : Bool). if t then split (drop (suc n) bs) else []) (sym (suc_test n (length bs))))
        ∙ ap (λ k. take k (b ∷ bs) ∷ after_first (b ∷ bs) k) (sym (one_more n))

gt-leb : (a b : ℕ) → b < a → nat_le a b ≡ false
gt-leb a b h = by_case (nat_le a b) refl
  where
    by_case : (t : Bool) → nat_le a b ≡ t → t ≡ false
    by_case true e = absurd (let l = leb-true a b e in omega arith)
    by_case false e = refl

pub words_cons : (line : List ℕ) (at : ℕ) → at ≤ length line → words_at line at ≡ word_at line at ∷ words_at line (next_at line at)
words_cons line at h =
    ap (λ (t : Bool). if t then split (drop at line) else []) (le-leb at (length line) h)
    ∙ split_one (drop at line)
    ∙ ap (λ l. word_at line at ∷ l) (from (cases_lt (comma_size line at) (length (drop at line))))
  where
    from : (comma_size line at < length (drop at line)) ⊎ (length (drop at line) ≤ comma_size line at) → after_first (drop at line) (comma_size line at) ≡ words_at line (next_at line at)
    from (inl a) =
        let l = length-drop at line in
        ap (λ (t : Bool). if t then split (drop (suc (comma_size line at)) (drop at line)) else []) (lt-ltb _ _ a)
        ∙ ap split (drop-drop (suc (comma_size line at)) at line ∙ ap (λ k. drop k line) (let e : at + suc (comma_size line at) ≡ next_at line at = omega arith in e))
        ∙ sym (ap (λ (t : Bool). if t then split (drop (next_at line at) line) else []) (le-leb (next_at line at) (length line) (omega arith)))
    from (inr a) =
        let l = length-drop at line in
        ap (λ (t : Bool). if t then split (drop (suc (comma_size line at)) (drop at line)) else []) (le-ltb _ _ a)
        ∙ sym (ap (λ (t : Bool). if t then split (drop (next_at line at) line) else []) (gt-leb (next_at line at) (length line) (omega arith)))

pub no_words : (line : List ℕ) (at : ℕ) → length line < at → words_at line at ≡ []
no_words line at h = by_case (nat_le at (length line)) refl
  where
    by_case : (t : Bool) → nat_le at (length line) ≡ t → (if t then split (drop at line) else []) ≡ []
    by_case true e = absurd (let l = leb-true at (length line) e in omega arith)
    by_case false e = refl

pub size_within : (line : List ℕ) (at : ℕ) → at ≤ length line → at + comma_size line at ≤ length line
size_within line at h = let a = prefix_len-le-length is_no_comma (drop at line) in let l = length-drop at line in omega arith

pub words_first : (line : List ℕ) (words : List (List ℕ)) → words ≡ [] → split line ≡ words ++ words_at line 0
words_first line words e = sym (ap (λ (t : Bool). if t then split line else []) (le-leb 0 (length line) (omega arith))) ∙ ap (λ ws. ws ++ words_at line 0) (sym e)

-- one word more of a line
pub words_more : (line : List ℕ) (at size : ℕ) (words new : List (List ℕ)) (w bytes : List ℕ) → at ≤ length line → size ≡ comma_size line at → bytes ≡ word_at line at → w ≡ bytes → split line ≡ words ++ words_at line at → new ≡ words ++ w ∷ [] → split line ≡ new ++ words_at line (at + (size + 1))
words_more line at size words new w bytes h z b q e n =
    let place : next_at line at ≡ at + (size + 1) = omega arith in
    e ∙ ap (λ l. words ++ l) (words_cons line at h)
    ∙ sym (append_assoc words (word_at line at ∷ []) (words_at line (next_at line at)))
    ∙ ap (λ k. (words ++ k ∷ []) ++ words_at line (next_at line at)) (sym (q ∙ b))
    ∙ ap (λ l. l ++ words_at line (next_at line at)) (sym n)
    ∙ ap (λ k. new ++ words_at line k) place

pub words_done : (line : List ℕ) (at : ℕ) (words : List (List ℕ)) → length line < at → split line ≡ words ++ words_at line at → words ≡ split line
words_done line at words h e = sym (append-nil words) ∙ ap (λ l. words ++ l) (sym (no_words line at h)) ∙ sym e

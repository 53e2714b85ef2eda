-- A text has one answer.
use Rattle.std.proofs.Common.{◌≡◌, ℕ, ◌+◌, ◌⊎◌, inl, inr, true, List, [], ◌∷◌, ◌++◌, map, length, refl, sym, ap, subst, ◌∙◌, append_assoc}
use Rattle.std.specs.List.{list_all}
use Rattle.std.proofs.lemmas.List.{append-nil}
use Rattle.std.proofs.lemmas.Bool.{and_parts}
use Rattle.config_text.specs.Lines.{NamedParts}
use Rattle.config_text.specs.Lines.{lines_of, line_text}
use Rattle.config_text.specs.Fronts.{ended, has_no_feed, HasText, whole_text, Spells, IsFront, IsBadLine}
use Rattle.config_text.proofs.TextLines.{first_one, no_line, texts_clear}

-- the line after some lines, where there is one
pub record Goes (xs ys : List (List ℕ)) (r : List ℕ) : Type 0 where
  pub line : List ℕ
  pub more : List (List ℕ)
  pub after : List ℕ
  pub whole : ys ≡ (xs ++ line ∷ []) ++ more
  pub rest : r ≡ line ++ 10 ∷ after
  pub clear : has_no_feed line ≡ true

abbrev lead : List ℕ → List ℕ → List ℕ
lead x r = x ++ 10 ∷ r

cut_first : (x : List ℕ) (xs : List (List ℕ)) (r : List ℕ) → ended (x ∷ xs) ++ r ≡ lead x (ended xs ++ r)
cut_first x xs r = append_assoc (x ++ 10 ∷ []) (ended xs) r ∙ append_assoc x (10 ∷ []) (ended xs ++ r)

-- lines and rest of one text, cut at two places
compare : (xs ys : List (List ℕ)) (r s : List ℕ) → list_all has_no_feed xs ≡ true → list_all has_no_feed ys ≡ true → ended xs ++ r ≡ ended ys ++ s → (xs ≡ ys) ⊎ (Goes xs ys r ⊎ Goes ys xs s)
compare [] [] r s hx hy e = inl refl
compare [] (y ∷ ys) r s hx hy e = inr (inl (record { line = y; more = ys; after = ended ys ++ s; whole = refl; rest = e ∙ cut_first y ys s; clear = (and_parts (has_no_feed y) (list_all has_no_feed ys) hy).0 }))
compare (x ∷ xs) [] r s hx hy e = inr (inr (record { line = x; more = xs; after = ended xs ++ r; whole = refl; rest = sym e ∙ cut_first x xs r; clear = (and_parts (has_no_feed x) (list_all has_no_feed xs) hx).0 }))
compare (x ∷ xs) (y ∷ ys) r s hx hy e =
    let a = and_parts (has_no_feed x) (list_all has_no_feed xs) hx in
    let b = and_parts (has_no_feed y) (list_all has_no_feed ys) hy in
    let f = first_one x y (ended xs ++ r) (ended ys ++ s) a.0 b.0 (sym (cut_first x xs r) ∙ e ∙ cut_first y ys s) in
    step f.line (compare xs ys r s a.1 b.1 f.rest)
  where
    step : x ≡ y → (xs ≡ ys) ⊎ (Goes xs ys r ⊎ Goes ys xs s) → (x ∷ xs ≡ y ∷ ys) ⊎ (Goes (x ∷ xs) (y ∷ ys) r ⊎ Goes (y ∷ ys) (x ∷ xs) s)
    step q (inl m) = inl (ap (λ k. k ∷ xs) q ∙ ap (λ k. y ∷ k) m)
    step q (inr (inl g)) = inr (inl (record { line = g.line; more = g.more; after = g.after; whole = ap (λ k. y ∷ k) g.whole ∙ ap (λ k. k ∷ ((xs ++ g.line ∷ []) ++ g.more)) (sym q); rest = g.rest; clear = g.clear }))
    step q (inr (inr g)) = inr (inr (record { line = g.line; more = g.more; after = g.after; whole = ap (λ k. x ∷ k) g.whole ∙ ap (λ k. k ∷ ((ys ++ g.line ∷ []) ++ g.more)) q; rest = g.rest; clear = g.clear }))

-- the first lines of a front are a front
shorter : (xs zs : List (List ℕ)) → IsFront (xs ++ zs) → IsFront xs
shorter xs zs (p, (h, (more, e))) = (p, (h, (zs ++ more, e ∙ append_assoc xs zs more)))

-- a bad line is no line of a front
abbrev Bad : List (List ℕ) → List ℕ → List ℕ → Type 0
Bad before rest text = ((line after : List ℕ) × ((rest ≡ line ++ 10 ∷ after) × ((has_no_feed line ≡ true) × (IsFront (before ++ line ∷ []) → ⊥)))) ⊎ ((has_no_feed rest ≡ true) × ((p : NamedParts) → Spells p text → ⊥))

no_goes : (text rest : List ℕ) (before ys : List (List ℕ)) → Bad before rest text → Goes before ys rest → IsFront ys → ⊥
no_goes text rest before ys (inl (line, after, (e, (clear, never)))) g f =
    let same = first_one line g.line after g.after clear g.clear (sym e ∙ g.rest) in
    never (shorter (before ++ line ∷ []) g.more (subst IsFront (g.whole ∙ ap (λ k. (before ++ k ∷ []) ++ g.more) (sym same.line)) f))
no_goes text rest before ys (inr (clear, never)) g f = no_line g.line g.after rest clear (sym g.rest)

front_of_text : (p : NamedParts) → HasText p → IsFront (map line_text (lines_of p))
front_of_text p h = (p, (h, ([], sym (append-nil (map line_text (lines_of p))))))

-- no text of parts has a bad line
pub bad_no_text : (text : List ℕ) (n : ℕ) (p : NamedParts) → IsBadLine text n → Spells p text → ⊥
bad_no_text text n p b (h, e) = from b.bad (compare b.before (map line_text (lines_of p)) b.rest [] b.clear (texts_clear (lines_of p) h.lines) (sym b.whole ∙ e ∙ sym (append-nil (whole_text p))))
  where
    none : (line after : List ℕ) → [] ≡ line ++ 10 ∷ after → ⊥
    none [] after q = absurd (cc)
    none (c ∷ line) after q = absurd (cc)

    from : Bad b.before b.rest text → (b.before ≡ map line_text (lines_of p)) ⊎ (Goes b.before (map line_text (lines_of p)) b.rest ⊎ Goes (map line_text (lines_of p)) b.before []) → ⊥
    from (inr (clear, never)) c = never p (h, e)
    from (inl x) (inr (inl g)) = no_goes text b.rest b.before (map line_text (lines_of p)) (inl x) g (front_of_text p h)
    from (inl x) (inr (inr g)) = none g.line g.after g.rest
    from (inl (line, after, (q, (clear, never)))) (inl same) = rest_none (sym b.whole ∙ e ∙ ap ended (sym same) ∙ sym (append-nil (ended b.before))) q
      where
        rest_none : ended b.before ++ b.rest ≡ ended b.before ++ [] → b.rest ≡ line ++ 10 ∷ after → ⊥
        rest_none u q = none line after (sym (behind (ended b.before) b.rest [] u) ∙ q)
          where
            behind : (k r s : List ℕ) → k ++ r ≡ k ++ s → r ≡ s
            behind [] r s u = u
            behind (c ∷ k) r s u = behind k r s (let t : k ++ r ≡ k ++ s = cc in t)

-- one line is the first bad one
pub one_bad : (text : List ℕ) (n m : ℕ) → IsBadLine text n → IsBadLine text m → n ≡ m
one_bad text n m a b = from (compare a.before b.before a.rest b.rest a.clear b.clear (sym a.whole ∙ b.whole))
  where
    from : (a.before ≡ b.before) ⊎ (Goes a.before b.before a.rest ⊎ Goes b.before a.before b.rest) → n ≡ m
    from (inl q) = a.number ∙ ap (λ l. length l + 1) q ∙ sym b.number
    from (inr (inl g)) = absurd (no_goes text a.rest a.before b.before a.bad g b.front)
    from (inr (inr g)) = absurd (no_goes text b.rest b.before a.before b.bad g a.front)

-- The flanks that are left when statements go that are not needed.
use Rattle.std.proofs.Common.{◌≡◌, ℕ, suc, ◌&&◌, ◌||◌, not, nat_eq, Bool, true, false, List, [], ◌∷◌, map, refl, sym, ap, ◌∙◌, subst, ⊎_elim}
use Rattle.std.specs.List.{AllByRecursion as Every}
use Rattle.std.proofs.lemmas.Bool.{eqb-true, eq-eqb, and_parts, and_from, or_cases, or_left, or_right}
use Rattle.dom_words.specs.Order.{Access, is_read, is_read_at, is_written}
use Rattle.dom_flat.specs.declared.line.Operand.{Operand}
use Rattle.dom_flat.specs.declared.line.Line.{Line}
use Rattle.dom_flat.specs.declared.line.Line.TheVariants as line
use Rattle.dom_flat.specs.Kept.{is_same, are_flanked}
use Rattle.dom_flat.specs.Lines.{stores_to}
use Rattle.dom_flat.proofs.Facts.{same_operand}
use Rattle.three_address.specs.Needs.{is_stored, is_used, kept, line_renumbered, needed, renumbered}
use Rattle.three_address.proofs.Flanks.{same_itself}
use Rattle.three_address.proofs.Kept.{kept_none, kept_one, later, mark, number}

or_parts : (a b : Bool) → (a || b) ≡ false → (a ≡ false) × (b ≡ false)
or_parts true b e = absurd (cc)
or_parts false b e = (refl, e)

or_end : (b : Bool) → (b || true) ≡ true
or_end true = refl
or_end false = refl

not_read : (b c : Bool) → (b ≡ false → c ≡ false) → not b ≡ true → not c ≡ true
not_read true c f e = absurd (cc)
not_read false c f e = ap not (f refl)

module _ (fields : ℕ) (whole : List Line) (outputs : List Operand) (marks : List Bool) where
  abbrev pub renumber : Operand → Operand
  renumber = renumbered (number fields whole outputs marks)

  -- of the reads those are left whose arrays have a write flank, and maybe others
  record Rests (all left : List (Access Operand)) : Type 0 where
    pub less : (a : ℕ) → is_read all a ≡ false → is_read left a ≡ false
    pub same : (a : ℕ) (i : Operand) → is_stored whole a ≡ true → is_read_at is_same all a i ≡ true → is_read_at is_same left a (renumber i) ≡ true

  abbrev pub AreOfWhole : List Line → Type 0
  AreOfWhole lines = Every (λ l. (a : ℕ) → stores_to a l ≡ true → is_stored whole a ≡ true) lines

  rests_kept : (all left : List (Access Operand)) (a : ℕ) (i : Operand) → Rests all left → Rests (record { array = a; index = i } ∷ all) (record { array = a; index = renumber i } ∷ left)
  rests_kept all left a i r =
      record {
        less = λ b e. let p = or_parts (nat_eq a b) (is_read all b) e in
            ap (λ (t : Bool). t || is_read left b) p.0 ∙ r.less b p.1;
        same = λ b j s e. ⊎_elim
            (λ (h : (nat_eq a b && is_same i j) ≡ true).
            let p = and_parts (nat_eq a b) (is_same i j) h in
            or_left (nat_eq a b && is_same (renumber i) (renumber j)) (is_read_at is_same left b (renumber j))
            (and_from (nat_eq a b) (is_same (renumber i) (renumber j)) p.0 (subst (λ (k : Operand). is_same (renumber i) (renumber k) ≡ true) (same_operand i j p.1) (same_itself (renumber i)))))
            (λ (h : is_read_at is_same all b j ≡ true).
            or_right (nat_eq a b && is_same (renumber i) (renumber j)) (is_read_at is_same left b (renumber j)) (r.same b j s h))
            (or_cases (nat_eq a b && is_same i j) (is_read_at is_same all b j) e);
      }

  rests_dropped : (all left : List (Access Operand)) (a : ℕ) (i : Operand) → is_stored whole a ≡ false → Rests all left → Rests (record { array = a; index = i } ∷ all) left
  rests_dropped all left a i none r =
      record {
        less = λ b e. r.less b (or_parts (nat_eq a b) (is_read all b) e).1;
        same = λ b j s e. ⊎_elim
            (λ (h : (nat_eq a b && is_same i j) ≡ true).
            absurd (let is : a ≡ b = eqb-true a b (and_parts (nat_eq a b) (is_same i j) h).0 in let f : is_stored whole b ≡ false = sym (ap (is_stored whole) is) ∙ none in cc))
            (λ (h : is_read_at is_same all b j ≡ true). r.same b j s h)
            (or_cases (nat_eq a b && is_same i j) (is_read_at is_same all b j) e);
      }

  abbrev us : ℕ → List Line → List Line
  us v lines = map (line_renumbered (number fields whole outputs marks)) (kept (needed whole outputs v lines) lines)

  kept_is : (v : ℕ) (l : Line) (lines : List Line) → mark fields whole outputs marks v l lines ≡ true → us v (l ∷ lines) ≡ line_renumbered (number fields whole outputs marks) l ∷ us (suc v) lines
  kept_is v l lines q = ap (map (line_renumbered (number fields whole outputs marks))) (kept_one fields whole outputs marks v l lines q)

  dropped_is : (v : ℕ) (l : Line) (lines : List Line) → mark fields whole outputs marks v l lines ≡ false → us v (l ∷ lines) ≡ us (suc v) lines
  dropped_is v l lines q = ap (map (line_renumbered (number fields whole outputs marks))) (kept_none fields whole outputs marks v l lines q)

  -- a statement that is no flank
  plain : (v : ℕ) (l : Line) (lines : List Line) (left : List (Access Operand)) (writes : List ℕ) → ((ms : List Line) → are_flanked left writes (line_renumbered (number fields whole outputs marks) l ∷ ms) ≡ are_flanked left writes ms)
      → are_flanked left writes (us (suc v) lines) ≡ true → are_flanked left writes (us v (l ∷ lines)) ≡ true
  plain v l lines left writes is h = by_case (mark fields whole outputs marks v l lines) refl
    where
      by_case : (b : Bool) → mark fields whole outputs marks v l lines ≡ b → are_flanked left writes (us v (l ∷ lines)) ≡ true
      by_case true q = ap (are_flanked left writes) (kept_is v l lines q) ∙ is (us (suc v) lines) ∙ h
      by_case false q = ap (are_flanked left writes) (dropped_is v l lines q) ∙ h

  fetch_left : (v a : ℕ) (i : Operand) (lines : List Line) (all left : List (Access Operand)) (writes : List ℕ) → Rests all left → not (is_read all a) ≡ true
      → ((now : List (Access Operand)) → Rests (record { array = a; index = i } ∷ all) now → are_flanked now writes (us (suc v) lines) ≡ true)
      → are_flanked left writes (us v (line.Fetch a i ∷ lines)) ≡ true
  fetch_left v a i lines all left writes r e rest = by_case (mark fields whole outputs marks v (line.Fetch a i) lines) refl
    where
      by_case : (b : Bool) → mark fields whole outputs marks v (line.Fetch a i) lines ≡ b → are_flanked left writes (us v (line.Fetch a i ∷ lines)) ≡ true
      by_case true q =
          ap (are_flanked left writes) (kept_is v (line.Fetch a i) lines q)
          ∙ and_from (not (is_read left a)) (are_flanked (record { array = a; index = renumber i } ∷ left) writes (us (suc v) lines)) (not_read (is_read all a) (is_read left a) (r.less a) e) (rest (record { array = a; index = renumber i } ∷ left) (rests_kept all left a i r))
      by_case false q =
          ap (are_flanked left writes) (dropped_is v (line.Fetch a i) lines q)
          ∙ rest left (rests_dropped all left a i (or_parts (is_used outputs (kept (later fields whole outputs marks v lines) lines) v) (is_stored whole a) q).1 r)

  flanks_left : (v : ℕ) (lines : List Line) (all left : List (Access Operand)) (writes : List ℕ) → AreOfWhole lines → Rests all left → are_flanked all writes lines ≡ true → are_flanked left writes (us v lines) ≡ true
  flanks_left v [] all left writes o r h = refl
  flanks_left v (line.Fetch a i ∷ lines) all left writes o r h =
      let p = and_parts (not (is_read all a)) (are_flanked (record { array = a; index = i } ∷ all) writes lines) h in
      fetch_left v a i lines all left writes r p.0 (λ now rests. flanks_left (suc v) lines (record { array = a; index = i } ∷ all) now writes o.1 rests p.1)
  flanks_left v (line.Store a i w ∷ lines) all left writes o r h =
      let p = and_parts (is_read_at is_same all a i && not (is_written writes a)) (are_flanked all (a ∷ writes) lines) h in
      let q = and_parts (is_read_at is_same all a i) (not (is_written writes a)) p.0 in
      let stays = or_end (is_used outputs (kept (later fields whole outputs marks v lines) lines) v) in
      ap (are_flanked left writes) (kept_is v (line.Store a i w) lines stays)
      ∙ and_from (is_read_at is_same left a (renumber i) && not (is_written writes a)) (are_flanked left (a ∷ writes) (us (suc v) lines))
      (and_from (is_read_at is_same left a (renumber i)) (not (is_written writes a)) (r.same a i (o.0 a (eq-eqb a a refl)) q.0) q.1)
      (flanks_left (suc v) lines all left (a ∷ writes) o.1 r p.1)
  flanks_left v (line.Un u x ∷ lines) all left writes o r h = plain v (line.Un u x) lines left writes (λ ms. refl) (flanks_left (suc v) lines all left writes o.1 r h)
  flanks_left v (line.Bin u x y ∷ lines) all left writes o r h = plain v (line.Bin u x y) lines left writes (λ ms. refl) (flanks_left (suc v) lines all left writes o.1 r h)
  flanks_left v (line.Cond c x y ∷ lines) all left writes o r h = plain v (line.Cond c x y) lines left writes (λ ms. refl) (flanks_left (suc v) lines all left writes o.1 r h)
  flanks_left v (line.Hash unit modulus args ∷ lines) all left writes o r h = plain v (line.Hash unit modulus args) lines left writes (λ ms. refl) (flanks_left (suc v) lines all left writes o.1 r h)

-- statements of a list are statements of it
stores_whole : (before lines : List Line) → Every (λ l. (a : ℕ) → stores_to a l ≡ true → is_stored lines a ≡ true) lines
stores_whole before [] = tt
stores_whole before (l ∷ lines) =
    (λ a e. or_left (stores_to a l) (is_stored lines a) e, wider l lines lines (stores_whole before lines))
  where
    wider : (m : Line) (all ms : List Line) → Every (λ k. (a : ℕ) → stores_to a k ≡ true → is_stored all a ≡ true) ms → Every (λ k. (a : ℕ) → stores_to a k ≡ true → is_stored (m ∷ all) a ≡ true) ms
    wider m all [] p = tt
    wider m all (k ∷ ms) p = (λ a e. or_right (stores_to a m) (is_stored all a) (p.0 a e), wider m all ms p.1)

-- the flanks of the statements that are kept stand right
pub kept_flanks : (fields : ℕ) (lines : List Line) (outputs : List Operand) (marks : List Bool) → are_flanked [] [] lines ≡ true
    → are_flanked [] [] (map (line_renumbered (number fields lines outputs marks)) (kept (needed lines outputs fields lines) lines)) ≡ true
kept_flanks fields lines outputs marks h =
    flanks_left fields lines outputs marks fields lines [] [] [] (stores_whole [] lines) (record { less = λ a e. refl; same = λ a i s e. absurd (let f : false ≡ true = e in cc) }) h

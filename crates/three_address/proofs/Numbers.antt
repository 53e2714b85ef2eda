-- The new numbers in the table are those of the definition.
use Rattle.std.proofs.Common.{◌≡◌, ℕ, zero, suc, ◌+◌, ◌-◌, ◌<◌, ◌≤◌, nat_lt, ◌&&◌, Bool, true, false, List, [], ◌∷◌, length, map, take, refl, ap, ◌∙◌, arith, if◌then◌else◌}
use Rattle.std.specs.Prelude.{slice_index}
use Rattle.std.proofs.lemmas.Bool.{ltb-true, lt-ltb, ltb-false, and_parts, and_from}
use Rattle.dom_flat.specs.declared.line.Operand.{Operand}
use Rattle.dom_flat.specs.declared.line.Operand.TheVariants.{Const, Value}
use Rattle.dom_flat.specs.declared.line.Line.{Line}
use Rattle.dom_flat.specs.declared.line.Line.TheVariants as line
use Rattle.dom_flat.specs.Kept.{are_below, is_below}
use Rattle.dom_flat.specs.Lines.{operands_of}
use Rattle.dom_flat.proofs.Order.{AreEarlier}
use Rattle.three_address.specs.inner.Numbering.{lines_below, number_in, numbers_from}
use Rattle.three_address.specs.Needs.{count, kept, line_renumbered, needed, new_number, renumbered}

pub length_numbers : (n : ℕ) (marks : List Bool) → length (numbers_from n marks) ≡ length marks
length_numbers n [] = refl
length_numbers n (true ∷ marks) = ap suc (length_numbers (n + 1) marks)
length_numbers n (false ∷ marks) = ap suc (length_numbers n marks)

number_at : (n : ℕ) (marks : List Bool) (j : ℕ) → j < length marks → slice_index (numbers_from n marks) j ≡ n + count (take j marks)
number_at n [] j h = absurd (omega arith)
number_at n (true ∷ marks) zero h = omega arith
number_at n (false ∷ marks) zero h = omega arith
number_at n (true ∷ marks) (suc j) h = let e = number_at (n + 1) marks j (omega arith) in omega arith
number_at n (false ∷ marks) (suc j) h = number_at n marks j (omega arith)

pub number_same : (fields : ℕ) (marks : List Bool) (v : ℕ) → v < fields + length marks → number_in fields (numbers_from fields marks) v ≡ new_number fields marks v
number_same fields marks v h = by_case (nat_lt v fields) refl
  where
    by_case : (b : Bool) → nat_lt v fields ≡ b → (if b then v else slice_index (numbers_from fields marks) (v - fields)) ≡ (if b then v else fields + count (take (v - fields) marks))
    by_case true e = refl
    by_case false e = let le = ltb-false v fields e in number_at fields marks (v - fields) (omega arith)

module _ (f g : ℕ → ℕ) (n : ℕ) (same : (v : ℕ) → v < n → f v ≡ g v) where
  pub operand_same : (o : Operand) → is_below n o ≡ true → renumbered f o ≡ renumbered g o
  operand_same (Const w) h = refl
  operand_same (Value v) h = ap Value (same v (ltb-true v n h))

  pub operands_same : (os : List Operand) → are_below n os ≡ true → map (renumbered f) os ≡ map (renumbered g) os
  operands_same [] h = refl
  operands_same (o ∷ os) h =
      let p = and_parts (is_below n o) (are_below n os) h in
      ap (λ (x : Operand). x ∷ map (renumbered f) os) (operand_same o p.0) ∙ ap (λ (xs : List Operand). renumbered g o ∷ xs) (operands_same os p.1)

  line_same : (l : Line) → are_below n (operands_of l) ≡ true → line_renumbered f l ≡ line_renumbered g l
  line_same (line.Fetch a i) h = ap (line.Fetch a) (operand_same i (and_parts (is_below n i) true h).0)
  line_same (line.Store a i v) h =
      let p = and_parts (is_below n i) (is_below n v && true) h in
      ap (λ (x : Operand). line.Store a x (renumbered f v)) (operand_same i p.0) ∙ ap (line.Store a (renumbered g i)) (operand_same v (and_parts (is_below n v) true p.1).0)
  line_same (line.Un o a) h = ap (line.Un o) (operand_same a (and_parts (is_below n a) true h).0)
  line_same (line.Bin o a b) h =
      let p = and_parts (is_below n a) (is_below n b && true) h in
      ap (λ (x : Operand). line.Bin o x (renumbered f b)) (operand_same a p.0) ∙ ap (line.Bin o (renumbered g a)) (operand_same b (and_parts (is_below n b) true p.1).0)
  line_same (line.Cond c a b) h =
      let p = and_parts (is_below n c) (is_below n a && (is_below n b && true)) h in
      let q = and_parts (is_below n a) (is_below n b && true) p.1 in
      ap (λ (x : Operand). line.Cond x (renumbered f a) (renumbered f b)) (operand_same c p.0)
      ∙ ap (λ (x : Operand). line.Cond (renumbered g c) x (renumbered f b)) (operand_same a q.0)
      ∙ ap (line.Cond (renumbered g c) (renumbered g a)) (operand_same b (and_parts (is_below n b) true q.1).0)
  line_same (line.Hash unit modulus args) h = ap (line.Hash unit modulus) (operands_same args h)

  pub kept_same : (marks : List Bool) (lines : List Line) → lines_below n lines ≡ true → map (line_renumbered f) (kept marks lines) ≡ map (line_renumbered g) (kept marks lines)
  kept_same [] lines h = refl
  kept_same (mark ∷ marks) [] h = refl
  kept_same (true ∷ marks) (l ∷ lines) h =
      let p = and_parts (are_below n (operands_of l)) (lines_below n lines) h in
      ap (λ (x : Line). x ∷ map (line_renumbered f) (kept marks lines)) (line_same l p.0) ∙ ap (λ (xs : List Line). line_renumbered g l ∷ xs) (kept_same marks lines p.1)
  kept_same (false ∷ marks) (l ∷ lines) h = kept_same marks lines (and_parts (are_below n (operands_of l)) (lines_below n lines) h).1

pub below_more : (n m : ℕ) (os : List Operand) → n ≤ m → are_below n os ≡ true → are_below m os ≡ true
below_more n m [] le h = refl
below_more n m (o ∷ os) le h =
    let p = and_parts (is_below n o) (are_below n os) h in and_from (is_below m o) (are_below m os) (one o p.0) (below_more n m os le p.1)
  where
    one : (u : Operand) → is_below n u ≡ true → is_below m u ≡ true
    one (Const w) e = refl
    one (Value v) e = let below = ltb-true v n e in lt-ltb v m (omega arith)

-- statements that use earlier values use values below the end
pub earlier_below : (n m : ℕ) (lines : List Line) → n + length lines ≤ m → AreEarlier n lines → lines_below m lines ≡ true
earlier_below n m [] le h = refl
earlier_below n m (l ∷ lines) le h =
    and_from (are_below m (operands_of l)) (lines_below m lines) (below_more n m (operands_of l) (omega arith) h.0) (earlier_below (suc n) m lines (omega arith) h.1)

pub length_needed : (all : List Line) (outputs : List Operand) (v : ℕ) (lines : List Line) → length (needed all outputs v lines) ≡ length lines
length_needed all outputs v [] = refl
length_needed all outputs v (l ∷ lines) = ap suc (length_needed all outputs (suc v) lines)

pub count_kept : (marks : List Bool) (lines : List Line) → length marks ≡ length lines → length (kept marks lines) ≡ count marks
count_kept [] lines e = refl
count_kept (true ∷ marks) [] e = absurd (omega arith)
count_kept (false ∷ marks) [] e = absurd (omega arith)
count_kept (true ∷ marks) (l ∷ lines) e = ap suc (count_kept marks lines (omega arith))
count_kept (false ∷ marks) (l ∷ lines) e = count_kept marks lines (omega arith)

-- The items of a list with one name for each value are in range, and their flanks in order.
use Rattle.std.proofs.Common.{◌≡◌, ℕ, suc, ◌<◌, ◌≤◌, ◌==◌, Bool, true, false, not, ◌&&◌, nat_eq, nat_lt, List, [], ◌∷◌, ◌++◌, Some, length, refl, sym, ap, ◌∙◌, subst, append_assoc, ⊎_elim, if◌then◌else◌}
use Rattle.std.proofs.lemmas.Bool.{and_parts, and_from, ltb-true, cases_lt}
use Rattle.std.proofs.lemmas.List.{append-nil, get_or_past, get_or_append_left, get_or_push}
use Rattle.dom_words.specs.Order.{Access, is_read, is_read_at, is_written}
use Rattle.dom_ast.specs.declared.part.Goal.{Goal}
use Rattle.dom_ast.specs.declared.part.Goal.TheVariants as goal
use Rattle.dom_ast.specs.declared.part.Place.{Place}
use Rattle.dom_ast.specs.declared.part.Place.TheVariants as place
use Rattle.dom_ast.specs.Kept.{parts_count, part_within, parts_within, ops_within, place_within}
use Rattle.dom_ast.specs.Named.{NamedForm, read, make, write, is_operand, is_same_operand, makes_of, named_ranges, operand_within}
use Rattle.dom_ast.specs.Resolved.{PartForm, number, field, state, fresh, made, call, un, chain, choice, PartForms, no_parts, part, OpForms, no_ops, op}
use Rattle.dom_ast.specs.Straight.{straight_ranges}
use Rattle.dom_ast.proofs.NamedOrder.{named_in_order}
use Rattle.ssa_names.specs.declared.operand.Operand.{Operand}
use Rattle.ssa_names.specs.declared.operand.Operand.TheVariants.{Number, Field, Made}
use Rattle.ssa_names.specs.Naming.{Current, all_renamed, assigned, operand_form, ops_renamed, place_operand, plain, renamed, with_operand}

-- the arrays that items read, the last one first, after those read before
abbrev pub reads_after : List (Access PartForm) → List NamedForm → List (Access PartForm)
reads_after reads [] = reads
reads_after reads (read a i ∷ items) = reads_after (record { array = a; index = i } ∷ reads) items
reads_after reads (make p ∷ items) = reads_after reads items
reads_after reads (write a i p ∷ items) = reads_after reads items

abbrev pub writes_after : List ℕ → List NamedForm → List ℕ
writes_after writes [] = writes
writes_after writes (read a i ∷ items) = writes_after writes items
writes_after writes (make p ∷ items) = writes_after writes items
writes_after writes (write a i p ∷ items) = writes_after (a ∷ writes) items

module _ (fields arrays names : ℕ) where
  -- what may stand in an item after items that make these values
  abbrev pub is_fit : List Bool → Operand → Bool
  is_fit before o = operand_within fields before (operand_form o)

  pub fit_part : (before : List Bool) (o : Operand) → is_fit before o ≡ true → part_within (named_ranges fields before) (operand_form o) ≡ true
  fit_part before o e = (and_parts (is_operand (operand_form o)) (part_within (named_ranges fields before) (operand_form o)) e).1

  -- and after more items
  pub fit_more : (before : List Bool) (b : Bool) (o : Operand) → is_fit before o ≡ true → is_fit (before ++ b ∷ []) o ≡ true
  fit_more before b (Number w) e = refl
  fit_more before b (Field f) e = e
  fit_more before b (Made k) e =
      ⊎_elim (λ (h : k < length before). get_or_append_left before (b ∷ []) false k h ∙ e) (λ (h : length before ≤ k). absurd (let past = get_or_past before k false h in cc)) (cases_lt k (length before))

  pub fit_last : (before : List Bool) → is_fit (before ++ true ∷ []) (Made (length before)) ≡ true
  fit_last before = get_or_push before true false (length before) refl

  fit_either : (before : List Bool) (b : Bool) (x y : Operand) → is_fit before x ≡ true → is_fit before y ≡ true → is_fit before (if b then x else y) ≡ true
  fit_either before true x y e h = e
  fit_either before false x y e h = h

  pub with_fit : (before : List Bool) (k : ℕ) (o : Operand) (os : ℕ → Operand) (j : ℕ) → is_fit before o ≡ true → is_fit before (os j) ≡ true → is_fit before (with_operand k o os j) ≡ true
  with_fit before k o os j e h = fit_either before (j == k) o (os j) e h

  -- what stands for names is fit
  pub record IsFit (before : List Bool) (now : Current) : Type 0 where
    pub of_fields : (f : ℕ) → f < fields → is_fit before (now.fields f) ≡ true
    pub of_arrays : (a : ℕ) → is_fit before (now.arrays a) ≡ true
    pub of_fresh : (k : ℕ) → is_fit before (now.fresh k) ≡ true
    pub of_indexes : (a : ℕ) → is_fit before (now.indexes a) ≡ true

  pub all_fit_more : (before : List Bool) (b : Bool) (now : Current) → IsFit before now → IsFit (before ++ b ∷ []) now
  all_fit_more before b now h = record {
    of_fields = λ f inside. fit_more before b (now.fields f) (h.of_fields f inside);
    of_arrays = λ a. fit_more before b (now.arrays a) (h.of_arrays a);
    of_fresh = λ k. fit_more before b (now.fresh k) (h.of_fresh k);
    of_indexes = λ a. fit_more before b (now.indexes a) (h.of_indexes a);
  }

  pub assigned_fit : (before : List Bool) (g : Goal) (o : Operand) (now : Current) → IsFit before now → is_fit before o ≡ true → IsFit before (assigned g o now)
  assigned_fit before (goal.Field f) o now h e =
      record { of_fields = λ j inside. with_fit before f o now.fields j e (h.of_fields j inside); of_arrays = h.of_arrays; of_fresh = h.of_fresh; of_indexes = h.of_indexes }
  assigned_fit before (goal.State a i) o now h e =
      record { of_fields = h.of_fields; of_arrays = λ j. with_fit before a o now.arrays j e (h.of_arrays j); of_fresh = h.of_fresh; of_indexes = h.of_indexes }
  assigned_fit before (goal.Fresh k) o now h e =
      record { of_fields = h.of_fields; of_arrays = h.of_arrays; of_fresh = λ j. with_fit before k o now.fresh j e (h.of_fresh j); of_indexes = h.of_indexes }

  pub place_fit : (before : List Bool) (i : Place) (now : Current) → IsFit before now → place_within (straight_ranges fields arrays names) i ≡ true → is_fit before (place_operand now i) ≡ true
  place_fit before (place.Word w) now h e = refl
  place_fit before (place.Field f) now h e = h.of_fields f (ltb-true f fields e)

  pub plain_fit : (before : List Bool) (p : PartForm) (now : Current) (o : Operand) → IsFit before now → part_within (straight_ranges fields arrays names) p ≡ true → plain now p ≡ Some o → is_fit before o ≡ true
  plain_fit before (number w) now o h e q = let is : Number w ≡ o = cc in subst (λ (x : Operand). is_fit before x ≡ true) is refl
  plain_fit before (field f) now o h e q = let is : now.fields f ≡ o = cc in subst (λ (x : Operand). is_fit before x ≡ true) is (h.of_fields f (ltb-true f fields e))
  plain_fit before (state a i) now o h e q = let is : now.arrays a ≡ o = cc in subst (λ (x : Operand). is_fit before x ≡ true) is (h.of_arrays a)
  plain_fit before (fresh k) now o h e q = let is : now.fresh k ≡ o = cc in subst (λ (x : Operand). is_fit before x ≡ true) is (h.of_fresh k)
  plain_fit before (made k) now o h e q = absurd (cc)
  plain_fit before (call unit ps) now o h e q = absurd (cc)
  plain_fit before (un u p) now o h e q = absurd (cc)
  plain_fit before (chain p os) now o h e q = absurd (cc)
  plain_fit before (choice c p r) now o h e q = absurd (cc)

  count_renamed : (now : Current) (ps : PartForms) → parts_count (all_renamed now ps) ≡ parts_count ps
  count_renamed now no_parts = refl
  count_renamed now (part p ps) = ap suc (count_renamed now ps)

  -- an expression stays in range
  module _ (before : List Bool) (now : Current) (h : IsFit before now) where
    mutual
      pub renamed_within : (p : PartForm) → part_within (straight_ranges fields arrays names) p ≡ true → part_within (named_ranges fields before) (renamed now p) ≡ true
      renamed_within (number w) e = refl
      renamed_within (field f) e = fit_part before (now.fields f) (h.of_fields f (ltb-true f fields e))
      renamed_within (state a i) e = fit_part before (now.arrays a) (h.of_arrays a)
      renamed_within (fresh k) e = fit_part before (now.fresh k) (h.of_fresh k)
      renamed_within (made k) e = absurd (cc)
      renamed_within (call unit ps) e =
          let q = and_parts (nat_eq (parts_count ps) unit.args) (parts_within (straight_ranges fields arrays names) ps) e in
          and_from _ _ (ap (λ (n : ℕ). nat_eq n unit.args) (count_renamed now ps) ∙ q.0) (all_within ps q.1)
      renamed_within (un u p) e = renamed_within p e
      renamed_within (chain p os) e =
          let q = and_parts (part_within (straight_ranges fields arrays names) p) (ops_within (straight_ranges fields arrays names) os) e in
          and_from _ _ (renamed_within p q.0) (renamed_ops_within os q.1)
      renamed_within (choice c p r) e =
          let q = and_parts (part_within (straight_ranges fields arrays names) c) (part_within (straight_ranges fields arrays names) p && part_within (straight_ranges fields arrays names) r) e in
          let s = and_parts (part_within (straight_ranges fields arrays names) p) (part_within (straight_ranges fields arrays names) r) q.1 in
          and_from _ _ (renamed_within c q.0) (and_from _ _ (renamed_within p s.0) (renamed_within r s.1))

      all_within : (ps : PartForms) → parts_within (straight_ranges fields arrays names) ps ≡ true → parts_within (named_ranges fields before) (all_renamed now ps) ≡ true
      all_within no_parts e = refl
      all_within (part p ps) e =
          let q = and_parts (part_within (straight_ranges fields arrays names) p) (parts_within (straight_ranges fields arrays names) ps) e in
          and_from _ _ (renamed_within p q.0) (all_within ps q.1)

      renamed_ops_within : (os : OpForms) → ops_within (straight_ranges fields arrays names) os ≡ true → ops_within (named_ranges fields before) (ops_renamed now os) ≡ true
      renamed_ops_within no_ops e = refl
      renamed_ops_within (op o p os) e =
          let q = and_parts (part_within (straight_ranges fields arrays names) p) (ops_within (straight_ranges fields arrays names) os) e in
          and_from _ _ (renamed_within p q.0) (renamed_ops_within os q.1)

  -- one item after these values, reads and writes
  abbrev pub is_item : List Bool → List (Access PartForm) → List ℕ → NamedForm → Bool
  is_item before reads writes x = named_in_order fields arrays before reads writes (x ∷ [])

  -- an item more
  pub named_push : (before : List Bool) (reads : List (Access PartForm)) (writes : List ℕ) (xs : List NamedForm) (x : NamedForm)
      → named_in_order fields arrays before reads writes xs ≡ true
      → is_item (before ++ makes_of xs) (reads_after reads xs) (writes_after writes xs) x ≡ true
      → named_in_order fields arrays before reads writes (xs ++ x ∷ []) ≡ true
  named_push before reads writes [] x e h = subst (λ (b : List Bool). is_item b reads writes x ≡ true) (append-nil before) h
  named_push before reads writes (read a i ∷ xs) x e h =
      let p = and_parts (nat_lt a arrays) (operand_within fields before i && (not (is_read reads a) && named_in_order fields arrays (before ++ true ∷ []) (record { array = a; index = i } ∷ reads) writes xs)) e in
      let q = and_parts (operand_within fields before i) (not (is_read reads a) && named_in_order fields arrays (before ++ true ∷ []) (record { array = a; index = i } ∷ reads) writes xs) p.1 in
      let r = and_parts (not (is_read reads a)) (named_in_order fields arrays (before ++ true ∷ []) (record { array = a; index = i } ∷ reads) writes xs) q.1 in
      let h' = subst (λ (b : List Bool). is_item b (reads_after reads (read a i ∷ xs)) (writes_after writes xs) x ≡ true) (sym (append_assoc before (true ∷ []) (makes_of xs))) h in
      and_from _ _ p.0 (and_from _ _ q.0 (and_from _ _ r.0 (named_push (before ++ true ∷ []) (record { array = a; index = i } ∷ reads) writes xs x r.1 h')))
  named_push before reads writes (make p ∷ xs) x e h =
      let q = and_parts (part_within (named_ranges fields before) p) (named_in_order fields arrays (before ++ true ∷ []) reads writes xs) e in
      let h' = subst (λ (b : List Bool). is_item b (reads_after reads xs) (writes_after writes xs) x ≡ true) (sym (append_assoc before (true ∷ []) (makes_of xs))) h in
      and_from _ _ q.0 (named_push (before ++ true ∷ []) reads writes xs x q.1 h')
  named_push before reads writes (write a i p ∷ xs) x e h =
      let rest = named_in_order fields arrays (before ++ false ∷ []) reads (a ∷ writes) xs in
      let s = and_parts (nat_lt a arrays) (operand_within fields before i && (operand_within fields before p && (is_read_at is_same_operand reads a i && (not (is_written writes a) && rest)))) e in
      let t = and_parts (operand_within fields before i) (operand_within fields before p && (is_read_at is_same_operand reads a i && (not (is_written writes a) && rest))) s.1 in
      let u = and_parts (operand_within fields before p) (is_read_at is_same_operand reads a i && (not (is_written writes a) && rest)) t.1 in
      let v = and_parts (is_read_at is_same_operand reads a i) (not (is_written writes a) && rest) u.1 in
      let w = and_parts (not (is_written writes a)) rest v.1 in
      let h' = subst (λ (b : List Bool). is_item b (reads_after reads xs) (writes_after (a ∷ writes) xs) x ≡ true) (sym (append_assoc before (false ∷ []) (makes_of xs))) h in
      and_from _ _ s.0 (and_from _ _ t.0 (and_from _ _ u.0 (and_from _ _ v.0 (and_from _ _ w.0 (named_push (before ++ false ∷ []) reads (a ∷ writes) xs x w.1 h')))))

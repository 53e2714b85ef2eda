-- The walk over tables makes the items of the definition, where all numbers are in range.
use Rattle.std.proofs.Common.{◌≡◌, ℕ, zero, suc, ◌<◌, true, ◌&&◌, nat_lt, List, [], ◌∷◌, ◌++◌, Option, Some, None, fold, length, map, replicate, refl, sym, ap, ◌∙◌, subst, arith, get_or, set, get_or-set_other, ⊎_elim}
use Rattle.std.proofs.lemmas.Bool.{and_parts, ltb-true, cases_eq}
use Rattle.std.proofs.lemmas.List.{ext_get_or, length-set, length-map, length-replicate, get_or-map, get_or-set_same}
use Rattle.std.proofs.lemmas.List.FromFn.{length-map-range_with_len, get_or-map-range_with_len}
use Rattle.dom_ast.specs.declared.part.Goal.{Goal}
use Rattle.dom_ast.specs.declared.part.Goal.TheVariants as goal
use Rattle.dom_ast.specs.declared.part.Place.{Place}
use Rattle.dom_ast.specs.declared.part.Place.TheVariants as place
use Rattle.dom_ast.specs.Flanks.{FlankForm, flank_within, flanks_within}
use Rattle.dom_ast.specs.Flanks as flank
use Rattle.dom_ast.specs.Kept.{goal_within, part_within, parts_within, ops_within, place_within, target_within}
use Rattle.dom_ast.specs.Named.{NamedForm, read, make, write}
use Rattle.dom_ast.specs.Resolved.{PartForm, number, field, state, fresh, made, call, un, chain, choice, PartForms, no_parts, part, OpForms, no_ops, op}
use Rattle.dom_ast.specs.Straight.{StepForm, straight_ranges}
use Rattle.ssa_names.specs.declared.operand.Operand.{Operand}
use Rattle.ssa_names.specs.declared.operand.Operand.TheVariants.{Number, Field, Made}
use Rattle.ssa_names.specs.Naming.{Current, Naming, all_renamed, assigned, named, named_item, named_read, named_set, named_write, operand_form, ops_renamed, outputs_of, place_operand, plain, read_at, renamed, starting, with_operand}
use Rattle.ssa_names.specs.inner.Tables.{Rows, Tabled, at, current_in, rows_assigned, rows_read, starting_rows, tabled, tabled_item, tabled_read, tabled_set, tabled_write}
use Rattle.ssa_names.proofs.Kept.{with_other, with_same}

-- where a row has what stands for a name, it has so after a change of both
set_shown : (os : List Operand) (k : ℕ) (o p : Operand) (now : ℕ → Operand) (j : ℕ) → k < length os → o ≡ p → at os j ≡ now j → at (set os k o) j ≡ with_operand k p now j
set_shown os k o p now j inside same shown = ⊎_elim here other (cases_eq j k)
  where
    here : j ≡ k → at (set os k o) j ≡ with_operand k p now j
    here q =
        subst (λ (i : ℕ). at (set os k o) i ≡ with_operand k p now i) (sym q) (get_or-set_same os k o (Number 0) inside ∙ same ∙ sym (with_same k p now))

    other : (j ≡ k → ⊥) → at (set os k o) j ≡ with_operand k p now j
    other ne = get_or-set_other os k j o (Number 0) ne ∙ shown ∙ sym (with_other k j p now ne)

zeros_at : (n k : ℕ) → at (replicate n (Number 0)) k ≡ Number 0
zeros_at zero k = refl
zeros_at (suc n) zero = refl
zeros_at (suc n) (suc k) = zeros_at n k

module _ (fields arrays names : ℕ) where
  -- there is a row's operand for each name in range, and it stands for the name
  record Shows (rows : Rows) (now : Current) : Type 0 where
    wide_fields : length rows.fields ≡ fields
    wide_arrays : length rows.arrays ≡ arrays
    wide_fresh : length rows.fresh ≡ names
    wide_indexes : length rows.indexes ≡ arrays
    of_fields : (f : ℕ) → f < fields → at rows.fields f ≡ now.fields f
    of_arrays : (a : ℕ) → at rows.arrays a ≡ now.arrays a
    of_fresh : (k : ℕ) → at rows.fresh k ≡ now.fresh k
    of_indexes : (a : ℕ) → at rows.indexes a ≡ now.indexes a

  module _ (rows : Rows) (now : Current) (s : Shows rows now) where
    place_shown : (i : Place) → place_within (straight_ranges fields arrays names) i ≡ true → place_operand (current_in rows) i ≡ place_operand now i
    place_shown (place.Word w) e = refl
    place_shown (place.Field f) e = s.of_fields f (ltb-true f fields e)

    plain_shown : (p : PartForm) → part_within (straight_ranges fields arrays names) p ≡ true → plain (current_in rows) p ≡ plain now p
    plain_shown (number w) e = refl
    plain_shown (field f) e = ap Some (s.of_fields f (ltb-true f fields e))
    plain_shown (state a i) e = ap Some (s.of_arrays a)
    plain_shown (fresh k) e = ap Some (s.of_fresh k)
    plain_shown (made k) e = refl
    plain_shown (call unit ps) e = refl
    plain_shown (un u p) e = refl
    plain_shown (chain p os) e = refl
    plain_shown (choice c p r) e = refl

    mutual
      renamed_shown : (p : PartForm) → part_within (straight_ranges fields arrays names) p ≡ true → renamed (current_in rows) p ≡ renamed now p
      renamed_shown (number w) e = refl
      renamed_shown (field f) e = ap operand_form (s.of_fields f (ltb-true f fields e))
      renamed_shown (state a i) e = ap operand_form (s.of_arrays a)
      renamed_shown (fresh k) e = ap operand_form (s.of_fresh k)
      renamed_shown (made k) e = refl
      renamed_shown (call unit ps) e =
          ap (call unit) (all_renamed_shown ps (and_parts _ (parts_within (straight_ranges fields arrays names) ps) e).1)
      renamed_shown (un u p) e = ap (un u) (renamed_shown p e)
      renamed_shown (chain p os) e =
          let q = and_parts (part_within (straight_ranges fields arrays names) p) (ops_within (straight_ranges fields arrays names) os) e in
          ap (λ (x : PartForm). chain x (ops_renamed (current_in rows) os)) (renamed_shown p q.0) ∙ ap (chain (renamed now p)) (ops_renamed_shown os q.1)
      renamed_shown (choice c p r) e =
          let q = and_parts (part_within (straight_ranges fields arrays names) c) (part_within (straight_ranges fields arrays names) p && part_within (straight_ranges fields arrays names) r) e in
          let t = and_parts (part_within (straight_ranges fields arrays names) p) (part_within (straight_ranges fields arrays names) r) q.1 in
          ap (λ (x : PartForm). choice x (renamed (current_in rows) p) (renamed (current_in rows) r)) (renamed_shown c q.0)
          ∙ ap (λ (x : PartForm). choice (renamed now c) x (renamed (current_in rows) r)) (renamed_shown p t.0)
          ∙ ap (choice (renamed now c) (renamed now p)) (renamed_shown r t.1)

      all_renamed_shown : (ps : PartForms) → parts_within (straight_ranges fields arrays names) ps ≡ true → all_renamed (current_in rows) ps ≡ all_renamed now ps
      all_renamed_shown no_parts e = refl
      all_renamed_shown (part p ps) e =
          let q = and_parts (part_within (straight_ranges fields arrays names) p) (parts_within (straight_ranges fields arrays names) ps) e in
          ap (λ (x : PartForm). part x (all_renamed (current_in rows) ps)) (renamed_shown p q.0) ∙ ap (part (renamed now p)) (all_renamed_shown ps q.1)

      ops_renamed_shown : (os : OpForms) → ops_within (straight_ranges fields arrays names) os ≡ true → ops_renamed (current_in rows) os ≡ ops_renamed now os
      ops_renamed_shown no_ops e = refl
      ops_renamed_shown (op o p os) e =
          let q = and_parts (part_within (straight_ranges fields arrays names) p) (ops_within (straight_ranges fields arrays names) os) e in
          ap (λ (x : PartForm). op o x (ops_renamed (current_in rows) os)) (renamed_shown p q.0) ∙ ap (op o (renamed now p)) (ops_renamed_shown os q.1)

    assigned_shown : (g : Goal) (o p : Operand) → goal_within (straight_ranges fields arrays names) g ≡ true → o ≡ p → Shows (rows_assigned g o rows) (assigned g p now)
    assigned_shown (goal.Field f) o p e same =
        let small = ltb-true f fields e in
        let wide = s.wide_fields in
        let inside : f < length rows.fields = omega arith in
        record {
          wide_fields = length-set rows.fields f o ∙ s.wide_fields;
          wide_arrays = s.wide_arrays;
          wide_fresh = s.wide_fresh;
          wide_indexes = s.wide_indexes;
          of_fields = λ j within. set_shown rows.fields f o p now.fields j inside same (s.of_fields j within);
          of_arrays = s.of_arrays;
          of_fresh = s.of_fresh;
          of_indexes = s.of_indexes;
        }
    assigned_shown (goal.State a i) o p e same =
        let small = ltb-true a arrays (and_parts (nat_lt a arrays) (place_within (straight_ranges fields arrays names) i) e).0 in
        let wide = s.wide_arrays in
        let inside : a < length rows.arrays = omega arith in
        record {
          wide_fields = s.wide_fields;
          wide_arrays = length-set rows.arrays a o ∙ s.wide_arrays;
          wide_fresh = s.wide_fresh;
          wide_indexes = s.wide_indexes;
          of_fields = s.of_fields;
          of_arrays = λ j. set_shown rows.arrays a o p now.arrays j inside same (s.of_arrays j);
          of_fresh = s.of_fresh;
          of_indexes = s.of_indexes;
        }
    assigned_shown (goal.Fresh k) o p e same =
        let small = ltb-true k names e in
        let wide = s.wide_fresh in
        let inside : k < length rows.fresh = omega arith in
        record {
          wide_fields = s.wide_fields;
          wide_arrays = s.wide_arrays;
          wide_fresh = length-set rows.fresh k o ∙ s.wide_fresh;
          wide_indexes = s.wide_indexes;
          of_fields = s.of_fields;
          of_arrays = s.of_arrays;
          of_fresh = λ j. set_shown rows.fresh k o p now.fresh j inside same (s.of_fresh j);
          of_indexes = s.of_indexes;
        }

    read_shown : (a : ℕ) (i j o p : Operand) → nat_lt a arrays ≡ true → i ≡ j → o ≡ p → Shows (rows_read a i o rows) (read_at a j p now)
    read_shown a i j o p e same_index same =
        let small = ltb-true a arrays e in
        let wide = s.wide_arrays in
        let wide' = s.wide_indexes in
        let inside : a < length rows.arrays = omega arith in
        let inside' : a < length rows.indexes = omega arith in
        record {
          wide_fields = s.wide_fields;
          wide_arrays = length-set rows.arrays a o ∙ s.wide_arrays;
          wide_fresh = s.wide_fresh;
          wide_indexes = length-set rows.indexes a i ∙ s.wide_indexes;
          of_fields = s.of_fields;
          of_arrays = λ b. set_shown rows.arrays a o p now.arrays b inside same (s.of_arrays b);
          of_fresh = s.of_fresh;
          of_indexes = λ b. set_shown rows.indexes a i j now.indexes b inside' same_index (s.of_indexes b);
        }

  -- the same items, and rows of what stands for names
  record Mirrors (t : Tabled) (n : Naming) : Type 0 where
    shows : Shows t.rows n.now
    items : t.items ≡ n.items

  next_mirrors : (t : Tabled) (n : Naming) → Mirrors t n → Made (length t.items) ≡ Made (length n.items)
  next_mirrors t n m = ap (λ (xs : List NamedForm). Made (length xs)) m.items

  read_mirrors : (t : Tabled) (n : Naming) (a : ℕ) (o p : Operand) → nat_lt a arrays ≡ true → o ≡ p → Mirrors t n → Mirrors (tabled_read t a o) (named_read n a p)
  read_mirrors t n a o p e same m = record {
    shows = read_shown t.rows n.now m.shows a o p (Made (length t.items)) (Made (length n.items)) e same (next_mirrors t n m);
    items = ap (λ (xs : List NamedForm). xs ++ read a (operand_form o) ∷ []) m.items ∙ ap (λ (x : Operand). n.items ++ read a (operand_form x) ∷ []) same;
  }

  set_mirrors : (t : Tabled) (n : Naming) (s : StepForm) (r : Option Operand) → part_within (straight_ranges fields arrays names) s.value ≡ true → goal_within (straight_ranges fields arrays names) s.target ≡ true
      → Mirrors t n → Mirrors (tabled_set t s r) (named_set n s r)
  set_mirrors t n s (Some o) inside target m =
      record { shows = assigned_shown t.rows n.now m.shows s.target o o target refl; items = m.items }
  set_mirrors t n s None inside target m = record {
    shows = assigned_shown t.rows n.now m.shows s.target (Made (length t.items)) (Made (length n.items)) target (next_mirrors t n m);
    items = ap (λ (xs : List NamedForm). xs ++ make (renamed (current_in t.rows) s.value) ∷ []) m.items ∙ ap (λ (p : PartForm). n.items ++ make p ∷ []) (renamed_shown t.rows n.now m.shows s.value inside);
  }

  write_mirrors : (t : Tabled) (n : Naming) (a : ℕ) → Mirrors t n → Mirrors (tabled_write t a) (named_write n a)
  write_mirrors t n a m = record {
    shows = m.shows;
    items =
        ap (λ (xs : List NamedForm). xs ++ write a (operand_form (at t.rows.indexes a)) (operand_form (at t.rows.arrays a)) ∷ []) m.items
        ∙ ap (λ (x : Operand). n.items ++ write a (operand_form x) (operand_form (at t.rows.arrays a)) ∷ []) (m.shows.of_indexes a)
        ∙ ap (λ (x : Operand). n.items ++ write a (operand_form (n.now.indexes a)) (operand_form x) ∷ []) (m.shows.of_arrays a);
  }

  item_mirrors : (t : Tabled) (n : Naming) (x : FlankForm) → flank_within (straight_ranges fields arrays names) x ≡ true → Mirrors t n → Mirrors (tabled_item t x) (named_item n x)
  item_mirrors t n (flank.read a i) inside m =
      let q = and_parts (nat_lt a arrays) (place_within (straight_ranges fields arrays names) i) inside in
      read_mirrors t n a (place_operand (current_in t.rows) i) (place_operand n.now i) q.0 (place_shown t.rows n.now m.shows i q.1) m
  item_mirrors t n (flank.set s) inside m =
      let q = and_parts (part_within (straight_ranges fields arrays names) s.value) (target_within (straight_ranges fields arrays names) (Some s.target)) inside in
      subst (λ (r : Option Operand). Mirrors (tabled_set t s r) (named_set n s (plain n.now s.value))) (sym (plain_shown t.rows n.now m.shows s.value q.0)) (set_mirrors t n s (plain n.now s.value) q.0 q.1 m)
  item_mirrors t n (flank.write a i) inside m = write_mirrors t n a m

  all_mirror : (t : Tabled) (n : Naming) (xs : List FlankForm) → flanks_within (straight_ranges fields arrays names) xs ≡ true → Mirrors t n → Mirrors (fold tabled_item t xs) (fold named_item n xs)
  all_mirror t n [] inside m = m
  all_mirror t n (x ∷ xs) inside m =
      let q = and_parts (flank_within (straight_ranges fields arrays names) x) (flanks_within (straight_ranges fields arrays names) xs) inside in
      all_mirror (tabled_item t x) (named_item n x) xs q.1 (item_mirrors t n x q.0 m)

  start_shows : Shows (starting_rows fields arrays names) starting
  start_shows = record {
    wide_fields = length-map-range_with_len Field 0 fields;
    wide_arrays = length-replicate arrays (Number 0);
    wide_fresh = length-replicate names (Number 0);
    wide_indexes = length-replicate arrays (Number 0);
    of_fields = λ f inside. get_or-map-range_with_len Field 0 fields f f (Number 0) inside (omega arith);
    of_arrays = λ a. zeros_at arrays a;
    of_fresh = λ k. zeros_at names k;
    of_indexes = λ a. zeros_at arrays a;
  }

  tabled_mirrors : (xs : List FlankForm) → flanks_within (straight_ranges fields arrays names) xs ≡ true → Mirrors (tabled fields arrays names xs) (named xs)
  tabled_mirrors xs inside =
      all_mirror (record { rows = starting_rows fields arrays names; items = [] }) (record { now = starting; items = [] }) xs inside (record { shows = start_shows; items = refl })

  pub tabled_items : (xs : List FlankForm) → flanks_within (straight_ranges fields arrays names) xs ≡ true → (tabled fields arrays names xs).items ≡ (named xs).items
  tabled_items xs inside = (tabled_mirrors xs inside).items

  pub tabled_outputs : (xs : List FlankForm) → flanks_within (straight_ranges fields arrays names) xs ≡ true
      → map operand_form (tabled fields arrays names xs).rows.fields ≡ outputs_of fields (named xs)
  tabled_outputs xs inside =
      ext_get_or (number 0) (map operand_form row) (outputs_of fields n) (long ∙ sym (length-map-range_with_len (λ f. operand_form (n.now.fields f)) 0 fields)) each
    where
      n : Naming
      n = named xs

      row : List Operand
      row = (tabled fields arrays names xs).rows.fields

      s : Shows (tabled fields arrays names xs).rows n.now
      s = (tabled_mirrors xs inside).shows

      long : length (map operand_form row) ≡ fields
      long = length-map row operand_form ∙ s.wide_fields

      each : (f : ℕ) → f < length (map operand_form row) → get_or (map operand_form row) f (number 0) ≡ get_or (outputs_of fields n) f (number 0)
      each f h =
          let size = long in
          let wide = s.wide_fields in
          let in_fields : f < fields = omega arith in
          let in_row : f < length row = omega arith in
          get_or-map operand_form row f (Number 0) (number 0) in_row
          ∙ ap operand_form (s.of_fields f in_fields)
          ∙ sym (get_or-map-range_with_len (λ k. operand_form (n.now.fields k)) 0 fields f f (number 0) in_fields (omega arith))

-- The items do what the flanks and steps do.
use Rattle.std.proofs.Common.{◌≡◌, ℕ, ◌+◌, ◌<◌, ◌≤◌, Bool, true, false, ◌&&◌, nat_lt, List, [], ◌∷◌, ◌++◌, Option, Some, None, fold, length, map, slice_index, refl, sym, ap, ◌∙◌, subst, arith, get_or, set, get_or-set_other, ⊎_elim, if◌then◌else◌}
use Rattle.std.proofs.lemmas.Bool.{and_parts, eq-eqb, ne_eqb, ltb-true, cases_eq, cases_lt}
use Rattle.std.proofs.lemmas.List.{ext_get_or, length-set, length-map, get_or-map, get_or-set_same, get_or_past, get_or_append_left, get_or_push, length_push}
use Rattle.std.proofs.lemmas.List.Sums.{fold_push}
use Rattle.std.proofs.lemmas.List.FromFn.{length-map-range_with_len, get_or-map-range_with_len}
use Rattle.dom_words.specs.Operators.{bin_word, chosen, un_word}
use Rattle.dom_words.specs.State.{Hash, fetched, stored}
use Rattle.dom_ast.specs.declared.part.Goal.{Goal}
use Rattle.dom_ast.specs.declared.part.Goal.TheVariants as goal
use Rattle.dom_ast.specs.declared.part.Place.{Place}
use Rattle.dom_ast.specs.declared.part.Place.TheVariants as place
use Rattle.dom_ast.specs.Flanks.{FlankEnv, FlankForm, all_flanked, flank_assigned, flank_entering, flank_names, flank_within, flanked, flanked_outcome, flanks_within, are_flanked}
use Rattle.dom_ast.specs.Flanks as flank
use Rattle.dom_ast.specs.Kept.{Mention, part_within, parts_within, ops_within, place_within, goal_within, target_within}
use Rattle.dom_ast.specs.Meaning.{Names, folded, place_word, put, value, values}
use Rattle.dom_ast.specs.Named.{NamedEnv, NamedForm, read, make, write, all_named, makes, makes_of, item_names, named_outcome, named_step, named_value}
use Rattle.dom_ast.specs.Resolved.{PartForm, number, field, state, fresh, made, call, un, chain, choice, PartForms, no_parts, part, OpForms, no_ops, op}
use Rattle.dom_ast.specs.Straight.{StepForm, straight_ranges}
use Rattle.ssa_names.specs.declared.operand.Operand.{Operand}
use Rattle.ssa_names.specs.declared.operand.Operand.TheVariants.{Number, Field, Made}
use Rattle.ssa_names.specs.Naming.{Current, Naming, all_renamed, assigned, named, named_item, named_read, named_set, named_write, operand_form, ops_renamed, outputs_of, place_operand, plain, read_at, renamed, starting, with_operand}
use Rattle.ssa_names.proofs.Within.{IsFit, is_fit, place_fit}
use Rattle.ssa_names.proofs.Kept.{Goes, Kept, goes_on, start_goes, with_other, with_same}

-- a function with another answer at one number
put_at : (k : ℕ) (w : ℕ) (names : ℕ → ℕ) → put k w names k ≡ w
put_at k w names = ap (λ (b : Bool). if b then w else names k) (eq-eqb k k refl)

put_other : (k j : ℕ) (w : ℕ) (names : ℕ → ℕ) → (j ≡ k → ⊥) → put k w names j ≡ names j
put_other k j w names ne = ap (λ (b : Bool). if b then w else names j) (ne_eqb j k ne)

-- where operands stand for names, they do so after a change of both
put_stands : (f : Operand → ℕ) (os : ℕ → Operand) (k : ℕ) (o : Operand) (w : ℕ) (names : ℕ → ℕ) (j : ℕ)
    → f o ≡ w → f (os j) ≡ names j → f (with_operand k o os j) ≡ put k w names j
put_stands f os k o w names j is stands = ⊎_elim same other (cases_eq j k)
  where
    same : j ≡ k → f (with_operand k o os j) ≡ put k w names j
    same q =
        subst (λ (i : ℕ). f (with_operand k o os i) ≡ put k w names i) (sym q) (ap f (with_same k o os) ∙ is ∙ sym (put_at k w names))

    other : (j ≡ k → ⊥) → f (with_operand k o os j) ≡ put k w names j
    other ne = ap f (with_other k j o os ne) ∙ stands ∙ sym (put_other k j w names ne)

-- a list of words with another word at one place
put_word : (ws : List ℕ) (k w : ℕ) → k < length ws → (j : ℕ) → put k w (slice_index ws) j ≡ slice_index (set ws k w) j
put_word ws k w inside j = ⊎_elim same other (cases_eq j k)
  where
    same : j ≡ k → put k w (slice_index ws) j ≡ slice_index (set ws k w) j
    same q =
        subst (λ (i : ℕ). put k w (slice_index ws) i ≡ slice_index (set ws k w) i) (sym q) (put_at k w (slice_index ws) ∙ sym (get_or-set_same ws k w 0 inside))

    other : (j ≡ k → ⊥) → put k w (slice_index ws) j ≡ slice_index (set ws k w) j
    other ne = put_other k j w (slice_index ws) ne ∙ sym (get_or-set_other ws k j w 0 ne)

module _ (hash : Hash) (packet : List ℕ) (start : List (List ℕ)) (fields arrays names : ℕ) where
  -- what the items come to
  abbrev pub after : List NamedForm → NamedEnv
  after items = all_named hash packet (record { arrays = start; made = [] }) items

  -- the word of an operand behind them
  abbrev pub word : List ℕ → Operand → ℕ
  word values (Number w) = w
  word values (Field f) = slice_index packet f
  word values (Made k) = slice_index values k

  word_value : (env : NamedEnv) (o : Operand) → named_value hash packet env (operand_form o) ≡ word env.made o
  word_value env (Number w) = refl
  word_value env (Field f) = refl
  word_value env (Made k) = refl

  -- values stay where more come
  word_more : (before : List Bool) (values more : List ℕ) (o : Operand) → length before ≡ length values → is_fit fields arrays names before o ≡ true → word (values ++ more) o ≡ word values o
  word_more before values more (Number w) size e = refl
  word_more before values more (Field f) size e = refl
  word_more before values more (Made k) size e =
      ⊎_elim (λ (h : k < length before). get_or_append_left values more 0 k (omega arith)) (λ (h : length before ≤ k). absurd (let past = get_or_past before k false h in cc)) (cases_lt k (length before))

  more_stands : (before : List Bool) (values more : List ℕ) (o : Operand) (w : ℕ)
      → length before ≡ length values → is_fit fields arrays names before o ≡ true → word values o ≡ w → word (values ++ more) o ≡ w
  more_stands before values more o w size e stands = word_more before values more o size e ∙ stands

  -- what stands for names has their words
  pub record Stands (values : List ℕ) (now : Current) (env : FlankEnv) : Type 0 where
    pub width : length env.packet ≡ fields
    pub of_fields : (f : ℕ) → f < fields → word values (now.fields f) ≡ slice_index env.packet f
    pub of_arrays : (a : ℕ) → word values (now.arrays a) ≡ env.words a
    pub of_fresh : (k : ℕ) → word values (now.fresh k) ≡ env.fresh k
    pub of_indexes : (a : ℕ) → word values (now.indexes a) ≡ env.found a

  all_more : (before : List Bool) (values more : List ℕ) (now : Current) (env : FlankEnv)
      → length before ≡ length values → IsFit fields arrays names before now → Stands values now env → Stands (values ++ more) now env
  all_more before values more now env size fit s = record {
    width = s.width;
    of_fields = λ f inside. more_stands before values more (now.fields f) (slice_index env.packet f) size (fit.of_fields f inside) (s.of_fields f inside);
    of_arrays = λ a. more_stands before values more (now.arrays a) (env.words a) size (fit.of_arrays a) (s.of_arrays a);
    of_fresh = λ k. more_stands before values more (now.fresh k) (env.fresh k) size (fit.of_fresh k) (s.of_fresh k);
    of_indexes = λ a. more_stands before values more (now.indexes a) (env.found a) size (fit.of_indexes a) (s.of_indexes a);
  }

  place_stands : (values : List ℕ) (now : Current) (env : FlankEnv) (i : Place) → Stands values now env → place_within (straight_ranges fields arrays names) i ≡ true → word values (place_operand now i) ≡ place_word i env.packet
  place_stands values now env (place.Word w) s e = refl
  place_stands values now env (place.Field f) s e = s.of_fields f (ltb-true f fields e)

  -- an assignment
  assigned_stands : (values : List ℕ) (now : Current) (env : FlankEnv) (g : Goal) (o : Operand) (w : ℕ)
      → goal_within (straight_ranges fields arrays names) g ≡ true → word values o ≡ w
      → Stands values now env → Stands values (assigned g o now) (flank_assigned g w env)
  assigned_stands values now env (goal.Field f) o w inside is s =
      let small = ltb-true f fields inside in
      let size = s.width in
      let in_packet : f < length env.packet = omega arith in
      record {
        width = length-set env.packet f w ∙ s.width;
        of_fields = λ j within. put_stands (word values) now.fields f o w (slice_index env.packet) j is (s.of_fields j within) ∙ put_word env.packet f w in_packet j;
        of_arrays = s.of_arrays;
        of_fresh = s.of_fresh;
        of_indexes = s.of_indexes;
      }
  assigned_stands values now env (goal.State a i) o w inside is s = record {
    width = s.width;
    of_fields = s.of_fields;
    of_arrays = λ j. put_stands (word values) now.arrays a o w env.words j is (s.of_arrays j);
    of_fresh = s.of_fresh;
    of_indexes = s.of_indexes;
  }
  assigned_stands values now env (goal.Fresh k) o w inside is s = record {
    width = s.width;
    of_fields = s.of_fields;
    of_arrays = s.of_arrays;
    of_fresh = λ j. put_stands (word values) now.fresh k o w env.fresh j is (s.of_fresh j);
    of_indexes = s.of_indexes;
  }

  -- expressions have the same words
  module _ (before : NamedEnv) (now : Current) (env : FlankEnv) (s : Stands before.made now env) where
    abbrev named_in : Names
    named_in = item_names packet before.made

    operand_says : (o : Operand) (w : ℕ) → word before.made o ≡ w → value hash named_in (operand_form o) ≡ w
    operand_says o w is = word_value before o ∙ is

    mutual
      pub renamed_value : (p : PartForm) → part_within (straight_ranges fields arrays names) p ≡ true → value hash named_in (renamed now p) ≡ value hash (flank_names env) p
      renamed_value (number w) e = refl
      renamed_value (field f) e = operand_says (now.fields f) (slice_index env.packet f) (s.of_fields f (ltb-true f fields e))
      renamed_value (state a i) e = operand_says (now.arrays a) (env.words a) (s.of_arrays a)
      renamed_value (fresh k) e = operand_says (now.fresh k) (env.fresh k) (s.of_fresh k)
      renamed_value (made k) e = absurd (cc)
      renamed_value (call unit ps) e =
          ap (hash unit) (renamed_values ps (and_parts _ (parts_within (straight_ranges fields arrays names) ps) e).1)
      renamed_value (un u p) e = ap (un_word u) (renamed_value p e)
      renamed_value (chain p os) e =
          let q = and_parts (part_within (straight_ranges fields arrays names) p) (ops_within (straight_ranges fields arrays names) os) e in
          ap (λ (w : ℕ). folded hash named_in w (ops_renamed now os)) (renamed_value p q.0) ∙ renamed_folded os (value hash (flank_names env) p) q.1
      renamed_value (choice c p r) e =
          let q = and_parts (part_within (straight_ranges fields arrays names) c) (part_within (straight_ranges fields arrays names) p && part_within (straight_ranges fields arrays names) r) e in
          let t = and_parts (part_within (straight_ranges fields arrays names) p) (part_within (straight_ranges fields arrays names) r) q.1 in
          ap (λ (w : ℕ). chosen w (value hash named_in (renamed now p)) (value hash named_in (renamed now r))) (renamed_value c q.0)
          ∙ ap (λ (w : ℕ). chosen (value hash (flank_names env) c) w (value hash named_in (renamed now r))) (renamed_value p t.0)
          ∙ ap (λ (w : ℕ). chosen (value hash (flank_names env) c) (value hash (flank_names env) p) w) (renamed_value r t.1)

      renamed_values : (ps : PartForms) → parts_within (straight_ranges fields arrays names) ps ≡ true → values hash named_in (all_renamed now ps) ≡ values hash (flank_names env) ps
      renamed_values no_parts e = refl
      renamed_values (part p ps) e =
          let q = and_parts (part_within (straight_ranges fields arrays names) p) (parts_within (straight_ranges fields arrays names) ps) e in
          ap (λ (w : ℕ). w ∷ values hash named_in (all_renamed now ps)) (renamed_value p q.0)
          ∙ ap (λ (ws : List ℕ). value hash (flank_names env) p ∷ ws) (renamed_values ps q.1)

      renamed_folded : (os : OpForms) (w : ℕ) → ops_within (straight_ranges fields arrays names) os ≡ true → folded hash named_in w (ops_renamed now os) ≡ folded hash (flank_names env) w os
      renamed_folded no_ops w e = refl
      renamed_folded (op o p os) w e =
          let q = and_parts (part_within (straight_ranges fields arrays names) p) (ops_within (straight_ranges fields arrays names) os) e in
          ap (λ (v : ℕ). folded hash named_in (bin_word o w v) (ops_renamed now os)) (renamed_value p q.0)
          ∙ renamed_folded os (bin_word o w (value hash (flank_names env) p)) q.1

    -- a literal or a name has the word of what it stands for
    pub plain_value : (p : PartForm) (o : Operand) → part_within (straight_ranges fields arrays names) p ≡ true → plain now p ≡ Some o → word before.made o ≡ value hash (flank_names env) p
    plain_value (number w) o e q = let is : Number w ≡ o = cc in ap (word before.made) (sym is)
    plain_value (field f) o e q = let is : now.fields f ≡ o = cc in ap (word before.made) (sym is) ∙ s.of_fields f (ltb-true f fields e)
    plain_value (state a i) o e q = let is : now.arrays a ≡ o = cc in ap (word before.made) (sym is) ∙ s.of_arrays a
    plain_value (fresh k) o e q = let is : now.fresh k ≡ o = cc in ap (word before.made) (sym is) ∙ s.of_fresh k
    plain_value (made k) o e q = absurd (cc)
    plain_value (call unit ps) o e q = absurd (cc)
    plain_value (un u p) o e q = absurd (cc)
    plain_value (chain p os) o e q = absurd (cc)
    plain_value (choice c p r) o e q = absurd (cc)

  -- the items so far do what the flanks and steps so far did
  pub record Agrees (n : Naming) (env : FlankEnv) : Type 0 where
    pub size : length (makes_of n.items) ≡ length (after n.items).made
    pub state : (after n.items).arrays ≡ env.arrays
    pub stands : Stands (after n.items).made n.now env

  step_more : (items : List NamedForm) (x : NamedForm) → after (items ++ x ∷ []) ≡ named_step hash packet (after items) x
  step_more items x = fold_push (named_step hash packet) (record { arrays = start; made = [] }) items x

  -- the same, where it is known what the items come to
  agrees_from : (n : Naming) (env : FlankEnv) (e : NamedEnv) → after n.items ≡ e → length (makes_of n.items) ≡ length e.made → e.arrays ≡ env.arrays → Stands e.made n.now env → Agrees n env
  agrees_from n env e is long same told = record {
    size = long ∙ ap (λ (x : NamedEnv). length x.made) (sym is);
    state = ap (λ (x : NamedEnv). x.arrays) is ∙ same;
    stands = subst (λ (x : NamedEnv). Stands x.made n.now env) (sym is) told;
  }

  makes_size : (n : Naming) (env : FlankEnv) (x : NamedForm) (w : ℕ) → Agrees n env → length (makes_of (n.items ++ x ∷ [])) ≡ length ((after n.items).made ++ w ∷ [])
  makes_size n env x w g =
      length-map (n.items ++ x ∷ []) makes ∙ length_push n.items x ∙ ap (λ (k : ℕ). k + 1) (sym (length-map n.items makes) ∙ g.size) ∙ sym (length_push (after n.items).made w)

  last_word : (n : Naming) (env : FlankEnv) (w : ℕ) → Agrees n env → word ((after n.items).made ++ w ∷ []) (Made (length n.items)) ≡ w
  last_word n env w g = get_or_push (after n.items).made w 0 (length n.items) (sym g.size ∙ length-map n.items makes)

  same_arrays : (g : Goal) (w : ℕ) (env : FlankEnv) → (flank_assigned g w env).arrays ≡ env.arrays
  same_arrays (goal.Field f) w env = refl
  same_arrays (goal.State a i) w env = refl
  same_arrays (goal.Fresh k) w env = refl

  agrees_read : (n : Naming) (env : FlankEnv) (a : ℕ) (i : Place) → IsFit fields arrays names (makes_of n.items) n.now
      → place_within (straight_ranges fields arrays names) i ≡ true → Agrees n env
      → Agrees (named_read n a (place_operand n.now i)) (flanked hash env (flank.read a i))
  agrees_read n env a i fit inside g =
      agrees_from (named_read n a o) (flanked hash env (flank.read a i)) (record { arrays = env.arrays; made = e.made ++ w ∷ [] }) is (makes_size n env (read a (operand_form o)) w g) refl stands
    where
      o : Operand
      o = place_operand n.now i

      e : NamedEnv
      e = after n.items

      v : ℕ
      v = place_word i env.packet

      w : ℕ
      w = fetched env.arrays a v

      says : named_value hash packet e (operand_form o) ≡ v
      says = word_value e o ∙ place_stands e.made n.now env i g.stands inside

      is : after (n.items ++ read a (operand_form o) ∷ []) ≡ record { arrays = env.arrays; made = e.made ++ w ∷ [] }
      is =
          step_more n.items (read a (operand_form o))
          ∙ ap (λ (x : ℕ). record { arrays = e.arrays; made = e.made ++ fetched e.arrays a x ∷ [] }) says
          ∙ ap (λ (x : List (List ℕ)). record { arrays = x; made = e.made ++ fetched x a v ∷ [] }) g.state

      more : Stands (e.made ++ w ∷ []) n.now env
      more = all_more (makes_of n.items) e.made (w ∷ []) n.now env g.size fit g.stands

      index_word : word (e.made ++ w ∷ []) o ≡ v
      index_word =
          word_more (makes_of n.items) e.made (w ∷ []) o g.size (place_fit fields arrays names (makes_of n.items) i n.now fit inside) ∙ place_stands e.made n.now env i g.stands inside

      stands : Stands (e.made ++ w ∷ []) (read_at a o (Made (length n.items)) n.now) (flanked hash env (flank.read a i))
      stands = record {
        width = more.width;
        of_fields = more.of_fields;
        of_arrays = λ j. put_stands (word (e.made ++ w ∷ [])) n.now.arrays a (Made (length n.items)) w env.words j (last_word n env w g) (more.of_arrays j);
        of_fresh = more.of_fresh;
        of_indexes = λ j. put_stands (word (e.made ++ w ∷ [])) n.now.indexes a o v env.found j index_word (more.of_indexes j);
      }

  agrees_set : (n : Naming) (env : FlankEnv) (s : StepForm) (r : Option Operand) → IsFit fields arrays names (makes_of n.items) n.now
      → part_within (straight_ranges fields arrays names) s.value ≡ true → goal_within (straight_ranges fields arrays names) s.target ≡ true
      → plain n.now s.value ≡ r → Agrees n env
      → Agrees (named_set n s r) (flanked hash env (flank.set s))
  agrees_set n env s (Some o) fit inside target is g = record {
    size = g.size;
    state = g.state ∙ sym (same_arrays s.target (value hash (flank_names env) s.value) env);
    stands = assigned_stands (after n.items).made n.now env s.target o (value hash (flank_names env) s.value) target (plain_value (after n.items) n.now env g.stands s.value o inside is) g.stands;
  }
  agrees_set n env s None fit inside target plain_is g =
      agrees_from (named_set n s None) (flanked hash env (flank.set s)) (record { arrays = e.arrays; made = e.made ++ w ∷ [] }) is (makes_size n env (make (renamed n.now s.value)) w g) (g.state ∙ sym (same_arrays s.target w env)) stands
    where
      e : NamedEnv
      e = after n.items

      w : ℕ
      w = value hash (flank_names env) s.value

      is : after (n.items ++ make (renamed n.now s.value) ∷ []) ≡ record { arrays = e.arrays; made = e.made ++ w ∷ [] }
      is =
          step_more n.items (make (renamed n.now s.value))
          ∙ ap (λ (x : ℕ). record { arrays = e.arrays; made = e.made ++ x ∷ [] }) (renamed_value e n.now env g.stands s.value inside)

      stands : Stands (e.made ++ w ∷ []) (assigned s.target (Made (length n.items)) n.now) (flank_assigned s.target w env)
      stands =
          assigned_stands (e.made ++ w ∷ []) n.now env s.target (Made (length n.items)) w target (last_word n env w g) (all_more (makes_of n.items) e.made (w ∷ []) n.now env g.size fit g.stands)

  agrees_write : (n : Naming) (env : FlankEnv) (a : ℕ) (i : Place) → IsFit fields arrays names (makes_of n.items) n.now
      → Agrees n env → Agrees (named_write n a) (flanked hash env (flank.write a i))
  agrees_write n env a i fit g =
      agrees_from (named_write n a) (flanked hash env (flank.write a i)) (record { arrays = stored env.arrays a (env.found a) (env.words a); made = e.made ++ 0 ∷ [] }) is (makes_size n env x 0 g) refl stands
    where
      e : NamedEnv
      e = after n.items

      x : NamedForm
      x = write a (operand_form (n.now.indexes a)) (operand_form (n.now.arrays a))

      is : after (n.items ++ x ∷ []) ≡ record { arrays = stored env.arrays a (env.found a) (env.words a); made = e.made ++ 0 ∷ [] }
      is =
          step_more n.items x
          ∙ ap (λ (y : ℕ). record { arrays = stored e.arrays a y (named_value hash packet e (operand_form (n.now.arrays a))); made = e.made ++ 0 ∷ [] }) (word_value e (n.now.indexes a) ∙ g.stands.of_indexes a)
          ∙ ap (λ (y : ℕ). record { arrays = stored e.arrays a (env.found a) y; made = e.made ++ 0 ∷ [] }) (word_value e (n.now.arrays a) ∙ g.stands.of_arrays a)
          ∙ ap (λ (y : List (List ℕ)). record { arrays = stored y a (env.found a) (env.words a); made = e.made ++ 0 ∷ [] }) g.state

      more : Stands (e.made ++ 0 ∷ []) n.now env
      more = all_more (makes_of n.items) e.made (0 ∷ []) n.now env g.size fit g.stands

      stands : Stands (e.made ++ 0 ∷ []) n.now (flanked hash env (flank.write a i))
      stands = record { width = more.width; of_fields = more.of_fields; of_arrays = more.of_arrays; of_fresh = more.of_fresh; of_indexes = more.of_indexes }

  agrees_on : (n : Naming) (env : FlankEnv) (x : FlankForm) (found : List Mention) (left : List ℕ) → Kept fields arrays names n found left
      → flank_within (straight_ranges fields arrays names) x ≡ true → Agrees n env → Agrees (named_item n x) (flanked hash env x)
  agrees_on n env (flank.read a i) found left k inside g =
      agrees_read n env a i k.fit (and_parts (nat_lt a arrays) (place_within (straight_ranges fields arrays names) i) inside).1 g
  agrees_on n env (flank.set s) found left k inside g =
      let q = and_parts (part_within (straight_ranges fields arrays names) s.value) (target_within (straight_ranges fields arrays names) (Some s.target)) inside in
      agrees_set n env s (plain n.now s.value) k.fit q.0 q.1 refl g
  agrees_on n env (flank.write a i) found left k inside g = agrees_write n env a i k.fit g

  all_agree : (n : Naming) (env : FlankEnv) (xs : List FlankForm) → Goes fields arrays names n xs → flanks_within (straight_ranges fields arrays names) xs ≡ true
      → Agrees n env → Agrees (fold named_item n xs) (all_flanked hash env xs)
  all_agree n env [] goes inside g = g
  all_agree n env (x ∷ xs) goes inside g =
      let q = and_parts (flank_within (straight_ranges fields arrays names) x) (flanks_within (straight_ranges fields arrays names) xs) inside in
      all_agree (named_item n x) (flanked hash env x) xs (goes_on fields arrays names n x xs goes q.0) q.1 (agrees_on n env x goes.found goes.left goes.kept q.0 g)

  start_agrees : length packet ≡ fields → Agrees (record { now = starting; items = [] }) (flank_entering packet start)
  start_agrees size = record {
    size = refl;
    state = refl;
    stands = record { width = size; of_fields = λ f inside. refl; of_arrays = λ a. refl; of_fresh = λ k. refl; of_indexes = λ a. refl };
  }

  outputs_are : (n : Naming) (env : FlankEnv) → Agrees n env → map (named_value hash packet (after n.items)) (outputs_of fields n) ≡ env.packet
  outputs_are n env g =
      ext_get_or 0 (map (named_value hash packet e) outputs) env.packet (long ∙ sym g.stands.width) each
    where
      e : NamedEnv
      e = after n.items

      outputs : List PartForm
      outputs = outputs_of fields n

      width : length outputs ≡ fields
      width = length-map-range_with_len (λ f. operand_form (n.now.fields f)) 0 fields

      long : length (map (named_value hash packet e) outputs) ≡ fields
      long = length-map outputs (named_value hash packet e) ∙ width

      each : (f : ℕ) → f < length (map (named_value hash packet e) outputs) → get_or (map (named_value hash packet e) outputs) f 0 ≡ get_or env.packet f 0
      each f h =
          let size = long in
          let same = width in
          let in_fields : f < fields = omega arith in
          let in_outputs : f < length outputs = omega arith in
          get_or-map (named_value hash packet e) outputs f (number 0) 0 in_outputs
          ∙ ap (named_value hash packet e) (get_or-map-range_with_len (λ k. operand_form (n.now.fields k)) 0 fields f f (number 0) in_fields (omega arith))
          ∙ word_value e (n.now.fields f)
          ∙ g.stands.of_fields f in_fields

  -- what items and outputs make of a packet and a state is what the flanks and steps make
  pub named_means : (xs : List FlankForm) → are_flanked [] [] xs ≡ true → flanks_within (straight_ranges fields arrays names) xs ≡ true → length packet ≡ fields
      → named_outcome hash (named xs).items (outputs_of fields (named xs)) packet start ≡ flanked_outcome hash xs packet start
  named_means xs flanks inside size =
      let n = named xs in
      let env = all_flanked hash (flank_entering packet start) xs in
      let g : Agrees n env = all_agree (record { now = starting; items = [] }) (flank_entering packet start) xs (start_goes fields arrays names xs flanks) inside (start_agrees size) in
      ap (λ (ws : List ℕ). record { packet = ws; arrays = (after n.items).arrays }) (outputs_are n env g)
      ∙ ap (λ (ws : List (List ℕ)). record { packet = env.packet; arrays = ws }) g.state

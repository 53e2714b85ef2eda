-- What is kept from flank to flank and from step to step.
use Rattle.std.proofs.Common.{◌≡◌, ℕ, zero, suc, ◌+◌, ◌<◌, ◌≤◌, Bool, true, false, not, ◌&&◌, ◌||◌, nat_eq, nat_lt, List, [], ◌∷◌, ◌++◌, Option, Some, None, fold, length, map, refl, sym, ap, ◌∙◌, subst, arith, ⊎_elim, if◌then◌else◌}
use Rattle.std.specs.List.{list_all, range_with_len}
use Rattle.std.proofs.lemmas.Bool.{and_parts, and_from, or_left, or_right, or_cases, eqb-true, eq-eqb, ne_eqb, lt-ltb, cases_eq}
use Rattle.std.proofs.lemmas.List.{map-append, length-map}
use Rattle.std.proofs.lemmas.List.FromFn.{length-map-range_with_len}
use Rattle.dom_words.specs.Order.{Access, is_read, is_read_at, is_written}
use Rattle.dom_ast.specs.declared.part.Goal.{Goal}
use Rattle.dom_ast.specs.declared.part.Goal.TheVariants as goal
use Rattle.dom_ast.specs.declared.part.Place.{Place}
use Rattle.dom_ast.specs.Flanks.{FlankForm, flank_within, flanks_within, are_flanked}
use Rattle.dom_ast.specs.Flanks as flank
use Rattle.dom_ast.specs.Kept.{Mention, is_same_place, mention, part_within, place_within, target_within, visit_mentions}
use Rattle.dom_ast.specs.Named.{NamedForm, read, make, write, are_in_order, are_named, are_outputs, is_same_operand, makes, makes_of}
use Rattle.dom_ast.specs.Resolved.{PartForm}
use Rattle.dom_ast.specs.Straight.{StepForm, step_visit, straight_ranges}
use Rattle.dom_ast.proofs.NamedOrder.{in_order_parts, named_in_order}
use Rattle.ssa_names.specs.declared.operand.Operand.{Operand}
use Rattle.ssa_names.specs.declared.operand.Operand.TheVariants.{Number, Field, Made}
use Rattle.ssa_names.specs.Naming.{Current, Naming, assigned, named, named_item, named_read, named_set, named_write, operand_form, outputs_of, place_operand, plain, read_at, renamed, starting, with_operand}
use Rattle.ssa_names.proofs.Within.{IsFit, all_fit_more, assigned_fit, fit_last, fit_more, is_fit, named_push, place_fit, plain_fit, reads_after, renamed_within, with_fit, writes_after}

reads_append : (reads : List (Access PartForm)) (xs ys : List NamedForm) → reads_after reads (xs ++ ys) ≡ reads_after (reads_after reads xs) ys
reads_append reads [] ys = refl
reads_append reads (read a i ∷ xs) ys = reads_append (record { array = a; index = i } ∷ reads) xs ys
reads_append reads (make p ∷ xs) ys = reads_append reads xs ys
reads_append reads (write a i p ∷ xs) ys = reads_append reads xs ys

writes_append : (writes : List ℕ) (xs ys : List NamedForm) → writes_after writes (xs ++ ys) ≡ writes_after (writes_after writes xs) ys
writes_append writes [] ys = refl
writes_append writes (read a i ∷ xs) ys = writes_append writes xs ys
writes_append writes (make p ∷ xs) ys = writes_append writes xs ys
writes_append writes (write a i p ∷ xs) ys = writes_append (a ∷ writes) xs ys

same_itself : (o : Operand) → is_same_operand (operand_form o) (operand_form o) ≡ true
same_itself (Number w) = eq-eqb w w refl
same_itself (Field f) = eq-eqb f f refl
same_itself (Made k) = eq-eqb k k refl

-- operands with another one at one number
pub with_same : (k : ℕ) (o : Operand) (os : ℕ → Operand) → with_operand k o os k ≡ o
with_same k o os = ap (λ (b : Bool). if b then o else os k) (eq-eqb k k refl)

pub with_other : (k j : ℕ) (o : Operand) (os : ℕ → Operand) → (j ≡ k → ⊥) → with_operand k o os j ≡ os j
with_other k j o os ne = ap (λ (b : Bool). if b then o else os j) (ne_eqb j k ne)

read_at_read : (ms : List Mention) (a : ℕ) (i : Place) → is_read_at is_same_place ms a i ≡ true → is_read ms a ≡ true
read_at_read [] a i e = absurd (cc)
read_at_read (m ∷ ms) a i e =
    ⊎_elim (λ (h : (nat_eq m.array a && is_same_place m.index i) ≡ true). or_left (nat_eq m.array a) (is_read ms a) (and_parts (nat_eq m.array a) (is_same_place m.index i) h).0) (λ (h : is_read_at is_same_place ms a i ≡ true). or_right (nat_eq m.array a) (is_read ms a) (read_at_read ms a i h)) (or_cases (nat_eq m.array a && is_same_place m.index i) (is_read_at is_same_place ms a i) e)

module _ (fields arrays names : ℕ) where
  -- the items are in range and their flanks in order; `found` are the read flanks so far, and `left` the arrays of the write flanks
  pub record Kept (n : Naming) (found : List Mention) (left : List ℕ) : Type 0 where
    pub items : named_in_order fields arrays [] [] [] n.items ≡ true
    pub fit : IsFit fields arrays names (makes_of n.items) n.now
    pub reads : (a : ℕ) → is_read found a ≡ is_read (reads_after [] n.items) a
    pub indexes : (a : ℕ) → is_read found a ≡ true → is_read_at is_same_operand (reads_after [] n.items) a (operand_form (n.now.indexes a)) ≡ true
    pub writes : (a : ℕ) → is_written left a ≡ is_written (writes_after [] n.items) a

  -- what is kept, and what is asked of the flanks and steps that follow
  pub record Goes (n : Naming) (rest : List FlankForm) : Type 0 where
    pub found : List Mention
    pub left : List ℕ
    pub kept : Kept n found left
    pub flanks : are_flanked found left rest ≡ true

  makes_push : (items : List NamedForm) (x : NamedForm) → makes_of (items ++ x ∷ []) ≡ makes_of items ++ makes x ∷ []
  makes_push items x = map-append makes items (x ∷ [])

  same_indexes : (g : Goal) (o : Operand) (now : Current) → (assigned g o now).indexes ≡ now.indexes
  same_indexes (goal.Field f) o now = refl
  same_indexes (goal.State a i) o now = refl
  same_indexes (goal.Fresh k) o now = refl

  kept_read : (n : Naming) (found : List Mention) (left : List ℕ) (a : ℕ) (i : Place) (o : Operand)
      → Kept n found left → nat_lt a arrays ≡ true → is_fit fields arrays names (makes_of n.items) o ≡ true → not (is_read found a) ≡ true
      → Kept (named_read n a o) (mention a i ∷ found) left
  kept_read n found left a i o k inside fit_o new = record {
    items = named_push fields arrays names [] [] [] n.items x k.items (and_from _ _ inside (and_from _ _ fit_o (and_from _ _ (ap not (sym (k.reads a)) ∙ new) refl)));
    fit = subst (λ (b : List Bool). IsFit fields arrays names b (read_at a o (Made (length n.items)) n.now)) (sym (makes_push n.items x)) fit_now;
    reads = λ b. ap (λ (t : Bool). nat_eq a b || t) (k.reads b) ∙ ap (λ (rs : List (Access PartForm)). is_read rs b) (sym reads_now);
    indexes = λ b h. subst (λ (rs : List (Access PartForm)). is_read_at is_same_operand rs b (operand_form (with_operand a o n.now.indexes b)) ≡ true) (sym reads_now) (index_now b h);
    writes = λ b. k.writes b ∙ ap (λ (ws : List ℕ). is_written ws b) (sym (writes_append [] n.items (x ∷ [])));
  }
    where
      x : NamedForm
      x = read a (operand_form o)

      reads_now : reads_after [] (n.items ++ x ∷ []) ≡ record { array = a; index = operand_form o } ∷ reads_after [] n.items
      reads_now = reads_append [] n.items (x ∷ [])

      more : IsFit fields arrays names (makes_of n.items ++ true ∷ []) n.now
      more = all_fit_more fields arrays names (makes_of n.items) true n.now k.fit

      last : is_fit fields arrays names (makes_of n.items ++ true ∷ []) (Made (length n.items)) ≡ true
      last = subst (λ (m : ℕ). is_fit fields arrays names (makes_of n.items ++ true ∷ []) (Made m) ≡ true) (length-map n.items makes) (fit_last fields arrays names (makes_of n.items))

      fit_now : IsFit fields arrays names (makes_of n.items ++ true ∷ []) (read_at a o (Made (length n.items)) n.now)
      fit_now = record {
        of_fields = more.of_fields;
        of_arrays = λ b. with_fit fields arrays names (makes_of n.items ++ true ∷ []) a (Made (length n.items)) n.now.arrays b last (more.of_arrays b);
        of_fresh = more.of_fresh;
        of_indexes = λ b. with_fit fields arrays names (makes_of n.items ++ true ∷ []) a o n.now.indexes b (fit_more fields arrays names (makes_of n.items) true o fit_o) (more.of_indexes b);
      }

      here : with_operand a o n.now.indexes a ≡ o
      here = with_same a o n.now.indexes

      index_now : (b : ℕ) → is_read (mention a i ∷ found) b ≡ true → is_read_at is_same_operand (record { array = a; index = operand_form o } ∷ reads_after [] n.items) b (operand_form (with_operand a o n.now.indexes b)) ≡ true
      index_now b h = ⊎_elim same other (cases_eq b a)
        where
          same : b ≡ a → is_read_at is_same_operand (record { array = a; index = operand_form o } ∷ reads_after [] n.items) b (operand_form (with_operand a o n.now.indexes b)) ≡ true
          same q =
              subst (λ (z : ℕ). is_read_at is_same_operand (record { array = a; index = operand_form o } ∷ reads_after [] n.items) z (operand_form (with_operand a o n.now.indexes z)) ≡ true) (sym q) (or_left _ _ (and_from _ _ (eq-eqb a a refl) (ap (λ (y : Operand). is_same_operand (operand_form o) (operand_form y)) here ∙ same_itself o)))

          other : (b ≡ a → ⊥) → is_read_at is_same_operand (record { array = a; index = operand_form o } ∷ reads_after [] n.items) b (operand_form (with_operand a o n.now.indexes b)) ≡ true
          other ne =
              or_right _ _ (ap (λ (y : Operand). is_read_at is_same_operand (reads_after [] n.items) b (operand_form y)) (with_other a b o n.now.indexes ne) ∙ k.indexes b (⊎_elim (λ (q : nat_eq a b ≡ true). absurd (ne (sym (eqb-true a b q)))) (λ (q : is_read found b ≡ true). q) (or_cases (nat_eq a b) (is_read found b) h)))

  kept_copy : (n : Naming) (found : List Mention) (left : List ℕ) (g : Goal) (o : Operand)
      → Kept n found left → is_fit fields arrays names (makes_of n.items) o ≡ true
      → Kept (record { now = assigned g o n.now; items = n.items }) found left
  kept_copy n found left g o k fit_o = record {
    items = k.items;
    fit = assigned_fit fields arrays names (makes_of n.items) g o n.now k.fit fit_o;
    reads = k.reads;
    indexes = λ a h. subst (λ (os : ℕ → Operand). is_read_at is_same_operand (reads_after [] n.items) a (operand_form (os a)) ≡ true) (sym (same_indexes g o n.now)) (k.indexes a h);
    writes = k.writes;
  }

  kept_make : (n : Naming) (found : List Mention) (left : List ℕ) (s : StepForm)
      → Kept n found left → part_within (straight_ranges fields arrays names) s.value ≡ true
      → Kept (named_set n s None) found left
  kept_make n found left s k inside = record {
    items = named_push fields arrays names [] [] [] n.items x k.items (and_from _ _ (renamed_within fields arrays names (makes_of n.items) n.now k.fit s.value inside) refl);
    fit = subst (λ (b : List Bool). IsFit fields arrays names b (assigned s.target (Made (length n.items)) n.now)) (sym (makes_push n.items x)) (assigned_fit fields arrays names (makes_of n.items ++ true ∷ []) s.target (Made (length n.items)) n.now (all_fit_more fields arrays names (makes_of n.items) true n.now k.fit) last);
    reads = λ a. k.reads a ∙ ap (λ (rs : List (Access PartForm)). is_read rs a) (sym (reads_append [] n.items (x ∷ [])));
    indexes = λ a h. subst (λ (rs : List (Access PartForm)). is_read_at is_same_operand rs a (operand_form ((assigned s.target (Made (length n.items)) n.now).indexes a)) ≡ true) (sym (reads_append [] n.items (x ∷ []))) (subst (λ (os : ℕ → Operand). is_read_at is_same_operand (reads_after [] n.items) a (operand_form (os a)) ≡ true) (sym (same_indexes s.target (Made (length n.items)) n.now)) (k.indexes a h));
    writes = λ a. k.writes a ∙ ap (λ (ws : List ℕ). is_written ws a) (sym (writes_append [] n.items (x ∷ [])));
  }
    where
      x : NamedForm
      x = make (renamed n.now s.value)

      last : is_fit fields arrays names (makes_of n.items ++ true ∷ []) (Made (length n.items)) ≡ true
      last = subst (λ (m : ℕ). is_fit fields arrays names (makes_of n.items ++ true ∷ []) (Made m) ≡ true) (length-map n.items makes) (fit_last fields arrays names (makes_of n.items))

  kept_set : (n : Naming) (found : List Mention) (left : List ℕ) (s : StepForm) (r : Option Operand)
      → Kept n found left → part_within (straight_ranges fields arrays names) s.value ≡ true → plain n.now s.value ≡ r
      → Kept (named_set n s r) found left
  kept_set n found left s (Some o) k inside e = kept_copy n found left s.target o k (plain_fit fields arrays names (makes_of n.items) s.value n.now o k.fit inside e)
  kept_set n found left s None k inside e = kept_make n found left s k inside

  kept_write : (n : Naming) (found : List Mention) (left : List ℕ) (a : ℕ)
      → Kept n found left → nat_lt a arrays ≡ true → is_read found a ≡ true → not (is_written left a) ≡ true
      → Kept (named_write n a) found (a ∷ left)
  kept_write n found left a k inside before new = record {
    items = named_push fields arrays names [] [] [] n.items x k.items (and_from _ _ inside (and_from _ _ (k.fit.of_indexes a) (and_from _ _ (k.fit.of_arrays a) (and_from _ _ (k.indexes a before) (and_from _ _ (ap not (sym (k.writes a)) ∙ new) refl)))));
    fit = subst (λ (b : List Bool). IsFit fields arrays names b n.now) (sym (makes_push n.items x)) (all_fit_more fields arrays names (makes_of n.items) false n.now k.fit);
    reads = λ b. k.reads b ∙ ap (λ (rs : List (Access PartForm)). is_read rs b) (sym (reads_append [] n.items (x ∷ [])));
    indexes = λ b h. subst (λ (rs : List (Access PartForm)). is_read_at is_same_operand rs b (operand_form (n.now.indexes b)) ≡ true) (sym (reads_append [] n.items (x ∷ []))) (k.indexes b h);
    writes = λ b. ap (λ (t : Bool). nat_eq b a || t) (k.writes b) ∙ ap (λ (ws : List ℕ). is_written ws b) (sym (writes_append [] n.items (x ∷ [])));
  }
    where
      x : NamedForm
      x = write a (operand_form (n.now.indexes a)) (operand_form (n.now.arrays a))

  -- one flank or step
  pub goes_on : (n : Naming) (x : FlankForm) (rest : List FlankForm) → Goes n (x ∷ rest) → flank_within (straight_ranges fields arrays names) x ≡ true → Goes (named_item n x) rest
  goes_on n (flank.read a i) rest g inside =
      let p = and_parts (not (is_read g.found a)) (are_flanked (mention a i ∷ g.found) g.left rest) g.flanks in
      let q = and_parts (nat_lt a arrays) (place_within (straight_ranges fields arrays names) i) inside in
      record {
        found = mention a i ∷ g.found;
        left = g.left;
        kept = kept_read n g.found g.left a i (place_operand n.now i) g.kept q.0 (place_fit fields arrays names (makes_of n.items) i n.now g.kept.fit q.1) p.0;
        flanks = p.1;
      }
  goes_on n (flank.set s) rest g inside =
      let p = and_parts (list_all (λ m. is_read g.found m.array) (visit_mentions (step_visit s))) (are_flanked g.found g.left rest) g.flanks in
      let q = and_parts (part_within (straight_ranges fields arrays names) s.value) (target_within (straight_ranges fields arrays names) (Some s.target)) inside in
      record {
        found = g.found;
        left = g.left;
        kept = kept_set n g.found g.left s (plain n.now s.value) g.kept q.0 refl;
        flanks = p.1;
      }
  goes_on n (flank.write a i) rest g inside =
      let p = and_parts (is_read_at is_same_place g.found a i && not (is_written g.left a)) (are_flanked g.found (a ∷ g.left) rest) g.flanks in
      let r = and_parts (is_read_at is_same_place g.found a i) (not (is_written g.left a)) p.0 in
      let q = and_parts (nat_lt a arrays) (place_within (straight_ranges fields arrays names) i) inside in
      record {
        found = g.found;
        left = a ∷ g.left;
        kept = kept_write n g.found g.left a g.kept q.0 (read_at_read g.found a i r.0) r.1;
        flanks = p.1;
      }

  pub all_go : (n : Naming) (xs : List FlankForm) → Goes n xs → flanks_within (straight_ranges fields arrays names) xs ≡ true → Goes (fold named_item n xs) []
  all_go n [] g inside = g
  all_go n (x ∷ xs) g inside =
      let q = and_parts (flank_within (straight_ranges fields arrays names) x) (flanks_within (straight_ranges fields arrays names) xs) inside in
      all_go (named_item n x) xs (goes_on n x xs g q.0) q.1

  pub start_goes : (xs : List FlankForm) → are_flanked [] [] xs ≡ true → Goes (record { now = starting; items = [] }) xs
  start_goes xs e = record {
    found = [];
    left = [];
    kept = record {
      items = refl;
      fit = record {
        of_fields = λ f inside. lt-ltb f fields inside;
        of_arrays = λ a. refl;
        of_fresh = λ k. refl;
        of_indexes = λ a. refl;
      };
      reads = λ a. refl;
      indexes = λ a h. absurd (cc);
      writes = λ a. refl;
    };
    flanks = e;
  }

  pub named_goes : (xs : List FlankForm) → are_flanked [] [] xs ≡ true → flanks_within (straight_ranges fields arrays names) xs ≡ true → Goes (named xs) []
  named_goes xs e inside = all_go (record { now = starting; items = [] }) xs (start_goes xs e) inside

  outputs_fit : (before : List Bool) (os : ℕ → Operand) → ((f : ℕ) → f < fields → is_fit fields arrays names before (os f) ≡ true)
      → (k n : ℕ) → k + n ≤ fields → are_outputs fields before (map (λ f. operand_form (os f)) (range_with_len k n)) ≡ true
  outputs_fit before os each k zero h = refl
  outputs_fit before os each k (suc n) h = and_from _ _ (each k (omega arith)) (outputs_fit before os each (k + 1) n (omega arith))

  -- the items are in range and in order, and the outputs are in range, one for each field
  pub named_items : (xs : List FlankForm) → are_flanked [] [] xs ≡ true → flanks_within (straight_ranges fields arrays names) xs ≡ true
      → (are_named fields arrays [] (named xs).items ≡ true) × (are_in_order (named xs).items ≡ true)
  named_items xs e inside = in_order_parts fields arrays [] [] [] (named xs).items (named_goes xs e inside).kept.items

  pub named_outputs : (xs : List FlankForm) → are_flanked [] [] xs ≡ true → flanks_within (straight_ranges fields arrays names) xs ≡ true → are_outputs fields (makes_of (named xs).items) (outputs_of fields (named xs)) ≡ true
  named_outputs xs e inside =
      outputs_fit (makes_of (named xs).items) (named xs).now.fields (named_goes xs e inside).kept.fit.of_fields 0 fields (omega arith)

  pub named_width : (xs : List FlankForm) → length (outputs_of fields (named xs)) ≡ fields
  named_width xs = length-map-range_with_len (λ f. operand_form ((named xs).now.fields f)) 0 fields

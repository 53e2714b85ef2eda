-- What is left when statements go that are not needed.
use Rattle.std.proofs.Common.{◌≡◌, ℕ, zero, suc, ◌+◌, ◌-◌, ◌<◌, ◌≤◌, ◌&&◌, ◌||◌, nat_eq, nat_lt, Bool, true, false, List, [], ◌∷◌, ◌++◌, length, map, take, drop, refl, sym, ap, ◌∙◌, subst, arith, get_or, append_assoc, inl, inr, ⊎_elim, ◌⊎◌, if◌then◌else◌}
use Rattle.std.specs.List.{list_any}
use Rattle.std.proofs.Math.ListN.{get_or-append}
use Rattle.std.proofs.Math.Seq.{get_or-append_seam}
use Rattle.std.proofs.lemmas.Bool.{ltb-true, lt-ltb, eq-eqb, and_parts, and_from, or_cases, or_left, or_right, cases_lt}
use Rattle.std.proofs.lemmas.List.{append-nil, get_or_past, length_push, length-map}
use Rattle.dom_flat.specs.declared.line.Operand.{Operand}
use Rattle.dom_flat.specs.declared.line.Operand.TheVariants.{Const, Value}
use Rattle.dom_flat.specs.declared.line.Line.{Line}
use Rattle.dom_flat.specs.declared.line.Line.TheVariants as line
use Rattle.dom_flat.specs.Kept.{are_after, are_known, has_array, has_its_args, has_small_modulus, have_small_moduli, is_known, lines_within}
use Rattle.dom_flat.specs.Lines.{is_value, makes, operands_of, uses}
use Rattle.dom_flat.proofs.Run.{makes-with, operands-with}
use Rattle.three_address.specs.Needs.{count, is_kept_flank, is_used, kept, line_renumbered, needed, new_number, renumbered}

-- of the values so far and those that are kept of them: each that is used is kept under its new number
pub record Held (A : Type 0) (none : A) (number : ℕ → ℕ) (used : ℕ → Bool) (all left : List A) : Type 0 where
  pub size : number (length all) ≡ length left
  pub within : (v : ℕ) → v < length all → used v ≡ true → number v < length left
  pub same : (v : ℕ) → v < length all → used v ≡ true → get_or left (number v) none ≡ get_or all v none

last_or_before : (v n : ℕ) → v < suc n → (v < n) ⊎ (v ≡ n)
last_or_before v n h =
    ⊎_elim (λ (q : v < n). inl q) (λ (q : n ≤ v). inr (let e : v ≡ n = omega arith in e)) (cases_lt v n)

-- a value that is kept
pub held_kept : (A : Type 0) (none : A) (number : ℕ → ℕ) (before after : ℕ → Bool) (all left : List A) (x y : A)
    → ((v : ℕ) → after v ≡ true → before v ≡ true) → number (suc (length all)) ≡ suc (number (length all)) → y ≡ x
    → Held A none number before all left → Held A none number after (all ++ x ∷ []) (left ++ y ∷ [])
held_kept A none number before after all left x y less next is h =
    record {
      size = ap number n ∙ next ∙ ap suc h.size ∙ sym m;
      within = λ v q u. ⊎_elim (λ (b : v < length all). let w = h.within v b (less v u) in let k = m in omega arith) (λ (e : v ≡ length all). let at_end : number v ≡ length left = ap number e ∙ h.size in let k = m in omega arith) (last_or_before v (length all) (let k = n in omega arith));
      same = λ v q u. ⊎_elim
          (λ (b : v < length all).
          get_or-append left (y ∷ []) none (number v) (h.within v b (less v u)) ∙ h.same v b (less v u) ∙ sym (get_or-append all (x ∷ []) none v b))
          (λ (e : v ≡ length all).
          ap (λ (k : ℕ). get_or (left ++ y ∷ []) k none) (ap number e ∙ h.size) ∙ get_or-append_seam left y [] none ∙ is ∙ sym (ap (λ (k : ℕ). get_or (all ++ x ∷ []) k none) e ∙ get_or-append_seam all x [] none))
          (last_or_before v (length all) (let k = n in omega arith));
    }
  where
    n : length (all ++ x ∷ []) ≡ suc (length all)
    n = let p = length_push all x in omega arith

    m : length (left ++ y ∷ []) ≡ suc (length left)
    m = let p = length_push left y in omega arith

-- a value that nothing uses
pub held_dropped : (A : Type 0) (none : A) (number : ℕ → ℕ) (used : ℕ → Bool) (all left : List A) (x : A)
    → used (length all) ≡ false → number (suc (length all)) ≡ number (length all)
    → Held A none number used all left → Held A none number used (all ++ x ∷ []) left
held_dropped A none number used all left x unused next h =
    record {
      size = ap number n ∙ next ∙ h.size;
      within = λ v q u. ⊎_elim (λ (b : v < length all). h.within v b u) (λ (e : v ≡ length all). absurd (no v e u)) (last_or_before v (length all) (let k = n in omega arith));
      same = λ v q u. ⊎_elim (λ (b : v < length all). h.same v b u ∙ sym (get_or-append all (x ∷ []) none v b)) (λ (e : v ≡ length all). absurd (no v e u)) (last_or_before v (length all) (let k = n in omega arith));
    }
  where
    n : length (all ++ x ∷ []) ≡ suc (length all)
    n = let p = length_push all x in omega arith

    no : (v : ℕ) → v ≡ length all → used v ≡ true → ⊥
    no v e u = let at_end : used v ≡ false = ap used e ∙ unused in cc

-- the number after a statement
count_one : (marks later : List Bool) (j : ℕ) → drop j marks ≡ true ∷ later → count (take (suc j) marks) ≡ suc (count (take j marks))
count_one [] later zero e = absurd (cc)
count_one [] later (suc j) e = absurd (cc)
count_one (true ∷ marks) later zero e = refl
count_one (false ∷ marks) later zero e = absurd (cc)
count_one (true ∷ marks) later (suc j) e = ap suc (count_one marks later j e)
count_one (false ∷ marks) later (suc j) e = count_one marks later j e

count_none : (marks later : List Bool) (j : ℕ) → drop j marks ≡ false ∷ later → count (take (suc j) marks) ≡ count (take j marks)
count_none [] later zero e = absurd (cc)
count_none [] later (suc j) e = absurd (cc)
count_none (true ∷ marks) later zero e = absurd (cc)
count_none (false ∷ marks) later zero e = refl
count_none (true ∷ marks) later (suc j) e = ap suc (count_none marks later j e)
count_none (false ∷ marks) later (suc j) e = count_none marks later j e

drop_next : (marks later : List Bool) (mark : Bool) (j : ℕ) → drop j marks ≡ mark ∷ later → drop (suc j) marks ≡ later
drop_next [] later mark zero e = absurd (cc)
drop_next [] later mark (suc j) e = absurd (cc)
drop_next (m ∷ marks) later mark zero e = cc
drop_next (m ∷ marks) later mark (suc j) e = drop_next marks later mark j e

number_of : (fields : ℕ) (marks : List Bool) (j v : ℕ) → v ≡ fields + j → new_number fields marks v ≡ fields + count (take j marks)
number_of fields marks j v e = by_case (nat_lt v fields) refl
  where
    by_case : (b : Bool) → nat_lt v fields ≡ b → (if b then v else fields + count (take (v - fields) marks)) ≡ fields + count (take j marks)
    by_case true q = absurd (let h = ltb-true v fields q in omega arith)
    by_case false q = let n : v - fields ≡ j = omega arith in ap (λ (k : ℕ). fields + count (take k marks)) n

module _ (fields : ℕ) (whole : List Line) (outputs : List Operand) (marks : List Bool) where
  abbrev pub number : ℕ → ℕ
  number = new_number fields marks

  -- value v is that of the next of these statements, whose marks are the last of all
  pub record Stands (v : ℕ) (lines : List Line) : Type 0 where
    pub place : ℕ
    pub is : v ≡ fields + place
    pub rest : drop place marks ≡ needed whole outputs v lines

  abbrev pub later : ℕ → List Line → List Bool
  later v lines = needed whole outputs (suc v) lines

  abbrev pub mark : ℕ → Line → List Line → Bool
  mark v l lines = is_used outputs (kept (later v lines) lines) v || is_kept_flank whole l

  -- what uses values among the statements that are kept
  abbrev pub used : ℕ → List Line → ℕ → Bool
  used v lines = is_used outputs (kept (needed whole outputs v lines) lines)

  pub stands_next : (v : ℕ) (l : Line) (lines : List Line) → Stands v (l ∷ lines) → Stands (suc v) lines
  stands_next v l lines s =
      record { place = suc s.place; is = let e = s.is in omega arith; rest = drop_next marks (later v lines) (mark v l lines) s.place s.rest }

  pub number_kept : (v : ℕ) (l : Line) (lines : List Line) → Stands v (l ∷ lines) → mark v l lines ≡ true → number (suc v) ≡ suc (number v)
  number_kept v l lines s q =
      let e = s.is in
      let a = number_of fields marks s.place v s.is in
      let b = number_of fields marks (suc s.place) (suc v) (omega arith) in
      let c = count_one marks (later v lines) s.place (s.rest ∙ ap (λ (m : Bool). m ∷ later v lines) q) in
      omega arith

  pub number_dropped : (v : ℕ) (l : Line) (lines : List Line) → Stands v (l ∷ lines) → mark v l lines ≡ false → number (suc v) ≡ number v
  number_dropped v l lines s q =
      let e = s.is in
      let a = number_of fields marks s.place v s.is in
      let b = number_of fields marks (suc s.place) (suc v) (omega arith) in
      let c = count_none marks (later v lines) s.place (s.rest ∙ ap (λ (m : Bool). m ∷ later v lines) q) in
      omega arith

  -- the statements that are kept of a list
  pub kept_one : (v : ℕ) (l : Line) (lines : List Line) → mark v l lines ≡ true → kept (needed whole outputs v (l ∷ lines)) (l ∷ lines) ≡ l ∷ kept (later v lines) lines
  kept_one v l lines q = ap (λ (m : Bool). kept (m ∷ later v lines) (l ∷ lines)) q

  pub kept_none : (v : ℕ) (l : Line) (lines : List Line) → mark v l lines ≡ false → kept (needed whole outputs v (l ∷ lines)) (l ∷ lines) ≡ kept (later v lines) lines
  kept_none v l lines q = ap (λ (m : Bool). kept (m ∷ later v lines) (l ∷ lines)) q

  used_less : (us : List Line) (l : Line) (v : ℕ) → is_used outputs us v ≡ true → is_used outputs (l ∷ us) v ≡ true
  used_less us l v e =
      ⊎_elim (λ (h : uses v outputs ≡ true). or_left (uses v outputs) _ h) (λ (h : list_any (λ m. uses v (operands_of m)) us ≡ true). or_right (uses v outputs) _ (or_right (uses v (operands_of l)) _ h)) (or_cases (uses v outputs) (list_any (λ m. uses v (operands_of m)) us) e)

  used_by : (us : List Line) (l : Line) (v : ℕ) → uses v (operands_of l) ≡ true → is_used outputs (l ∷ us) v ≡ true
  used_by us l v e = or_right (uses v outputs) _ (or_left (uses v (operands_of l)) _ e)

  -- a value that a kept statement uses is used
  pub uses_kept : (v u : ℕ) (l : Line) (lines : List Line) → mark v l lines ≡ true → uses u (operands_of l) ≡ true → used v (l ∷ lines) u ≡ true
  uses_kept v u l lines q e =
      ap (λ (us : List Line). is_used outputs us u) (kept_one v l lines q) ∙ used_by (kept (later v lines) lines) l u e

  or_no : (a b : Bool) → (a || b) ≡ false → a ≡ false
  or_no true b e = e
  or_no false b e = refl

  module _ (A : Type 0) (none : A) where
    pub next_kept : (v : ℕ) (l : Line) (lines : List Line) (all left : List A) (x y : A) → Stands v (l ∷ lines) → v ≡ length all → mark v l lines ≡ true → y ≡ x
        → Held A none number (used v (l ∷ lines)) all left → Held A none number (used (suc v) lines) (all ++ x ∷ []) (left ++ y ∷ [])
    next_kept v l lines all left x y s e q is h =
        held_kept A none number (used v (l ∷ lines)) (used (suc v) lines) all left x y
        (λ u w. ap (λ (us : List Line). is_used outputs us u) (kept_one v l lines q) ∙ used_less (kept (later v lines) lines) l u w)
        (subst (λ (n : ℕ). number (suc n) ≡ suc (number n)) e (number_kept v l lines s q)) is h

    pub next_dropped : (v : ℕ) (l : Line) (lines : List Line) (all left : List A) (x : A) → Stands v (l ∷ lines) → v ≡ length all → mark v l lines ≡ false
        → Held A none number (used v (l ∷ lines)) all left → Held A none number (used (suc v) lines) (all ++ x ∷ []) left
    next_dropped v l lines all left x s e q h =
        held_dropped A none number (used (suc v) lines) all left x
        (subst (λ (n : ℕ). used (suc v) lines n ≡ false) e (or_no (used (suc v) lines v) (is_kept_flank whole l) q))
        (subst (λ (n : ℕ). number (suc n) ≡ number n) e (number_dropped v l lines s q))
        (subst (λ (us : List Line). Held A none number (is_used outputs us) all left) (kept_none v l lines q) h)

  -- operands whose values are there, and are kept where they are used, are there
  known_left : (all left : List Bool) (u : ℕ → Bool) (os : List Operand) → Held Bool false number u all left → ((w : ℕ) → uses w os ≡ true → u w ≡ true) → are_known all os ≡ true → are_known left (map (renumbered number) os) ≡ true
  known_left all left u [] h less k = refl
  known_left all left u (o ∷ os) h less k =
      let p = and_parts (is_known all o) (are_known all os) k in
      and_from (is_known left (renumbered number o)) _ (one o (λ w q. less w (or_left (is_value w o) (uses w os) q)) p.0) (known_left all left u os h (λ w q. less w (or_right (is_value w o) (uses w os) q)) p.1)
    where
      one : (x : Operand) → ((w : ℕ) → is_value w x ≡ true → u w ≡ true) → is_known all x ≡ true → is_known left (renumbered number x) ≡ true
      one (Const w) less e = refl
      one (Value w) less e =
          ⊎_elim (λ (b : w < length all). h.same w b (less w (eq-eqb w w refl)) ∙ e) (λ (b : length all ≤ w). absurd (let past = get_or_past all w false b in cc)) (cases_lt w (length all))

  pub record Left (all left : List Bool) (v : ℕ) (lines : List Line) : Type 0 where
    pub order : are_after left (map (line_renumbered number) (kept (needed whole outputs v lines) lines)) ≡ true
    pub outs : are_known (left ++ map makes (map (line_renumbered number) (kept (needed whole outputs v lines) lines))) (map (renumbered number) outputs) ≡ true

  outputs_used : (us : List Line) (w : ℕ) → uses w outputs ≡ true → is_used outputs us w ≡ true
  outputs_used us w e = or_left (uses w outputs) _ e

  left_one : (v : ℕ) (l : Line) (lines : List Line) (all left : List Bool) → Stands v (l ∷ lines) → v ≡ length all → Held Bool false number (used v (l ∷ lines)) all left → are_known all (operands_of l) ≡ true
      → ((now : List Bool) → Held Bool false number (used (suc v) lines) (all ++ makes l ∷ []) now → Left (all ++ makes l ∷ []) now (suc v) lines)
      → Left all left v (l ∷ lines)
  left_one v l lines all left s e h known later_left = by_case (mark v l lines) refl
    where
      by_case : (b : Bool) → mark v l lines ≡ b → Left all left v (l ∷ lines)
      by_case true q =
          let new = line_renumbered number l in
          let us = map (line_renumbered number) (kept (later v lines) lines) in
          let rest = later_left (left ++ makes new ∷ []) (next_kept Bool false v l lines all left (makes l) (makes new) s e q (makes-with (renumbered number) l) h) in
          let is : map (line_renumbered number) (kept (needed whole outputs v (l ∷ lines)) (l ∷ lines)) ≡ new ∷ us = ap (map (line_renumbered number)) (kept_one v l lines q) in
          let there = known_left all left (used v (l ∷ lines)) (operands_of l) h (λ w u. uses_kept v w l lines q u) known in
          record {
            order = ap (are_after left) is ∙ and_from (are_known left (operands_of new)) _ (ap (are_known left) (operands-with (renumbered number) l) ∙ there) rest.order;
            outs = ap (λ (ls : List Line). are_known (left ++ map makes ls) (map (renumbered number) outputs)) is
                ∙ ap (λ (bs : List Bool). are_known bs (map (renumbered number) outputs)) (sym (append_assoc left (makes new ∷ []) (map makes us))) ∙ rest.outs;
          }
      by_case false q =
          let rest = later_left left (next_dropped Bool false v l lines all left (makes l) s e q h) in
          let is : map (line_renumbered number) (kept (needed whole outputs v (l ∷ lines)) (l ∷ lines)) ≡ map (line_renumbered number) (kept (later v lines) lines) = ap (map (line_renumbered number)) (kept_none v l lines q) in
          record {
            order = ap (are_after left) is ∙ rest.order;
            outs = ap (λ (ls : List Line). are_known (left ++ map makes ls) (map (renumbered number) outputs)) is ∙ rest.outs;
          }

  -- the statements that are kept use values after they are made
  pub left_ordered : (v : ℕ) (lines : List Line) (all left : List Bool) → Stands v lines → v ≡ length all → Held Bool false number (used v lines) all left → are_after all lines ≡ true → are_known (all ++ map makes lines) outputs ≡ true
      → Left all left v lines
  left_ordered v [] all left s e h order o =
      record {
        order = refl;
        outs = subst (λ (bs : List Bool). are_known bs (map (renumbered number) outputs) ≡ true) (sym (append-nil left))
            (known_left all left (used v []) outputs h (λ w q. outputs_used [] w q) (subst (λ (bs : List Bool). are_known bs outputs ≡ true) (append-nil all) o));
      }
  left_ordered v (l ∷ lines) all left s e h order o =
      let parts = and_parts (are_known all (operands_of l)) (are_after (all ++ makes l ∷ []) lines) order in
      let outs = subst (λ (bs : List Bool). are_known bs outputs ≡ true) (sym (append_assoc all (makes l ∷ []) (map makes lines))) o in
      let next : suc v ≡ length (all ++ makes l ∷ []) = (let p = length_push all (makes l) in omega arith) in
      left_one v l lines all left s e h parts.0 (λ now held. left_ordered (suc v) lines (all ++ makes l ∷ []) now (stands_next v l lines s) next held parts.1 outs)

  -- at the beginning all values are those of the fields
  pub held_start : (A : Type 0) (none : A) (u : ℕ → Bool) (all : List A) → length all ≡ fields → Held A none number u all all
  held_start A none u all e =
      record {
        size = number_of fields marks 0 (length all) (omega arith) ∙ (let n : fields + 0 ≡ length all = omega arith in n);
        within = λ v h q. let n = same_field v h in omega arith;
        same = λ v h q. ap (λ (k : ℕ). get_or all k none) (same_field v h);
      }
    where
      same_field : (v : ℕ) → v < length all → number v ≡ v
      same_field v h = ap (λ (b : Bool). if b then v else fields + count (take (v - fields) marks)) (lt-ltb v fields (omega arith))

within_renumbered : (arrays : ℕ) (f : ℕ → ℕ) (l : Line) → (has_array arrays l && has_its_args l) ≡ true → (has_array arrays (line_renumbered f l) && has_its_args (line_renumbered f l)) ≡ true
within_renumbered arrays f (line.Fetch a i) h = h
within_renumbered arrays f (line.Store a i v) h = h
within_renumbered arrays f (line.Un o a) h = h
within_renumbered arrays f (line.Bin o a b) h = h
within_renumbered arrays f (line.Cond c a b) h = h
within_renumbered arrays f (line.Hash unit modulus args) h =
    ap (λ (n : ℕ). nat_eq n unit.args) (length-map args (renumbered f)) ∙ h

modulus_renumbered : (f : ℕ → ℕ) (l : Line) → has_small_modulus (line_renumbered f l) ≡ has_small_modulus l
modulus_renumbered f (line.Fetch a i) = refl
modulus_renumbered f (line.Store a i v) = refl
modulus_renumbered f (line.Un o a) = refl
modulus_renumbered f (line.Bin o a b) = refl
modulus_renumbered f (line.Cond c a b) = refl
modulus_renumbered f (line.Hash unit modulus args) = refl

pub kept_moduli : (f : ℕ → ℕ) (marks : List Bool) (lines : List Line) → have_small_moduli lines ≡ true → have_small_moduli (map (line_renumbered f) (kept marks lines)) ≡ true
kept_moduli f [] lines h = refl
kept_moduli f (mark ∷ marks) [] h = refl
kept_moduli f (true ∷ marks) (l ∷ lines) h =
    let p = and_parts (has_small_modulus l) (have_small_moduli lines) h in
    and_from (has_small_modulus (line_renumbered f l)) _ (modulus_renumbered f l ∙ p.0) (kept_moduli f marks lines p.1)
kept_moduli f (false ∷ marks) (l ∷ lines) h =
    kept_moduli f marks lines (and_parts (has_small_modulus l) (have_small_moduli lines) h).1

pub kept_within : (arrays : ℕ) (f : ℕ → ℕ) (marks : List Bool) (lines : List Line) → lines_within arrays lines ≡ true → lines_within arrays (map (line_renumbered f) (kept marks lines)) ≡ true
kept_within arrays f [] lines h = refl
kept_within arrays f (mark ∷ marks) [] h = refl
kept_within arrays f (true ∷ marks) (l ∷ lines) h =
    let p = and_parts (has_array arrays l && has_its_args l) (lines_within arrays lines) h in
    and_from (has_array arrays (line_renumbered f l) && has_its_args (line_renumbered f l)) _ (within_renumbered arrays f l p.0) (kept_within arrays f marks lines p.1)
kept_within arrays f (false ∷ marks) (l ∷ lines) h =
    kept_within arrays f marks lines (and_parts (has_array arrays l && has_its_args l) (lines_within arrays lines) h).1

-- The table holds what is found.
use Rattle.std.proofs.Common.{◌≡◌, ℕ, zero, suc, ◌+◌, ◌-◌, ◌<◌, ◌≤◌, Bool, true, false, not, ◌&&◌, nat_eq, nat_lt, nat_le, List, [], ◌∷◌, ◌++◌, Option, Some, None, length, refl, sym, ap, ◌∙◌, subst, arith, if◌then◌else◌, ⊎_elim}
use Rattle.std.specs.Prelude.{slice_get, unwrap_or}
use Rattle.std.specs.List.{list_all}
use Rattle.std.proofs.lemmas.Bool.{and_parts, eqb-true, ltb-true, ltb-false, lt-leb, le-leb, leb-true, cases_lt, or_cases}
use Rattle.std.proofs.lemmas.List.{length_push}
use Rattle.std.proofs.lemmas.Option.{slice_get_past}
use Rattle.dom_flat.specs.declared.line.Operand.{Operand}
use Rattle.dom_flat.specs.declared.line.Operand.TheVariants as operand
use Rattle.dom_flat.specs.declared.line.Line.{Line}
use Rattle.dom_flat.specs.declared.line.Line.TheVariants as line
use Rattle.dom_flat.specs.Lines.{operands_of}
use Rattle.atom_traits.specs.declared.tree.Port.TheVariants as port
use Rattle.atom_traits.specs.declared.tree.Leaf.TheVariants.{Keep, Put}
use Rattle.atom_match.specs.declared.class.View.{View}
use Rattle.atom_match.specs.declared.found.Answer.TheVariants.{Is, Other}
use Rattle.atom_match.specs.declared.found.Found.{Found}
use Rattle.atom_match.specs.declared.found.Fact.{Fact}
use Rattle.atom_match.specs.Classes.{Class, in_class, is_some_value}
use Rattle.codelets.specs.Lists.{has}
use Rattle.atom_match.specs.Rules.{found_as, un_found, bin_found, choose_answer, operand_found, line_found, line_found_if}
use Rattle.atom_match.specs.Resolve.{found_in, found, found_operand}
use Rattle.atom_match.specs.Table.{operand_passes}
use Rattle.atom_match.specs.Table.{entry_of, found_or, looked, next_entry, entry, IsTable, is_early, IsEarlier}

get_front : {A : Type 0} (xs ys : List A) (k : ℕ) → k < length xs → slice_get (xs ++ ys) k ≡ slice_get xs k
get_front [] ys k h = absurd (omega arith)
get_front (x ∷ xs) ys zero h = refl
get_front (x ∷ xs) ys (suc k) h = get_front xs ys k (omega arith)

get_seam : {A : Type 0} (xs : List A) (x : A) → slice_get (xs ++ x ∷ []) (length xs) ≡ Some x
get_seam [] x = refl
get_seam (y ∷ xs) x = get_seam xs x

has_below : (n : ℕ) (xs : List ℕ) (b : ℕ) → list_all (λ x. nat_lt x n) xs ≡ true → has xs b ≡ true → b < n
has_below n [] b h e = absurd (cc)
has_below n (x ∷ xs) b h e =
    let p = and_parts (nat_lt x n) _ h in
    ⊎_elim (λ (k : nat_eq b x ≡ true). subst (λ (y : ℕ). y < n) (sym (eqb-true b x k)) (ltb-true x n p.0)) (λ (k : has xs b ≡ true). has_below n xs b p.1 k) (or_cases (nat_eq b x) (has xs b) e)

module _ (state : ℕ) (facts : List Fact) (f g : ℕ → Found) (ok : ℕ → Bool) (same : (v : ℕ) → ok v ≡ true → f v ≡ g v) where
  operand_same : (o : Operand) → operand_passes ok o ≡ true → operand_found state facts f o ≡ operand_found state facts g o
  operand_same (operand.Const w) e = refl
  operand_same (operand.Value v) e = same v e

  line_same : (l : Line) → list_all (operand_passes ok) (operands_of l) ≡ true → line_found state facts f l ≡ line_found state facts g l
  line_same (line.Fetch array i) e = refl
  line_same (line.Store array i value) e = refl
  line_same (line.Un op a) e = ap (un_found op) (operand_same a (and_parts (operand_passes ok a) true e).0)
  line_same (line.Bin op a b) e =
      let p = and_parts (operand_passes ok a) _ e in let q = and_parts (operand_passes ok b) true p.1 in
      ap (λ (z : Found). bin_found state facts op z (operand_found state facts f b)) (operand_same a p.0)
      ∙ ap (bin_found state facts op (operand_found state facts g a)) (operand_same b q.0)
  line_same (line.Cond c a b) e =
      let p = and_parts (operand_passes ok c) _ e in let q = and_parts (operand_passes ok a) _ p.1 in let r = and_parts (operand_passes ok b) true q.1 in
      ap (λ (z : Found). found_as state facts (choose_answer z.verdict (operand_found state facts f a).answer (operand_found state facts f b).answer)) (operand_same c p.0)
      ∙ ap (λ (z : Found). found_as state facts (choose_answer (operand_found state facts g c).verdict z.answer (operand_found state facts f b).answer)) (operand_same a q.0)
      ∙ ap (λ (z : Found). found_as state facts (choose_answer (operand_found state facts g c).verdict (operand_found state facts g a).answer z.answer)) (operand_same b r.0)
  line_same (line.Hash unit modulus args) e = refl

module _ (c : Class) (view : View) (facts : List Fact) (count : ℕ) (uses : IsEarlier c count) where
  -- steps enough for a value
  record IsEnough (n v : ℕ) : Type 0 where
    pub some : 1 ≤ n
    pub above : in_class c v ≡ true → v < n

  early_cases : (v u : ℕ) → is_early c v u ≡ true → in_class c u ≡ true → u < v
  early_cases v u e i =
      ⊎_elim (λ (h : nat_lt u v ≡ true). ltb-true u v h) (λ (h : not (in_class c u) ≡ true). absurd (let k : not true ≡ true = subst (λ (b : Bool). not b ≡ true) i h in cc)) (or_cases (nat_lt u v) (not (in_class c u)) e)

  abbrev by_parts : Bool → Bool → Bool → ℕ → ℕ → Found
  by_parts r o i n v =
      if r then found_as view.state facts (Is Keep)
      else if o then found_as view.state facts Other
      else if i then line_found_if view.state facts (λ u. found_in c view n facts u) (c.line_of (v - c.fields))
      else found_as view.state facts (Is (Put (port.Container (c.container v))))

  -- more steps find the same
  stable : (n m v : ℕ) → IsEnough n v → IsEnough m v → found_in c view n facts v ≡ found_in c view m facts v
  stable zero m v h k = absurd (let e = h.some in omega arith)
  stable (suc n) zero v h k = absurd (let e = k.some in omega arith)
  stable (suc n) (suc m) v h k =
      by_case (nat_eq v view.read) (is_some_value view.other v) (in_class c v) refl (λ u a b. stable n m u a b)
    where
      by_line : (o : Option Line) → in_class c v ≡ true → c.line_of (v - c.fields) ≡ o → ((u : ℕ) → IsEnough n u → IsEnough m u → found_in c view n facts u ≡ found_in c view m facts u) → line_found_if view.state facts (λ u. found_in c view n facts u) o ≡ line_found_if view.state facts (λ u. found_in c view m facts u) o
      by_line None i e rest = refl
      by_line (Some l) i e rest =
          let p = and_parts (nat_le c.fields v) (has c.members (v - c.fields)) i in
          let le = leb-true c.fields v p.0 in
          let at : c.fields + (v - c.fields) ≡ v = omega arith in
          let some = uses.some_fields in
          let vn = h.above i in
          let vm = k.above i in
          line_same view.state facts (λ u. found_in c view n facts u) (λ u. found_in c view m facts u) (is_early c (c.fields + (v - c.fields))) (λ u w. rest u (record { some = omega arith; above = λ j. let lt = early_cases (c.fields + (v - c.fields)) u w j in omega arith }) (record { some = omega arith; above = λ j. let lt = early_cases (c.fields + (v - c.fields)) u w j in omega arith })) l (uses.earlier (v - c.fields) l p.1 e)

      by_case : (r o i : Bool) → in_class c v ≡ i → ((u : ℕ) → IsEnough n u → IsEnough m u → found_in c view n facts u ≡ found_in c view m facts u) → by_parts r o i n v ≡ by_parts r o i m v
      by_case true o i e rest = refl
      by_case false true i e rest = refl
      by_case false false true e rest = by_line (c.line_of (v - c.fields)) e refl rest
      by_case false false false e rest = refl

  module _ (n : ℕ) (table : List (Option Found)) (t : IsTable c view facts n table) where
    abbrev line_entry : ℕ → Bool → Option Found
    line_entry v i =
        if i then Some (line_found_if view.state facts (λ u. found_in c view v facts u) (c.line_of (v - c.fields))) else None

    -- the entry of a value
    entry_is : (v : ℕ) → (in_class c v ≡ true → v - c.fields < n) → entry_of c.fields table v ≡ line_entry v (in_class c v)
    entry_is v below = by_field (nat_lt v c.fields) refl
      where
        inside : c.fields ≤ v → v - c.fields < n → in_class c v ≡ has c.members (v - c.fields) → unwrap_or (slice_get table (v - c.fields)) None ≡ line_entry v (in_class c v)
        inside le lt e =
            let at : c.fields + (v - c.fields) ≡ v = omega arith in
            ap (λ o. unwrap_or o None) (t.each (v - c.fields) lt)
            ∙ ap (λ (i : Bool). if i then Some (line_found_if view.state facts (λ u. found_in c view (c.fields + (v - c.fields)) facts u) (c.line_of (v - c.fields))) else None) (sym e)
            ∙ ap (λ (m : ℕ). if in_class c v then Some (line_found_if view.state facts (λ u. found_in c view m facts u) (c.line_of (v - c.fields))) else None) at

        past : (i : Bool) → in_class c v ≡ i → n ≤ v - c.fields → unwrap_or (slice_get table (v - c.fields)) None ≡ line_entry v i
        past true e le = absurd (let lt = below e in omega arith)
        past false e le =
            let long = t.long in
            let over : length table ≤ v - c.fields = omega arith in
            ap (λ o. unwrap_or o None) (slice_get_past table (v - c.fields) over)

        by_field : (b : Bool) → nat_lt v c.fields ≡ b → (if b then None else unwrap_or (slice_get table (v - c.fields)) None) ≡ line_entry v (in_class c v)
        by_field true e =
            let lt = ltb-true v c.fields e in
            let no : nat_le c.fields v ≡ false = lt-leb c.fields v lt in
            ap (λ (i : Bool). line_entry v (i && has c.members (v - c.fields))) (sym no)
        by_field false e =
            let le = ltb-false v c.fields e in
            let yes : nat_le c.fields v ≡ true = le-leb c.fields v le in
            ⊎_elim (λ lt. inside le lt (ap (λ (i : Bool). i && has c.members (v - c.fields)) yes)) (λ ge. past (in_class c v) refl ge) (cases_lt (v - c.fields) n)

    pub looked_is : (v : ℕ) → (in_class c v ≡ true → v - c.fields < n) → looked c.fields c.container view facts table v ≡ found c view facts v
    looked_is v below =
        ap (λ (o : Option Found). if nat_eq v view.read then found_as view.state facts (Is Keep) else if is_some_value view.other v then found_as view.state facts Other else found_or (found_as view.state facts (Is (Put (port.Container (c.container v))))) o) (entry_is v below)
        ∙ by_case (nat_eq v view.read) (is_some_value view.other v) (in_class c v)
      where
        by_case : (r o i : Bool) → (if r then found_as view.state facts (Is Keep) else if o then found_as view.state facts Other else found_or (found_as view.state facts (Is (Put (port.Container (c.container v))))) (line_entry v i)) ≡ by_parts r o i v v
        by_case true o i = refl
        by_case false true i = refl
        by_case false false true = refl
        by_case false false false = refl

  -- one entry more
  entry_next : (n : ℕ) (table : List (Option Found)) → IsTable c view facts n table → next_entry c view facts table n ≡ entry c view facts n
  entry_next n table t = by_has (has c.members n) refl
    where
      same : (u : ℕ) → is_early c (c.fields + n) u ≡ true → looked c.fields c.container view facts table u ≡ found_in c view (c.fields + n) facts u
      same u w =
          let some = uses.some_fields in
          looked_is n table t u (λ i. let lt = early_cases (c.fields + n) u w i in let p = and_parts (nat_le c.fields u) (has c.members (u - c.fields)) i in let le = leb-true c.fields u p.0 in omega arith)
          ∙ stable (suc u) (c.fields + n) u (record { some = omega arith; above = λ i. omega arith }) (record { some = omega arith; above = early_cases (c.fields + n) u w })

      by_line : (o : Option Line) → has c.members n ≡ true → c.line_of n ≡ o → line_found_if view.state facts (λ u. looked c.fields c.container view facts table u) o ≡ line_found_if view.state facts (λ u. found_in c view (c.fields + n) facts u) o
      by_line None i e = refl
      by_line (Some l) i e =
          line_same view.state facts (λ u. looked c.fields c.container view facts table u) (λ u. found_in c view (c.fields + n) facts u) (is_early c (c.fields + n)) same l (uses.earlier n l i e)

      by_has : (b : Bool) → has c.members n ≡ b → (if b then Some (line_found_if view.state facts (λ u. looked c.fields c.container view facts table u) (c.line_of n)) else None) ≡ (if b then Some (line_found_if view.state facts (λ u. found_in c view (c.fields + n) facts u) (c.line_of n)) else None)
      by_has true i = ap Some (by_line (c.line_of n) i refl)
      by_has false i = refl

  pub table_next : (n : ℕ) (table : List (Option Found)) → IsTable c view facts n table → IsTable c view facts (n + 1) (table ++ next_entry c view facts table n ∷ [])
  table_next n table t = record {
    long = let p = length_push table (next_entry c view facts table n) in let q = t.long in omega arith;
    each = λ j h. ⊎_elim (λ lt. get_front table _ j (subst (λ k. j < k) (sym t.long) lt) ∙ t.each j lt) (λ le. let j_is : j ≡ n = omega arith in let at : j ≡ length table = j_is ∙ sym t.long in ap (slice_get (table ++ next_entry c view facts table n ∷ [])) at ∙ get_seam table _ ∙ ap Some (entry_next n table t ∙ ap (entry c view facts) (sym j_is))) (cases_lt j n);
  }

  -- a whole table
  pub operand_is : (table : List (Option Found)) → IsTable c view facts count table → (o : Operand) → operand_found view.state facts (λ u. looked c.fields c.container view facts table u) o ≡ found_operand c view facts o
  operand_is table t (operand.Const w) = refl
  operand_is table t (operand.Value v) =
      looked_is count table t v (λ i. has_below count c.members (v - c.fields) uses.within (and_parts (nat_le c.fields v) (has c.members (v - c.fields)) i).1)

pub cond_same : (state : ℕ) (facts : List Fact) (x u y v z w : Found) → x ≡ u → y ≡ v → z ≡ w → found_as state facts (choose_answer x.verdict y.answer z.answer) ≡ found_as state facts (choose_answer u.verdict v.answer w.answer)
cond_same state facts x u y v z w h i j =
    ap (λ (k : Found). found_as state facts (choose_answer k.verdict y.answer z.answer)) h
    ∙ ap (λ (k : Found). found_as state facts (choose_answer u.verdict k.answer z.answer)) i
    ∙ ap (λ (k : Found). found_as state facts (choose_answer u.verdict v.answer k.answer)) j

-- What holds of an expression whose checks hold.
use Rattle.std.proofs.Common.{◌≡◌, ℕ, zero, suc, ◌+◌, ◌<◌, Bool, true, false, not, ◌&&◌, ◌||◌, cond, nat_eq, nat_lt, List, [], ◌∷◌, ◌++◌, length, Option, Some, None, refl, sym, ap, ◌∙◌, subst, append_assoc, inl, inr, arith}
use Rattle.std.specs.Prelude.{unwrap_or}
use Rattle.std.specs.List.{list_all, list_any, position_or_len, slice_get}
use Rattle.std.proofs.lemmas.Bool.{and_from, and_parts, cases_Bool, eq-eqb, eqb-true, lt-ltb, or_left, or_right, true≢false}
use Rattle.std.proofs.lemmas.List.{append-nil}
use Rattle.std.proofs.lemmas.Option.{none-some}
use Rattle.dom_words.specs.declared.hash.HashName.{HashName}
use Rattle.dom_words.specs.Names.{has_name, index_of, is_same}
use Rattle.dom_words.specs.Units.{unit_named}
use Rattle.dom_ast.specs.declared.part.Place.{Place}
use Rattle.dom_ast.specs.declared.part.Place.TheVariants as place
use Rattle.dom_ast.specs.Form.{ExprForm, number, word, field, index, call, un, chain, choice, ExprForms, no_exprs, expr, OpForms, no_ops, op}
use Rattle.dom_ast.specs.Resolved.{PartForms}
use Rattle.dom_ast.specs.Kept.{Mention, parts_count, mention, ops_mentions, ops_within, part_mentions, part_within, parts_mentions, parts_within, place_within, resolved_ranges}
use Rattle.dom_checks.specs.declared.faults.CheckFault.TheVariants as fault
use Rattle.dom_checks.specs.declared.meant.Meant.{Meant}
use Rattle.dom_checks.specs.declared.meant.Meant.TheVariants as meaning
use Rattle.dom_checks.specs.inner.Noted.{AreNumbers, are_settled, has_scalar, is_apart, is_at_word, is_scalar}
use Rattle.dom_checks.specs.inner.Kept.{is_numbered}
use Rattle.dom_checks.specs.Resolve.{call_part, element_part, field_number, name_part, ops_of, part_of, parts_of, place_of}
use Rattle.dom_checks.specs.Scope.{Scope, meaning_at, meant, is_param}
use Rattle.dom_checks.specs.Walk.{check, element_checks, expr_checks, exprs_checks, exprs_count, field_checks, first_fault, first_index, index_checks, is_array, is_declared, is_hash_name, is_parameter, is_same_index, is_value, ops_checks, place_checks, takes, unit_checks}
use Rattle.dom_checks.proofs.FirstFaults.{at_check, back_holds, front_holds}
use Rattle.dom_checks.proofs.OneIndex.{scalar_first, settled_more}

-- a name that is there has a number within the list
found_below : {X : Type 0} (p : X → Bool) (xs : List X) → list_any p xs ≡ true → position_or_len p xs < length xs
found_below p [] h = absurd (true≢false (sym h))
found_below p (x ∷ xs) h = elim (cases_Bool (p x)) [
  | inl here ↦ subst (λ (b : Bool). cond (not b) (1 + position_or_len p xs) 0 < suc (length xs)) (sym here) (omega arith)
  | inr other ↦
      let rest : list_any p xs ≡ true = ap (λ (b : Bool). b || list_any p xs) (sym other) ∙ h in
      let below : position_or_len p xs < length xs = found_below p xs rest in
      subst (λ (b : Bool). cond (not b) (1 + position_or_len p xs) 0 < suc (length xs)) (sym other) (omega arith)
]

number_below : (names : List (List ℕ)) (name : List ℕ) → has_name names name ≡ true → nat_lt (unwrap_or (index_of names name) 0) (length names) ≡ true
number_below names name h =
    let n = position_or_len (is_same name) names in
    let below : n < length names = found_below (is_same name) names h in
    ap (λ (b : Bool). nat_lt (unwrap_or (cond b (Some n) None) 0) (length names)) (lt-ltb n (length names) below) ∙ lt-ltb n (length names) below

-- what is declared is among the meanings
all_at : (p : Meant → Bool) (meanings : List Meant) (k : ℕ) (m : Meant) → list_all p meanings ≡ true → slice_get meanings k ≡ Some m → p m ≡ true
all_at p [] k m all is = absurd (none-some m is)
all_at p (x ∷ xs) zero m all is =
    let same : x ≡ m = cc in
    subst (λ (y : Meant). p y ≡ true) same (and_parts (p x) (list_all p xs) all).0
all_at p (x ∷ xs) (suc k) m all is = all_at p xs k m (and_parts (p x) (list_all p xs) all).1 is

any_at : (p : Meant → Bool) (meanings : List Meant) (k : ℕ) (m : Meant) → p m ≡ true → slice_get meanings k ≡ Some m → list_any p meanings ≡ true
any_at p [] k m passes is = absurd (none-some m is)
any_at p (x ∷ xs) zero m passes is =
    let same : m ≡ x = cc in
    or_left (p x) (list_any p xs) (subst (λ (y : Meant). p y ≡ true) same passes)
any_at p (x ∷ xs) (suc k) m passes is = or_right (p x) (list_any p xs) (any_at p xs k m passes is)

-- what a name means is the parameter, or is among the meanings
pub data IsMeaning (meanings : List Meant) (m : Meant) : Type 0 where
  parameter : m ≡ meaning.Parameter → IsMeaning meanings m
  among : (k : ℕ) → slice_get meanings k ≡ Some m → IsMeaning meanings m

at_index : (meanings : List Meant) (o : Option ℕ) (m : Meant) → meaning_at meanings o ≡ Some m → IsMeaning meanings m
at_index meanings None m is = absurd (none-some m is)
at_index meanings (Some k) m is = among k is

on_param : (scope : Scope) (name : List ℕ) (m : Meant) (b : Bool) → is_param scope.param name ≡ b → meant scope name ≡ Some m → IsMeaning scope.meanings m
on_param scope name m true e is =
    let same : Some meaning.Parameter ≡ Some m = ap (λ (b : Bool). cond b (Some meaning.Parameter) (meaning_at scope.meanings (index_of scope.names name))) (sym e) ∙ is in
    parameter cc
on_param scope name m false e is = at_index scope.meanings (index_of scope.names name) m (ap (λ (b : Bool). cond b (Some meaning.Parameter) (meaning_at scope.meanings (index_of scope.names name))) (sym e) ∙ is)

pub its_meaning : (scope : Scope) (name : List ℕ) (m : Meant) → meant scope name ≡ Some m → IsMeaning scope.meanings m
its_meaning scope name m is = on_param scope name m (is_param scope.param name) refl is

scalar_below : (n : ℕ) (meanings : List Meant) (k : ℕ) → list_all (is_numbered n) meanings ≡ true → IsMeaning meanings (meaning.Scalar k) → nat_lt k n ≡ true
scalar_below n meanings k all (parameter e) = absurd (cc)
scalar_below n meanings k all (among j is) = all_at (is_numbered n) meanings j (meaning.Scalar k) all is

array_below : (n : ℕ) (meanings : List Meant) (k : ℕ) → list_all (is_numbered n) meanings ≡ true → IsMeaning meanings (meaning.Array k) → nat_lt k n ≡ true
array_below n meanings k all (parameter e) = absurd (cc)
array_below n meanings k all (among j is) = all_at (is_numbered n) meanings j (meaning.Array k) all is

is_a_scalar : (meanings : List Meant) (k : ℕ) → IsMeaning meanings (meaning.Scalar k) → has_scalar meanings k ≡ true
is_a_scalar meanings k (parameter e) = absurd (cc)
is_a_scalar meanings k (among j is) = any_at (is_scalar k) meanings j (meaning.Scalar k) (eq-eqb k k refl) is

is_no_scalar : (meanings : List Meant) (k : ℕ) → list_all (is_apart meanings) meanings ≡ true → IsMeaning meanings (meaning.Array k) → not (has_scalar meanings k) ≡ true
is_no_scalar meanings k all (parameter e) = absurd (cc)
is_no_scalar meanings k all (among j is) = all_at (is_apart meanings) meanings j (meaning.Array k) all is

-- what holds of a resolved expression after the mentions before it: its numbers are there, in a guard it mentions nothing,
-- and its mentions keep one index for each array
pub record IsSound (g : Bool) (scope : Scope) (before : List Mention) (within : Bool) (mentions : List Mention) : Type 0 where
  pub inside : within ≡ true
  pub free : g ≡ true → mentions ≡ []
  pub settled : are_settled scope.meanings before ≡ true → are_settled scope.meanings (before ++ mentions) ≡ true

pub quiet : (g : Bool) (scope : Scope) (before : List Mention) (within : Bool) → within ≡ true → IsSound g scope before within []
quiet g scope before within h = record {
  inside = h;
  free = λ e. refl;
  settled = λ s. subst (λ (ms : List Mention). are_settled scope.meanings ms ≡ true) (sym (append-nil before)) s;
}

-- two parts after one another
pub joined : (g : Bool) (scope : Scope) (before xs ys : List Mention) (a b : Bool) → IsSound g scope before a xs → IsSound g scope (before ++ xs) b ys → IsSound g scope before (a && b) (xs ++ ys)
joined g scope before xs ys a b s t = record {
  inside = and_from a b s.inside t.inside;
  free = λ e. ap (λ (ms : List Mention). ms ++ ys) (s.free e) ∙ t.free e;
  settled = λ h. subst (λ (ms : List Mention). are_settled scope.meanings ms ≡ true) (append_assoc before xs ys) (t.settled (s.settled h));
}

-- one mention that no guard has
mentioned : (g : Bool) (scope : Scope) (before : List Mention) (within : Bool) (m : Mention) → within ≡ true → g ≡ false
    → (are_settled scope.meanings before ≡ true → is_same_index (first_index before m.array) m.index ≡ true) → is_at_word scope.meanings m ≡ true → IsSound g scope before within (m ∷ [])
mentioned g scope before within m h free same at_word = record {
  inside = h;
  free = λ e. absurd (true≢false (sym e ∙ free));
  settled = λ s. settled_more scope.meanings before m s (same s) at_word;
}

not_true : (b : Bool) → not b ≡ true → b ≡ false
not_true true h = sym h
not_true false h = refl

module _ (scope : Scope) (numbers : AreNumbers (length scope.arrays) scope.meanings) where
  pub field_inside : (p : ℕ) (base : List ℕ) (q : ℕ) (name : List ℕ) → first_fault (field_checks scope p base q name) ≡ None → nat_lt (field_number scope name) (length scope.fields) ≡ true
  field_inside p base q name holds =
      let first : (is_declared scope base ≡ true) × (first_fault (check (fault.ShapeOfName p) (is_parameter (meant scope base)) ∷ check (fault.UnknownName q) (has_name scope.fields name) ∷ []) ≡ None) = at_check (fault.UnknownName p) (is_declared scope base) (check (fault.ShapeOfName p) (is_parameter (meant scope base)) ∷ check (fault.UnknownName q) (has_name scope.fields name) ∷ []) holds in
      let second : (is_parameter (meant scope base) ≡ true) × (first_fault (check (fault.UnknownName q) (has_name scope.fields name) ∷ []) ≡ None) = at_check (fault.ShapeOfName p) (is_parameter (meant scope base)) (check (fault.UnknownName q) (has_name scope.fields name) ∷ []) first.1 in
      number_below scope.fields name (at_check (fault.UnknownName q) (has_name scope.fields name) [] second.1).0

  pub word_sound : (g : Bool) (before : List Mention) (o : Option Meant) → ((m : Meant) → o ≡ Some m → IsMeaning scope.meanings m) → is_value g o ≡ true
      → IsSound g scope before (part_within (resolved_ranges (length scope.fields) (length scope.arrays)) (name_part o)) (part_mentions (name_part o))
  word_sound g before None is value = quiet g scope before true refl
  word_sound g before (Some (meaning.Define w)) is value = quiet g scope before true refl
  word_sound g before (Some (meaning.Scalar k)) is value =
      let m : IsMeaning scope.meanings (meaning.Scalar k) = is (meaning.Scalar k) refl in
      mentioned g scope before (nat_lt k (length scope.arrays) && true) (mention k (place.Word 0))
      (and_from (nat_lt k (length scope.arrays)) true (scalar_below (length scope.arrays) scope.meanings k numbers.below m) refl)
      (not_true g value)
      (λ s. scalar_first scope.meanings before k (is_a_scalar scope.meanings k m) (and_parts _ (list_all (is_at_word scope.meanings) before) s).1)
      (or_right (not (has_scalar scope.meanings k)) true refl)
  word_sound g before (Some (meaning.Array k)) is value = quiet g scope before true refl
  word_sound g before (Some meaning.Parameter) is value = quiet g scope before true refl

  place_inside : (e : ExprForm) → first_fault (place_checks scope e) ≡ None → place_within (resolved_ranges (length scope.fields) (length scope.arrays)) (place_of scope e) ≡ true
  place_inside (number p w) holds = refl
  place_inside (word p n) holds = refl
  place_inside (field p b q f) holds = field_inside p b q f holds
  place_inside (index p n e) holds = absurd (none-some (fault.BadIndex p) (sym holds))
  place_inside (call p n es) holds = absurd (none-some (fault.BadIndex p) (sym holds))
  place_inside (un p o e) holds = absurd (none-some (fault.BadIndex p) (sym holds))
  place_inside (chain e os) holds = refl
  place_inside (choice e a b) holds = refl

  element_sound : (g : Bool) (before : List Mention) (p : ℕ) (o : Option Meant) (i : Place) → ((m : Meant) → o ≡ Some m → IsMeaning scope.meanings m) → not g ≡ true
      → place_within (resolved_ranges (length scope.fields) (length scope.arrays)) i ≡ true → first_fault (element_checks before p o i) ≡ None
      → IsSound g scope before (part_within (resolved_ranges (length scope.fields) (length scope.arrays)) (element_part o i)) (part_mentions (element_part o i))
  element_sound g before p None i is free inside holds = quiet g scope before true refl
  element_sound g before p (Some (meaning.Define w)) i is free inside holds = quiet g scope before true refl
  element_sound g before p (Some (meaning.Scalar k)) i is free inside holds = quiet g scope before true refl
  element_sound g before p (Some (meaning.Array k)) i is free inside holds =
      let m : IsMeaning scope.meanings (meaning.Array k) = is (meaning.Array k) refl in
      mentioned g scope before _ (mention k i)
      (and_from (nat_lt k (length scope.arrays)) _ (array_below (length scope.arrays) scope.meanings k numbers.below m) inside)
      (not_true g free)
      (λ s. (at_check (fault.TwoIndexes p) (is_same_index (first_index before k) i) [] holds).0)
      (or_left (not (has_scalar scope.meanings k)) _ (is_no_scalar scope.meanings k numbers.apart m))
  element_sound g before p (Some meaning.Parameter) i is free inside holds = quiet g scope before true refl

  pub index_sound : (g : Bool) (before : List Mention) (p : ℕ) (name : List ℕ) (e : ExprForm) → first_fault (index_checks g scope before p name e) ≡ None
      → (is_array (meant scope name) ≡ true)
      × IsSound g scope before (part_within (resolved_ranges (length scope.fields) (length scope.arrays)) (element_part (meant scope name) (place_of scope e))) (part_mentions (element_part (meant scope name) (place_of scope e)))
  index_sound g before p name e holds =
      let last = element_checks before p (meant scope name) (place_of scope e) in
      let rest = place_checks scope e ++ last in
      let first : ((is_declared scope name || is_hash_name name) ≡ true) × (first_fault (check (fault.ShapeOfName p) (is_array (meant scope name) && not g) ∷ rest) ≡ None) = at_check (fault.UnknownName p) (is_declared scope name || is_hash_name name) (check (fault.ShapeOfName p) (is_array (meant scope name) && not g) ∷ rest) holds in
      let second : ((is_array (meant scope name) && not g) ≡ true) × (first_fault rest ≡ None) = at_check (fault.ShapeOfName p) (is_array (meant scope name) && not g) rest first.1 in
      let shape : (is_array (meant scope name) ≡ true) × (not g ≡ true) = and_parts (is_array (meant scope name)) (not g) second.0 in (
        shape.0,
        element_sound g before p (meant scope name) (place_of scope e) (λ m is. its_meaning scope name m is) shape.1
            (place_inside e (front_holds (place_checks scope e) last second.1))
            (back_holds (place_checks scope e) last second.1),
      )

  count_same : (es : ExprForms) → parts_count (parts_of scope es) ≡ exprs_count es
  count_same no_exprs = refl
  count_same (expr e es) = ap (λ (n : ℕ). suc n) (count_same es)

  call_sound : (g : Bool) (before : List Mention) (o : Option HashName) (n : ℕ) (ps : PartForms) → takes o n ≡ true → parts_count ps ≡ n
      → IsSound g scope before (parts_within (resolved_ranges (length scope.fields) (length scope.arrays)) ps) (parts_mentions ps)
      → IsSound g scope before (part_within (resolved_ranges (length scope.fields) (length scope.arrays)) (call_part o ps)) (part_mentions (call_part o ps))
  call_sound g before None n ps taken count s = absurd (true≢false (sym taken))
  call_sound g before (Some unit) n ps taken count s = record {
    inside = and_from (nat_eq (parts_count ps) unit.args) _ (eq-eqb (parts_count ps) unit.args (count ∙ sym (eqb-true unit.args n taken))) s.inside;
    free = s.free;
    settled = s.settled;
  }

  mutual
    pub expr_sound : (g : Bool) (before : List Mention) (e : ExprForm) → first_fault (expr_checks g scope before e) ≡ None
        → IsSound g scope before (part_within (resolved_ranges (length scope.fields) (length scope.arrays)) (part_of scope e)) (part_mentions (part_of scope e))
    expr_sound g before (number p w) holds = quiet g scope before true refl
    expr_sound g before (word p n) holds =
        let first : ((not (is_hash_name n) && is_value g (meant scope n)) ≡ true) × (first_fault (check (fault.UnknownName p) (is_declared scope n) ∷ []) ≡ None) = at_check (fault.ShapeOfName p) (not (is_hash_name n) && is_value g (meant scope n)) (check (fault.UnknownName p) (is_declared scope n) ∷ []) holds in
        word_sound g before (meant scope n) (λ m is. its_meaning scope n m is) (and_parts (not (is_hash_name n)) (is_value g (meant scope n)) first.0).1
    expr_sound g before (field p b q f) holds = quiet g scope before _ (field_inside p b q f holds)
    expr_sound g before (index p n e) holds = (index_sound g before p n e holds).1
    expr_sound g before (call p n es) holds =
        let own = unit_checks scope p n (exprs_count es) in
        let units : first_fault own ≡ None = front_holds own (exprs_checks g scope before es) holds in
        let first : ((is_hash_name n || not (is_declared scope n)) ≡ true) × (first_fault (check (fault.UnknownName p) (is_hash_name n) ∷ check (fault.HashArgs p) (takes (unit_named n) (exprs_count es)) ∷ []) ≡ None) = at_check (fault.ShapeOfName p) (is_hash_name n || not (is_declared scope n)) (check (fault.UnknownName p) (is_hash_name n) ∷ check (fault.HashArgs p) (takes (unit_named n) (exprs_count es)) ∷ []) units in
        let second : (is_hash_name n ≡ true) × (first_fault (check (fault.HashArgs p) (takes (unit_named n) (exprs_count es)) ∷ []) ≡ None) = at_check (fault.UnknownName p) (is_hash_name n) (check (fault.HashArgs p) (takes (unit_named n) (exprs_count es)) ∷ []) first.1 in
        call_sound g before (unit_named n) (exprs_count es) (parts_of scope es) (at_check (fault.HashArgs p) (takes (unit_named n) (exprs_count es)) [] second.1).0 (count_same es)
        (exprs_sound g before es (back_holds own (exprs_checks g scope before es) holds))
    expr_sound g before (un p o e) holds = expr_sound g before e holds
    expr_sound g before (chain e os) holds =
        let rest = ops_checks g scope (before ++ part_mentions (part_of scope e)) os in
        joined g scope before (part_mentions (part_of scope e)) (ops_mentions (ops_of scope os)) _ _
        (expr_sound g before e (front_holds (expr_checks g scope before e) rest holds))
        (ops_sound g (before ++ part_mentions (part_of scope e)) os (back_holds (expr_checks g scope before e) rest holds))
    expr_sound g before (choice e a b) holds =
        let after = before ++ part_mentions (part_of scope e) in
        let last = expr_checks g scope (after ++ part_mentions (part_of scope a)) b in
        let rest = expr_checks g scope after a ++ last in
        let others : first_fault rest ≡ None = back_holds (expr_checks g scope before e) rest holds in
        joined g scope before (part_mentions (part_of scope e)) (part_mentions (part_of scope a) ++ part_mentions (part_of scope b)) _ _
        (expr_sound g before e (front_holds (expr_checks g scope before e) rest holds))
        (joined g scope after (part_mentions (part_of scope a)) (part_mentions (part_of scope b)) _ _
        (expr_sound g after a (front_holds (expr_checks g scope after a) last others))
        (expr_sound g (after ++ part_mentions (part_of scope a)) b (back_holds (expr_checks g scope after a) last others)))

    pub exprs_sound : (g : Bool) (before : List Mention) (es : ExprForms) → first_fault (exprs_checks g scope before es) ≡ None
        → IsSound g scope before (parts_within (resolved_ranges (length scope.fields) (length scope.arrays)) (parts_of scope es)) (parts_mentions (parts_of scope es))
    exprs_sound g before no_exprs holds = quiet g scope before true refl
    exprs_sound g before (expr e es) holds =
        let rest = exprs_checks g scope (before ++ part_mentions (part_of scope e)) es in
        joined g scope before (part_mentions (part_of scope e)) (parts_mentions (parts_of scope es)) _ _
        (expr_sound g before e (front_holds (expr_checks g scope before e) rest holds))
        (exprs_sound g (before ++ part_mentions (part_of scope e)) es (back_holds (expr_checks g scope before e) rest holds))

    pub ops_sound : (g : Bool) (before : List Mention) (os : OpForms) → first_fault (ops_checks g scope before os) ≡ None
        → IsSound g scope before (ops_within (resolved_ranges (length scope.fields) (length scope.arrays)) (ops_of scope os)) (ops_mentions (ops_of scope os))
    ops_sound g before no_ops holds = quiet g scope before true refl
    ops_sound g before (op o e os) holds =
        let rest = ops_checks g scope (before ++ part_mentions (part_of scope e)) os in
        joined g scope before (part_mentions (part_of scope e)) (ops_mentions (ops_of scope os)) _ _
        (expr_sound g before e (front_holds (expr_checks g scope before e) rest holds))
        (ops_sound g (before ++ part_mentions (part_of scope e)) os (back_holds (expr_checks g scope before e) rest holds))

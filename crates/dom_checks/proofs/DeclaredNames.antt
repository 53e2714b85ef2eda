-- The fields and arrays of a program: their names are those that its heads declare, and where all checks hold, no two are the
-- same.
use Rattle.std.proofs.Common.{◌≡◌, ℕ, ◌+◌, ◌≤◌, Bool, true, false, not, ◌&&◌, ◌||◌, List, [], ◌∷◌, ◌++◌, length, map, drop, fold, is_some, refl, sym, ap, ◌∙◌, subst, arith, append-nil, length-append, append_assoc}
use Rattle.std.specs.Prelude.{None, Option}
use Rattle.std.specs.List.{IsDistinct, list_all, list_any, sum_by}
use Rattle.std.proofs.lemmas.Bool.{and_from, and_parts}
use Rattle.std.proofs.lemmas.Cmp.{nat_list_eq_equiv}
use Rattle.std.proofs.lemmas.List.{map-append}
use Rattle.std.proofs.lemmas.List.Folds.{list_all-append, list_any-append}
use Rattle.std.proofs.lemmas.List.Sums.{sum_by-append, sum_by-cons, sum_by_push}
use Rattle.std.proofs.lemmas.Map.Keys.{IsDistinct-push}
use Rattle.dom_words.specs.Names.{has_name, is_same}
use Rattle.dom_words.specs.declared.array.Array.{Array}
use Rattle.dom_ast.specs.declared.program.Head.{Head}
use Rattle.dom_ast.specs.declared.program.Head.TheVariants as head
use Rattle.dom_ast.specs.declared.program.Init.{Init}
use Rattle.dom_ast.specs.declared.program.Length.{Length}
use Rattle.dom_ast.specs.Form.{ProgramForm}
use Rattle.dom_ast.specs.HeadNames.{declared_names}
use Rattle.dom_checks.specs.declared.faults.CheckFault.TheVariants as fault
use Rattle.dom_checks.specs.declared.faults.Limit.TheVariants as limit
use Rattle.dom_checks.specs.declared.meant.Meant.{Meant}
use Rattle.dom_checks.specs.declared.meant.Meant.TheVariants as meaning
use Rattle.dom_checks.specs.Resolve.{resolved}
use Rattle.dom_checks.specs.Scope.{Scope, declared, declared_array, global_meaning, heads_scope, meant, nothing, with_global}
use Rattle.dom_checks.specs.Walk.{check, fields_checks, first_fault, global_checks, head_checks, heads_checks, is_declared, is_hash_name, name_checks, new_field_checks, transactions_checks, violation}
use Rattle.dom_checks.proofs.FirstFaults.{at_check, back_holds, front_holds}
use Rattle.dom_checks.proofs.LookUps.{not_declared}
use Prim.Native.Nat.compare

abbrev pub array_names : List Array → List (List ℕ)
array_names arrays = map (λ (a : Array). a.name) arrays

-- the names of the fields of a struct
abbrev texts : List (ℕ × List ℕ) → List (List ℕ)
texts fields = map (λ (f : ℕ × List ℕ). f.1) fields

abbrev total : List (List ℕ) → ℕ
total names = sum_by (λ (n : List ℕ). length n) names

pushed : (arrays : List Array) (a : Array) → array_names (arrays ++ a ∷ []) ≡ array_names arrays ++ a.name ∷ []
pushed arrays a = map-append (λ (b : Array). b.name) arrays (a ∷ [])

-- What all names have, the names of fields and arrays have.

module _ (p : List ℕ → Bool) where
  record Pass (fields arrays : List (List ℕ)) : Type 0 where
    of_fields : list_all p fields ≡ true
    of_arrays : list_all p arrays ≡ true

  all_pass : (scope : Scope) (hs : List Head) → Pass scope.fields (array_names scope.arrays) → list_all p (declared_names hs) ≡ true
      → Pass (fold declared scope hs).fields (array_names (fold declared scope hs).arrays)
  all_pass scope [] pass all = pass
  all_pass scope (head.Define q name w ∷ hs) pass all = all_pass (declared scope (head.Define q name w)) hs record { of_fields = pass.of_fields; of_arrays = pass.of_arrays } all
  all_pass scope (head.Struct q tag fields ∷ hs) pass all =
      let parts = and_parts (list_all p (texts fields)) (list_all p (declared_names hs)) (sym (list_all-append p (texts fields) (declared_names hs)) ∙ all) in
      all_pass (declared scope (head.Struct q tag fields)) hs record { of_fields = parts.0; of_arrays = pass.of_arrays } parts.1
  all_pass scope (head.Global q name l i ∷ hs) pass all =
      let parts = and_parts (p name) (list_all p (declared_names hs)) all in
      let array = declared_array (with_global scope name l) name l i in
      all_pass (declared scope (head.Global q name l i)) hs record {
        of_fields = pass.of_fields;
        of_arrays =
            ap (list_all p) (pushed scope.arrays array)
            ∙ list_all-append p (array_names scope.arrays) (name ∷ [])
            ∙ and_from (list_all p (array_names scope.arrays)) (p name && true) pass.of_arrays (and_from (p name) true parts.0 refl);
      } parts.1

  pub names_pass : (program : ProgramForm) → list_all p (declared_names program.heads) ≡ true
      → (list_all p (resolved program).fields ≡ true) × (list_all p (array_names (resolved program).arrays) ≡ true)
  names_pass program all = let pass = all_pass nothing program.heads record { of_fields = refl; of_arrays = refl } all in (pass.of_fields, pass.of_arrays)

-- They are no longer than the declared names.

no_longer : (scope : Scope) (hs : List Head) → total (fold declared scope hs).fields + total (array_names (fold declared scope hs).arrays) ≤ total scope.fields + total (array_names scope.arrays) + total (declared_names hs)
no_longer scope [] = omega arith
no_longer scope (head.Define q name w ∷ hs) = no_longer (declared scope (head.Define q name w)) hs
no_longer scope (head.Struct q tag fields ∷ hs) =
    let rest = no_longer (declared scope (head.Struct q tag fields)) hs in
    omega (arith, sum_by-append (λ (n : List ℕ). length n) (texts fields) (declared_names hs))
no_longer scope (head.Global q name l i ∷ hs) =
    let rest = no_longer (declared scope (head.Global q name l i)) hs in
    let array = declared_array (with_global scope name l) name l i in
    omega (
      arith,
      sum_by-cons (λ (n : List ℕ). length n) name (declared_names hs),
      ap total (pushed scope.arrays array),
      sum_by_push (λ (n : List ℕ). length n) (array_names scope.arrays) name,
    )

pub names_fit : (program : ProgramForm) → total (resolved program).fields + total (array_names (resolved program).arrays) ≤ total (declared_names program.heads)
names_fit program = let fit = no_longer nothing program.heads in omega arith

-- No two are the same.

same_there : (names : List (List ℕ)) (x y : List ℕ) → is_same x y ≡ true → has_name names x ≡ has_name names y
same_there [] x y same = refl
same_there (n ∷ names) x y same =
    ap (λ (b : Bool). b || has_name names x) (nat_list_eq_equiv.congr x y n same) ∙ ap (λ (b : Bool). is_same y n || b) (same_there names x y same)

-- a name that is not among some is not among a part of them
not_among : (names part : List (List ℕ)) (name : List ℕ) → list_all (has_name names) part ≡ true → has_name names name ≡ false → has_name part name ≡ false
not_among names [] name all new = refl
not_among names (x ∷ part) name all new =
    let parts = and_parts (has_name names x) (list_all (has_name names) part) all in
    by_case parts.0 (not_among names part name parts.1 new) (is_same name x) refl
  where
    by_case : has_name names x ≡ true → has_name part name ≡ false → (b : Bool) → is_same name x ≡ b → (is_same name x || has_name part name) ≡ false
    by_case there rest true same = let moved = same_there names name x same in absurd (cc)
    by_case there rest false other = ap (λ (b : Bool). b || has_name part name) other ∙ rest

or_front : (b c : Bool) → b ≡ true → (b || c) ≡ true
or_front b c e = ap (λ (t : Bool). t || c) e

still_there : (names part : List (List ℕ)) (new : List ℕ) → list_all (has_name names) part ≡ true → list_all (has_name (names ++ new ∷ [])) part ≡ true
still_there names [] new all = refl
still_there names (x ∷ part) new all =
    let parts = and_parts (has_name names x) (list_all (has_name names) part) all in
    and_from (has_name (names ++ new ∷ []) x) (list_all (has_name (names ++ new ∷ [])) part)
    (list_any-append (is_same x) names (new ∷ []) ∙ or_front (has_name names x) (is_same x new || false) parts.0) (still_there names part new parts.1)

or_back : (b c : Bool) → c ≡ true → (b || c) ≡ true
or_back true c e = refl
or_back false c e = e

now_there : (names : List (List ℕ)) (new : List ℕ) → has_name (names ++ new ∷ []) new ≡ true
now_there names new =
    list_any-append (is_same new) names (new ∷ [])
    ∙ or_back (has_name names new) (is_same new new || false) (or_front (is_same new new) false (nat_list_eq_equiv.refl new))

-- what holds of a scope while heads are declared whose checks hold
record Apart (scope : Scope) : Type 0 where
  paired : length scope.meanings ≡ length scope.names
  among : list_all (has_name scope.names) (array_names scope.arrays) ≡ true
  arrays : IsDistinct is_same (array_names scope.arrays)
  fields : IsDistinct is_same scope.fields

not_true : (b : Bool) → not b ≡ true → b ≡ false
not_true true e = absurd (cc)
not_true false e = refl

-- the fields of a struct whose checks hold, after others
fields_apart : (before : List (List ℕ)) (fields : List (ℕ × List ℕ)) → IsDistinct is_same before → first_fault (fields_checks before fields) ≡ None → IsDistinct is_same (before ++ texts fields)
fields_apart before [] is holds = subst (λ (names : List (List ℕ)). IsDistinct is_same names) (sym (append-nil before)) is
fields_apart before (f ∷ fields) is holds =
    let front = front_holds (new_field_checks before f) (fields_checks (before ++ f.1 ∷ []) fields) holds in
    let back = back_holds (new_field_checks before f) (fields_checks (before ++ f.1 ∷ []) fields) holds in
    let new = not_true (has_name before f.1) (at_check (fault.Twice f.0) (not (has_name before f.1)) (drop 1 (new_field_checks before f)) front).0 in
    subst (λ (names : List (List ℕ)). IsDistinct is_same names) (append_assoc before (f.1 ∷ []) (texts fields))
    (fields_apart (before ++ f.1 ∷ []) fields (IsDistinct-push nat_list_eq_equiv before f.1 is new) back)

-- a name that may be declared is new
new_name : (scope : Scope) (q : ℕ) (name : List ℕ) → length scope.meanings ≡ length scope.names → first_fault (name_checks scope q name) ≡ None → has_name scope.names name ≡ false
new_name scope q name paired holds =
    not_declared scope name paired (not_true (is_declared scope name) (at_check (fault.Twice q) (not (is_declared scope name)) (drop 1 (name_checks scope q name)) holds).0)

longer : {X Y : Type 0} (xs : List X) (ys : List Y) (x : X) (y : Y) → length xs ≡ length ys → length (xs ++ x ∷ []) ≡ length (ys ++ y ∷ [])
longer xs ys x y e = omega (arith, length-append xs (x ∷ []), length-append ys (y ∷ []))

nothing_apart : Apart nothing
unfolding IsDistinct
nothing_apart = record { paired = refl; among = refl; arrays = tt; fields = tt }

empty_apart : IsDistinct is_same []
unfolding IsDistinct
empty_apart = tt

head_apart : (scope : Scope) (h : Head) → Apart scope → first_fault (head_checks scope h) ≡ None → Apart (declared scope h)
head_apart scope (head.Define q name w) a holds =
    record {
      paired = longer scope.meanings scope.names (meaning.Define w) name a.paired;
      among = still_there scope.names (array_names scope.arrays) name a.among;
      arrays = a.arrays;
      fields = a.fields;
    }
head_apart scope (head.Struct q tag fields) a holds =
    record {
      paired = a.paired;
      among = a.among;
      arrays = a.arrays;
      fields = fields_apart [] fields empty_apart holds;
    }
head_apart scope (head.Global q name l i) a holds =
    let array : Array = declared_array (with_global scope name l) name l i in
    let names : List (List ℕ) = scope.names ++ name ∷ [] in
    let new = new_name scope q name a.paired (front_holds (name_checks scope q name) (drop 2 (head_checks scope (head.Global q name l i))) holds) in
    record {
      paired = longer scope.meanings scope.names (global_meaning (length scope.arrays) l) name a.paired;
      among =
          ap (list_all (has_name names)) (pushed scope.arrays array)
          ∙ list_all-append (has_name names) (array_names scope.arrays) (name ∷ [])
          ∙ and_from (list_all (has_name names) (array_names scope.arrays)) (has_name names name && true) (still_there scope.names (array_names scope.arrays) name a.among)
          (and_from (has_name names name) true (now_there scope.names name) refl);
      arrays =
          subst (λ (ns : List (List ℕ)). IsDistinct is_same ns) (sym (pushed scope.arrays array))
          (IsDistinct-push nat_list_eq_equiv (array_names scope.arrays) name a.arrays (not_among scope.names (array_names scope.arrays) name a.among new));
      fields = a.fields;
    }

heads_apart : (scope : Scope) (hs : List Head) → Apart scope → first_fault (heads_checks scope hs) ≡ None → Apart (fold declared scope hs)
heads_apart scope [] a holds = a
heads_apart scope (h ∷ hs) a holds =
    heads_apart (declared scope h) hs (head_apart scope h a (front_holds (head_checks scope h) (heads_checks (declared scope h) hs) holds))
    (back_holds (head_checks scope h) (heads_checks (declared scope h) hs) holds)

pub names_apart : (program : ProgramForm) → violation program ≡ None → IsDistinct is_same (resolved program).fields × IsDistinct is_same (array_names (resolved program).arrays)
names_apart program holds =
    let a =
    heads_apart nothing program.heads nothing_apart
    (front_holds (heads_checks nothing program.heads) (transactions_checks (heads_scope program.heads) [] program.transactions) holds)
    in (a.fields, a.arrays)

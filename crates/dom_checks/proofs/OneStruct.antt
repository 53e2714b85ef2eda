-- What heads with one struct declare.
use Rattle.std.proofs.Common.{◌≡◌, ℕ, ◌≤◌, true, nat_eq, List, [], ◌∷◌, length, map, fold, refl, arith}
use Rattle.std.specs.Prelude.{None}
use Rattle.std.specs.List.{count_by, list_all}
use Rattle.std.proofs.lemmas.Bool.{and_parts, eqb-true}
use Rattle.dom_ast.specs.declared.program.Head.{Head}
use Rattle.dom_ast.specs.declared.program.Head.TheVariants as head
use Rattle.dom_ast.specs.CheckedForm.{has_field, has_one_struct, is_some_field, is_struct}
use Rattle.dom_checks.specs.Scope.{Scope, declared, heads_scope, nothing}

-- no head declares a parameter
no_param : (scope : Scope) (hs : List Head) → (fold declared scope hs).param ≡ scope.param
no_param scope [] = refl
no_param scope (head.Define p name w ∷ hs) = no_param (declared scope (head.Define p name w)) hs
no_param scope (head.Struct p tag fields ∷ hs) = no_param (declared scope (head.Struct p tag fields)) hs
no_param scope (head.Global p name l i ∷ hs) = no_param (declared scope (head.Global p name l i)) hs

pub heads_no_param : (hs : List Head) → (heads_scope hs).param ≡ None
heads_no_param hs = no_param nothing hs

some_field : (fields : List (ℕ × List ℕ)) → is_some_field fields ≡ true → 1 ≤ length (map (λ (f : ℕ × List ℕ). f.1) fields)
some_field [] some = absurd (cc)
some_field (f ∷ fields) some = omega arith

-- once there are fields, there are fields after any heads
fields_stay : (scope : Scope) (hs : List Head) → list_all has_field hs ≡ true → 1 ≤ length scope.fields → 1 ≤ length (fold declared scope hs).fields
fields_stay scope [] have some = some
fields_stay scope (head.Define p name w ∷ hs) have some = fields_stay (declared scope (head.Define p name w)) hs have some
fields_stay scope (head.Struct p tag fields ∷ hs) have some =
    let parts : (is_some_field fields ≡ true) × (list_all has_field hs ≡ true) = and_parts (is_some_field fields) (list_all has_field hs) have in
    fields_stay (declared scope (head.Struct p tag fields)) hs parts.1 (some_field fields parts.0)
fields_stay scope (head.Global p name l i ∷ hs) have some = fields_stay (declared scope (head.Global p name l i)) hs have some

fields_come : (scope : Scope) (hs : List Head) → list_all has_field hs ≡ true → 1 ≤ count_by is_struct hs → 1 ≤ length (fold declared scope hs).fields
fields_come scope [] have one = absurd (omega arith)
fields_come scope (head.Define p name w ∷ hs) have one = fields_come (declared scope (head.Define p name w)) hs have one
fields_come scope (head.Struct p tag fields ∷ hs) have one =
    let parts : (is_some_field fields ≡ true) × (list_all has_field hs ≡ true) = and_parts (is_some_field fields) (list_all has_field hs) have in
    fields_stay (declared scope (head.Struct p tag fields)) hs parts.1 (some_field fields parts.0)
fields_come scope (head.Global p name l i ∷ hs) have one = fields_come (declared scope (head.Global p name l i)) hs have one

-- one struct has one field or more
pub heads_some_field : (hs : List Head) → has_one_struct hs ≡ true → 1 ≤ length (heads_scope hs).fields
heads_some_field hs one =
    let parts : (nat_eq (count_by is_struct hs) 1 ≡ true) × (list_all has_field hs ≡ true) = and_parts (nat_eq (count_by is_struct hs) 1) (list_all has_field hs) one in
    let count : count_by is_struct hs ≡ 1 = eqb-true (count_by is_struct hs) 1 parts.0 in
    fields_come nothing hs parts.1 (omega arith)

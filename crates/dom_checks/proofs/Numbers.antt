-- The numbers of the arrays that heads declare.
use Rattle.std.proofs.Common.{◌≡◌, ℕ, ◌+◌, ◌<◌, true, false, ◌&&◌, ◌||◌, nat_eq, nat_lt, List, [], ◌∷◌, ◌++◌, fold, length, Option, Some, None, refl, sym, ◌∙◌, subst, arith, length-append}
use Rattle.std.proofs.lemmas.Bool.{and_from, and_parts, lt-ltb, ltb-true, ne_eqb, not_from_false, not-true, or_from}
use Rattle.std.proofs.lemmas.List.Folds.{list_all-append, list_any-append}
use Rattle.std.specs.List.{list_all}
use Rattle.dom_words.specs.declared.array.Array.{Array}
use Rattle.dom_ast.specs.declared.program.Head.{Head}
use Rattle.dom_ast.specs.declared.program.Head.TheVariants as head
use Rattle.dom_ast.specs.declared.program.Length.{Length}
use Rattle.dom_checks.specs.declared.meant.Meant.{Meant}
use Rattle.dom_checks.specs.declared.meant.Meant.TheVariants as meaning
use Rattle.dom_checks.specs.inner.Noted.{AreNumbers, has_scalar, is_apart, is_scalar}
use Rattle.dom_checks.specs.inner.Kept.{is_numbered}
use Rattle.dom_checks.specs.Scope.{Scope, declared, declared_array, global_meaning, heads_scope, nothing, with_global}

-- no number from n on is that of a scalar
no_scalar : (n : ℕ) (ms : List Meant) → list_all (is_numbered n) ms ≡ true → has_scalar ms n ≡ false
no_scalar n [] h = refl
no_scalar n (meaning.Define w ∷ ms) h = no_scalar n ms h
no_scalar n (meaning.Scalar k ∷ ms) h =
    let parts : (nat_lt k n ≡ true) × (list_all (is_numbered n) ms ≡ true) = and_parts (nat_lt k n) (list_all (is_numbered n) ms) h in
    let below : k < n = ltb-true k n parts.0 in
    or_from (nat_eq k n) (has_scalar ms n) (ne_eqb k n (λ e. omega arith)) (no_scalar n ms parts.1)
no_scalar n (meaning.Array k ∷ ms) h = no_scalar n ms (and_parts (nat_lt k n) (list_all (is_numbered n) ms) h).1
no_scalar n (meaning.Parameter ∷ ms) h = no_scalar n ms h

-- numbers below n are below n + 1
grown_one : (n : ℕ) (m : Meant) → is_numbered n m ≡ true → is_numbered (n + 1) m ≡ true
grown_one n (meaning.Define w) h = refl
grown_one n (meaning.Scalar k) h = let below : k < n = ltb-true k n h in lt-ltb k (n + 1) (omega arith)
grown_one n (meaning.Array k) h = let below : k < n = ltb-true k n h in lt-ltb k (n + 1) (omega arith)
grown_one n meaning.Parameter h = refl

grown : (n : ℕ) (ms : List Meant) → list_all (is_numbered n) ms ≡ true → list_all (is_numbered (n + 1)) ms ≡ true
grown n [] h = refl
grown n (m ∷ ms) h =
    let parts : (is_numbered n m ≡ true) × (list_all (is_numbered n) ms ≡ true) = and_parts (is_numbered n m) (list_all (is_numbered n) ms) h in
    and_from (is_numbered (n + 1) m) (list_all (is_numbered (n + 1)) ms) (grown_one n m parts.0) (grown n ms parts.1)

-- what was apart stays apart where the new meaning is no scalar with a number below n
apart_one : (n : ℕ) (all : List Meant) (x m : Meant) → ((j : ℕ) → j < n → is_scalar j x ≡ false) → is_numbered n m ≡ true → is_apart all m ≡ true → is_apart (all ++ x ∷ []) m ≡ true
apart_one n all x (meaning.Define w) new numbered apart = refl
apart_one n all x (meaning.Scalar k) new numbered apart = refl
apart_one n all x (meaning.Array k) new numbered apart =
    not_from_false (has_scalar (all ++ x ∷ []) k)
    (list_any-append (is_scalar k) all (x ∷ []) ∙ or_from (has_scalar all k) (is_scalar k x || false) (not-true (has_scalar all k) apart) (or_from (is_scalar k x) false (new k (ltb-true k n numbered)) refl))
apart_one n all x meaning.Parameter new numbered apart = refl

apart_all : (n : ℕ) (all : List Meant) (x : Meant) (ms : List Meant) → ((j : ℕ) → j < n → is_scalar j x ≡ false) → list_all (is_numbered n) ms ≡ true → list_all (is_apart all) ms ≡ true → list_all (is_apart (all ++ x ∷ [])) ms ≡ true
apart_all n all x [] new numbered apart = refl
apart_all n all x (m ∷ ms) new numbered apart =
    let p : (is_numbered n m ≡ true) × (list_all (is_numbered n) ms ≡ true) = and_parts (is_numbered n m) (list_all (is_numbered n) ms) numbered in
    let q : (is_apart all m ≡ true) × (list_all (is_apart all) ms ≡ true) = and_parts (is_apart all m) (list_all (is_apart all) ms) apart in
    and_from (is_apart (all ++ x ∷ []) m) (list_all (is_apart (all ++ x ∷ [])) ms) (apart_one n all x m new p.0 q.0) (apart_all n all x ms new p.1 q.1)

-- one more meaning
apart_more : (n : ℕ) (ms : List Meant) (x : Meant) → ((j : ℕ) → j < n → is_scalar j x ≡ false) → is_apart (ms ++ x ∷ []) x ≡ true → AreNumbers n ms → list_all (is_apart (ms ++ x ∷ [])) (ms ++ x ∷ []) ≡ true
apart_more n ms x new own h =
    list_all-append (is_apart (ms ++ x ∷ [])) ms (x ∷ [])
    ∙ and_from (list_all (is_apart (ms ++ x ∷ [])) ms) (is_apart (ms ++ x ∷ []) x && true) (apart_all n ms x ms new h.below h.apart) (and_from (is_apart (ms ++ x ∷ []) x) true own refl)

below_more : (n : ℕ) (ms : List Meant) (x : Meant) → is_numbered n x ≡ true → list_all (is_numbered n) ms ≡ true → list_all (is_numbered n) (ms ++ x ∷ []) ≡ true
below_more n ms x own h =
    list_all-append (is_numbered n) ms (x ∷ []) ∙ and_from (list_all (is_numbered n) ms) (is_numbered n x && true) h (and_from (is_numbered n x) true own refl)

define_more : (n : ℕ) (ms : List Meant) (w : ℕ) → AreNumbers n ms → AreNumbers n (ms ++ meaning.Define w ∷ [])
define_more n ms w h = record {
  below = below_more n ms (meaning.Define w) refl h.below;
  apart = apart_more n ms (meaning.Define w) (λ j under. refl) refl h;
}

scalar_more : (n : ℕ) (ms : List Meant) → AreNumbers n ms → AreNumbers (n + 1) (ms ++ meaning.Scalar n ∷ [])
scalar_more n ms h = record {
  below = below_more (n + 1) ms (meaning.Scalar n) (lt-ltb n (n + 1) (omega arith)) (grown n ms h.below);
  apart = apart_more n ms (meaning.Scalar n) (λ j under. ne_eqb n j (λ e. omega arith)) refl h;
}

array_more : (n : ℕ) (ms : List Meant) → AreNumbers n ms → AreNumbers (n + 1) (ms ++ meaning.Array n ∷ [])
array_more n ms h = record {
  below = below_more (n + 1) ms (meaning.Array n) (lt-ltb n (n + 1) (omega arith)) (grown n ms h.below);
  apart =
      apart_more n ms (meaning.Array n) (λ j under. refl)
      (not_from_false (has_scalar (ms ++ meaning.Array n ∷ []) n) (list_any-append (is_scalar n) ms (meaning.Array n ∷ []) ∙ or_from (has_scalar ms n) false (no_scalar n ms h.below) refl))
      h;
}

global_more : (n : ℕ) (ms : List Meant) (l : Option Length) → AreNumbers n ms → AreNumbers (n + 1) (ms ++ global_meaning n l ∷ [])
global_more n ms None h = scalar_more n ms h
global_more n ms (Some l) h = array_more n ms h

one_array : (arrays : List Array) (array : Array) → length (arrays ++ array ∷ []) ≡ length arrays + 1
one_array arrays array = length-append arrays (array ∷ [])

numbers_more : (scope : Scope) (h : Head) → AreNumbers (length scope.arrays) scope.meanings → AreNumbers (length (declared scope h).arrays) (declared scope h).meanings
numbers_more scope (head.Define p name w) n = define_more (length scope.arrays) scope.meanings w n
numbers_more scope (head.Struct p tag fields) n = n
numbers_more scope (head.Global p name l i) n =
    subst (λ (k : ℕ). AreNumbers k (scope.meanings ++ global_meaning (length scope.arrays) l ∷ [])) (sym (one_array scope.arrays (declared_array (with_global scope name l) name l i)))
    (global_more (length scope.arrays) scope.meanings l n)

numbers_after : (scope : Scope) (heads : List Head) → AreNumbers (length scope.arrays) scope.meanings → AreNumbers (length (fold declared scope heads).arrays) (fold declared scope heads).meanings
numbers_after scope [] n = n
numbers_after scope (h ∷ hs) n = numbers_after (declared scope h) hs (numbers_more scope h n)

-- the numbers of what heads declare
pub heads_numbers : (heads : List Head) → AreNumbers (length (heads_scope heads).arrays) (heads_scope heads).meanings
heads_numbers heads = numbers_after nothing heads (record { below = refl; apart = refl })

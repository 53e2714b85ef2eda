-- The tables of the mentions of arrays as one more is added.
use Rattle.std.proofs.Common.{◌≡◌, ℕ, zero, suc, ◌<◌, Bool, true, false, not, ◌&&◌, cond, nat_eq, List, [], ◌∷◌, ◌++◌, length, replicate, Option, Some, None, refl, sym, ap, ◌∙◌, ◌⊎◌, inl, inr, arith, slice_set}
use Rattle.std.proofs.lemmas.Bool.{cases_eq, eq-eqb, ne_eqb}
use Rattle.std.proofs.lemmas.List.Folds.{find-append, list_all-append}
use Rattle.std.specs.List.{find, slice_get}
use Rattle.std.specs.Option.{option_map, option_or}
use Rattle.dom_ast.specs.declared.part.Place.{Place}
use Rattle.dom_ast.specs.declared.part.Place.TheVariants as place
use Rattle.dom_ast.specs.Kept.{Mention, is_no_index, is_same_place, mention}
use Rattle.dom_checks.specs.inner.Noted.{AreFirsts, AreIndexes, AreTables}
use Rattle.dom_checks.specs.Walk.{first_index}
use Rattle.dom_checks.proofs.FirstFaults.{map_or}

get-replicate : {X : Type 0} (n k : ℕ) (x : X) → k < n → slice_get (replicate n x) k ≡ Some x
get-replicate zero k x under = absurd (omega arith)
get-replicate (suc n) zero x under = refl
get-replicate (suc n) (suc k) x under = get-replicate n k x (omega arith)

get-set_same : {X : Type 0} (xs : List X) (i : ℕ) (x : X) → i < length xs → slice_get (slice_set xs i x) i ≡ Some x
get-set_same [] i x under = absurd (omega arith)
get-set_same (y ∷ ys) zero x under = refl
get-set_same (y ∷ ys) (suc i) x under = get-set_same ys i x (omega arith)

get-set_other : {X : Type 0} (xs : List X) (i k : ℕ) (x : X) → (i ≡ k → ⊥) → slice_get (slice_set xs i x) k ≡ slice_get xs k
get-set_other [] i k x other = refl
get-set_other (y ∷ ys) zero zero x other = absurd (other refl)
get-set_other (y ∷ ys) zero (suc k) x other = refl
get-set_other (y ∷ ys) (suc i) zero x other = refl
get-set_other (y ∷ ys) (suc i) (suc k) x other = get-set_other ys i k x (λ e. other (ap (λ (n : ℕ). suc n) e))

-- without mentions no array has a first index, and no field is one
pub no_tables : AreTables [] (replicate 32 None) (replicate 64 false)
no_tables = record {
  first = λ a under. get-replicate 32 a None under;
  index = λ f under. get-replicate 64 f false under;
}

one_first : (m : Mention) (a : ℕ) (b : Bool) → nat_eq m.array a ≡ b → first_index (m ∷ []) a ≡ cond b (Some m.index) None
one_first m a b e =
    ap (λ (t : Bool). option_map (λ (n : Mention). n.index) (cond t (Some m) None)) e ∙ on b
  where
    on : (t : Bool) → option_map (λ (n : Mention). n.index) (cond t (Some m) None) ≡ cond t (Some m.index) None
    on true = refl
    on false = refl

first-append : (ms ns : List Mention) (a : ℕ) → first_index (ms ++ ns) a ≡ option_or (first_index ms a) (first_index ns a)
first-append ms ns a =
    ap (option_map (λ (m : Mention). m.index)) (find-append (λ (m : Mention). nat_eq m.array a) ms ns)
    ∙ map_or (λ (m : Mention). m.index) (find (λ (m : Mention). nat_eq m.array a) ms) (find (λ (m : Mention). nat_eq m.array a) ns)

or_none : {X : Type 0} (o : Option X) → option_or o None ≡ o
or_none None = refl
or_none (Some x) = refl

-- the first index of an array stays where another array is mentioned
first_stays : (ms : List Mention) (m : Mention) (a : ℕ) → (m.array ≡ a → ⊥) → first_index (ms ++ m ∷ []) a ≡ first_index ms a
first_stays ms m a other =
    first-append ms (m ∷ []) a ∙ ap (option_or (first_index ms a)) (one_first m a false (ne_eqb m.array a other)) ∙ or_none (first_index ms a)

-- it is that of the mention where the array has none
first_added : (ms : List Mention) (m : Mention) (a : ℕ) (o : Option Place) → m.array ≡ a → first_index ms a ≡ o → first_index (ms ++ m ∷ []) a ≡ option_or o (Some m.index)
first_added ms m a o is had =
    first-append ms (m ∷ []) a ∙ ap (option_or (first_index ms a)) (one_first m a true (eq-eqb m.array a is)) ∙ ap (λ p. option_or p (Some m.index)) had

some_same : {X : Type 0} {x y : X} → Some x ≡ Some y → x ≡ y
some_same e = cc

-- an array that has a first index keeps it
pub firsts_kept : (ms : List Mention) (m : Mention) (firsts : List (Option Place)) (i : Place) → m.array < 32 → slice_get firsts m.array ≡ Some (Some i) → AreFirsts ms firsts → AreFirsts (ms ++ m ∷ []) firsts
firsts_kept ms m firsts i small had are = λ a under. at a under (cases_eq m.array a)
  where
    at : (a : ℕ) → a < 32 → (m.array ≡ a) ⊎ (m.array ≡ a → ⊥) → slice_get firsts a ≡ Some (first_index (ms ++ m ∷ []) a)
    at a under (inl is) =
        let there : first_index ms a ≡ Some i = some_same (sym (are a under) ∙ (ap (slice_get firsts) (sym is) ∙ had)) in
        are a under ∙ ap Some (there ∙ sym (first_added ms m a (Some i) is there))
    at a under (inr other) = are a under ∙ ap Some (sym (first_stays ms m a other))

-- an array that has none gets it
pub firsts_added : (ms : List Mention) (m : Mention) (firsts : List (Option Place)) → m.array < 32 → m.array < length firsts → slice_get firsts m.array ≡ Some None → AreFirsts ms firsts → AreFirsts (ms ++ m ∷ []) (slice_set firsts m.array (Some m.index))
firsts_added ms m firsts small within had are = λ a under. at a under (cases_eq m.array a)
  where
    at : (a : ℕ) → a < 32 → (m.array ≡ a) ⊎ (m.array ≡ a → ⊥) → slice_get (slice_set firsts m.array (Some m.index)) a ≡ Some (first_index (ms ++ m ∷ []) a)
    at a under (inl is) =
        let none : first_index ms a ≡ None = some_same (sym (are a under) ∙ (ap (slice_get firsts) (sym is) ∙ had)) in
        ap (slice_get (slice_set firsts m.array (Some m.index))) (sym is) ∙ get-set_same firsts m.array (Some m.index) within ∙ ap Some (sym (first_added ms m a None is none))
    at a under (inr other) = get-set_other firsts m.array a (Some m.index) other ∙ are a under ∙ ap Some (sym (first_stays ms m a other))

no_index-append : (ms : List Mention) (m : Mention) (f : ℕ) (b : Bool) → is_same_place m.index (place.Field f) ≡ b → is_no_index (ms ++ m ∷ []) f ≡ (is_no_index ms f && (not b && true))
no_index-append ms m f b e =
    list_all-append (λ (n : Mention). not (is_same_place n.index (place.Field f))) ms (m ∷ []) ∙ ap (λ (t : Bool). is_no_index ms f && (not t && true)) e

and_true : (b : Bool) → (b && true) ≡ b
and_true true = refl
and_true false = refl

and_false : (b : Bool) → (b && false) ≡ false
and_false true = refl
and_false false = refl

-- a mention at a word adds no index
pub indexes_kept : (ms : List Mention) (a w : ℕ) (indexes : List Bool) → AreIndexes ms indexes → AreIndexes (ms ++ mention a (place.Word w) ∷ []) indexes
indexes_kept ms a w indexes are = λ f under. are f under ∙ ap (λ (b : Bool). Some (not b)) (sym (no_index-append ms (mention a (place.Word w)) f false refl ∙ and_true (is_no_index ms f)))

-- a mention at a field adds it
pub indexes_added : (ms : List Mention) (a k : ℕ) (indexes : List Bool) → k < length indexes → AreIndexes ms indexes → AreIndexes (ms ++ mention a (place.Field k) ∷ []) (slice_set indexes k true)
indexes_added ms a k indexes within are = λ f under. at f under (cases_eq k f)
  where
    at : (f : ℕ) → f < 64 → (k ≡ f) ⊎ (k ≡ f → ⊥) → slice_get (slice_set indexes k true) f ≡ Some (not (is_no_index (ms ++ mention a (place.Field k) ∷ []) f))
    at f under (inl is) =
        ap (slice_get (slice_set indexes k true)) (sym is) ∙ get-set_same indexes k true within
        ∙ ap (λ (b : Bool). Some (not b)) (sym (no_index-append ms (mention a (place.Field k)) f true (eq-eqb k f is) ∙ and_false (is_no_index ms f)))
    at f under (inr other) =
        get-set_other indexes k f true other ∙ are f under
        ∙ ap (λ (b : Bool). Some (not b)) (sym (no_index-append ms (mention a (place.Field k)) f false (ne_eqb k f other) ∙ and_true (is_no_index ms f)))

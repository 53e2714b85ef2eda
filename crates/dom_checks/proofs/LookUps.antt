-- What a name means where one more name is declared.
use Rattle.std.proofs.Common.{◌≡◌, ℕ, suc, ◌+◌, Bool, true, false, ◌||◌, is_some, List, [], ◌∷◌, ◌++◌, length, length-append, if◌then◌else◌, refl, sym, ap, ◌∙◌, cond, nat_lt, Some, None, option_map, position, arith}
use Prim.Native.Nat.compare
use Rattle.std.specs.Prelude.{Option}
use Rattle.std.specs.List.{list_any, position_or_len}
use Rattle.dom_words.specs.Names.{has_name, is_same}
use Rattle.dom_checks.specs.declared.meant.Meant.{Meant}
use Rattle.dom_checks.specs.declared.meant.Meant.TheVariants as meaning
use Rattle.dom_checks.specs.Scope.{Scope, is_param, meaning_at, meant, with_name}

-- the meaning of the first name that passes, in two lists of one length
abbrev found : (List ℕ → Bool) → List (List ℕ) → List Meant → Option Meant
found p [] ms = None
found p (n ∷ ns) [] = None
found p (n ∷ ns) (m ∷ ms) = cond (p n) (Some m) (found p ns ms)

option_map_cond : (b : Bool) (k : ℕ) → cond b (Some (suc k)) None ≡ option_map suc (cond b (Some k) None)
option_map_cond true k = refl
option_map_cond false k = refl

one_more : (k : ℕ) → 1 + k ≡ suc k
one_more k = omega arith

zero_under : (k : ℕ) → nat_lt 0 (suc k) ≡ true
zero_under k = grind arith

position_cons : (p : List ℕ → Bool) (n : List ℕ) (ns : List (List ℕ)) (b : Bool) → p n ≡ b → position p (n ∷ ns) ≡ cond b (Some 0) (option_map suc (position p ns))
position_cons p n ns true e = rw (e, zero_under (length ns)) refl
position_cons p n ns false e = rw (e, one_more, compare.suc-suc) (option_map_cond (nat_lt (position_or_len p ns) (length ns)) (position_or_len p ns))

meaning_next : (m : Meant) (ms : List Meant) (o : Option ℕ) → meaning_at (m ∷ ms) (option_map suc o) ≡ meaning_at ms o
meaning_next m ms None = refl
meaning_next m ms (Some k) = refl

found_is_cons : (p : List ℕ → Bool) (n : List ℕ) (ns : List (List ℕ)) (m : Meant) (ms : List Meant) (b : Bool) → p n ≡ b → meaning_at ms (position p ns) ≡ found p ns ms → meaning_at (m ∷ ms) (position p (n ∷ ns)) ≡ cond b (Some m) (found p ns ms)
found_is_cons p n ns m ms true e rest = rw (position_cons p n ns true e) refl
found_is_cons p n ns m ms false e rest = rw (position_cons p n ns false e) (meaning_next m ms (position p ns) ∙ rest)

found_is : (p : List ℕ → Bool) (ns : List (List ℕ)) (ms : List Meant) → length ms ≡ length ns → meaning_at ms (position p ns) ≡ found p ns ms
found_is p [] ms paired = refl
found_is p (n ∷ ns) [] paired = absurd (omega arith)
found_is p (n ∷ ns) (m ∷ ms) paired = found_is_cons p n ns m ms (p n) refl (found_is p ns ms (omega arith))

-- what is found first, else the next
abbrev or_next : Option Meant → Bool → Meant → Option Meant
or_next (Some x) b m = Some x
or_next None true m = Some m
or_next None false m = None

or_next_one : (b : Bool) (m : Meant) → cond b (Some m) None ≡ or_next None b m
or_next_one true m = refl
or_next_one false m = refl

or_next_cons : (b c : Bool) (l m : Meant) (more rest : Option Meant) → more ≡ or_next rest c m → cond b (Some l) more ≡ or_next (cond b (Some l) rest) c m
or_next_cons true c l m more rest e = refl
or_next_cons false c l m more rest e = e

found_more : (p : List ℕ → Bool) (n : List ℕ) (m : Meant) (ns : List (List ℕ)) (ms : List Meant) → length ms ≡ length ns → found p (ns ++ n ∷ []) (ms ++ m ∷ []) ≡ or_next (found p ns ms) (p n) m
found_more p n m [] [] paired = or_next_one (p n) m
found_more p n m [] (k ∷ ms) paired = absurd (omega arith)
found_more p n m (k ∷ ns) [] paired = absurd (omega arith)
found_more p n m (k ∷ ns) (l ∷ ms) paired = or_next_cons (p k) (p n) l m _ _ (found_more p n m ns ms (omega arith))

meant_more : (scope : Scope) (name : List ℕ) (m : Meant) (text : List ℕ) → length scope.meanings ≡ length scope.names → meant (with_name scope name m) text ≡ or_next (meant scope text) (is_same text name) m
meant_more scope name m text paired = one (is_param scope.param text)
  where
    p : List ℕ → Bool
    p = is_same text

    longer : length (scope.meanings ++ m ∷ []) ≡ length (scope.names ++ name ∷ [])
    longer = omega (arith, length-append scope.meanings (m ∷ []), length-append scope.names (name ∷ []))

    looked : meaning_at (scope.meanings ++ m ∷ []) (position p (scope.names ++ name ∷ [])) ≡ or_next (meaning_at scope.meanings (position p scope.names)) (is_same text name) m
    looked =
        found_is p (scope.names ++ name ∷ []) (scope.meanings ++ m ∷ []) longer
        ∙ found_more p name m scope.names scope.meanings paired
        ∙ ap (λ o. or_next o (is_same text name) m) (sym (found_is p scope.names scope.meanings paired))

    one : (b : Bool) → (if b then Some meaning.Parameter else meaning_at (scope.meanings ++ m ∷ []) (position p (scope.names ++ name ∷ []))) ≡ or_next (if b then Some meaning.Parameter else meaning_at scope.meanings (position p scope.names)) (is_same text name) m
    one true = refl
    one false = looked

-- a name that is declared keeps its meaning
pub still_meant : (scope : Scope) (name : List ℕ) (m : Meant) (text : List ℕ) (x : Meant) → length scope.meanings ≡ length scope.names → meant scope text ≡ Some x → meant (with_name scope name m) text ≡ Some x
still_meant scope name m text x paired e = meant_more scope name m text paired ∙ ap (λ o. or_next o (is_same text name) m) e

-- the new name has its own
pub newly_meant : (scope : Scope) (name : List ℕ) (m : Meant) (text : List ℕ) → length scope.meanings ≡ length scope.names → meant scope text ≡ None → is_same text name ≡ true → meant (with_name scope name m) text ≡ Some m
newly_meant scope name m text paired e same =
    meant_more scope name m text paired ∙ ap (λ o. or_next o (is_same text name) m) e ∙ ap (λ b. or_next None b m) same

-- no other name gets one
pub never_meant : (scope : Scope) (name : List ℕ) (m : Meant) (text : List ℕ) → length scope.meanings ≡ length scope.names → meant scope text ≡ None → is_same text name ≡ false → meant (with_name scope name m) text ≡ None
never_meant scope name m text paired e other =
    meant_more scope name m text paired ∙ ap (λ o. or_next o (is_same text name) m) e ∙ ap (λ b. or_next None b m) other

-- A name that is not declared is not among the names.

some_next : (b : Bool) (m : Meant) (o : Option Meant) (c : Bool) → is_some o ≡ c → is_some (cond b (Some m) o) ≡ (b || c)
some_next true m o c e = refl
some_next false m o c e = e

some_found : (p : List ℕ → Bool) (ns : List (List ℕ)) (ms : List Meant) → length ms ≡ length ns → is_some (found p ns ms) ≡ list_any p ns
some_found p [] ms paired = refl
some_found p (n ∷ ns) [] paired = absurd (omega arith)
some_found p (n ∷ ns) (m ∷ ms) paired = some_next (p n) m (found p ns ms) (list_any p ns) (some_found p ns ms (omega arith))

some_global : (b : Bool) (o : Option Meant) → is_some (if b then Some meaning.Parameter else o) ≡ false → is_some o ≡ false
some_global true o e = absurd (cc)
some_global false o e = e

pub not_declared : (scope : Scope) (name : List ℕ) → length scope.meanings ≡ length scope.names → is_some (meant scope name) ≡ false → has_name scope.names name ≡ false
not_declared scope name paired e =
    let p : List ℕ → Bool = is_same name in
    sym (some_found p scope.names scope.meanings paired)
    ∙ ap (λ (o : Option Meant). is_some o) (sym (found_is p scope.names scope.meanings paired))
    ∙ some_global (is_param scope.param name) (meaning_at scope.meanings (position p scope.names)) e

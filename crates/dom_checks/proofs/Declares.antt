-- One more global keeps what holds wherever names are looked up.
use Rattle.std.proofs.Common.{◌≡◌, ℕ, ◌+◌, ◌<◌, ◌≤◌, true, List, [], ◌∷◌, ◌++◌, length, refl, sym, ap, ◌∙◌, arith, length-append}
use Rattle.std.specs.List.{list_all}
use Rattle.std.proofs.lemmas.List.Folds.{list_all-append}
use Rattle.std.proofs.lemmas.List.Sums.{sum-map, sum_by_push}
use Rattle.dom_words.specs.declared.array.Array.{Array}
use Rattle.dom_words.specs.State.{is_length, state_words}
use Rattle.dom_ast.specs.declared.program.Length.{Length}
use Rattle.std.specs.Prelude.{Option, Some, None}
use Rattle.dom_checks.specs.declared.meant.Meant.{Meant}
use Rattle.dom_checks.specs.declared.meant.Meant.TheVariants as meaning
use Rattle.dom_checks.specs.inner.Kept.{IsKept, is_numbered}
use Rattle.dom_checks.specs.Scope.{global_meaning}

is_numbered_more : (n : ℕ) (m : Meant) → is_numbered n m ≡ true → is_numbered (n + 1) m ≡ true
is_numbered_more n (meaning.Define w) below = refl
is_numbered_more n (meaning.Scalar k) below = grind arith
is_numbered_more n (meaning.Array k) below = grind arith
is_numbered_more n meaning.Parameter below = refl

are_numbered_more : (n : ℕ) (ms : List Meant) → list_all (is_numbered n) ms ≡ true → list_all (is_numbered (n + 1)) ms ≡ true
are_numbered_more n [] below = refl
are_numbered_more n (m ∷ ms) below = grind (arith, is_numbered_more n m, are_numbered_more n ms)

is_numbered_next : (n : ℕ) (l : Option Length) → is_numbered (n + 1) (global_meaning n l) ≡ true
is_numbered_next n None = grind arith
is_numbered_next n (Some l) = grind arith

state_words_more : (arrays : List Array) (array : Array) → state_words (arrays ++ array ∷ []) ≡ state_words arrays + array.length
state_words_more arrays array =
    let extent = λ (a : Array). a.length in
    sum-map extent (arrays ++ array ∷ []) ∙ sum_by_push extent arrays array ∙ ap (λ n. n + array.length) (sym (sum-map extent arrays))

pub kept_more : (fields names : List (List ℕ)) (meanings : List Meant) (arrays : List Array) (name : List ℕ) (words : ℕ) (l : Option Length) (array : Array) → IsKept fields names meanings arrays words → length arrays < 32 → is_length array.length ≡ true → state_words arrays + array.length ≤ 1048576 → IsKept fields (names ++ name ∷ []) (meanings ++ global_meaning (length arrays) l ∷ []) (arrays ++ array ∷ []) (words + array.length)
kept_more fields names meanings arrays name words l array kept room size few =
    record {
      paired = omega (arith, length-append meanings (global_meaning (length arrays) l ∷ []), length-append names (name ∷ []), kept.paired);
      numbered = rw (length-append arrays (array ∷ []), list_all-append) (grind (arith, are_numbered_more (length arrays) meanings kept.numbered, is_numbered_next (length arrays) l));
      few_fields = kept.few_fields;
      few_arrays = omega (arith, length-append arrays (array ∷ []));
      lengths = rw list_all-append (grind (arith, kept.lengths, size));
      summed = omega (arith, state_words_more arrays array);
      few_words = omega arith;
    }

-- the same of lists that are these with one more at their ends
pub kept_as : (fields names names_now : List (List ℕ)) (meanings meanings_now : List Meant) (arrays arrays_now : List Array) (name : List ℕ) (words : ℕ) (l : Option Length) (m : Meant) (array : Array)
    → names_now ≡ names ++ name ∷ [] → meanings_now ≡ meanings ++ m ∷ [] → arrays_now ≡ arrays ++ array ∷ [] → m ≡ global_meaning (length arrays) l
    → IsKept fields names meanings arrays words → length arrays < 32 → is_length array.length ≡ true → state_words arrays + array.length ≤ 1048576 → IsKept fields names_now meanings_now arrays_now (words + array.length)
kept_as fields names names_now meanings meanings_now arrays arrays_now name words l m array more_names more_meanings more_arrays meant kept room size few =
    rw (more_names, more_meanings, more_arrays, meant) (kept_more fields names meanings arrays name words l array kept room size few)

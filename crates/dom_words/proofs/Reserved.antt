-- A reserved word is one of the language's own or a forbidden one.
use Rattle.std.proofs.Common.{◌≡◌, ℕ, Bool, true, false, ◌||◌, List, sym, ap, ◌∙◌}
use Rattle.std.proofs.lemmas.List.Folds.{list_any-append}
use Rattle.dom_words.specs.Names.{has_name, is_same}
use Rattle.dom_words.specs.Spelling.{forbidden_words, own_words, reserved}

either : (text : List ℕ) (own : Bool) → has_name own_words text ≡ own → has_name reserved text ≡ (own || has_name forbidden_words text)
unfolding reserved
either text own e = list_any-append (is_same text) own_words forbidden_words ∙ ap (λ (b : Bool). b || has_name forbidden_words text) e

pub own_is_reserved : (text : List ℕ) (own : Bool) → own ≡ has_name own_words text → own ≡ true → own ≡ has_name reserved text
own_is_reserved text own e is = is ∙ sym (either text true (sym e ∙ is))

pub forbidden_is_reserved : (text : List ℕ) (own forbidden : Bool) → own ≡ has_name own_words text → own ≡ false → forbidden ≡ has_name forbidden_words text → forbidden ≡ has_name reserved text
forbidden_is_reserved text own forbidden e none is = is ∙ sym (either text false (sym e ∙ none))

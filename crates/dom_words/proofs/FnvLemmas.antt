-- The hash of some words, word by word.
use Rattle.std.proofs.Common.{◌≡◌, ℕ, List, [], ◌∷◌, ◌∙◌, refl, fold}
use Rattle.std.proofs.lemmas.List.Sums.{fold-append}
use Rattle.std.specs.Int.{to_le_bytes, w32}
use Rattle.dom_words.specs.Fnv.{fnv_step, bytes_of}

-- the state after one word
abbrev pub word_step : ℕ → ℕ → ℕ
word_step state word = fold fnv_step state (to_le_bytes w32 word)

pub fold-bytes_of : (state : ℕ) (words : List ℕ) → fold fnv_step state (bytes_of words) ≡ fold word_step state words
fold-bytes_of state [] = refl
fold-bytes_of state (w ∷ ws) =
    fold-append fnv_step state (to_le_bytes w32 w) (bytes_of ws) ∙ fold-bytes_of (word_step state w) ws

pub ruleset word_by_word = fold-bytes_of

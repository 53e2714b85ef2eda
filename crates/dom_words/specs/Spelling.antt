-- How a name is spelled.
use Rattle.std.specs.Prelude.{ℕ, Bool, false, not, ◌&&◌, ◌||◌, ◌==◌, List, [], ◌∷◌, ◌++◌, codes}
use Rattle.std.specs.Char.{is_ascii_alphabetic, is_ascii_alphanumeric}
use Rattle.std.specs.List.{list_all}
use Rattle.dom_words.specs.Names.{has_name}

-- a letter or `_` (the byte 95)
abbrev pub is_word_start : ℕ → Bool
is_word_start b = is_ascii_alphabetic b || b == 95

-- a letter, a digit or `_`
abbrev pub is_word_byte : ℕ → Bool
is_word_byte b = is_ascii_alphanumeric b || b == 95

-- a letter or `_`, and then letters, digits and `_`
abbrev pub is_word : List ℕ → Bool
is_word [] = false
is_word (b ∷ bs) = is_word_start b && list_all is_word_byte bs

-- the words that the language itself uses
abbrev pub own_words : List (List ℕ)
own_words = codes "struct" ∷ codes "int" ∷ codes "void" ∷ codes "if" ∷ codes "else" ∷ codes "define" ∷ []

-- the words of C that it leaves out
abbrev pub forbidden_words : List (List ℕ)
forbidden_words =
    codes "while" ∷ codes "for" ∷ codes "do" ∷ codes "switch" ∷ codes "case" ∷ codes "default" ∷ codes "goto" ∷ codes "break"
    ∷ codes "continue" ∷ codes "return" ∷ codes "sizeof" ∷ codes "char" ∷ codes "short" ∷ codes "long" ∷ codes "unsigned"
    ∷ codes "signed" ∷ codes "float" ∷ codes "double" ∷ codes "enum" ∷ codes "union" ∷ codes "typedef" ∷ codes "static"
    ∷ codes "const" ∷ codes "volatile" ∷ codes "include" ∷ []

-- no name is one of these
unfoldable pub reserved : List (List ℕ)
reserved = own_words ++ forbidden_words

-- a name is any other word
abbrev pub is_name : List ℕ → Bool
is_name text = is_word text && not (has_name reserved text)

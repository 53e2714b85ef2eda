-- How long a text is.
use Rattle.std.specs.Prelude.{ℕ, ◌+◌, List, length}
use Rattle.std.specs.List.{sum_by}
use Rattle.dom_words.specs.declared.array.Array.{Array}
use Rattle.banzai_config.specs.Parts.{PartsForm}

abbrev pub array_name_size : Array → ℕ
array_name_size a = length a.name

abbrev pub name_size : List ℕ → ℕ
name_size name = length name

-- how many bytes the names of fields and arrays have together
abbrev pub names_size : PartsForm → ℕ
names_size p = sum_by name_size p.fields + sum_by array_name_size p.arrays

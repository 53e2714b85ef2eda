-- What is known of the names in every well-formed program.
use Rattle.std.specs.Prelude.{◌≡◌, ℕ, ◌+◌, ◌≤◌, true, List, length, map}
use Rattle.std.specs.List.{IsDistinct, list_all, sum_by}
use Rattle.dom_words.specs.Names.{is_same}
use Rattle.dom_words.specs.Spelling.{is_name}
use Rattle.dom_ast.specs.Resolved.{CheckedForm}

abbrev pub array_names : CheckedForm → List (List ℕ)
array_names program = map (λ array. array.name) program.arrays

-- each field and each array has a name of its own among its kind, and all these names together are no longer than the text
pub record IsWellNamed (text : List ℕ) (program : CheckedForm) : Type 0 where
  pub fields : list_all is_name program.fields ≡ true
  pub arrays : list_all is_name (array_names program) ≡ true
  pub fields_apart : IsDistinct is_same program.fields
  pub arrays_apart : IsDistinct is_same (array_names program)
  pub fit : sum_by length program.fields + sum_by length (array_names program) ≤ length text

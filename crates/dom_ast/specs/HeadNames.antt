-- The names of fields and arrays.
use Rattle.std.specs.Prelude.{ℕ, List, [], ◌∷◌, map, flat_map}
use Rattle.dom_ast.specs.declared.program.Head.{Head}
use Rattle.dom_ast.specs.declared.program.Head.TheVariants as head

-- those that a head declares: the struct its fields, and a global itself
abbrev pub head_names : Head → List (List ℕ)
head_names (head.Define p name w) = []
head_names (head.Struct p tag fields) = map (λ f. f.1) fields
head_names (head.Global p name l i) = name ∷ []

-- those that all heads declare, in order
abbrev pub declared_names : List Head → List (List ℕ)
declared_names heads = flat_map head_names heads

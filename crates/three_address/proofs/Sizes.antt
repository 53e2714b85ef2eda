-- How many statements there are.
use Rattle.std.proofs.Common.{◌≡◌, ◌+◌, List, [], ◌∷◌, map, sum, refl, sym, ap, ◌∙◌}
use Rattle.std.proofs.lemmas.List.Sums.{sum_by-cons}
use Rattle.dom_ast.specs.Named.{NamedForm, item_nodes}
use Rattle.dom_ast.specs.PartSize.{part_nodes, parts_nodes}
use Rattle.dom_ast.specs.Resolved.{PartForm, parts_of}

pub items_nodes_cons : (item : NamedForm) (items : List NamedForm) → sum (map item_nodes (item ∷ items)) ≡ item_nodes item + sum (map item_nodes items)
items_nodes_cons item items = sum_by-cons (λ n. n) (item_nodes item) (map item_nodes items)

pub outputs_nodes : (ps : List PartForm) → parts_nodes (parts_of ps) ≡ sum (map part_nodes ps)
outputs_nodes [] = refl
outputs_nodes (p ∷ ps) = ap (λ n. part_nodes p + n) (outputs_nodes ps) ∙ sym (sum_by-cons (λ n. n) (part_nodes p) (map part_nodes ps))

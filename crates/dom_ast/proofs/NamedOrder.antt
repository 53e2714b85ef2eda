-- Ranges and order of a list with one name for each value, taken together item by item.
use Rattle.std.proofs.Common.{◌≡◌, ℕ, Bool, true, false, not, ◌&&◌, nat_lt, List, [], ◌∷◌, ◌++◌, map, refl}
use Rattle.std.proofs.lemmas.Bool.{and_parts, and_from}
use Rattle.dom_words.specs.Order.{Access, are_ordered, is_read, is_read_at, is_written}
use Rattle.dom_ast.specs.Resolved.{PartForm}
use Rattle.dom_ast.specs.Kept.{part_within}
use Rattle.dom_ast.specs.Named.{NamedForm, read, make, write, are_named, is_same_operand, item_event, named_ranges, operand_within}

-- after items that make these values, with these reads and writes
abbrev pub named_in_order : ℕ → ℕ → List Bool → List (Access PartForm) → List ℕ → List NamedForm → Bool
named_in_order fields arrays before reads writes [] = true
named_in_order fields arrays before reads writes (read a i ∷ items) =
    nat_lt a arrays
    && (operand_within fields before i
    && (not (is_read reads a)
    && named_in_order fields arrays (before ++ true ∷ []) (record { array = a; index = i } ∷ reads) writes items))
named_in_order fields arrays before reads writes (make p ∷ items) =
    part_within (named_ranges fields before) p && named_in_order fields arrays (before ++ true ∷ []) reads writes items
named_in_order fields arrays before reads writes (write a i p ∷ items) =
    nat_lt a arrays
    && (operand_within fields before i
    && (operand_within fields before p
    && (is_read_at is_same_operand reads a i
    && (not (is_written writes a)
    && named_in_order fields arrays (before ++ false ∷ []) reads (a ∷ writes) items))))

module _ (fields arrays : ℕ) where
  pub in_order_parts : (before : List Bool) (reads : List (Access PartForm)) (writes : List ℕ) (items : List NamedForm)
      → named_in_order fields arrays before reads writes items ≡ true
      → (are_named fields arrays before items ≡ true) × (are_ordered is_same_operand reads writes (map item_event items) ≡ true)
  in_order_parts before reads writes [] h = (refl, refl)
  in_order_parts before reads writes (read a i ∷ items) h =
      let x = and_parts (nat_lt a arrays) _ h in
      let y = and_parts (operand_within fields before i) _ x.1 in
      let z = and_parts (not (is_read reads a)) _ y.1 in
      let rest = in_order_parts (before ++ true ∷ []) (record { array = a; index = i } ∷ reads) writes items z.1 in
      (and_from _ _ (and_from _ _ x.0 y.0) rest.0, and_from _ _ z.0 rest.1)
  in_order_parts before reads writes (make p ∷ items) h =
      let x = and_parts (part_within (named_ranges fields before) p) _ h in
      let rest = in_order_parts (before ++ true ∷ []) reads writes items x.1 in
      (and_from _ _ x.0 rest.0, rest.1)
  in_order_parts before reads writes (write a i p ∷ items) h =
      let x = and_parts (nat_lt a arrays) _ h in
      let y = and_parts (operand_within fields before i) _ x.1 in
      let z = and_parts (operand_within fields before p) _ y.1 in
      let v = and_parts (is_read_at is_same_operand reads a i) _ z.1 in
      let w = and_parts (not (is_written writes a)) _ v.1 in
      let rest = in_order_parts (before ++ false ∷ []) reads (a ∷ writes) items w.1 in
      (and_from _ _ (and_from _ _ x.0 (and_from _ _ y.0 z.0)) rest.0, and_from _ _ (and_from _ _ v.0 w.0) rest.1)

  pub in_order_from : (before : List Bool) (reads : List (Access PartForm)) (writes : List ℕ) (items : List NamedForm)
      → are_named fields arrays before items ≡ true → are_ordered is_same_operand reads writes (map item_event items) ≡ true
      → named_in_order fields arrays before reads writes items ≡ true
  in_order_from before reads writes [] g h = refl
  in_order_from before reads writes (read a i ∷ items) g h =
      let x = and_parts (nat_lt a arrays && operand_within fields before i) _ g in
      let y = and_parts (nat_lt a arrays) (operand_within fields before i) x.0 in
      let z = and_parts (not (is_read reads a)) _ h in
      and_from _ _ y.0 (and_from _ _ y.1 (and_from _ _ z.0 (in_order_from (before ++ true ∷ []) (record { array = a; index = i } ∷ reads) writes items x.1 z.1)))
  in_order_from before reads writes (make p ∷ items) g h =
      let x = and_parts (part_within (named_ranges fields before) p) _ g in
      and_from _ _ x.0 (in_order_from (before ++ true ∷ []) reads writes items x.1 h)
  in_order_from before reads writes (write a i p ∷ items) g h =
      let x = and_parts (nat_lt a arrays && (operand_within fields before i && operand_within fields before p)) _ g in
      let y = and_parts (nat_lt a arrays) (operand_within fields before i && operand_within fields before p) x.0 in
      let o = and_parts (operand_within fields before i) (operand_within fields before p) y.1 in
      let z = and_parts (is_read_at is_same_operand reads a i && not (is_written writes a)) _ h in
      let w = and_parts (is_read_at is_same_operand reads a i) (not (is_written writes a)) z.0 in
      and_from _ _ y.0 (and_from _ _ o.0 (and_from _ _ o.1 (and_from _ _ w.0 (and_from _ _ w.1 (in_order_from (before ++ false ∷ []) reads (a ∷ writes) items x.1 z.1)))))

use Rattle.std.proofs.Common.{◌≡◌, ◌+◌, [], ◌∷◌, ◌++◌, length, map, take}
use Rattle.std.specs.List.{filter}
use Rattle.codelets.specs.ByRows.{linked_by}
use Rattle.codelets.specs.Linked.{class_of, is_first}
use Rattle.codelets.proofs.pieces.by_number.Given as goal

abbrev pub invariant-loop-a : goal.invariant-loop-a
invariant-loop-a l = l.pieces ≡ map (class_of (linked_by l.flat l.graph)) (filter (is_first (linked_by l.flat l.graph)) (take l.a-index l.numbers))

abbrev pub invariant-loop-t : goal.invariant-loop-t
invariant-loop-t l = l.pieces ≡ map (class_of (linked_by l.flat l.graph)) (filter (is_first (linked_by l.flat l.graph)) l.numbers) ++ map (λ a. (length l.flat.lines + a) ∷ []) (take l.t-index l.twins)

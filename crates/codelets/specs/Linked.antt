-- A statement list with its reach: its classes, their inner values, and which of these get twins.
use Rattle.std.specs.Prelude.{◌≡◌, ℕ, ◌+◌, Bool, true, false, not, ◌&&◌, ◌||◌, nat_lt, List, [], ◌∷◌, length, Option, Some, None, slice_get, if◌then◌else◌}
use Rattle.std.specs.List.{list_any, filter, range_with_len}
use Rattle.dom_flat.specs.declared.line.Operand.{Operand}
use Rattle.dom_flat.specs.declared.line.Line.{Line}
use Rattle.dom_flat.specs.Lines.{is_flank, operands_of, stores, uses}
use Rattle.dom_flat.specs.Kept.{are_after, are_flanked, are_known, entered, lines_within, values_of}
use Rattle.dep_graph.specs.Leads.{leads}
use Rattle.dep_graph.specs.Walk.{IsReach}

-- a statement list after so many fields and with so many arrays, and whether one statement reaches another
pub record Linked : Type 0 where
  pub fields : ℕ
  pub arrays : ℕ
  pub lines : List Line
  pub outputs : List Operand
  pub reach : ℕ → ℕ → Bool

-- what holds of one
pub record IsLinked (P : Linked) : Type 0 where
  pub ranges : lines_within P.arrays P.lines ≡ true
  pub order : are_after (entered P.fields) P.lines ≡ true
  pub flanks : are_flanked [] [] P.lines ≡ true
  pub known_outputs : are_known (values_of P.fields P.lines) P.outputs ≡ true
  pub reaching : IsReach (leads P.fields P.lines) (length P.lines) P.reach

abbrev pub holds_for : (Line → Bool) → Option Line → Bool
holds_for f None = false
holds_for f (Some l) = f l

abbrev pub uses_value : ℕ → Line → Bool
uses_value v l = uses v (operands_of l)

-- how many statements there are
abbrev pub count : Linked → ℕ
count P = length P.lines

abbrev pub numbers : Linked → List ℕ
numbers P = range_with_len 0 (count P)

-- statement a is there and is so
abbrev pub is_so : Linked → (Line → Bool) → ℕ → Bool
is_so P f a = holds_for f (slice_get P.lines a)

abbrev pub together : Linked → ℕ → ℕ → Bool
together P a b = P.reach a b && P.reach b a

abbrev pub class_of : Linked → ℕ → List ℕ
class_of P a = filter (together P a) (numbers P)

-- the least statement of its class
abbrev pub is_first : Linked → ℕ → Bool
is_first P a = not (list_any (λ b. nat_lt b a && together P a b) (numbers P))

abbrev pub is_stateful : Linked → ℕ → Bool
is_stateful P a = list_any (is_so P is_flank) (class_of P a)

-- a write flank of its class stores the value of a
abbrev pub is_written : Linked → ℕ → Bool
is_written P a = list_any (is_so P (stores (P.fields + a))) (class_of P a)

-- the value of a is made in a class with flanks, is read by none of them and written by none
abbrev pub is_inner : Linked → ℕ → Bool
is_inner P a = is_stateful P a && (not (is_so P is_flank a) && not (is_written P a))

-- an output or a statement outside its class uses the value of a
abbrev pub is_used_outside : Linked → ℕ → Bool
is_used_outside P a = uses (P.fields + a) P.outputs || list_any (λ b. not (together P a b) && is_so P (uses_value (P.fields + a)) b) (numbers P)

-- a's twin before later twins: an inner value has one where it is used outside its class or a twin's statement uses it
abbrev pub with_twin : Linked → ℕ → List ℕ → List ℕ
with_twin P a later = if is_inner P a && (is_used_outside P a || list_any (is_so P (uses_value (P.fields + a))) later) then a ∷ later else later

abbrev pub twins_in : Linked → List ℕ → List ℕ
twins_in P [] = []
twins_in P (a ∷ rest) = with_twin P a (twins_in P rest)

-- the statements that have twins
abbrev pub twins_of : Linked → List ℕ
twins_of P = twins_in P (numbers P)

-- A statement list cut into codelets: their statements with twins, what they use, their levels and their order.
use Rattle.std.specs.Prelude.{ℕ, ◌+◌, ◌-◌, ◌*◌, Bool, not, ◌&&◌, nat_eq, nat_lt, List, [], ◌∷◌, ◌++◌, map, length, Option, Some, None, slice_get, slice_index_or, if◌then◌else◌}
use Rattle.std.specs.List.{list_any, filter, flat_map, range_with_len}
use Rattle.dom_flat.specs.declared.line.Operand.{Operand}
use Rattle.dom_flat.specs.declared.line.Operand.TheVariants.{Const, Value}
use Rattle.dom_flat.specs.declared.line.Line.{Line}
use Rattle.dom_flat.specs.Lines.{is_flank, with_operands}
use Rattle.codelets.specs.Lists.{has, level_by, max_of, meet}
use Rattle.codelets.specs.Linked.{Linked, class_of, count, holds_for, is_first, is_so, numbers, together, twins_of, uses_value}

-- a statement list, the statements that have twins, and the codelets by their least number, each as its statement numbers
pub record Cut : Type 0 where
  pub linked : Linked
  pub twins : List ℕ
  pub all : List (List ℕ)

-- the classes, and each twin by itself; the twin of statement a has the number n + a, where there are n statements
abbrev pub by_number : Linked → List ℕ → List (List ℕ)
by_number P twins = map (class_of P) (filter (is_first P) (numbers P)) ++ map (λ a. (count P + a) ∷ []) twins

abbrev pub cut : Linked → Cut
cut P = record { linked = P; twins = twins_of P; all = by_number P (twins_of P) }

abbrev pub option_line : (Line → Line) → Option Line → Option Line
option_line f None = None
option_line f (Some l) = Some (f l)

-- an operand as users outside its class have it: the twin's value, where there is a twin
abbrev pub outer : Cut → Operand → Operand
outer D (Const w) = Const w
outer D (Value v) = if nat_lt v D.linked.fields then Value v else (if has D.twins (v - D.linked.fields) then Value (v + count D.linked) else Value v)

-- an operand as statement b has it: within its class as it is
abbrev pub seen_by : Cut → ℕ → Operand → Operand
seen_by D b (Const w) = Const w
seen_by D b (Value v) = if nat_lt v D.linked.fields then Value v else (if together D.linked (v - D.linked.fields) b then Value v else outer D (Value v))

-- the statement with a number, twins included
abbrev pub line_of : Cut → ℕ → Option Line
line_of D b =
    if nat_lt b (count D.linked) then option_line (with_operands (seen_by D b)) (slice_get D.linked.lines b)
    else (if has D.twins (b - count D.linked) then option_line (with_operands (outer D)) (slice_get D.linked.lines (b - count D.linked)) else None)

-- the statements by number, twins included; None where a statement has no twin
abbrev pub lines_by_number : Cut → List (Option Line)
lines_by_number D = map (line_of D) (range_with_len 0 (2 * count D.linked))

-- the statement with a number uses a value
abbrev pub line_uses : Cut → ℕ → ℕ → Bool
line_uses D v b = holds_for (uses_value v) (line_of D b)

-- a statement of codelet c uses a value that another codelet d makes
abbrev pub uses_codelet : Cut → List ℕ → List ℕ → Bool
uses_codelet D c d = not (meet c d) && list_any (λ b. list_any (λ a. line_uses D (D.linked.fields + a) b) d) c

-- the places of the codelets that codelet c uses in a list of codelets
abbrev pub used_in : Cut → List (List ℕ) → List ℕ → List ℕ
used_in D list c = filter (λ k. uses_codelet D c (slice_index_or list k [])) (range_with_len 0 (length list))

-- more uses than any chain of codelets has
abbrev pub longest : Cut → ℕ
longest D = (count D.linked + 1) * (count D.linked + 1)

-- 1, or one more than the greatest level of the codelets that it uses
abbrev pub level : Cut → List ℕ → ℕ
level D c = level_by (uses_codelet D) D.all (longest D) c

abbrev pub depth : Cut → ℕ
depth D = max_of (map (level D) D.all)

abbrev pub at_level : Cut → ℕ → List (List ℕ)
at_level D l = filter (λ c. nat_eq (level D c) l) D.all

-- the codelets by level, and on a level by least number
abbrev pub in_order : Cut → List (List ℕ)
in_order D = flat_map (at_level D) (range_with_len 1 (depth D))

abbrev pub has_flank : Cut → List ℕ → Bool
has_flank D c = list_any (is_so D.linked is_flank) c

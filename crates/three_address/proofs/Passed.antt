-- What holds of the statement list.
use Rattle.std.proofs.Common.{◌≡◌, ℕ, ◌+◌, ◌≤◌, true, Bool, false, List, [], length, map, refl, sym, ap, ◌∙◌, subst, arith}
use Rattle.std.proofs.lemmas.List.{length-map, length-replicate}
use Rattle.dom_ast.specs.Named.{NamedForm, are_in_order, are_named, are_outputs, makes_of}
use Rattle.dom_ast.specs.Resolved.{PartForm}
use Rattle.dom_flat.specs.declared.line.Operand.{Operand}
use Rattle.dom_flat.specs.declared.line.Line.{Line}
use Rattle.dom_flat.specs.Kept.{are_after, are_below, are_flanked, are_known, entered, have_small_moduli, lines_within, values_of}
use Rattle.dom_flat.proofs.Order.{AreEarlier}
use Rattle.dom_flat.proofs.Facts.{all_known_below, are_earlier}
use Rattle.three_address.specs.Flattening.{AllFlattened}
use Rattle.three_address.specs.inner.Numbering.{all_of, lines_below, number_in, numbers_from}
use Rattle.three_address.specs.Needs.{count, kept, line_renumbered, needed, new_number, renumbered}
use Rattle.three_address.specs.Statements.{all_statements, draft, needed_only, numbered, statements, with_items}
use Rattle.three_address.proofs.Flanks.{Whole, outputs_count, whole}
use Rattle.three_address.proofs.Grown.{length_values}
use Rattle.three_address.proofs.Kept.{Left, held_start, kept_moduli, kept_within, left_ordered}
use Rattle.three_address.proofs.KeptFlanks.{kept_flanks}
use Rattle.three_address.proofs.Numbers.{count_kept, earlier_below, kept_same, length_needed, length_numbers, number_same, operands_same}

-- what was found is the table's list with the definition's numbers
pub lines_numbered : (fields : ℕ) (marks : List Bool) (numbers : List ℕ) (lines : List Line) → numbers ≡ numbers_from fields marks → length marks ≡ length lines → lines_below (fields + length lines) lines ≡ true
    → map (line_renumbered (number_in fields numbers)) (kept marks lines) ≡ map (line_renumbered (new_number fields marks)) (kept marks lines)
lines_numbered fields marks numbers lines e n h =
    ap (λ (t : List ℕ). map (line_renumbered (number_in fields t)) (kept marks lines)) e
    ∙ kept_same (number_in fields (numbers_from fields marks)) (new_number fields marks) (fields + length lines) (λ v b. number_same fields marks v (omega arith)) marks lines h

pub outputs_numbered : (fields : ℕ) (marks : List Bool) (numbers : List ℕ) (lines : List Line) (outputs : List Operand) → numbers ≡ numbers_from fields marks → length marks ≡ length lines → are_below (fields + length lines) outputs ≡ true
    → map (renumbered (number_in fields numbers)) outputs ≡ map (renumbered (new_number fields marks)) outputs
outputs_numbered fields marks numbers lines outputs e n h =
    ap (λ (t : List ℕ). map (renumbered (number_in fields t)) outputs) e
    ∙ operands_same (number_in fields (numbers_from fields marks)) (new_number fields marks) (fields + length lines) (λ v b. number_same fields marks v (omega arith)) outputs h

pub numbers_length : (fields : ℕ) (marks : List Bool) (numbers : List ℕ) (n : ℕ) → numbers ≡ numbers_from fields marks → length marks ≡ n → length numbers ≡ n
numbers_length fields marks numbers n e m = ap length e ∙ length_numbers fields marks ∙ m

-- statements that use earlier values use values below the end
pub order_below : (fields : ℕ) (lines : List Line) → are_after (entered fields) lines ≡ true → lines_below (fields + length lines) lines ≡ true
order_below fields lines h =
    earlier_below fields (fields + length lines) lines (omega arith) (subst (λ (n : ℕ). AreEarlier n lines) (length-replicate fields true) (are_earlier (entered fields) lines h))

pub marks_length : (fields : ℕ) (lines : List Line) (outputs : List Operand) (marks : List Bool) → marks ≡ needed lines outputs fields lines → length marks ≡ length lines
marks_length fields lines outputs marks found = ap length found ∙ length_needed lines outputs fields lines

-- as many statements are kept as there are marks
pub needed_count : (fields : ℕ) (lines : List Line) (outputs : List Operand) (marks : List Bool) → marks ≡ needed lines outputs fields lines → count marks ≡ length (needed_only fields (all_of lines outputs)).lines
needed_count fields lines outputs marks found =
    sym (count_kept marks lines (marks_length fields lines outputs marks found))
    ∙ sym (length-map (kept marks lines) (line_renumbered (new_number fields marks)))
    ∙ ap (λ (ms : List Bool). length (numbered fields ms (all_of lines outputs)).lines) found

pub numbered_needed : (fields : ℕ) (lines : List Line) (outputs : List Operand) (marks : List Bool) → marks ≡ needed lines outputs fields lines → numbered fields marks (all_of lines outputs) ≡ needed_only fields (all_of lines outputs)
numbered_needed fields lines outputs marks found =
    ap (λ (ms : List Bool). numbered fields ms (all_of lines outputs)) found

pub numbered_lines : (fields : ℕ) (lines all : List Line) (outputs : List Operand) (marks : List Bool) → all ≡ (numbered fields marks (all_of lines outputs)).lines → marks ≡ needed lines outputs fields lines → all ≡ (needed_only fields (all_of lines outputs)).lines
numbered_lines fields lines all outputs marks e found =
    e ∙ ap (λ (x : AllFlattened). x.lines) (numbered_needed fields lines outputs marks found)

pub numbered_outputs : (fields : ℕ) (lines : List Line) (outputs all : List Operand) (marks : List Bool) → all ≡ (numbered fields marks (all_of lines outputs)).operands → marks ≡ needed lines outputs fields lines → all ≡ (needed_only fields (all_of lines outputs)).operands
numbered_outputs fields lines outputs all marks e found =
    e ∙ ap (λ (x : AllFlattened). x.operands) (numbered_needed fields lines outputs marks found)

pub numbered_few : (fields : ℕ) (lines all : List Line) (outputs : List Operand) (marks : List Bool) (n : ℕ) → all ≡ (numbered fields marks (all_of lines outputs)).lines → marks ≡ needed lines outputs fields lines → n ≡ count marks → n ≤ 512 → length all ≤ 512
numbered_few fields lines all outputs marks n e found c few =
    let size = needed_count fields lines outputs marks found in
    let same = ap length (numbered_lines fields lines all outputs marks e found) in
    omega arith

module _ (fields arrays : ℕ) (items : List NamedForm) (outputs : List PartForm) where
  -- these are all statements of items and outputs
  pub record Made (lines : List Line) (operands : List Operand) : Type 0 where
    pub lines_are : lines ≡ (all_statements fields items outputs).lines
    pub operands_are : operands ≡ (all_statements fields items outputs).operands
    pub named : are_named fields arrays [] items ≡ true
    pub in_order : are_in_order items ≡ true
    pub outs : are_outputs fields (makes_of items) outputs ≡ true

  module _ (lines : List Line) (operands : List Operand) (m : Made lines operands) where
    pub all_are : all_of lines operands ≡ all_statements fields items outputs
    all_are = ap (λ (ls : List Line). all_of ls operands) m.lines_are ∙ ap (all_of (all_statements fields items outputs).lines) m.operands_are

    pub whole_of : Whole fields arrays (all_of lines operands)
    whole_of = subst (Whole fields arrays) (sym all_are) (whole fields arrays items outputs m.named m.in_order m.outs)

    pub made_ranges : lines_within arrays lines ≡ true
    made_ranges = whole_of.ranges

    pub made_order : are_after (entered fields) lines ≡ true
    made_order = whole_of.order

    pub made_outputs : are_below (fields + length lines) operands ≡ true
    made_outputs = subst (λ (n : ℕ). are_below n operands ≡ true) (length_values fields lines) (all_known_below (values_of fields lines) operands whole_of.outputs)

    pub made_only : needed_only fields (all_of lines operands) ≡ statements fields items outputs
    made_only = ap (needed_only fields) all_are

-- what a statement list is to keep
module _ (fields arrays : ℕ) (items : List NamedForm) (outputs : List PartForm) (named : are_named fields arrays [] items ≡ true) (in_order : are_in_order items ≡ true) (outs : are_outputs fields (makes_of items) outputs ≡ true) where
  abbrev marks : List Bool
  marks = needed (all_statements fields items outputs).lines (all_statements fields items outputs).operands fields (all_statements fields items outputs).lines

  whole_all : Whole fields arrays (all_statements fields items outputs)
  whole_all = whole fields arrays items outputs named in_order outs

  left : Left fields (all_statements fields items outputs).lines (all_statements fields items outputs).operands marks (entered fields) (entered fields) fields (all_statements fields items outputs).lines
  left =
      let size = length-replicate fields true in
      left_ordered fields (all_statements fields items outputs).lines (all_statements fields items outputs).operands marks fields (all_statements fields items outputs).lines (entered fields) (entered fields)
      (record { place = 0; is = let e : fields ≡ fields + 0 = omega arith in e; rest = refl }) (sym size) (held_start fields (all_statements fields items outputs).lines (all_statements fields items outputs).operands marks Bool false _ (entered fields) size) whole_all.order whole_all.outputs

  pub statements_order : are_after (entered fields) (statements fields items outputs).lines ≡ true
  statements_order = left.order

  pub statements_outputs : are_known (values_of fields (statements fields items outputs).lines) (statements fields items outputs).operands ≡ true
  statements_outputs = left.outs

  pub statements_ranges : lines_within arrays (statements fields items outputs).lines ≡ true
  statements_ranges = kept_within arrays (new_number fields marks) marks (all_statements fields items outputs).lines whole_all.ranges

  pub statements_moduli : have_small_moduli (statements fields items outputs).lines ≡ true
  statements_moduli = kept_moduli (new_number fields marks) marks (all_statements fields items outputs).lines whole_all.moduli

  pub statements_flanks : are_flanked [] [] (statements fields items outputs).lines ≡ true
  statements_flanks = kept_flanks fields (all_statements fields items outputs).lines (all_statements fields items outputs).operands marks whole_all.flanks

  pub statements_outs : length (statements fields items outputs).operands ≡ length outputs
  statements_outs =
      let d = with_items fields (draft [] []) items in
      length-map (all_statements fields items outputs).operands (renumbered (new_number fields marks)) ∙ outputs_count fields d.values d.lines outputs

-- a statement list of a program, where its parts were read by calls
pub record IsList (lines : List Line) (operands : List Operand) (fields arrays : ℕ) (items : List NamedForm) (outputs : List PartForm) : Type 0 where
  pub n : ℕ
  pub xs : List NamedForm
  pub ys : List PartForm
  pub count : n ≡ fields
  pub xs_are : xs ≡ items
  pub ys_are : ys ≡ outputs
  pub lines_are : lines ≡ (statements n xs ys).lines
  pub operands_are : operands ≡ (statements n xs ys).operands
  pub named : are_named fields arrays [] items ≡ true
  pub in_order : are_in_order items ≡ true
  pub outs : are_outputs fields (makes_of items) outputs ≡ true

module _ (lines : List Line) (operands : List Operand) (fields arrays : ℕ) (items : List NamedForm) (outputs : List PartForm) (l : IsList lines operands fields arrays items outputs) where
  same : statements l.n l.xs l.ys ≡ statements fields items outputs
  same =
      ap (λ (k : ℕ). statements k l.xs l.ys) l.count ∙ ap (λ (x : List NamedForm). statements fields x l.ys) l.xs_are ∙ ap (statements fields items) l.ys_are

  pub list_lines : lines ≡ (statements fields items outputs).lines
  list_lines = l.lines_are ∙ ap (λ (x : AllFlattened). x.lines) same

  pub list_operands : operands ≡ (statements fields items outputs).operands
  list_operands = l.operands_are ∙ ap (λ (x : AllFlattened). x.operands) same

  pub list_order : are_after (entered fields) lines ≡ true
  list_order = subst (λ (ls : List Line). are_after (entered fields) ls ≡ true) (sym list_lines) (statements_order fields arrays items outputs l.named l.in_order l.outs)

  pub list_ranges : lines_within arrays lines ≡ true
  list_ranges = subst (λ (ls : List Line). lines_within arrays ls ≡ true) (sym list_lines) (statements_ranges fields arrays items outputs l.named l.in_order l.outs)

  pub list_moduli : have_small_moduli lines ≡ true
  list_moduli = subst (λ (ls : List Line). have_small_moduli ls ≡ true) (sym list_lines) (statements_moduli fields arrays items outputs l.named l.in_order l.outs)

  pub list_flanks : are_flanked [] [] lines ≡ true
  list_flanks = subst (λ (ls : List Line). are_flanked [] [] ls ≡ true) (sym list_lines) (statements_flanks fields arrays items outputs l.named l.in_order l.outs)

  pub list_outputs : are_known (values_of fields lines) operands ≡ true
  list_outputs =
      subst (λ (ls : List Line). are_known (values_of fields ls) operands ≡ true) (sym list_lines)
      (subst (λ (os : List Operand). are_known (values_of fields (statements fields items outputs).lines) os ≡ true) (sym list_operands) (statements_outputs fields arrays items outputs l.named l.in_order l.outs))

  pub list_outs : length operands ≡ length outputs
  list_outs = ap length list_operands ∙ statements_outs fields arrays items outputs l.named l.in_order l.outs

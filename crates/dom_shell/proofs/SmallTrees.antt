-- The trees of codelets have numbers below 2^32: a constant is one of a statement, or a sum, a difference or a negation.
use Rattle.std.proofs.Common.{◌≡◌, ℕ, zero, suc, ◌+◌, ◌-◌, ◌%◌, ◌^◌, Bool, true, false, nat_eq, List, [], ◌∷◌, map, Option, Some, None, refl, arith}
use Rattle.std.specs.Bool.{if◌then◌else◌}
use Rattle.std.specs.List.{list_all}
use Rattle.std.proofs.lemmas.Bool.{and_from, and_parts, lt-ltb}
use Rattle.dom_words.specs.declared.operators.BinOp.{BinOp}
use Rattle.dom_words.specs.declared.operators.BinOp.TheVariants as bin
use Rattle.dom_words.specs.declared.operators.UnOp.{UnOp}
use Rattle.dom_words.specs.declared.operators.UnOp.TheVariants as un
use Rattle.dom_flat.specs.declared.line.Operand.{Operand}
use Rattle.dom_flat.specs.declared.line.Operand.TheVariants as operand
use Rattle.dom_flat.specs.declared.line.Line.{Line}
use Rattle.dom_flat.specs.declared.line.Line.TheVariants as line
use Rattle.dom_flat.specs.Kept.{has_word, have_words}
use Rattle.atom_traits.specs.declared.tree.Guard.{Guard}
use Rattle.atom_traits.specs.declared.tree.Leaf.{Leaf}
use Rattle.atom_traits.specs.declared.tree.Leaf.TheVariants.{Keep, Put, Add, Sub}
use Rattle.atom_traits.specs.declared.tree.Port.{Port}
use Rattle.atom_traits.specs.declared.tree.Port.TheVariants as port
use Rattle.atom_traits.specs.declared.tree.Rel.TheVariants as rel
use Rattle.atom_traits.specs.declared.tree.Source.{Source}
use Rattle.atom_traits.specs.declared.tree.Source.TheVariants as source
use Rattle.atom_traits.specs.Form.{TreeForm, TreesForm}
use Rattle.atom_traits.specs.Tests.{guard_passes, leaf_passes, tree_passes, trees_pass}
use Rattle.codelets.specs.declared.answer.Codelets.{Codelets}
use Rattle.codelets.specs.declared.codelet.Codelet.{Codelet}
use Rattle.codelets.specs.declared.codelet.Slot.{Slot}
use Rattle.codelets.specs.Answer.{line_in}
use Rattle.atom_match.specs.declared.class.Flanks.{Flanks}
use Rattle.atom_match.specs.declared.class.View.{View}
use Rattle.atom_match.specs.declared.found.Answer.{Answer}
use Rattle.atom_match.specs.declared.found.Answer.TheVariants.{Is, Other, Asks, Nothing}
use Rattle.atom_match.specs.declared.found.Fact.{Fact}
use Rattle.atom_match.specs.declared.found.Found.{Found}
use Rattle.atom_match.specs.declared.found.Verdict.{Verdict}
use Rattle.atom_match.specs.declared.found.Verdict.TheVariants.{Holds, Fails, AsksFirst, Unknown}
use Rattle.atom_match.specs.Classes.{Class, class_of, flanks_at, in_class, is_outside, is_some_value, stored_by, view_alone, view_first, view_second}
use Rattle.atom_match.specs.Resolve.{both_trees, fact, fork_of, found_in, found_operand, one_tree, slot_tree, tree_by, tree_of, trees_at, trees_of}
use Rattle.atom_match.specs.Rules.{and_verdict, answer_source, answer_verdict, ask, bin_found, choose_answer, compared, difference_leaves, difference_ports, first_question, found_as, joined, keep_less, leaf_source, line_found, line_found_if, of_leaves, of_sources, operand_found, opposite, or_verdict, port_source, question_of, related, same_guard, source_verdict, sum_leaves, sum_ports, un_found, unless_asked, verdict_is, verdict_unless_asked}
use Rattle.config_text.specs.Small.{is_source_small}
use Rattle.config_text.specs.Words.{is_small, port_fits}
use Rattle.dom_shell.proofs.WordLines.{first_there, has_line_words, if_there, line_in_words, place_word}

abbrev pub is_leaf_small : Leaf → Bool
is_leaf_small leaf = leaf_passes port_fits is_source_small leaf

abbrev pub is_guard_small : Guard → Bool
is_guard_small g = guard_passes port_fits is_source_small g

abbrev pub is_tree_small : TreeForm → Bool
is_tree_small t = tree_passes port_fits is_source_small t

abbrev pub are_trees_small : TreesForm → Bool
are_trees_small t = trees_pass port_fits is_source_small t

abbrev is_answer_small : Answer → Bool
is_answer_small (Is leaf) = is_leaf_small leaf
is_answer_small Other = true
is_answer_small (Asks g) = is_guard_small g
is_answer_small Nothing = true

abbrev is_verdict_small : Verdict → Bool
is_verdict_small Holds = true
is_verdict_small Fails = true
is_verdict_small (AsksFirst g) = is_guard_small g
is_verdict_small Unknown = true

abbrev IsFoundSmall : Found → Type 0
IsFoundSmall f = (is_answer_small f.answer ≡ true) × (is_verdict_small f.verdict ≡ true)

-- what is taken modulo 2^32 is a word
module _ (n : ℕ) where
  reduced_small : is_small (n % 2 ^ 32) ≡ true
  reduced_small = lt-ltb (n % 2 ^ 32) 4294967296 (omega arith)

opposite_small : (v : Verdict) → is_verdict_small v ≡ true → is_verdict_small (opposite v) ≡ true
opposite_small Holds e = refl
opposite_small Fails e = refl
opposite_small (AsksFirst g) e = e
opposite_small Unknown e = refl

told_small : (b : Bool) → is_verdict_small (verdict_is b) ≡ true
told_small true = refl
told_small false = refl

ask_small : (facts : List Fact) (g : Guard) → is_guard_small g ≡ true → is_verdict_small (ask facts g) ≡ true
ask_small [] g e = e
ask_small (f ∷ facts) g e = by_case (same_guard g f.guard) (ask_small facts g e)
  where
    by_case : (b : Bool) → is_verdict_small (ask facts g) ≡ true → is_verdict_small (if b then verdict_is f.holds else ask facts g) ≡ true
    by_case true rest = told_small f.holds
    by_case false rest = rest

question_small : (a : Answer) → is_answer_small a ≡ true → if_there is_guard_small (question_of a) ≡ true
question_small (Is leaf) e = refl
question_small Other e = refl
question_small (Asks g) e = e
question_small Nothing e = refl

first_small : (x y : Option Guard) → if_there is_guard_small x ≡ true → if_there is_guard_small y ≡ true → if_there is_guard_small (first_question x y) ≡ true
first_small None y e f = f
first_small (Some g) y e f = e

unless_small : (q : Option Guard) (a : Answer) → if_there is_guard_small q ≡ true → is_answer_small a ≡ true → is_answer_small (unless_asked q a) ≡ true
unless_small None a e f = f
unless_small (Some g) a e f = e

verdict_unless_small : (q : Option Guard) (v : Verdict) → if_there is_guard_small q ≡ true → is_verdict_small v ≡ true → is_verdict_small (verdict_unless_asked q v) ≡ true
verdict_unless_small None v e f = f
verdict_unless_small (Some g) v e f = e

port_source_small : (p : Port) → port_fits p ≡ true → is_source_small (port_source p) ≡ true
port_source_small (port.Const w) e = e
port_source_small (port.Container c) e = e

leaf_source_small : (state : ℕ) (leaf : Leaf) → is_leaf_small leaf ≡ true → if_there is_source_small (leaf_source state leaf) ≡ true
leaf_source_small state Keep e = refl
leaf_source_small state (Put p) e = port_source_small p e
leaf_source_small state (Add p) e = refl
leaf_source_small state (Sub p) e = refl

answer_source_small : (state : ℕ) (a : Answer) → is_answer_small a ≡ true → if_there is_source_small (answer_source state a) ≡ true
answer_source_small state (Is leaf) e = leaf_source_small state leaf e
answer_source_small state Other e = refl
answer_source_small state (Asks g) e = refl
answer_source_small state Nothing e = refl

asks_small : (facts : List Fact) (g : Guard) → is_source_small g.left ≡ true → is_source_small g.right ≡ true → is_verdict_small (ask facts g) ≡ true
asks_small facts g e f = ask_small facts g (and_from _ _ e f)

source_verdict_small : (facts : List Fact) (x : Option Source) → if_there is_source_small x ≡ true → is_verdict_small (source_verdict facts x) ≡ true
source_verdict_small facts None e = refl
source_verdict_small facts (Some x) e =
    let g : Guard = record { rel = rel.Eq; left = x; right = source.Const 0 } in
    opposite_small (ask facts g) (asks_small facts g e refl)

answer_verdict_small : (state : ℕ) (facts : List Fact) (a : Answer) → is_answer_small a ≡ true → is_verdict_small (answer_verdict state facts a) ≡ true
answer_verdict_small state facts a e =
    verdict_unless_small (question_of a) (source_verdict facts (answer_source state a)) (question_small a e) (source_verdict_small facts (answer_source state a) (answer_source_small state a e))

found_small : (state : ℕ) (facts : List Fact) (a : Answer) → is_answer_small a ≡ true → IsFoundSmall (found_as state facts a)
found_small state facts a e = (e, answer_verdict_small state facts a e)

sum_ports_small : (p q : Port) → is_answer_small (sum_ports p q) ≡ true
sum_ports_small (port.Const a) (port.Const b) = reduced_small (a + b)
sum_ports_small (port.Const a) (port.Container b) = refl
sum_ports_small (port.Container a) q = refl

sum_leaves_small : (x y : Leaf) → is_leaf_small x ≡ true → is_leaf_small y ≡ true → is_answer_small (sum_leaves x y) ≡ true
sum_leaves_small Keep Keep e f = refl
sum_leaves_small Keep (Put p) e f = f
sum_leaves_small Keep (Add p) e f = refl
sum_leaves_small Keep (Sub p) e f = refl
sum_leaves_small (Put p) Keep e f = e
sum_leaves_small (Put p) (Put q) e f = sum_ports_small p q
sum_leaves_small (Put p) (Add q) e f = refl
sum_leaves_small (Put p) (Sub q) e f = refl
sum_leaves_small (Add p) y e f = refl
sum_leaves_small (Sub p) y e f = refl

keep_less_small : (p : Port) → port_fits p ≡ true → is_answer_small (keep_less p) ≡ true
keep_less_small (port.Const w) e = reduced_small (2 ^ 32 - w)
keep_less_small (port.Container c) e = e

difference_ports_small : (p q : Port) → is_answer_small (difference_ports p q) ≡ true
difference_ports_small (port.Const a) (port.Const b) = reduced_small (a + (2 ^ 32 - b))
difference_ports_small (port.Const a) (port.Container b) = refl
difference_ports_small (port.Container a) q = refl

difference_leaves_small : (x y : Leaf) → is_leaf_small x ≡ true → is_leaf_small y ≡ true → is_answer_small (difference_leaves x y) ≡ true
difference_leaves_small Keep Keep e f = refl
difference_leaves_small Keep (Put p) e f = keep_less_small p f
difference_leaves_small Keep (Add p) e f = refl
difference_leaves_small Keep (Sub p) e f = refl
difference_leaves_small (Put p) Keep e f = refl
difference_leaves_small (Put p) (Put q) e f = difference_ports_small p q
difference_leaves_small (Put p) (Add q) e f = refl
difference_leaves_small (Put p) (Sub q) e f = refl
difference_leaves_small (Add p) y e f = refl
difference_leaves_small (Sub p) y e f = refl

module _ (rule : Leaf → Leaf → Answer) (small : (x y : Leaf) → is_leaf_small x ≡ true → is_leaf_small y ≡ true → is_answer_small (rule x y) ≡ true) where
  of_leaves_small : (a b : Answer) → is_answer_small a ≡ true → is_answer_small b ≡ true → is_answer_small (of_leaves rule a b) ≡ true
  of_leaves_small (Is x) (Is y) e f = small x y e f
  of_leaves_small (Is x) Other e f = refl
  of_leaves_small (Is x) (Asks g) e f = refl
  of_leaves_small (Is x) Nothing e f = refl
  of_leaves_small Other b e f = refl
  of_leaves_small (Asks g) b e f = refl
  of_leaves_small Nothing b e f = refl

  joined_small : (a b : Answer) → is_answer_small a ≡ true → is_answer_small b ≡ true → is_answer_small (joined (of_leaves rule) a b) ≡ true
  joined_small a b e f =
      unless_small (first_question (question_of a) (question_of b)) (of_leaves rule a b)
      (first_small (question_of a) (question_of b) (question_small a e) (question_small b f)) (of_leaves_small a b e f)

choose_small : (v : Verdict) (a b : Answer) → is_verdict_small v ≡ true → is_answer_small a ≡ true → is_answer_small b ≡ true → is_answer_small (choose_answer v a b) ≡ true
choose_small Holds a b e f g = f
choose_small Fails a b e f g = g
choose_small (AsksFirst q) a b e f g = e
choose_small Unknown a b e f g = refl

and_small : (v w : Verdict) → is_verdict_small v ≡ true → is_verdict_small w ≡ true → is_verdict_small (and_verdict v w) ≡ true
and_small Holds w e f = f
and_small Fails w e f = refl
and_small (AsksFirst g) w e f = e
and_small Unknown w e f = refl

or_small : (v w : Verdict) → is_verdict_small v ≡ true → is_verdict_small w ≡ true → is_verdict_small (or_verdict v w) ≡ true
or_small Holds w e f = refl
or_small Fails w e f = f
or_small (AsksFirst g) w e f = e
or_small Unknown w e f = refl

module _ (facts : List Fact) where
  compared_small : (op : BinOp) (x y : Source) → is_source_small x ≡ true → is_source_small y ≡ true → is_verdict_small (compared facts op x y) ≡ true
  compared_small bin.Lt x y e f = asks_small facts (record { rel = rel.Lt; left = x; right = y }) e f
  compared_small bin.Le x y e f =
      let g : Guard = record { rel = rel.Lt; left = y; right = x } in
      opposite_small (ask facts g) (asks_small facts g f e)
  compared_small bin.Gt x y e f = asks_small facts (record { rel = rel.Lt; left = y; right = x }) f e
  compared_small bin.Ge x y e f =
      let g : Guard = record { rel = rel.Lt; left = x; right = y } in
      opposite_small (ask facts g) (asks_small facts g e f)
  compared_small bin.Eq x y e f = asks_small facts (record { rel = rel.Eq; left = x; right = y }) e f
  compared_small bin.Ne x y e f =
      let g : Guard = record { rel = rel.Eq; left = x; right = y } in
      opposite_small (ask facts g) (asks_small facts g e f)
  compared_small bin.Mul x y e f = refl
  compared_small bin.Div x y e f = refl
  compared_small bin.Rem x y e f = refl
  compared_small bin.Add x y e f = refl
  compared_small bin.Sub x y e f = refl
  compared_small bin.Shl x y e f = refl
  compared_small bin.Shr x y e f = refl
  compared_small bin.BitAnd x y e f = refl
  compared_small bin.BitXor x y e f = refl
  compared_small bin.BitOr x y e f = refl
  compared_small bin.And x y e f = refl
  compared_small bin.Or x y e f = refl

  of_sources_small : (op : BinOp) (x y : Option Source) → if_there is_source_small x ≡ true → if_there is_source_small y ≡ true → is_verdict_small (of_sources facts op x y) ≡ true
  of_sources_small op None y e f = refl
  of_sources_small op (Some x) None e f = refl
  of_sources_small op (Some x) (Some y) e f = compared_small op x y e f

module _ (state : ℕ) (facts : List Fact) where
  related_small : (op : BinOp) (a b : Answer) → is_answer_small a ≡ true → is_answer_small b ≡ true → is_verdict_small (related state facts op a b) ≡ true
  related_small op a b e f =
      verdict_unless_small (first_question (question_of a) (question_of b)) (of_sources facts op (answer_source state a) (answer_source state b))
      (first_small (question_of a) (question_of b) (question_small a e) (question_small b f))
      (of_sources_small facts op (answer_source state a) (answer_source state b) (answer_source_small state a e) (answer_source_small state b f))

  un_found_small : (op : UnOp) (a : Found) → IsFoundSmall a → IsFoundSmall (un_found op a)
  un_found_small un.Neg a e = (refl, refl)
  un_found_small un.Inv a e = (refl, refl)
  un_found_small un.Not a e = (refl, opposite_small a.verdict e.1)

  bin_found_small : (op : BinOp) (a b : Found) → IsFoundSmall a → IsFoundSmall b → IsFoundSmall (bin_found state facts op a b)
  bin_found_small bin.Mul a b e f = (refl, refl)
  bin_found_small bin.Div a b e f = (refl, refl)
  bin_found_small bin.Rem a b e f = (refl, refl)
  bin_found_small bin.Add a b e f = found_small state facts (joined (of_leaves sum_leaves) a.answer b.answer) (joined_small sum_leaves sum_leaves_small a.answer b.answer e.0 f.0)
  bin_found_small bin.Sub a b e f = found_small state facts (joined (of_leaves difference_leaves) a.answer b.answer) (joined_small difference_leaves difference_leaves_small a.answer b.answer e.0 f.0)
  bin_found_small bin.Shl a b e f = (refl, refl)
  bin_found_small bin.Shr a b e f = (refl, refl)
  bin_found_small bin.Lt a b e f = (refl, related_small bin.Lt a.answer b.answer e.0 f.0)
  bin_found_small bin.Le a b e f = (refl, related_small bin.Le a.answer b.answer e.0 f.0)
  bin_found_small bin.Gt a b e f = (refl, related_small bin.Gt a.answer b.answer e.0 f.0)
  bin_found_small bin.Ge a b e f = (refl, related_small bin.Ge a.answer b.answer e.0 f.0)
  bin_found_small bin.Eq a b e f = (refl, related_small bin.Eq a.answer b.answer e.0 f.0)
  bin_found_small bin.Ne a b e f = (refl, related_small bin.Ne a.answer b.answer e.0 f.0)
  bin_found_small bin.BitAnd a b e f = (refl, refl)
  bin_found_small bin.BitXor a b e f = (refl, refl)
  bin_found_small bin.BitOr a b e f = (refl, refl)
  bin_found_small bin.And a b e f = (refl, and_small a.verdict b.verdict e.1 f.1)
  bin_found_small bin.Or a b e f = (refl, or_small a.verdict b.verdict e.1 f.1)

  module _ (f : ℕ → Found) (small : (v : ℕ) → IsFoundSmall (f v)) where
    operand_found_small : (o : Operand) → has_word o ≡ true → IsFoundSmall (operand_found state facts f o)
    operand_found_small (operand.Const w) e = found_small state facts (Is (Put (port.Const w))) e
    operand_found_small (operand.Value v) e = small v

    line_found_small : (l : Line) → has_line_words l ≡ true → IsFoundSmall (line_found state facts f l)
    line_found_small (line.Fetch array i) e = (refl, refl)
    line_found_small (line.Store array i value) e = (refl, refl)
    line_found_small (line.Un op a) e = un_found_small op (operand_found state facts f a) (operand_found_small a (and_parts (has_word a) true e).0)
    line_found_small (line.Bin op a b) e =
        let one = and_parts (has_word a) (have_words (b ∷ [])) e in
        let two = and_parts (has_word b) true one.1 in
        bin_found_small op (operand_found state facts f a) (operand_found state facts f b) (operand_found_small a one.0) (operand_found_small b two.0)
    line_found_small (line.Cond c a b) e =
        let one = and_parts (has_word c) (have_words (a ∷ b ∷ [])) e in
        let two = and_parts (has_word a) (have_words (b ∷ [])) one.1 in
        let three = and_parts (has_word b) true two.1 in
        let fc = operand_found state facts f c in
        let fa = operand_found state facts f a in
        let fb = operand_found state facts f b in
        found_small state facts (choose_answer fc.verdict fa.answer fb.answer)
        (choose_small fc.verdict fa.answer fb.answer (operand_found_small c one.0).1 (operand_found_small a two.0).0 (operand_found_small b three.0).0)
    line_found_small (line.Hash unit modulus args) e = (refl, refl)

    line_found_if_small : (l : Option Line) → if_there has_line_words l ≡ true → IsFoundSmall (line_found_if state facts f l)
    line_found_if_small None e = (refl, refl)
    line_found_if_small (Some l) e = line_found_small l e

fork_small : (g : Guard) (x y : Option TreeForm) → is_guard_small g ≡ true → if_there is_tree_small x ≡ true → if_there is_tree_small y ≡ true → if_there is_tree_small (fork_of g x y) ≡ true
fork_small g None y e f h = refl
fork_small g (Some a) None e f h = refl
fork_small g (Some a) (Some b) e f h = and_from _ _ e (and_from _ _ f h)

tree_by_small : (a : Answer) (fork : Guard → Option TreeForm) → is_answer_small a ≡ true → ((g : Guard) → is_guard_small g ≡ true → if_there is_tree_small (fork g) ≡ true)
    → if_there is_tree_small (tree_by a fork) ≡ true
tree_by_small (Is leaf) fork e each = e
tree_by_small Other fork e each = refl
tree_by_small (Asks g) fork e each = each g e
tree_by_small Nothing fork e each = refl

abbrev pub has_write_word : Flanks → Bool
has_write_word s = if_there has_word s.write

module _ (c : Class) (known : (b : ℕ) → if_there has_line_words (c.line_of b) ≡ true) (low : (v : ℕ) → is_small (c.container v) ≡ true) where
  module _ (view : View) where
    found_in_small : (n : ℕ) (facts : List Fact) (v : ℕ) → IsFoundSmall (found_in c view n facts v)
    found_in_small zero facts v = (refl, refl)
    found_in_small (suc n) facts v =
        by_case (nat_eq v view.read) (is_some_value view.other v) (in_class c v)
        (line_found_if_small view.state facts (λ u. found_in c view n facts u) (λ u. found_in_small n facts u) (c.line_of (v - c.fields)) (known (v - c.fields)))
      where
        by_case : (x y z : Bool) → IsFoundSmall (line_found_if view.state facts (λ u. found_in c view n facts u) (c.line_of (v - c.fields)))
            → IsFoundSmall (if x then found_as view.state facts (Is Keep) else if y then found_as view.state facts Other
            else if z then line_found_if view.state facts (λ u. found_in c view n facts u) (c.line_of (v - c.fields)) else found_as view.state facts (Is (Put (port.Container (c.container v)))))
        by_case true y z rest = found_small view.state facts (Is Keep) refl
        by_case false true z rest = found_small view.state facts Other refl
        by_case false false true rest = rest
        by_case false false false rest = found_small view.state facts (Is (Put (port.Container (c.container v)))) (low v)

    found_operand_small : (facts : List Fact) (o : Operand) → has_word o ≡ true → IsFoundSmall (found_operand c view facts o)
    found_operand_small facts o e = operand_found_small view.state facts (λ v. found_in c view (suc v) facts v) (λ v. found_in_small (suc v) facts v) o e

    tree_of_small : (d : ℕ) (facts : List Fact) (o : Operand) → has_word o ≡ true → if_there is_tree_small (tree_of c view d facts o) ≡ true
    tree_of_small zero facts o e = tree_by_small (found_operand c view facts o).answer (λ g. None) (found_operand_small facts o e).0 (λ g h. refl)
    tree_of_small (suc d) facts o e =
        tree_by_small (found_operand c view facts o).answer (λ g. fork_of g (tree_of c view d (fact g true ∷ facts) o) (tree_of c view d (fact g false ∷ facts) o)) (found_operand_small facts o e).0
        (λ g h. fork_small g (tree_of c view d (fact g true ∷ facts) o) (tree_of c view d (fact g false ∷ facts) o) h (tree_of_small d (fact g true ∷ facts) o e) (tree_of_small d (fact g false ∷ facts) o e))

    slot_tree_small : (o : Option Operand) → if_there has_word o ≡ true → if_there is_tree_small (slot_tree c view o) ≡ true
    slot_tree_small None e = refl
    slot_tree_small (Some o) e = tree_of_small 2 [] o e

  one_small : (t : Option TreeForm) → if_there is_tree_small t ≡ true → if_there are_trees_small (one_tree t) ≡ true
  one_small None e = refl
  one_small (Some t) e = and_from _ _ e refl

  both_small : (t u : Option TreeForm) → if_there is_tree_small t ≡ true → if_there is_tree_small u ≡ true → if_there are_trees_small (both_trees t u) ≡ true
  both_small None u e f = refl
  both_small (Some t) None e f = refl
  both_small (Some t) (Some u) e f = and_from _ _ e f

  trees_at_small : (slots : List Flanks) → list_all has_write_word slots ≡ true → if_there are_trees_small (trees_at c slots) ≡ true
  trees_at_small [] e = refl
  trees_at_small (s ∷ []) e = one_small (slot_tree c (view_alone s) s.write) (slot_tree_small (view_alone s) s.write (and_parts (has_write_word s) true e).0)
  trees_at_small (s ∷ t ∷ []) e =
      let one = and_parts (has_write_word s) (list_all has_write_word (t ∷ [])) e in
      let two = and_parts (has_write_word t) true one.1 in
      both_small (slot_tree c (view_first s t) s.write) (slot_tree c (view_second s t) t.write) (slot_tree_small (view_first s t) s.write one.0) (slot_tree_small (view_second s t) t.write two.0)
  trees_at_small (s ∷ t ∷ u ∷ rest) e = refl

  trees_of_small : list_all has_write_word c.slots ≡ true → if_there are_trees_small (trees_of c) ≡ true
  trees_of_small e = by_case (list_all (λ (s : Flanks). is_outside c.fields c.members s.index) c.slots)
    where
      by_case : (b : Bool) → if_there are_trees_small (if b then trees_at c c.slots else None) ≡ true
      by_case true = trees_at_small c.slots e
      by_case false = refl

stored_word_known : (array : ℕ) (l : Option Line) → if_there has_line_words l ≡ true → if_there has_word (stored_by array l) ≡ true
stored_word_known array None e = refl
stored_word_known array (Some (line.Fetch a i)) e = refl
stored_word_known array (Some (line.Store a i v)) e = by_case (nat_eq a array)
  where
    by_case : (b : Bool) → if_there has_word (if b then Some v else None) ≡ true
    by_case true = (and_parts (has_word v) true (and_parts (has_word i) (have_words (v ∷ [])) e).1).0
    by_case false = refl
stored_word_known array (Some (line.Un op a)) e = refl
stored_word_known array (Some (line.Bin op a d)) e = refl
stored_word_known array (Some (line.Cond a d f)) e = refl
stored_word_known array (Some (line.Hash unit modulus args)) e = refl

module _ (cs : Codelets) where
  flanks_known : (members : List ℕ) (slots : List Slot) → list_all has_write_word (map (flanks_at cs members) slots) ≡ true
  flanks_known members [] = refl
  flanks_known members (s ∷ slots) =
      and_from _ _
      (first_there has_word (λ b. stored_by s.array (line_in cs.table b)) (λ b. stored_word_known s.array (line_in cs.table b) (line_in_words cs b)) members)
      (flanks_known members slots)

  -- the trees of a codelet have small numbers
  pub class_trees_small : (c : Codelet) → if_there are_trees_small (trees_of (class_of cs c)) ≡ true
  class_trees_small c = trees_of_small (class_of cs c) (line_in_words cs) (place_word cs) (flanks_known c.lines c.slots)

-- The trees of a class name the containers of values that it uses, and no others.
use Rattle.std.proofs.Common.{◌≡◌, ℕ, zero, suc, ◌-◌, Bool, true, false, nat_eq, nat_le, List, [], ◌∷◌, Option, Some, None, refl, subst, if◌then◌else◌, ⊎_elim}
use Rattle.std.specs.List.{list_all}
use Rattle.std.proofs.lemmas.Bool.{and_parts, and_from, or_cases}
use Rattle.dom_words.specs.declared.operators.BinOp.{BinOp}
use Rattle.dom_words.specs.declared.operators.BinOp.TheVariants as bin
use Rattle.dom_words.specs.declared.operators.UnOp.{UnOp}
use Rattle.dom_words.specs.declared.operators.UnOp.TheVariants as un
use Rattle.dom_flat.specs.declared.line.Operand.{Operand}
use Rattle.dom_flat.specs.declared.line.Operand.TheVariants as operand
use Rattle.dom_flat.specs.declared.line.Line.{Line}
use Rattle.dom_flat.specs.declared.line.Line.TheVariants as line
use Rattle.dom_flat.specs.Lines.{is_flank, operands_of}
use Rattle.atom_traits.specs.declared.tree.Port.{Port}
use Rattle.atom_traits.specs.declared.tree.Port.TheVariants as port
use Rattle.atom_traits.specs.declared.tree.Source.{Source}
use Rattle.atom_traits.specs.declared.tree.Source.TheVariants as source
use Rattle.atom_traits.specs.declared.tree.Rel.TheVariants as rel
use Rattle.atom_traits.specs.declared.tree.Guard.{Guard}
use Rattle.atom_traits.specs.declared.tree.Leaf.{Leaf}
use Rattle.atom_traits.specs.declared.tree.Leaf.TheVariants.{Keep, Put, Add, Sub}
use Rattle.atom_traits.specs.Form.{TreeForm, TreesForm}
use Rattle.atom_traits.specs.Tests.{guard_passes, leaf_passes, port_in, source_in, tree_names, trees_name}
use Rattle.atom_match.specs.declared.class.Flanks.{Flanks}
use Rattle.atom_match.specs.declared.class.View.{View}
use Rattle.atom_match.specs.declared.found.Answer.{Answer}
use Rattle.atom_match.specs.declared.found.Answer.TheVariants.{Is, Other, Asks, Nothing}
use Rattle.atom_match.specs.declared.found.Verdict.{Verdict}
use Rattle.atom_match.specs.declared.found.Verdict.TheVariants.{Holds, Fails, AsksFirst, Unknown}
use Rattle.atom_match.specs.declared.found.Found.{Found}
use Rattle.atom_match.specs.declared.found.Fact.{Fact}
use Rattle.atom_match.specs.Classes.{Class, in_class, is_outside, is_some_value, view_alone, view_first, view_second}
use Rattle.codelets.specs.Lists.{has}
use Rattle.atom_match.specs.Rules.{same_guard, opposite, verdict_is, ask, question_of, first_question, unless_asked, verdict_unless_asked, port_source, joined, sum_ports, sum_leaves, keep_less, difference_ports, difference_leaves, of_leaves, choose_answer, and_verdict, or_verdict, leaf_source, answer_source, asks_less, asks_equal, source_verdict, found_as, compared, of_sources, related, un_found, bin_found, operand_found, line_found, line_found_if}
use Rattle.atom_match.specs.Resolve.{found_in, found, found_operand, fork_of, fact, tree_by, tree_of, slot_tree, one_tree, both_trees, trees_at, trees_of}
use Rattle.atom_match.specs.Table.{operand_passes}
use Rattle.atom_match.proofs.ClassMeaning.{is_meant_value, is_meant, is_meant_if, IsClosed}

-- r tests the numbers of containers
module _ (r : ℕ → Bool) where
  abbrev guard_names : Guard → Bool
  guard_names g = guard_passes (port_in r) (source_in r) g

  abbrev leaf_names : Leaf → Bool
  leaf_names l = leaf_passes (port_in r) (source_in r) l

  abbrev question_names : Option Guard → Bool
  question_names None = true
  question_names (Some g) = guard_names g

  abbrev source_names : Option Source → Bool
  source_names None = true
  source_names (Some s) = source_in r s

  abbrev answer_names : Answer → Bool
  answer_names (Is l) = leaf_names l
  answer_names Other = true
  answer_names (Asks g) = guard_names g
  answer_names Nothing = true

  abbrev verdict_names : Verdict → Bool
  verdict_names Holds = true
  verdict_names Fails = true
  verdict_names (AsksFirst g) = guard_names g
  verdict_names Unknown = true

  -- both parts pass
  abbrev Names : Found → Type 0
  Names f = (answer_names f.answer ≡ true) × (verdict_names f.verdict ≡ true)

  is_names : (b : Bool) → verdict_names (verdict_is b) ≡ true
  is_names true = refl
  is_names false = refl

  ask_names : (facts : List Fact) (g : Guard) → guard_names g ≡ true → verdict_names (ask facts g) ≡ true
  ask_names [] g e = e
  ask_names (f ∷ facts) g e = by_case (same_guard g f.guard) (ask_names facts g e)
    where
      by_case : (b : Bool) → verdict_names (ask facts g) ≡ true → verdict_names (if b then verdict_is f.holds else ask facts g) ≡ true
      by_case true rest = is_names f.holds
      by_case false rest = rest

  opposite_names : (v : Verdict) → verdict_names v ≡ true → verdict_names (opposite v) ≡ true
  opposite_names Holds e = refl
  opposite_names Fails e = refl
  opposite_names (AsksFirst g) e = e
  opposite_names Unknown e = refl

  of_question : (a : Answer) → answer_names a ≡ true → question_names (question_of a) ≡ true
  of_question (Is l) e = refl
  of_question Other e = refl
  of_question (Asks g) e = e
  of_question Nothing e = refl

  of_first : (a b : Option Guard) → question_names a ≡ true → question_names b ≡ true → question_names (first_question a b) ≡ true
  of_first None b e f = f
  of_first (Some g) b e f = e

  of_unless : (q : Option Guard) (a : Answer) → question_names q ≡ true → answer_names a ≡ true → answer_names (unless_asked q a) ≡ true
  of_unless None a e f = f
  of_unless (Some g) a e f = e

  of_verdict_unless : (q : Option Guard) (v : Verdict) → question_names q ≡ true → verdict_names v ≡ true → verdict_names (verdict_unless_asked q v) ≡ true
  of_verdict_unless None v e f = f
  of_verdict_unless (Some g) v e f = e

  of_port : (p : Port) → port_in r p ≡ true → source_in r (port_source p) ≡ true
  of_port (port.Const w) e = refl
  of_port (port.Container c) e = e

  of_leaf : (state : ℕ) (l : Leaf) → leaf_names l ≡ true → source_names (leaf_source state l) ≡ true
  of_leaf state Keep e = refl
  of_leaf state (Put p) e = of_port p e
  of_leaf state (Add p) e = refl
  of_leaf state (Sub p) e = refl

  of_answer : (state : ℕ) (a : Answer) → answer_names a ≡ true → source_names (answer_source state a) ≡ true
  of_answer state (Is l) e = of_leaf state l e
  of_answer state Other e = refl
  of_answer state (Asks g) e = refl
  of_answer state Nothing e = refl

  less_names : (facts : List Fact) (x y : Source) → source_in r x ≡ true → source_in r y ≡ true → verdict_names (asks_less facts x y) ≡ true
  less_names facts x y e f = ask_names facts (record { rel = rel.Lt; left = x; right = y }) (and_from _ _ e f)

  equal_names : (facts : List Fact) (x y : Source) → source_in r x ≡ true → source_in r y ≡ true → verdict_names (asks_equal facts x y) ≡ true
  equal_names facts x y e f = ask_names facts (record { rel = rel.Eq; left = x; right = y }) (and_from _ _ e f)

  zero_names : (facts : List Fact) (o : Option Source) → source_names o ≡ true → verdict_names (source_verdict facts o) ≡ true
  zero_names facts None e = refl
  zero_names facts (Some x) e = opposite_names _ (equal_names facts x (source.Const 0) e refl)

  as_names : (state : ℕ) (facts : List Fact) (a : Answer) → answer_names a ≡ true → Names (found_as state facts a)
  as_names state facts a e =
      (e, of_verdict_unless (question_of a) _ (of_question a e) (zero_names facts (answer_source state a) (of_answer state a e)))

  sum_ports_name : (p q : Port) → port_in r p ≡ true → port_in r q ≡ true → answer_names (sum_ports p q) ≡ true
  sum_ports_name (port.Const a) (port.Const b) e f = refl
  sum_ports_name (port.Const a) (port.Container b) e f = refl
  sum_ports_name (port.Container a) q e f = refl

  sum_names : (a b : Leaf) → leaf_names a ≡ true → leaf_names b ≡ true → answer_names (sum_leaves a b) ≡ true
  sum_names Keep Keep e f = refl
  sum_names Keep (Put p) e f = f
  sum_names Keep (Add p) e f = refl
  sum_names Keep (Sub p) e f = refl
  sum_names (Put p) Keep e f = e
  sum_names (Put p) (Put q) e f = sum_ports_name p q e f
  sum_names (Put p) (Add q) e f = refl
  sum_names (Put p) (Sub q) e f = refl
  sum_names (Add p) b e f = refl
  sum_names (Sub p) b e f = refl

  keep_less_names : (p : Port) → port_in r p ≡ true → answer_names (keep_less p) ≡ true
  keep_less_names (port.Const w) e = refl
  keep_less_names (port.Container c) e = e

  difference_ports_name : (p q : Port) → port_in r p ≡ true → port_in r q ≡ true → answer_names (difference_ports p q) ≡ true
  difference_ports_name (port.Const a) (port.Const b) e f = refl
  difference_ports_name (port.Const a) (port.Container b) e f = refl
  difference_ports_name (port.Container a) q e f = refl

  difference_names : (a b : Leaf) → leaf_names a ≡ true → leaf_names b ≡ true → answer_names (difference_leaves a b) ≡ true
  difference_names Keep Keep e f = refl
  difference_names Keep (Put p) e f = keep_less_names p f
  difference_names Keep (Add p) e f = refl
  difference_names Keep (Sub p) e f = refl
  difference_names (Put p) Keep e f = refl
  difference_names (Put p) (Put q) e f = difference_ports_name p q e f
  difference_names (Put p) (Add q) e f = refl
  difference_names (Put p) (Sub q) e f = refl
  difference_names (Add p) b e f = refl
  difference_names (Sub p) b e f = refl

  leaves_name : (rule : Leaf → Leaf → Answer) → ((a b : Leaf) → leaf_names a ≡ true → leaf_names b ≡ true → answer_names (rule a b) ≡ true) → (a b : Answer) → answer_names a ≡ true → answer_names b ≡ true → answer_names (of_leaves rule a b) ≡ true
  leaves_name rule h (Is a) (Is b) e f = h a b e f
  leaves_name rule h (Is a) Other e f = refl
  leaves_name rule h (Is a) (Asks g) e f = refl
  leaves_name rule h (Is a) Nothing e f = refl
  leaves_name rule h Other b e f = refl
  leaves_name rule h (Asks g) b e f = refl
  leaves_name rule h Nothing b e f = refl

  joined_names : (state : ℕ) (facts : List Fact) (rule : Leaf → Leaf → Answer) → ((a b : Leaf) → leaf_names a ≡ true → leaf_names b ≡ true → answer_names (rule a b) ≡ true) → (a b : Answer) → answer_names a ≡ true → answer_names b ≡ true → Names (found_as state facts (joined (of_leaves rule) a b))
  joined_names state facts rule h a b e f =
      as_names state facts _ (of_unless (first_question (question_of a) (question_of b)) _ (of_first (question_of a) (question_of b) (of_question a e) (of_question b f)) (leaves_name rule h a b e f))

  compared_names : (facts : List Fact) (op : BinOp) (x y : Source) → source_in r x ≡ true → source_in r y ≡ true → verdict_names (compared facts op x y) ≡ true
  compared_names facts bin.Lt x y e f = less_names facts x y e f
  compared_names facts bin.Le x y e f = opposite_names _ (less_names facts y x f e)
  compared_names facts bin.Gt x y e f = less_names facts y x f e
  compared_names facts bin.Ge x y e f = opposite_names _ (less_names facts x y e f)
  compared_names facts bin.Eq x y e f = equal_names facts x y e f
  compared_names facts bin.Ne x y e f = opposite_names _ (equal_names facts x y e f)
  compared_names facts bin.Mul x y e f = refl
  compared_names facts bin.Div x y e f = refl
  compared_names facts bin.Rem x y e f = refl
  compared_names facts bin.Add x y e f = refl
  compared_names facts bin.Sub x y e f = refl
  compared_names facts bin.Shl x y e f = refl
  compared_names facts bin.Shr x y e f = refl
  compared_names facts bin.BitAnd x y e f = refl
  compared_names facts bin.BitXor x y e f = refl
  compared_names facts bin.BitOr x y e f = refl
  compared_names facts bin.And x y e f = refl
  compared_names facts bin.Or x y e f = refl

  sources_name : (facts : List Fact) (op : BinOp) (s t : Option Source) → source_names s ≡ true → source_names t ≡ true → verdict_names (of_sources facts op s t) ≡ true
  sources_name facts op (Some x) (Some y) e f = compared_names facts op x y e f
  sources_name facts op (Some x) None e f = refl
  sources_name facts op None t e f = refl

  related_names : (state : ℕ) (facts : List Fact) (op : BinOp) (a b : Answer) → answer_names a ≡ true → answer_names b ≡ true → verdict_names (related state facts op a b) ≡ true
  related_names state facts op a b e f =
      of_verdict_unless (first_question (question_of a) (question_of b)) _ (of_first (question_of a) (question_of b) (of_question a e) (of_question b f)) (sources_name facts op (answer_source state a) (answer_source state b) (of_answer state a e) (of_answer state b f))

  and_names : (v w : Verdict) → verdict_names v ≡ true → verdict_names w ≡ true → verdict_names (and_verdict v w) ≡ true
  and_names Holds w e f = f
  and_names Fails w e f = refl
  and_names (AsksFirst g) w e f = e
  and_names Unknown w e f = refl

  or_names : (v w : Verdict) → verdict_names v ≡ true → verdict_names w ≡ true → verdict_names (or_verdict v w) ≡ true
  or_names Holds w e f = refl
  or_names Fails w e f = f
  or_names (AsksFirst g) w e f = e
  or_names Unknown w e f = refl

  choose_names : (v : Verdict) (a b : Answer) → verdict_names v ≡ true → answer_names a ≡ true → answer_names b ≡ true → answer_names (choose_answer v a b) ≡ true
  choose_names Holds a b e f g = f
  choose_names Fails a b e f g = g
  choose_names (AsksFirst q) a b e f g = e
  choose_names Unknown a b e f g = refl

  un_names : (op : UnOp) (a : Found) → Names a → Names (un_found op a)
  un_names un.Neg a e = (refl, refl)
  un_names un.Inv a e = (refl, refl)
  un_names un.Not a e = (refl, opposite_names a.verdict e.1)

  bin_names : (state : ℕ) (facts : List Fact) (op : BinOp) (a b : Found) → Names a → Names b → Names (bin_found state facts op a b)
  bin_names state facts bin.Mul a b e f = (refl, refl)
  bin_names state facts bin.Div a b e f = (refl, refl)
  bin_names state facts bin.Rem a b e f = (refl, refl)
  bin_names state facts bin.Add a b e f = joined_names state facts sum_leaves sum_names a.answer b.answer e.0 f.0
  bin_names state facts bin.Sub a b e f = joined_names state facts difference_leaves difference_names a.answer b.answer e.0 f.0
  bin_names state facts bin.Shl a b e f = (refl, refl)
  bin_names state facts bin.Shr a b e f = (refl, refl)
  bin_names state facts bin.Lt a b e f = (refl, related_names state facts bin.Lt a.answer b.answer e.0 f.0)
  bin_names state facts bin.Le a b e f = (refl, related_names state facts bin.Le a.answer b.answer e.0 f.0)
  bin_names state facts bin.Gt a b e f = (refl, related_names state facts bin.Gt a.answer b.answer e.0 f.0)
  bin_names state facts bin.Ge a b e f = (refl, related_names state facts bin.Ge a.answer b.answer e.0 f.0)
  bin_names state facts bin.Eq a b e f = (refl, related_names state facts bin.Eq a.answer b.answer e.0 f.0)
  bin_names state facts bin.Ne a b e f = (refl, related_names state facts bin.Ne a.answer b.answer e.0 f.0)
  bin_names state facts bin.BitAnd a b e f = (refl, refl)
  bin_names state facts bin.BitXor a b e f = (refl, refl)
  bin_names state facts bin.BitOr a b e f = (refl, refl)
  bin_names state facts bin.And a b e f = (refl, and_names a.verdict b.verdict e.1 f.1)
  bin_names state facts bin.Or a b e f = (refl, or_names a.verdict b.verdict e.1 f.1)

  module _ (state : ℕ) (facts : List Fact) (ok : ℕ → Bool) (f : ℕ → Found) (known : (v : ℕ) → ok v ≡ true → Names (f v)) where
    operand_names : (o : Operand) → operand_passes ok o ≡ true → Names (operand_found state facts f o)
    operand_names (operand.Const w) h = as_names state facts (Is (Put (port.Const w))) refl
    operand_names (operand.Value v) h = known v h

    line_names : (l : Line) → list_all (operand_passes ok) (operands_of l) ≡ true → is_flank l ≡ false → Names (line_found state facts f l)
    line_names (line.Fetch array i) h n = absurd (cc)
    line_names (line.Store array i value) h n = absurd (cc)
    line_names (line.Un op a) h n = un_names op _ (operand_names a (and_parts (operand_passes ok a) true h).0)
    line_names (line.Bin op a b) h n =
        let p = and_parts (operand_passes ok a) _ h in let q = and_parts (operand_passes ok b) true p.1 in
        bin_names state facts op _ _ (operand_names a p.0) (operand_names b q.0)
    line_names (line.Cond c a b) h n =
        let p = and_parts (operand_passes ok c) _ h in let q = and_parts (operand_passes ok a) _ p.1 in let s = and_parts (operand_passes ok b) true q.1 in
        as_names state facts _ (choose_names _ _ _ (operand_names c p.0).1 (operand_names a q.0).0 (operand_names b s.0).0)
    line_names (line.Hash unit modulus args) h n = (refl, refl)

  flank_names : (state : ℕ) (facts : List Fact) (f : ℕ → Found) (l : Line) → is_flank l ≡ true → Names (line_found state facts f l)
  flank_names state facts f (line.Fetch array i) e = (refl, refl)
  flank_names state facts f (line.Store array i value) e = (refl, refl)
  flank_names state facts f (line.Un op a) e = absurd (cc)
  flank_names state facts f (line.Bin op a b) e = absurd (cc)
  flank_names state facts f (line.Cond c a b) e = absurd (cc)
  flank_names state facts f (line.Hash unit modulus args) e = absurd (cc)

  module _ (c : Class) (uses : List ℕ) (closed : IsClosed c uses) (held : (v : ℕ) → has uses v ≡ true → r (c.container v) ≡ true) where
    module _ (view : View) where
      found_names : (n : ℕ) (facts : List Fact) (v : ℕ) → is_meant_value c uses v ≡ true → Names (found_in c view n facts v)
      found_names zero facts v h = (refl, refl)
      found_names (suc n) facts v h =
          by_case (nat_eq v view.read) (is_some_value view.other v) (in_class c v) refl (found_names n facts)
        where
          by_flank : (l : Line) (b : Bool) → is_flank l ≡ b → c.line_of (v - c.fields) ≡ Some l → in_class c v ≡ true → ((u : ℕ) → is_meant_value c uses u ≡ true → Names (found_in c view n facts u)) → Names (line_found view.state facts (λ u. found_in c view n facts u) l)
          by_flank l true k e i rest = flank_names view.state facts (λ u. found_in c view n facts u) l k
          by_flank l false k e i rest =
              let p = and_parts (nat_le c.fields v) (has c.members (v - c.fields)) i in
              line_names view.state facts (is_meant_value c uses) (λ u. found_in c view n facts u) rest l (closed.lines (v - c.fields) l p.1 e k) k

          by_line : (o : Option Line) → c.line_of (v - c.fields) ≡ o → in_class c v ≡ true → ((u : ℕ) → is_meant_value c uses u ≡ true → Names (found_in c view n facts u)) → Names (line_found_if view.state facts (λ u. found_in c view n facts u) o)
          by_line None e i rest = (refl, refl)
          by_line (Some l) e i rest = by_flank l (is_flank l) refl e i rest

          by_case : (a o i : Bool) → in_class c v ≡ i → ((u : ℕ) → is_meant_value c uses u ≡ true → Names (found_in c view n facts u)) → Names (if a then found_as view.state facts (Is Keep) else if o then found_as view.state facts Other else if i then line_found_if view.state facts (λ u. found_in c view n facts u) (c.line_of (v - c.fields)) else found_as view.state facts (Is (Put (port.Container (c.container v)))))
          by_case true o i e rest = as_names view.state facts (Is Keep) refl
          by_case false true i e rest = as_names view.state facts Other refl
          by_case false false true e rest = by_line (c.line_of (v - c.fields)) refl e rest
          by_case false false false e rest =
              let used : has uses v ≡ true = ⊎_elim (λ (k : in_class c v ≡ true). absurd (cc)) (λ (k : has uses v ≡ true). k) (or_cases (in_class c v) (has uses v) h) in
              as_names view.state facts (Is (Put (port.Container (c.container v)))) (held v used)

      stored_names : (facts : List Fact) (o : Operand) → is_meant c uses o ≡ true → Names (found_operand c view facts o)
      stored_names facts o h =
          operand_names view.state facts (is_meant_value c uses) (λ v. found c view facts v) (λ v m. found_names (suc v) facts v m) o h

      abbrev tree_if : Option TreeForm → Bool
      tree_if None = true
      tree_if (Some t) = tree_names r t

      fork_names : (g : Guard) (a b : Option TreeForm) → guard_names g ≡ true → tree_if a ≡ true → tree_if b ≡ true → tree_if (fork_of g a b) ≡ true
      fork_names g (Some a) (Some b) e f h = and_from _ _ e (and_from _ _ f h)
      fork_names g (Some a) None e f h = refl
      fork_names g None b e f h = refl

      by_names : (a : Answer) (fork : Guard → Option TreeForm) → answer_names a ≡ true → ((g : Guard) → guard_names g ≡ true → tree_if (fork g) ≡ true) → tree_if (tree_by a fork) ≡ true
      by_names (Is l) fork e k = e
      by_names Other fork e k = refl
      by_names (Asks g) fork e k = k g e
      by_names Nothing fork e k = refl

      tree_of_names : (d : ℕ) (facts : List Fact) (o : Operand) → is_meant c uses o ≡ true → tree_if (tree_of c view d facts o) ≡ true
      tree_of_names zero facts o h = by_names _ (λ g. None) (stored_names facts o h).0 (λ g e. refl)
      tree_of_names (suc d) facts o h =
          by_names _ _ (stored_names facts o h).0
          (λ g e. fork_names g _ _ e (tree_of_names d (fact g true ∷ facts) o h) (tree_of_names d (fact g false ∷ facts) o h))

      slot_names : (o : Option Operand) → is_meant_if c uses o ≡ true → tree_if (slot_tree c view o) ≡ true
      slot_names None h = refl
      slot_names (Some o) h = tree_of_names 2 [] o h

    abbrev trees_if : Option TreesForm → Bool
    trees_if None = true
    trees_if (Some t) = trees_name r t

    one_names : (view : View) (o : Option TreeForm) → tree_if view o ≡ true → trees_if (one_tree o) ≡ true
    one_names view None e = refl
    one_names view (Some t) e = and_from _ _ e refl

    both_name : (view : View) (o p : Option TreeForm) → tree_if view o ≡ true → tree_if view p ≡ true → trees_if (both_trees o p) ≡ true
    both_name view None p e f = refl
    both_name view (Some t) None e f = refl
    both_name view (Some t) (Some u) e f = and_from _ _ e f

    slots_name : (slots : List Flanks) → list_all (λ s. is_meant_if c uses s.write) slots ≡ true → trees_if (trees_at c slots) ≡ true
    slots_name [] h = refl
    slots_name (s ∷ []) h =
        let p = and_parts (is_meant_if c uses s.write) true h in
        one_names (view_alone s) (slot_tree c (view_alone s) s.write) (slot_names (view_alone s) s.write p.0)
    slots_name (s ∷ t ∷ []) h =
        let p = and_parts (is_meant_if c uses s.write) _ h in
        let q = and_parts (is_meant_if c uses t.write) true p.1 in
        both_name (view_alone s) (slot_tree c (view_first s t) s.write) (slot_tree c (view_second s t) t.write) (slot_names (view_first s t) s.write p.0) (slot_names (view_second s t) t.write q.0)
    slots_name (s ∷ t ∷ u ∷ rest) h = refl

    all_name : trees_if (trees_of c) ≡ true
    all_name = by_case (list_all (λ s. is_outside c.fields c.members s.index) c.slots)
      where
        by_case : (b : Bool) → trees_if (if b then trees_at c c.slots else None) ≡ true
        by_case true = slots_name c.slots closed.stores
        by_case false = refl

    pub trees_named : (t : TreesForm) → trees_of c ≡ Some t → trees_name r t ≡ true
    trees_named t e = subst (λ (o : Option TreesForm). trees_if o ≡ true) e all_name

-- What is found of a value is so: the rules.
use Rattle.std.proofs.Common.{◌≡◌, ℕ, ◌+◌, ◌-◌, ◌%◌, ◌^◌, Bool, true, false, not, ◌&&◌, ◌||◌, nat_eq, List, [], ◌∷◌, Option, Some, None, refl, ap, ◌∙◌, subst, arith, if◌then◌else◌}
use Rattle.std.specs.List.{list_all}
use Rattle.std.proofs.Math.Nat.{add-mod-mod}
use Rattle.std.proofs.lemmas.Bool.{and_parts, eqb-true}
use Rattle.dom_words.specs.Operators.{bin_word, is_less, is_true, truth_of, un_word}
use Rattle.dom_words.specs.declared.operators.BinOp.{BinOp}
use Rattle.dom_words.specs.declared.operators.BinOp.TheVariants as bin
use Rattle.dom_words.specs.declared.operators.UnOp.{UnOp}
use Rattle.dom_words.specs.declared.operators.UnOp.TheVariants as un
use Rattle.dom_words.specs.State.{Hash}
use Rattle.dom_flat.specs.declared.line.Operand.{Operand}
use Rattle.dom_flat.specs.declared.line.Operand.TheVariants as operand
use Rattle.dom_flat.specs.declared.line.Line.{Line}
use Rattle.dom_flat.specs.declared.line.Line.TheVariants as line
use Rattle.dom_flat.specs.Lines.{is_flank, operands_of}
use Rattle.dom_flat.specs.Meaning.{operand_word, line_word}
use Rattle.atom_traits.specs.declared.tree.Port.{Port}
use Rattle.atom_traits.specs.declared.tree.Port.TheVariants as port
use Rattle.atom_traits.specs.declared.tree.Source.{Source}
use Rattle.atom_traits.specs.declared.tree.Source.TheVariants as source
use Rattle.atom_traits.specs.declared.tree.Rel.{Rel}
use Rattle.atom_traits.specs.declared.tree.Rel.TheVariants as rel
use Rattle.atom_traits.specs.declared.tree.Guard.{Guard}
use Rattle.atom_traits.specs.declared.tree.Leaf.{Leaf}
use Rattle.atom_traits.specs.declared.tree.Leaf.TheVariants.{Keep, Put, Add, Sub}
use Rattle.atom_traits.specs.Form.{port_word, source_word, old_word, guard_holds, leaf_word, relates}
use Rattle.atom_match.specs.declared.found.Answer.{Answer}
use Rattle.atom_match.specs.declared.found.Answer.TheVariants.{Is, Other, Asks, Nothing}
use Rattle.atom_match.specs.declared.found.Verdict.{Verdict}
use Rattle.atom_match.specs.declared.found.Verdict.TheVariants.{Holds, Fails, AsksFirst, Unknown}
use Rattle.atom_match.specs.declared.found.Found.{Found}
use Rattle.atom_match.specs.declared.found.Fact.{Fact}
use Rattle.atom_match.specs.Classes.{other_state}
use Rattle.atom_match.specs.Table.{operand_passes}
use Rattle.atom_match.specs.Rules.{same_source, same_rel, same_guard, opposite, verdict_is, ask, question_of, first_question, unless_asked, verdict_unless_asked, port_source, joined, sum_ports, sum_leaves, keep_less, difference_ports, difference_leaves, of_leaves, choose_answer, and_verdict, or_verdict, leaf_source, answer_source, asks_less, asks_equal, source_verdict, found_as, compared, of_sources, related, found_true, un_found, bin_found, operand_found, line_found}

same_source_is : (s t : Source) → same_source s t ≡ true → s ≡ t
same_source_is (source.Const a) (source.Const b) e = ap source.Const (eqb-true a b e)
same_source_is (source.Const a) (source.Container b) e = absurd (cc)
same_source_is (source.Const a) (source.State b) e = absurd (cc)
same_source_is (source.Container a) (source.Const b) e = absurd (cc)
same_source_is (source.Container a) (source.Container b) e = ap source.Container (eqb-true a b e)
same_source_is (source.Container a) (source.State b) e = absurd (cc)
same_source_is (source.State a) (source.Const b) e = absurd (cc)
same_source_is (source.State a) (source.Container b) e = absurd (cc)
same_source_is (source.State a) (source.State b) e = ap source.State (eqb-true a b e)

same_rel_is : (r s : Rel) → same_rel r s ≡ true → r ≡ s
same_rel_is rel.Lt rel.Lt e = refl
same_rel_is rel.Lt rel.Eq e = absurd (cc)
same_rel_is rel.Eq rel.Lt e = absurd (cc)
same_rel_is rel.Eq rel.Eq e = refl

-- what a verdict says of a test
abbrev pub Says : Verdict → Bool → Type 0
Says Holds b = b ≡ true
Says Fails b = b ≡ false
Says (AsksFirst g) b = Unit {0}
Says Unknown b = Unit {0}

opposite_says : (v : Verdict) (b : Bool) → Says v b → Says (opposite v) (not b)
opposite_says Holds b e = ap not e
opposite_says Fails b e = ap not e
opposite_says (AsksFirst g) b e = tt
opposite_says Unknown b e = tt

verdict_is_says : (b c : Bool) → c ≡ b → Says (verdict_is b) c
verdict_is_says true c e = e
verdict_is_says false c e = e

and_says : (v w : Verdict) (a b : Bool) → Says v a → Says w b → Says (and_verdict v w) (a && b)
and_says Holds w true b e f = f
and_says Holds w false b e f = absurd (cc)
and_says Fails w true b e f = absurd (cc)
and_says Fails w false b e f = refl
and_says (AsksFirst g) w a b e f = tt
and_says Unknown w a b e f = tt

or_says : (v w : Verdict) (a b : Bool) → Says v a → Says w b → Says (or_verdict v w) (a || b)
or_says Holds w true b e f = refl
or_says Holds w false b e f = absurd (cc)
or_says Fails w true b e f = absurd (cc)
or_says Fails w false b e f = f
or_says (AsksFirst g) w a b e f = tt
or_says Unknown w a b e f = tt

truth_is : (b : Bool) → b ≡ is_true (truth_of b)
truth_is true = refl
truth_is false = refl

not_is : (w : ℕ) → not (is_true w) ≡ nat_eq w 0
not_is w = by_case (nat_eq w 0)
  where
    by_case : (b : Bool) → not (not b) ≡ b
    by_case true = refl
    by_case false = refl

module _ (olds words : List ℕ) where
  -- the facts are so
  abbrev pub AreSo : List Fact → Type 0
  AreSo [] = Unit {0}
  AreSo (f ∷ facts) = (guard_holds f.guard olds words ≡ f.holds) × AreSo facts

  same_holds : (g h : Guard) → same_guard g h ≡ true → guard_holds g olds words ≡ guard_holds h olds words
  same_holds g h e =
      let p = and_parts _ _ e in let q = and_parts _ _ p.1 in
      let r = same_rel_is g.rel h.rel p.0 in let s = same_source_is g.left h.left q.0 in let t = same_source_is g.right h.right q.1 in
      ap (λ (x : Rel). relates x (source_word g.left olds words) (source_word g.right olds words)) r
      ∙ ap (λ (x : Source). relates h.rel (source_word x olds words) (source_word g.right olds words)) s
      ∙ ap (λ (x : Source). relates h.rel (source_word h.left olds words) (source_word x olds words)) t

  pub ask_says : (facts : List Fact) (g : Guard) → AreSo facts → Says (ask facts g) (guard_holds g olds words)
  ask_says [] g so = tt
  ask_says (f ∷ facts) g so = by_case (same_guard g f.guard) refl (ask_says facts g so.1)
    where
      by_case : (b : Bool) → same_guard g f.guard ≡ b → Says (ask facts g) (guard_holds g olds words) → Says (if b then verdict_is f.holds else ask facts g) (guard_holds g olds words)
      by_case true e rest = verdict_is_says f.holds _ (same_holds g f.guard e ∙ so.0)
      by_case false e rest = rest

  port_source_word : (p : Port) → source_word (port_source p) olds words ≡ port_word p words
  port_source_word (port.Const w) = refl
  port_source_word (port.Container c) = refl

  module _ (state : ℕ) where
    abbrev pub own : ℕ
    own = old_word state olds

    -- what an answer says of a word
    abbrev pub SaysAnswer : Answer → ℕ → Type 0
    SaysAnswer (Is leaf) w = leaf_word leaf own words ≡ w
    SaysAnswer Other w = old_word (other_state state) olds ≡ w
    SaysAnswer (Asks g) w = Unit {0}
    SaysAnswer Nothing w = Unit {0}

    abbrev pub SaysFound : Found → ℕ → Type 0
    SaysFound f w = SaysAnswer f.answer w × Says f.verdict (is_true w)

    unless_says : (q : Option Guard) (a : Answer) (w : ℕ) → SaysAnswer a w → SaysAnswer (unless_asked q a) w
    unless_says None a w e = e
    unless_says (Some g) a w e = tt

    verdict_unless_says : (q : Option Guard) (v : Verdict) (b : Bool) → Says v b → Says (verdict_unless_asked q v) b
    verdict_unless_says None v b e = e
    verdict_unless_says (Some g) v b e = tt

    -- what a source says of a word
    abbrev SaysSource : Option Source → ℕ → Type 0
    SaysSource None w = Unit {0}
    SaysSource (Some s) w = source_word s olds words ≡ w

    module _ (facts : List Fact) (so : AreSo facts) where
      leaf_source_says : (l : Leaf) (w : ℕ) → leaf_word l own words ≡ w → SaysSource (leaf_source state l) w
      leaf_source_says Keep w e = e
      leaf_source_says (Put p) w e = port_source_word p ∙ e
      leaf_source_says (Add p) w e = tt
      leaf_source_says (Sub p) w e = tt

      source_says : (a : Answer) (w : ℕ) → SaysAnswer a w → SaysSource (answer_source state a) w
      source_says (Is l) w e = leaf_source_says l w e
      source_says Other w e = e
      source_says (Asks g) w e = tt
      source_says Nothing w e = tt

      less_says : (s t : Source) → Says (asks_less facts s t) (is_less (source_word s olds words) (source_word t olds words))
      less_says s t = ask_says facts (record { rel = rel.Lt; left = s; right = t }) so

      equal_says : (s t : Source) → Says (asks_equal facts s t) (nat_eq (source_word s olds words) (source_word t olds words))
      equal_says s t = ask_says facts (record { rel = rel.Eq; left = s; right = t }) so

      zero_says : (o : Option Source) (w : ℕ) → SaysSource o w → Says (source_verdict facts o) (is_true w)
      zero_says None w e = tt
      zero_says (Some s) w e =
          subst (λ x. Says (opposite (asks_equal facts s (source.Const 0))) (not (nat_eq x 0))) e (opposite_says _ _ (equal_says s (source.Const 0)))

      pub as_says : (a : Answer) (w : ℕ) → SaysAnswer a w → SaysFound (found_as state facts a) w
      as_says a w e = (e, verdict_unless_says (question_of a) _ _ (zero_says (answer_source state a) w (source_says a w e)))

      -- a rule on leaves that is right for an operator
      abbrev IsRule : (Leaf → Leaf → Answer) → BinOp → Type 0
      IsRule rule op =
          (a b : Leaf) (v w : ℕ) → leaf_word a own words ≡ v → leaf_word b own words ≡ w → SaysAnswer (rule a b) (bin_word op v w)

      leaves_say : (rule : Leaf → Leaf → Answer) (op : BinOp) → IsRule rule op → (a b : Answer) (v w : ℕ) → SaysAnswer a v → SaysAnswer b w → SaysAnswer (of_leaves rule a b) (bin_word op v w)
      leaves_say rule op h (Is a) (Is b) v w e f = h a b v w e f
      leaves_say rule op h (Is a) Other v w e f = tt
      leaves_say rule op h (Is a) (Asks g) v w e f = tt
      leaves_say rule op h (Is a) Nothing v w e f = tt
      leaves_say rule op h Other b v w e f = tt
      leaves_say rule op h (Asks g) b v w e f = tt
      leaves_say rule op h Nothing b v w e f = tt

      joined_says : (rule : Leaf → Leaf → Answer) (op : BinOp) → IsRule rule op → (a b : Found) (v w : ℕ) → SaysFound a v → SaysFound b w → SaysFound (found_as state facts (joined (of_leaves rule) a.answer b.answer)) (bin_word op v w)
      joined_says rule op h a b v w e f =
          as_says _ _ (unless_says (first_question (question_of a.answer) (question_of b.answer)) _ _ (leaves_say rule op h a.answer b.answer v w e.0 f.0))

      sum_ports_say : (p q : Port) (v w : ℕ) → port_word p words ≡ v → port_word q words ≡ w → SaysAnswer (sum_ports p q) (bin_word bin.Add v w)
      sum_ports_say (port.Const a) (port.Const b) v w e f = ap (λ x. bin_word bin.Add x b) e ∙ ap (bin_word bin.Add v) f
      sum_ports_say (port.Const a) (port.Container b) v w e f = tt
      sum_ports_say (port.Container a) q v w e f = tt

      sum_says : IsRule sum_leaves bin.Add
      sum_says Keep Keep v w e f = tt
      sum_says Keep (Put p) v w e f = ap (λ x. bin_word bin.Add x (port_word p words)) e ∙ ap (bin_word bin.Add v) f
      sum_says Keep (Add p) v w e f = tt
      sum_says Keep (Sub p) v w e f = tt
      sum_says (Put p) Keep v w e f =
          let swap : own + port_word p words ≡ port_word p words + own = omega arith in
          ap (λ x. x % 2 ^ 32) swap ∙ ap (λ x. bin_word bin.Add x own) e ∙ ap (bin_word bin.Add v) f
      sum_says (Put p) (Put q) v w e f = sum_ports_say p q v w e f
      sum_says (Put p) (Add q) v w e f = tt
      sum_says (Put p) (Sub q) v w e f = tt
      sum_says (Add p) b v w e f = tt
      sum_says (Sub p) b v w e f = tt

      keep_less_says : (p : Port) → SaysAnswer (keep_less p) (bin_word bin.Sub own (port_word p words))
      keep_less_says (port.Const w) = add-mod-mod own (2 ^ 32 - w) (2 ^ 32)
      keep_less_says (port.Container c) = refl

      difference_ports_say : (p q : Port) (v w : ℕ) → port_word p words ≡ v → port_word q words ≡ w → SaysAnswer (difference_ports p q) (bin_word bin.Sub v w)
      difference_ports_say (port.Const a) (port.Const b) v w e f = ap (λ x. bin_word bin.Sub x b) e ∙ ap (bin_word bin.Sub v) f
      difference_ports_say (port.Const a) (port.Container b) v w e f = tt
      difference_ports_say (port.Container a) q v w e f = tt

      difference_says : IsRule difference_leaves bin.Sub
      difference_says Keep Keep v w e f = tt
      difference_says Keep (Put p) v w e f =
          subst (SaysAnswer (keep_less p)) (ap (λ x. bin_word bin.Sub x (port_word p words)) e ∙ ap (bin_word bin.Sub v) f) (keep_less_says p)
      difference_says Keep (Add p) v w e f = tt
      difference_says Keep (Sub p) v w e f = tt
      difference_says (Put p) Keep v w e f = tt
      difference_says (Put p) (Put q) v w e f = difference_ports_say p q v w e f
      difference_says (Put p) (Add q) v w e f = tt
      difference_says (Put p) (Sub q) v w e f = tt
      difference_says (Add p) b v w e f = tt
      difference_says (Sub p) b v w e f = tt

      -- a relation that is right for a test
      abbrev IsRelation : BinOp → (ℕ → ℕ → Bool) → Type 0
      IsRelation op test =
          (s t : Source) → Says (compared facts op s t) (test (source_word s olds words) (source_word t olds words))

      sources_say : (op : BinOp) (test : ℕ → ℕ → Bool) → IsRelation op test → (s t : Option Source) (v w : ℕ) → SaysSource s v → SaysSource t w → Says (of_sources facts op s t) (test v w)
      sources_say op test h (Some s) (Some t) v w e f =
          subst (Says (compared facts op s t)) (ap (λ x. test x (source_word t olds words)) e ∙ ap (test v) f) (h s t)
      sources_say op test h (Some s) None v w e f = tt
      sources_say op test h None t v w e f = tt

      related_says : (op : BinOp) (test : ℕ → ℕ → Bool) → IsRelation op test → (a b : Found) (v w : ℕ) → SaysFound a v → SaysFound b w → SaysFound (found_true (related state facts op a.answer b.answer)) (truth_of (test v w))
      related_says op test h a b v w e f =
          (tt, subst (Says (related state facts op a.answer b.answer)) (truth_is (test v w)) (verdict_unless_says (first_question (question_of a.answer) (question_of b.answer)) _ _ (sources_say op test h (answer_source state a.answer) (answer_source state b.answer) v w (source_says a.answer v e.0) (source_says b.answer w f.0))))

      un_says : (op : UnOp) (a : Found) (v : ℕ) → SaysFound a v → SaysFound (un_found op a) (un_word op v)
      un_says un.Neg a v e = (tt, tt)
      un_says un.Inv a v e = (tt, tt)
      un_says un.Not a v e =
          (tt, subst (Says (opposite a.verdict)) (not_is v ∙ truth_is (nat_eq v 0)) (opposite_says a.verdict (is_true v) e.1))

      bin_says : (op : BinOp) (a b : Found) (v w : ℕ) → SaysFound a v → SaysFound b w → SaysFound (bin_found state facts op a b) (bin_word op v w)
      bin_says bin.Mul a b v w e f = (tt, tt)
      bin_says bin.Div a b v w e f = (tt, tt)
      bin_says bin.Rem a b v w e f = (tt, tt)
      bin_says bin.Add a b v w e f = joined_says sum_leaves bin.Add sum_says a b v w e f
      bin_says bin.Sub a b v w e f = joined_says difference_leaves bin.Sub difference_says a b v w e f
      bin_says bin.Shl a b v w e f = (tt, tt)
      bin_says bin.Shr a b v w e f = (tt, tt)
      bin_says bin.Lt a b v w e f = related_says bin.Lt is_less less_says a b v w e f
      bin_says bin.Le a b v w e f =
          related_says bin.Le (λ x y. not (is_less y x)) (λ s t. opposite_says _ _ (less_says t s)) a b v w e f
      bin_says bin.Gt a b v w e f = related_says bin.Gt (λ x y. is_less y x) (λ s t. less_says t s) a b v w e f
      bin_says bin.Ge a b v w e f =
          related_says bin.Ge (λ x y. not (is_less x y)) (λ s t. opposite_says _ _ (less_says s t)) a b v w e f
      bin_says bin.Eq a b v w e f = related_says bin.Eq nat_eq equal_says a b v w e f
      bin_says bin.Ne a b v w e f =
          related_says bin.Ne (λ x y. not (nat_eq x y)) (λ s t. opposite_says _ _ (equal_says s t)) a b v w e f
      bin_says bin.BitAnd a b v w e f = (tt, tt)
      bin_says bin.BitXor a b v w e f = (tt, tt)
      bin_says bin.BitOr a b v w e f = (tt, tt)
      bin_says bin.And a b v w e f =
          (tt, subst (Says (and_verdict a.verdict b.verdict)) (truth_is (is_true v && is_true w)) (and_says a.verdict b.verdict _ _ e.1 f.1))
      bin_says bin.Or a b v w e f =
          (tt, subst (Says (or_verdict a.verdict b.verdict)) (truth_is (is_true v || is_true w)) (or_says a.verdict b.verdict _ _ e.1 f.1))

      choose_says : (c : Verdict) (a b : Answer) (z : Bool) (v w : ℕ) → Says c z → SaysAnswer a v → SaysAnswer b w → SaysAnswer (choose_answer c a b) (if z then v else w)
      choose_says Holds a b true v w h e f = e
      choose_says Holds a b false v w h e f = absurd (cc)
      choose_says Fails a b true v w h e f = absurd (cc)
      choose_says Fails a b false v w h e f = f
      choose_says (AsksFirst g) a b z v w h e f = tt
      choose_says Unknown a b z v w h e f = tt

      -- ok: the values of which f is right
      module _ (val : ℕ → ℕ) (ok : ℕ → Bool) (f : ℕ → Found) (known : (v : ℕ) → ok v ≡ true → SaysFound (f v) (val v)) where
        pub operand_says : (o : Operand) → operand_passes ok o ≡ true → SaysFound (operand_found state facts f o) (operand_word o val)
        operand_says (operand.Const w) h = as_says (Is (Put (port.Const w))) w refl
        operand_says (operand.Value v) h = known v h

        pub line_says : (hash : Hash) (l : Line) → list_all (operand_passes ok) (operands_of l) ≡ true → is_flank l ≡ false → SaysFound (line_found state facts f l) (line_word hash l [] val)
        line_says hash (line.Fetch array i) h n = absurd (cc)
        line_says hash (line.Store array i value) h n = absurd (cc)
        line_says hash (line.Un op a) h n = un_says op _ _ (operand_says a (and_parts (operand_passes ok a) true h).0)
        line_says hash (line.Bin op a b) h n =
            let p = and_parts (operand_passes ok a) _ h in let q = and_parts (operand_passes ok b) true p.1 in
            bin_says op _ _ _ _ (operand_says a p.0) (operand_says b q.0)
        line_says hash (line.Cond c a b) h n =
            let p = and_parts (operand_passes ok c) _ h in let q = and_parts (operand_passes ok a) _ p.1 in let r = and_parts (operand_passes ok b) true q.1 in
            as_says _ _ (choose_says _ _ _ (is_true (operand_word c val)) _ _ (operand_says c p.0).1 (operand_says a q.0).0 (operand_says b r.0).0)
        line_says hash (line.Hash unit modulus args) h n = (tt, tt)

      -- of a flank nothing is found
      pub flank_says : (f : ℕ → Found) (l : Line) (w : ℕ) → is_flank l ≡ true → SaysFound (line_found state facts f l) w
      flank_says f (line.Fetch array i) w e = (tt, tt)
      flank_says f (line.Store array i value) w e = (tt, tt)
      flank_says f (line.Un op a) w e = absurd (cc)
      flank_says f (line.Bin op a b) w e = absurd (cc)
      flank_says f (line.Cond c a b) w e = absurd (cc)
      flank_says f (line.Hash unit modulus args) w e = absurd (cc)

-- Trees mean their class.
use Rattle.std.proofs.Common.{◌≡◌, ℕ, zero, suc, ◌+◌, ◌-◌, Bool, true, false, nat_eq, nat_le, List, [], ◌∷◌, Option, Some, None, refl, sym, ap, ◌∙◌, subst, arith, if◌then◌else◌, ⊎_elim}
use Rattle.std.specs.Prelude.{slice_index, map}
use Rattle.std.specs.List.{AllByRecursion as Every, list_all}
use Rattle.std.proofs.lemmas.Bool.{and_parts, eqb-true, leb-true, or_cases}
use Rattle.dom_words.specs.State.{Hash}
use Rattle.dom_flat.specs.declared.line.Operand.{Operand}
use Rattle.dom_flat.specs.declared.line.Line.{Line}
use Rattle.dom_flat.specs.Lines.{is_flank}
use Rattle.dom_flat.specs.Meaning.{operand_word}
use Rattle.atom_traits.specs.declared.tree.Port.TheVariants as port
use Rattle.atom_traits.specs.declared.tree.Guard.{Guard}
use Rattle.atom_traits.specs.declared.tree.Leaf.TheVariants.{Keep, Put}
use Rattle.atom_traits.specs.Form.{TreeForm, TreesForm, old_word, guard_holds, word_of, words_of, two_of}
use Rattle.atom_match.specs.declared.found.Answer.{Answer}
use Rattle.atom_match.specs.declared.found.Answer.TheVariants.{Is, Other, Asks, Nothing}
use Rattle.atom_match.specs.declared.found.Fact.{Fact}
use Rattle.atom_match.specs.declared.class.Flanks.{Flanks}
use Rattle.atom_match.specs.declared.class.View.{View}
use Rattle.atom_match.specs.Classes.{Class, in_class, is_outside, is_some_value, other_state, view_alone, view_first, view_second}
use Rattle.codelets.specs.Lists.{has}
use Rattle.atom_match.specs.Rules.{found_as, line_found, line_found_if}
use Rattle.atom_match.specs.Resolve.{found_in, found, found_operand, fork_of, fact, tree_by, tree_of, slot_tree, one_tree, both_trees, trees_at, trees_of}
use Rattle.atom_match.specs.Meaning.{stored_word}
use Rattle.atom_match.proofs.ClassMeaning.{is_meant_value, is_meant, is_meant_if, IsClosed, ClassMakes, MeansClass}
use Rattle.atom_match.proofs.Says.{AreSo, SaysAnswer, SaysFound, as_says, operand_says, line_says, flank_says}

every_has : (P : ℕ → Type 0) (xs : List ℕ) (v : ℕ) → has xs v ≡ true → Every P xs → P v
every_has P [] v e p = absurd (cc)
every_has P (x ∷ xs) v e p =
    ⊎_elim (λ (h : nat_eq v x ≡ true). subst P (sym (eqb-true v x h)) p.0) (λ (h : has xs v ≡ true). every_has P xs v h p.1) (or_cases (nat_eq v x) (has xs v) e)

-- what a tree says of a word
abbrev pub TreeSays : List ℕ → List ℕ → ℕ → Option TreeForm → ℕ → Type 0
TreeSays two words state None w = Unit {0}
TreeSays two words state (Some t) w = word_of t (old_word state two) two words ≡ w

-- what both say of two words
abbrev pub TreesSay : List ℕ → List ℕ → Option TreesForm → List ℕ → Type 0
TreesSay two words None new = Unit {0}
TreesSay two words (Some t) new = words_of t two words ≡ new

one_says : (words : List ℕ) (x w : ℕ) (o : Option TreeForm) → TreeSays (x ∷ 0 ∷ []) words 0 o w → TreesSay (x ∷ 0 ∷ []) words (one_tree o) (w ∷ 0 ∷ [])
one_says words x w None h = tt
one_says words x w (Some t) h = ap (λ y. y ∷ 0 ∷ []) h

both_say : (words : List ℕ) (x y v w : ℕ) (o p : Option TreeForm) → TreeSays (x ∷ y ∷ []) words 0 o v → TreeSays (x ∷ y ∷ []) words 1 p w → TreesSay (x ∷ y ∷ []) words (both_trees o p) (v ∷ w ∷ [])
both_say words x y v w None p h k = tt
both_say words x y v w (Some t) None h k = tt
both_say words x y v w (Some t) (Some u) h k =
    ap (λ z. z ∷ word_of u y (x ∷ y ∷ []) words ∷ []) h ∙ ap (λ z. v ∷ z ∷ []) k

module _ (hash : Hash) (c : Class) (uses olds words : List ℕ) (val : ℕ → ℕ) (closed : IsClosed c uses) (makes : ClassMakes hash c uses olds words val) where
  -- the old words are in their places
  record IsSeen (view : View) (two : List ℕ) : Type 0 where
    pub own : old_word view.state two ≡ val view.read
    pub other : (v : ℕ) → is_some_value view.other v ≡ true → old_word (other_state view.state) two ≡ val v

  module _ (two : List ℕ) (view : View) (seen : IsSeen view two) where
    found_says : (n : ℕ) (facts : List Fact) → AreSo two words facts → (v : ℕ) → is_meant_value c uses v ≡ true → SaysFound two words view.state (found_in c view n facts v) (val v)
    found_says zero facts so v h = (tt, tt)
    found_says (suc n) facts so v h = by_read (nat_eq v view.read) refl (found_says n facts so)
      where
        by_flank : (l : Line) (b : Bool) → is_flank l ≡ b → c.line_of (v - c.fields) ≡ Some l → in_class c v ≡ true → ((u : ℕ) → is_meant_value c uses u ≡ true → SaysFound two words view.state (found_in c view n facts u) (val u)) → SaysFound two words view.state (line_found view.state facts (λ u. found_in c view n facts u) l) (val v)
        by_flank l true k e i rest =
            flank_says two words view.state facts so (λ u. found_in c view n facts u) l (val v) k
        by_flank l false k e i rest =
            let p = and_parts (nat_le c.fields v) (has c.members (v - c.fields)) i in
            let le = leb-true c.fields v p.0 in
            let at : c.fields + (v - c.fields) ≡ v = omega arith in
            subst (SaysFound two words view.state (line_found view.state facts (λ u. found_in c view n facts u) l)) (sym (makes.made (v - c.fields) l p.1 e k) ∙ ap val at) (line_says two words view.state facts so val (is_meant_value c uses) (λ u. found_in c view n facts u) rest hash l (closed.lines (v - c.fields) l p.1 e k) k)

        by_line : (o : Option Line) → c.line_of (v - c.fields) ≡ o → in_class c v ≡ true → ((u : ℕ) → is_meant_value c uses u ≡ true → SaysFound two words view.state (found_in c view n facts u) (val u)) → SaysFound two words view.state (line_found_if view.state facts (λ u. found_in c view n facts u) o) (val v)
        by_line None e i rest = (tt, tt)
        by_line (Some l) e i rest = by_flank l (is_flank l) refl e i rest

        by_class : (b : Bool) → in_class c v ≡ b → ((u : ℕ) → is_meant_value c uses u ≡ true → SaysFound two words view.state (found_in c view n facts u) (val u)) → SaysFound two words view.state (if b then line_found_if view.state facts (λ u. found_in c view n facts u) (c.line_of (v - c.fields)) else found_as view.state facts (Is (Put (port.Container (c.container v))))) (val v)
        by_class true e rest = by_line (c.line_of (v - c.fields)) refl e rest
        by_class false e rest =
            let used : has uses v ≡ true = ⊎_elim (λ (k : in_class c v ≡ true). absurd (cc)) (λ (k : has uses v ≡ true). k) (or_cases (in_class c v) (has uses v) h) in
            as_says two words view.state facts so (Is (Put (port.Container (c.container v)))) (val v) (every_has (λ u. slice_index words (c.container u) ≡ val u) uses v used makes.outside)

        by_other : (b : Bool) → is_some_value view.other v ≡ b → ((u : ℕ) → is_meant_value c uses u ≡ true → SaysFound two words view.state (found_in c view n facts u) (val u)) → SaysFound two words view.state (if b then found_as view.state facts Other else if in_class c v then line_found_if view.state facts (λ u. found_in c view n facts u) (c.line_of (v - c.fields)) else found_as view.state facts (Is (Put (port.Container (c.container v))))) (val v)
        by_other true e rest = as_says two words view.state facts so Other (val v) (seen.other v e)
        by_other false e rest = by_class (in_class c v) refl rest

        by_read : (b : Bool) → nat_eq v view.read ≡ b → ((u : ℕ) → is_meant_value c uses u ≡ true → SaysFound two words view.state (found_in c view n facts u) (val u)) → SaysFound two words view.state (if b then found_as view.state facts (Is Keep) else if is_some_value view.other v then found_as view.state facts Other else if in_class c v then line_found_if view.state facts (λ u. found_in c view n facts u) (c.line_of (v - c.fields)) else found_as view.state facts (Is (Put (port.Container (c.container v))))) (val v)
        by_read true e rest = as_says two words view.state facts so (Is Keep) (val v) (seen.own ∙ ap val (sym (eqb-true v view.read e)))
        by_read false e rest = by_other (is_some_value view.other v) refl rest

    stored_says : (facts : List Fact) → AreSo two words facts → (o : Operand) → is_meant c uses o ≡ true → SaysFound two words view.state (found_operand c view facts o) (operand_word o val)
    stored_says facts so o h =
        operand_says two words view.state facts so val (is_meant_value c uses) (λ v. found c view facts v) (λ v m. found_says (suc v) facts so v m) o h

    fork_says : (g : Guard) (a b : Option TreeForm) (w : ℕ) → (guard_holds g two words ≡ true → TreeSays two words view.state a w) → (guard_holds g two words ≡ false → TreeSays two words view.state b w) → TreeSays two words view.state (fork_of g a b) w
    fork_says g (Some a) (Some b) w h k = by_case (guard_holds g two words) h k
      where
        by_case : (z : Bool) → (z ≡ true → word_of a (old_word view.state two) two words ≡ w) → (z ≡ false → word_of b (old_word view.state two) two words ≡ w) → (if z then word_of a (old_word view.state two) two words else word_of b (old_word view.state two) two words) ≡ w
        by_case true h k = h refl
        by_case false h k = k refl
    fork_says g (Some a) None w h k = tt
    fork_says g None b w h k = tt

    by_says : (a : Answer) (fork : Guard → Option TreeForm) (w : ℕ) → SaysAnswer two words view.state a w → ((g : Guard) → TreeSays two words view.state (fork g) w) → TreeSays two words view.state (tree_by a fork) w
    by_says (Is l) fork w e k = e
    by_says Other fork w e k = tt
    by_says (Asks g) fork w e k = k g
    by_says Nothing fork w e k = tt

    tree_says : (d : ℕ) (facts : List Fact) → AreSo two words facts → (o : Operand) → is_meant c uses o ≡ true → TreeSays two words view.state (tree_of c view d facts o) (operand_word o val)
    tree_says zero facts so o h = by_says _ (λ g. None) _ (stored_says facts so o h).0 (λ g. tt)
    tree_says (suc d) facts so o h =
        by_says _ _ _ (stored_says facts so o h).0
        (λ g. fork_says g _ _ _ (λ e. tree_says d (fact g true ∷ facts) (e, so) o h) (λ e. tree_says d (fact g false ∷ facts) (e, so) o h))

    slot_says : (o : Option Operand) → is_meant_if c uses o ≡ true → TreeSays two words view.state (slot_tree c view o) (stored_word o view.read val)
    slot_says None h = seen.own
    slot_says (Some o) h = tree_says 2 [] tt o h

  slots_say : (slots : List Flanks) → list_all (λ s. is_meant_if c uses s.write) slots ≡ true
      → TreesSay (two_of (map (λ s. val s.read) slots)) words (trees_at c slots) (two_of (map (λ s. stored_word s.write s.read val) slots))
  slots_say [] h = tt
  slots_say (s ∷ []) h =
      let p = and_parts (is_meant_if c uses s.write) true h in
      one_says words (val s.read) _ (slot_tree c (view_alone s) s.write) (slot_says (val s.read ∷ 0 ∷ []) (view_alone s) (record { own = refl; other = λ v e. absurd (cc) }) s.write p.0)
  slots_say (s ∷ t ∷ []) h =
      let p = and_parts (is_meant_if c uses s.write) _ h in
      let q = and_parts (is_meant_if c uses t.write) true p.1 in
      let two : List ℕ = val s.read ∷ val t.read ∷ [] in
      both_say words (val s.read) (val t.read) _ _ (slot_tree c (view_first s t) s.write) (slot_tree c (view_second s t) t.write) (slot_says two (view_first s t) (record { own = refl; other = λ v e. ap val (sym (eqb-true v t.read e)) }) s.write p.0) (slot_says two (view_second s t) (record { own = refl; other = λ v e. ap val (sym (eqb-true v s.read e)) }) t.write q.0)
  slots_say (s ∷ t ∷ u ∷ rest) h = tt

  all_say : TreesSay (two_of olds) words (trees_of c) (two_of (map (λ s. stored_word s.write s.read val) c.slots))
  all_say = by_case (list_all (λ s. is_outside c.fields c.members s.index) c.slots)
    where
      by_case : (b : Bool) → TreesSay (two_of olds) words (if b then trees_at c c.slots else None) (two_of (map (λ s. stored_word s.write s.read val) c.slots))
      by_case true =
          subst (λ (xs : List ℕ). TreesSay (two_of xs) words (trees_at c c.slots) (two_of (map (λ s. stored_word s.write s.read val) c.slots))) makes.old (slots_say c.slots closed.stores)
      by_case false = tt

-- the trees of a class mean what it stores
pub trees_mean : (c : Class) (uses : List ℕ) → IsClosed c uses → (t : TreesForm) → trees_of c ≡ Some t → MeansClass c uses t
trees_mean c uses closed t e hash olds words val makes =
    subst (λ (o : Option TreesForm). TreesSay (two_of olds) words o (two_of (map (λ s. stored_word s.write s.read val) c.slots))) e (all_say hash c uses olds words val closed makes)

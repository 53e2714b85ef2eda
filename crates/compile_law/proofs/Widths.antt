-- A stage has as many atoms of a kind as codelets of that kind were placed at it.
use Rattle.std.proofs.Common.{◌≡◌, ℕ, ◌+◌, Bool, true, false, not, ◌&&◌, nat_eq, cond, fold, Option, Some, None, List, [], ◌∷◌, ◌++◌, length, map, sym, ap, ◌∙◌, arith, ⊎_elim}
use Rattle.std.specs.List.{flat_map}
use Rattle.std.proofs.lemmas.Bool.{cases_eq, eq-eqb, ne_eqb}
use Rattle.codelets.specs.declared.answer.Codelets.{Codelets}
use Rattle.codelets.specs.declared.codelet.Codelet.{Codelet}
use Rattle.codelets.specs.declared.codelet.Kind.{Kind}
use Rattle.codelets.specs.declared.codelet.Kind.TheVariants.{Stateless as StatelessKind, Stateful as StatefulKind}
use Rattle.stage_plan.specs.declared.place.Place.{Place}
use Rattle.stage_plan.specs.Schedule.{atoms_at, is_kind, stands_at}
use Rattle.atom_traits.specs.declared.operation.StatelessOp.{StatelessOp}
use Rattle.atom_traits.specs.Form.{TreesForm}
use Rattle.atom_match.specs.Atoms.{AtomForm as Does, Operates, Updates, atom_by, atom_of, codelet_operator}
use Rattle.atom_match.specs.Classes.{class_of}
use Rattle.atom_match.specs.Resolve.{trees_of}
use Rattle.banzai_config.specs.declared.parts.OpAtom.{OpAtom}
use Rattle.banzai_config.specs.Parts.{AtomForm}
use Rattle.compile_law.specs.Compiled.{AreAtomsOf, if_at, part_of, stage_at, staged, staged_by, stateful_of, stateless_of}

abbrev operates : Does → Bool
operates (Operates o) = true
operates (Updates t) = false

-- the kind of a codelet is that of its atom
stateless_kind : (kind : Kind) (o : Option StatelessOp) (t : Option TreesForm) (a : Does) → atom_by kind o t ≡ Some a → is_kind StatelessKind kind ≡ operates a
stateless_kind StatelessKind None t a e = absurd (cc)
stateless_kind StatelessKind (Some o) t a e = let same : Operates o ≡ a = cc in ap operates same
stateless_kind StatefulKind o None a e = absurd (cc)
stateless_kind StatefulKind o (Some t) a e = let same : Updates t ≡ a = cc in ap operates same

stateful_kind : (kind : Kind) (o : Option StatelessOp) (t : Option TreesForm) (a : Does) → atom_by kind o t ≡ Some a → is_kind StatefulKind kind ≡ not (operates a)
stateful_kind StatelessKind None t a e = absurd (cc)
stateful_kind StatelessKind (Some o) t a e = let same : Operates o ≡ a = cc in ap (λ (d : Does). not (operates d)) same
stateful_kind StatefulKind o None a e = absurd (cc)
stateful_kind StatefulKind o (Some t) a e = let same : Updates t ≡ a = cc in ap (λ (d : Does). not (operates d)) same

same_test : (a b : ℕ) → nat_eq a b ≡ nat_eq b a
same_test a b = ⊎_elim (λ is. eq-eqb a b is ∙ sym (eq-eqb b a (sym is))) (λ ne. ne_eqb a b ne ∙ sym (ne_eqb b a (λ is. ne (sym is)))) (cases_eq a b)

plus_none : (n : ℕ) → n ≡ 0 + n
plus_none n = omega arith

module _ (cs : Codelets) (k : ℕ) where
  stateless_here : (c : Codelet) (a : Does) (b : Bool) (xs : List OpAtom) → length (cond b (stateless_of (part_of cs c a)) [] ++ xs) ≡ cond (operates a && b) 1 0 + length xs
  stateless_here c (Operates o) true xs = omega arith
  stateless_here c (Operates o) false xs = omega arith
  stateless_here c (Updates t) true xs = omega arith
  stateless_here c (Updates t) false xs = omega arith

  stateful_here : (c : Codelet) (a : Does) (b : Bool) (xs : List AtomForm) → length (cond b (stateful_of (part_of cs c a)) [] ++ xs) ≡ cond (not (operates a) && b) 1 0 + length xs
  stateful_here c (Operates o) true xs = omega arith
  stateful_here c (Operates o) false xs = omega arith
  stateful_here c (Updates t) true xs = omega arith
  stateful_here c (Updates t) false xs = omega arith

  count_stateless : (list : List Codelet) (atoms : List Does) (places : List Place) (n : ℕ) → map Some atoms ≡ map (atom_of cs) list → map (λ (p : Place). p.kind) places ≡ map (λ (c : Codelet). c.kind) list
      → n + length (flat_map (if_at k stateless_of) (staged_by cs list atoms places)) ≡ fold (λ a p. a + cond (stands_at StatelessKind k p) 1 0) n places
  count_stateless [] atoms [] n are kinds = omega arith
  count_stateless [] atoms (p ∷ places) n are kinds = absurd (cc)
  count_stateless (c ∷ list) [] places n are kinds = absurd (cc)
  count_stateless (c ∷ list) (a ∷ atoms) [] n are kinds = absurd (cc)
  count_stateless (c ∷ list) (a ∷ atoms) (p ∷ places) n are kinds =
      let does : Some a ≡ atom_of cs c = cc in
      let rest_are : map Some atoms ≡ map (atom_of cs) list = cc in
      let kind : p.kind ≡ c.kind = cc in
      let rest_kinds : map (λ (p : Place). p.kind) places ≡ map (λ (c : Codelet). c.kind) list = cc in
      let others : List OpAtom = flat_map (if_at k stateless_of) (staged_by cs list atoms places) in
      let is : is_kind StatelessKind p.kind ≡ operates a = ap (is_kind StatelessKind) kind ∙ stateless_kind c.kind (codelet_operator cs c) (trees_of (class_of cs c)) a (sym does) in
      let here : length (cond (nat_eq p.stage k) (stateless_of (part_of cs c a)) [] ++ others) ≡ cond (stands_at StatelessKind k p) 1 0 + length others =
      stateless_here c a (nat_eq p.stage k) others
      ∙ ap (λ (b : Bool). cond (operates a && b) 1 0 + length others) (same_test p.stage k)
      ∙ ap (λ (b : Bool). cond (b && nat_eq k p.stage) 1 0 + length others) (sym is) in
      let rest : n + cond (stands_at StatelessKind k p) 1 0 + length others ≡ fold (λ a p. a + cond (stands_at StatelessKind k p) 1 0) (n + cond (stands_at StatelessKind k p) 1 0) places =
      count_stateless list atoms places (n + cond (stands_at StatelessKind k p) 1 0) rest_are rest_kinds in
      let sum : n + length (cond (nat_eq p.stage k) (stateless_of (part_of cs c a)) [] ++ others) ≡ n + cond (stands_at StatelessKind k p) 1 0 + length others = omega (arith, here) in
      sum ∙ rest

  count_stateful : (list : List Codelet) (atoms : List Does) (places : List Place) (n : ℕ) → map Some atoms ≡ map (atom_of cs) list → map (λ (p : Place). p.kind) places ≡ map (λ (c : Codelet). c.kind) list
      → n + length (flat_map (if_at k stateful_of) (staged_by cs list atoms places)) ≡ fold (λ a p. a + cond (stands_at StatefulKind k p) 1 0) n places
  count_stateful [] atoms [] n are kinds = omega arith
  count_stateful [] atoms (p ∷ places) n are kinds = absurd (cc)
  count_stateful (c ∷ list) [] places n are kinds = absurd (cc)
  count_stateful (c ∷ list) (a ∷ atoms) [] n are kinds = absurd (cc)
  count_stateful (c ∷ list) (a ∷ atoms) (p ∷ places) n are kinds =
      let does : Some a ≡ atom_of cs c = cc in
      let rest_are : map Some atoms ≡ map (atom_of cs) list = cc in
      let kind : p.kind ≡ c.kind = cc in
      let rest_kinds : map (λ (p : Place). p.kind) places ≡ map (λ (c : Codelet). c.kind) list = cc in
      let others : List AtomForm = flat_map (if_at k stateful_of) (staged_by cs list atoms places) in
      let is : is_kind StatefulKind p.kind ≡ not (operates a) = ap (is_kind StatefulKind) kind ∙ stateful_kind c.kind (codelet_operator cs c) (trees_of (class_of cs c)) a (sym does) in
      let here : length (cond (nat_eq p.stage k) (stateful_of (part_of cs c a)) [] ++ others) ≡ cond (stands_at StatefulKind k p) 1 0 + length others =
      stateful_here c a (nat_eq p.stage k) others
      ∙ ap (λ (b : Bool). cond (not (operates a) && b) 1 0 + length others) (same_test p.stage k)
      ∙ ap (λ (b : Bool). cond (b && nat_eq k p.stage) 1 0 + length others) (sym is) in
      let rest : n + cond (stands_at StatefulKind k p) 1 0 + length others ≡ fold (λ a p. a + cond (stands_at StatefulKind k p) 1 0) (n + cond (stands_at StatefulKind k p) 1 0) places =
      count_stateful list atoms places (n + cond (stands_at StatefulKind k p) 1 0) rest_are rest_kinds in
      let sum : n + length (cond (nat_eq p.stage k) (stateful_of (part_of cs c a)) [] ++ others) ≡ n + cond (stands_at StatefulKind k p) 1 0 + length others = omega (arith, here) in
      sum ∙ rest

  pub stateless_at : (atoms : List Does) (places : List Place) → AreAtomsOf cs atoms → map (λ (p : Place). p.kind) places ≡ map (λ (c : Codelet). c.kind) cs.list
      → length (stage_at (staged cs atoms places) k).stateless ≡ atoms_at places StatelessKind k
  stateless_at atoms places are kinds = plus_none (length (flat_map (if_at k stateless_of) (staged cs atoms places))) ∙ count_stateless cs.list atoms places 0 are kinds

  pub stateful_at : (atoms : List Does) (places : List Place) → AreAtomsOf cs atoms → map (λ (p : Place). p.kind) places ≡ map (λ (c : Codelet). c.kind) cs.list
      → length (stage_at (staged cs atoms places) k).stateful ≡ atoms_at places StatefulKind k
  stateful_at atoms places are kinds = plus_none (length (flat_map (if_at k stateful_of) (staged cs atoms places))) ∙ count_stateful cs.list atoms places 0 are kinds

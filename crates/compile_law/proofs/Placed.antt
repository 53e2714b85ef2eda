-- The codelets with their atoms at their places are planned.
use Rattle.std.proofs.Common.{◌≡◌, ℕ, zero, suc, ◌+◌, ◌<◌, ◌≤◌, true, List, [], ◌∷◌, Option, Some, length, map, refl, sym, ap, ◌∙◌, subst, arith, inl, inr}
use Rattle.std.specs.Prelude.{slice_get, slice_index, slice_index_or}
use Rattle.std.specs.List.{range_with_len}
use Rattle.codelets.specs.declared.answer.Codelets.{Codelets}
use Rattle.codelets.specs.declared.codelet.Codelet.{Codelet}
use Rattle.codelets.specs.declared.codelet.Kind.{Kind}
use Rattle.codelets.specs.declared.held.Held.{Held}
use Rattle.codelets.specs.Answer.{codelet_of, codelets, slot_of, used}
use Rattle.codelets.specs.Containers.{place}
use Rattle.codelets.specs.Cut.{Cut, in_order, uses_codelet}
use Rattle.codelets.specs.Flat.{cut_of, linked_of}
use Rattle.codelets.specs.Held.{held}
use Rattle.codelets.specs.Lists.{IsIn}
use Rattle.codelets.proofs.Lists.{in_filter, in_range, at_within}
use Rattle.codelets.proofs.Order.{every_from}
use Rattle.dom_flat.specs.declared.line.Operand.{Operand}
use Rattle.stage_plan.specs.declared.place.Place.{Place}
use Rattle.stage_plan.specs.Schedule.{IsPlan, stage_at, stages_of}
use Rattle.atom_traits.specs.declared.tree.Port.{Port}
use Rattle.atom_match.specs.Atoms.{AtomForm as Does, Operates, Updates, atom_of, port_of}
use Rattle.atom_match.specs.Classes.{container_of}
use Rattle.atom_match.specs.Meaning.{IsAtomOf}
use Rattle.atom_match.proofs.Given.{IsCodelet, its_codelet}
use Rattle.atom_match.proofs.Right.{atom_right}
use Rattle.banzai_config.specs.declared.parts.PartSlot.{PartSlot}
use Rattle.compile_law.specs.Compiled.{AreAtomsOf, Staged, part_of, part_slot, port_at, staged, staged_by}
use Rattle.compile_law.proofs.Planned.{atom_slot, IsPartOf, IsPlanned}

pub get_or_else : {X : Type 0} (xs : List X) (k : ℕ) (x other : X) → slice_get xs k ≡ Some x → slice_index_or xs k other ≡ x
get_or_else [] k x other e = absurd (cc)
get_or_else (y ∷ xs) zero x other e = let is : y ≡ x = cc in is
get_or_else (y ∷ xs) (suc k) x other e = get_or_else xs k x other e

pub get_map : {X Y : Type 0} (f : X → Y) (xs : List X) (k : ℕ) (x : X) → slice_get xs k ≡ Some x → slice_get (map f xs) k ≡ Some (f x)
get_map f [] k x e = absurd (cc)
get_map f (y ∷ xs) zero x e = let is : y ≡ x = cc in ap (λ z. Some (f z)) is
get_map f (y ∷ xs) (suc k) x e = get_map f xs k x e

pub length_map : {X Y : Type 0} (f : X → Y) (xs : List X) → length (map f xs) ≡ length xs
length_map f [] = refl
length_map f (x ∷ xs) = ap (λ (n : ℕ). suc n) (length_map f xs)

-- the answer at a position, where all have one
pub answer_at : {X Y : Type 0} (f : X → Option Y) (xs : List X) (ys : List Y) (k : ℕ) (x : X) (y : Y) → map Some ys ≡ map f xs → slice_get xs k ≡ Some x → slice_get ys k ≡ Some y → f x ≡ Some y
answer_at f xs ys k x y same at there =
    let one : slice_get (map f xs) k ≡ Some (f x) = get_map f xs k x at in
    let two : slice_get (map Some ys) k ≡ Some (Some y) = get_map Some ys k y there in
    let both : Some (f x) ≡ Some (Some y) = sym one ∙ sym (ap (λ zs. slice_get zs k) same) ∙ two in
    cc

lines_of : (D : Cut) (cs : List (List ℕ)) → map (λ (c : Codelet). c.lines) (map (codelet_of D) cs) ≡ cs
lines_of D [] = refl
lines_of D (c ∷ cs) = ap (λ (z : List (List ℕ)). c ∷ z) (lines_of D cs)

module _ (cs : Codelets) where
  abbrev D : Cut
  D = cut_of cs.flat

  pub its_lines : map (λ (c : Codelet). c.lines) cs.list ≡ in_order D
  its_lines = ap (map (λ (c : Codelet). c.lines)) cs.is_list ∙ lines_of D (in_order D)

  -- the container of a value is its place
  pub port_is : (o : Operand) → port_at cs o ≡ port_of (place D) o
  port_is o = ap (λ (xs : List ℕ). port_of (container_of xs) o) cs.is_values

  slots_are : (hs : List Held) → map (part_slot cs) (map (slot_of D) hs) ≡ map (atom_slot (linked_of cs.flat)) hs
  slots_are [] = refl
  slots_are (h ∷ hs) =
      ap (λ (i : Port). record { array = h.array; index = i; old = (slot_of D h).old; new = (slot_of D h).new } ∷ map (part_slot cs) (map (slot_of D) hs)) (port_is h.index)
      ∙ ap (λ (z : List PartSlot). atom_slot (linked_of cs.flat) h ∷ z) (slots_are hs)

  -- the part of a codelet is its atom
  part_right : (k : ℕ) (c : Codelet) (a : Does) → slice_get cs.list k ≡ Some c → atom_of cs c ≡ Some a → IsPartOf (linked_of cs.flat) c.lines (part_of cs c a)
  part_right k c a at there = by_form a (atom_right cs k c a at there)
    where
      is : IsCodelet cs c
      is = its_codelet cs k c at

      by_form : (a : Does) → IsAtomOf (linked_of cs.flat) c.lines a → IsPartOf (linked_of cs.flat) c.lines (part_of cs c a)
      by_form (Operates o) one =
          let first : c.first ≡ one.number = ap (λ (z : Codelet). z.first) is.whole ∙ ap (λ (xs : List ℕ). slice_index xs 0) one.only in
          (one, ap (λ (xs : List ℕ). container_of xs (length cs.flat.fields + c.first)) cs.is_values ∙ ap (λ (n : ℕ). place D (length cs.flat.fields + n)) first)
      by_form (Updates t) are = (are, ap (λ (z : Codelet). map (part_slot cs) z.slots) is.whole ∙ slots_are (held D c.lines))

  its_members : (list : List Codelet) (atoms : List Does) (places : List Place) → length atoms ≡ length list → length places ≡ length list
      → map (λ (q : Staged). q.members) (staged_by cs list atoms places) ≡ map (λ (c : Codelet). c.lines) list
  its_members [] atoms places e d = refl
  its_members (c ∷ list) [] places e d = absurd (omega arith)
  its_members (c ∷ list) (a ∷ atoms) [] e d = absurd (omega arith)
  its_members (c ∷ list) (a ∷ atoms) (p ∷ places) e d =
      let i : length atoms ≡ length list = omega arith in
      let j : length places ≡ length list = omega arith in
      ap (λ (z : List (List ℕ)). c.lines ∷ z) (its_members list atoms places i j)

  -- where an atom comes from
  pub record IsFrom (list : List Codelet) (atoms : List Does) (places : List Place) (q : Staged) : Type 0 where
    pub at : ℕ
    pub codelet : Codelet
    pub does : Does
    pub stands : Place
    pub codelet_at : slice_get list at ≡ Some codelet
    pub does_at : slice_get atoms at ≡ Some does
    pub stands_at : slice_get places at ≡ Some stands
    pub whole : q ≡ record { members = codelet.lines; atom = part_of cs codelet does; stage = stands.stage }

  pub from_of : (list : List Codelet) (atoms : List Does) (places : List Place) (q : Staged) → IsIn q (staged_by cs list atoms places) → IsFrom list atoms places q
  from_of [] atoms places q i = absurd i
  from_of (c ∷ list) [] places q i = absurd i
  from_of (c ∷ list) (a ∷ atoms) [] q i = absurd i
  from_of (c ∷ list) (a ∷ atoms) (p ∷ places) q (inl is) = record { at = 0; codelet = c; does = a; stands = p; codelet_at = refl; does_at = refl; stands_at = refl; whole = is }
  from_of (c ∷ list) (a ∷ atoms) (p ∷ places) q (inr i) =
      let r = from_of list atoms places q i in
      record { at = suc r.at; codelet = r.codelet; does = r.does; stands = r.stands; codelet_at = r.codelet_at; does_at = r.does_at; stands_at = r.stands_at; whole = r.whole }

  module _ (depth stateless stateful : ℕ) (atoms : List Does) (places : List Place) (are : AreAtomsOf cs atoms) (plan : IsPlan depth stateless stateful cs.list places) where
    abbrev qs : List Staged
    qs = staged cs atoms places

    pub many_atoms : length atoms ≡ length cs.list
    many_atoms = sym (length_map Some atoms) ∙ ap (length {A = Option Does}) are ∙ length_map (atom_of cs) cs.list

    pub many_places : length places ≡ length cs.list
    many_places = sym (length_map (λ (p : Place). p.kind) places) ∙ ap (length {A = Kind}) plan.kinds ∙ length_map (λ (c : Codelet). c.kind) cs.list

    pub from : (q : Staged) → IsIn q qs → IsFrom cs.list atoms places q
    from q i = from_of cs.list atoms places q i

    stage_is : (q : Staged) (f : IsFrom cs.list atoms places q) → slice_get (stages_of places) f.at ≡ Some q.stage
    stage_is q f = get_map (λ (p : Place). p.stage) places f.at f.stands f.stands_at ∙ ap (λ (r : Staged). Some r.stage) (sym f.whole)

    stage_at_is : (q : Staged) (f : IsFrom cs.list atoms places q) → stage_at places f.at ≡ q.stage
    stage_at_is q f = get_or_else (stages_of places) f.at q.stage 0 (stage_is q f)

    member_at : (q : Staged) (f : IsFrom cs.list atoms places q) → slice_get (in_order D) f.at ≡ Some q.members
    member_at q f =
        sym (ap (λ (xs : List (List ℕ)). slice_get xs f.at) its_lines)
        ∙ get_map (λ (c : Codelet). c.lines) cs.list f.at f.codelet f.codelet_at
        ∙ ap (λ (r : Staged). Some r.members) (sym f.whole)

    -- what codelet q uses is at an earlier stage
    earlier : (q r : Staged) → IsIn q qs → IsIn r qs → uses_codelet D q.members r.members ≡ true → r.stage < q.stage
    earlier q r i j uses =
        let f = from q i in
        let g = from r j in
        let c : Codelet = f.codelet in
        let few : g.at < length (in_order D) = at_within (in_order D) g.at r.members (member_at r g) in
        let same : q.members ≡ c.lines = ap (λ (s : Staged). s.members) f.whole in
        let asks : uses_codelet D c.lines (slice_index_or (in_order D) g.at []) ≡ true =
        ap (uses_codelet D c.lines) (get_or_else (in_order D) g.at r.members [] (member_at r g)) ∙ sym (ap (λ (m : List ℕ). uses_codelet D m r.members) same) ∙ uses in
        let there : IsIn g.at (used D c.lines) =
        in_filter (λ m. uses_codelet D c.lines (slice_index_or (in_order D) m [])) (range_with_len 0 (length (in_order D))) g.at (in_range 0 (length (in_order D)) g.at (omega arith) (omega (arith, few))) asks in
        let whole : c.uses ≡ used D c.lines = ap (λ (z : Codelet). z.uses) (its_codelet cs f.at c f.codelet_at).whole in
        let less : stage_at places g.at < stage_at places f.at = plan.later f.at g.at c f.codelet_at (subst (λ (us : List ℕ). IsIn g.at us) (sym whole) there) in
        let at_r : stage_at places g.at ≡ r.stage = stage_at_is r g in
        let at_q : stage_at places f.at ≡ q.stage = stage_at_is q f in
        omega (arith, less, at_r, at_q)

    pub planned : IsPlanned (linked_of cs.flat) depth qs
    planned = record {
      members = its_members cs.list atoms places many_atoms many_places ∙ its_lines;
      atoms = every_from (λ (q : Staged). IsPartOf (linked_of cs.flat) q.members q.atom) qs (λ q i.
          let f = from q i in
          let does : atom_of cs f.codelet ≡ Some f.does = answer_at (atom_of cs) cs.list atoms f.at f.codelet f.does are f.codelet_at f.does_at in
          subst (λ (r : Staged). IsPartOf (linked_of cs.flat) r.members r.atom) (sym f.whole) (part_right f.at f.codelet f.does f.codelet_at does));
      stages = every_from (λ (q : Staged). (1 ≤ q.stage) × (q.stage ≤ depth)) qs (λ q i. let f = from q i in plan.bounds f.at q.stage (stage_is q f));
      later = earlier;
    }

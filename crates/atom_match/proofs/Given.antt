-- What is known of each codelet: its place among the codelets of the statement list, and where its operands come from.
use Rattle.std.proofs.Common.{◌≡◌, ℕ, zero, suc, ◌+◌, ◌<◌, Bool, true, false, List, [], ◌∷◌, Option, Some, length, map, refl, sym, ap, ◌∙◌, subst, arith, inl, inr, if◌then◌else◌}
use Rattle.std.specs.Prelude.{slice_get}
use Rattle.std.specs.List.{list_all}
use Rattle.std.proofs.lemmas.Bool.{and_from}
use Rattle.dom_flat.specs.declared.line.Line.{Line}
use Rattle.dom_flat.specs.Lines.{is_flank}
use Rattle.codelets.specs.declared.answer.Codelets.{Codelets}
use Rattle.codelets.specs.declared.codelet.Codelet.{Codelet}
use Rattle.codelets.specs.declared.codelet.Kind.TheVariants.{Stateless, Stateful}
use Rattle.codelets.specs.Lists.{IsIn}
use Rattle.codelets.specs.Linked.{Linked, IsLinked, count, is_so}
use Rattle.codelets.specs.Cut.{Cut, cut, has_flank, in_order, line_of}
use Rattle.codelets.specs.Flat.{cut_of, linked_of}
use Rattle.codelets.specs.Answer.{codelet_of, line_in}
use Rattle.codelets.specs.Laws.{CodeletLaws}
use Rattle.codelets.proofs.AllLaws.{codelet_laws}
use Rattle.codelets.proofs.ByNumber.{line_in_is}
use Rattle.codelets.proofs.FlatLinked.{flat_linked}
use Rattle.codelets.proofs.Lists.{in_any, at_within}
use Rattle.codelets.proofs.Classes.{Shape, Class, Twin, shape_of, class_in, so_at}

map_at : {X Y : Type 0} (f : X → Y) (xs : List X) (k : ℕ) (y : Y) → slice_get (map f xs) k ≡ Some y → (x : X) × IsIn x xs × (y ≡ f x)
map_at f [] k y e = absurd (cc)
map_at f (x ∷ xs) zero y e = let is : f x ≡ y = cc in (x, inl refl, sym is)
map_at f (x ∷ xs) (suc k) y e = let r = map_at f xs k y e in (r.0, inr r.1, r.2)

pub all_from : {X : Type 0} (p : X → Bool) (xs : List X) → ((x : X) → IsIn x xs → p x ≡ true) → list_all p xs ≡ true
all_from p [] h = refl
all_from p (x ∷ xs) h = and_from _ _ (h x (inl refl)) (all_from p xs (λ y i. h y (inr i)))

pub map_same : {X Y : Type 0} (f g : X → Y) (xs : List X) → ((x : X) → IsIn x xs → f x ≡ g x) → map f xs ≡ map g xs
map_same f g [] h = refl
map_same f g (x ∷ xs) h = ap (λ y. y ∷ map f xs) (h x (inl refl)) ∙ ap (λ ys. g x ∷ ys) (map_same f g xs (λ y i. h y (inr i)))

pub map_map : {X Y Z : Type 0} (f : Y → Z) (g : X → Y) (xs : List X) → map f (map g xs) ≡ map (λ x. f (g x)) xs
map_map f g [] = refl
map_map f g (x ∷ xs) = ap (λ ys. f (g x) ∷ ys) (map_map f g xs)

-- a codelet with a flank has state
stateful_flank : (b : Bool) → (if b then Stateful else Stateless) ≡ Stateful → b ≡ true
stateful_flank true e = refl
stateful_flank false e = absurd (cc)

stateless_flank : (b : Bool) → (if b then Stateful else Stateless) ≡ Stateless → b ≡ false
stateless_flank true e = absurd (cc)
stateless_flank false e = refl

no_twin : (n j a : ℕ) → IsIn a ((n + j) ∷ []) → a < n → ⊥
no_twin n j a (inl same) low = omega arith
no_twin n j a (inr none) low = none

-- the members of a codelet with a flank are statements of the list, and no twins
members_below : (P : Linked) (ok : IsLinked P) (m : List ℕ) → IsIn m (cut P).all → has_flank (cut P) m ≡ true → (b : ℕ) → IsIn b m → b < count P
members_below P ok m mi flank b bm = by_shape (shape_of P m mi)
  where
    by_shape : Shape P m → b < count P
    by_shape (Class a is an first) = (class_in P a b (subst (λ (z : List ℕ). IsIn b z) is bm)).0
    by_shape (Twin j is ji) =
        let r = in_any (is_so P is_flank) m flank in
        let l = so_at P is_flank r.0 r.2 in
        let low = at_within P.lines r.0 l.0 l.1 in
        absurd (no_twin (count P) j r.0 (subst (λ (z : List ℕ). IsIn r.0 z) is r.1) low)

-- a codelet as it is answered
pub record IsCodelet (cs : Codelets) (c : Codelet) : Type 0 where
  pub member : IsIn c.lines (cut_of cs.flat).all
  pub whole : c ≡ codelet_of (cut_of cs.flat) c.lines

module _ (cs : Codelets) where
  pub ok : IsLinked (linked_of cs.flat)
  ok = flat_linked cs.flat

  pub laws : CodeletLaws (linked_of cs.flat)
  laws = codelet_laws (linked_of cs.flat) (flat_linked cs.flat)

  pub line_is : (b : ℕ) → line_in cs.table b ≡ line_of (cut_of cs.flat) b
  line_is b = ap (λ (t : List (Option Line)). line_in t b) cs.is_table ∙ line_in_is (linked_of cs.flat) b

  pub its_codelet : (k : ℕ) (c : Codelet) → slice_get cs.list k ≡ Some c → IsCodelet cs c
  its_codelet k c e =
      let D : Cut = cut_of cs.flat in
      let r = map_at (codelet_of D) (in_order D) k c (subst (λ (xs : List Codelet). slice_get xs k ≡ Some c) cs.is_list e) in
      let lines : c.lines ≡ r.0 = ap (λ (z : Codelet). z.lines) r.2 in record {
        member = (codelet_laws (linked_of cs.flat) (flat_linked cs.flat)).ordered c.lines (subst (λ (z : List ℕ). IsIn z (in_order D)) (sym lines) r.1);
        whole = r.2 ∙ ap (codelet_of D) (sym lines);
      }

  pub has_state : (c : Codelet) → IsCodelet cs c → c.kind ≡ Stateful → has_flank (cut_of cs.flat) c.lines ≡ true
  has_state c is e = stateful_flank (has_flank (cut_of cs.flat) c.lines) (sym (ap (λ (z : Codelet). z.kind) is.whole) ∙ e)

  pub no_state : (c : Codelet) → IsCodelet cs c → c.kind ≡ Stateless → has_flank (cut_of cs.flat) c.lines ≡ false
  no_state c is e = stateless_flank (has_flank (cut_of cs.flat) c.lines) (sym (ap (λ (z : Codelet). z.kind) is.whole) ∙ e)

  pub below : (c : Codelet) → IsCodelet cs c → has_flank (cut_of cs.flat) c.lines ≡ true → (b : ℕ) → IsIn b c.lines → b < length cs.flat.lines
  below c is flank b i = members_below (linked_of cs.flat) (flat_linked cs.flat) c.lines is.member flank b i

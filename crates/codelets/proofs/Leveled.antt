-- The codelets of a statement list are leveled.
use Rattle.std.proofs.Common.{◌≡◌, ℕ, zero, suc, ◌+◌, ◌*◌, ◌<◌, ◌≤◌, true, List, [], ◌∷◌, Some, length, map, get_or, refl, sym, ap, ◌∙◌, subst, arith, inl, inr}
use Rattle.std.specs.Prelude.{slice_get, slice_index_or}
use Rattle.std.specs.List.{All, filter, range_with_len}
use Rattle.std.proofs.lemmas.List.{length-map}
use Rattle.std.proofs.lemmas.Option.{get_or_from_slice_get, slice_get-get_or}
use Rattle.codelets.specs.declared.codelet.Codelet.{Codelet}
use Rattle.codelets.specs.Lists.{IsIn, max_of}
use Rattle.codelets.specs.Linked.{Linked, IsLinked}
use Rattle.codelets.specs.Cut.{cut, in_order, level, uses_codelet}
use Rattle.codelets.specs.Answer.{codelet_of, codelets, used}
use Rattle.codelets.specs.Leveled.{AreLeveled, level_at}
use Rattle.codelets.proofs.Lists.{at_in, at_within, filter_in, in_filter, in_range, range_in}
use Rattle.codelets.proofs.Levels.{le_max_of}
use Rattle.codelets.proofs.Falls.{level_is_more}
use Rattle.codelets.proofs.Order.{before_law, in_the_order, order_in}
use Rattle.codelets.proofs.Containers.{in_at_any, order_few}

max_le : {X : Type 0} (f : X → ℕ) (xs : List X) (m : ℕ) → ((x : X) → IsIn x xs → f x ≤ m) → max_of (map f xs) ≤ m
max_le f [] m each = omega arith
max_le f (x ∷ xs) m each = let h = each x (inl refl) in let r = max_le f xs m (λ y i. each y (inr i)) in omega arith

map_at : {X Y : Type 0} (f : X → Y) (xs : List X) (k : ℕ) (y : Y) → slice_get (map f xs) k ≡ Some y → (x : X) × (slice_get xs k ≡ Some x) × (y ≡ f x)
map_at f [] k y e = absurd (cc)
map_at f (x ∷ xs) zero y e = (x, refl, cc)
map_at f (x ∷ xs) (suc k) y e = map_at f xs k y e

at_map : {X Y : Type 0} (f : X → Y) (xs : List X) (k : ℕ) (x : X) → slice_get xs k ≡ Some x → slice_get (map f xs) k ≡ Some (f x)
at_map f [] k x e = absurd (cc)
at_map f (y ∷ xs) zero x e = ap (λ z. Some (f z)) (let is : y ≡ x = cc in is)
at_map f (y ∷ xs) (suc k) x e = at_map f xs k x e

in_at : {X : Type 0} (xs : List X) (x : X) → IsIn x xs → (k : ℕ) × (slice_get xs k ≡ Some x)
in_at [] x i = absurd i
in_at (y ∷ xs) x (inl is) = (0, ap Some (sym is))
in_at (y ∷ xs) x (inr i) = let r = in_at xs x i in (suc r.0, r.1)

module _ (P : Linked) (ok : IsLinked P) where
  -- the codelet at a position of the order
  at_order : ℕ → List ℕ
  at_order u = slice_index_or (in_order (cut P)) u []

  level_of_at : (u : ℕ) (d : List ℕ) → slice_get (in_order (cut P)) u ≡ Some d → level_at (codelets (cut P)) u ≡ level (cut P) d
  level_of_at u d at =
      get_or_from_slice_get (map (λ c. c.level) (codelets (cut P))) u (level (cut P) d) 0
      (at_map (λ (c : Codelet). c.level) (codelets (cut P)) u (codelet_of (cut P) d) (at_map (codelet_of (cut P)) (in_order (cut P)) u d at))

  -- a position that is used has a codelet there, which is used
  used_at : (c : List ℕ) (u : ℕ) → IsIn u (used (cut P) c) → (d : List ℕ) × (slice_get (in_order (cut P)) u ≡ Some d) × (uses_codelet (cut P) c d ≡ true)
  used_at c u i =
      let r = filter_in (λ k. uses_codelet (cut P) c (slice_index_or (in_order (cut P)) k [])) (range_with_len 0 (length (in_order (cut P)))) u i in
      let low = (range_in 0 (length (in_order (cut P))) u r.0).1 in
      (slice_index_or (in_order (cut P)) u [], slice_get-get_or (in_order (cut P)) u [] (omega arith), r.1)

  -- and each codelet that is used has its position there
  used_has : (c d : List ℕ) (u : ℕ) → slice_get (in_order (cut P)) u ≡ Some d → uses_codelet (cut P) c d ≡ true → IsIn u (used (cut P) c)
  used_has c d u at uses =
      let low : u < length (in_order (cut P)) = at_within (in_order (cut P)) u d at in
      in_filter (λ k. uses_codelet (cut P) c (slice_index_or (in_order (cut P)) k [])) (range_with_len 0 (length (in_order (cut P)))) u (in_range 0 (length (in_order (cut P))) u (omega arith) (omega arith))
      (ap (uses_codelet (cut P) c) (get_or_from_slice_get (in_order (cut P)) u d [] at) ∙ uses)

  level_used : (c : List ℕ) → IsIn c (in_order (cut P)) → level (cut P) c ≡ 1 + max_of (map (level_at (codelets (cut P))) (used (cut P) c))
  level_used c ci =
      let more : level (cut P) c ≡ suc (max_of (map (level (cut P)) (filter (uses_codelet (cut P) c) (cut P).all))) = level_is_more P ok c (order_in (cut P) c ci) in
      let up : max_of (map (level (cut P)) (filter (uses_codelet (cut P) c) (cut P).all)) ≤ max_of (map (level_at (codelets (cut P))) (used (cut P) c)) =
      max_le (level (cut P)) (filter (uses_codelet (cut P) c) (cut P).all) (max_of (map (level_at (codelets (cut P))) (used (cut P) c))) (λ d i.
      let r = filter_in (uses_codelet (cut P) c) (cut P).all d i in
      let at = in_at (in_order (cut P)) d (in_the_order (cut P) d r.0) in
      let same = level_of_at at.0 d at.1 in
      let h = le_max_of (level_at (codelets (cut P))) (used (cut P) c) at.0 (used_has c d at.0 at.1 r.1) in
      omega arith) in
      let down : max_of (map (level_at (codelets (cut P))) (used (cut P) c)) ≤ max_of (map (level (cut P)) (filter (uses_codelet (cut P) c) (cut P).all)) =
      max_le (level_at (codelets (cut P))) (used (cut P) c) (max_of (map (level (cut P)) (filter (uses_codelet (cut P) c) (cut P).all))) (λ u i.
      let r = used_at c u i in
      let same = level_of_at u r.0 r.1 in
      let h = le_max_of (level (cut P)) (filter (uses_codelet (cut P) c) (cut P).all) r.0 (in_filter (uses_codelet (cut P) c) (cut P).all r.0 (order_in (cut P) r.0 (at_in (in_order (cut P)) u r.0 r.1)) r.2) in
      omega arith) in
      omega arith

  pub are_leveled : AreLeveled (codelets (cut P))
  are_leveled k c at =
      let o = map_at (codelet_of (cut P)) (in_order (cut P)) k c at in
      subst (λ (x : Codelet). All (λ u. u < k) x.uses × (x.level ≡ 1 + max_of (map (level_at (codelets (cut P))) x.uses))) (sym o.2) (
        λ i d less.
            let u : ℕ = get_or (used (cut P) o.0) i d in
            let r = used_at o.0 u (in_at_any P ok (used (cut P) o.0) i d less) in
            before_law P ok u k o.0 r.0 r.1 o.1 r.2,
        level_used o.0 (at_in (in_order (cut P)) k o.0 o.1),
      )

  pub codelets_few : length (codelets (cut P)) ≤ 2 * length P.lines
  codelets_few = let few = order_few P ok in let size = length-map (in_order (cut P)) (codelet_of (cut P)) in omega (arith, few, size)

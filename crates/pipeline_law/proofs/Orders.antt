-- Steps of which each two commute come to the same in any order.
use Rattle.std.proofs.Common.{◌≡◌, List, [], ◌∷◌, ◌++◌, refl, sym, ◌∙◌, ap}
use Rattle.std.specs.List.{AllByRecursion as Every}
use Rattle.pipeline_law.specs.Order.{IsOrder, runs, Commute, AllCommute}

module _ {X M : Type 0} (step : X → M → M) where
  -- a step that commutes with those before it may come first
  first : (before after : List X) (x : X) (m : M) → Every (λ y. Commute step y x) before → runs step (before ++ x ∷ after) m ≡ runs step (before ++ after) (step x m)
  first [] after x m p = refl
  first (y ∷ before) after x m p =
      first before after x (step y m) p.1 ∙ ap (λ (k : M). runs step (before ++ after) k) (sym (p.0 m))

  -- each item commutes with one of the list, and the rest commute
  all_before : (before after : List X) (x : X) → AllCommute step (before ++ x ∷ after) → Every (λ y. Commute step y x) before
  all_before [] after x p = tt
  all_before (y ∷ before) after x p = (one before p.0, all_before before after x p.1)
    where
      one : (zs : List X) → Every (λ z. Commute step y z) (zs ++ x ∷ after) → Commute step y x
      one [] q = q.0
      one (z ∷ zs) q = one zs q.1

  without : (before after : List X) (x : X) → AllCommute step (before ++ x ∷ after) → AllCommute step (before ++ after)
  without [] after x p = p.1
  without (y ∷ before) after x p = (keep before p.0, without before after x p.1)
    where
      keep : (zs : List X) → Every (λ z. Commute step y z) (zs ++ x ∷ after) → Every (λ z. Commute step y z) (zs ++ after)
      keep [] q = q.1
      keep (z ∷ zs) q = (q.0, keep zs q.1)

  pub runs-order : (order all : List X) (m : M) → AllCommute step all → IsOrder order all → runs step order m ≡ runs step all m
  runs-order [] all m p is = rw is refl
  runs-order (x ∷ order) all m p (before, after, is, rest) =
      let split : AllCommute step (before ++ x ∷ after) = rw is at p in
      runs-order order (before ++ after) (step x m) (without before after x split) rest
      ∙ sym (first before after x m (all_before before after x split))
      ∙ ap (λ (xs : List X). runs step xs m) (sym is)

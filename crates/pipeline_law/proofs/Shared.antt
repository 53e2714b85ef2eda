-- What no stage changes, and no clock, stays over any entries.
use Rattle.std.proofs.Common.{◌≡◌, List, [], ◌∷◌, refl, ◌∙◌}
use Rattle.std.specs.List.{AllByRecursion}
use Rattle.pipeline_law.specs.Stage.{through, state_alone}
use Rattle.pipeline_law.specs.Pipeline.{Row, cycled, piped}

module _ {A X S W : Type 0} (run : S → A → X → A × X) (view : A → W) where
  view-through : (ss : List S) (a : A) (x : X) → AllByRecursion (λ s. (b : A) (y : X) → view (run s b y).0 ≡ view b) ss → view (through run ss a x).0 ≡ view a
  view-through [] a x kept = refl
  view-through (s ∷ ss) a x kept = view-through ss (run s a x).0 (run s a x).1 kept.1 ∙ kept.0 a x

  pub view-alone : (ss : List S) (a : A) (xs : List X) → AllByRecursion (λ s. (b : A) (y : X) → view (run s b y).0 ≡ view b) ss → view (state_alone run ss a xs) ≡ view a
  view-alone ss a [] kept = refl
  view-alone ss a (x ∷ xs) kept = view-alone ss (through run ss a x).0 xs kept ∙ view-through ss a x kept

  pub view-piped : (clock : List S → List X → A → A) (ss : List S) (row : Row A X) (es : List X) → ((rs : List X) (a : A) → view (clock ss rs a) ≡ view a) → view (piped run clock ss row es).state ≡ view row.state
  view-piped clock ss row [] kept = refl
  view-piped clock ss row (e ∷ es) kept = view-piped clock ss (cycled run clock ss row e) es kept ∙ kept row.registers row.state

-- A heading, by the names of a legend or by those of a configuration.
use Rattle.std.proofs.Common.{◌≡◌, ℕ, List, Option, ap, ◌∙◌, subst}
use Rattle.dom_io.specs.Held.{IsPart, appended}
use Rattle.trace_text.specs.Lines.{head_line}

module _ (h0 h1 : Option (List ℕ)) (word : List ℕ) (names fields : List (List ℕ)) (same : names ≡ fields) where
  -- it was put
  pub heading_put : h1 ≡ appended h0 (head_line word names) → h1 ≡ appended h0 (head_line word fields)
  heading_put put = put ∙ ap (λ (l : List (List ℕ)). appended h0 (head_line word l)) same

  -- some first bytes of it were put
  pub heading_part : IsPart h0 h1 (head_line word names) → IsPart h0 h1 (head_line word fields)
  heading_part part = subst (λ (l : List (List ℕ)). IsPart h0 h1 (head_line word l)) same part

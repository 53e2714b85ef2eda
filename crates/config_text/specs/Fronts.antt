-- Texts of configurations, and the first line that may not stand.
use Rattle.std.specs.Prelude.{◌≡◌, ℕ, ◌+◌, ◌≤◌, ◌⊎◌, Bool, true, false, not, ◌==◌, Option, Some, None, List, [], ◌∷◌, ◌++◌, map, length}
use Rattle.std.specs.List.{flat_map, list_all}
use Rattle.atom_traits.specs.Form.{TreeForm}
use Rattle.banzai_config.specs.declared.parts.PartSlot.{PartSlot}
use Rattle.banzai_config.specs.declared.target.Target.{Target}
use Rattle.banzai_config.specs.Parts.{AtomForm, PartsForm, StageForm}
use Rattle.banzai_config.specs.Targets.{name_of}
use Rattle.config_text.specs.Lines.{line_fits, line_text, lines_of, NamedParts}

-- lines, each with its line feed
abbrev pub ended : List (List ℕ) → List ℕ
ended lines = flat_map (λ l. l ++ 10 ∷ []) lines

abbrev pub has_no_feed : List ℕ → Bool
has_no_feed bytes = list_all (λ b. not (b == 10)) bytes

-- one slot and one tree, or two of each
abbrev pub is_paired : List PartSlot → Option TreeForm → Bool
is_paired [] t = false
is_paired (s ∷ []) None = true
is_paired (s ∷ []) (Some t) = false
is_paired (s ∷ r ∷ []) None = false
is_paired (s ∷ r ∷ []) (Some t) = true
is_paired (s ∷ r ∷ q ∷ more) t = false

abbrev pub atom_fits : AtomForm → Bool
atom_fits a = is_paired a.slots a.trees.second

abbrev pub stage_fits : StageForm → Bool
stage_fits s = list_all atom_fits s.stateful

-- a configuration that has a text
pub record HasText (n : NamedParts) : Type 0 where
  pub fields : 1 ≤ length n.parts.fields
  pub stages : 1 ≤ length n.parts.stages
  pub outputs : length n.parts.outputs ≡ length n.parts.fields
  pub atoms : list_all stage_fits n.parts.stages ≡ true
  pub lines : list_all line_fits (lines_of n) ≡ true

-- its one text
abbrev pub whole_text : NamedParts → List ℕ
whole_text n = ended (map line_text (lines_of n))

abbrev pub Spells : NamedParts → List ℕ → Type 0
Spells n text = HasText n × (text ≡ whole_text n)

-- a configuration for a target
abbrev pub for_target : Target → PartsForm → NamedParts
for_target t p = record { target = name_of t; parts = p }

abbrev pub text_of : Target → PartsForm → List ℕ
text_of t p = whole_text (for_target t p)

-- the text is that of a configuration for a target
abbrev pub TextOf : Target → PartsForm → List ℕ → Type 0
TextOf t p text = Spells (for_target t p) text

-- the text is of the form, but no target has the name in it
abbrev pub HasNoTarget : List ℕ → Type 0
HasNoTarget text = (n : NamedParts) × (Spells n text × ((t : Target) → name_of t ≡ n.target → ⊥))

-- lines that some further lines complete to a text
abbrev pub IsFront : List (List ℕ) → Type 0
IsFront lines = (n : NamedParts) × (HasText n × ((more : List (List ℕ)) × (map line_text (lines_of n) ≡ lines ++ more)))

-- line n is the first that may not stand after the lines before it: it is a line that no text goes on with, or a rest
-- without a line feed, or the place behind the last line of a text that ends too early
pub record IsBadLine (text : List ℕ) (n : ℕ) : Type 0 where
  pub before : List (List ℕ)
  pub rest : List ℕ
  pub whole : text ≡ ended before ++ rest
  pub clear : list_all has_no_feed before ≡ true
  pub number : n ≡ length before + 1
  pub front : IsFront before
  pub bad : ((line after : List ℕ) × ((rest ≡ line ++ 10 ∷ after) × ((has_no_feed line ≡ true) × (IsFront (before ++ line ∷ []) → ⊥))))
      ⊎ ((has_no_feed rest ≡ true) × ((n : NamedParts) → Spells n text → ⊥))

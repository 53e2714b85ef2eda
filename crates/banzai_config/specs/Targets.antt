-- The targets by name, and what each takes.
use Rattle.std.specs.Prelude.{ℕ, Bool, true, false, Option, List, [], ◌∷◌, ◌++◌, codes, map}
use Rattle.std.specs.List.{find, flat_map}
use Rattle.dom_words.specs.Names.{is_same}
use Rattle.atom_traits.specs.Fits.{if_else_fits, nested_fits, pairs_fits, praw_fits, raw_fits, sub_fits, write_fits}
use Rattle.atom_traits.specs.Form.{TreesForm}
use Rattle.banzai_config.specs.declared.target.Geometry.{Geometry}
use Rattle.banzai_config.specs.declared.target.Geometry.TheVariants.{Small, Medium, Large}
use Rattle.banzai_config.specs.declared.target.Target.{Target}
use Rattle.banzai_config.specs.declared.target.Template.{Template}
use Rattle.banzai_config.specs.declared.target.Template.TheVariants as template
use Rattle.banzai_config.specs.Legal.{Shape}

abbrev pub template_text : Template → List ℕ
template_text template.Write = codes "write"
template_text template.Raw = codes "raw"
template_text template.Praw = codes "praw"
template_text template.IfElse = codes "ifelse"
template_text template.Sub = codes "sub"
template_text template.Nested = codes "nested"
template_text template.Pairs = codes "pairs"

abbrev pub geometry_text : Geometry → List ℕ
geometry_text Small = codes "small"
geometry_text Medium = codes "medium"
geometry_text Large = codes "large"

-- a template on a geometry
abbrev pub target : Template → Geometry → Target
target t g = record { template = t; geometry = g }

-- a target's name, as `raw-small`
abbrev pub name_of : Target → List ℕ
name_of t = template_text t.template ++ codes "-" ++ geometry_text t.geometry

abbrev pub templates : List Template
templates = template.Write ∷ template.Raw ∷ template.Praw ∷ template.IfElse ∷ template.Sub ∷ template.Nested ∷ template.Pairs ∷ []

abbrev pub geometries : List Geometry
geometries = Small ∷ Medium ∷ Large ∷ []

-- all 21 targets
abbrev pub targets : List Target
targets = flat_map (λ t. map (λ g. record { template = t; geometry = g }) geometries) templates

-- the target whose name is this text, if there is one: the first of all targets
unfoldable pub target_named : List ℕ → Option Target
target_named text = find (λ t. is_same (name_of t) text) targets

-- the trees that a template takes, with constants of so many bits
abbrev pub template_fits : Template → ℕ → TreesForm → Bool
template_fits template.Write = write_fits
template_fits template.Raw = raw_fits
template_fits template.Praw = praw_fits
template_fits template.IfElse = if_else_fits
template_fits template.Sub = sub_fits
template_fits template.Nested = nested_fits
template_fits template.Pairs = pairs_fits

abbrev pub depth_of : Geometry → ℕ
depth_of Small = 4
depth_of Medium = 12
depth_of Large = 32

abbrev pub stateless_of : Geometry → ℕ
stateless_of Small = 4
stateless_of Medium = 16
stateless_of Large = 300

abbrev pub stateful_of : Geometry → ℕ
stateful_of Small = 1
stateful_of Medium = 4
stateful_of Large = 10

abbrev pub bits_of : Geometry → ℕ
bits_of Small = 5
bits_of Medium = 16
bits_of Large = 32

abbrev pub has_multipliers : Geometry → Bool
has_multipliers Small = false
has_multipliers Medium = false
has_multipliers Large = true

-- what a target takes
abbrev pub shape_of : Target → Shape
shape_of t = record {
  fits = template_fits t.template (bits_of t.geometry);
  bits = bits_of t.geometry;
  depth = depth_of t.geometry;
  stateless = stateless_of t.geometry;
  stateful = stateful_of t.geometry;
  multiplies = has_multipliers t.geometry;
}

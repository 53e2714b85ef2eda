-- Parameters for one tree stand for trees that fit.
use Rattle.std.proofs.Common.{◌≡◌, ℕ, ◌&&◌, Bool, true, false, Option, Some, None, refl, ap, ◌∙◌}
use Rattle.std.specs.Prelude.{is_none, MatchOption}
use Rattle.std.proofs.lemmas.Bool.{and_parts}
use Rattle.atom_traits.specs.Form.{TreeForm, TreesForm}
use Rattle.atom_traits.specs.Fits.{fits_by, if_else_form, is_low, is_raw, keeps_a_side, praw_form}
use Rattle.atom_traits.specs.FitsLaws.{fits_form}
use Rattle.atom_traits.specs.Raw.{single_tree}

none_is : (o : Option TreeForm) → is_none o ≡ true → None ≡ o
none_is None e = refl
none_is (Some t) e = absurd (cc)

single_is : (x : TreeForm) (t : TreesForm) → x ≡ t.first → is_none t.second ≡ true → single_tree x ≡ t
single_is x t e none =
    ap single_tree e ∙ ap (λ (o : Option TreeForm). let h : TreesForm = record { first = t.first; second = o } in h) (none_is t.second none)

-- what stands for the first of trees that fit, where these are one tree of a form
pub parameters_fit : {O : Type 0} (shape : TreesForm → Bool) (one : TreeForm → Bool) (stands : O → TreeForm) (bits : ℕ) (t : TreesForm) (found : Option O) → ((u : TreesForm) → shape u ≡ true → (is_none u.second ≡ true) × (one u.first ≡ true))
    → fits_by shape bits t ≡ true → MatchOption found (one t.first ≡ false) (λ op. stands op ≡ t.first)
    → MatchOption found (fits_by shape bits t ≡ false) (λ op. (fits_by shape bits (single_tree (stands op)) ≡ true) × (single_tree (stands op) ≡ t))
parameters_fit shape one stands bits t None parts e h = absurd (let p = (parts t (fits_form shape bits t e)).1 in cc)
parameters_fit shape one stands bits t (Some op) parts e h =
    let same = single_is (stands op) t h (parts t (fits_form shape bits t e)).0 in (ap (fits_by shape bits) same ∙ e, same)

pub if_else_parts : (u : TreesForm) → if_else_form u ≡ true → (is_none u.second ≡ true) × (is_low is_raw 1 u.first ≡ true)
if_else_parts u e = let k = and_parts (is_none u.second) (is_low is_raw 1 u.first) e in (k.0, k.1)

pub praw_parts : (u : TreesForm) → praw_form u ≡ true → (is_none u.second ≡ true) × ((is_low is_raw 1 u.first && keeps_a_side u.first) ≡ true)
praw_parts u e = let k = and_parts (is_none u.second) (is_low is_raw 1 u.first && keeps_a_side u.first) e in (k.0, k.1)

-- What fits one template fits the next.
use Rattle.std.specs.Prelude.{◌≡◌, ℕ, zero, suc, Bool, true, is_none, Option, Some, None, refl}
use Rattle.std.proofs.lemmas.Bool.{and_parts, and_from}
use Rattle.atom_traits.specs.declared.tree.Leaf.{Leaf}
use Rattle.atom_traits.specs.declared.tree.Leaf.TheVariants.{Keep, Put, Add, Sub}
use Rattle.atom_traits.specs.Form.{TreeForm, Ends, Asks, TreesForm}
use Rattle.atom_traits.specs.Fits.{keeps_or_puts, is_raw, is_any, is_low, is_low_if, keeps_a_side, write_form, raw_form, praw_form, if_else_form, sub_form, nested_form, pairs_form, fits_by, write_fits, raw_fits, praw_fits, if_else_fits, sub_fits, nested_fits, pairs_fits}

-- a form that is another's too
pub fits_more : (a b : TreesForm → Bool) (bits : ℕ) (t : TreesForm) → (a t ≡ true → b t ≡ true) → fits_by a bits t ≡ true → fits_by b bits t ≡ true
fits_more a b bits t h e = let p = and_parts (a t) _ e in and_from _ _ (h p.0) p.1

low_more : (p q : Leaf → Bool) → ((l : Leaf) → p l ≡ true → q l ≡ true) → (d : ℕ) (t : TreeForm) → is_low p d t ≡ true → is_low q d t ≡ true
low_more p q h d (Ends leaf) e = h leaf e
low_more p q h zero (Asks g a b) e = absurd (cc)
low_more p q h (suc d) (Asks g a b) e = let k = and_parts _ _ e in and_from _ _ (low_more p q h d a k.0) (low_more p q h d b k.1)

low_up : (p : Leaf → Bool) (d : ℕ) (t : TreeForm) → is_low p d t ≡ true → is_low p (suc d) t ≡ true
low_up p d (Ends leaf) e = e
low_up p zero (Asks g a b) e = absurd (cc)
low_up p (suc d) (Asks g a b) e = let k = and_parts _ _ e in and_from _ _ (low_up p d a k.0) (low_up p d b k.1)

raw_of_puts : (l : Leaf) → keeps_or_puts l ≡ true → is_raw l ≡ true
raw_of_puts Keep e = refl
raw_of_puts (Put p) e = refl
raw_of_puts (Add p) e = refl
raw_of_puts (Sub p) e = absurd (cc)

any_of_raw : (l : Leaf) → is_raw l ≡ true → is_any l ≡ true
any_of_raw l e = refl

leaf_keeps_a_side : (t : TreeForm) → is_low is_raw 0 t ≡ true → keeps_a_side t ≡ true
leaf_keeps_a_side (Ends leaf) e = refl
leaf_keeps_a_side (Asks g a b) e = absurd (cc)

-- what fits one template fits the next
pub write_raw : (bits : ℕ) (t : TreesForm) → write_fits bits t ≡ true → raw_fits bits t ≡ true
write_raw bits t e =
    fits_more write_form raw_form bits t (λ h. let k = and_parts _ _ h in and_from _ _ k.0 (low_more keeps_or_puts is_raw raw_of_puts 0 t.first k.1)) e

pub raw_praw : (bits : ℕ) (t : TreesForm) → raw_fits bits t ≡ true → praw_fits bits t ≡ true
raw_praw bits t e =
    fits_more raw_form praw_form bits t (λ h. let k = and_parts _ _ h in and_from _ _ k.0 (and_from _ _ (low_up is_raw 0 t.first k.1) (leaf_keeps_a_side t.first k.1))) e

pub praw_if_else : (bits : ℕ) (t : TreesForm) → praw_fits bits t ≡ true → if_else_fits bits t ≡ true
praw_if_else bits t e =
    fits_more praw_form if_else_form bits t (λ h. let k = and_parts (is_none t.second) _ h in and_from _ _ k.0 (and_parts (is_low is_raw 1 t.first) (keeps_a_side t.first) k.1).0) e

pub if_else_sub : (bits : ℕ) (t : TreesForm) → if_else_fits bits t ≡ true → sub_fits bits t ≡ true
if_else_sub bits t e =
    fits_more if_else_form sub_form bits t (λ h. let k = and_parts _ _ h in and_from _ _ k.0 (low_more is_raw is_any any_of_raw 1 t.first k.1)) e

pub sub_nested : (bits : ℕ) (t : TreesForm) → sub_fits bits t ≡ true → nested_fits bits t ≡ true
sub_nested bits t e =
    fits_more sub_form nested_form bits t (λ h. let k = and_parts _ _ h in and_from _ _ k.0 (low_up is_any 1 t.first k.1)) e

no_second_low : (t : Option TreeForm) → is_none t ≡ true → is_low_if is_any 2 t ≡ true
no_second_low None e = refl
no_second_low (Some t) e = absurd (cc)

pub nested_pairs : (bits : ℕ) (t : TreesForm) → nested_fits bits t ≡ true → pairs_fits bits t ≡ true
nested_pairs bits t e =
    fits_more nested_form pairs_form bits t (λ h. let k = and_parts _ _ h in and_from _ _ k.1 (no_second_low t.second k.0)) e

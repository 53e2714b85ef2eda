-- A tree as a list from which it can be read again. No contract names this: it lets trees be part of what a type is seen as.
use Rattle.std.specs.Prelude.{◌≡◌, ◌⊎◌, List, [], ◌∷◌, ◌++◌, Option, refl}
use Rattle.std.specs.Coded.{Coded, code_by, coded_list, coded⊎, coded×, coded_option}
use Rattle.std.proofs.Common.{inl, inr, sym, ap, ◌∙◌, append_assoc, append-nil}
use Rattle.atom_traits.specs.declared.tree.Guard.{Guard}
use Rattle.atom_traits.specs.declared.tree.Leaf.{Leaf}
use Rattle.atom_traits.specs.declared.tree.Leaf.TheVariants.{Keep}
use Rattle.atom_traits.specs.contracts.tree.Guard as guard
use Rattle.atom_traits.specs.contracts.tree.Leaf as leaf
use Rattle.atom_traits.specs.Form.{TreeForm, Ends, Asks, TreesForm}

-- the leaves and guards of a tree, each guard after its two branches
abbrev pub written : TreeForm → List (Leaf ⊎ Guard)
written (Ends l) = inl l ∷ []
written (Asks g a b) = written a ++ (written b ++ inr g ∷ [])

-- a guard joins the two trees on top
abbrev pub join : Guard → List TreeForm → List TreeForm
join g [] = []
join g (b ∷ []) = b ∷ []
join g (b ∷ a ∷ rest) = Asks g a b ∷ rest

abbrev pub read : List (Leaf ⊎ Guard) → List TreeForm → List TreeForm
read [] stack = stack
read (inl l ∷ rest) stack = read rest (Ends l ∷ stack)
read (inr g ∷ rest) stack = read rest (join g stack)

abbrev pub top : List TreeForm → TreeForm
top [] = Ends Keep
top (t ∷ rest) = t

pub read-written : (t : TreeForm) (rest : List (Leaf ⊎ Guard)) (stack : List TreeForm) → read (written t ++ rest) stack ≡ read rest (t ∷ stack)
read-written (Ends l) rest stack = refl
read-written (Asks g a b) rest stack =
    ap (λ x. read x stack) (append_assoc (written a) _ rest)
    ∙ read-written a _ stack
    ∙ ap (λ x. read x (a ∷ stack)) (append_assoc (written b) (inr g ∷ []) rest)
    ∙ read-written b _ (a ∷ stack)

abbrev pub form_of : List (Leaf ⊎ Guard) → TreeForm
form_of xs = top (read xs [])

pub form_of-written : (t : TreeForm) → form_of (written t) ≡ t
form_of-written t = ap (λ x. top (read x [])) (sym (append-nil (written t))) ∙ ap top (read-written t [] [])

abbrev pub form_code : Coded TreeForm
form_code = code_by (List (Leaf ⊎ Guard)) (coded_list (coded⊎ leaf.the_row.coded guard.the_row.coded)) written form_of form_of-written

abbrev pub forms_code : Coded TreesForm
forms_code =
    code_by (TreeForm × Option TreeForm) (coded× form_code (coded_option form_code)) (λ t. (t.first, t.second)) (λ p. record { first = p.0; second = p.1 }) (λ _. refl)

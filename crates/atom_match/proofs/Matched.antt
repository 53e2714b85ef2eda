-- Steps along the codelets, and the first that does not fit.
use Rattle.std.proofs.Common.{◌≡◌, ℕ, zero, suc, ◌+◌, ◌<◌, ◌≤◌, Bool, true, false, cond, List, [], ◌∷◌, ◌++◌, Option, Some, None, length, map, take, drop, get_or, refl, sym, ap, ◌∙◌, arith}
use Rattle.std.specs.Prelude.{not, slice_get, find, is_err, IsSomeAnd, MatchOption, OnOk, Result, Ok, Err}
use Rattle.std.proofs.lemmas.Option.{slice_get-get_or, get_or_from_slice_get}
use Rattle.codelets.specs.declared.answer.Codelets.{Codelets}
use Rattle.codelets.specs.declared.codelet.Codelet.{Codelet}
use Rattle.codelets.specs.declared.codelet.Kind.TheVariants.{Stateful}
use Rattle.atom_match.specs.Classes.{class_of}
use Rattle.atom_match.specs.Table.{IsEarlier}
use Rattle.atom_traits.specs.Form.{TreesForm}
use Rattle.atom_match.specs.declared.atoms.Atom.{Atom}
use Rattle.atom_match.specs.Atoms.{atom_form, atom_of, fits_codelet, trees_at_position, trees_if}
use Rattle.atom_match.specs.Resolve.{trees_of}
use Rattle.atom_match.proofs.Early.{codelet_earlier}

-- the item that a loop is at
pub item_at : {X : Type 0} (xs ys : List X) (k : ℕ) (x : X) → ys ≡ xs → k < length ys → x ≡ get_or ys k x → slice_get xs k ≡ Some x
item_at xs ys k x same low is = ap (λ zs. slice_get zs k) (sym same) ∙ slice_get-get_or ys k x low ∙ ap Some (sym is)

drop_suc : {X : Type 0} (xs : List X) (k : ℕ) (x : X) → slice_get xs k ≡ Some x → drop k xs ≡ x ∷ drop (suc k) xs
drop_suc [] k x e = absurd (cc)
drop_suc (y ∷ ys) zero x e = let is : y ≡ x = cc in ap (λ z. z ∷ ys) is
drop_suc (y ∷ ys) (suc k) x e = drop_suc ys k x e

pub drop_step : {X : Type 0} (xs : List X) (k : ℕ) (x : X) → slice_get xs k ≡ Some x → drop k xs ≡ x ∷ drop (k + 1) xs
drop_step xs k x e = drop_suc xs k x e ∙ ap (λ n. x ∷ drop n xs) (let one : suc k ≡ k + 1 = omega arith in one)

take_suc : {X : Type 0} (xs : List X) (k : ℕ) (x : X) → slice_get xs k ≡ Some x → take (suc k) xs ≡ take k xs ++ x ∷ []
take_suc [] k x e = absurd (cc)
take_suc (y ∷ ys) zero x e = let is : y ≡ x = cc in ap (λ z. z ∷ []) is
take_suc (y ∷ ys) (suc k) x e = ap (λ zs. y ∷ zs) (take_suc ys k x e)

map_push : {X Y : Type 0} (f : X → Y) (xs : List X) (x : X) → map f (xs ++ x ∷ []) ≡ map f xs ++ f x ∷ []
map_push f [] x = refl
map_push f (y ∷ ys) x = ap (λ zs. f y ∷ zs) (map_push f ys x)

-- one more item on both sides
pub atoms_next : {X Y Z : Type 0} (f : X → Z) (g : Y → Z) (xs ys : List X) (x : X) (all : List Y) (k : ℕ) (y : Y) → slice_get all k ≡ Some y → map f xs ≡ map g (take k all) → ys ≡ xs ++ x ∷ [] → f x ≡ g y → map f ys ≡ map g (take (k + 1) all)
atoms_next f g xs ys x all k y at e pushed same =
    ap (map f) pushed ∙ map_push f xs x ∙ ap (λ zs. zs ++ f x ∷ []) e ∙ ap (λ z. map g (take k all) ++ z ∷ []) same ∙ sym (map_push g (take k all) y)
    ∙ ap (map g) (sym (take_suc all k y at) ∙ ap (λ n. take n all) (let one : suc k ≡ k + 1 = omega arith in one))

-- the item is not the one
pub outside_next : {Y : Type 0} (p : Y → Bool) (all : List Y) (k : ℕ) (y : Y) (o : Option Y) → slice_get all k ≡ Some y → o ≡ find p (drop k all) → p y ≡ false → o ≡ find p (drop (k + 1) all)
outside_next p all k y o at e none = e ∙ ap (find p) (drop_step all k y at) ∙ ap (λ b. cond b (Some y) (find p (drop (k + 1) all))) none

-- the item is the one
pub outside_here : {Y : Type 0} (p : Y → Bool) (all : List Y) (k : ℕ) (y : Y) (o : Option Y) → slice_get all k ≡ Some y → o ≡ find p (drop k all) → p y ≡ true → o ≡ Some y
outside_here p all k y o at e some = e ∙ ap (find p) (drop_step all k y at) ∙ ap (λ b. cond b (Some y) (find p (drop (k + 1) all))) some

drop_past : {X : Type 0} (xs : List X) (k : ℕ) → length xs ≤ k → drop k xs ≡ []
drop_past [] zero h = refl
drop_past [] (suc k) h = refl
drop_past (x ∷ xs) zero h = absurd (omega arith)
drop_past (x ∷ xs) (suc k) h = drop_past xs k (omega arith)

-- no item is the one
pub outside_none : {Y : Type 0} (p : Y → Bool) (all : List Y) (k : ℕ) (o : Option Y) → o ≡ find p (drop k all) → length all ≤ k → o ≡ None
outside_none p all k o e past = e ∙ ap (find p) (drop_past all k past)

-- the codelet at a position
pub found_at : (cs : Codelets) (ys : List Codelet) (k : ℕ) (c : Codelet) → ys ≡ cs.list → c ≡ get_or ys k c → IsSomeAnd (slice_get cs.list k) (λ d. d.kind ≡ Stateful) → (slice_get cs.list k ≡ Some c) × (c.kind ≡ Stateful)
found_at cs ys k c same is some = by_case (slice_get cs.list k) refl some
  where
    by_case : (o : Option Codelet) → slice_get cs.list k ≡ o → IsSomeAnd o (λ d. d.kind ≡ Stateful) → (slice_get cs.list k ≡ Some c) × (c.kind ≡ Stateful)
    by_case None e h = absurd h
    by_case (Some d) e h =
        let here : d ≡ c = sym (is ∙ ap (λ zs. get_or zs k c) same ∙ get_or_from_slice_get cs.list k d c e) in
        (e ∙ ap Some here, sym (ap (λ (z : Codelet). z.kind) here) ∙ h)

pub earlier_at : (cs : Codelets) (ys : List Codelet) (k : ℕ) (c : Codelet) → ys ≡ cs.list → c ≡ get_or ys k c → IsSomeAnd (slice_get cs.list k) (λ d. d.kind ≡ Stateful) → IsEarlier (class_of cs c) (length cs.flat.lines)
earlier_at cs ys k c same is some = let p = found_at cs ys k c same is some in codelet_earlier cs k c p.0 p.1

pub trees_there : (cs : Codelets) (ys : List Codelet) (k : ℕ) (c : Codelet) → ys ≡ cs.list → c ≡ get_or ys k c → IsSomeAnd (slice_get cs.list k) (λ d. d.kind ≡ Stateful) → trees_of (class_of cs c) ≡ trees_at_position cs k
trees_there cs ys k c same is some = let p = found_at cs ys k c same is some in sym (ap (trees_if cs) p.0)

-- what a call that did not fail says
pub pushed : {T E : Type 0} (r : Result T E) (A : Type 0) → false ≡ is_err r → OnOk r A → A
pushed (Ok x) A e h = h
pushed (Err x) A e h = absurd (cc)

-- what is known of a codelet's atom: there is none where the codelet does not fit
abbrev pub Fitted : {P : Type 0} → (P → TreesForm) → (TreesForm → Bool) → Bool → Codelets → Codelet → Option (Atom P) → Type 0
Fitted trees_of fits multiplies cs c found =
    MatchOption found (fits_codelet fits multiplies cs c ≡ false) (λ a. (fits_codelet fits multiplies cs c ≡ true) × (Some (atom_form trees_of a) ≡ atom_of cs c))

pub not_fitted : {P : Type 0} (trees_of : P → TreesForm) (fits : TreesForm → Bool) (multiplies : Bool) (cs : Codelets) (c : Codelet) (found : Option (Atom P)) → Fitted trees_of fits multiplies cs c found → found ≡ None → not (fits_codelet fits multiplies cs c) ≡ true
not_fitted trees_of fits multiplies cs c None h e = ap not h
not_fitted trees_of fits multiplies cs c (Some a) h e = absurd (cc)

pub fitted : {P : Type 0} (trees_of : P → TreesForm) (fits : TreesForm → Bool) (multiplies : Bool) (cs : Codelets) (c : Codelet) (found : Option (Atom P)) (a : Atom P) → Fitted trees_of fits multiplies cs c found → found ≡ Some a → (not (fits_codelet fits multiplies cs c) ≡ false) × (Some (atom_form trees_of a) ≡ atom_of cs c)
fitted trees_of fits multiplies cs c None a h e = absurd (cc)
fitted {P = P} trees_of fits multiplies cs c (Some b) a h e =
    let same : b ≡ a = cc in (ap not h.0, ap (λ (x : Atom P). Some (atom_form trees_of x)) (sym same) ∙ h.1)

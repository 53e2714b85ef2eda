-- The first fault of lists of checks that are put together.
use Rattle.std.proofs.Common.{◌≡◌, Bool, true, false, not, List, ◌∷◌, ◌++◌, Option, Some, None, refl, sym, ap, ◌∙◌, subst}
use Rattle.std.proofs.lemmas.List.Folds.{find-append}
use Rattle.std.proofs.lemmas.Option.{none-some}
use Rattle.std.specs.List.{find}
use Rattle.std.specs.Option.{option_map, option_or}
use Rattle.dom_checks.specs.declared.faults.CheckFault.{CheckFault}
use Rattle.dom_checks.specs.declared.faults.CheckFault.TheVariants as fault
use Rattle.dom_checks.specs.Answers.{IsFirst}
use Rattle.dom_checks.specs.Walk.{Check, check, first_fault}

pub map_or : {X Y : Type 0} (f : X → Y) (a b : Option X) → option_map f (option_or a b) ≡ option_or (option_map f a) (option_map f b)
map_or f None b = refl
map_or f (Some x) b = refl

pub fault-append : (xs ys : List Check) → first_fault (xs ++ ys) ≡ option_or (first_fault xs) (first_fault ys)
fault-append xs ys =
    ap (option_map (λ (c : Check). c.fault)) (find-append (λ (c : Check). not c.holds) xs ys)
    ∙ map_or (λ (c : Check). c.fault) (find (λ (c : Check). not c.holds) xs) (find (λ (c : Check). not c.holds) ys)

or_front : {X : Type 0} (a b : Option X) → option_or a b ≡ None → a ≡ None
or_front None b h = refl
or_front (Some x) b h = h

or_back : {X : Type 0} (a b : Option X) → option_or a b ≡ None → b ≡ None
or_back None b h = h
or_back (Some x) b h = absurd (none-some x (sym h))

pub front_holds : (xs ys : List Check) → first_fault (xs ++ ys) ≡ None → first_fault xs ≡ None
front_holds xs ys h = or_front (first_fault xs) (first_fault ys) (sym (fault-append xs ys) ∙ h)

pub back_holds : (xs ys : List Check) → first_fault (xs ++ ys) ≡ None → first_fault ys ≡ None
back_holds xs ys h = or_back (first_fault xs) (first_fault ys) (sym (fault-append xs ys) ∙ h)

-- where the checks in front hold, the first fault is that of the others
pub faults_behind : (xs ys : List Check) → first_fault xs ≡ None → first_fault (xs ++ ys) ≡ first_fault ys
faults_behind xs ys p = fault-append xs ys ∙ ap (λ o. option_or o (first_fault ys)) p

pub both_hold : (xs ys : List Check) → first_fault xs ≡ None → first_fault ys ≡ None → first_fault (xs ++ ys) ≡ None
both_hold xs ys p q = faults_behind xs ys p ∙ q

pub at_check : (f : CheckFault) (b : Bool) (cs : List Check) → first_fault (check f b ∷ cs) ≡ None → (b ≡ true) × (first_fault cs ≡ None)
at_check f true cs h = (refl, h)
at_check f false cs h = absurd (none-some f (sym h))

-- where a first fault is carried along, it stays the first
pub by_fault : (f : CheckFault) (xs ys : List Check) → ((g : CheckFault) → first_fault xs ≡ Some g → first_fault ys ≡ Some g) → IsFirst f xs → IsFirst f ys
by_fault (fault.Twice p) xs ys to h = to (fault.Twice p) h
by_fault (fault.UnknownName p) xs ys to h = to (fault.UnknownName p) h
by_fault (fault.ShapeOfName p) xs ys to h = to (fault.ShapeOfName p) h
by_fault (fault.BadIndex p) xs ys to h = to (fault.BadIndex p) h
by_fault (fault.TwoIndexes p) xs ys to h = to (fault.TwoIndexes p) h
by_fault (fault.IndexAssignedLater p) xs ys to h = to (fault.IndexAssignedLater p) h
by_fault (fault.HashArgs p) xs ys to h = to (fault.HashArgs p) h
by_fault (fault.TooLarge l p) xs ys to h = to (fault.TooLarge l p) h
by_fault fault.Memory xs ys to h = tt

pub first_same : (f : CheckFault) (xs ys : List Check) → first_fault xs ≡ first_fault ys → IsFirst f xs → IsFirst f ys
first_same f xs ys e h = by_fault f xs ys (λ g r. sym e ∙ r) h

pub first_front : (f : CheckFault) (xs ys : List Check) → IsFirst f xs → IsFirst f (xs ++ ys)
first_front f xs ys h = by_fault f xs (xs ++ ys) (λ g r. fault-append xs ys ∙ ap (λ o. option_or o (first_fault ys)) r) h

pub first_behind : (f : CheckFault) (xs ys : List Check) → first_fault xs ≡ None → IsFirst f ys → IsFirst f (xs ++ ys)
first_behind f xs ys p h = first_same f ys (xs ++ ys) (sym (faults_behind xs ys p)) h

pub of_memory : (f : CheckFault) (xs : List Check) → f ≡ fault.Memory → IsFirst f xs
of_memory f xs e = subst (λ (g : CheckFault). IsFirst g xs) (sym e) tt

-- With names blanked, the items are the flanks and the steps that are no copies.
use Rattle.std.proofs.Common.{◌≡◌, Bool, true, false, List, [], ◌∷◌, ◌++◌, Option, Some, None, flat_map, fold, map, refl, sym, ap, ◌∙◌, append_assoc, if◌then◌else◌}
use Rattle.std.proofs.lemmas.List.{append-nil, map-append}
use Rattle.std.proofs.lemmas.List.Concat.{flat_map-cons}
use Rattle.dom_ast.specs.Flanks.{FlankForm}
use Rattle.dom_ast.specs.Flanks as flank
use Rattle.dom_ast.specs.Named.{NamedForm, read, make, write}
use Rattle.dom_ast.specs.Resolved.{PartForm, number, field, state, fresh, made, call, un, chain, choice, PartForms, no_parts, part, OpForms, no_ops, op}
use Rattle.dom_ast.specs.Straight.{StepForm}
use Rattle.ssa_names.specs.declared.operand.Operand.{Operand}
use Rattle.ssa_names.specs.declared.operand.Operand.TheVariants.{Number, Field, Made}
use Rattle.ssa_names.specs.Blanked.{all_blanked, blanked, blanked_item, is_copied, left_of, ops_blanked}
use Rattle.ssa_names.specs.Naming.{Current, Naming, all_renamed, named, named_item, named_set, operand_form, ops_renamed, place_operand, plain, renamed, starting}

operand_blanked : (o : Operand) → blanked (operand_form o) ≡ number 0
operand_blanked (Number w) = refl
operand_blanked (Field f) = refl
operand_blanked (Made k) = refl

-- names that are blanked may be renamed before
mutual
  renamed_blanked : (now : Current) (p : PartForm) → blanked (renamed now p) ≡ blanked p
  renamed_blanked now (number w) = refl
  renamed_blanked now (field f) = operand_blanked (now.fields f)
  renamed_blanked now (state a i) = operand_blanked (now.arrays a)
  renamed_blanked now (fresh k) = operand_blanked (now.fresh k)
  renamed_blanked now (made k) = refl
  renamed_blanked now (call unit ps) = ap (call unit) (all_renamed_blanked now ps)
  renamed_blanked now (un u p) = ap (un u) (renamed_blanked now p)
  renamed_blanked now (chain p os) =
      ap (λ q. chain q (ops_blanked (ops_renamed now os))) (renamed_blanked now p) ∙ ap (chain (blanked p)) (ops_renamed_blanked now os)
  renamed_blanked now (choice c p q) =
      ap (λ x. choice x (blanked (renamed now p)) (blanked (renamed now q))) (renamed_blanked now c)
      ∙ ap (λ x. choice (blanked c) x (blanked (renamed now q))) (renamed_blanked now p)
      ∙ ap (choice (blanked c) (blanked p)) (renamed_blanked now q)

  all_renamed_blanked : (now : Current) (ps : PartForms) → all_blanked (all_renamed now ps) ≡ all_blanked ps
  all_renamed_blanked now no_parts = refl
  all_renamed_blanked now (part p ps) =
      ap (λ q. part q (all_blanked (all_renamed now ps))) (renamed_blanked now p) ∙ ap (part (blanked p)) (all_renamed_blanked now ps)

  ops_renamed_blanked : (now : Current) (os : OpForms) → ops_blanked (ops_renamed now os) ≡ ops_blanked os
  ops_renamed_blanked now no_ops = refl
  ops_renamed_blanked now (op o p os) =
      ap (λ q. op o q (ops_blanked (ops_renamed now os))) (renamed_blanked now p) ∙ ap (op o (blanked p)) (ops_renamed_blanked now os)

-- what stands for nothing yet is no copy
some_copied : (now : Current) (p : PartForm) (o : Operand) → plain now p ≡ Some o → is_copied p ≡ true
some_copied now (number w) o e = refl
some_copied now (field f) o e = refl
some_copied now (state a i) o e = refl
some_copied now (fresh k) o e = refl
some_copied now (made k) o e = refl
some_copied now (call unit ps) o e = absurd (cc)
some_copied now (un u p) o e = absurd (cc)
some_copied now (chain p os) o e = absurd (cc)
some_copied now (choice c p r) o e = absurd (cc)

none_copied : (now : Current) (p : PartForm) → plain now p ≡ None → is_copied p ≡ false
none_copied now (number w) e = absurd (cc)
none_copied now (field f) e = absurd (cc)
none_copied now (state a i) e = absurd (cc)
none_copied now (fresh k) e = absurd (cc)
none_copied now (made k) e = absurd (cc)
none_copied now (call unit ps) e = refl
none_copied now (un u p) e = refl
none_copied now (chain p os) e = refl
none_copied now (choice c p r) e = refl

-- what is left of the items so far
abbrev left_by : Naming → List NamedForm
left_by n = map blanked_item n.items

left_push : (n : Naming) (x : NamedForm) → map blanked_item (n.items ++ x ∷ []) ≡ left_by n ++ blanked_item x ∷ []
left_push n x = map-append blanked_item n.items (x ∷ [])

set_left : (n : Naming) (s : StepForm) (r : Option Operand) → plain n.now s.value ≡ r → left_by (named_set n s r) ≡ left_by n ++ left_of (flank.set s)
set_left n s (Some o) e =
    sym (append-nil (left_by n))
    ∙ ap (λ (b : Bool). left_by n ++ (if b then [] else make (blanked s.value) ∷ [])) (sym (some_copied n.now s.value o e))
set_left n s None e =
    left_push n (make (renamed n.now s.value))
    ∙ ap (λ (p : PartForm). left_by n ++ make p ∷ []) (renamed_blanked n.now s.value)
    ∙ ap (λ (b : Bool). left_by n ++ (if b then [] else make (blanked s.value) ∷ [])) (sym (none_copied n.now s.value e))

item_left : (n : Naming) (x : FlankForm) → left_by (named_item n x) ≡ left_by n ++ left_of x
item_left n (flank.read a i) =
    left_push n (read a (operand_form (place_operand n.now i)))
    ∙ ap (λ (p : PartForm). left_by n ++ read a p ∷ []) (operand_blanked (place_operand n.now i))
item_left n (flank.set s) = set_left n s (plain n.now s.value) refl
item_left n (flank.write a i) =
    left_push n (write a (operand_form (n.now.indexes a)) (operand_form (n.now.arrays a)))
    ∙ ap (λ (p : PartForm). left_by n ++ write a p (blanked (operand_form (n.now.arrays a))) ∷ []) (operand_blanked (n.now.indexes a))
    ∙ ap (λ (p : PartForm). left_by n ++ write a (number 0) p ∷ []) (operand_blanked (n.now.arrays a))

all_left : (n : Naming) (xs : List FlankForm) → left_by (fold named_item n xs) ≡ left_by n ++ flat_map left_of xs
all_left n [] = sym (append-nil (left_by n))
all_left n (x ∷ xs) =
    all_left (named_item n x) xs
    ∙ ap (λ (ys : List NamedForm). ys ++ flat_map left_of xs) (item_left n x)
    ∙ append_assoc (left_by n) (left_of x) (flat_map left_of xs)
    ∙ ap (λ (ys : List NamedForm). left_by n ++ ys) (sym (flat_map-cons left_of x xs))

pub named_left : (xs : List FlankForm) → map blanked_item (named xs).items ≡ flat_map left_of xs
named_left xs = all_left (record { now = starting; items = [] }) xs

-- The names of targets.
use Rattle.std.proofs.Common.{◌≡◌, ℕ, zero, suc, Bool, true, false, cond, nat_lt, ltb-true, Option, Some, None, List, [], ◌∷◌, refl, sym, ap, subst, ◌∙◌, arith}
use Rattle.std.specs.List.{find, list_all}
use Rattle.std.specs.Option.{IfNone, IfSome}
use Rattle.std.specs.Str.{IsAscii, IsUtf8}
use Rattle.std.proofs.lemmas.Bool.{and_parts}
use Rattle.std.proofs.lemmas.Str.{IsUtf8-from_ascii}
use Rattle.dom_words.specs.Names.{is_same}
use Rattle.banzai_config.specs.declared.target.Geometry.{Geometry}
use Rattle.banzai_config.specs.declared.target.Geometry.TheVariants.{Small, Medium, Large}
use Rattle.banzai_config.specs.declared.target.Target.{Target}
use Rattle.banzai_config.specs.declared.target.Template.{Template}
use Rattle.banzai_config.specs.declared.target.Template.TheVariants as template
use Rattle.banzai_config.specs.declared.parts.Parts.{Parts}
use Rattle.banzai_config.specs.Parts.{parts_form}
use Rattle.banzai_config.specs.Targets.{name_of, target_named, targets}
use Rattle.config_text.specs.declared.fault.ReadFault.{ReadFault}
use Rattle.config_text.specs.declared.fault.ReadFault.TheVariants.{Line as BadLine, UnknownTarget, Memory}
use Rattle.config_text.specs.Fronts.{HasNoTarget, Spells, TextOf}
use Rattle.config_text.specs.ReadFaults.{IsFormFault, IsReadFault}
use Rattle.config_text.specs.DraftViews.{named_form}
use Rattle.config_text.proofs.Decimals.{same_is}

found_has : (ts : List Target) (text : List ℕ) (t : Target) → find (λ u. is_same (name_of u) text) ts ≡ Some t → name_of t ≡ text
found_has [] text t e = absurd (cc)
found_has (u ∷ ts) text t e = from (found_has ts text t) (is_same (name_of u) text) refl e
  where
    from : (find (λ u. is_same (name_of u) text) ts ≡ Some t → name_of t ≡ text) → (b : Bool) → is_same (name_of u) text ≡ b → cond b (Some u) (find (λ u. is_same (name_of u) text) ts) ≡ Some t → name_of t ≡ text
    from more true q e = let s : u ≡ t = cc in sym (ap name_of s) ∙ same_is (name_of u) text q
    from more false q e = more e

pub named_has : (text : List ℕ) (t : Target) → target_named text ≡ Some t → name_of t ≡ text
unfolding target_named
named_has text t e = found_has targets text t e

named_at : (t : Template) (g : Geometry) → target_named (name_of (record { template = t; geometry = g })) ≡ Some (record { template = t; geometry = g })
unfolding target_named
named_at template.Write Small = refl
named_at template.Write Medium = refl
named_at template.Write Large = refl
named_at template.Raw Small = refl
named_at template.Raw Medium = refl
named_at template.Raw Large = refl
named_at template.Praw Small = refl
named_at template.Praw Medium = refl
named_at template.Praw Large = refl
named_at template.IfElse Small = refl
named_at template.IfElse Medium = refl
named_at template.IfElse Large = refl
named_at template.Sub Small = refl
named_at template.Sub Medium = refl
named_at template.Sub Large = refl
named_at template.Nested Small = refl
named_at template.Nested Medium = refl
named_at template.Nested Large = refl
named_at template.Pairs Small = refl
named_at template.Pairs Medium = refl
named_at template.Pairs Large = refl

-- each target is found by its name
pub target_found : (t : Target) → target_named (name_of t) ≡ Some t
target_found t = named_at t.template t.geometry

pub no_target : (text : List ℕ) → None ≡ target_named text → (t : Target) → name_of t ≡ text → ⊥
no_target text e t q = absurd (let f = target_found t in let g = ap target_named q in cc)

abbrev is_low : ℕ → Bool
is_low b = nat_lt b 128

low_ascii : (bs : List ℕ) → list_all is_low bs ≡ true → IsAscii bs
low_ascii [] e i = omega arith
low_ascii (b ∷ bs) e zero = ltb-true b 128 (and_parts (is_low b) (list_all is_low bs) e).0
low_ascii (b ∷ bs) e (suc i) = low_ascii bs (and_parts (is_low b) (list_all is_low bs) e).1 i

name_low : (t : Template) (g : Geometry) → list_all is_low (name_of (record { template = t; geometry = g })) ≡ true
name_low template.Write Small = refl
name_low template.Write Medium = refl
name_low template.Write Large = refl
name_low template.Raw Small = refl
name_low template.Raw Medium = refl
name_low template.Raw Large = refl
name_low template.Praw Small = refl
name_low template.Praw Medium = refl
name_low template.Praw Large = refl
name_low template.IfElse Small = refl
name_low template.IfElse Medium = refl
name_low template.IfElse Large = refl
name_low template.Sub Small = refl
name_low template.Sub Medium = refl
name_low template.Sub Large = refl
name_low template.Nested Small = refl
name_low template.Nested Medium = refl
name_low template.Nested Large = refl
name_low template.Pairs Small = refl
name_low template.Pairs Medium = refl
name_low template.Pairs Large = refl

utf8_at : (t : Target) → IsUtf8 (name_of t)
utf8_at t = IsUtf8-from_ascii (name_of t) (low_ascii (name_of t) (name_low t.template t.geometry))

-- bytes that are no UTF-8 name no target
pub no_utf8 : (text : List ℕ) → (IsUtf8 text → ⊥) → (t : Target) → name_of t ≡ text → ⊥
no_utf8 text never t q = never (subst IsUtf8 q (utf8_at t))

-- a configuration under a name, where a target has it and where none has
pub known : (t : Target) (name : List ℕ) (parts : Parts) (text : List ℕ) → Spells (named_form (name, parts)) text → name_of t ≡ name → TextOf t (parts_form parts) text
known t name parts text s e = subst (λ w. Spells (record { target = w; parts = parts_form parts }) text) (sym e) s

pub unknown : (name : List ℕ) (parts : Parts) (text : List ℕ) → Spells (named_form (name, parts)) text → ((t : Target) → name_of t ≡ name → ⊥) → HasNoTarget text
unknown name parts text s never = (record { target = name; parts = parts_form parts }, (s, never))

pub form_fault : (text : List ℕ) (f : ReadFault) → IsFormFault text f → IsReadFault text f
form_fault text (BadLine n) h = h
form_fault text UnknownTarget h = absurd h
form_fault text Memory h = h

-- what is found under a name
pub some_named : (o : Option Target) (text name : List ℕ) → o ≡ target_named text → text ≡ name → IfSome o (λ t. name_of t ≡ name)
some_named None text name e q = tt
some_named (Some t) text name e q = named_has name t (sym (e ∙ ap target_named q))

pub none_named : (o : Option Target) (text name : List ℕ) → o ≡ target_named text → text ≡ name → IfNone o ((t : Target) → name_of t ≡ name → ⊥)
none_named None text name e q = no_target name (e ∙ ap target_named q)
none_named (Some t) text name e q = tt

pub ruleset answers = (known, unknown, form_fault)

-- A text is that of one target and configuration at most.
use Rattle.std.proofs.Common.{◌≡◌, ℕ, Some, List, sym, ap, ◌∙◌}
use Rattle.banzai_config.specs.declared.target.Target.{Target}
use Rattle.banzai_config.specs.Parts.{PartsForm}
use Rattle.banzai_config.specs.Targets.{name_of, target_named}
use Rattle.config_text.specs.Fronts.{for_target, HasNoTarget, IsBadLine, TextOf}
use Rattle.config_text.specs.Lines.{NamedParts}
use Rattle.config_text.proofs.OneFault.{bad_no_text}
use Rattle.config_text.proofs.TargetNames.{target_found}
use Rattle.config_text.proofs.TextLines.{one_parts}

some_target : (t u : Target) → Some t ≡ Some u → t ≡ u
some_target t u e = cc

pub one_pair : (t u : Target) (p q : PartsForm) (text : List ℕ) → TextOf t p text → TextOf u q text → (t ≡ u) × (p ≡ q)
one_pair t u p q text a b =
    let same = one_parts (for_target t p) (for_target u q) text a b in
    let names : name_of t ≡ name_of u = ap (λ (n : NamedParts). n.target) same in
    (some_target t u (sym (target_found t) ∙ ap target_named names ∙ target_found u), ap (λ (n : NamedParts). n.parts) same)

pub known_target : (t : Target) (p : PartsForm) (text : List ℕ) → TextOf t p text → HasNoTarget text → ⊥
known_target t p text a (n, (spells, none)) = none t (ap (λ (m : NamedParts). m.target) (one_parts (for_target t p) n text a spells))

pub good_lines : (text : List ℕ) (number : ℕ) → IsBadLine text number → HasNoTarget text → ⊥
good_lines text number bad (n, (spells, none)) = bad_no_text text number n bad spells

-- A text is one thing as a configuration.
use Rattle.std.proofs.Common.{◌≡◌, ℕ, List, refl, sym, ap, ◌∙◌, Option, Some, None, Result, Ok, Err}
use Rattle.banzai_config.specs.Legal.{Violation, violation}
use Rattle.banzai_config.specs.Parts.{PartsForm}
use Rattle.banzai_config.specs.Targets.{shape_of}
use Rattle.banzai_config.specs.declared.target.Target.{Target}
use Rattle.config_text.specs.Fronts.{TextOf, for_target}
use Rattle.config_text.proofs.OneFault.{bad_no_text, one_bad}
use Rattle.config_text.proofs.OneReading.{good_lines, known_target, one_pair}
use Rattle.dom_finding.specs.Configs.{BreaksRule, ConfigForm, ConfigRefusal, IsConfig, bad_line, config_form, illegal, unknown_target}

-- the first broken rule of what a text spells
abbrev rule_of : Target → PartsForm → Option Violation
rule_of t p = violation (shape_of t) p

one_rule : (t u : Target) (p q : PartsForm) (text : List ℕ) → TextOf t p text → TextOf u q text → rule_of t p ≡ rule_of u q
one_rule t u p q text a b = let same = one_pair t u p q text a b in ap (λ (x : Target). rule_of x p) same.0 ∙ ap (λ (x : PartsForm). rule_of u x) same.1

one_form : (t u : Target) (p q : PartsForm) (text : List ℕ) → TextOf t p text → TextOf u q text → config_form t p ≡ config_form u q
one_form t u p q text a b = let same = one_pair t u p q text a b in ap (λ (x : Target). config_form x p) same.0 ∙ ap (λ (x : PartsForm). config_form u x) same.1

some_rule : (v w : Violation) → Some v ≡ Some w → v ≡ w
some_rule v w e = cc

no_rule : (v : Violation) → Some v ≡ None → ⊥
no_rule v e = absurd (cc)

legal_breaks : (text : List ℕ) (c : ConfigForm) (v : Violation) → TextOf c.target c.parts text → rule_of c.target c.parts ≡ None → BreaksRule text v → ⊥
legal_breaks text c v spelled legal b =
    no_rule v (sym b.broken ∙ one_rule b.target c.target b.parts c.parts text b.spelled spelled ∙ legal)

one_broken : (text : List ℕ) (v w : Violation) → BreaksRule text v → BreaksRule text w → v ≡ w
one_broken text v w a b = some_rule v w (sym a.broken ∙ one_rule a.target b.target a.parts b.parts text a.spelled b.spelled ∙ b.broken)

pub one_config : (text : List ℕ) (r s : Result ConfigForm ConfigRefusal) → IsConfig text r → IsConfig text s → r ≡ s
one_config text (Ok c) (Ok d) a b = ap (λ (x : ConfigForm). Ok x) (one_form c.target d.target c.parts d.parts text a.0 b.0)
one_config text (Ok c) (Err (bad_line n)) a b = absurd (bad_no_text text n (for_target c.target c.parts) b a.0)
one_config text (Ok c) (Err unknown_target) a b = absurd (known_target c.target c.parts text a.0 b)
one_config text (Ok c) (Err (illegal v)) a b = absurd (legal_breaks text c v a.0 a.1 b)
one_config text (Err (bad_line n)) (Ok d) a b = absurd (bad_no_text text n (for_target d.target d.parts) a b.0)
one_config text (Err (bad_line n)) (Err (bad_line m)) a b = ap (λ (k : ℕ). Err (bad_line k)) (one_bad text n m a b)
one_config text (Err (bad_line n)) (Err unknown_target) a b = absurd (good_lines text n a b)
one_config text (Err (bad_line n)) (Err (illegal v)) a b = absurd (bad_no_text text n (for_target b.target b.parts) a b.spelled)
one_config text (Err unknown_target) (Ok d) a b = absurd (known_target d.target d.parts text b.0 a)
one_config text (Err unknown_target) (Err (bad_line n)) a b = absurd (good_lines text n b a)
one_config text (Err unknown_target) (Err unknown_target) a b = refl
one_config text (Err unknown_target) (Err (illegal v)) a b = absurd (known_target b.target b.parts text b.spelled a)
one_config text (Err (illegal v)) (Ok d) a b = absurd (legal_breaks text d v b.0 b.1 a)
one_config text (Err (illegal v)) (Err (bad_line n)) a b = absurd (bad_no_text text n (for_target a.target a.parts) b a.spelled)
one_config text (Err (illegal v)) (Err unknown_target) a b = absurd (known_target a.target a.parts text a.spelled b)
one_config text (Err (illegal v)) (Err (illegal w)) a b = ap (λ (x : Violation). Err (illegal x)) (one_broken text v w a b)

-- What a text is as a configuration, and why it is none.
use Rattle.std.specs.Prelude.{◌≡◌, ℕ, Some, List, Result, Ok, Err}
use Rattle.banzai_config.specs.Legal.{LegalFor, Violation, violation}
use Rattle.banzai_config.specs.Parts.{PartsForm}
use Rattle.banzai_config.specs.Targets.{shape_of}
use Rattle.banzai_config.specs.declared.target.Target.{Target}
use Rattle.config_text.specs.Fronts.{HasNoTarget, IsBadLine, TextOf}

-- a configuration, and the target that it is for
pub record ConfigForm : Type 0 where
  pub target : Target
  pub parts : PartsForm

-- why a text is no configuration: this line is the first that may not stand, no target has the name, or this is the first rule
-- that is broken
pub data ConfigRefusal : Type 0 where
  bad_line : ℕ → ConfigRefusal
  unknown_target : ConfigRefusal
  illegal : Violation → ConfigRefusal

-- the text is that of parts for a target, and this is the first of the target's rules that they break
pub record BreaksRule (text : List ℕ) (v : Violation) : Type 0 where
  pub target : Target
  pub parts : PartsForm
  pub spelled : TextOf target parts text
  pub broken : violation (shape_of target) parts ≡ Some v

-- what the text is: a configuration that is legal for its target, or why it is none
abbrev pub IsConfig : List ℕ → Result ConfigForm ConfigRefusal → Type 0
IsConfig text (Ok c) = TextOf c.target c.parts text × LegalFor (shape_of c.target) c.parts
IsConfig text (Err (bad_line n)) = IsBadLine text n
IsConfig text (Err unknown_target) = HasNoTarget text
IsConfig text (Err (illegal v)) = BreaksRule text v

abbrev pub config_form : Target → PartsForm → ConfigForm
config_form target parts = record { target = target; parts = parts }

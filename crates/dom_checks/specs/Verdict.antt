-- What the check of a program answers.
use Rattle.dom_ast.specs.Form.{ProgramForm}
use Rattle.dom_checks.specs.declared.faults.CheckFault.{CheckFault}
use Rattle.dom_checks.specs.Answers.{IsFirst}
use Rattle.dom_checks.specs.Walk.{walk}

-- the fault is that of the first violated check of the program; of want of memory nothing is said
abbrev pub IsViolation : ProgramForm → CheckFault → Type 0
IsViolation p f = IsFirst f (walk p)

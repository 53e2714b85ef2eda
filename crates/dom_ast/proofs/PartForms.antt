-- The equations of the forms of resolved trees.
use Rattle.std.proofs.Common.{◌≡◌, List, sym, ap, ◌∙◌}
use Rattle.std.specs.Prelude.{Box}
use Rattle.std.specs.declared.alloc.Global.{Global}
use Rattle.dom_words.specs.declared.hash.HashName.{HashName}
use Rattle.dom_words.specs.declared.operators.BinOp.{BinOp}
use Rattle.dom_ast.specs.declared.checked.Act.{Act}
use Rattle.dom_ast.specs.declared.checked.Act.TheFolds.{fold-roll-Act}
use Rattle.dom_ast.specs.declared.checked.Act.TheOpen.{Act-F}
use Rattle.dom_ast.specs.declared.checked.Act.TheVariants.{Assign, If, rolls-Assign, rolls-If}
use Rattle.dom_ast.specs.declared.part.Goal.{Goal}
use Rattle.dom_ast.specs.declared.part.Part.{Part}
use Rattle.dom_ast.specs.declared.part.Part.TheFolds.{fold-roll-Part}
use Rattle.dom_ast.specs.declared.part.Part.TheOpen.{Part-F}
use Rattle.dom_ast.specs.declared.part.Part.TheVariants.{Call, rolls-Call}
use Rattle.dom_ast.specs.declared.part.Part.TheViews.{Chain, rolls-Chain}
use Rattle.dom_ast.specs.Resolved.{ActForm, PartForm, act_form, act_forms, act_step, assign, branch, call, chain, form, forms, part_step}
use Rattle.dom_ast.specs.inner.PartOps.{op_forms}

pub form_call : (unit : HashName) (args : List Part) → form (Call unit args) ≡ call unit (forms args)
form_call unit args = ap form (sym (rolls-Call unit args)) ∙ fold-roll-Part PartForm part_step (Part-F.Call unit args)

pub form_chain : (first : Box Part Global) (rest : List (BinOp × Part)) → form (Chain first rest) ≡ chain (form first.value) (op_forms rest)
form_chain first rest = ap form (sym (rolls-Chain first rest)) ∙ fold-roll-Part PartForm part_step (Part-F.Chain first rest)

pub form_assign : (goal : Goal) (value : Part) → act_form (Assign goal value) ≡ assign goal (form value)
form_assign goal value = ap act_form (sym (rolls-Assign goal value)) ∙ fold-roll-Act ActForm act_step (Act-F.Assign goal value)

pub form_if : (test : Part) (a b : List Act) → act_form (If test a b) ≡ branch (form test) (act_forms a) (act_forms b)
form_if test a b = ap act_form (sym (rolls-If test a b)) ∙ fold-roll-Act ActForm act_step (Act-F.If test a b)

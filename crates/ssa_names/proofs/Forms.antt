-- The equations of the forms of expressions, and of the first operands.
use Rattle.std.proofs.Common.{◌≡◌, ℕ, ◌+◌, List, [], ◌∷◌, ◌++◌, sym, ap, ◌∙◌, arith}
use Rattle.std.specs.Prelude.{Box}
use Rattle.std.specs.declared.alloc.Global.{Global}
use Rattle.std.proofs.lemmas.List.FromFn.{map-range_with_len_more}
use Rattle.dom_words.specs.declared.hash.HashName.{HashName}
use Rattle.dom_words.specs.declared.operators.BinOp.{BinOp}
use Rattle.dom_ast.specs.declared.part.Part.{Part}
use Rattle.dom_ast.specs.declared.part.Part.TheViews.{Call, Chain, rolls-Call, rolls-Chain}
use Rattle.dom_ast.specs.declared.part.Part.TheFolds.{fold-roll-Part}
use Rattle.dom_ast.specs.declared.part.Part.TheOpen.{Part-F}
use Rattle.ssa_names.specs.declared.operand.Operand.TheVariants.{Field}
use Rattle.ssa_names.specs.inner.Tables.{first_fields}
use Rattle.dom_ast.specs.Resolved.{PartForm, call, chain, form, forms, part_step}
use Rattle.dom_ast.specs.inner.PartOps.{op_forms}

pub form_call : (unit : HashName) (args : List Part) → form (Call unit args) ≡ call unit (forms args)
form_call unit args = ap form (sym (rolls-Call unit args)) ∙ fold-roll-Part PartForm part_step (Part-F.Call unit args)

pub form_chain : (b : Box Part Global) (rest : List (BinOp × Part)) → form (Chain b rest) ≡ chain (form b.value) (op_forms rest)
form_chain b rest = ap form (sym (rolls-Chain b rest)) ∙ fold-roll-Part PartForm part_step (Part-F.Chain b rest)

-- one field more
pub first_more : (k : ℕ) → first_fields (k + 1) ≡ first_fields k ++ Field k ∷ []
first_more k = map-range_with_len_more Field 0 k k (omega arith)

-- Expressions in lists, renamed one by one.
use Rattle.std.proofs.Common.{◌≡◌, List, [], ◌∷◌, map, refl, ap}
use Rattle.dom_words.specs.declared.operators.BinOp.{BinOp}
use Rattle.dom_ast.specs.Resolved.{PartForm, part, op, parts_of, ops_of}
use Rattle.ssa_names.specs.Naming.{Current, renamed, all_renamed, ops_renamed}
use Rattle.ssa_names.specs.inner.Tables.{op_renamed}

pub all_renamed_of : (now : Current) (ps : List PartForm) → all_renamed now (parts_of ps) ≡ parts_of (map (renamed now) ps)
all_renamed_of now [] = refl
all_renamed_of now (p ∷ ps) = ap (part (renamed now p)) (all_renamed_of now ps)

pub ops_renamed_of : (now : Current) (ps : List (BinOp × PartForm)) → ops_renamed now (ops_of ps) ≡ ops_of (map (op_renamed now) ps)
ops_renamed_of now [] = refl
ops_renamed_of now (p ∷ ps) = ap (op p.0 (renamed now p.1)) (ops_renamed_of now ps)

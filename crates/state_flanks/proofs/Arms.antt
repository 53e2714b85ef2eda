-- The mentions of an expression, of those that are left of a list, and of a step, in two parts.
use Rattle.std.proofs.Common.{◌≡◌, ℕ, ◌+◌, ◌<◌, List, ◌∷◌, ◌++◌, drop, length, refl, sym, ap, ◌∙◌}
use Rattle.std.specs.Prelude.{Box}
use Rattle.std.specs.declared.alloc.Global.{Global}
use Rattle.std.proofs.Math.ListN.{get_or}
use Rattle.std.proofs.lemmas.List.{drop_more}
use Rattle.dom_words.specs.declared.operators.BinOp.{BinOp}
use Rattle.dom_ast.specs.declared.part.Part.{Part}
use Rattle.dom_ast.specs.declared.part.Part.TheViews.{Chain, Cond, rolls-Chain, rolls-Cond}
use Rattle.dom_ast.specs.declared.part.Part.TheFolds.{fold-roll-Part}
use Rattle.dom_ast.specs.declared.part.Part.TheOpen.{Part-F}
use Rattle.dom_ast.specs.declared.steps.Step.{Step}
use Rattle.dom_ast.specs.Kept.{goal_mentions, ops_mentions, part_mentions, parts_mentions}
use Rattle.dom_ast.specs.Resolved.{PartForm, form, forms, part_step}
use Rattle.dom_ast.specs.inner.PartOps.{op_forms}
use Rattle.dom_ast.specs.Straight.{step_form}
use Rattle.state_flanks.specs.WithFlanks.{step_mentions}
use Rattle.state_flanks.proofs.Marks.{Parts}

-- of a chain: its first operand, and the others
pub chain_mentions : (x : Part) (b : Box Part Global) (rest more : List (BinOp × Part)) (e : Part) → x ≡ Chain b rest → e ≡ b.value → more ≡ rest → Parts (part_mentions (form x)) (part_mentions (form e)) (ops_mentions (op_forms more))
chain_mentions x b rest more e is here same_rest = record {
  are =
      ap (λ y. part_mentions (form y)) (is ∙ sym (rolls-Chain b rest))
      ∙ ap part_mentions (fold-roll-Part PartForm part_step (Part-F.Chain b rest))
      ∙ ap (λ y. part_mentions (form y) ++ ops_mentions (op_forms rest)) (sym here)
      ∙ ap (λ y. part_mentions (form e) ++ ops_mentions (op_forms y)) (sym same_rest);
}

-- of a conditional: its test, and its two sides; and of these
pub choice_mentions : (x : Part) (a b c : Box Part Global) (d e f : Part) → x ≡ Cond a b c → d ≡ a.value → e ≡ b.value → f ≡ c.value → Parts (part_mentions (form x)) (part_mentions (form d)) (part_mentions (form e) ++ part_mentions (form f)) × Parts (part_mentions (form e) ++ part_mentions (form f)) (part_mentions (form e)) (part_mentions (form f))
choice_mentions x a b c d e f is p q r = (
  record {
    are =
        ap (λ y. part_mentions (form y)) (is ∙ sym (rolls-Cond a b c))
        ∙ ap part_mentions (fold-roll-Part PartForm part_step (Part-F.Cond a b c))
        ∙ ap (λ y. part_mentions (form y) ++ (part_mentions (form b.value) ++ part_mentions (form c.value))) (sym p)
        ∙ ap (λ y. part_mentions (form d) ++ (part_mentions (form y) ++ part_mentions (form c.value))) (sym q)
        ∙ ap (λ y. part_mentions (form d) ++ (part_mentions (form e) ++ part_mentions (form y))) (sym r);
  },
  record { are = refl },
)

-- of what is left from number i on: the first, and the others
pub parts_more : (xs : List Part) (i : ℕ) (x d : Part) → i < length xs → x ≡ get_or xs i d → Parts (parts_mentions (forms (drop i xs))) (part_mentions (form x)) (parts_mentions (forms (drop (i + 1) xs)))
parts_more xs i x d less is =
    record { are = ap (λ ys. parts_mentions (forms ys)) (drop_more xs i d less ∙ ap (λ y. y ∷ drop (i + 1) xs) (sym is)) }

pub operands_more : (xs : List (BinOp × Part)) (i : ℕ) (x d : BinOp × Part) → i < length xs → x ≡ get_or xs i d → Parts (ops_mentions (op_forms (drop i xs))) (part_mentions (form x.1)) (ops_mentions (op_forms (drop (i + 1) xs)))
operands_more xs i x d less is =
    record { are = ap (λ ys. ops_mentions (op_forms ys)) (drop_more xs i d less ∙ ap (λ y. y ∷ drop (i + 1) xs) (sym is)) }

-- of a step: its value, and its target
pub step_parts : (s : Step) → Parts (step_mentions (step_form s)) (part_mentions (form s.value)) (goal_mentions s.target)
step_parts s = record { are = refl }

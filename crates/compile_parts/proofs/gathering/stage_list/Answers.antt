use Rattle.std.proofs.Common.{◌++◌, ◌∷◌, [], ◌∙◌, List, map, sym, ap}
use Rattle.std.proofs.lemmas.List.{map-append}
use Rattle.atom_match.specs.Atoms.{atom_form}
use Rattle.banzai_config.specs.Parts.{StageForm, stage_form}
use Rattle.compile_law.specs.Compiled.{Staged, staged, stages_from}
use Rattle.compile_parts.proofs.Stages.{stages_more}
use Rattle.compile_parts.proofs.gathering.stage_list.Goals as goal

pub stages-preserved : goal.stages-preserved
stages-preserved g c =
    let qs : List Staged = staged c.args.codelets.now (map (atom_form g.T.AtomTemplate.trees_of) c.args.atoms.now.list) c.args.stages.now in
    ap (map stage_form) c.in_ok-push.ensures.ok
    ∙ map-append stage_form c.stages.list (c.in_ok-stage.stage ∷ [])
    ∙ ap (λ (ss : List StageForm). ss ++ stage_form c.in_ok-stage.stage ∷ []) c.stages.invariant
    ∙ ap (λ (s : StageForm). stages_from qs 0 c.stages.k ++ s ∷ []) c.in_ok-stage.ensures
    ∙ sym (stages_more qs c.stages.k)

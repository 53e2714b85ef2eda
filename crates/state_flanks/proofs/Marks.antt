-- Tables after mentions and after steps, one more at a time.
use Rattle.std.proofs.Common.{◌≡◌, Bool, List, [], ◌∷◌, ◌++◌, map, refl, sym, ap, append_assoc, ◌∙◌}
use Rattle.std.specs.Prelude.{Option, flat_map}
use Rattle.std.proofs.lemmas.Grind.{flat_map-append}
use Rattle.std.proofs.lemmas.List.{append-nil, map-append}
use Rattle.std.proofs.lemmas.List.Sums.{fold-append}
use Rattle.dom_ast.specs.declared.flanks.FlankItem.{FlankItem}
use Rattle.dom_ast.specs.declared.flanks.FlankItem.TheVariants as item
use Rattle.dom_ast.specs.declared.part.Place.{Place}
use Rattle.dom_ast.specs.declared.steps.Step.{Step}
use Rattle.dom_ast.specs.Flanks.{FlankForm, flank_form, set}
use Rattle.dom_ast.specs.Kept.{Mention}
use Rattle.dom_ast.specs.Straight.{StepForm, step_form}
use Rattle.state_flanks.specs.inner.Tables.{marked, marks, new_read, noted, reads, steps_noted, steps_reads}
use Rattle.state_flanks.specs.WithFlanks.{step_mentions}

pub marks_append : (table : List Bool) (ms ns : List Mention) → marks table (ms ++ ns) ≡ marks (marks table ms) ns
marks_append table ms ns = fold-append marked table ms ns

pub reads_append : (table : List Bool) (ms ns : List Mention) → reads table (ms ++ ns) ≡ reads table ms ++ reads (marks table ms) ns
reads_append table [] ns = refl
reads_append table (m ∷ ms) ns =
    ap (λ items. new_read table m ++ items) (reads_append (marked table m) ms ns)
    ∙ sym (append_assoc (new_read table m) (reads (marked table m) ms) (reads (marks (marked table m) ms) ns))

-- mentions in two parts
pub record Parts (all ms ns : List Mention) : Type 0 where
  pub are : all ≡ ms ++ ns

-- the flanks and the table after them, where those after each part are known
pub both_reads : (before now after : List FlankForm) (table later : List Bool) (all ms ns : List Mention) → Parts all ms ns → now ≡ before ++ reads table ms → later ≡ marks table ms → after ≡ now ++ reads later ns → after ≡ before ++ reads table all
both_reads before now after table later all ms ns parts first marked second =
    second
    ∙ ap (λ items. items ++ reads later ns) first
    ∙ append_assoc before (reads table ms) (reads later ns)
    ∙ ap (λ t. before ++ (reads table ms ++ reads t ns)) marked
    ∙ ap (λ items. before ++ items) (sym (reads_append table ms ns))
    ∙ ap (λ mentions. before ++ reads table mentions) (sym parts.are)

pub both_marks : (table later last : List Bool) (all ms ns : List Mention) → Parts all ms ns → later ≡ marks table ms → last ≡ marks later ns → last ≡ marks table all
both_marks table later last all ms ns parts first second =
    second ∙ ap (λ t. marks t ns) first ∙ sym (marks_append table ms ns) ∙ ap (marks table) (sym parts.are)

-- a step behind its flanks
pub with_step : (before now after : List FlankItem) (flanks : List FlankForm) (s : Step) → map flank_form now ≡ map flank_form before ++ flanks → after ≡ now ++ item.Set s ∷ [] → map flank_form after ≡ map flank_form before ++ (flanks ++ set (step_form s) ∷ [])
with_step before now after flanks s come put =
    ap (map flank_form) put
    ∙ map-append flank_form now (item.Set s ∷ [])
    ∙ ap (λ is. is ++ set (step_form s) ∷ []) come
    ∙ append_assoc (map flank_form before) flanks (set (step_form s) ∷ [])

steps_reads-append : (table : List Bool) (ss : List StepForm) (s : StepForm) → steps_reads table (ss ++ s ∷ []) ≡ steps_reads table ss ++ (reads (marks table (flat_map step_mentions ss)) (step_mentions s) ++ set s ∷ [])
steps_reads-append table [] s = refl
steps_reads-append table (t ∷ ss) s =
    let here = step_mentions t in
    let later : List Bool → List FlankForm = λ marked. reads marked (step_mentions s) ++ set s ∷ [] in
    ap (λ items. reads table here ++ (set t ∷ items)) (steps_reads-append (marks table here) ss s)
    ∙ sym (append_assoc (reads table here) (set t ∷ steps_reads (marks table here) ss) (later (marks (marks table here) (flat_map step_mentions ss))))
    ∙ ap (λ marked. steps_reads table (t ∷ ss) ++ later marked) (sym (marks_append table here (flat_map step_mentions ss)))

pub next_items : (before now after : List FlankItem) (start table : List Bool) (done : List Step) (s : Step) → map flank_form now ≡ map flank_form before ++ steps_reads start (map step_form done) → table ≡ marks start (flat_map step_mentions (map step_form done)) → map flank_form after ≡ map flank_form now ++ (reads table (step_mentions (step_form s)) ++ set (step_form s) ∷ []) → map flank_form after ≡ map flank_form before ++ steps_reads start (map step_form (done ++ s ∷ []))
next_items before now after start table done s items marked put =
    let here : List Bool → List FlankForm = λ t. reads t (step_mentions (step_form s)) ++ set (step_form s) ∷ [] in
    put
    ∙ ap (λ is. is ++ here table) items
    ∙ append_assoc (map flank_form before) (steps_reads start (map step_form done)) (here table)
    ∙ ap (λ t. map flank_form before ++ (steps_reads start (map step_form done) ++ here t)) marked
    ∙ ap (λ is. map flank_form before ++ is) (sym (steps_reads-append start (map step_form done) (step_form s)))
    ∙ ap (λ ss. map flank_form before ++ steps_reads start ss) (sym (map-append step_form done (s ∷ [])))

pub next_marks : (start table after : List Bool) (done : List Step) (s : Step) → table ≡ marks start (flat_map step_mentions (map step_form done)) → after ≡ marks table (step_mentions (step_form s)) → after ≡ marks start (flat_map step_mentions (map step_form (done ++ s ∷ [])))
next_marks start table after done s marked put =
    let mentions : List StepForm → List Mention = λ ss. flat_map step_mentions ss in
    put
    ∙ ap (λ t. marks t (step_mentions (step_form s))) marked
    ∙ sym (marks_append start (mentions (map step_form done)) (step_mentions (step_form s)))
    ∙ ap (λ ms. marks start (mentions (map step_form done) ++ ms)) (sym (append-nil (step_mentions (step_form s))))
    ∙ ap (marks start) (sym (flat_map-append step_mentions (map step_form done) (step_form s ∷ [])))
    ∙ ap (λ ss. marks start (mentions ss)) (sym (map-append step_form done (s ∷ [])))

pub next_notes : (start table after : List (Option Place)) (done : List Step) (s : Step) → table ≡ steps_noted start (map step_form done) → after ≡ noted table s.target → after ≡ steps_noted start (map step_form (done ++ s ∷ []))
next_notes start table after done s notes put =
    let note : List (Option Place) → StepForm → List (Option Place) = λ t s. noted t s.target in
    put
    ∙ ap (λ t. noted t s.target) notes
    ∙ sym (fold-append note start (map step_form done) (step_form s ∷ []))
    ∙ ap (steps_noted start) (sym (map-append step_form done (s ∷ [])))

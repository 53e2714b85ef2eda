use Rattle.std.proofs.Common.{◌≡◌, ℕ, ◌+◌, ◌-◌, Bool, Some, List, [], ◌++◌, length, slice_get, take, ◌∙◌, ap, sym, arith, add-one}
use Rattle.std.proofs.lemmas.List.{length-map}
use Rattle.std.specs.Prelude.{nat_lt, ◌||◌}
use Rattle.banzai_config.specs.Parts.{StageForm, fit_form}
use Rattle.banzai_machine.specs.Busy.{busy_from, has_atoms, noted}
use Rattle.banzai_machine.specs.Runnable.{stage_at}
use Rattle.banzai_machine.proofs.Acted.{stage_found}
use Rattle.banzai_machine.proofs.Skipped.{busy_step}
use Rattle.banzai_machine.proofs.make.busy.Goals as goal

pub loop-k-preserved : goal.loop-k-preserved
loop-k-preserved g c =
    let k : ℕ = c.loop-k.k in
    let stages = c.args.config.now.stages in
    let s : StageForm = stage_at stages k in
    let found : slice_get stages k ≡ Some s = stage_found stages k (omega (arith, c.stages-k-end.ensures)) in
    let one : k + 1 - 1 ≡ k = omega arith in
    let here : slice_get stages (k + 1 - 1) ≡ Some s = ap (λ (i : ℕ). slice_get stages i) one ∙ found in
    let ops : length c.stateless.result.now ≡ length s.stateless = ap length (c.stateless.ensures s here) in
    let fits : length c.stateful.result.now ≡ length s.stateful =
    sym (length-map c.stateful.result.now (fit_form g.T.AtomTemplate.trees_of)) ∙ ap length (c.stateful.ensures s here) in
    let has : c.has_atoms-has.result ≡ has_atoms s =
    c.has_atoms-has.ensures
    ∙ ap (λ (n : ℕ). nat_lt 0 n || nat_lt 0 (length c.stateful.result.now)) ops
    ∙ ap (λ (n : ℕ). nat_lt 0 (length s.stateless) || nat_lt 0 n) fits in
    let same : 0 + k ≡ k = omega arith in
    rw add-one
    (c.in_ok-note.ensures
    ∙ ap (λ (ks : List ℕ). ks ++ noted c.has_atoms-has.result k []) c.loop-k.invariant
    ∙ ap (λ (b : Bool). busy_from 0 (take k stages) ++ noted b k []) has
    ∙ ap (λ (m : ℕ). busy_from 0 (take k stages) ++ noted (has_atoms s) m []) (sym same)
    ∙ sym (busy_step 0 stages k s found))

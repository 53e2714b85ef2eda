use Rattle.std.proofs.Common.{◌≡◌, ℕ, ◌+◌, length, List, arith, ap, ◌∙◌, map}
use Rattle.std.specs.Prelude.{slice_index}
use Rattle.std.specs.List.{range_with_len}
use Rattle.banzai_config.specs.Parts.{parts_form}
use Rattle.container_plan.specs.Shared.{all_taken}
use Rattle.container_plan.specs.Spans.{Taken, container_in, number_in}
use Rattle.container_plan.specs.State.{taken_before}
use Rattle.container_plan.proofs.Plans.{AreMarks, are_marks, short_marks, taken_by}
use Rattle.container_plan.proofs.spans.plan.Goals as goal

pub assign-requires-clause-short : goal.assign-requires-clause-short
assign-requires-clause-short c v =
    let marks : AreMarks c.args.parts.now c.in_ok-made.made.items c.in_ok-last.last.items =
    are_marks c.args.parts.now c.in_ok-made.made.items c.in_ok-last.last.items c.len.result c.as_slice-stages.result.now c.as_slice.result.now c.deref.result.now
    c.len.ensures c.as_slice-stages.ensures c.as_slice.ensures c.deref.ensures.value c.in_ok-made.ensures.0 c.in_ok-made.ensures.1 c.in_ok-last.ensures.0 c.in_ok-last.ensures.1 in
    omega (
      arith,
      ap (λ (xs : List ℕ). slice_index xs v) c.deref-2.ensures.value,
      ap (λ (xs : List ℕ). slice_index xs v) c.deref-3.ensures.value,
      short_marks c.args.parts.now c.in_ok-made.made.items c.in_ok-last.last.items marks c.requires.short v,
    )

pub returns : goal.returns
returns c =
    let marks : AreMarks c.args.parts.now c.in_ok-made.made.items c.in_ok-last.last.items =
    are_marks c.args.parts.now c.in_ok-made.made.items c.in_ok-last.last.items c.len.result c.as_slice-stages.result.now c.as_slice.result.now c.deref.result.now
    c.len.ensures c.as_slice-stages.ensures c.as_slice.ensures c.deref.ensures.value c.in_ok-made.ensures.0 c.in_ok-made.ensures.1 c.in_ok-last.ensures.0 c.in_ok-last.ensures.1 in
    let all : taken_before c.deref-2.result.now c.deref-3.result.now (length c.as_slice-stages.result.now + 1) ≡ all_taken (parts_form c.args.parts.now) =
    taken_by c.args.parts.now c.in_ok-made.made.items c.in_ok-last.last.items c.deref-2.result.now c.deref-3.result.now c.as_slice-stages.result.now marks c.deref-2.ensures.value c.deref-3.ensures.value c.as_slice-stages.ensures in
    let long : length c.deref-2.result.now ≡ c.args.parts.now.containers = ap (λ (xs : List ℕ). length xs) c.deref-2.ensures.value ∙ c.in_ok-made.ensures.0 in (
      c.in_ok-plan.ensures.0 ∙ ap (λ (n : ℕ). map (container_in (taken_before c.deref-2.result.now c.deref-3.result.now (length c.as_slice-stages.result.now + 1))) (range_with_len 0 n)) long
          ∙ ap (λ (ts : List Taken). map (container_in ts) (range_with_len 0 c.args.parts.now.containers)) all,
      c.in_ok-plan.ensures.1 ∙ ap (λ (ts : List Taken). number_in ts) all,
    )

use Rattle.std.proofs.Common.{◌≡◌, ℕ, ◌+◌, ◌<◌, length, List, arith, ap, ◌∙◌, take, drop, ◌++◌, if◌then◌else◌, map}
use Rattle.std.specs.Prelude.{slice_index}
use Rattle.std.specs.List.{flat_map}
use Rattle.banzai_config.specs.Legal.{has}
use Rattle.banzai_config.specs.Named.{port_reads}
use Rattle.banzai_config.specs.Parts.{stage_form}
use Rattle.container_plan.specs.Shared.{last_from}
use Rattle.container_plan.specs.Marks.{marked}
use Rattle.container_plan.proofs.State.{over_all}
use Rattle.container_plan.proofs.Marking.{marked_at}
use Rattle.container_plan.proofs.spans.last_of.Goals as goal

pub returns : goal.returns
returns c =
    let n : ℕ = c.in_ok-last.last.len in
    let items : List ℕ = c.in_ok-last.last.items in
    let m1 : List ℕ = c.mark_read.new.marks in
    let m2 : List ℕ = c.mark_ports.new.marks in
    let copy : items ≡ c.args.made.now = c.in_ok-last.ensures.items_if_clones_equal (λ x y e. e) in
    let long : n ≡ length items = c.in_ok-last.last.ok.0 in
    let value : c.deref_mut.result.now ≡ items = c.deref_mut.ensures.value in
    let long1 : length m1 ≡ length items = c.mark_read.auto.marks ∙ ap (λ (xs : List ℕ). length xs) value in
    let first : take n (m1 ++ drop (length m1) items) ≡ m1 = over_all m1 items n long1 long in
    let value2 : c.deref_mut-2.result.now ≡ m1 = c.deref_mut-2.ensures.value ∙ first in
    let long2 : length m2 ≡ length m1 = c.mark_ports.auto.marks ∙ ap (λ (xs : List ℕ). length xs) value2 in
    let whole : take n (m2 ++ drop (length m2) (take n (m1 ++ drop (length m1) items))) ≡ m2 =
    ap (λ (xs : List ℕ). take n (m2 ++ drop (length m2) xs)) first ∙ over_all m2 m1 n long2 (omega arith) in
    let size : length items ≡ length c.args.made.now = ap (λ (xs : List ℕ). length xs) copy in
    rw whole (
      long2 ∙ long1 ∙ size,
      λ v h.
          let is : m2 ≡ marked (length c.args.stages.now + 1) (flat_map port_reads c.args.outputs.now) m1 = c.mark_ports.ensures ∙ ap (λ (xs : List ℕ). marked (length c.args.stages.now + 1) (flat_map port_reads c.args.outputs.now) xs) value2 in
          let low : v < length c.deref_mut.result.now = omega (arith, ap (λ (xs : List ℕ). length xs) value) in
          let read : slice_index m1 v ≡ last_from 1 (map stage_form c.args.stages.now) v (slice_index c.args.made.now v) =
          c.mark_read.ensures v low ∙ ap (λ (xs : List ℕ). last_from 1 (map stage_form c.args.stages.now) v (slice_index xs v)) (value ∙ copy) in
          ap (λ (xs : List ℕ). slice_index xs v) is ∙ marked_at (length c.args.stages.now + 1) (flat_map port_reads c.args.outputs.now) m1 v (omega arith)
          ∙ ap (λ (z : ℕ). if has v (flat_map port_reads c.args.outputs.now) then length c.args.stages.now + 1 else z) read,
    )

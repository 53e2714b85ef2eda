use Rattle.std.proofs.Common.{◌≡◌, Bool, true, false, Option, IfOk, sym, subst, ◌∙◌}
use Rattle.std.proofs.lemmas.Bool.{lt-ltb}
use Rattle.banzai_config.specs.declared.fault.ConfigKind.{ConfigKind}
use Rattle.banzai_config.specs.Judged.{seen_before, shape_in, sizes_in}
use Rattle.banzai_config.specs.Named.{arrays_of, reads_of, targets_of}
use Rattle.banzai_config.specs.Parts.{Stateful, atom_form}
use Rattle.banzai_config.proofs.Judging.{tree_is_there, numbers_broken, pattern_broken, names_decide, names_same}
use Rattle.banzai_config.proofs.judge.judge_trees.Goals as goal

pub returns-then-not-is_tree_there-clause-kind : goal.returns-then-not-is_tree_there-clause-kind
returns-then-not-is_tree_there-clause-kind g c =
    let a = atom_form c.args.atom.now in
    let n = c.in_ok-names.ensures in
    let there = tree_is_there c.args.frame c.in_ok-names.names a n.reads n.targets n.arrays in
    numbers_broken (shape_in g.T.AtomTemplate.fits g.T.AtomTemplate.CONST_BITS c.args.limits) (sizes_in c.args.frame) (seen_before c.args.place c.args.seen.now) a
    (lt-ltb c.args.place c.args.limits.stateful c.if-place-limits.false) (sym there ∙ sym c.if-not-is_tree_there.ensures)

pub returns-in-Some-clause-kind : goal.returns-in-Some-clause-kind
returns-in-Some-clause-kind g c =
    let a = atom_form c.args.atom.now in
    let n = c.in_ok-names.ensures in
    let there = tree_is_there c.args.frame c.in_ok-names.names a n.reads n.targets n.arrays in
    pattern_broken (shape_in g.T.AtomTemplate.fits g.T.AtomTemplate.CONST_BITS c.args.limits) (sizes_in c.args.frame) (seen_before c.args.place c.args.seen.now) a
    (lt-ltb c.args.place c.args.limits.stateful c.if-place-limits.false) (sym there ∙ sym c.if-not-is_tree_there.ensures)
    c.in-Some.kind (sym c.in-Some.is ∙ c.in_ok-kind.ensures)

pub returns-clause-kind : goal.returns-clause-kind
returns-clause-kind g c =
    let a = atom_form c.args.atom.now in
    let n = c.in_ok-names.ensures in
    let there = tree_is_there c.args.frame c.in_ok-names.names a n.reads n.targets n.arrays in
    let before = seen_before c.args.place c.args.seen.now in
    let P : Option ConfigKind → Type 0 = λ x. IfOk c.judge_names.result (λ k. k ≡ x) in
    subst P
    (names_same (sizes_in c.args.frame) before c.in_ok-names.names.arrays.items c.in_ok-names.names.reads.items c.in_ok-names.names.targets.items (arrays_of (Stateful a)) (reads_of (Stateful a)) (targets_of (Stateful a)) n.arrays n.reads n.targets
    ∙ names_decide (shape_in g.T.AtomTemplate.fits g.T.AtomTemplate.CONST_BITS c.args.limits) (sizes_in c.args.frame) before a
    (lt-ltb c.args.place c.args.limits.stateful c.if-place-limits.false) (sym there ∙ sym c.if-not-is_tree_there.ensures) (sym c.in-None.is ∙ c.in_ok-kind.ensures))
    c.judge_names.ensures.kind

use Rattle.probe_taps.specs.Taps.{tap_forms}
use Rattle.dom_shell.specs.declared.commands.task.Task.TheVariants as task
use Rattle.dom_shell.proofs.Tasked.{for_task, read_task}
use Rattle.dom_shell.proofs.commands.targets.perform_on.Goals as goal

pub compile_on-requires-clause-text : goal.compile_on-requires-clause-text
compile_on-requires-clause-text g c = read_task c.args.target c.args.text.now c.args.task task.Compile c.in-Compile.is c.requires.text

pub run_on-requires-clause-text : goal.run_on-requires-clause-text
run_on-requires-clause-text g c = read_task c.args.target c.args.text.now c.args.task (task.Run c.in-Run.trace) c.in-Run.is c.requires.text

pub codelets_on-requires-clause-text : goal.codelets_on-requires-clause-text
codelets_on-requires-clause-text g c = read_task c.args.target c.args.text.now c.args.task task.Codelets c.in-Codelets.is c.requires.text

pub planned_on-requires-clause-text : goal.planned_on-requires-clause-text
planned_on-requires-clause-text g c = read_task c.args.target c.args.text.now c.args.task (task.Planned c.in-Planned.plan) c.in-Planned.is c.requires.text

pub returns-in-Codelets-clause-end : goal.returns-in-Codelets-clause-end
returns-in-Codelets-clause-end g c name =
    for_task c.args.target name c.args.text.now c.args.task task.Codelets _ c.in-Codelets.is
    (c.codelets_on.ensures name (g.H.HashUnits.meaning c.args.hash.now) (tap_forms (λ b. (goal.Tap-dyn g (b.vtable, b.value)).form b.value) c.args.taps.items) (g.F.Shelf.content c.args.shelf.now) (g.F.Shelf.faults c.args.shelf.now))

pub returns-in-Planned-clause-end : goal.returns-in-Planned-clause-end
returns-in-Planned-clause-end g c name =
    for_task c.args.target name c.args.text.now c.args.task (task.Planned c.in-Planned.plan) _ c.in-Planned.is
    (c.planned_on.ensures.end name (g.H.HashUnits.meaning c.args.hash.now) (tap_forms (λ b. (goal.Tap-dyn g (b.vtable, b.value)).form b.value) c.args.taps.items))

pub returns-in-Compile-clause-end : goal.returns-in-Compile-clause-end
returns-in-Compile-clause-end g c name =
    for_task c.args.target name c.args.text.now c.args.task task.Compile _ c.in-Compile.is
    (c.compile_on.ensures name (g.H.HashUnits.meaning c.args.hash.now) (tap_forms (λ b. (goal.Tap-dyn g (b.vtable, b.value)).form b.value) c.args.taps.items) (g.F.Shelf.content c.args.shelf.now) (g.F.Shelf.faults c.args.shelf.now))

pub returns-in-Run-clause-end : goal.returns-in-Run-clause-end
returns-in-Run-clause-end g c name =
    for_task c.args.target name c.args.text.now c.args.task (task.Run c.in-Run.trace) _ c.in-Run.is (c.run_on.ensures.end name (tap_forms (λ b. (goal.Tap-dyn g (b.vtable, b.value)).form b.value) c.args.taps.items))

pub selfrun_on-requires-clause-text : goal.selfrun_on-requires-clause-text
selfrun_on-requires-clause-text g c = (read_task c.args.target c.args.text.now c.args.task (task.SelfRun c.in-SelfRun.seed c.in-SelfRun.count) c.in-SelfRun.is c.requires.text).0

pub selfrun_on-requires-clause-few : goal.selfrun_on-requires-clause-few
selfrun_on-requires-clause-few g c = (read_task c.args.target c.args.text.now c.args.task (task.SelfRun c.in-SelfRun.seed c.in-SelfRun.count) c.in-SelfRun.is c.requires.text).1

pub returns-in-SelfRun-clause-end : goal.returns-in-SelfRun-clause-end
returns-in-SelfRun-clause-end g c name =
    for_task c.args.target name c.args.text.now c.args.task (task.SelfRun c.in-SelfRun.seed c.in-SelfRun.count) _ c.in-SelfRun.is
    (c.selfrun_on.ensures (tap_forms (λ b. (goal.Tap-dyn g (b.vtable, b.value)).form b.value) c.args.taps.items) (g.F.Shelf.content c.args.shelf.now) (g.F.Shelf.faults c.args.shelf.now))

pub returns-in-Upgrade-clause-end : goal.returns-in-Upgrade-clause-end
returns-in-Upgrade-clause-end g c name =
    for_task c.args.target name c.args.text.now c.args.task (task.Upgrade c.in-Upgrade.parts) _ c.in-Upgrade.is
    (c.upgrade_on.ensures name c.args.text.now (g.H.HashUnits.meaning c.args.hash.now) (tap_forms (λ b. (goal.Tap-dyn g (b.vtable, b.value)).form b.value) c.args.taps.items) (g.F.Shelf.content c.args.shelf.now) (g.F.Shelf.faults c.args.shelf.now)
    (read_task c.args.target c.args.text.now c.args.task (task.Upgrade c.in-Upgrade.parts) c.in-Upgrade.is c.requires.text))

pub returns-in-Elastic-clause-end : goal.returns-in-Elastic-clause-end
returns-in-Elastic-clause-end g c name =
    for_task c.args.target name c.args.text.now c.args.task (task.Elastic c.in-Elastic.parts c.in-Elastic.trace c.in-Elastic.events) _ c.in-Elastic.is
    (c.elastic_on.ensures.end name c.args.text.now (tap_forms (λ b. (goal.Tap-dyn g (b.vtable, b.value)).form b.value) c.args.taps.items) (read_task c.args.target c.args.text.now c.args.task (task.Elastic c.in-Elastic.parts c.in-Elastic.trace c.in-Elastic.events) c.in-Elastic.is c.requires.text))

pub returns-in-Config-clause-end : goal.returns-in-Config-clause-end
returns-in-Config-clause-end g c name =
    for_task c.args.target name c.args.text.now c.args.task (task.Config c.in-Config.what c.in-Config.parts c.in-Config.trace) _ c.in-Config.is
    (c.over_on.ensures.end name c.args.text.now (read_task c.args.target c.args.text.now c.args.task (task.Config c.in-Config.what c.in-Config.parts c.in-Config.trace) c.in-Config.is c.requires.text))

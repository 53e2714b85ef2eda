-- What is to be done for a target.
use Rattle.std.specs.Prelude.{⊤, ◌≡◌, ℕ, ◌≤◌, Option, Some, None, List, [], ◌∷◌, if◌then◌else◌, length, nat_le}
use Rattle.dom_words.specs.Names.{has_name}
use Rattle.banzai_config.specs.Parts.{PartsForm, parts_form}
use Rattle.banzai_config.specs.declared.target.Target.{Target}
use Rattle.config_text.specs.Fronts.{TextOf}
use Rattle.dom_compile.specs.Programs.{most_program}
use Rattle.dom_finding.specs.Command.{Command, ConfigNames, codelets, compile, configs_named, elastic, exec, files_named, planned, probe, run, schedule, selfrun, watch, upgrade}
use Rattle.dom_finding.specs.CommandForm.{ranking_in}
use Rattle.dom_finding.specs.Finding.{Job, Packets, clocked, ranked, tapped, watched}
use Rattle.dom_finding.specs.OwnProgram.{own_program}
use Rattle.dom_finding.specs.declared.refusals.Refusal.{Refusal}
use Rattle.dom_finding.specs.declared.refusals.Refusal.TheVariants as refusal
use Rattle.dom_shell.specs.declared.commands.task.ConfigTask.{ConfigTask}
use Rattle.dom_shell.specs.declared.commands.task.ConfigTask.TheVariants as config
use Rattle.dom_shell.specs.declared.commands.task.Task.{Task}
use Rattle.dom_shell.specs.declared.commands.task.Task.TheVariants as task

-- the command over a configuration that asks for this, and its job
abbrev pub command_over : ConfigTask → ConfigNames → Command
command_over config.Exec names = exec names
command_over config.Watch names = watch names
command_over (config.Probe stage) names = probe names stage.number
command_over (config.Schedule ranking) names = schedule names (ranking_in ranking)

abbrev pub job_over : ConfigTask → PartsForm → Packets → Job
job_over config.Exec parts packets = clocked parts packets
job_over config.Watch parts packets = watched parts packets
job_over (config.Probe stage) parts packets = tapped stage.number parts packets
job_over (config.Schedule ranking) parts packets = ranked (ranking_in ranking) parts packets

-- what stands against it: the configuration has not the stage or the field that it names
abbrev pub against : ConfigTask → PartsForm → Option Refusal
against config.Exec parts = None
against config.Watch parts = None
against (config.Probe stage) parts = if nat_le stage.number (length parts.stages) then None else Some (refusal.Stage (length parts.stages))
against (config.Schedule ranking) parts = if has_name parts.fields ranking.field.now then None else Some refusal.Rank

-- the command that asks for a task, where the first file has this name
abbrev pub command_for : Target → List ℕ → Task → Command
command_for target name task.Compile = compile target name
command_for target name (task.Run trace) = run target (files_named name trace.now)
command_for target name task.Codelets = codelets target name
command_for target name (task.Planned plan) = planned target name plan.now
command_for target name (task.SelfRun seed count) = selfrun target seed count
command_for target name (task.Upgrade parts) = upgrade name
command_for target name (task.Elastic parts trace events) = elastic (configs_named name trace.now) events.now
command_for target name (task.Config what parts trace) = command_over what (configs_named name trace.now)

-- the texts that have been read for it, where it is done with this text
abbrev pub texts_for : Task → List ℕ → List (List ℕ)
texts_for task.Compile text = text ∷ []
texts_for (task.Run trace) text = text ∷ []
texts_for task.Codelets text = text ∷ []
texts_for (task.Planned plan) text = text ∷ []
texts_for (task.SelfRun seed count) text = []
texts_for (task.Upgrade parts) text = text ∷ []
texts_for (task.Elastic parts trace events) text = text ∷ []
texts_for (task.Config what parts trace) text = text ∷ []

-- its first file is a program
abbrev pub IsOnProgram : Task → Type 0
IsOnProgram task.Compile = ⊤
IsOnProgram (task.Run trace) = ⊤
IsOnProgram task.Codelets = ⊤
IsOnProgram (task.Planned plan) = ⊤
IsOnProgram (task.SelfRun seed count) = ⊥
IsOnProgram (task.Upgrade parts) = ⊥
IsOnProgram (task.Elastic parts trace events) = ⊥
IsOnProgram (task.Config what parts trace) = ⊥

-- what is known of the text: a program is within its limit, that of `selfrun` is its own, and a configuration has the parts
abbrev pub IsReadFor : Target → Task → List ℕ → Type 0
IsReadFor target task.Compile text = length text ≤ most_program
IsReadFor target (task.Run trace) text = length text ≤ most_program
IsReadFor target task.Codelets text = length text ≤ most_program
IsReadFor target (task.Planned plan) text = length text ≤ most_program
IsReadFor target (task.SelfRun seed count) text = (text ≡ own_program target) × (length text ≤ most_program)
IsReadFor target (task.Upgrade parts) text = TextOf target (parts_form parts) text
IsReadFor target (task.Elastic parts trace events) text = TextOf target (parts_form parts) text
IsReadFor target (task.Config what parts trace) text = TextOf target (parts_form parts) text

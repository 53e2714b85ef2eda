-- The command that the code has found, as the definition's.
use Rattle.dom_finding.specs.Command.{Command, ConfigNames, FileNames, Ranking as Named, codelets, compile, elastic, exec, planned, probe, run, schedule, selfrun, serial, watch, upgrade}
use Rattle.dom_finding.specs.declared.command.ConfigFiles.{ConfigFiles}
use Rattle.dom_finding.specs.declared.command.Files.{Files}
use Rattle.dom_finding.specs.declared.ranking.Ranking.{Ranking}
use Rattle.dom_finding.specs.declared.command.Command.{Command as Found}
use Rattle.dom_finding.specs.declared.command.Command.TheVariants as found

abbrev pub names_in : Files → FileNames
names_in files = record { program = files.program.now; trace = files.trace.now }

abbrev pub configs_in : ConfigFiles → ConfigNames
configs_in files = record { config = files.config.now; trace = files.trace.now }

abbrev pub ranking_in : Ranking → Named
ranking_in ranking = record { field = ranking.field.now; room = ranking.room; every = ranking.every }

abbrev pub command_in : Found → Command
command_in (found.Run target files) = run target (names_in files)
command_in (found.Serial files) = serial (names_in files)
command_in (found.Compile target program) = compile target program.now
command_in (found.Codelets target program) = codelets target program.now
command_in (found.Planned target program plan) = planned target program.now plan.now
command_in (found.Exec files) = exec (configs_in files)
command_in (found.Watch files) = watch (configs_in files)
command_in (found.Probe files stage) = probe (configs_in files) stage.number
command_in (found.Elastic files events) = elastic (configs_in files) events.now
command_in (found.Schedule files ranking) = schedule (configs_in files) (ranking_in ranking)
command_in (found.Upgrade config) = upgrade config.now
command_in (found.SelfRun target seed count) = selfrun target seed count

use Rattle.dom_report.proofs.Watched.{cycles_count, watched}
use Rattle.dom_report.specs.WatchReport.{at_beginning}
use Rattle.dom_report.proofs.laws.watched_cycles_are_the_pipeline.Goals as goal

pub returns-clause-count : goal.returns-clause-count
returns-clause-count c hash p entries = cycles_count hash (at_beginning hash p) 0 entries

pub returns-clause-each : goal.returns-clause-each
returns-clause-each c hash p entries = watched hash p entries

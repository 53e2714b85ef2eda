use Rattle.dom_report.proofs.ElasticLaws.{is_of_queues}
use Rattle.dom_report.proofs.laws.elastic_report_is_of_queues.Goals as goal

pub returns : goal.returns
returns c hash most p packets events owns = is_of_queues hash most p packets events owns

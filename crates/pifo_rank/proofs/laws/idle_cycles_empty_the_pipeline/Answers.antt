use Rattle.pifo_rank.proofs.Drained.{empty_leaves, empty_step}
use Rattle.pifo_rank.proofs.laws.idle_cycles_empty_the_pipeline.Goals as goal

pub returns-clause-step : goal.returns-clause-step
returns-clause-step g c p row k empty = empty_step (g.H.HashUnits.meaning c.args.hash.now) p row k empty

pub returns-clause-empty : goal.returns-clause-empty
returns-clause-empty g c p row empty = empty_leaves (g.H.HashUnits.meaning c.args.hash.now) p row empty

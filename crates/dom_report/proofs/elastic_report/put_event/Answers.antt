use Rattle.dom_report.proofs.elastic_report.put_event.Goals as goal

pub returns-in-Enter-clause-step : goal.returns-in-Enter-clause-step
returns-in-Enter-clause-step g c = rw c.in-Enter.is (c.enter.ensures.step (g.H.HashUnits.meaning c.args.hash.now))

pub returns-in-Fire-clause-step : goal.returns-in-Fire-clause-step
returns-in-Fire-clause-step g c = rw c.in-Fire.is (c.fire.ensures.step c.args.trace.now c.args.passed.now)

pub returns-in-Leave-clause-step : goal.returns-in-Leave-clause-step
returns-in-Leave-clause-step g c = rw c.in-Leave.is (c.leave.ensures.step (g.H.HashUnits.meaning c.args.hash.now) c.args.trace.now)

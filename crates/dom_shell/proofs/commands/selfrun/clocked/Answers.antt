use Rattle.std.proofs.Common.{ap, length, ◌∙◌}
use Rattle.banzai_config.specs.Parts.{PartsForm}
use Rattle.dom_report.specs.SelfRun.{drawn, summary_over}
use Rattle.dom_shell.proofs.commands.selfrun.clocked.Goals as goal

pub returns : goal.returns
returns g c =
    c.run_drawn.ensures.summary
    ∙ ap (λ (p : PartsForm). summary_over (g.H.HashUnits.meaning c.args.hash.now) p (drawn (length p.fields) c.args.seed c.args.count)) c.in_ok-machine.ensures.config

use Rattle.std.proofs.Common.{arith}
use Rattle.dom_shell.proofs.Probed.{ready}
use Rattle.dom_shell.proofs.commands.probe.put_tapped.Goals as goal

pub put_probe_report-requires : goal.put_probe_report-requires
put_probe_report-requires g c = (omega arith, (ready (g.H.HashUnits.meaning c.args.hash.now) _ _ _ _ _ c.requires.set_up, (c.requires.cycle, c.requires.count)))

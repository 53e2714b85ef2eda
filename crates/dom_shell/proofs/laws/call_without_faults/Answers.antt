use Rattle.dom_shell.proofs.Ended as lemma
use Rattle.dom_shell.proofs.laws.call_without_faults.Goals as goal

pub returns-clause-reads : goal.returns-clause-reads
returns-clause-reads c words files is = lemma.never_unread is.unread

pub returns-clause-writes : goal.returns-clause-writes
returns-clause-writes c = lemma.never_rose

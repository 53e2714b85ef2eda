use Rattle.dom_shell.proofs.Ended as lemma
use Rattle.dom_shell.proofs.call.domino.Goals as goal

pub returns-clause-status : goal.returns-clause-status
returns-clause-status g c = lemma.small c.answered.ensures.end

pub returns-clause-exact : goal.returns-clause-exact
returns-clause-exact g c status bytes is = lemma.exact c.answered.ensures.end status bytes is

pub returns-clause-words : goal.returns-clause-words
returns-clause-words g c none = lemma.only_words c.answered.ensures.end none

pub returns-clause-no_words : goal.returns-clause-no_words
returns-clause-no_words g c is = lemma.no_words c.answered.ensures.end is

pub returns-clause-put : goal.returns-clause-put
returns-clause-put g c few = lemma.put c.answered.ensures.end few

pub returns-clause-read_fault : goal.returns-clause-read_fault
returns-clause-read_fault g c is = lemma.unread c.answered.ensures.end is

pub returns-clause-reads_later : goal.returns-clause-reads_later
returns-clause-reads_later g c name = lemma.reads_later c.answered.ensures.end name

pub returns-clause-reads : goal.returns-clause-reads
returns-clause-reads g c other name = lemma.reads c.answered.ensures.end other name

pub returns-clause-write_fault : goal.returns-clause-write_fault
returns-clause-write_fault g c is = lemma.rose c.answered.ensures.end is

pub returns-clause-part : goal.returns-clause-part
returns-clause-part g c is = lemma.part c.answered.ensures.end is

pub returns-clause-writes_later : goal.returns-clause-writes_later
returns-clause-writes_later g c = lemma.writes_later c.answered.ensures.end

pub returns-clause-writes : goal.returns-clause-writes
returns-clause-writes g c other = lemma.writes c.answered.ensures.end other

pub returns-clause-unput : goal.returns-clause-unput
returns-clause-unput g c either = lemma.unput c.answered.ensures.end either

use Rattle.config_text.proofs.PortWords.{ports_done, ports_first, ports_more, ports_none}
use Rattle.config_text.proofs.line.ports.Goals as goal

pub words-init : goal.words-init
words-init c = ports_first c.new-ports.result c.args.words.now c.new-ports.ensures

pub words-preserved : goal.words-preserved
words-preserved c = ports_more c.args.words.now c.words.word-index c.word-item.result c.as_bytes.result.now c.words.ports c.push.new.self c.in-Some.port c.words-test.true c.word-item.is c.as_bytes.ensures c.in-Some.ensures c.in_ok-push-in-Some.ensures.ok c.words.invariant

pub returns-in-None : goal.returns-in-None
returns-in-None c = ports_none c.args.words.now c.words.word-index c.word-item.result c.as_bytes.result.now c.words.ports c.words-test.true c.word-item.is c.as_bytes.ensures c.in-None.ensures c.words.invariant

pub returns : goal.returns
returns c = ports_done c.args.words.now c.words.word-index c.words.ports c.words-test.false c.words.invariant

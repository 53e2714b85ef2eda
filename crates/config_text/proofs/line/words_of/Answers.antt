use Rattle.std.proofs.Common.{arith}
use Rattle.config_text.proofs.Cursors.{words_done, words_first, words_more}
use Rattle.config_text.proofs.line.words_of.Goals as goal

pub words-init : goal.words-init
words-init c = record { whole = words_first c.args.line.now c.new-words.result c.new-words.ensures; within = omega arith }

pub words-preserved : goal.words-preserved
words-preserved c =
    let within = c.word_size-size.ensures.within in
    record {
      whole = words_more c.args.line.now c.words.at c.word_size-size.result c.words.words c.push.new.self c.in_ok-word.word c.word_bytes.result.now c.words-test.true c.word_size-size.ensures.value c.word_bytes.ensures c.in_ok-word.ensures c.words.invariant.whole c.in_ok-push.ensures.ok;
      within = omega arith;
    }

pub returns : goal.returns
returns c = words_done c.args.line.now c.words.at c.words.words c.words-test.false c.words.invariant.whole

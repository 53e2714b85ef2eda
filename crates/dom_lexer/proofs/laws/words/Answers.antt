use Rattle.dom_lexer.proofs.Words.{alone_is_word, are_words, lexed_alone}
use Rattle.dom_lexer.proofs.laws.words.Goals as goal

pub returns-clause-all : goal.returns-clause-all
returns-clause-all c = are_words

pub returns-clause-alone : goal.returns-clause-alone
returns-clause-alone c = λ word. (lexed_alone word, alone_is_word word)

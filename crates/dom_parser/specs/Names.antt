-- What is known of the names in a program that tokens spell.
use Rattle.std.specs.Prelude.{◌≡◌, ◌≤◌, true, List, length}
use Rattle.std.specs.List.{list_all, sum_by}
use Rattle.dom_words.specs.Spelling.{is_name}
use Rattle.dom_lexer.specs.Words.{words_of}
use Rattle.dom_lexer.specs.declared.token.Token.{Token}
use Rattle.dom_ast.specs.declared.program.Head.{Head}
use Rattle.dom_ast.specs.HeadNames.{declared_names}

-- the fields and globals have names, and these together are no longer than the words of the tokens
pub record AreNamedBy (heads : List Head) (tokens : List Token) : Type 0 where
  pub spelled : list_all is_name (declared_names heads) ≡ true
  pub fit : sum_by length (declared_names heads) ≤ sum_by length (words_of tokens)

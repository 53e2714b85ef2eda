use Rattle.std.proofs.Common.{◌≡◌, IfOk, subst, arith}
use Rattle.std.specs.Option.{option_map}
use Rattle.config_text.specs.Views.{rest_form}
use Rattle.config_text.proofs.TreeWords.{fork_read}
use Rattle.config_text.proofs.trees.+trees.Goals as goal

pub first_tree-returns-else-levels-eq0 : goal.first_tree-returns-else-levels-eq0
first_tree-returns-else-levels-eq0 t c =
    subst (λ r. IfOk c.first_fork.result (λ o. option_map rest_form o ≡ r))
    (fork_read c.args.levels c.args.words.now c.word-item.result c.as_bytes.result.now c.in-Some.start c.in-len1-up.len_at_least c.word-item.is c.as_bytes.ensures c.in-Some.ensures c.in-Fork.is (let f = c.if-levels-eq0.false in omega arith))
    c.first_fork.ensures

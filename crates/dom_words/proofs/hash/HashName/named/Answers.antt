use Rattle.std.proofs.Common.{Some, None, codes}
use Rattle.std.proofs.lemmas.Slice.Eq.{strip_prefix_is}
use Rattle.std.specs.Cmp.{unsigned_Decides}
use Rattle.dom_words.proofs.UnitLemmas.{named_by_ending, not_named_without}
use Rattle.dom_words.proofs.hash.HashName.named.Goals as goal

pub returns-in-Some : goal.returns-in-Some
returns-in-Some c =
    named_by_ending c.args.text.now c.in-Some.ending.now (strip_prefix_is unsigned_Decides c.args.text.now (codes "hash") (Some c.in-Some.ending) c.in-Some.ensures.cases)
    c.unit_with_ending.result c.unit_with_ending.ensures.some c.unit_with_ending.ensures.none

pub returns-in-None : goal.returns-in-None
returns-in-None c = not_named_without c.args.text.now (strip_prefix_is unsigned_Decides c.args.text.now (codes "hash") None c.in-None.ensures.cases)

use Rattle.dom_words.proofs.Reserved.{forbidden_is_reserved, own_is_reserved}
use Rattle.dom_words.proofs.spelling.is_reserved.Goals as goal

pub returns-then-is_among : goal.returns-then-is_among
returns-then-is_among c = own_is_reserved c.args.text.now c.is_among.result c.is_among.ensures c.if-is_among.true

pub returns-else-is_among : goal.returns-else-is_among
returns-else-is_among c =
    forbidden_is_reserved c.args.text.now c.is_among.result c.is_forbidden.result c.is_among.ensures c.if-is_among.false c.is_forbidden.ensures

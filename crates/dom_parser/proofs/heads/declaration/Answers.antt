use Rattle.std.proofs.Common.{sym}
use Rattle.dom_parser.proofs.HeadParts.{no_decl}
use Rattle.dom_parser.proofs.heads.declaration.Goals as goal

pub returns-in-Other-clause-err : goal.returns-in-Other-clause-err
returns-in-Other-clause-err c =
    no_decl c.args.tokens.now c.args.at (sym c.in-Other.ensures.value)

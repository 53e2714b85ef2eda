use Rattle.std.proofs.Common.{◌≡◌, List, Option, Some, None, ◌∙◌, ap, subst}
use Rattle.std.specs.Prelude.{MatchOption}
use Rattle.dom_flat.specs.declared.line.Line.{Line}
use Rattle.codelets.specs.Answer.{line_in}
use Rattle.codelets.specs.Cut.{line_of}
use Rattle.codelets.specs.Flat.{cut_of, linked_of}
use Rattle.codelets.proofs.ByNumber.{line_in_is}
use Rattle.codelets.proofs.answer.Codelets.line.Goals as goal

pub returns-clause-line : goal.returns-clause-line
returns-clause-line c =
    let is : line_in c.args.self.now.table c.args.number ≡ line_of (cut_of c.args.self.now.flat) c.args.number =
    ap (λ (t : List (Option Line)). line_in t c.args.number) c.args.self.now.is_table ∙ line_in_is (linked_of c.args.self.now.flat) c.args.number in
    subst (λ (o : Option Line). MatchOption c.line_at.result (o ≡ None) (λ l. o ≡ Some l.now)) is c.line_at.ensures

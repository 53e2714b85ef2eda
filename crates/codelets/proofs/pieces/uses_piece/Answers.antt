use Rattle.std.proofs.Common.{◌≡◌, ◌∙◌, Bool, true, false, ◌&&◌, not, length, sym, ap}
use Rattle.codelets.specs.ByRows.{cut_by}
use Rattle.codelets.specs.Cut.{line_uses}
use Rattle.codelets.specs.Lists.{meet}
use Rattle.codelets.proofs.UsedNumbers.{used_use}
use Rattle.codelets.proofs.pieces.uses_piece.Goals as goal

pub returns-then-meets : goal.returns-then-meets
returns-then-meets c =
    let D = cut_by c.args.flat.now c.args.graph.now in
    let found : meet c.args.d.now c.args.used.now ≡ true = sym c.meets.ensures ∙ c.if-meets.true in
    ap not c.meets-then-meets.ensures
    ∙ sym (ap (λ (b : Bool). b && not (meet c.args.c.now c.args.d.now)) found)
    ∙ used_use (length c.args.flat.now.fields) (line_uses D) c.args.c.now c.args.d.now c.args.used.now c.requires

pub returns-else-meets : goal.returns-else-meets
returns-else-meets c =
    let D = cut_by c.args.flat.now c.args.graph.now in
    let none : meet c.args.d.now c.args.used.now ≡ false = sym c.meets.ensures ∙ c.if-meets.false in
    c.if-meets.false
    ∙ sym (ap (λ (b : Bool). b && not (meet c.args.c.now c.args.d.now)) none)
    ∙ used_use (length c.args.flat.now.fields) (line_uses D) c.args.c.now c.args.d.now c.args.used.now c.requires

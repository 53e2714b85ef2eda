use Rattle.std.proofs.Common.{◌<◌, true, ◌++◌, ◌∷◌, [], length, sym, subst, slice_set, arith}
use Rattle.dom_ast.specs.declared.part.Place.{Place}
use Rattle.dom_ast.specs.Kept.{mention}
use Rattle.dom_checks.specs.inner.Noted.{AreIndexes, IsPlaceBelow}
use Rattle.dom_checks.proofs.Tables.{indexes_added}
use Rattle.dom_checks.proofs.seen.note_index.Goals as goal

pub returns-in-Field : goal.returns-in-Field
returns-in-Field c = λ ms are.
    let small : c.in-Field.field < 64 = subst (λ (i : Place). IsPlaceBelow 64 i) c.in-Field.is c.requires in
    let within : c.in-Field.field < length c.args.indexes.now = omega arith in
    subst (λ (i : Place). AreIndexes (ms ++ mention c.args.mention.array i ∷ []) (slice_set c.args.indexes.now c.in-Field.field true)) (sym c.in-Field.is)
    (indexes_added ms c.args.mention.array c.in-Field.field c.args.indexes.now within are)

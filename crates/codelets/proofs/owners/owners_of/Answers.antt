use Rattle.std.proofs.Common.{◌≡◌, ◌<◌, ◌∙◌, [], ℕ, length, get_or, subst}
use Rattle.std.proofs.lemmas.List.{get_or_read}
use Rattle.codelets.proofs.Owned.{owners_more}
use Rattle.codelets.proofs.owners.owners_of.Goals as goal

pub loop-k-preserved : goal.loop-k-preserved
loop-k-preserved c =
    let k : ℕ = c.loop-k.k in
    let h : k < length c.args.list.now = subst (λ (n : ℕ). k < n) c.len-k-end.ensures c.loop-k-test.true in
    let piece : c.as_slice.result.now ≡ get_or c.args.list.now k [] = c.as_slice.ensures ∙ get_or_read c.args.list.now k c.get.result.now h c.get.ensures.same [] in
    owners_more c.args.list.now k c.as_slice.result.now c.loop-k.owners c.give.new.owners h c.requires.apart piece c.give.ensures.given c.give.ensures.kept c.loop-k.invariant

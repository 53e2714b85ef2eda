use Rattle.std.proofs.Common.{◌≡◌, ◌-◌, ◌<◌, ℕ, suc, length, drop, ap, ◌∙◌, arith}
use Rattle.trace_text.specs.Lines.{after_commas}
use Rattle.trace_text.proofs.Made.{names-fit}
use Rattle.trace_text.proofs.lines.Line.names.Goals as goal

pub part-requires : goal.part-requires
part-requires c =
    let names = c.args.names.now in
    let k = c.loop-k.k in
    let some = c.loop-k-test.true in
    let within : k - 1 < length names = let most = c.loop-k.auto.k in omega arith in
    let next : suc (k - 1) ≡ k = omega arith in
    let fit = names-fit names (k - 1) c.index-names-k.result within in
    let rest = ap (λ (n : ℕ). length (after_commas (drop n names))) next in
    let size = ap length (c.as_bytes.ensures ∙ c.index-names-k.is) in
    omega (arith, fit, rest, size, c.loop-k.invariant.left, c.requires)

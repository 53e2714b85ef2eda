use Rattle.std.proofs.Common.{◌≡◌, ◌≤◌, ℕ, decimal, length, ap, arith}
use Rattle.std.proofs.lemmas.Fmt.{length-decimal-le}
use Rattle.trace_text.proofs.lines.Line.word.Goals as goal
use Rattle.trace_text.proofs.lines.Line.word.Goals.{then-number-lt0, else-number-lt0}

-- ten digits at most
ten : (number size : ℕ) → size ≤ 2147483648 → number ≡ size → length (decimal number) ≤ 10
ten number size bound same = length-decimal-le 10 number (omega arith) (omega (arith, bound, same)) (omega (arith, bound, same))

pub decimals-requires : goal.decimals-requires
decimals-requires c = omega (arith, ten c.from.result c.unsigned_abs.result c.unsigned_abs.ensures.bound c.from.ensures, c.requires)

pub byte-requires : goal.byte-requires
byte-requires c = omega (arith, ten c.from.result c.unsigned_abs.result c.unsigned_abs.ensures.bound c.from.ensures, c.decimals.ensures.left, c.requires)

pub byte-requires-2 : goal.byte-requires-2
byte-requires-2 c =
    let few = ten c.from.result c.unsigned_abs.result c.unsigned_abs.ensures.bound c.from.ensures in
    elim c.if-number-lt0.branch [
      | then-number-lt0 w ↦ omega (arith, few, c.decimals.ensures.left, w.byte.ensures.left, ap (λ line. line.start) w.self-is, c.requires)
      | else-number-lt0 w ↦ omega (arith, few, c.decimals.ensures.left, ap (λ line. line.start) w.self-is, c.requires)
    ]

pub returns-clause-left : goal.returns-clause-left
returns-clause-left c =
    let few = ten c.from.result c.unsigned_abs.result c.unsigned_abs.ensures.bound c.from.ensures in
    elim c.if-number-lt0.branch [
      | then-number-lt0 w ↦ omega (arith, few, c.decimals.ensures.left, w.byte.ensures.left, ap (λ line. line.start) w.self-is, c.byte-2.ensures.left)
      | else-number-lt0 w ↦ omega (arith, few, c.decimals.ensures.left, ap (λ line. line.start) w.self-is, c.byte-2.ensures.left)
    ]

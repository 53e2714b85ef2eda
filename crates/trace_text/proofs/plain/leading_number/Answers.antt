use Rattle.std.proofs.Common.{◌≤◌, arith}
use Rattle.trace_text.proofs.PlainRows.{leads-with}
use Rattle.trace_text.proofs.plain.leading_number.Goals as goal

pub returns : goal.returns
returns c =
    let digits = c.leading_digits-value in
    let text = c.args.text.now in
    let e = digits.ensures in
    let none = c.if-count-eq0.false in
    let small : digits.result.0 ≤ c.args.most = let within = c.if-value-from.false in let same = c.from.ensures in omega arith in
    rw (c.behind_bytes.ensures) (leads-with c.args.most text digits.result.1 digits.result.0 e.within (omega arith) e.few e.digits e.value small)

use Rattle.std.proofs.Common.{ℕ, List, sym, ap}
use Rattle.trace_text.proofs.Storing.{row-width, seen-at, seen-within}
use Rattle.trace_text.proofs.trace.Trace.gap.Goals as goal

pub row_at-requires-clause-within : goal.row_at-requires-clause-within
row_at-requires-clause-within c =
    let t = c.self.inside in
    seen-within t.width t.columns.items t.count t.cells.items c.args.self.now c.args.k c.self.view_is c.requires

pub bounds-row_at-0 : goal.bounds-row_at-0
bounds-row_at-0 c =
    let t = c.self.inside in
    let within = seen-within t.width t.columns.items t.count t.cells.items c.args.self.now c.args.k c.self.view_is c.requires in
    rw (c.row_at.ensures, c.as_slice.ensures.value, row-width t.width c.args.k t.count t.cells.items within c.self.invariant.1) c.self.invariant.0

pub returns : goal.returns
returns c =
    let t = c.self.inside in
    let seen = seen-at t.width t.columns.items t.count t.cells.items c.args.self.now c.args.k c.self.view_is c.requires in
    rw (c.row_at.ensures, c.as_slice.ensures.value) (sym (ap (λ (p : ℕ × List ℕ). p.0) seen))

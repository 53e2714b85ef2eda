-- A fold over the words of what leaves, cycle by cycle.
use Rattle.std.specs.Prelude.{ℕ, Some, None, fold}
use Rattle.banzai_config.specs.Action.{Entry}
use Rattle.dom_report.specs.SelfRun.{folded}

-- with the words of what leaves in one cycle more
abbrev pub fold_left : ℕ → Entry → ℕ
fold_left so_far None = so_far
fold_left so_far (Some words) = fold folded so_far words

-- What a scope is after a transaction.
use Rattle.std.specs.Prelude.{None}
use Rattle.dom_checks.specs.Scope.{Scope}

-- the parameter is gone
abbrev pub without_param : Scope → Scope
without_param scope = record scope { param = None }

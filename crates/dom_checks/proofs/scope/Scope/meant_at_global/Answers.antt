use Rattle.std.proofs.Common.{◌≡◌, length, sym, Some, None, rules}
use Rattle.dom_checks.specs.Scope.{global_meaning, meant}
use Rattle.dom_checks.proofs.LookUps.{still_meant, newly_meant, never_meant}
use Rattle.dom_checks.proofs.scope.Scope.meant_at_global.Goals as goal

pub returns-in-Some : goal.returns-in-Some
returns-in-Some c =
    let scope = c.args.self.now in
    let paired : length scope.meanings ≡ length scope.names = rw (← c.self.view_is) c.self.invariant.paired in
    let is : meant scope c.args.name.now ≡ Some c.in-Some.meant = cc in
    sym (still_meant scope c.args.own.now (global_meaning (length scope.arrays) c.args.brackets.now) c.args.name.now c.in-Some.meant paired is)

pub returns-in-None : goal.returns-in-None
returns-in-None c =
    let scope = c.args.self.now in
    let paired : length scope.meanings ≡ length scope.names = rw (← c.self.view_is) c.self.invariant.paired in
    let is : meant scope c.args.name.now ≡ None = cc in
    let new = newly_meant scope c.args.own.now (global_meaning (length scope.arrays) c.args.brackets.now) c.args.name.now paired is (search rules) in
    rw new (search rules)

pub returns-in-None-2 : goal.returns-in-None-2
returns-in-None-2 c =
    let scope = c.args.self.now in
    let paired : length scope.meanings ≡ length scope.names = rw (← c.self.view_is) c.self.invariant.paired in
    let is : meant scope c.args.name.now ≡ None = cc in
    sym (never_meant scope c.args.own.now (global_meaning (length scope.arrays) c.args.brackets.now) c.args.name.now paired is (search rules))

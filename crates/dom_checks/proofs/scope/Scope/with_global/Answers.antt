use Rattle.std.proofs.Common.{rules, ◌≡◌, ◌+◌, ◌<◌, ◌≤◌, ◌∷◌, ◌++◌, [], length, subst, sym}
use Rattle.dom_words.specs.State.{state_words}
use Rattle.dom_checks.specs.Scope.{Scope, global_meaning}
use Rattle.dom_checks.proofs.Declares.{kept_as}
use Rattle.dom_checks.proofs.scope.Scope.with_global.Goals as goal

pub invariant_of-result : goal.invariant_of-result
invariant_of-result c =
    let names : c.add.new.self ≡ c.self.inside.names ++ c.in_ok-name.name ∷ [] = search rules in
    let meanings : c.push.new.self.items ≡ c.self.inside.meanings.items ++ c.next_global-meant.result ∷ [] = search rules in
    let arrays : c.push-2.new.self ≡ c.self.inside.arrays ++ c.args.array ∷ [] = search rules in
    let meant : c.next_global-meant.result ≡ global_meaning (length c.self.inside.arrays) c.args.brackets.now = search rules in
    let room : length c.self.inside.arrays < 32 = subst (λ (s : Scope). length s.arrays < 32) (sym c.self.view_is) c.requires.room in
    let few : state_words c.self.inside.arrays + c.args.array.length ≤ 1048576 = subst (λ (s : Scope). state_words s.arrays + c.args.array.length ≤ 1048576) (sym c.self.view_is) c.requires.words in
    kept_as c.self.inside.fields c.self.inside.names c.add.new.self c.self.inside.meanings.items c.push.new.self.items c.self.inside.arrays c.push-2.new.self c.in_ok-name.name c.self.inside.words c.args.brackets.now c.next_global-meant.result c.args.array
    names meanings arrays meant c.self.invariant room c.requires.size few
